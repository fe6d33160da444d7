-- A graph of waits rises along each edge, so it has no cycle.
use Rattle.std.proofs.Common.{ℕ, ◌<◌, List, [], ◌∷◌, Contains, subst, arith}
use Rattle.bf_locks.specs.Waits.{Graph, WaitsFor, IsMadeByAnswers, Leads, HasCycle}

waits_rise : (waiting named : ℕ) → WaitsFor waiting named → waiting < named
waits_rise waiting named wait = wait.answer.younger named wait.among

edge_rises : (graph : Graph) (from to : ℕ) → IsMadeByAnswers graph → Contains graph (from, to) → from < to
edge_rises graph from to made edge =
    waits_rise from to (subst (λ (e : ℕ × ℕ). WaitsFor e.0 e.1) edge.2 (made edge.0 (from, to) edge.1))

walk_rises : (graph : Graph) (from : ℕ) (between : List ℕ) (to : ℕ) → IsMadeByAnswers graph → Leads graph from between to → from < to
walk_rises graph from [] to made edge = edge_rises graph from to made edge
walk_rises graph from (next ∷ rest) to made walk =
    let first : from < next = edge_rises graph from next made walk.0 in
    let others : next < to = walk_rises graph next rest to made walk.1 in
    omega arith

pub no_cycle : (graph : Graph) → IsMadeByAnswers graph → ¬ HasCycle graph
no_cycle graph made cycle =
    let around : cycle.0 < cycle.0 = walk_rises graph cycle.0 cycle.1 cycle.0 made cycle.2 in
    absurd (omega arith)
