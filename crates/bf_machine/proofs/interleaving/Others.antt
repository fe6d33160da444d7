-- An open group of one session, where an event is of another session.
use Rattle.std.proofs.Common.{◌≡◌, ◌≢◌, ℕ, zero, suc, ◌≤◌, List, length, Some, sym, ap, ◌∙◌, arith}
use Rattle.std.proofs.lemmas.Option.{same_Some}
use Rattle.bf_machine.specs.interleaving.Machines.{Group, Began, Open, Machine, open_at, began_at}
use Rattle.bf_machine.specs.interleaving.Kept.{HasStart}
use Rattle.bf_machine.proofs.interleaving.Places.{some_within}

-- a session with an open group has a place
pub has_place : (m : Machine) (s : ℕ) (o : Open) → open_at m s ≡ Some o → (1 ≤ s) × (s ≤ length m.opens)
has_place m zero o is = absurd cc
has_place m (suc s) o is = (omega arith, omega (arith, some_within m.opens s o is))

-- groups of different sessions have different start numbers
pub starts_differ : (began : List Began) (s t : ℕ) (one other : Group) (i j : ℕ) → t ≢ s → HasStart began t other j → HasStart began s one i → j ≢ i
starts_differ began s t one other i j apart has_j has_i same =
    let theirs : Began = record { session = t; group = other; deaths = has_j.deaths } in
    let mine : Began = record { session = s; group = one; deaths = has_i.deaths } in
    let e : theirs ≡ mine = same_Some theirs mine (sym has_j.is ∙ (ap (began_at began) same ∙ has_i.is)) in
    apart (ap (λ (b : Began). b.session) e)
