-- The session that is left of the earliest phase tells the current one.
use Rattle.std.proofs.Common.{◌≡◌, ℕ, suc, ◌-◌, ◌≤◌, true, List, length, Some, None, refl, sym, ap, subst, ◌∙◌, arith}
use Rattle.std.specs.Prelude.{nat_le, slice_index_or}
use Rattle.std.proofs.lemmas.Bool.Decides.{nat_tests}
use Rattle.std.proofs.lemmas.List.{length-map}
use Rattle.std.specs.Arc.{arc_value}
use Rattle.bf_tree.specs.declared.script.Script.{Script}
use Rattle.bf_tree.specs.declared.script.Session.{Session}
use Rattle.bf_sql.specs.Groups.{no_session}
use Rattle.bf_machine.specs.interleaving.Calls.{IsPlace}
use Rattle.bf_machine.specs.interleaving.Kept.{IsCurrent, phase_of}
use Rattle.bf_machine.specs.interleaving.Machines.{Machine}
use Rattle.bf_machine.specs.interleaving.Seen.{open_seen, seen}
use Rattle.bf_machine.proofs.interleaving.Places.{from_one}
use Rattle.bf_machine.proofs.keeping.LeastLeft.{current_by_phase, phase_if_current}
use Rattle.bf_machine.proofs.machine.Machine.is_current.Goals as goal

pub is_no_later-requires-clause-place : goal.is_no_later-requires-clause-place
is_no_later-requires-clause-place g c =
    let i = c.self.inside in
    let place : IsPlace (arc_value i.script) c.args.session = subst (λ (m : Machine). IsPlace m.script c.args.session) (sym c.self.view_is) c.requires in
    let size = ap (λ (xs : List Session). length xs) (c.as_slice-sessions.ensures ∙ ap (λ (script : Script). script.sessions) c.deref.ensures) in
    omega (arith, place.0, place.1, size)

pub is_no_later-requires-clause-other : goal.is_no_later-requires-clause-other
is_no_later-requires-clause-other g c =
    let i = c.self.inside in
    let size = ap (λ (xs : List Session). length xs) (c.as_slice-sessions.ensures ∙ ap (λ (script : Script). script.sessions) c.deref.ensures) in
    let there = c.self.invariant.1.left c.in-Some.least c.in-Some.is in
    omega (arith, there.0, size, c.self.invariant.0.kept.shaped.opens, length-map i.sessions.items open_seen)

pub returns-in-Some : goal.returns-in-Some
returns-in-Some g c =
    let i = c.self.inside in
    let s = c.args.session in
    let m : Machine = seen g.N.Opened.logged (arc_value i.script) i.retries i.store i.locks i.began.items i.sessions.items i.history.items in
    let place : IsPlace (arc_value i.script) s = subst (λ (m : Machine). IsPlace m.script s) (sym c.self.view_is) c.requires in
    let kept = c.self.invariant.0.kept in
    let xs = c.as_slice-sessions.result.now in
    let least = c.in-Some.least in
    let mine : (slice_index_or xs (s - 1) no_session).phase ≡ phase_of (arc_value i.script) s =
    ap (λ (xs : List Session). (slice_index_or xs (s - 1) no_session).phase) (c.as_slice-sessions.ensures ∙ ap (λ (script : Script). script.sessions) c.deref.ensures) ∙ ap (λ (x : Session). x.phase) (from_one no_session no_session (arc_value i.script).sessions s place.0) in
    let theirs : (slice_index_or xs least no_session).phase ≡ phase_of (arc_value i.script) (suc least) =
    ap (λ (xs : List Session). (slice_index_or xs least no_session).phase) (c.as_slice-sessions.ensures ∙ ap (λ (script : Script). script.sessions) c.deref.ensures) in
    let found : (p : ℕ) → i.least_left ≡ Some p → least ≡ p = λ p is.
    let same : Some least ≡ Some p = sym c.in-Some.is ∙ is in
    cc in (
      λ holds.
          let low : (slice_index_or xs (s - 1) no_session).phase ≤ (slice_index_or xs least no_session).phase = grind (arith, nat_tests, sym c.is_no_later.ensures ∙ holds) in
          let below : phase_of (arc_value i.script) s ≤ phase_of (arc_value i.script) (suc least) = omega (arith, low, mine, theirs) in
          subst (λ (m : Machine). IsCurrent m s) c.self.view_is
          (current_by_phase g.N.Opened.logged (arc_value i.script) i.retries i.store i.locks i.began.items i.sessions.items i.history.items kept i.least_left c.self.invariant.1 s
          (λ p is. subst (λ (p : ℕ). phase_of (arc_value i.script) s ≤ phase_of (arc_value i.script) (suc p)) (found p is) below)),
      λ is.
          let low =
          phase_if_current g.N.Opened.logged (arc_value i.script) i.retries i.store i.locks i.began.items i.sessions.items i.history.items kept i.least_left c.self.invariant.1 s
          (subst (λ (m : Machine). IsCurrent m s) (sym c.self.view_is) is) least c.in-Some.is in
          let below : (slice_index_or xs (s - 1) no_session).phase ≤ (slice_index_or xs least no_session).phase = omega (arith, low, mine, theirs) in
          let holds : nat_le (slice_index_or xs (s - 1) no_session).phase (slice_index_or xs least no_session).phase ≡ true = grind (arith, nat_tests, below) in
          c.is_no_later.ensures ∙ holds,
    )

pub returns-in-None : goal.returns-in-None
returns-in-None g c =
    let i = c.self.inside in
    let s = c.args.session in (
      λ holds.
          subst (λ (m : Machine). IsCurrent m s) c.self.view_is
          (current_by_phase g.N.Opened.logged (arc_value i.script) i.retries i.store i.locks i.began.items i.sessions.items i.history.items c.self.invariant.0.kept i.least_left c.self.invariant.1 s
          (λ p is.
          let clash : None ≡ Some p = sym c.in-None.is ∙ is in
          absurd cc)),
      λ is. refl,
    )
