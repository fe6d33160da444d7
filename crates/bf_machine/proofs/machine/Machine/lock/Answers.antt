-- A grant and a wait change the locks alone; a death ends the attempt.
use Rattle.std.proofs.Common.{◌≡◌, ℕ, ◌+◌, ◌-◌, if◌then◌else◌, List, length, sym, ap, subst, ◌∙◌, arith, rules}
use Rattle.std.specs.Prelude.{nat_lt}
use Rattle.std.proofs.lemmas.List.{length-map, length-set}
use Rattle.std.specs.Arc.{arc_value}
use Rattle.bf_tree.specs.declared.script.Script.{Script}
use Rattle.bf_tree.specs.declared.script.Session.{Session}
use Rattle.bf_machine.specs.declared.so_far.SessionSoFar.{SessionSoFar}
use Rattle.bf_machine.specs.interleaving.Calls.{CanAsk, IsPlace}
use Rattle.bf_machine.specs.interleaving.Machines.{Machine}
use Rattle.bf_machine.specs.interleaving.Seen.{open_seen, seen}
use Rattle.bf_machine.proofs.keeping.Dying.{bounds, died_asks, died_sound, lives_asks, lives_sound, room_for_all, start_within, unchanged, unchanged_sound}
use Rattle.bf_machine.proofs.keeping.LeastLeft.{goes_on_at, least_behind, open_goes_on}
use Rattle.bf_machine.proofs.machine.Machine.lock.Goals as goal

pub index_mut-requires : goal.index_mut-requires
index_mut-requires g c =
    let within =
    start_within c.self.inside c.self.invariant.0 c.args.self.now c.self.view_is c.args.session c.requires.place c.index.result.now
    (sym c.index.ensures) c.in-Some.group c.in-Some.is in
    omega (arith, within.0, within.1, c.self.inside.began.ok.0)

pub told_count-told-requires-clause-first : goal.told_count-told-requires-clause-first
told_count-told-requires-clause-first g c =
    (bounds c.self.inside c.self.invariant.0 c.args.self.now c.self.view_is c.args.session c.requires.place c.index.result.now
    (sym c.index.ensures) c.in-Some.group c.in-Some.is).0

pub told_count-told-requires-clause-last : goal.told_count-told-requires-clause-last
told_count-told-requires-clause-last g c =
    (bounds c.self.inside c.self.invariant.0 c.args.self.now c.self.view_is c.args.session c.requires.place c.index.result.now
    (sym c.index.ensures) c.in-Some.group c.in-Some.is).1

pub close_by-requires-clause-first : goal.close_by-requires-clause-first
close_by-requires-clause-first g c =
    (bounds c.self.inside c.self.invariant.0 c.args.self.now c.self.view_is c.args.session c.requires.place c.index.result.now
    (sym c.index.ensures) c.in-Some.group c.in-Some.is).0

pub close_by-requires-clause-room : goal.close_by-requires-clause-room
close_by-requires-clause-room g c =
    room_for_all c.self.inside c.self.invariant.0 c.args.self.now c.self.view_is c.args.session c.requires.place c.index.result.now
    (sym c.index.ensures) c.in-Some.group c.in-Some.is
    c.index_mut-2.result.now (sym c.index_mut-2.ensures.value) c.len.result c.told_count-told.result c.told_count-told.ensures

pub invariant_of-self-in_default-answer : goal.invariant_of-self-in_default-answer
invariant_of-self-in_default-answer g c = (
  lives_sound c.self.inside c.self.invariant.0 c.args.self.now c.self.view_is c.args.session c.requires.place c.index.result.now
      (sym c.index.ensures) c.in-Some.group c.in-Some.is
      c.args.name.now c.args.mode c.requires.can c.in_ok-answer.answer c.in_ok-answer.ensures.judged c.ask.new.self c.in_ok-answer.ensures.after
      c.in_default-answer.not-Die,
  c.self.invariant.1,
)

pub returns-in_default-answer : goal.returns-in_default-answer
returns-in_default-answer g c =
    let asks =
    lives_asks c.self.inside c.self.invariant.0 c.args.self.now c.self.view_is c.args.session c.requires.place c.index.result.now
    (sym c.index.ensures) c.in-Some.group c.in-Some.is
    c.args.name.now c.args.mode c.requires.can c.in_ok-answer.answer c.in_ok-answer.ensures.judged c.ask.new.self c.in_ok-answer.ensures.after
    c.in_default-answer.not-Die in
    record { asks = asks; err = tt }

pub invariant_of-self-in_err-push : goal.invariant_of-self-in_err-push
invariant_of-self-in_err-push g c = (
  unchanged_sound c.self.inside c.self.invariant.0 c.args.self.now c.self.view_is c.args.session c.requires.place c.index.result.now
      (sym c.index.ensures) c.in-Some.group c.in-Some.is
      c.args.name.now c.args.mode c.requires.can c.in_ok-answer.answer c.in_ok-answer.ensures.judged c.ask.new.self c.in_ok-answer.ensures.after
      c.in-Die.older c.in-Die.is c.index_mut.result.now (sym c.index_mut.ensures.value) c.push.new.self c.in_err-push.ensures.items,
  c.self.invariant.1,
)

pub returns-in_err-push-clause-err : goal.returns-in_err-push-clause-err
returns-in_err-push-clause-err g c =
    let same =
    unchanged c.self.inside c.self.invariant.0 c.args.self.now c.self.view_is c.args.session c.requires.place c.index.result.now
    (sym c.index.ensures) c.in-Some.group c.in-Some.is
    c.args.name.now c.args.mode c.requires.can c.in_ok-answer.answer c.in_ok-answer.ensures.judged c.ask.new.self c.in_ok-answer.ensures.after
    c.in-Die.older c.in-Die.is c.index_mut.result.now (sym c.index_mut.ensures.value) c.push.new.self c.in_err-push.ensures.items in
    search (rules, same)

pub least_left_behind-self-inside-requires-clause-each : goal.least_left_behind-self-inside-requires-clause-each
least_left_behind-self-inside-requires-clause-each g c =
    let i = c.self.inside in
    let script = ap (λ (xs : List Session). length xs) (c.as_slice.ensures ∙ ap (λ (script : Script). script.sessions) c.deref.ensures) in
    let sessions = ap (λ (ys : List SessionSoFar). length ys) c.deref-2.ensures.value in
    omega (arith, script, sessions, c.self.invariant.0.kept.shaped.opens, length-map i.sessions.items open_seen, length-set i.sessions.items (c.args.session - 1) c.close_by.new.so_far)

pub least_left_behind-self-inside-requires-clause-place : goal.least_left_behind-self-inside-requires-clause-place
least_left_behind-self-inside-requires-clause-place g c =
    let i = c.self.inside in
    let place : IsPlace (arc_value i.script) c.args.session = subst (λ (m : Machine). IsPlace m.script c.args.session) (sym c.self.view_is) c.requires.place in
    let sessions = ap (λ (ys : List SessionSoFar). length ys) c.deref-2.ensures.value in
    omega (arith, place.0, place.1, sessions, c.self.invariant.0.kept.shaped.opens, length-map i.sessions.items open_seen, length-set i.sessions.items (c.args.session - 1) c.close_by.new.so_far)

pub invariant_of-self-2 : goal.invariant_of-self-2
invariant_of-self-2 g c =
    let size : c.len.result ≡ length c.push.new.self.items = omega (arith, c.len.ensures, c.push.new.self.ok.0) in
    let group = c.in-Some.group in
    let counted = c.told_count-told.ensures ∙ ap (λ (n : ℕ). if nat_lt c.self.inside.retries n then group.last + 1 - group.first else 0) size in
    let by = c.close_by.ensures in
    let i = c.self.inside in
    let s = c.args.session in
    let m : Machine = seen g.N.Opened.logged (arc_value i.script) i.retries i.store i.locks i.began.items i.sessions.items i.history.items in
    let place : IsPlace (arc_value i.script) s = subst (λ (m : Machine). IsPlace m.script s) (sym c.self.view_is) c.requires.place in
    let can : CanAsk m s g.N.Opened.opening c.args.name.now c.args.mode =
    subst (λ (m : Machine). CanAsk m s g.N.Opened.opening c.args.name.now c.args.mode) (sym c.self.view_is) c.requires.can in
    let goes_on = goes_on_at g.N.Opened.logged (arc_value i.script) i.retries i.store i.locks i.began.items i.sessions.items i.history.items s place.0 (open_goes_on m s can.o can.is) in
    let least =
    least_behind (arc_value i.script).sessions i.sessions.items (s - 1) c.close_by.new.so_far i.least_left c.self.invariant.1 goes_on
    (c.as_slice.ensures ∙ ap (λ (script : Script). script.sessions) c.deref.ensures) c.deref-2.ensures.value c.least_left_behind-self-inside.result c.least_left_behind-self-inside.ensures in (
      died_sound c.self.inside c.self.invariant.0 c.args.self.now c.self.view_is c.args.session c.requires.place c.index.result.now
          (sym c.index.ensures) c.in-Some.group c.in-Some.is
          c.args.name.now c.args.mode c.requires.can c.in_ok-answer.answer c.in_ok-answer.ensures.judged c.ask.new.self c.in_ok-answer.ensures.after
          c.in-Die.older c.in-Die.is c.index_mut.result.now
          (sym c.index_mut.ensures.value) c.push.new.self c.in_ok-push.ensures.items c.free_all.new.self c.free_all.ensures.freed
          c.told_count-told.result counted
          c.index_mut-2.result.now c.close_by.new.so_far (sym c.index_mut-2.ensures.value) by.closed by.latest by.capacity by.replies,
      least,
    )

pub returns-clause-asks : goal.returns-clause-asks
returns-clause-asks g c =
    let size : c.len.result ≡ length c.push.new.self.items = omega (arith, c.len.ensures, c.push.new.self.ok.0) in
    let group = c.in-Some.group in
    let counted = c.told_count-told.ensures ∙ ap (λ (n : ℕ). if nat_lt c.self.inside.retries n then group.last + 1 - group.first else 0) size in
    let by = c.close_by.ensures in
    died_asks c.self.inside c.self.invariant.0 c.args.self.now c.self.view_is c.args.session c.requires.place c.index.result.now
    (sym c.index.ensures) c.in-Some.group c.in-Some.is
    c.args.name.now c.args.mode c.requires.can c.in_ok-answer.answer c.in_ok-answer.ensures.judged c.ask.new.self c.in_ok-answer.ensures.after
    c.in-Die.older c.in-Die.is c.index_mut.result.now
    (sym c.index_mut.ensures.value) c.push.new.self c.in_ok-push.ensures.items c.free_all.new.self c.free_all.ensures.freed
    c.told_count-told.result counted
    c.index_mut-2.result.now c.close_by.new.so_far (sym c.index_mut-2.ensures.value) by.closed by.latest by.capacity by.replies
