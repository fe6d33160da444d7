-- Each statement of the group is told the cause.
use Rattle.std.proofs.Common.{◌-◌, List, length, sym, ap, subst, ◌∙◌, arith}
use Rattle.std.proofs.lemmas.List.{length-map, length-set}
use Rattle.std.specs.Arc.{arc_value}
use Rattle.bf_tree.specs.declared.script.Script.{Script}
use Rattle.bf_tree.specs.declared.script.Session.{Session}
use Rattle.bf_machine.specs.declared.so_far.SessionSoFar.{SessionSoFar}
use Rattle.bf_machine.specs.interleaving.Calls.{CanFail, IsPlace}
use Rattle.bf_machine.specs.interleaving.Machines.{Machine}
use Rattle.bf_machine.specs.interleaving.Seen.{open_seen, seen}
use Rattle.bf_machine.proofs.keeping.Closing.{bounds, last_fits}
use Rattle.bf_machine.proofs.keeping.Failing.{fail_sound, fails, room_to_fail}
use Rattle.bf_machine.proofs.keeping.LeastLeft.{goes_on_at, least_behind, open_goes_on}
use Rattle.bf_machine.proofs.machine.Machine.fail.Goals as goal

pub overflow_sub-last : goal.overflow_sub-last
overflow_sub-last g c =
    (bounds c.self.inside c.self.invariant.0 c.args.self.now c.self.view_is c.args.session c.requires.place c.index_mut-so_far.result.now
    (sym c.index_mut-so_far.ensures.value) c.in-Some.group c.in-Some.is).1

pub overflow_add-last : goal.overflow_add-last
overflow_add-last g c =
    let own =
    bounds c.self.inside c.self.invariant.0 c.args.self.now c.self.view_is c.args.session c.requires.place c.index_mut-so_far.result.now
    (sym c.index_mut-so_far.ensures.value) c.in-Some.group c.in-Some.is in
    let fits =
    last_fits c.self.inside c.self.invariant.0 c.args.self.now c.self.view_is c.args.session c.requires.place c.index_mut-so_far.result.now
    (sym c.index_mut-so_far.ensures.value) c.in-Some.group c.in-Some.is in
    omega (arith, own.0, own.1, fits)

pub close_by-requires-clause-first : goal.close_by-requires-clause-first
close_by-requires-clause-first g c =
    (bounds c.self.inside c.self.invariant.0 c.args.self.now c.self.view_is c.args.session c.requires.place c.index_mut-so_far.result.now
    (sym c.index_mut-so_far.ensures.value) c.in-Some.group c.in-Some.is).0

pub close_by-requires-clause-room : goal.close_by-requires-clause-room
close_by-requires-clause-room g c =
    room_to_fail c.self.inside c.self.invariant.0 c.args.self.now c.self.view_is c.args.session c.requires.place c.index_mut-so_far.result.now
    (sym c.index_mut-so_far.ensures.value) c.in-Some.group c.in-Some.is

pub least_left_behind-self-inside-requires-clause-each : goal.least_left_behind-self-inside-requires-clause-each
least_left_behind-self-inside-requires-clause-each g c =
    let i = c.self.inside in
    let script = ap (λ (xs : List Session). length xs) (c.as_slice.ensures ∙ ap (λ (script : Script). script.sessions) c.deref.ensures) in
    let sessions = ap (λ (ys : List SessionSoFar). length ys) c.deref-2.ensures.value in
    omega (arith, script, sessions, c.self.invariant.0.kept.shaped.opens, length-map i.sessions.items open_seen, length-set i.sessions.items (c.args.session - 1) c.close_by.new.so_far)

pub least_left_behind-self-inside-requires-clause-place : goal.least_left_behind-self-inside-requires-clause-place
least_left_behind-self-inside-requires-clause-place g c =
    let i = c.self.inside in
    let place : IsPlace (arc_value i.script) c.args.session = subst (λ (m : Machine). IsPlace m.script c.args.session) (sym c.self.view_is) c.requires.place in
    let sessions = ap (λ (ys : List SessionSoFar). length ys) c.deref-2.ensures.value in
    omega (arith, place.0, place.1, sessions, c.self.invariant.0.kept.shaped.opens, length-map i.sessions.items open_seen, length-set i.sessions.items (c.args.session - 1) c.close_by.new.so_far)

pub invariant_of-self : goal.invariant_of-self
invariant_of-self g c =
    let i = c.self.inside in
    let s = c.args.session in
    let m : Machine = seen g.N.Opened.logged (arc_value i.script) i.retries i.store i.locks i.began.items i.sessions.items i.history.items in
    let place : IsPlace (arc_value i.script) s = subst (λ (m : Machine). IsPlace m.script s) (sym c.self.view_is) c.requires.place in
    let can : CanFail m s = subst (λ (m : Machine). CanFail m s) (sym c.self.view_is) c.requires.«open» in
    let ends = c.close_by.ensures in
    let goes_on = goes_on_at g.N.Opened.logged (arc_value i.script) i.retries i.store i.locks i.began.items i.sessions.items i.history.items s place.0 (open_goes_on m s can.o can.is) in
    let least =
    least_behind (arc_value i.script).sessions i.sessions.items (s - 1) c.close_by.new.so_far i.least_left c.self.invariant.1 goes_on
    (c.as_slice.ensures ∙ ap (λ (script : Script). script.sessions) c.deref.ensures) c.deref-2.ensures.value c.least_left_behind-self-inside.result c.least_left_behind-self-inside.ensures in (
      fail_sound c.self.inside c.self.invariant.0 c.args.self.now c.self.view_is c.args.session c.requires.place c.index_mut-so_far.result.now
          (sym c.index_mut-so_far.ensures.value) c.in-Some.group c.in-Some.is c.requires.«open» c.args.cause c.requires.logged c.requires.of_log
          c.free_all.new.self c.free_all.ensures.freed c.close_by.new.so_far ends.closed ends.replies ends.latest ends.capacity,
      least,
    )

pub returns : goal.returns
returns g c =
    let ends = c.close_by.ensures in
    fails c.self.inside c.self.invariant.0 c.args.self.now c.self.view_is c.args.session c.requires.place c.index_mut-so_far.result.now
    (sym c.index_mut-so_far.ensures.value) c.in-Some.group c.in-Some.is c.requires.«open» c.args.cause c.requires.logged c.requires.of_log
    c.free_all.new.self c.free_all.ensures.freed c.close_by.new.so_far ends.closed ends.replies
