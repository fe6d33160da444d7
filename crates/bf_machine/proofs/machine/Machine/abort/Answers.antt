-- What is left of the block has its reply, and its entry comes last.
use Rattle.std.proofs.Common.{◌-◌, ◌≤◌, List, length, sym, ap, subst, ◌∙◌, arith}
use Rattle.std.specs.Prelude.{slice_set}
use Rattle.std.proofs.lemmas.List.{length-map, length-set}
use Rattle.std.specs.Arc.{arc_value}
use Rattle.bf_tree.specs.declared.script.Script.{Script}
use Rattle.bf_tree.specs.declared.script.Session.{Session}
use Rattle.bf_machine.specs.declared.so_far.SessionSoFar.{SessionSoFar}
use Rattle.bf_machine.specs.interleaving.Calls.{CanAbort, IsPlace}
use Rattle.bf_machine.specs.interleaving.Events.{Aborts}
use Rattle.bf_machine.specs.interleaving.Machines.{Machine}
use Rattle.bf_machine.specs.interleaving.Seen.{open_seen, seen}
use Rattle.bf_machine.proofs.keeping.Ending.{abort_seen, abort_sound, room_for_reply}
use Rattle.bf_machine.proofs.keeping.LeastLeft.{goes_on_at, least_behind, open_goes_on}
use Rattle.bf_machine.proofs.machine.Machine.abort.Goals as goal

pub close-requires : goal.close-requires
close-requires g c =
    let i = c.self.inside in
    let s = c.args.session in
    let x : SessionSoFar = c.index_mut-so_far.result.now in
    let place : IsPlace (arc_value i.script) s = subst (λ (m : Machine). IsPlace m.script s) (sym c.self.view_is) c.requires.place in
    let high : s ≤ length i.sessions.items = omega (arith, place.1, c.self.invariant.0.kept.shaped.opens, length-map i.sessions.items open_seen) in
    room_for_reply g.N.Opened.logged (arc_value i.script) i.retries i.store i.locks i.began.items i.sessions.items i.history i.commits i.transcripts c.self.invariant.0
    s place.0 high x (sym c.index_mut-so_far.ensures.value) c.in-Some.group c.in-Some.is

pub least_left_behind-self-inside-requires-clause-each : goal.least_left_behind-self-inside-requires-clause-each
least_left_behind-self-inside-requires-clause-each g c =
    let i = c.self.inside in
    let script = ap (λ (xs : List Session). length xs) (c.as_slice.ensures ∙ ap (λ (script : Script). script.sessions) c.deref.ensures) in
    let sessions = ap (λ (ys : List SessionSoFar). length ys) c.deref-2.ensures.value in
    omega (arith, script, sessions, c.self.invariant.0.kept.shaped.opens, length-map i.sessions.items open_seen, length-set i.sessions.items (c.args.session - 1) c.close.new.so_far)

pub least_left_behind-self-inside-requires-clause-place : goal.least_left_behind-self-inside-requires-clause-place
least_left_behind-self-inside-requires-clause-place g c =
    let i = c.self.inside in
    let place : IsPlace (arc_value i.script) c.args.session = subst (λ (m : Machine). IsPlace m.script c.args.session) (sym c.self.view_is) c.requires.place in
    let sessions = ap (λ (ys : List SessionSoFar). length ys) c.deref-2.ensures.value in
    omega (arith, place.0, place.1, sessions, c.self.invariant.0.kept.shaped.opens, length-map i.sessions.items open_seen, length-set i.sessions.items (c.args.session - 1) c.close.new.so_far)

pub invariant_of-self : goal.invariant_of-self
invariant_of-self g c =
    let i = c.self.inside in
    let s = c.args.session in
    let x : SessionSoFar = c.index_mut-so_far.result.now in
    let place : IsPlace (arc_value i.script) s = subst (λ (m : Machine). IsPlace m.script s) (sym c.self.view_is) c.requires.place in
    let high : s ≤ length i.sessions.items = omega (arith, place.1, c.self.invariant.0.kept.shaped.opens, length-map i.sessions.items open_seen) in
    let m : Machine = seen g.N.Opened.logged (arc_value i.script) i.retries i.store i.locks i.began.items i.sessions.items i.history.items in
    let can : CanAbort m s = subst (λ (m : Machine). CanAbort m s) (sym c.self.view_is) c.requires.can in
    let ends = c.close.ensures in
    let pushed = c.push_reserved in
    let goes_on = goes_on_at g.N.Opened.logged (arc_value i.script) i.retries i.store i.locks i.began.items i.sessions.items i.history.items s place.0 (open_goes_on m s can.1.o can.1.is) in
    let least =
    least_behind (arc_value i.script).sessions i.sessions.items (s - 1) c.close.new.so_far i.least_left c.self.invariant.1 goes_on
    (c.as_slice.ensures ∙ ap (λ (script : Script). script.sessions) c.deref.ensures) c.deref-2.ensures.value c.least_left_behind-self-inside.result c.least_left_behind-self-inside.ensures in (
      abort_sound g.N.Opened.logged (arc_value i.script) i.retries i.store i.locks i.began.items i.sessions.items i.history i.commits i.transcripts c.self.invariant.0
          s place.0 high x (sym c.index_mut-so_far.ensures.value) c.in-Some.group c.in-Some.is can.0 can.1
          c.close.new.so_far ends.closed ends.latest ends.capacity ends.replies
          c.free_all.new.self c.free_all.ensures.freed pushed.new.self pushed.ensures.items pushed.ensures.capacity,
      least,
    )

pub returns : goal.returns
returns g c =
    let i = c.self.inside in
    let s = c.args.session in
    let x : SessionSoFar = c.index_mut-so_far.result.now in
    let place : IsPlace (arc_value i.script) s = subst (λ (m : Machine). IsPlace m.script s) (sym c.self.view_is) c.requires.place in
    let high : s ≤ length i.sessions.items = omega (arith, place.1, c.self.invariant.0.kept.shaped.opens, length-map i.sessions.items open_seen) in
    let m : Machine = seen g.N.Opened.logged (arc_value i.script) i.retries i.store i.locks i.began.items i.sessions.items i.history.items in
    let can : CanAbort m s = subst (λ (m : Machine). CanAbort m s) (sym c.self.view_is) c.requires.can in
    let ends = c.close.ensures in
    let pushed = c.push_reserved in
    let next : Machine = seen g.N.Opened.logged (arc_value i.script) i.retries i.store c.free_all.new.self i.began.items (slice_set i.sessions.items (s - 1) c.close.new.so_far) pushed.new.self.items in
    subst (λ (m : Machine). Aborts m s next) c.self.view_is
    (abort_seen g.N.Opened.logged (arc_value i.script) i.retries i.store i.locks i.began.items i.sessions.items i.history i.commits i.transcripts c.self.invariant.0
    s place.0 high x (sym c.index_mut-so_far.ensures.value) c.in-Some.group c.in-Some.is can.0 can.1
    c.close.new.so_far ends.closed ends.latest ends.capacity ends.replies
    c.free_all.new.self c.free_all.ensures.freed pushed.new.self pushed.ensures.items pushed.ensures.capacity)
