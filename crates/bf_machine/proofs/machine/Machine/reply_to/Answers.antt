-- The next statement has its reply, and what is pending is seen as before where it has none.
use Rattle.std.proofs.Common.{◌≡◌, ◌-◌, ◌≤◌, List, length, subst, sym, ap, ◌∙◌, arith}
use Rattle.std.specs.Prelude.{slice_set}
use Rattle.std.proofs.lemmas.List.{length-map, length-set}
use Rattle.std.specs.Arc.{arc_value}
use Rattle.bf_tree.specs.declared.script.Script.{Script}
use Rattle.bf_tree.specs.declared.script.Session.{Session}
use Rattle.bf_sql.specs.migrations.Need.{needed_for}
use Rattle.bf_store.specs.States.{HaveMoved}
use Rattle.bf_machine.specs.declared.so_far.SessionSoFar.{SessionSoFar}
use Rattle.bf_machine.specs.interleaving.Calls.{CanExec, HasReplied, HasSessionEnded, IsPlace}
use Rattle.bf_machine.specs.interleaving.Machines.{Machine}
use Rattle.bf_machine.specs.interleaving.Seen.{open_seen, seen}
use Rattle.bf_machine.proofs.keeping.Executing.{may_reply, on_err, replied, replied_sound, room_for_next, seen_unanswered, unanswered_sound}
use Rattle.bf_machine.proofs.keeping.LeastLeft.{exec_goes_on, goes_on_at, least_behind, least_stays}
use Rattle.bf_machine.proofs.machine.Machine.reply_to.Goals as goal

pub reply_in-requires : goal.reply_in-requires
reply_in-requires g c =
    let i = c.self.inside in
    let s = c.args.session in
    let x : SessionSoFar = c.index_mut-so_far.result.now in
    let m : Machine = seen g.N.Opened.logged (arc_value i.script) i.retries i.store i.locks i.began.items i.sessions.items i.history.items in
    let place : IsPlace (arc_value i.script) s = subst (λ (m : Machine). IsPlace m.script s) (sym c.self.view_is) c.requires.place in
    let high : s ≤ length i.sessions.items = omega (arith, place.1, c.self.invariant.0.kept.shaped.opens, length-map i.sessions.items open_seen) in
    let can : CanExec m s g.N.Opened.opening c.args.bound.now = subst (λ (m : Machine). CanExec m s g.N.Opened.opening c.args.bound.now) (sym c.self.view_is) c.requires.can in
    let number : c.args.bound.now.catalog ≡ m.db.number = subst (λ (m : Machine). c.args.bound.now.catalog ≡ m.db.number) (sym c.self.view_is) c.requires.current in
    let moved = subst (λ (m : Machine). HaveMoved m.lazy.last (λ last. needed_for last.old last.migrate c.args.bound.now.action)) (sym c.self.view_is) c.requires.moved in
    may_reply g.N.Opened.logged (arc_value i.script) i.retries i.store i.locks i.began.items i.sessions.items i.history i.commits i.transcripts c.self.invariant.0 s place.0 high x (sym c.index_mut-so_far.ensures.value)
    c.args.bound.now can number moved

pub push_reserved-requires : goal.push_reserved-requires
push_reserved-requires g c =
    let i = c.self.inside in
    let s = c.args.session in
    let x : SessionSoFar = c.index_mut-so_far.result.now in
    let m : Machine = seen g.N.Opened.logged (arc_value i.script) i.retries i.store i.locks i.began.items i.sessions.items i.history.items in
    let place : IsPlace (arc_value i.script) s = subst (λ (m : Machine). IsPlace m.script s) (sym c.self.view_is) c.requires.place in
    let high : s ≤ length i.sessions.items = omega (arith, place.1, c.self.invariant.0.kept.shaped.opens, length-map i.sessions.items open_seen) in
    let can : CanExec m s g.N.Opened.opening c.args.bound.now = subst (λ (m : Machine). CanExec m s g.N.Opened.opening c.args.bound.now) (sym c.self.view_is) c.requires.can in
    let number : c.args.bound.now.catalog ≡ m.db.number = subst (λ (m : Machine). c.args.bound.now.catalog ≡ m.db.number) (sym c.self.view_is) c.requires.current in
    let moved = subst (λ (m : Machine). HaveMoved m.lazy.last (λ last. needed_for last.old last.migrate c.args.bound.now.action)) (sym c.self.view_is) c.requires.moved in
    omega (
      arith,
      x.replies.ok.0,
      room_for_next g.N.Opened.logged (arc_value i.script) i.retries i.store i.locks i.began.items i.sessions.items i.history i.commits i.transcripts c.self.invariant.0 s place.0 high x
          (sym c.index_mut-so_far.ensures.value) c.args.bound.now can number moved,
    )

pub invariant_of-self : goal.invariant_of-self
invariant_of-self g c =
    let i = c.self.inside in
    let s = c.args.session in
    let x : SessionSoFar = c.index_mut-so_far.result.now in
    let place : IsPlace (arc_value i.script) s = subst (λ (m : Machine). IsPlace m.script s) (sym c.self.view_is) c.requires.place in
    let high : s ≤ length i.sessions.items = omega (arith, place.1, c.self.invariant.0.kept.shaped.opens, length-map i.sessions.items open_seen) in
    let m : Machine = seen g.N.Opened.logged (arc_value i.script) i.retries i.store i.locks i.began.items i.sessions.items i.history.items in
    let can : CanExec m s g.N.Opened.opening c.args.bound.now = subst (λ (m : Machine). CanExec m s g.N.Opened.opening c.args.bound.now) (sym c.self.view_is) c.requires.can in
    let goes = exec_goes_on g.N.Opened.logged (arc_value i.script) i.retries i.store i.locks i.began.items i.sessions.items i.history.items c.self.invariant.0.kept s g.N.Opened.opening c.args.bound.now can in
    let z : SessionSoFar = record { replies = x.replies; «open» = c.reply_in.new.group; latest = x.latest } in
    let still : seen g.N.Opened.logged (arc_value i.script) i.retries i.store i.locks i.began.items (slice_set i.sessions.items (s - 1) z) i.history.items
    ≡ seen g.N.Opened.logged (arc_value i.script) i.retries i.store i.locks i.began.items i.sessions.items i.history.items =
    seen_unanswered g.N.Opened.logged (arc_value i.script) i.retries i.store i.locks i.began.items i.sessions.items i.history i.commits i.transcripts c.self.invariant.0 s place.0 high x
    (sym c.index_mut-so_far.ensures.value) c.reply_in.new.group (λ is. (c.in_err-reply.ensures.refused is).0)
    (λ g is. let so = c.in_err-reply.ensures.answered g is in (so.0, so.1, so.3)) in (
      unanswered_sound g.N.Opened.logged (arc_value i.script) i.retries i.store i.locks i.began.items i.sessions.items i.history i.commits i.transcripts c.self.invariant.0 s place.0 high x
          (sym c.index_mut-so_far.ensures.value) c.reply_in.new.group (λ is. (c.in_err-reply.ensures.refused is).0)
          (λ g is. let so = c.in_err-reply.ensures.answered g is in (so.0, so.1, so.3)),
      least_stays (arc_value i.script).sessions i.sessions.items (s - 1) z i.least_left c.self.invariant.1 (goes_on_at g.N.Opened.logged (arc_value i.script) i.retries i.store i.locks i.began.items i.sessions.items i.history.items s place.0 goes)
          (λ is. goes_on_at g.N.Opened.logged (arc_value i.script) i.retries i.store i.locks i.began.items (slice_set i.sessions.items (s - 1) z) i.history.items s place.0
          (subst (λ (m : Machine). HasSessionEnded m s → ⊥) (sym still) goes)),
    )

pub returns-in_err-reply-clause-err : goal.returns-in_err-reply-clause-err
returns-in_err-reply-clause-err g c =
    let i = c.self.inside in
    let s = c.args.session in
    let x : SessionSoFar = c.index_mut-so_far.result.now in
    let place : IsPlace (arc_value i.script) s = subst (λ (m : Machine). IsPlace m.script s) (sym c.self.view_is) c.requires.place in
    let high : s ≤ length i.sessions.items = omega (arith, place.1, c.self.invariant.0.kept.shaped.opens, length-map i.sessions.items open_seen) in
    on_err c.from_residual.result _
    (seen_unanswered g.N.Opened.logged (arc_value i.script) i.retries i.store i.locks i.began.items i.sessions.items i.history i.commits i.transcripts c.self.invariant.0 s place.0 high x
    (sym c.index_mut-so_far.ensures.value) c.reply_in.new.group (λ is. (c.in_err-reply.ensures.refused is).0)
    (λ g is. let so = c.in_err-reply.ensures.answered g is in (so.0, so.1, so.3))
    ∙ c.self.view_is)

pub least_left_behind-self-inside-requires-clause-each : goal.least_left_behind-self-inside-requires-clause-each
least_left_behind-self-inside-requires-clause-each g c =
    let i = c.self.inside in
    let script = ap (λ (xs : List Session). length xs) (c.as_slice.ensures ∙ ap (λ (script : Script). script.sessions) c.deref.ensures) in
    let sessions = ap (λ (ys : List SessionSoFar). length ys) c.deref-2.ensures.value in
    omega (arith, script, sessions, c.self.invariant.0.kept.shaped.opens, length-map i.sessions.items open_seen, length-set i.sessions.items (c.args.session - 1) (record { replies = c.push_reserved.new.self; «open» = c.reply_in.new.group; latest = c.index_mut-so_far.result.now.latest }))

pub least_left_behind-self-inside-requires-clause-place : goal.least_left_behind-self-inside-requires-clause-place
least_left_behind-self-inside-requires-clause-place g c =
    let i = c.self.inside in
    let place : IsPlace (arc_value i.script) c.args.session = subst (λ (m : Machine). IsPlace m.script c.args.session) (sym c.self.view_is) c.requires.place in
    let sessions = ap (λ (ys : List SessionSoFar). length ys) c.deref-2.ensures.value in
    omega (arith, place.0, place.1, sessions, c.self.invariant.0.kept.shaped.opens, length-map i.sessions.items open_seen, length-set i.sessions.items (c.args.session - 1) (record { replies = c.push_reserved.new.self; «open» = c.reply_in.new.group; latest = c.index_mut-so_far.result.now.latest }))

pub invariant_of-self-2 : goal.invariant_of-self-2
invariant_of-self-2 g c =
    let i = c.self.inside in
    let s = c.args.session in
    let x : SessionSoFar = c.index_mut-so_far.result.now in
    let m : Machine = seen g.N.Opened.logged (arc_value i.script) i.retries i.store i.locks i.began.items i.sessions.items i.history.items in
    let place : IsPlace (arc_value i.script) s = subst (λ (m : Machine). IsPlace m.script s) (sym c.self.view_is) c.requires.place in
    let high : s ≤ length i.sessions.items = omega (arith, place.1, c.self.invariant.0.kept.shaped.opens, length-map i.sessions.items open_seen) in
    let can : CanExec m s g.N.Opened.opening c.args.bound.now = subst (λ (m : Machine). CanExec m s g.N.Opened.opening c.args.bound.now) (sym c.self.view_is) c.requires.can in
    let number : c.args.bound.now.catalog ≡ m.db.number = subst (λ (m : Machine). c.args.bound.now.catalog ≡ m.db.number) (sym c.self.view_is) c.requires.current in
    let moved = subst (λ (m : Machine). HaveMoved m.lazy.last (λ last. needed_for last.old last.migrate c.args.bound.now.action)) (sym c.self.view_is) c.requires.moved in
    let y : SessionSoFar = record { replies = c.push_reserved.new.self; «open» = c.reply_in.new.group; latest = x.latest } in
    let goes_on = goes_on_at g.N.Opened.logged (arc_value i.script) i.retries i.store i.locks i.began.items i.sessions.items i.history.items s place.0 (exec_goes_on g.N.Opened.logged (arc_value i.script) i.retries i.store i.locks i.began.items i.sessions.items i.history.items c.self.invariant.0.kept s g.N.Opened.opening c.args.bound.now can) in
    let least =
    least_behind (arc_value i.script).sessions i.sessions.items (s - 1) y i.least_left c.self.invariant.1 goes_on
    (c.as_slice.ensures ∙ ap (λ (script : Script). script.sessions) c.deref.ensures) c.deref-2.ensures.value c.least_left_behind-self-inside.result c.least_left_behind-self-inside.ensures in (
      replied_sound g.N.Opened.logged (arc_value i.script) i.retries i.store i.locks i.began.items i.sessions.items i.history i.commits i.transcripts c.self.invariant.0 s place.0 high x
          (sym c.index_mut-so_far.ensures.value) c.args.bound.now can number moved c.in_ok-reply.reply c.reply_in.new.group c.in_ok-reply.ensures.refused
          (λ g is. let so = c.in_ok-reply.ensures.answered g is in (so.0, so.1, so.2)) c.push_reserved.new.self c.push_reserved.ensures.items (omega (arith, c.push_reserved.ensures.capacity)),
      least,
    )

pub returns-clause-replied : goal.returns-clause-replied
returns-clause-replied g c =
    let i = c.self.inside in
    let s = c.args.session in
    let x : SessionSoFar = c.index_mut-so_far.result.now in
    let m : Machine = seen g.N.Opened.logged (arc_value i.script) i.retries i.store i.locks i.began.items i.sessions.items i.history.items in
    let place : IsPlace (arc_value i.script) s = subst (λ (m : Machine). IsPlace m.script s) (sym c.self.view_is) c.requires.place in
    let high : s ≤ length i.sessions.items = omega (arith, place.1, c.self.invariant.0.kept.shaped.opens, length-map i.sessions.items open_seen) in
    let can : CanExec m s g.N.Opened.opening c.args.bound.now = subst (λ (m : Machine). CanExec m s g.N.Opened.opening c.args.bound.now) (sym c.self.view_is) c.requires.can in
    let number : c.args.bound.now.catalog ≡ m.db.number = subst (λ (m : Machine). c.args.bound.now.catalog ≡ m.db.number) (sym c.self.view_is) c.requires.current in
    let moved = subst (λ (m : Machine). HaveMoved m.lazy.last (λ last. needed_for last.old last.migrate c.args.bound.now.action)) (sym c.self.view_is) c.requires.moved in
    let y : SessionSoFar = record { replies = c.push_reserved.new.self; «open» = c.reply_in.new.group; latest = x.latest } in
    let next : Machine = seen g.N.Opened.logged (arc_value i.script) i.retries i.store i.locks i.began.items (slice_set i.sessions.items (s - 1) y) i.history.items in
    subst (λ (m : Machine). HasReplied m s c.args.bound.now next) c.self.view_is
    (replied g.N.Opened.logged (arc_value i.script) i.retries i.store i.locks i.began.items i.sessions.items i.history i.commits i.transcripts c.self.invariant.0 s place.0 high x
    (sym c.index_mut-so_far.ensures.value) c.args.bound.now can number moved c.in_ok-reply.reply c.reply_in.new.group c.in_ok-reply.ensures.refused
    (λ g is. let so = c.in_ok-reply.ensures.answered g is in (so.0, so.1, so.2)) c.push_reserved.new.self c.push_reserved.ensures.items (omega (arith, c.push_reserved.ensures.capacity)))
