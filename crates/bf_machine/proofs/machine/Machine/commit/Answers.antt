-- What the group was to leave is in the store, what is left of it has its reply, and its entry comes last.
use Rattle.std.proofs.Common.{◌≡◌, ◌≢◌, ℕ, ◌+◌, ◌-◌, ◌≤◌, Err, List, Result, length, Some, refl, sym, ap, subst, ◌∙◌, arith}
use Rattle.std.specs.Prelude.{slice_set}
use Rattle.std.proofs.lemmas.List.{length-map, length-set}
use Rattle.std.specs.Arc.{arc_value}
use Rattle.bf_tree.specs.declared.script.Script.{Script}
use Rattle.bf_tree.specs.declared.script.Session.{Session}
use Rattle.bf_sql.specs.migrations.Lazy.{LazyState}
use Rattle.bf_image.specs.Registries.{Registry}
use Rattle.bf_tree.specs.declared.reply.Cause.{Cause}
use Rattle.bf_machine.specs.declared.journal.KeepError.{KeepError}
use Rattle.bf_machine.specs.declared.journal.KeepError.TheVariants.{Ended, Memory as NoMemory}
use Rattle.bf_store.specs.Stores.{IsOf, Store}
use Rattle.bf_machine.specs.declared.so_far.SessionSoFar.{SessionSoFar}
use Rattle.bf_machine.specs.interleaving.Calls.{CanCommit, CanFail, IsPlace}
use Rattle.bf_machine.specs.interleaving.Events.{Commits, EndsByLog, commits_behind}
use Rattle.bf_machine.specs.interleaving.Journals.{AreSaid, IsBeside, IsLeftFor, IsPutInto, IsRefused}
use Rattle.bf_machine.specs.interleaving.Machines.{Machine}
use Rattle.bf_machine.specs.interleaving.Seen.{IsLeastLeft, IsSound, open_seen, pending_seen, seen}
use Rattle.bf_machine.proofs.keeping.Ending.{room_for_reply}
use Rattle.bf_machine.proofs.keeping.Committing.{can_settle, commit_seen, commit_sound, is_stated, left_for, number_fits, sessions_stay}
use Rattle.bf_machine.proofs.keeping.Beside.{beside_weaker}
use Rattle.bf_machine.proofs.keeping.LeastLeft.{goes_on_at, least_behind, open_goes_on}
use Rattle.bf_machine.proofs.machine.Machine.commit.Goals as goal

-- want of memory is no cause
no_cause : (error : KeepError) → error ≡ NoMemory → (cause : Cause) → ◌≢◌ {A = Result (Unit {0}) KeepError} (Err error) (Err (Ended cause))
no_cause error is cause same =
    let clash : ◌≡◌ {A = Result (Unit {0}) KeepError} (Err NoMemory) (Err (Ended cause)) = ap (λ (why : KeepError). Err why) (sym is) ∙ same in
    cc

pub settle-requires-clause-one : goal.settle-requires-clause-one
settle-requires-clause-one g c = subst (λ (registry : Registry). IsOf registry c.self.inside.store.migration) (sym c.requires.registry) c.self.invariant.0.one

pub settle-requires-clause-can : goal.settle-requires-clause-can
settle-requires-clause-can g c =
    let i = c.self.inside in
    let s = c.args.session in
    let x : SessionSoFar = c.index_mut-so_far.result.now in
    let place : IsPlace (arc_value i.script) s = subst (λ (m : Machine). IsPlace m.script s) (sym c.self.view_is) c.requires.place in
    let high : s ≤ length i.sessions.items = omega (arith, place.1, c.self.invariant.0.kept.shaped.opens, length-map i.sessions.items open_seen) in
    can_settle g.N.Opened.logged (arc_value i.script) i.retries i.store i.locks i.began.items i.sessions.items i.history i.commits i.transcripts c.self.invariant.0
    s place.0 high x (sym c.index_mut-so_far.ensures.value) c.in-Some.group (sym c.take.ensures.value ∙ c.in-Some.is)

pub settle-requires-clause-stated : goal.settle-requires-clause-stated
settle-requires-clause-stated g c =
    let i = c.self.inside in
    let s = c.args.session in
    let x : SessionSoFar = c.index_mut-so_far.result.now in
    let Says = g.J.Journal.Says in
    let place : IsPlace (arc_value i.script) s = subst (λ (m : Machine). IsPlace m.script s) (sym c.self.view_is) c.requires.place in
    let high : s ≤ length i.sessions.items = omega (arith, place.1, c.self.invariant.0.kept.shaped.opens, length-map i.sessions.items open_seen) in
    is_stated g.N.Opened.logged (arc_value i.script) i.retries i.store i.locks i.began.items i.sessions.items i.history i.commits i.transcripts c.self.invariant.0
    s place.0 high x (sym c.index_mut-so_far.ensures.value) c.in-Some.group (sym c.take.ensures.value ∙ c.in-Some.is)
    Says (subst (AreSaid Says) (sym c.self.invariant.0.is_given) c.requires.said)

pub overflow_add-number : goal.overflow_add-number
overflow_add-number g c =
    let i = c.self.inside in
    let s = c.args.session in
    let x : SessionSoFar = c.index_mut-so_far.result.now in
    let place : IsPlace (arc_value i.script) s = subst (λ (m : Machine). IsPlace m.script s) (sym c.self.view_is) c.requires.place in
    let high : s ≤ length i.sessions.items = omega (arith, place.1, c.self.invariant.0.kept.shaped.opens, length-map i.sessions.items open_seen) in
    let fits =
    number_fits g.N.Opened.logged (arc_value i.script) i.retries i.store i.locks i.began.items i.sessions.items i.history i.commits i.transcripts c.self.invariant.0
    s place.0 high x (sym c.index_mut-so_far.ensures.value) c.in-Some.group (sym c.take.ensures.value ∙ c.in-Some.is) in
    omega (arith, fits, i.history.ok.1)

pub close-requires : goal.close-requires
close-requires g c =
    let i = c.self.inside in
    let s = c.args.session in
    let x : SessionSoFar = c.index_mut-so_far.result.now in
    let place : IsPlace (arc_value i.script) s = subst (λ (m : Machine). IsPlace m.script s) (sym c.self.view_is) c.requires.place in
    let high : s ≤ length i.sessions.items = omega (arith, place.1, c.self.invariant.0.kept.shaped.opens, length-map i.sessions.items open_seen) in
    room_for_reply g.N.Opened.logged (arc_value i.script) i.retries i.store i.locks i.began.items i.sessions.items i.history i.commits i.transcripts c.self.invariant.0
    s place.0 high x (sym c.index_mut-so_far.ensures.value) c.in-Some.group (sym c.take.ensures.value ∙ c.in-Some.is)

pub least_left_behind-self-inside-requires-clause-each : goal.least_left_behind-self-inside-requires-clause-each
least_left_behind-self-inside-requires-clause-each g c =
    let i = c.self.inside in
    let script = ap (λ (xs : List Session). length xs) (c.as_slice.ensures ∙ ap (λ (script : Script). script.sessions) c.deref.ensures) in
    let sessions = ap (λ (ys : List SessionSoFar). length ys) c.deref-2.ensures.value in
    omega (arith, script, sessions, c.self.invariant.0.kept.shaped.opens, length-map i.sessions.items open_seen, length-set i.sessions.items (c.args.session - 1) c.close.new.so_far)

pub least_left_behind-self-inside-requires-clause-place : goal.least_left_behind-self-inside-requires-clause-place
least_left_behind-self-inside-requires-clause-place g c =
    let i = c.self.inside in
    let place : IsPlace (arc_value i.script) c.args.session = subst (λ (m : Machine). IsPlace m.script c.args.session) (sym c.self.view_is) c.requires.place in
    let sessions = ap (λ (ys : List SessionSoFar). length ys) c.deref-2.ensures.value in
    omega (arith, place.0, place.1, sessions, c.self.invariant.0.kept.shaped.opens, length-map i.sessions.items open_seen, length-set i.sessions.items (c.args.session - 1) c.close.new.so_far)

pub invariant_of-self-2 : goal.invariant_of-self-2
invariant_of-self-2 g c =
    let i = c.self.inside in
    let s = c.args.session in
    let x : SessionSoFar = c.index_mut-so_far.result.now in
    let place : IsPlace (arc_value i.script) s = subst (λ (m : Machine). IsPlace m.script s) (sym c.self.view_is) c.requires.place in
    let high : s ≤ length i.sessions.items = omega (arith, place.1, c.self.invariant.0.kept.shaped.opens, length-map i.sessions.items open_seen) in
    let m : Machine = seen g.N.Opened.logged (arc_value i.script) i.retries i.store i.locks i.began.items i.sessions.items i.history.items in
    let can : CanCommit m s = subst (λ (m : Machine). CanCommit m s) (sym c.self.view_is) c.requires.can in
    let ends = c.close.ensures in
    let pushed = c.push_reserved in
    let settled = c.in_default-settle.ensures in
    let one = subst (λ (registry : Registry). IsOf registry c.settle.new.store.migration) c.requires.registry settled.one in
    let goes_on = goes_on_at g.N.Opened.logged (arc_value i.script) i.retries i.store i.locks i.began.items i.sessions.items i.history.items s place.0 (open_goes_on m s can.o can.is) in
    let least =
    least_behind (arc_value i.script).sessions i.sessions.items (s - 1) c.close.new.so_far i.least_left c.self.invariant.1 goes_on
    (c.as_slice.ensures ∙ ap (λ (script : Script). script.sessions) c.deref.ensures) c.deref-2.ensures.value c.least_left_behind-self-inside.result c.least_left_behind-self-inside.ensures in (
      commit_sound g.N.Opened.logged (arc_value i.script) i.retries i.store i.locks i.began.items i.sessions.items i.history i.commits i.transcripts c.self.invariant.0
          s place.0 high x (sym c.index_mut-so_far.ensures.value) c.in-Some.group (sym c.take.ensures.value ∙ c.in-Some.is) can
          c.close.new.so_far ends.closed ends.latest ends.capacity ends.replies
          c.free_all.new.self c.free_all.ensures.freed c.settle.new.store settled.ok settled.by_pass one settled.same pushed.new.self pushed.ensures.items pushed.ensures.capacity,
      least,
    )

pub returns-clause-ending : goal.returns-clause-ending
returns-clause-ending g c =
    let i = c.self.inside in
    let s = c.args.session in
    let x : SessionSoFar = c.index_mut-so_far.result.now in
    let place : IsPlace (arc_value i.script) s = subst (λ (m : Machine). IsPlace m.script s) (sym c.self.view_is) c.requires.place in
    let high : s ≤ length i.sessions.items = omega (arith, place.1, c.self.invariant.0.kept.shaped.opens, length-map i.sessions.items open_seen) in
    let m : Machine = seen g.N.Opened.logged (arc_value i.script) i.retries i.store i.locks i.began.items i.sessions.items i.history.items in
    let can : CanCommit m s = subst (λ (m : Machine). CanCommit m s) (sym c.self.view_is) c.requires.can in
    let ends = c.close.ensures in
    let pushed = c.push_reserved in
    let settled = c.in_default-settle.ensures in
    let one = subst (λ (registry : Registry). IsOf registry c.settle.new.store.migration) c.requires.registry settled.one in
    let next : Machine = seen g.N.Opened.logged (arc_value i.script) i.retries c.settle.new.store c.free_all.new.self i.began.items (slice_set i.sessions.items (s - 1) c.close.new.so_far) pushed.new.self.items in
    let commits = subst (λ (m : Machine). Commits m s next) c.self.view_is
    (commit_seen g.N.Opened.logged (arc_value i.script) i.retries i.store i.locks i.began.items i.sessions.items i.history i.commits i.transcripts c.self.invariant.0
    s place.0 high x (sym c.index_mut-so_far.ensures.value) c.in-Some.group (sym c.take.ensures.value ∙ c.in-Some.is) can
    c.close.new.so_far ends.closed ends.latest ends.capacity ends.replies
    c.free_all.new.self c.free_all.ensures.freed c.settle.new.store settled.ok settled.by_pass one settled.same pushed.new.self pushed.ensures.items pushed.ensures.capacity) in
    (commits, ap (λ (n : ℕ). n + 1) c.self.invariant.0.counted ∙ ap (λ (m : Machine). commits_behind 0 m.history + 1) c.self.view_is)

pub invariant_of-self : goal.invariant_of-self
invariant_of-self g c =
    let i = c.self.inside in
    let s = c.args.session in
    let x : SessionSoFar = c.index_mut-so_far.result.now in
    let stays =
    sessions_stay i.sessions.items (s - 1) x (sym c.index_mut-so_far.ensures.value) c.in-Some.group
    (sym c.take.ensures.value ∙ c.in-Some.is) c.settle.new.pending c.in-Err.ensures.kept in (
      subst (λ (sessions : List SessionSoFar). IsSound g.N.Opened.opening g.N.Opened.registry g.N.Opened.script g.N.Opened.logged (arc_value i.script) i.retries c.settle.new.store i.locks i.began.items sessions i.history i.commits i.transcripts) (sym stays)
          (subst (λ (store : Store). IsSound g.N.Opened.opening g.N.Opened.registry g.N.Opened.script g.N.Opened.logged (arc_value i.script) i.retries store i.locks i.began.items i.sessions.items i.history i.commits i.transcripts) (sym c.in-Err.ensures.err) c.self.invariant.0),
      subst (λ (sessions : List SessionSoFar). IsLeastLeft (arc_value i.script).sessions sessions (length sessions) i.least_left) (sym stays) c.self.invariant.1,
    )

pub invariant_of-self-in-Ended : goal.invariant_of-self-in-Ended
invariant_of-self-in-Ended g c =
    let i = c.self.inside in
    let s = c.args.session in
    let x : SessionSoFar = c.index_mut-so_far.result.now in
    let stays =
    sessions_stay i.sessions.items (s - 1) x (sym c.index_mut-so_far.ensures.value) c.in-Some.group
    (sym c.take.ensures.value ∙ c.in-Some.is) c.settle.new.pending c.in-Err.ensures.kept in (
      subst (λ (sessions : List SessionSoFar). IsSound g.N.Opened.opening g.N.Opened.registry g.N.Opened.script g.N.Opened.logged (arc_value i.script) i.retries c.settle.new.store i.locks i.began.items sessions i.history i.commits i.transcripts) (sym stays)
          (subst (λ (store : Store). IsSound g.N.Opened.opening g.N.Opened.registry g.N.Opened.script g.N.Opened.logged (arc_value i.script) i.retries store i.locks i.began.items i.sessions.items i.history i.commits i.transcripts) (sym c.in-Err.ensures.err) c.self.invariant.0),
      subst (λ (sessions : List SessionSoFar). IsLeastLeft (arc_value i.script).sessions sessions (length sessions) i.least_left) (sym stays) c.self.invariant.1,
    )

pub fail-requires-clause-open : goal.fail-requires-clause-open
fail-requires-clause-open g c =
    let i = c.self.inside in
    let s = c.args.session in
    let x : SessionSoFar = c.index_mut-so_far.result.now in
    let z : SessionSoFar = record { replies = x.replies; «open» = Some (record c.in-Some.group { pending = c.settle.new.pending }); latest = x.latest } in
    let stays =
    sessions_stay i.sessions.items (s - 1) x (sym c.index_mut-so_far.ensures.value) c.in-Some.group
    (sym c.take.ensures.value ∙ c.in-Some.is) c.settle.new.pending c.in-Err.ensures.kept in
    let back : seen g.N.Opened.logged (arc_value i.script) i.retries c.settle.new.store i.locks i.began.items (slice_set i.sessions.items (s - 1) z) i.history.items ≡ c.args.self.now =
    ap (λ (sessions : List SessionSoFar). seen g.N.Opened.logged (arc_value i.script) i.retries c.settle.new.store i.locks i.began.items sessions i.history.items) stays
    ∙ (ap (λ (store : Store). seen g.N.Opened.logged (arc_value i.script) i.retries store i.locks i.began.items i.sessions.items i.history.items) c.in-Err.ensures.err ∙ c.self.view_is) in
    let can = c.requires.can in
    let may : CanFail c.args.self.now s = record { current = can.current; o = can.o; is = can.is } in
    subst (λ (m : Machine). CanFail m s) (sym back) may

pub returns-in-Memory-clause-err : goal.returns-in-Memory-clause-err
returns-in-Memory-clause-err g c =
    let i = c.self.inside in
    let s = c.args.session in
    let x : SessionSoFar = c.index_mut-so_far.result.now in
    let z : SessionSoFar = record { replies = x.replies; «open» = Some (record c.in-Some.group { pending = c.settle.new.pending }); latest = x.latest } in
    let stays =
    sessions_stay i.sessions.items (s - 1) x (sym c.index_mut-so_far.ensures.value) c.in-Some.group
    (sym c.take.ensures.value ∙ c.in-Some.is) c.settle.new.pending c.in-Err.ensures.kept in
    let back : seen g.N.Opened.logged (arc_value i.script) i.retries c.settle.new.store i.locks i.began.items (slice_set i.sessions.items (s - 1) z) i.history.items ≡ c.args.self.now =
    ap (λ (sessions : List SessionSoFar). seen g.N.Opened.logged (arc_value i.script) i.retries c.settle.new.store i.locks i.began.items sessions i.history.items) stays
    ∙ (ap (λ (store : Store). seen g.N.Opened.logged (arc_value i.script) i.retries store i.locks i.began.items i.sessions.items i.history.items) c.in-Err.ensures.err ∙ c.self.view_is) in
    back

pub returns-in-Ended-clause-ending : goal.returns-in-Ended-clause-ending
returns-in-Ended-clause-ending g c =
    let i = c.self.inside in
    let s = c.args.session in
    let x : SessionSoFar = c.index_mut-so_far.result.now in
    let z : SessionSoFar = record { replies = x.replies; «open» = Some (record c.in-Some.group { pending = c.settle.new.pending }); latest = x.latest } in
    let stays =
    sessions_stay i.sessions.items (s - 1) x (sym c.index_mut-so_far.ensures.value) c.in-Some.group
    (sym c.take.ensures.value ∙ c.in-Some.is) c.settle.new.pending c.in-Err.ensures.kept in
    let back : seen g.N.Opened.logged (arc_value i.script) i.retries c.settle.new.store i.locks i.began.items (slice_set i.sessions.items (s - 1) z) i.history.items ≡ c.args.self.now =
    ap (λ (sessions : List SessionSoFar). seen g.N.Opened.logged (arc_value i.script) i.retries c.settle.new.store i.locks i.began.items sessions i.history.items) stays
    ∙ (ap (λ (store : Store). seen g.N.Opened.logged (arc_value i.script) i.retries store i.locks i.began.items i.sessions.items i.history.items) c.in-Err.ensures.err ∙ c.self.view_is) in
    subst (λ (m : Machine). (by : EndsByLog m s c.fail.new.self) × (by.cause ≡ c.in-Ended.cause)) back c.fail.ensures

pub returns-in-Ended-clause-beside : goal.returns-in-Ended-clause-beside
returns-in-Ended-clause-beside g c = λ never. absurd (never c.in-Ended.cause refl)

pub returns-in-Memory-clause-beside : goal.returns-in-Memory-clause-beside
returns-in-Memory-clause-beside g c = λ _.
    let i = c.self.inside in
    let s = c.args.session in
    let x : SessionSoFar = c.index_mut-so_far.result.now in
    let place : IsPlace (arc_value i.script) s = subst (λ (m : Machine). IsPlace m.script s) (sym c.self.view_is) c.requires.place in
    let high : s ≤ length i.sessions.items = omega (arith, place.1, c.self.invariant.0.kept.shaped.opens, length-map i.sessions.items open_seen) in
    let m : Machine = seen g.N.Opened.logged (arc_value i.script) i.retries i.store i.locks i.began.items i.sessions.items i.history.items in
    let can : CanCommit m s = subst (λ (m : Machine). CanCommit m s) (sym c.self.view_is) c.requires.can in
    let own : (next : LazyState) → IsPutInto i.store.lazy (pending_seen c.in-Some.group.pending) next → IsLeftFor m s next =
    left_for g.N.Opened.logged (arc_value i.script) i.retries i.store i.locks i.began.items i.sessions.items i.history i.commits i.transcripts c.self.invariant.0
    s place.0 high x (sym c.index_mut-so_far.ensures.value) c.in-Some.group (sym c.take.ensures.value ∙ c.in-Some.is) can in
    let Answers = g.J.Journal.Answers in
    let j = c.args.journal.now in
    let k = c.settle.new.journal in
    subst (λ (m : Machine). IsBeside Answers (IsLeftFor m s) m.lazy c.settle.new.store.lazy j k) c.self.view_is
    (beside_weaker Answers (IsPutInto i.store.lazy (pending_seen c.in-Some.group.pending)) i.store.lazy c.settle.new.store.lazy j k (IsLeftFor m s) own (c.in-Err.ensures.beside (no_cause c.in-Err.error c.in-Memory.is)))

pub returns-in-Ended-clause-refused : goal.returns-in-Ended-clause-refused
returns-in-Ended-clause-refused g c = λ cause is.
    let i = c.self.inside in
    let s = c.args.session in
    let x : SessionSoFar = c.index_mut-so_far.result.now in
    let place : IsPlace (arc_value i.script) s = subst (λ (m : Machine). IsPlace m.script s) (sym c.self.view_is) c.requires.place in
    let high : s ≤ length i.sessions.items = omega (arith, place.1, c.self.invariant.0.kept.shaped.opens, length-map i.sessions.items open_seen) in
    let m : Machine = seen g.N.Opened.logged (arc_value i.script) i.retries i.store i.locks i.began.items i.sessions.items i.history.items in
    let can : CanCommit m s = subst (λ (m : Machine). CanCommit m s) (sym c.self.view_is) c.requires.can in
    let own : (next : LazyState) → IsPutInto i.store.lazy (pending_seen c.in-Some.group.pending) next → IsLeftFor m s next =
    left_for g.N.Opened.logged (arc_value i.script) i.retries i.store i.locks i.began.items i.sessions.items i.history i.commits i.transcripts c.self.invariant.0
    s place.0 high x (sym c.index_mut-so_far.ensures.value) c.in-Some.group (sym c.take.ensures.value ∙ c.in-Some.is) can in
    let Answers = g.J.Journal.Answers in
    let j = c.args.journal.now in
    let k = c.settle.new.journal in
    let same : c.in-Ended.cause ≡ cause = cc in
    let refused = c.in-Err.ensures.refused cause (ap (λ (why : KeepError). Err why) (c.in-Ended.is ∙ ap (λ (d : Cause). Ended d) same)) in
    subst (λ (m : Machine). IsRefused Answers (IsLeftFor m s) m.lazy j k cause) c.self.view_is (refused.0, own refused.0 refused.1, refused.2)

pub returns-clause-beside : goal.returns-clause-beside
returns-clause-beside g c = λ _.
    let i = c.self.inside in
    let s = c.args.session in
    let x : SessionSoFar = c.index_mut-so_far.result.now in
    let place : IsPlace (arc_value i.script) s = subst (λ (m : Machine). IsPlace m.script s) (sym c.self.view_is) c.requires.place in
    let high : s ≤ length i.sessions.items = omega (arith, place.1, c.self.invariant.0.kept.shaped.opens, length-map i.sessions.items open_seen) in
    let m : Machine = seen g.N.Opened.logged (arc_value i.script) i.retries i.store i.locks i.began.items i.sessions.items i.history.items in
    let can : CanCommit m s = subst (λ (m : Machine). CanCommit m s) (sym c.self.view_is) c.requires.can in
    let own : (next : LazyState) → IsPutInto i.store.lazy (pending_seen c.in-Some.group.pending) next → IsLeftFor m s next =
    left_for g.N.Opened.logged (arc_value i.script) i.retries i.store i.locks i.began.items i.sessions.items i.history i.commits i.transcripts c.self.invariant.0
    s place.0 high x (sym c.index_mut-so_far.ensures.value) c.in-Some.group (sym c.take.ensures.value ∙ c.in-Some.is) can in
    let Answers = g.J.Journal.Answers in
    let j = c.args.journal.now in
    let k = c.settle.new.journal in
    subst (λ (m : Machine). IsBeside Answers (IsLeftFor m s) m.lazy c.settle.new.store.lazy j k) c.self.view_is
    (beside_weaker Answers (IsPutInto i.store.lazy (pending_seen c.in-Some.group.pending)) i.store.lazy c.settle.new.store.lazy j k (IsLeftFor m s) own (c.in_default-settle.ensures.beside (λ cause same. cc)))
