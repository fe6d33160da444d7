-- A session's next group begins, for the first time or again, and the entry of each open group has room.
use Rattle.std.proofs.Common.{◌≡◌, ◌⊎◌, ℕ, ◌+◌, ◌-◌, ◌<◌, ◌≤◌, List, [], ◌∷◌, ◌++◌, length, refl, sym, ap, subst, ◌∙◌, arith, vec_capacity}
use Rattle.std.specs.Prelude.{slice_index_or, slice_set}
use Rattle.std.proofs.lemmas.List.{length-map}
use Rattle.std.specs.Arc.{arc_value}
use Rattle.bf_tree.specs.declared.script.Script.{Script}
use Rattle.bf_tree.specs.declared.script.Session.{Session}
use Rattle.bf_tree.specs.declared.statement.Statement.{Statement}
use Rattle.bf_sql.specs.Groups.{session_at}
use Rattle.bf_machine.specs.declared.so_far.Began.{Began as BeganGroup}
use Rattle.bf_machine.specs.declared.so_far.SessionSoFar.{SessionSoFar}
use Rattle.bf_machine.specs.declared.stand.Stand.TheVariants as stand
use Rattle.bf_machine.specs.interleaving.Calls.{CanBegin, IsPlace}
use Rattle.bf_machine.specs.interleaving.Events.{Begins}
use Rattle.bf_machine.specs.interleaving.Machines.{Machine}
use Rattle.bf_machine.specs.interleaving.Seen.{last_from, open_seen, seen}
use Rattle.bf_machine.proofs.keeping.Opening.{again_all, begun_all, latest_within, reserved_sound, same_item, session_there, size_fits, within}
use Rattle.bf_machine.proofs.keeping.LeastLeft.{goes_on_at, least_stays, open_then}
use Rattle.bf_machine.proofs.served.Exclusive.{goes_has_not_ended}
use Rattle.bf_machine.proofs.machine.Machine.begin.Goals as goal

pub overflow_cast-first : goal.overflow_cast-first
overflow_cast-first g c =
    let i = c.self.inside in
    let s = c.args.session in
    let x : SessionSoFar = c.index-so_far.result.now in
    let m : Machine = seen g.N.Opened.logged (arc_value i.script) i.retries i.store i.locks i.began.items i.sessions.items i.history.items in
    let place : IsPlace (arc_value i.script) s = subst (λ (m : Machine). IsPlace m.script s) (sym c.self.view_is) c.requires.place in
    let high : s ≤ length i.sessions.items = omega (arith, place.1, c.self.invariant.0.kept.shaped.opens, length-map i.sessions.items open_seen) in
    let can : CanBegin m s = subst (λ (m : Machine). CanBegin m s) (sym c.self.view_is) c.requires.can in
    let size =
    size_fits g.N.Opened.logged (arc_value i.script) i.retries i.store i.locks i.began.items i.sessions.items i.history i.commits i.transcripts
    c.self.invariant.0 s place.0 high x (sym c.index-so_far.ensures) can.0 can.1 in
    omega (arith, size.0, c.len-2.ensures, x.replies.ok.0)

pub overflow_add-first : goal.overflow_add-first
overflow_add-first g c =
    let i = c.self.inside in
    let s = c.args.session in
    let x : SessionSoFar = c.index-so_far.result.now in
    let m : Machine = seen g.N.Opened.logged (arc_value i.script) i.retries i.store i.locks i.began.items i.sessions.items i.history.items in
    let place : IsPlace (arc_value i.script) s = subst (λ (m : Machine). IsPlace m.script s) (sym c.self.view_is) c.requires.place in
    let high : s ≤ length i.sessions.items = omega (arith, place.1, c.self.invariant.0.kept.shaped.opens, length-map i.sessions.items open_seen) in
    let can : CanBegin m s = subst (λ (m : Machine). CanBegin m s) (sym c.self.view_is) c.requires.can in
    let size =
    size_fits g.N.Opened.logged (arc_value i.script) i.retries i.store i.locks i.began.items i.sessions.items i.history i.commits i.transcripts
    c.self.invariant.0 s place.0 high x (sym c.index-so_far.ensures) can.0 can.1 in
    omega (arith, size.0, c.len-2.ensures, x.replies.ok.0)

pub last_again-requires : goal.last_again-requires
last_again-requires g c =
    let i = c.self.inside in
    let s = c.args.session in
    let x : SessionSoFar = c.index-so_far.result.now in
    let m : Machine = seen g.N.Opened.logged (arc_value i.script) i.retries i.store i.locks i.began.items i.sessions.items i.history.items in
    let place : IsPlace (arc_value i.script) s = subst (λ (m : Machine). IsPlace m.script s) (sym c.self.view_is) c.requires.place in
    let high : s ≤ length i.sessions.items = omega (arith, place.1, c.self.invariant.0.kept.shaped.opens, length-map i.sessions.items open_seen) in
    let can : CanBegin m s = subst (λ (m : Machine). CanBegin m s) (sym c.self.view_is) c.requires.can in
    let low =
    latest_within g.N.Opened.logged (arc_value i.script) i.retries i.store i.locks i.began.items i.sessions.items i.history i.commits i.transcripts
    c.self.invariant.0 s place.0 high x (sym c.index-so_far.ensures) in
    rw c.deref.ensures.value low

pub invariant_of-self-in-Some : goal.invariant_of-self-in-Some
invariant_of-self-in-Some g c =
    let i = c.self.inside in
    let s = c.args.session in
    let x : SessionSoFar = c.index-so_far.result.now in
    let m : Machine = seen g.N.Opened.logged (arc_value i.script) i.retries i.store i.locks i.began.items i.sessions.items i.history.items in
    let place : IsPlace (arc_value i.script) s = subst (λ (m : Machine). IsPlace m.script s) (sym c.self.view_is) c.requires.place in
    let high : s ≤ length i.sessions.items = omega (arith, place.1, c.self.invariant.0.kept.shaped.opens, length-map i.sessions.items open_seen) in
    let can : CanBegin m s = subst (λ (m : Machine). CanBegin m s) (sym c.self.view_is) c.requires.can in
    let room : length i.history.items + length i.sessions.items ≤ vec_capacity c.reserve.new.self =
    omega (arith, c.in_ok-reserve.ensures.ok, c.in_ok-reserve.ensures.len, c.len.ensures, i.history.ok.0, i.sessions.ok.0) in
    let first : ℕ = c.len-2.result + 1 in
    let starts : first ≡ length x.replies.items + 1 = omega (arith, c.len-2.ensures, x.replies.ok.0) in
    let below : s - 1 < length i.sessions.items = omega (arith, place.0, high) in
    let y : SessionSoFar = c.open_group.new.so_far in
    let same : c.index_mut.result.now ≡ x =
    same_item i.sessions.items (s - 1) c.index_mut.result.now x below c.index_mut.ensures.value c.index-so_far.ensures in
    let found = c.in-Some.ensures.again in
    let b : BeganGroup = found.1 in
    let all =
    again_all g.N.Opened.logged (arc_value i.script) i.retries i.store i.locks i.began.items i.sessions.items i.history i.commits i.transcripts
    c.self.invariant.0 s place.0 high x (sym c.index-so_far.ensures) can.0 can.1
    c.reserve.new.self c.in_ok-reserve.ensures.items room y (c.open_group.ensures.replies ∙ ap (λ (z : SessionSoFar). z.replies) same) first starts
    found.0 b (found.2 ∙ ap (λ (bs : List BeganGroup). slice_index_or bs (x.latest - 1) b) c.deref.ensures.value) found.3 c.in-Some.last found.4
    c.open_group.ensures.opened c.open_group.ensures.latest in
    let goes_on = goes_on_at g.N.Opened.logged (arc_value i.script) i.retries i.store i.locks i.began.items i.sessions.items i.history.items s place.0 (goes_has_not_ended m c.self.invariant.0.kept s (stand.Begin, can, refl)) in (
      all.1,
      least_stays (arc_value i.script).sessions i.sessions.items (s - 1) y i.least_left c.self.invariant.1 goes_on
          (λ is. open_then (arc_value i.script).sessions i.sessions.items (s - 1) y below _ c.open_group.ensures.opened),
    )

pub returns-in-Some-clause-begins : goal.returns-in-Some-clause-begins
returns-in-Some-clause-begins g c =
    let i = c.self.inside in
    let s = c.args.session in
    let x : SessionSoFar = c.index-so_far.result.now in
    let m : Machine = seen g.N.Opened.logged (arc_value i.script) i.retries i.store i.locks i.began.items i.sessions.items i.history.items in
    let place : IsPlace (arc_value i.script) s = subst (λ (m : Machine). IsPlace m.script s) (sym c.self.view_is) c.requires.place in
    let high : s ≤ length i.sessions.items = omega (arith, place.1, c.self.invariant.0.kept.shaped.opens, length-map i.sessions.items open_seen) in
    let can : CanBegin m s = subst (λ (m : Machine). CanBegin m s) (sym c.self.view_is) c.requires.can in
    let room : length i.history.items + length i.sessions.items ≤ vec_capacity c.reserve.new.self =
    omega (arith, c.in_ok-reserve.ensures.ok, c.in_ok-reserve.ensures.len, c.len.ensures, i.history.ok.0, i.sessions.ok.0) in
    let first : ℕ = c.len-2.result + 1 in
    let starts : first ≡ length x.replies.items + 1 = omega (arith, c.len-2.ensures, x.replies.ok.0) in
    let below : s - 1 < length i.sessions.items = omega (arith, place.0, high) in
    let y : SessionSoFar = c.open_group.new.so_far in
    let same : c.index_mut.result.now ≡ x =
    same_item i.sessions.items (s - 1) c.index_mut.result.now x below c.index_mut.ensures.value c.index-so_far.ensures in
    let found = c.in-Some.ensures.again in
    let b : BeganGroup = found.1 in
    let all =
    again_all g.N.Opened.logged (arc_value i.script) i.retries i.store i.locks i.began.items i.sessions.items i.history i.commits i.transcripts
    c.self.invariant.0 s place.0 high x (sym c.index-so_far.ensures) can.0 can.1
    c.reserve.new.self c.in_ok-reserve.ensures.items room y (c.open_group.ensures.replies ∙ ap (λ (z : SessionSoFar). z.replies) same) first starts
    found.0 b (found.2 ∙ ap (λ (bs : List BeganGroup). slice_index_or bs (x.latest - 1) b) c.deref.ensures.value) found.3 c.in-Some.last found.4
    c.open_group.ensures.opened c.open_group.ensures.latest in
    let next : Machine = seen g.N.Opened.logged (arc_value i.script) i.retries i.store i.locks i.began.items (slice_set i.sessions.items (s - 1) y) c.reserve.new.self.items in
    subst (λ (m : Machine). Begins m s next) c.self.view_is all.0

pub last_of_group-last-requires-clause-within : goal.last_of_group-last-requires-clause-within
last_of_group-last-requires-clause-within g c =
    let i = c.self.inside in
    let s = c.args.session in
    let x : SessionSoFar = c.index-so_far.result.now in
    let m : Machine = seen g.N.Opened.logged (arc_value i.script) i.retries i.store i.locks i.began.items i.sessions.items i.history.items in
    let place : IsPlace (arc_value i.script) s = subst (λ (m : Machine). IsPlace m.script s) (sym c.self.view_is) c.requires.place in
    let high : s ≤ length i.sessions.items = omega (arith, place.1, c.self.invariant.0.kept.shaped.opens, length-map i.sessions.items open_seen) in
    let can : CanBegin m s = subst (λ (m : Machine). CanBegin m s) (sym c.self.view_is) c.requires.can in
    let own : Session = c.index-as_slice-place.result in
    let there : own ≡ slice_index_or (arc_value i.script).sessions (s - 1) own =
    c.index-as_slice-place.is ∙ ap (λ (xs : List Session). slice_index_or xs (s - 1) own) (c.as_slice.ensures ∙ ap (λ (script : Script). script.sessions) c.deref-2.ensures) in
    let statements : c.as_slice-statements.result.now ≡ (session_at (arc_value i.script) s).statements =
    c.as_slice-statements.ensures
    ∙ (ap (λ (a : Session). a.statements) (sym c.index-as_slice-place.is) ∙ ap (λ (a : Session). a.statements) (session_there (arc_value i.script) s own place.0 place.1 there)) in
    let there_is =
    within g.N.Opened.logged (arc_value i.script) i.retries i.store i.locks i.began.items i.sessions.items i.history i.commits i.transcripts
    c.self.invariant.0 s place.0 high x (sym c.index-so_far.ensures) can.0 can.1 in
    let size : length c.as_slice-statements.result.now ≡ length (session_at (arc_value i.script) s).statements = ap (λ (ss : List Statement). length ss) statements in
    omega (arith, there_is, size, c.len-2.ensures, x.replies.ok.0)

pub last_of_group-last-requires-clause-numbers : goal.last_of_group-last-requires-clause-numbers
last_of_group-last-requires-clause-numbers g c =
    let i = c.self.inside in
    let s = c.args.session in
    let x : SessionSoFar = c.index-so_far.result.now in
    let m : Machine = seen g.N.Opened.logged (arc_value i.script) i.retries i.store i.locks i.began.items i.sessions.items i.history.items in
    let place : IsPlace (arc_value i.script) s = subst (λ (m : Machine). IsPlace m.script s) (sym c.self.view_is) c.requires.place in
    let high : s ≤ length i.sessions.items = omega (arith, place.1, c.self.invariant.0.kept.shaped.opens, length-map i.sessions.items open_seen) in
    let can : CanBegin m s = subst (λ (m : Machine). CanBegin m s) (sym c.self.view_is) c.requires.can in
    let own : Session = c.index-as_slice-place.result in
    let there : own ≡ slice_index_or (arc_value i.script).sessions (s - 1) own =
    c.index-as_slice-place.is ∙ ap (λ (xs : List Session). slice_index_or xs (s - 1) own) (c.as_slice.ensures ∙ ap (λ (script : Script). script.sessions) c.deref-2.ensures) in
    let statements : c.as_slice-statements.result.now ≡ (session_at (arc_value i.script) s).statements =
    c.as_slice-statements.ensures
    ∙ (ap (λ (a : Session). a.statements) (sym c.index-as_slice-place.is) ∙ ap (λ (a : Session). a.statements) (session_there (arc_value i.script) s own place.0 place.1 there)) in
    let fits =
    size_fits g.N.Opened.logged (arc_value i.script) i.retries i.store i.locks i.began.items i.sessions.items i.history i.commits i.transcripts
    c.self.invariant.0 s place.0 high x (sym c.index-so_far.ensures) can.0 can.1 in
    let size : length c.as_slice-statements.result.now ≡ length (session_at (arc_value i.script) s).statements = ap (λ (ss : List Statement). length ss) statements in
    omega (arith, fits.1, size)

pub invariant_of-self-in_err-push : goal.invariant_of-self-in_err-push
invariant_of-self-in_err-push g c =
    let i = c.self.inside in (
      rw c.in_err-push.ensures.items
          (reserved_sound g.N.Opened.logged (arc_value i.script) i.retries i.store i.locks i.began.items i.sessions.items i.history i.commits i.transcripts c.self.invariant.0 c.reserve.new.self c.in_ok-reserve.ensures.items
          c.in_ok-reserve.ensures.capacity),
      c.self.invariant.1,
    )

pub invariant_of-self-2 : goal.invariant_of-self-2
invariant_of-self-2 g c =
    let i = c.self.inside in
    let s = c.args.session in
    let x : SessionSoFar = c.index-so_far.result.now in
    let m : Machine = seen g.N.Opened.logged (arc_value i.script) i.retries i.store i.locks i.began.items i.sessions.items i.history.items in
    let place : IsPlace (arc_value i.script) s = subst (λ (m : Machine). IsPlace m.script s) (sym c.self.view_is) c.requires.place in
    let high : s ≤ length i.sessions.items = omega (arith, place.1, c.self.invariant.0.kept.shaped.opens, length-map i.sessions.items open_seen) in
    let can : CanBegin m s = subst (λ (m : Machine). CanBegin m s) (sym c.self.view_is) c.requires.can in
    let room : length i.history.items + length i.sessions.items ≤ vec_capacity c.reserve.new.self =
    omega (arith, c.in_ok-reserve.ensures.ok, c.in_ok-reserve.ensures.len, c.len.ensures, i.history.ok.0, i.sessions.ok.0) in
    let first : ℕ = c.len-2.result + 1 in
    let starts : first ≡ length x.replies.items + 1 = omega (arith, c.len-2.ensures, x.replies.ok.0) in
    let own : Session = c.index-as_slice-place.result in
    let there : own ≡ slice_index_or (arc_value i.script).sessions (s - 1) own =
    c.index-as_slice-place.is ∙ ap (λ (xs : List Session). slice_index_or xs (s - 1) own) (c.as_slice.ensures ∙ ap (λ (script : Script). script.sessions) c.deref-2.ensures) in
    let statements : c.as_slice-statements.result.now ≡ (session_at (arc_value i.script) s).statements =
    c.as_slice-statements.ensures
    ∙ (ap (λ (a : Session). a.statements) (sym c.index-as_slice-place.is) ∙ ap (λ (a : Session). a.statements) (session_there (arc_value i.script) s own place.0 place.1 there)) in
    let below : s - 1 < length i.sessions.items = omega (arith, place.0, high) in
    let y : SessionSoFar = c.open_group-2.new.so_far in
    let same : c.index_mut-2.result.now ≡ x =
    same_item i.sessions.items (s - 1) c.index_mut-2.result.now x below c.index_mut-2.ensures.value c.index-so_far.ensures in
    let another : (x.latest ≡ 0) ⊎ ((b : BeganGroup) × (b ≡ slice_index_or i.began.items (x.latest - 1) b) × (b.first ≡ first → ⊥)) =
    subst (λ (bs : List BeganGroup). (x.latest ≡ 0) ⊎ ((b : BeganGroup) × (b ≡ slice_index_or bs (x.latest - 1) b) × (b.first ≡ first → ⊥))) c.deref.ensures.value
    (c.in_default.ensures.another refl) in
    let last : ℕ = c.last_of_group-last.result in
    let last_so : last ≡ last_from first (session_at (arc_value i.script) s).statements = c.last_of_group-last.ensures ∙ ap (λ (ss : List Statement). last_from first ss) statements in
    let began : List BeganGroup = c.push.new.self.items in
    let pushed : began ≡ i.began.items ++ record { session = s; first = first; last = last; deaths = c.new.result } ∷ [] = c.in_ok-push.ensures.items in
    let start : c.len-start.result ≡ length began = omega (arith, c.len-start.ensures, c.push.new.self.ok.0) in
    let all =
    begun_all g.N.Opened.logged (arc_value i.script) i.retries i.store i.locks i.began.items i.sessions.items i.history i.commits i.transcripts
    c.self.invariant.0 s place.0 high x (sym c.index-so_far.ensures) can.0 can.1
    c.reserve.new.self c.in_ok-reserve.ensures.items room y (c.open_group-2.ensures.replies ∙ ap (λ (z : SessionSoFar). z.replies) same) first starts
    another last last_so c.new.result c.new.ensures.items began pushed c.len-start.result start c.open_group-2.ensures.opened c.open_group-2.ensures.latest in
    let goes_on = goes_on_at g.N.Opened.logged (arc_value i.script) i.retries i.store i.locks i.began.items i.sessions.items i.history.items s place.0 (goes_has_not_ended m c.self.invariant.0.kept s (stand.Begin, can, refl)) in (
      all.1,
      least_stays (arc_value i.script).sessions i.sessions.items (s - 1) y i.least_left c.self.invariant.1 goes_on
          (λ is. open_then (arc_value i.script).sessions i.sessions.items (s - 1) y below _ c.open_group-2.ensures.opened),
    )

pub returns-clause-begins : goal.returns-clause-begins
returns-clause-begins g c =
    let i = c.self.inside in
    let s = c.args.session in
    let x : SessionSoFar = c.index-so_far.result.now in
    let m : Machine = seen g.N.Opened.logged (arc_value i.script) i.retries i.store i.locks i.began.items i.sessions.items i.history.items in
    let place : IsPlace (arc_value i.script) s = subst (λ (m : Machine). IsPlace m.script s) (sym c.self.view_is) c.requires.place in
    let high : s ≤ length i.sessions.items = omega (arith, place.1, c.self.invariant.0.kept.shaped.opens, length-map i.sessions.items open_seen) in
    let can : CanBegin m s = subst (λ (m : Machine). CanBegin m s) (sym c.self.view_is) c.requires.can in
    let room : length i.history.items + length i.sessions.items ≤ vec_capacity c.reserve.new.self =
    omega (arith, c.in_ok-reserve.ensures.ok, c.in_ok-reserve.ensures.len, c.len.ensures, i.history.ok.0, i.sessions.ok.0) in
    let first : ℕ = c.len-2.result + 1 in
    let starts : first ≡ length x.replies.items + 1 = omega (arith, c.len-2.ensures, x.replies.ok.0) in
    let own : Session = c.index-as_slice-place.result in
    let there : own ≡ slice_index_or (arc_value i.script).sessions (s - 1) own =
    c.index-as_slice-place.is ∙ ap (λ (xs : List Session). slice_index_or xs (s - 1) own) (c.as_slice.ensures ∙ ap (λ (script : Script). script.sessions) c.deref-2.ensures) in
    let statements : c.as_slice-statements.result.now ≡ (session_at (arc_value i.script) s).statements =
    c.as_slice-statements.ensures
    ∙ (ap (λ (a : Session). a.statements) (sym c.index-as_slice-place.is) ∙ ap (λ (a : Session). a.statements) (session_there (arc_value i.script) s own place.0 place.1 there)) in
    let below : s - 1 < length i.sessions.items = omega (arith, place.0, high) in
    let y : SessionSoFar = c.open_group-2.new.so_far in
    let same : c.index_mut-2.result.now ≡ x =
    same_item i.sessions.items (s - 1) c.index_mut-2.result.now x below c.index_mut-2.ensures.value c.index-so_far.ensures in
    let another : (x.latest ≡ 0) ⊎ ((b : BeganGroup) × (b ≡ slice_index_or i.began.items (x.latest - 1) b) × (b.first ≡ first → ⊥)) =
    subst (λ (bs : List BeganGroup). (x.latest ≡ 0) ⊎ ((b : BeganGroup) × (b ≡ slice_index_or bs (x.latest - 1) b) × (b.first ≡ first → ⊥))) c.deref.ensures.value
    (c.in_default.ensures.another refl) in
    let last : ℕ = c.last_of_group-last.result in
    let last_so : last ≡ last_from first (session_at (arc_value i.script) s).statements = c.last_of_group-last.ensures ∙ ap (λ (ss : List Statement). last_from first ss) statements in
    let began : List BeganGroup = c.push.new.self.items in
    let pushed : began ≡ i.began.items ++ record { session = s; first = first; last = last; deaths = c.new.result } ∷ [] = c.in_ok-push.ensures.items in
    let start : c.len-start.result ≡ length began = omega (arith, c.len-start.ensures, c.push.new.self.ok.0) in
    let all =
    begun_all g.N.Opened.logged (arc_value i.script) i.retries i.store i.locks i.began.items i.sessions.items i.history i.commits i.transcripts
    c.self.invariant.0 s place.0 high x (sym c.index-so_far.ensures) can.0 can.1
    c.reserve.new.self c.in_ok-reserve.ensures.items room y (c.open_group-2.ensures.replies ∙ ap (λ (z : SessionSoFar). z.replies) same) first starts
    another last last_so c.new.result c.new.ensures.items began pushed c.len-start.result start c.open_group-2.ensures.opened c.open_group-2.ensures.latest in
    let next : Machine = seen g.N.Opened.logged (arc_value i.script) i.retries i.store i.locks began (slice_set i.sessions.items (s - 1) y) c.reserve.new.self.items in
    subst (λ (m : Machine). Begins m s next) c.self.view_is all.0
