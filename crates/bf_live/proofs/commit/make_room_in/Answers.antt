use Rattle.std.proofs.Common.{◌≡◌, ◌≤◌, List, refl, subst, sym, ap, ◌∙◌, arith, rules}
use Rattle.std.specs.List.{All}
use Rattle.std.proofs.lemmas.Result.{on_ok_weaker}
use Rattle.bf_live.specs.Commits.{HasRoomIn, KeepRoom}
use Rattle.bf_live.specs.Live.{NamedHeap, rows_in}
use Rattle.bf_live.proofs.Heaps.{apart_nowhere, room_apart, room_left, room_made, room_same, rows_changed, unchanged}
use Rattle.bf_live.proofs.commit.make_room_in.Goals as goal

-- there are too many writes
pub returns-in_default-try_from-clause-rows : goal.returns-in_default-try_from-clause-rows
returns-in_default-try_from-clause-rows c =
    let n = c.args.table.now in
    let heaps = c.args.heaps.now.entries in
    ap rows_in (c.get_mut.follows.holds c.in-Some.heap.now).0
    ∙ rows_changed n c.in-Some.heap.now c.in-Some.heap.now (λ es. es) refl heaps c.get_mut.ensures.ordered (sym c.in-Some.ensures.value) ∙ unchanged n (rows_in heaps)

pub returns-in_default-try_from-clause-kept : goal.returns-in_default-try_from-clause-kept
returns-in_default-try_from-clause-kept c =
    let heaps = c.args.heaps.now.entries in
    subst (KeepRoom heaps) (sym (c.get_mut.follows.holds c.in-Some.heap.now).0)
    (room_left c.args.table.now c.in-Some.heap.now c.in-Some.heap.now (λ name. 0) (omega arith) heaps (sym c.in-Some.ensures.value))

-- the table is there
pub returns-in-Some-clause-rows : goal.returns-in-Some-clause-rows
returns-in-Some-clause-rows c =
    let n = c.args.table.now in
    let heaps = c.args.heaps.now.entries in
    ap rows_in (c.get_mut.follows.holds c.reserve.new.self).0
    ∙ rows_changed n c.in-Some.heap.now c.reserve.new.self (λ es. es) c.reserve.ensures.rows heaps c.get_mut.ensures.ordered (sym c.in-Some.ensures.value) ∙ unchanged n (rows_in heaps)

pub returns-in-Some-clause-kept : goal.returns-in-Some-clause-kept
returns-in-Some-clause-kept c =
    let heaps = c.args.heaps.now.entries in
    subst (KeepRoom heaps) (sym (c.get_mut.follows.holds c.reserve.new.self).0)
    (room_left c.args.table.now c.in-Some.heap.now c.reserve.new.self (λ name. 0) (omega (arith, c.reserve.ensures.kept)) heaps (sym c.in-Some.ensures.value))

pub returns-in-Some-clause-room : goal.returns-in-Some-clause-room
returns-in-Some-clause-room c =
    let n = c.args.table.now in
    let heaps = c.args.heaps.now.entries in
    let counted : c.in-Ok.more ≡ c.args.count = search rules in
    on_ok_weaker c.reserve.result
    (λ room.
    let enough : c.args.count ≤ c.reserve.new.self.spare = omega (arith, room, counted) in
    subst (λ (heaps : List NamedHeap). All (HasRoomIn n c.args.count) heaps) (sym (c.get_mut.follows.holds c.reserve.new.self).0)
    (room_made n c.in-Some.heap.now c.reserve.new.self c.args.count enough heaps c.get_mut.ensures.ordered))
    c.reserve.ensures.room

-- it is not
pub returns-clause-kept : goal.returns-clause-kept
returns-clause-kept c = subst (λ m. KeepRoom c.args.heaps.now.entries m.entries) (sym c.get_mut.follows.holds-at-none) (room_same c.args.table.now (λ name. 0) c.args.heaps.now.entries)

pub returns-clause-room : goal.returns-clause-room
returns-clause-room c =
    let n = c.args.table.now in
    subst (λ m. All (HasRoomIn n c.args.count) m.entries) (sym c.get_mut.follows.holds-at-none) (room_apart n c.args.count c.args.heaps.now.entries (apart_nowhere n c.args.heaps.now.entries (sym c.in_default.ensures.value)))
