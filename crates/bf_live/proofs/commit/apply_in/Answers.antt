use Rattle.std.proofs.Common.{◌≡◌, fold, refl, subst, sym, ap, ◌∙◌, arith}
use Rattle.bf_live.specs.Merged.{applied_to}
use Rattle.bf_live.specs.Commits.{LeaveRoom, key_puts, taken_by}
use Rattle.bf_live.specs.Live.{rows_in}
use Rattle.bf_live.proofs.Heaps.{apart_nowhere, is_same, room_found, room_left, room_same, rows_apart, rows_changed}
use Rattle.bf_live.proofs.commit.apply_in.Goals as goal

pub change_all-requires : goal.change_all-requires
change_all-requires c = room_found c.args.table.now (key_puts c.args.writes) c.args.heaps.now.entries c.in-Some.heap.now c.requires (sym c.in-Some.ensures.value)

pub returns-in-Some-clause-rows : goal.returns-in-Some-clause-rows
returns-in-Some-clause-rows c =
    ap rows_in (c.get_mut.follows.holds c.change_all.new.heap).0
    ∙ rows_changed c.args.table.now c.in-Some.heap.now c.change_all.new.heap (λ es. fold applied_to es c.args.writes) c.change_all.ensures.entries c.args.heaps.now.entries c.get_mut.ensures.ordered (sym c.in-Some.ensures.value)

pub returns-in-Some-clause-room : goal.returns-in-Some-clause-room
returns-in-Some-clause-room c =
    let n = c.args.table.now in
    let heaps = c.args.heaps.now.entries in
    let taken : taken_by n c.args.writes n ≡ key_puts c.args.writes = rw (is_same n n refl) refl in
    subst (LeaveRoom (taken_by n c.args.writes) heaps) (sym (c.get_mut.follows.holds c.change_all.new.heap).0)
    (room_left n c.in-Some.heap.now c.change_all.new.heap (taken_by n c.args.writes) (omega (arith, c.change_all.ensures.spare, taken)) heaps (sym c.in-Some.ensures.value))

pub returns-in_default-clause-rows : goal.returns-in_default-clause-rows
returns-in_default-clause-rows c =
    let n = c.args.table.now in
    let heaps = c.args.heaps.now.entries in
    ap (λ m. rows_in m.entries) c.get_mut.follows.holds-at-none ∙ sym (rows_apart n (λ es. fold applied_to es c.args.writes) heaps (apart_nowhere n heaps (sym c.in_default.ensures.value)))

pub returns-in_default-clause-room : goal.returns-in_default-clause-room
returns-in_default-clause-room c =
    let n = c.args.table.now in
    subst (λ m. LeaveRoom (taken_by n c.args.writes) c.args.heaps.now.entries m.entries) (sym c.get_mut.follows.holds-at-none) (room_same n (taken_by n c.args.writes) c.args.heaps.now.entries)
