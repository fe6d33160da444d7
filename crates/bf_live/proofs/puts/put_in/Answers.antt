use Rattle.std.proofs.Common.{◌≡◌, fold, length, refl, subst, sym, ap, ◌∙◌, arith}
use Rattle.std.specs.List.{All}
use Rattle.bf_live.specs.Merged.{applied_to}
use Rattle.bf_live.specs.Commits.{HasRoomIn, LeaveRoom, taken_by, with_writes_to}
use Rattle.bf_live.specs.Live.{NamedRows, rows_in}
use Rattle.bf_live.specs.Puts.{put_writes}
use Rattle.bf_live.proofs.Heaps.{apart_nowhere, is_same, room_found, room_left, room_same, rows_apart, rows_changed, with_heap}
use Rattle.bf_live.proofs.Putting.{counted}
use Rattle.bf_live.proofs.puts.put_in.Goals as goal

pub put_each-requires : goal.put_each-requires
put_each-requires c =
    let heaps = c.args.heaps.now.entries in
    room_found c.puts.inside.table (length c.puts.inside.rows.items) heaps c.in-Some.heap.now (subst (λ (q : NamedRows). All (HasRoomIn q.0 (length q.1)) heaps) (sym c.puts.view_is) c.requires) (sym c.in-Some.ensures.value)

pub returns-in-Some-clause-rows : goal.returns-in-Some-clause-rows
returns-in-Some-clause-rows c =
    let n = c.puts.inside.table in
    let ws = put_writes c.puts.inside.rows.items in
    let heaps = c.args.heaps.now.entries in
    ap rows_in (c.get_mut.follows.holds c.put_each.new.heap).0
    ∙ rows_changed n c.in-Some.heap.now c.put_each.new.heap (λ es. fold applied_to es ws) c.put_each.ensures.entries heaps c.get_mut.ensures.ordered (sym c.in-Some.ensures.value)
    ∙ ap (λ (q : NamedRows). with_writes_to q.0 (put_writes q.1) (rows_in heaps)) c.puts.view_is

pub returns-in-Some-clause-room : goal.returns-in-Some-clause-room
returns-in-Some-clause-room c =
    let n = c.puts.inside.table in
    let rows = c.puts.inside.rows.items in
    let heaps = c.args.heaps.now.entries in
    let taken : taken_by n (put_writes rows) n ≡ length rows = rw (is_same n n refl) (counted rows) in
    let now = (c.get_mut.follows.holds c.put_each.new.heap).0 in
    subst (LeaveRoom (taken_by c.args.puts.0 (put_writes c.args.puts.1)) heaps) (sym now)
    (subst (λ (q : NamedRows). LeaveRoom (taken_by q.0 (put_writes q.1)) heaps (with_heap n c.in-Some.heap.now c.put_each.new.heap heaps)) c.puts.view_is
    (room_left n c.in-Some.heap.now c.put_each.new.heap (taken_by n (put_writes rows)) (omega (arith, c.put_each.ensures.spare, taken)) heaps (sym c.in-Some.ensures.value)))

pub returns-clause-rows : goal.returns-clause-rows
returns-clause-rows c =
    let n = c.puts.inside.table in
    let ws = put_writes c.puts.inside.rows.items in
    let heaps = c.args.heaps.now.entries in
    ap (λ m. rows_in m.entries) c.get_mut.follows.holds-at-none ∙ sym (rows_apart n (λ es. fold applied_to es ws) heaps (apart_nowhere n heaps (sym c.in_default.ensures.value)))
    ∙ ap (λ (q : NamedRows). with_writes_to q.0 (put_writes q.1) (rows_in heaps)) c.puts.view_is

pub returns-clause-room : goal.returns-clause-room
returns-clause-room c =
    let p : NamedRows = c.args.puts in
    subst (λ m. LeaveRoom (taken_by p.0 (put_writes p.1)) c.args.heaps.now.entries m.entries) (sym c.get_mut.follows.holds-at-none) (room_same p.0 (taken_by p.0 (put_writes p.1)) c.args.heaps.now.entries)
