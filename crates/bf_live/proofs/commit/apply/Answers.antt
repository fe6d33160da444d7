use Rattle.std.proofs.Common.{◌≡◌, List, [], ◌∷◌, ◌++◌, ap, subst, sym, ◌∙◌, append_assoc}
use Rattle.bf_txn.specs.declared.write.Write.{Write}
use Rattle.bf_txn.specs.Writes.{OfTable, all_writes, writes_in}
use Rattle.bf_live.specs.Commits.{HaveRoomFor, with_writes, with_writes_to}
use Rattle.bf_live.specs.Live.{rows_in}
use Rattle.bf_live.proofs.Written.{no_writes, one_more, room_behind, room_for, rows_step}
use Rattle.bf_live.proofs.commit.apply.Goals as goal

pub loop-table-init : goal.loop-table-init
loop-table-init c =
    let left : all_writes c.into_iter-table-iterator.result ≡ c.args.writes = ap all_writes c.into_iter-table-iterator.ensures.into_iter_gives ∙ c.into_tables-table-items.ensures.writes in
    record {
      left = left;
      rows = no_writes (rows_in c.args.heaps.now.entries);
      room = subst (λ (ws : List Write). HaveRoomFor ws c.args.heaps.now.entries) (sym left) c.requires;
    }

pub apply_in-requires : goal.apply_in-requires
apply_in-requires c =
    let heaps = c.loop-table.heaps.entries in
    room_for c.in-Some.table c.in-Some.writes (all_writes c.next.new.self) heaps
    (subst (λ (ts : List OfTable). HaveRoomFor (all_writes ts) heaps) c.in-Some.ensures.steps c.loop-table.invariant.room)

pub loop-table-preserved : goal.loop-table-preserved
loop-table-preserved c =
    let heaps = c.loop-table.heaps.entries in
    let before = rows_in c.args.heaps.now.entries in
    let inv = c.loop-table.invariant in
    let n = c.in-Some.table in
    let ws = c.in-Some.writes in
    let item : OfTable = (n, ws) in
    let so_far = c.loop-table.yielded in
    let rest = all_writes c.next.new.self in
    let room : HaveRoomFor (writes_in n ws ++ rest) heaps = subst (λ (ts : List OfTable). HaveRoomFor (all_writes ts) heaps) c.in-Some.ensures.steps inv.room in
    record {
      left = ap all_writes (append_assoc so_far (item ∷ []) c.next.new.self ∙ ap (λ (ts : List OfTable). so_far ++ ts) (sym c.in-Some.ensures.steps)) ∙ inv.left;
      rows = c.apply_in.ensures.rows ∙ ap (with_writes_to n ws) inv.rows ∙ rows_step (all_writes so_far) n ws before ∙ ap (λ (ws : List Write). with_writes ws before) (sym (one_more so_far item));
      room = room_behind n ws rest heaps c.apply_in.new.heaps.entries room c.apply_in.ensures.room;
    }
