use Rattle.std.proofs.Common.{◌≡◌, ◌++◌, ◌∷◌, [], ℕ, Bor, List, map, subst, sym, ap, ◌∙◌}
use Rattle.std.specs.Map.Iter.{deref_pair}
use Rattle.std.proofs.lemmas.List.{map-append}
use Rattle.bf_txn.specs.declared.write.Write.{Write}
use Rattle.bf_txn.specs.Writes.{AreTables, KeyWrite, OfTable, all_writes, writes_in}
use Rattle.std.specs.List.{All}
use Rattle.bf_live.specs.Commits.{HasRoomIn, HaveRoomSoFar}
use Rattle.bf_live.proofs.Written.{next_left, one_more, own_puts, room_step}
use Rattle.bf_live.proofs.commit.make_room.Goals as goal

-- the table's heap has room for all writes to the table
pub loop-table-preserved : goal.loop-table-preserved
loop-table-preserved c =
    let all = c.args.writes.now in
    let now = c.make_room_in.new.heaps.entries in
    let inv = c.loop-table.invariant in
    let item : Bor (List ℕ) × Bor (List KeyWrite) = (c.in-Some.table, c.in-Some.writes) in
    let n = c.in-Some.table.now in
    let ws = c.in-Some.writes.now in
    let so_far = map deref_pair c.loop-table.yielded in
    let next : all_writes (map deref_pair (c.loop-table.yielded ++ item ∷ [])) ≡ all_writes so_far ++ writes_in n ws = ap all_writes (map-append deref_pair c.loop-table.yielded (item ∷ [])) ∙ one_more so_far (n, ws) in
    let steps : so_far ++ (n, ws) ∷ c.next.new.self ≡ so_far ++ c.loop-table.table-iterator = ap (λ (ts : List OfTable). so_far ++ ts) (sym c.in-Some.ensures.steps) in
    let own = own_puts so_far c.next.new.self (n, ws) all (subst AreTables (sym steps) inv.tables) (ap all_writes steps ∙ inv.left) in
    let still = next_left deref_pair c.loop-table.yielded item c.loop-table.table-iterator c.next.new.self c.in-Some.ensures.steps in
    record {
      left = ap all_writes still ∙ inv.left;
      tables = subst AreTables (sym still) inv.tables;
      rows = c.make_room_in.ensures.rows ∙ inv.rows;
      room = subst (λ (first : List Write). HaveRoomSoFar first all now) (sym next) (room_step (all_writes so_far) all n ws c.loop-table.heaps.entries now own inv.room c.make_room_in.ensures.kept (subst (λ (count : ℕ). All (HasRoomIn n count) now) c.count_puts.ensures c.in_ok-make_room_in.ensures.room));
    }
