use Rattle.std.proofs.Common.{◌≡◌, ℕ, ◌+◌, ◌<◌, ◌∷◌, [], ◌++◌, List, Some, get_or, length, take, subst, sym, ap, ◌∙◌, arith}
use Rattle.std.specs.Prelude.{slice_get}
use Rattle.std.specs.List.{All}
use Rattle.std.proofs.lemmas.List.{take_more}
use Rattle.std.proofs.lemmas.Option.{slice_get-get_or}
use Rattle.bf_txn.specs.declared.write.Write.{Write}
use Rattle.bf_txn.specs.Writes.{writes_in, writes_to}
use Rattle.bf_live.specs.Commits.{HasRoomIn, HaveRoomSoFar, key_puts, puts}
use Rattle.bf_live.specs.Live.{NamedRows}
use Rattle.bf_live.specs.Puts.{all_puts, put_writes}
use Rattle.bf_live.proofs.Putting.{counted, one_more_put, own_count}
use Rattle.bf_live.proofs.Written.{room_step}
use Rattle.bf_live.proofs.puts.make_room_for.Goals as goal

-- the table's heap has room for all rows that are put there
pub loop-one-preserved : goal.loop-one-preserved
loop-one-preserved c =
    let all = c.args.puts.now in
    let i = c.loop-one.one-index in
    let p : NamedRows = c.one-item.result in
    let heaps = c.loop-one.heaps.entries in
    let now = c.make_room_in.new.heaps.entries in
    let inv = c.loop-one.invariant in
    let in_range : i < length all = c.loop-one-test.true in
    let is : p ≡ get_or all i p = c.one-item.is in
    let next : all_puts (take (i + 1) all) ≡ all_puts (take i all) ++ writes_in p.0 (put_writes p.1) =
    ap all_puts (take_more all i p in_range ∙ ap (λ (q : NamedRows). take i all ++ q ∷ []) (sym is)) ∙ one_more_put (take i all) p in
    let at : slice_get all i ≡ Some p = slice_get-get_or all i p in_range ∙ ap (λ (q : NamedRows). Some q) (sym is) in
    let own : key_puts (put_writes p.1) ≡ puts (writes_to p.0 (all_puts all)) = counted p.1 ∙ sym (own_count all i p c.requires at) in
    let rows : length c.one.inside.rows.items ≡ length p.1 = ap (λ (q : NamedRows). length q.1) c.one.view_is in
    let count : c.len.result ≡ key_puts (put_writes p.1) = omega (arith, c.len.ensures, c.one.inside.rows.ok.0, rows, counted p.1) in
    let named : c.one.inside.table ≡ p.0 = ap (λ (q : NamedRows). q.0) c.one.view_is in
    let room : All (HasRoomIn p.0 (key_puts (put_writes p.1))) now = subst (λ (q : List ℕ × ℕ). All (HasRoomIn q.0 q.1) now) (λ k. (named k, count k)) c.in_ok-make_room_in.ensures.room in
    record {
      rows = c.make_room_in.ensures.rows ∙ inv.rows;
      room = subst (λ (first : List Write). HaveRoomSoFar first (all_puts all) now) (sym next) (room_step (all_puts (take i all)) (all_puts all) p.0 (put_writes p.1) heaps now own inv.room c.make_room_in.ensures.kept room);
    }
