use Rattle.std.proofs.Common.{◌≡◌, ℕ, ◌∷◌, [], ◌++◌, List, append_assoc, refl, subst, sym, ap, ◌∙◌}
use Rattle.std.specs.List.{All}
use Rattle.std.specs.Vec.Iter.{into_iter_items}
use Rattle.bf_txn.specs.declared.write.Write.{Write}
use Rattle.bf_txn.specs.Writes.{writes_in}
use Rattle.bf_live.specs.Commits.{HasRoomIn, HaveRoomFor, with_writes, with_writes_to}
use Rattle.bf_live.specs.Live.{NamedRows, rows_in}
use Rattle.bf_live.specs.Puts.{all_puts, put_writes}
use Rattle.bf_live.proofs.Putting.{counted, one_more_put}
use Rattle.bf_live.proofs.Written.{no_writes, room_behind, room_for, rows_step}
use Rattle.bf_live.proofs.puts.put_all.Goals as goal

pub loop-one-init : goal.loop-one-init
loop-one-init c =
    let left : into_iter_items c.into_iter-one-iterator.result ≡ c.args.puts.items = c.into_iter-one-iterator.ensures.into_iter_gives.0 in
    record {
      left = refl;
      rows = no_writes (rows_in c.args.heaps.now.entries);
      room = subst (λ (ps : List NamedRows). HaveRoomFor (all_puts ps) c.args.heaps.now.entries) (sym left) c.requires;
    }

pub put_in-requires : goal.put_in-requires
put_in-requires c =
    let heaps = c.loop-one.heaps.entries in
    let p : NamedRows = c.in-Some.one in
    let rest : List NamedRows = into_iter_items c.next.new.self in
    let room : HaveRoomFor (writes_in p.0 (put_writes p.1) ++ all_puts rest) heaps = subst (λ (ps : List NamedRows). HaveRoomFor (all_puts ps) heaps) c.in-Some.ensures.steps.0 c.loop-one.invariant.room in
    subst (λ (count : ℕ). All (HasRoomIn p.0 count) heaps) (counted p.1) (room_for p.0 (put_writes p.1) (all_puts rest) heaps room)

pub loop-one-preserved : goal.loop-one-preserved
loop-one-preserved c =
    let heaps = c.loop-one.heaps.entries in
    let before = rows_in c.args.heaps.now.entries in
    let inv = c.loop-one.invariant in
    let p : NamedRows = c.in-Some.one in
    let so_far : List NamedRows = c.loop-one.yielded in
    let rest : List NamedRows = into_iter_items c.next.new.self in
    let steps : into_iter_items c.loop-one.one-iterator ≡ p ∷ rest = c.in-Some.ensures.steps.0 in
    let room : HaveRoomFor (writes_in p.0 (put_writes p.1) ++ all_puts rest) heaps = subst (λ (ps : List NamedRows). HaveRoomFor (all_puts ps) heaps) steps inv.room in
    record {
      left = append_assoc so_far (p ∷ []) rest ∙ ap (λ (ps : List NamedRows). so_far ++ ps) (sym steps) ∙ inv.left;
      rows = c.put_in.ensures.rows ∙ ap (with_writes_to p.0 (put_writes p.1)) inv.rows ∙ rows_step (all_puts so_far) p.0 (put_writes p.1) before ∙ ap (λ (ws : List Write). with_writes ws before) (sym (one_more_put so_far p));
      room = room_behind p.0 (put_writes p.1) (all_puts rest) heaps c.put_in.new.heaps.entries room c.put_in.ensures.room;
    }
