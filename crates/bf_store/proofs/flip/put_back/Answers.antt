-- Each table's rows come back into it.
use Rattle.std.proofs.Common.{◌≡◌, List, Some, map, sym, ap, subst, ◌∙◌}
use Rattle.std.specs.Prelude.{fold}
use Rattle.std.specs.Vec.Iter.{into_iter_items}
use Rattle.bf_heap.specs.Heaps.{Entry}
use Rattle.bf_live.specs.Meanings.{entries_of}
use Rattle.bf_sql.specs.Database.{Database, IsDatabase, Stored, stored_at, with_rows}
use Rattle.bf_image.specs.declared.migration.Frozen.{Frozen}
use Rattle.bf_store.specs.Flips.{MayComeBack, with_back}
use Rattle.bf_store.proofs.flip.put_back.Goals as goal

pub put_rows-requires-clause-own_keys : goal.put_rows-requires-clause-own_keys
put_rows-requires-clause-own_keys c =
    let live = c.loop-old.live in
    let may = subst (λ (fs : List Frozen). MayComeBack live fs) c.in-Some.ensures.steps.0 c.loop-old.invariant.may in
    let name = c.in-Some.old.table.name in
    subst (λ (entries : List Entry). (s : Stored) → stored_at live name ≡ Some s → entries ≡ entries_of s.table (map (λ (e : Entry). e.1) entries)) (sym c.into_indexed_heap.ensures.entries) may.0.own_keys

pub put_rows-requires-clause-database : goal.put_rows-requires-clause-database
put_rows-requires-clause-database c =
    let live = c.loop-old.live in
    let may = subst (λ (fs : List Frozen). MayComeBack live fs) c.in-Some.ensures.steps.0 c.loop-old.invariant.may in
    let name = c.in-Some.old.table.name in
    subst (λ (entries : List Entry). IsDatabase (with_rows live name (map (λ (e : Entry). e.1) entries))) (sym c.into_indexed_heap.ensures.entries) may.0.database

pub loop-old-preserved : goal.loop-old-preserved
loop-old-preserved c =
    let live = c.loop-old.live in
    let inv = c.loop-old.invariant in
    let old = c.in-Some.old in
    let steps = c.in-Some.ensures.steps.0 in
    let may = subst (λ (fs : List Frozen). MayComeBack live fs) steps inv.may in
    let rest = into_iter_items c.next.new.self in
    let next : c.put_rows.new.self ≡ with_back live old = c.put_rows.ensures ∙ ap (λ (entries : List Entry). with_rows live old.table.name (map (λ (e : Entry). e.1) entries)) c.into_indexed_heap.ensures.entries in
    record {
      can = tt;
      ends = tt;
      may = subst (λ (db : Database). MayComeBack db rest) (sym next) may.1;
      back = ap (λ (db : Database). fold with_back db rest) next ∙ sym (ap (λ (fs : List Frozen). fold with_back live fs) steps) ∙ inv.back;
    }
