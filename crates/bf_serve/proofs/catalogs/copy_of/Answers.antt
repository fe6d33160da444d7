-- Each table, and each index rule, comes behind those before.
use Rattle.std.proofs.Common.{◌≡◌, List, [], ◌∷◌, ◌++◌, map, sym, ap, ◌∙◌, append_assoc}
use Rattle.std.specs.Map.Iter.{deref}
use Rattle.std.proofs.lemmas.List.{map-append}
use Rattle.bf_base.specs.declared.table.Table.{Table}
use Rattle.bf_tree.specs.Catalogs.{Catalog}
use Rattle.bf_tree.specs.declared.catalog.IndexRule.{IndexRule}
use Rattle.bf_serve.proofs.threads.Copying.{index_added, index_new, table_added, table_new}
use Rattle.bf_serve.proofs.catalogs.copy_of.Goals as goal

pub add_table-requires : goal.add_table-requires
add_table-requires c =
    let so_far = map deref c.loop-table.yielded in
    let t = c.in-Some.table.now in
    let rest = c.next.new.self in
    let whole : so_far ++ t ∷ rest ≡ c.args.catalog.now.tables = ap (λ (ts : List Table). so_far ++ ts) (sym c.in-Some.ensures.steps) ∙ c.loop-table.invariant.left in
    table_new c.args.catalog.now c.loop-table.copy so_far rest t c.in_ok-copy.field-0 c.tables-table-items.ensures.by_name c.in_ok-copy.ensures whole c.loop-table.invariant.built

pub loop-table-preserved : goal.loop-table-preserved
loop-table-preserved c =
    let so_far = map deref c.loop-table.yielded in
    let t = c.in-Some.table.now in
    let rest = c.next.new.self in
    let whole : so_far ++ t ∷ rest ≡ c.args.catalog.now.tables = ap (λ (ts : List Table). so_far ++ ts) (sym c.in-Some.ensures.steps) ∙ c.loop-table.invariant.left in
    let more : map deref (c.loop-table.yielded ++ c.in-Some.table ∷ []) ≡ so_far ++ t ∷ [] = map-append deref c.loop-table.yielded (c.in-Some.table ∷ []) in
    let now = c.add_table.new.self in
    record {
      can = tt;
      ends = tt;
      left = ap (λ (ts : List Table). ts ++ rest) more ∙ (append_assoc so_far (t ∷ []) rest ∙ whole);
      built =
          table_added c.args.catalog.now c.loop-table.copy so_far rest t c.in_ok-copy.field-0 c.tables-table-items.ensures.by_name c.in_ok-copy.ensures whole c.loop-table.invariant.built now c.in_ok-add_table.ensures.ok
          ∙ ap (λ (ts : List Table). let made : Catalog = record { number = now.number; tables = ts; indexes = [] } in made) (sym more);
    }

pub add_index-requires : goal.add_index-requires
add_index-requires c =
    let so_far = map deref c.loop-index.yielded in
    let r = c.in-Some-index.index.now in
    let rest = c.next-in-loop-index.new.self in
    let whole : so_far ++ r ∷ rest ≡ c.args.catalog.now.indexes = ap (λ (rs : List IndexRule). so_far ++ rs) (sym c.in-Some-index.ensures.steps) ∙ c.loop-index.invariant.left in
    index_new c.args.catalog.now c.loop-index.copy so_far rest r c.in_ok-copy-2.field-0 c.indexes-index-items.ensures.by_name c.in_ok-copy-2.ensures whole c.loop-index.invariant.built

pub loop-index-preserved : goal.loop-index-preserved
loop-index-preserved c =
    let so_far = map deref c.loop-index.yielded in
    let r = c.in-Some-index.index.now in
    let rest = c.next-in-loop-index.new.self in
    let whole : so_far ++ r ∷ rest ≡ c.args.catalog.now.indexes = ap (λ (rs : List IndexRule). so_far ++ rs) (sym c.in-Some-index.ensures.steps) ∙ c.loop-index.invariant.left in
    let more : map deref (c.loop-index.yielded ++ c.in-Some-index.index ∷ []) ≡ so_far ++ r ∷ [] = map-append deref c.loop-index.yielded (c.in-Some-index.index ∷ []) in
    let now = c.add_index.new.self in
    record {
      can = tt;
      ends = tt;
      left = ap (λ (rs : List IndexRule). rs ++ rest) more ∙ (append_assoc so_far (r ∷ []) rest ∙ whole);
      built =
          index_added c.args.catalog.now c.loop-index.copy so_far rest r c.in_ok-copy-2.field-0 c.indexes-index-items.ensures.by_name c.in_ok-copy-2.ensures whole c.loop-index.invariant.built now c.in_ok-add_index.ensures.ok
          ∙ ap (λ (rs : List IndexRule). let made : Catalog = record { number = now.number; tables = c.args.catalog.now.tables; indexes = rs } in made) (sym more);
    }
