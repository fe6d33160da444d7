use Rattle.std.proofs.Common.{◌≡◌, ap, ap₂, ◌∙◌}
use Rattle.std.specs.BTreeMap.{insert_entry}
use Rattle.bf_base.specs.Lists.{name_cmp}
use Rattle.bf_tree.specs.Catalogs.{Catalog}
use Rattle.bf_live.specs.Drafts.{Drafted}
use Rattle.bf_live.specs.Live.{rows_in}
use Rattle.bf_live.proofs.Paired.{one_each_with, paired_with, rows_inserted, table_not_there}
use Rattle.bf_live.proofs.draft.Draft.with_table.Goals as goal

pub add_table-requires : goal.add_table-requires
add_table-requires c =
    table_not_there c.self.inside.catalog.tables (rows_in c.self.inside.heaps.entries) c.self.invariant c.args.self.tables (ap (λ (d : Drafted). d.tables) c.self.view_is)
    c.args.table c.args.heap.entries c.requires

-- the table and its heap stand under one name
pub invariant_of-result : goal.invariant_of-result
invariant_of-result c =
    let heaps = c.self.inside.heaps.entries in
    let inserted : rows_in c.insert.new.self.entries ≡ insert_entry name_cmp (rows_in heaps) c.args.table.name c.args.heap.entries =
    ap rows_in (c.in_ok-insert.ensures.entries ∙ ap₂ (λ n h. insert_entry name_cmp heaps n h) c.in_ok-name.ensures c.of.ensures) ∙ rows_inserted c.args.table.name c.args.heap heaps in
    one_each_with c.self.inside.catalog.tables (rows_in heaps) c.self.invariant c.args.self.tables (ap (λ (d : Drafted). d.tables) c.self.view_is) c.args.table c.args.heap.entries c.requires
    c.add_table.new.self.tables (rows_in c.insert.new.self.entries) (ap (λ (catalog : Catalog). catalog.tables) c.in_ok-add_table.ensures.ok) inserted

pub returns : goal.returns
returns c =
    let heaps = c.self.inside.heaps.entries in
    let inserted : rows_in c.insert.new.self.entries ≡ insert_entry name_cmp (rows_in heaps) c.args.table.name c.args.heap.entries =
    ap rows_in (c.in_ok-insert.ensures.entries ∙ ap₂ (λ n h. insert_entry name_cmp heaps n h) c.in_ok-name.ensures c.of.ensures) ∙ rows_inserted c.args.table.name c.args.heap heaps in
    ap₂ (λ ts is. record { tables = ts; indexes = is })
    (paired_with c.self.inside.catalog.tables (rows_in heaps) c.self.invariant c.args.self.tables (ap (λ (d : Drafted). d.tables) c.self.view_is) c.args.table c.args.heap.entries c.requires
    c.add_table.new.self.tables (rows_in c.insert.new.self.entries) (ap (λ (catalog : Catalog). catalog.tables) c.in_ok-add_table.ensures.ok) inserted)
    (ap (λ (catalog : Catalog). catalog.indexes) c.in_ok-add_table.ensures.ok ∙ ap (λ (d : Drafted). d.indexes) c.self.view_is)
