use Rattle.std.proofs.Common.{◌≡◌, ◌+◌, List, rules, ap, ap₂, ◌∙◌}
use Rattle.std.specs.BTreeMap.{insert_entry}
use Rattle.std.specs.Map.{values_of}
use Rattle.bf_base.specs.declared.table.Table.{Table}
use Rattle.bf_base.specs.Lists.{name_cmp}
use Rattle.bf_tree.specs.Catalogs.{Catalog}
use Rattle.bf_tree.specs.Places.{table_named, with_new_table}
use Rattle.bf_tree.proofs.ByName.{placed_by_name, still_by_name, table_under}
use Rattle.bf_tree.proofs.catalog.Catalog.add_table.Goals as goal

pub invariant_of-self-2 : goal.invariant_of-self-2
invariant_of-self-2 c =
    let old = c.self.inside.tables.entries in
    let new : c.insert.new.self.entries ≡ insert_entry name_cmp old c.args.table.name c.args.table = c.in_ok-insert.ensures.entries ∙ ap (λ name. insert_entry name_cmp old name c.args.table) c.in_ok-name.ensures in
    let none = table_under c.args.table.name old c.self.invariant.0 ∙ ap (λ (catalog : Catalog). table_named catalog c.args.table.name) c.self.view_is ∙ c.requires in
    let still = still_by_name (λ (t : Table). t.name) c.args.table old c.insert.new.self.entries c.self.invariant.0 none c.insert.ensures.ordered new in
    (still, c.self.invariant.1)

pub returns-clause-ok : goal.returns-clause-ok
returns-clause-ok c =
    let old = c.self.inside.tables.entries in
    let new : c.insert.new.self.entries ≡ insert_entry name_cmp old c.args.table.name c.args.table = c.in_ok-insert.ensures.entries ∙ ap (λ name. insert_entry name_cmp old name c.args.table) c.in_ok-name.ensures in
    let none = table_under c.args.table.name old c.self.invariant.0 ∙ ap (λ (catalog : Catalog). table_named catalog c.args.table.name) c.self.view_is ∙ c.requires in
    let counted : c.in_ok-number.number ≡ c.self.inside.number + 1 = search rules in
    let placed = ap values_of new ∙ placed_by_name (λ (t : Table). t.name) c.args.table old c.self.invariant.0.own none in
    ap₂ (λ n (items : List Table). record { number = n; tables = items; indexes = values_of c.self.inside.indexes.entries }) counted placed ∙ ap (with_new_table c.args.table) c.self.view_is
