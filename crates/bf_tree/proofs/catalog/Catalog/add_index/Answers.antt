use Rattle.std.proofs.Common.{◌≡◌, ◌+◌, List, rules, ap, ap₂, ◌∙◌}
use Rattle.std.specs.BTreeMap.{insert_entry}
use Rattle.std.specs.Map.{values_of}
use Rattle.bf_tree.specs.declared.catalog.IndexRule.{IndexRule}
use Rattle.bf_base.specs.Lists.{name_cmp}
use Rattle.bf_tree.specs.Catalogs.{Catalog}
use Rattle.bf_tree.specs.Places.{index_named, with_new_index}
use Rattle.bf_tree.proofs.ByName.{placed_by_name, still_by_name, index_under}
use Rattle.bf_tree.proofs.catalog.Catalog.add_index.Goals as goal

pub invariant_of-self-2 : goal.invariant_of-self-2
invariant_of-self-2 c =
    let old = c.self.inside.indexes.entries in
    let new : c.insert.new.self.entries ≡ insert_entry name_cmp old c.args.index.name c.args.index = c.in_ok-insert.ensures.entries ∙ ap (λ name. insert_entry name_cmp old name c.args.index) c.in_ok-name.ensures in
    let none = index_under c.args.index.name old c.self.invariant.1 ∙ ap (λ (catalog : Catalog). index_named catalog c.args.index.name) c.self.view_is ∙ c.requires in
    let still = still_by_name (λ (i : IndexRule). i.name) c.args.index old c.insert.new.self.entries c.self.invariant.1 none c.insert.ensures.ordered new in
    (c.self.invariant.0, still)

pub returns-clause-ok : goal.returns-clause-ok
returns-clause-ok c =
    let old = c.self.inside.indexes.entries in
    let new : c.insert.new.self.entries ≡ insert_entry name_cmp old c.args.index.name c.args.index = c.in_ok-insert.ensures.entries ∙ ap (λ name. insert_entry name_cmp old name c.args.index) c.in_ok-name.ensures in
    let none = index_under c.args.index.name old c.self.invariant.1 ∙ ap (λ (catalog : Catalog). index_named catalog c.args.index.name) c.self.view_is ∙ c.requires in
    let counted : c.in_ok-number.number ≡ c.self.inside.number + 1 = search rules in
    let placed = ap values_of new ∙ placed_by_name (λ (i : IndexRule). i.name) c.args.index old c.self.invariant.1.own none in
    ap₂ (λ n (items : List IndexRule). record { number = n; tables = values_of c.self.inside.tables.entries; indexes = items }) counted placed ∙ ap (with_new_index c.args.index) c.self.view_is
