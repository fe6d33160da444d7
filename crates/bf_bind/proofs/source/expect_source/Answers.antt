use Rattle.std.proofs.Common.{◌≡◌, Bor, Option, Some, None, ap, sym, ◌∙◌}
use Rattle.std.specs.Option.{option_copied}
use Rattle.bf_base.specs.declared.table.Table.{Table}
use Rattle.bf_tree.specs.Places.{table_named}
use Rattle.bf_bind.proofs.Lookups.{narrow_named}
use Rattle.bf_bind.proofs.ArmSources.{not_there, there}
use Rattle.bf_bind.proofs.source.expect_source.Goals as goal

pub returns-in-Some-clause-table : goal.returns-in-Some-clause-table
returns-in-Some-clause-table c =
    let is : Some c.in-Some.table.now ≡ table_named c.args.catalog.now c.args.name.now = ap (λ (o : Option (Bor Table)). option_copied o) (sym c.in-Some.is) ∙ c.table.ensures in
    there c.args.catalog.now c.args.name.now c.in-Some.table.now is

pub returns-in-Some-clause-narrow : goal.returns-in-Some-clause-narrow
returns-in-Some-clause-narrow c =
    let is : Some c.in-Some.table.now ≡ table_named c.args.catalog.now c.args.name.now = ap (λ (o : Option (Bor Table)). option_copied o) (sym c.in-Some.is) ∙ c.table.ensures in
    narrow_named c.args.catalog.now c.requires.narrow c.args.name.now c.in-Some.table.now (sym is)

pub returns-in_ok-copy-in-None-clause-table : goal.returns-in_ok-copy-in-None-clause-table
returns-in_ok-copy-in-None-clause-table c =
    let is : None ≡ table_named c.args.catalog.now c.args.name.now = ap (λ (o : Option (Bor Table)). option_copied o) (sym c.in-None.is) ∙ c.table.ensures in
    rw c.in_ok-copy-in-None.ensures (not_there c.args.catalog.now c.args.name.now is)
