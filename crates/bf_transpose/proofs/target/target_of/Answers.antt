use Rattle.std.proofs.Common.{List, ap, ◌∙◌}
use Rattle.std.specs.Prelude.{position}
use Rattle.bf_base.specs.declared.table.Table.{Table}
use Rattle.bf_sql.specs.Database.{same_table}
use Rattle.bf_transpose.proofs.Numbered.{its_number, no_target}
use Rattle.bf_transpose.proofs.target.target_of.Goals as goal

pub returns-in_default-clause-target : goal.returns-in_default-clause-target
returns-in_default-clause-target c =
    let table = c.args.table.now in
    let nowhere = c.in_default.ensures ∙ ap (λ (tables : List Table). position (λ made. same_table made table) tables) c.as_slice.ensures in
    no_target c.args.migration.now c.requires table nowhere

pub returns-clause-target : goal.returns-clause-target
returns-clause-target c =
    let table = c.args.table.now in
    let there = c.in-Some.ensures ∙ ap (λ (tables : List Table). position (λ made. same_table made table) tables) c.as_slice.ensures in
    its_number c.args.migration.now c.requires table c.in-Some.place there
