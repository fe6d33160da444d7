use Rattle.std.proofs.Common.{◌≡◌, ℕ, Option, Some, None, position, sym, ap, ◌∙◌}
use Rattle.std.specs.Option.{option_map}
use Rattle.bf_base.specs.declared.table.Column.{Column}
use Rattle.bf_sql.specs.Scopes.{scope_of}
use Rattle.bf_bind.specs.Parts.{column_at, means}
use Rattle.bf_bind.proofs.Columns.{first_meant-table}
use Rattle.bf_bind.proofs.scope.first_in.Goals as goal

pub returns-in-Some-clause-first : goal.returns-in-Some-clause-first
returns-in-Some-clause-first c =
    let table = c.args.table.now in
    let at : position (λ (x : Column). means c.args.reference.now (table.name, x)) table.columns ≡ Some c.in-Some.place = cc in
    ap Some c.column_at.ensures ∙ sym (first_meant-table table c.args.reference.now ∙ ap (λ (o : Option ℕ). option_map (column_at (scope_of table)) o) at)

pub returns-in-None-clause-first : goal.returns-in-None-clause-first
returns-in-None-clause-first c =
    let table = c.args.table.now in
    let at : position (λ (x : Column). means c.args.reference.now (table.name, x)) table.columns ≡ None = cc in
    sym (first_meant-table table c.args.reference.now ∙ ap (λ (o : Option ℕ). option_map (column_at (scope_of table)) o) at)
