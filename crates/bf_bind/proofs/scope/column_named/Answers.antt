use Rattle.std.proofs.Common.{◌≡◌, ap, sym, ◌∙◌, is_some, position, Some, None}
use Rattle.bf_bind.proofs.Columns.{has_name, has-position, column_of-named}
use Rattle.bf_bind.proofs.scope.column_named.Goals as goal

pub returns-in-Some-clause-there : goal.returns-in-Some-clause-there
returns-in-Some-clause-there c =
    let at : position (has_name c.args.table.now c.args.name.now) c.args.table.now.columns ≡ Some c.in-Some.place = cc in
    sym (has-position c.args.table.now c.args.name.now ∙ ap is_some at)

pub returns-in-Some-clause-place : goal.returns-in-Some-clause-place
returns-in-Some-clause-place c =
    let at : position (has_name c.args.table.now c.args.name.now) c.args.table.now.columns ≡ Some c.in-Some.place = cc in
    c.column_at.ensures ∙ column_of-named c.args.table.now c.args.name.now c.in-Some.place at

pub returns-in-None-clause-there : goal.returns-in-None-clause-there
returns-in-None-clause-there c =
    let at : position (has_name c.args.table.now c.args.name.now) c.args.table.now.columns ≡ None = cc in
    sym (has-position c.args.table.now c.args.name.now ∙ ap is_some at)
