-- What binding a statement gives.
use Rattle.std.specs.Prelude.{Bool, Some, Result}
use Rattle.bf_sql.specs.Bound.{action_of}
use Rattle.bf_sql.specs.Database.{Database}
use Rattle.bf_sql.specs.Objections.{objections}
use Rattle.bf_tree.specs.Settling.{Settles}
use Rattle.bf_tree.specs.declared.bound.Action.{Action}
use Rattle.bf_tree.specs.declared.statement.Statement.{Statement}
use Rattle.bf_tree.specs.declared.statement_error.StatementError.{StatementError}
use Rattle.bf_bind.specs.Parts.{seen_as}

-- a statement's action where the catalog has nothing against the statement, in a block or outside, or the first objection
unfoldable pub Binds : Result Action StatementError → Database → Bool → Statement → Type 0
Binds result db in_block s = Settles (seen_as Some result) (objections db in_block s) (action_of db s)
