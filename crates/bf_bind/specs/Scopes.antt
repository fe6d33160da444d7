-- The tables whose columns refs are looked up in.
use Rattle.std.specs.Prelude.{◌≤◌, ◌++◌, length, Option, Some, None, IfSome}
use Rattle.bf_base.specs.Limits.{most_columns}
use Rattle.bf_base.specs.declared.table.Table.{Table}
use Rattle.bf_sql.specs.Scopes.{Scope, scope_of}

-- the columns of a table, then those of the other one if there is one
abbrev pub scope_over : Table → Option Table → Scope
scope_over from None = scope_of from
scope_over from (Some join) = scope_of from ++ scope_of join

-- neither has more columns than a table may have
pub record AreNarrow (one : Table) (other : Option Table) : Type 0 where
  pub from : length one.columns ≤ most_columns
  pub join : IfSome other (λ table. length table.columns ≤ most_columns)
