-- Statements that are each a transaction of its own and move nothing.
use Rattle.std.specs.Prelude.{Bool, true, false}
use Rattle.bf_tree.specs.declared.statement.Statement.{Statement}
use Rattle.bf_tree.specs.declared.statement.Statement.TheVariants.{Begin, Commit, Rollback, Migrate}

-- neither a word of a block nor a MIGRATE
abbrev pub is_autocommit : Statement → Bool
is_autocommit Begin = false
is_autocommit Commit = false
is_autocommit Rollback = false
is_autocommit (Migrate migrate) = false
is_autocommit other = true
