-- The statements of a block.
use Rattle.std.specs.Prelude.{◌≡◌, ℕ, ◌+◌, List, [], ◌∷◌, length, Some}
use Rattle.bf_tree.specs.declared.statement.Statement.{Statement}
use Rattle.bf_sql.specs.Groups.{groups_from}

-- statements that go on with a block, of which the last alone may end it
pub record IsInBlock (ss : List Statement) : Type 0 where
  pub group : (n began : ℕ) → groups_from (n + 1) (Some began) ss ≡ (began, n + length ss) ∷ []
