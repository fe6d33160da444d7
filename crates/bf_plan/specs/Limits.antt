-- What making a statement ready asks of the catalog and of the statement.
use Rattle.bf_tree.specs.Catalogs.{Catalog}
use Rattle.bf_tree.specs.Limits.{KeepsLimits, IsNarrowIfMigrate}
use Rattle.bf_tree.specs.declared.statement.Statement.{Statement}

-- what `bind` asks, and what a plan asks where the statement is a MIGRATE
pub record KeepsPlanLimits (catalog : Catalog) (s : Statement) : Type 0 where
  pub bound : KeepsLimits catalog s
  pub planned : IsNarrowIfMigrate s
