-- Statements that leave the schema.
use Rattle.std.proofs.Common.{◌≡◌, Bool, true, false, refl}
use Rattle.bf_tree.specs.declared.statement.Statement.{Statement}
use Rattle.bf_tree.specs.declared.statement.Statement.TheVariants.{CreateTable, CreateIndex, Migrate}
use Rattle.bf_sql.specs.Bound.{changes_schema, is_planned}

-- in a block no statement changes the schema
pub none_in_block : (s : Statement) → changes_schema true s ≡ false
none_in_block (CreateTable name rules key) = refl
none_in_block (CreateIndex name table columns) = refl
none_in_block (Migrate migrate) = refl
none_in_block other = refl

-- what leaves the schema is not planned
pub not_planned : (in_block : Bool) (s : Statement) → changes_schema in_block s ≡ false → is_planned in_block s ≡ false
not_planned true s leaves = refl
not_planned false (Migrate migrate) leaves = absurd cc
not_planned false other leaves = refl
