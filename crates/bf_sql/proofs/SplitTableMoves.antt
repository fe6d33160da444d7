-- The granules of a table that is split in two are its rows.
use Rattle.std.specs.Prelude.{◌≡◌, false, [], ◌∷◌, map, Some, None, codes, refl}
use Rattle.bf_base.specs.declared.value.Value.TheVariants.{Text}
use Rattle.bf_base.specs.declared.table.Admit.TheVariants as admits
use Rattle.bf_base.specs.declared.table.Table.{Table}
use Rattle.bf_base.specs.declared.granule.Place.TheVariants.{Row}
use Rattle.bf_tree.specs.declared.compare.Compare.TheVariants as compare
use Rattle.bf_tree.specs.Trees.{literal, column, always, compared}
use Rattle.bf_tree.specs.declared.items.Aggregate.TheVariants as total
use Rattle.bf_tree.specs.declared.items.Items.TheVariants as items
use Rattle.bf_tree.specs.declared.bound.Action.TheVariants as action
use Rattle.bf_tree.specs.declared.migration.Item.TheVariants as item
use Rattle.bf_tree.specs.declared.statement.Statement.TheVariants as statement
use Rattle.bf_tree.specs.declared.migration.Migrate.{Migrate}
use Rattle.bf_sql.specs.Database.{Database}
use Rattle.bf_sql.specs.Scopes.{unqualified}
use Rattle.bf_sql.specs.migrations.Images.{flipped}
use Rattle.bf_sql.specs.migrations.Granules.{granule, granules_of, part_of}
use Rattle.bf_sql.specs.migrations.Need.{needed, needed_by}
use Rattle.bf_sql.specs.migrations.Lazy.{view_of, flipped_lazily}
use Rattle.bf_sql.proofs.Spelling.{one, number, arm, target, migration, table, column_of, stored, database, by_name, at_rest}

abbrev pub old : Database
old = database 1 (one (stored (table (codes "cust") (column_of (codes "id") admits.Int ∷ column_of (codes "name") (admits.Varchar 20) ∷ column_of (codes "pin") admits.Int ∷ []) (one 0)) (
    (number 1 ∷ Text (codes "Ann") ∷ number 11 ∷ [])
    ∷ (number 2 ∷ Text (codes "Bob") ∷ number 22 ∷ [])
    ∷ (number 3 ∷ Text (codes "Cy") ∷ number 33 ∷ [])
    ∷ []
    ))) []

-- MIGRATE (CREATE TABLE pub AS SELECT id, name FROM cust; CREATE TABLE priv AS SELECT id, pin FROM cust)
abbrev pub migrate : Migrate
migrate = migration (
    target (codes "pub") (one (arm (item.Column (unqualified (codes "id")) ∷ item.Column (unqualified (codes "name")) ∷ []) (codes "cust") None None []))
    ∷ target (codes "priv") (one (arm (item.Column (unqualified (codes "id")) ∷ item.Column (unqualified (codes "pin")) ∷ []) (codes "cust") None None []))
    ∷ []
    )

granules : granules_of old migrate ≡ granule 0 (Row 0) ∷ granule 0 (Row 1) ∷ granule 0 (Row 2) ∷ []
granules = refl

-- the rows of each granule, with the names of their tables
parts : map (λ g. by_name (part_of old migrate g)) (granules_of old migrate) ≡ ((codes "pub", number 1 ∷ Text (codes "Ann") ∷ []) ∷ (codes "priv", number 1 ∷ number 11 ∷ []) ∷ [])
    ∷ ((codes "pub", number 2 ∷ Text (codes "Bob") ∷ []) ∷ (codes "priv", number 2 ∷ number 22 ∷ []) ∷ [])
    ∷ ((codes "pub", number 3 ∷ Text (codes "Cy") ∷ []) ∷ (codes "priv", number 3 ∷ number 33 ∷ []) ∷ [])
    ∷ []
parts = refl

-- a flip that moves nothing is seen as the flip
view : view_of (flipped_lazily (at_rest old) migrate) ≡ flipped old migrate
view = refl

-- SELECT * FROM pub WHERE id = 2
need1 : needed_by old migrate (flipped old migrate) false (statement.Select items.All (codes "pub") (Some (compared compare.Equal (column (unqualified (codes "id"))) (literal (number 2))))) ≡ one (granule 0 (Row 1))
need1 = refl

-- INSERT INTO pub VALUES (3, 'Zed')
need2 : needed_by old migrate (flipped old migrate) false (statement.Insert (codes "pub") (one (number 3 ∷ Text (codes "Zed") ∷ []))) ≡ one (granule 0 (Row 2))
need2 = refl

-- SELECT COUNT(*) FROM cust
need3 : needed_by old migrate (flipped old migrate) false (statement.Select (items.Aggregates (one total.Count)) (codes "cust") None) ≡ []
need3 = refl

-- DELETE FROM pub WHERE id = 1
need4 : needed_by old migrate (flipped old migrate) false (statement.Delete (codes "pub") (Some (compared compare.Equal (column (unqualified (codes "id"))) (literal (number 1))))) ≡ one (granule 0 (Row 0))
need4 = refl

-- a table with the name of one of the targets and another column is no target
abbrev narrow : Table
narrow = table (codes "pub") (one (column_of (codes "id") admits.Int)) (one 0)

by_name_alone : needed old migrate (record { catalog = 2; schema_change = false; action = action.Delete narrow always None }) ≡ []
by_name_alone = refl
