-- The arms of one target go by the rows of two tables, each of which has a unit of its own.
use Rattle.std.specs.Prelude.{◌≡◌, false, [], ◌∷◌, map, Some, None, codes, refl}
use Rattle.bf_base.specs.declared.table.Admit.TheVariants as admits
use Rattle.bf_base.specs.declared.granule.Place.TheVariants.{Row}
use Rattle.bf_tree.specs.declared.compare.Compare.TheVariants as compare
use Rattle.bf_tree.specs.Trees.{literal, column, compared}
use Rattle.bf_tree.specs.declared.items.Items.TheVariants as items
use Rattle.bf_tree.specs.declared.migration.Item.TheVariants as item
use Rattle.bf_tree.specs.declared.migration.Target.{Target}
use Rattle.bf_tree.specs.declared.statement.Statement.TheVariants as statement
use Rattle.bf_tree.specs.declared.migration.Migrate.{Migrate}
use Rattle.bf_sql.specs.Database.{Database}
use Rattle.bf_sql.specs.Scopes.{unqualified}
use Rattle.bf_sql.specs.migrations.MigrationObjections.{migrate_objections}
use Rattle.bf_sql.specs.migrations.Images.{image_of, flipped}
use Rattle.bf_sql.specs.migrations.Granules.{granule, granules_of, part_of, owner_of}
use Rattle.bf_sql.specs.migrations.Need.{needed_by}
use Rattle.bf_sql.specs.migrations.Lazy.{view_of, flipped_lazily}
use Rattle.bf_sql.proofs.Spelling.{one, number, arm, target, migration, table, column_of, stored, database, by_name, at_rest}

-- CREATE TABLE a (id INT, x INT, PRIMARY KEY (id)) and CREATE TABLE b (id INT, y INT, PRIMARY KEY (id))
abbrev old : Database
old = database 2 (
    stored (table (codes "a") (column_of (codes "id") admits.Int ∷ column_of (codes "x") admits.Int ∷ []) (one 0)) ((number 1 ∷ number 10 ∷ []) ∷ (number 2 ∷ number 20 ∷ []) ∷ [])
    ∷ stored (table (codes "b") (column_of (codes "id") admits.Int ∷ column_of (codes "y") admits.Int ∷ []) (one 0)) (one (number 2 ∷ number 30 ∷ []))
    ∷ []
    ) []

-- CREATE TABLE t AS SELECT 1 AS tag, id, x AS v FROM a UNION ALL SELECT 2 AS tag, id, y AS v FROM b
abbrev t : Target
t = target (codes "t") (
    arm (item.Named (literal (number 1)) (codes "tag") ∷ item.Column (unqualified (codes "id")) ∷ item.Named (column (unqualified (codes "x"))) (codes "v") ∷ []) (codes "a") None None []
    ∷ arm (item.Named (literal (number 2)) (codes "tag") ∷ item.Column (unqualified (codes "id")) ∷ item.Named (column (unqualified (codes "y"))) (codes "v") ∷ []) (codes "b") None None []
    ∷ []
    )

abbrev migrate : Migrate
migrate = migration (one t)

fine : migrate_objections old migrate ≡ []
fine = refl

image : image_of old t ≡ (number 1 ∷ number 1 ∷ number 10 ∷ []) ∷ (number 1 ∷ number 2 ∷ number 20 ∷ []) ∷ (number 2 ∷ number 2 ∷ number 30 ∷ []) ∷ []
image = refl

granules : granules_of old migrate ≡ granule 0 (Row 0) ∷ granule 0 (Row 1) ∷ granule 1 (Row 0) ∷ []
granules = refl

parts : map (λ g. by_name (part_of old migrate g)) (granules_of old migrate) ≡ one (codes "t", number 1 ∷ number 1 ∷ number 10 ∷ [])
    ∷ one (codes "t", number 1 ∷ number 2 ∷ number 20 ∷ [])
    ∷ one (codes "t", number 2 ∷ number 2 ∷ number 30 ∷ [])
    ∷ []
parts = refl

view : view_of (flipped_lazily (at_rest old) migrate) ≡ flipped old migrate
view = refl

owner : owner_of old migrate t (number 2 ∷ number 2 ∷ []) ≡ Some (granule 1 (Row 0))
owner = refl

no_owner : owner_of old migrate t (number 2 ∷ number 1 ∷ []) ≡ None
no_owner = refl

-- SELECT * FROM t WHERE id = 2
need1 : needed_by old migrate (flipped old migrate) false (statement.Select items.All (codes "t") (Some (compared compare.Equal (column (unqualified (codes "id"))) (literal (number 2))))) ≡ granule 0 (Row 1) ∷ granule 1 (Row 0) ∷ []
need1 = refl

-- DELETE FROM t WHERE tag = 2
need2 : needed_by old migrate (flipped old migrate) false (statement.Delete (codes "t") (Some (compared compare.Equal (column (unqualified (codes "tag"))) (literal (number 2))))) ≡ one (granule 1 (Row 0))
need2 = refl

-- INSERT INTO t VALUES (1, 2, 0), (2, 1, 0): the second has no owner
need3 : needed_by old migrate (flipped old migrate) false (statement.Insert (codes "t") ((number 1 ∷ number 2 ∷ number 0 ∷ []) ∷ (number 2 ∷ number 1 ∷ number 0 ∷ []) ∷ [])) ≡ one (granule 0 (Row 1))
need3 = refl
