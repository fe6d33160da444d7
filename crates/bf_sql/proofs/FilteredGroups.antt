-- A group whose rows are all filtered out is a granule, and has no row in the image.
use Rattle.std.specs.Prelude.{◌≡◌, false, [], ◌∷◌, map, Some, None, codes, refl}
use Rattle.bf_base.specs.declared.table.Admit.TheVariants as admits
use Rattle.bf_base.specs.declared.granule.Place.TheVariants.{Group}
use Rattle.bf_tree.specs.declared.compare.Compare.TheVariants as compare
use Rattle.bf_tree.specs.Trees.{literal, column, compared}
use Rattle.bf_tree.specs.declared.items.Aggregate.TheVariants as total
use Rattle.bf_tree.specs.declared.items.Items.TheVariants as items
use Rattle.bf_tree.specs.declared.migration.Item.TheVariants as item
use Rattle.bf_tree.specs.declared.migration.Target.{Target}
use Rattle.bf_tree.specs.declared.statement.Statement.TheVariants as statement
use Rattle.bf_tree.specs.declared.migration.Migrate.{Migrate}
use Rattle.bf_sql.specs.Database.{Database}
use Rattle.bf_sql.specs.Scopes.{unqualified}
use Rattle.bf_sql.specs.migrations.MigrationObjections.{migrate_objections}
use Rattle.bf_sql.specs.migrations.Images.{image_of, flipped}
use Rattle.bf_sql.specs.migrations.Granules.{granule, granules_of, part_of, owner_of}
use Rattle.bf_sql.specs.migrations.Need.{needed_by}
use Rattle.bf_sql.specs.migrations.Lazy.{view_of, flipped_lazily}
use Rattle.bf_sql.proofs.Spelling.{one, number, arm, target, migration, table, column_of, stored, database, by_name, at_rest}

abbrev old : Database
old = database 1 (one (stored (table (codes "ord") (column_of (codes "id") admits.Int ∷ column_of (codes "cust") admits.Int ∷ column_of (codes "amt") admits.Int ∷ []) (one 0)) (
    (number 1 ∷ number 7 ∷ number 10 ∷ [])
    ∷ (number 2 ∷ number 7 ∷ number 3 ∷ [])
    ∷ (number 3 ∷ number 8 ∷ number 5 ∷ [])
    ∷ (number 4 ∷ number 9 ∷ number 50 ∷ [])
    ∷ []
    ))) []

-- CREATE TABLE tot AS SELECT cust, COUNT(*) AS cnt FROM ord WHERE amt > 5 GROUP BY cust
abbrev tot : Target
tot = target (codes "tot") (one (arm (item.Column (unqualified (codes "cust")) ∷ item.Total total.Count (codes "cnt") ∷ []) (codes "ord") None
    (Some (compared compare.Greater (column (unqualified (codes "amt"))) (literal (number 5)))) (one (unqualified (codes "cust")))))

abbrev migrate : Migrate
migrate = migration (one tot)

fine : migrate_objections old migrate ≡ []
fine = refl

image : image_of old tot ≡ (number 7 ∷ number 1 ∷ []) ∷ (number 9 ∷ number 1 ∷ []) ∷ []
image = refl

granules : granules_of old migrate ≡ granule 0 (Group (one (number 7))) ∷ granule 0 (Group (one (number 8))) ∷ granule 0 (Group (one (number 9))) ∷ []
granules = refl

parts : map (λ g. by_name (part_of old migrate g)) (granules_of old migrate) ≡ one (codes "tot", number 7 ∷ number 1 ∷ []) ∷ [] ∷ one (codes "tot", number 9 ∷ number 1 ∷ []) ∷ []
parts = refl

view : view_of (flipped_lazily (at_rest old) migrate) ≡ flipped old migrate
view = refl

owner : owner_of old migrate tot (one (number 9)) ≡ Some (granule 0 (Group (one (number 9))))
owner = refl

no_owner : owner_of old migrate tot (one (number 8)) ≡ None
no_owner = refl

-- SELECT * FROM tot WHERE cnt > 1: the total is not looked at, and the empty group has no row
need1 : needed_by old migrate (flipped old migrate) false (statement.Select items.All (codes "tot") (Some (compared compare.Greater (column (unqualified (codes "cnt"))) (literal (number 1))))) ≡ granule 0 (Group (one (number 7))) ∷ granule 0 (Group (one (number 9))) ∷ []
need1 = refl

-- SELECT * FROM tot WHERE cust = 8
need2 : needed_by old migrate (flipped old migrate) false (statement.Select items.All (codes "tot") (Some (compared compare.Equal (column (unqualified (codes "cust"))) (literal (number 8))))) ≡ []
need2 = refl

-- INSERT INTO tot VALUES (8, 0)
need3 : needed_by old migrate (flipped old migrate) false (statement.Insert (codes "tot") (one (number 8 ∷ number 0 ∷ []))) ≡ []
need3 = refl

-- MIGRATE (CREATE TABLE u AS SELECT cust FROM tot)
need4 : needed_by old migrate (flipped old migrate) false (statement.Migrate (migration (one (target (codes "u") (one (arm (one (item.Column (unqualified (codes "cust")))) (codes "tot") None None [])))))) ≡ granules_of old migrate
need4 = refl
