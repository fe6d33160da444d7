-- The granules of a table of totals are its groups.
use Rattle.std.specs.Prelude.{◌≡◌, pos, false, [], ◌∷◌, map, Some, None, codes, refl}
use Rattle.bf_base.specs.declared.table.Admit.TheVariants as admits
use Rattle.bf_base.specs.declared.granule.Place.TheVariants.{Group}
use Rattle.bf_tree.specs.declared.compare.Compare.TheVariants as compare
use Rattle.bf_tree.specs.Trees.{literal, column, compared, both}
use Rattle.bf_tree.specs.declared.items.Aggregate.TheVariants as total
use Rattle.bf_tree.specs.declared.items.Items.TheVariants as items
use Rattle.bf_tree.specs.declared.migration.Item.TheVariants as item
use Rattle.bf_tree.specs.declared.statement.Statement.TheVariants as statement
use Rattle.bf_tree.specs.declared.migration.Migrate.{Migrate}
use Rattle.bf_sql.specs.Database.{Database}
use Rattle.bf_sql.specs.Scopes.{unqualified}
use Rattle.bf_sql.specs.migrations.Images.{flipped}
use Rattle.bf_sql.specs.migrations.Granules.{granule, granules_of, part_of}
use Rattle.bf_sql.specs.migrations.Need.{needed_by}
use Rattle.bf_sql.specs.migrations.Lazy.{view_of, flipped_lazily}
use Rattle.bf_sql.proofs.Spelling.{one, number, arm, target, migration, table, column_of, stored, database, by_name, at_rest}

abbrev pub old : Database
old = database 1 (one (stored (table (codes "ord") (
    column_of (codes "id") admits.Int
    ∷ column_of (codes "cust") admits.Int
    ∷ column_of (codes "amt") (admits.Checked (pos 0) (pos 1000))
    ∷ []
    ) (one 0)) (
    (number 1 ∷ number 7 ∷ number 10 ∷ [])
    ∷ (number 2 ∷ number 7 ∷ number 30 ∷ [])
    ∷ (number 3 ∷ number 8 ∷ number 5 ∷ [])
    ∷ (number 4 ∷ number 9 ∷ number 50 ∷ [])
    ∷ []
    ))) []

-- MIGRATE (CREATE TABLE tot AS SELECT cust, COUNT(*) AS cnt, SUM(amt) AS total FROM ord GROUP BY cust)
abbrev pub migrate : Migrate
migrate = migration (one (target (codes "tot") (one (arm (
    item.Column (unqualified (codes "cust"))
    ∷ item.Total total.Count (codes "cnt")
    ∷ item.Total (total.Sum (column (unqualified (codes "amt")))) (codes "total")
    ∷ []
    ) (codes "ord") None None (one (unqualified (codes "cust")))))))

granules : granules_of old migrate ≡ granule 0 (Group (one (number 7))) ∷ granule 0 (Group (one (number 8))) ∷ granule 0 (Group (one (number 9))) ∷ []
granules = refl

-- the rows of each granule, with the names of their tables
parts : map (λ g. by_name (part_of old migrate g)) (granules_of old migrate) ≡ one (codes "tot", number 7 ∷ number 2 ∷ number 40 ∷ [])
    ∷ one (codes "tot", number 8 ∷ number 1 ∷ number 5 ∷ [])
    ∷ one (codes "tot", number 9 ∷ number 1 ∷ number 50 ∷ [])
    ∷ []
parts = refl

-- a flip that moves nothing is seen as the flip
view : view_of (flipped_lazily (at_rest old) migrate) ≡ flipped old migrate
view = refl

-- SELECT * FROM tot WHERE total > 30 AND cust < 9
need1 : needed_by old migrate (flipped old migrate) false (statement.Select items.All (codes "tot") (Some (both (compared compare.Greater (column (unqualified (codes "total"))) (literal (number 30))) (compared compare.Less (column (unqualified (codes "cust"))) (literal (number 9)))))) ≡ granule 0 (Group (one (number 7))) ∷ granule 0 (Group (one (number 8))) ∷ []
need1 = refl
