-- Arms with one driver make one unit: a granule gives its rows of all of them.
use Rattle.std.specs.Prelude.{◌≡◌, false, [], ◌∷◌, map, None, codes, refl}
use Rattle.bf_base.specs.declared.table.Admit.TheVariants as admits
use Rattle.bf_base.specs.declared.granule.Place.TheVariants.{Row}
use Rattle.bf_tree.specs.Trees.{literal, column}
use Rattle.bf_tree.specs.declared.items.Items.TheVariants as items
use Rattle.bf_tree.specs.declared.migration.Item.TheVariants as item
use Rattle.bf_tree.specs.declared.statement.Statement.TheVariants as statement
use Rattle.bf_tree.specs.declared.migration.Migrate.{Migrate}
use Rattle.bf_sql.specs.Database.{Database}
use Rattle.bf_sql.specs.Scopes.{unqualified}
use Rattle.bf_sql.specs.migrations.Images.{flipped}
use Rattle.bf_sql.specs.migrations.Granules.{granule, granules_of, part_of}
use Rattle.bf_sql.specs.migrations.Need.{needed_by}
use Rattle.bf_sql.specs.migrations.Lazy.{view_of, flipped_lazily}
use Rattle.bf_sql.proofs.Spelling.{one, number, arm, target, migration, table, column_of, stored, database, by_name, at_rest}

abbrev pub old : Database
old = database 1 (one (stored (table (codes "c") (column_of (codes "id") admits.Int ∷ column_of (codes "h") admits.Int ∷ column_of (codes "w") admits.Int ∷ []) (one 0)) (one (number 1 ∷ number 20 ∷ number 30 ∷ [])))) []

-- MIGRATE (CREATE TABLE ph AS SELECT 1 AS tag, id, h AS num FROM c UNION ALL SELECT 2 AS tag, id, w AS num FROM c)
abbrev pub migrate : Migrate
migrate = migration (one (target (codes "ph") (
    arm (
    item.Named (literal (number 1)) (codes "tag")
    ∷ item.Column (unqualified (codes "id"))
    ∷ item.Named (column (unqualified (codes "h"))) (codes "num")
    ∷ []
    ) (codes "c") None None []
    ∷ arm (
    item.Named (literal (number 2)) (codes "tag")
    ∷ item.Column (unqualified (codes "id"))
    ∷ item.Named (column (unqualified (codes "w"))) (codes "num")
    ∷ []
    ) (codes "c") None None []
    ∷ []
    )))

granules : granules_of old migrate ≡ one (granule 0 (Row 0))
granules = refl

-- the rows of each granule, with the names of their tables
parts : map (λ g. by_name (part_of old migrate g)) (granules_of old migrate) ≡ one ((codes "ph", number 1 ∷ number 1 ∷ number 20 ∷ []) ∷ (codes "ph", number 2 ∷ number 1 ∷ number 30 ∷ []) ∷ [])
parts = refl

-- a flip that moves nothing is seen as the flip
view : view_of (flipped_lazily (at_rest old) migrate) ≡ flipped old migrate
view = refl

-- SELECT * FROM ph
need1 : needed_by old migrate (flipped old migrate) false (statement.Select items.All (codes "ph") None) ≡ one (granule 0 (Row 0))
need1 = refl
