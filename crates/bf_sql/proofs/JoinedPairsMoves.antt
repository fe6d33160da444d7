-- The granules of a join by other columns than a key are the values of those columns, in either table.
use Rattle.std.specs.Prelude.{◌≡◌, false, [], ◌∷◌, map, Some, None, codes, refl}
use Rattle.bf_base.specs.declared.table.Admit.TheVariants as admits
use Rattle.bf_base.specs.declared.granule.Place.TheVariants.{Group}
use Rattle.bf_tree.specs.declared.items.Items.TheVariants as items
use Rattle.bf_tree.specs.declared.migration.Item.TheVariants as item
use Rattle.bf_tree.specs.declared.statement.Statement.TheVariants as statement
use Rattle.bf_tree.specs.declared.migration.Migrate.{Migrate}
use Rattle.bf_sql.specs.Database.{Database}
use Rattle.bf_sql.specs.Scopes.{unqualified}
use Rattle.bf_sql.specs.migrations.Images.{flipped}
use Rattle.bf_sql.specs.migrations.Granules.{granule, granules_of, part_of}
use Rattle.bf_sql.specs.migrations.Need.{needed_by}
use Rattle.bf_sql.specs.migrations.Lazy.{view_of, flipped_lazily}
use Rattle.bf_sql.proofs.Spelling.{one, number, qualified, join, arm, target, migration, table, column_of, stored, database, by_name, at_rest}

abbrev pub old : Database
old = database 2 (
    stored (table (codes "a") (column_of (codes "aid") admits.Int ∷ column_of (codes "v") admits.Int ∷ []) (one 0)) ((number 1 ∷ number 5 ∷ []) ∷ (number 2 ∷ number 6 ∷ []) ∷ [])
    ∷ stored (table (codes "b") (column_of (codes "bid") admits.Int ∷ column_of (codes "v") admits.Int ∷ []) (one 0)) ((number 1 ∷ number 5 ∷ []) ∷ (number 2 ∷ number 5 ∷ []) ∷ (number 3 ∷ number 9 ∷ []) ∷ [])
    ∷ []
    ) []

-- MIGRATE (CREATE TABLE j AS SELECT aid, bid, a.v FROM a JOIN b ON a.v = b.v)
abbrev pub migrate : Migrate
migrate = migration (one (target (codes "j") (one (arm (
    item.Column (unqualified (codes "aid"))
    ∷ item.Column (unqualified (codes "bid"))
    ∷ item.Column (qualified (codes "a") (codes "v"))
    ∷ []
    ) (codes "a") (Some (join (codes "b") (one (qualified (codes "a") (codes "v"), qualified (codes "b") (codes "v"))))) None []))))

granules : granules_of old migrate ≡ granule 0 (Group (one (number 5))) ∷ granule 0 (Group (one (number 6))) ∷ granule 0 (Group (one (number 9))) ∷ []
granules = refl

-- the rows of each granule, with the names of their tables
parts : map (λ g. by_name (part_of old migrate g)) (granules_of old migrate) ≡ ((codes "j", number 1 ∷ number 1 ∷ number 5 ∷ []) ∷ (codes "j", number 1 ∷ number 2 ∷ number 5 ∷ []) ∷ []) ∷ [] ∷ [] ∷ []
parts = refl

-- a flip that moves nothing is seen as the flip
view : view_of (flipped_lazily (at_rest old) migrate) ≡ flipped old migrate
view = refl

-- SELECT * FROM j
need1 : needed_by old migrate (flipped old migrate) false (statement.Select items.All (codes "j") None) ≡ one (granule 0 (Group (one (number 5))))
need1 = refl
