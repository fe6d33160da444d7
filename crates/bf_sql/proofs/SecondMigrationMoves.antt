-- A second migration needs all granules of the first, and has its own.
use Rattle.std.specs.Prelude.{◌≡◌, true, false, [], ◌∷◌, map, Some, None, codes, refl}
use Rattle.bf_base.specs.declared.value.Value.TheVariants.{Text}
use Rattle.bf_base.specs.declared.table.Admit.TheVariants as admits
use Rattle.bf_base.specs.declared.granule.Place.TheVariants.{Row}
use Rattle.bf_tree.specs.declared.compare.Compare.TheVariants as compare
use Rattle.bf_tree.specs.Trees.{literal, column, joined, compared}
use Rattle.bf_tree.specs.declared.items.Items.TheVariants as items
use Rattle.bf_tree.specs.declared.migration.Item.TheVariants as item
use Rattle.bf_tree.specs.declared.statement.Statement.TheVariants as statement
use Rattle.bf_tree.specs.declared.migration.Migrate.{Migrate}
use Rattle.bf_sql.specs.Database.{Database}
use Rattle.bf_sql.specs.Scopes.{unqualified}
use Rattle.bf_sql.specs.migrations.Images.{flipped}
use Rattle.bf_sql.specs.migrations.Granules.{granule, granules_of, part_of}
use Rattle.bf_sql.specs.migrations.Need.{needed_by}
use Rattle.bf_sql.specs.migrations.Lazy.{view_of, flipped_lazily}
use Rattle.bf_sql.proofs.Spelling.{one, number, arm, target, migration, table, column_of, stored, database, by_name, at_rest}
use Rattle.bf_sql.proofs.SplitTableMoves as split

abbrev pub old : Database
old = database 2 (
    stored (table (codes "priv") (column_of (codes "id") admits.Int ∷ column_of (codes "pin") admits.Int ∷ []) (one 0)) ((number 1 ∷ number 11 ∷ []) ∷ (number 2 ∷ number 22 ∷ []) ∷ (number 3 ∷ number 33 ∷ []) ∷ [])
    ∷ stored (table (codes "pub") (column_of (codes "id") admits.Int ∷ column_of (codes "name") (admits.Varchar 20) ∷ []) (one 0)) ((number 1 ∷ Text (codes "Ann") ∷ []) ∷ (number 2 ∷ Text (codes "Bob") ∷ []) ∷ (number 3 ∷ Text (codes "Cy") ∷ []) ∷ [])
    ∷ []
    ) []

-- MIGRATE (CREATE TABLE pub AS SELECT id, name || '!' AS name FROM pub)
abbrev pub migrate : Migrate
migrate = migration (one (target (codes "pub") (one (arm (
    item.Column (unqualified (codes "id"))
    ∷ item.Named (joined (column (unqualified (codes "name"))) (literal (Text (codes "!")))) (codes "name")
    ∷ []
    ) (codes "pub") None None []))))

-- a first migration, none of whose granules has moved, has to be done before it
need_of_it : needed_by split.old split.migrate (flipped split.old split.migrate) false (statement.Migrate migrate) ≡ granule 0 (Row 0) ∷ granule 0 (Row 1) ∷ granule 0 (Row 2) ∷ []
need_of_it = refl

-- but not in a block, where it is refused
need_in_block : needed_by split.old split.migrate (flipped split.old split.migrate) true (statement.Migrate migrate) ≡ []
need_in_block = refl

-- nor where the catalog refuses it: MIGRATE (CREATE TABLE priv AS SELECT id FROM pub)
need_refused : needed_by split.old split.migrate (flipped split.old split.migrate) false (statement.Migrate (migration (one (target (codes "priv") (one (arm (one (item.Column (unqualified (codes "id")))) (codes "pub") None None [])))))) ≡ []
need_refused = refl

granules : granules_of old migrate ≡ granule 0 (Row 0) ∷ granule 0 (Row 1) ∷ granule 0 (Row 2) ∷ []
granules = refl

-- the rows of each granule, with the names of their tables
parts : map (λ g. by_name (part_of old migrate g)) (granules_of old migrate) ≡ one (codes "pub", number 1 ∷ Text (codes "Ann!") ∷ [])
    ∷ one (codes "pub", number 2 ∷ Text (codes "Bob!") ∷ [])
    ∷ one (codes "pub", number 3 ∷ Text (codes "Cy!") ∷ [])
    ∷ []
parts = refl

-- a flip that moves nothing is seen as the flip
view : view_of (flipped_lazily (at_rest old) migrate) ≡ flipped old migrate
view = refl

-- SELECT * FROM pub WHERE id = 3
need1 : needed_by old migrate (flipped old migrate) false (statement.Select items.All (codes "pub") (Some (compared compare.Equal (column (unqualified (codes "id"))) (literal (number 3))))) ≡ one (granule 0 (Row 2))
need1 = refl
