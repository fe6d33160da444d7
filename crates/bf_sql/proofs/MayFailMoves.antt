-- A table without rows has no granules.
use Rattle.std.specs.Prelude.{◌≡◌, pos, false, [], ◌∷◌, map, None, codes, refl}
use Rattle.bf_base.specs.declared.table.Admit.TheVariants as admits
use Rattle.bf_tree.specs.Trees.{literal, column, plus}
use Rattle.bf_tree.specs.declared.items.Items.TheVariants as items
use Rattle.bf_tree.specs.declared.migration.Item.TheVariants as item
use Rattle.bf_tree.specs.declared.statement.Statement.TheVariants as statement
use Rattle.bf_tree.specs.declared.migration.Migrate.{Migrate}
use Rattle.bf_sql.specs.Database.{Database}
use Rattle.bf_sql.specs.Scopes.{unqualified}
use Rattle.bf_sql.specs.migrations.Images.{flipped}
use Rattle.bf_sql.specs.migrations.Granules.{granules_of, part_of}
use Rattle.bf_sql.specs.migrations.Need.{needed_by}
use Rattle.bf_sql.specs.migrations.Lazy.{view_of, flipped_lazily}
use Rattle.bf_sql.proofs.Spelling.{one, number, arm, target, migration, table, column_of, stored, database, by_name, at_rest}

abbrev pub old : Database
old = database 2 (
    stored (table (codes "p") (column_of (codes "id") admits.Int ∷ column_of (codes "x") admits.Int ∷ []) (one 0)) []
    ∷ stored (table (codes "q") (column_of (codes "id") admits.Int ∷ column_of (codes "x") (admits.Checked (pos 0) (pos 9)) ∷ []) (one 0)) []
    ∷ []
    ) []

-- MIGRATE (CREATE TABLE q2 AS SELECT id, x + 1 AS y FROM q)
abbrev pub migrate : Migrate
migrate = migration (one (target (codes "q2") (one (arm (item.Column (unqualified (codes "id")) ∷ item.Named (plus (column (unqualified (codes "x"))) (literal (number 1))) (codes "y") ∷ []) (codes "q") None None []))))

granules : granules_of old migrate ≡ []
granules = refl

-- the rows of each granule, with the names of their tables
parts : map (λ g. by_name (part_of old migrate g)) (granules_of old migrate) ≡ []
parts = refl

-- a flip that moves nothing is seen as the flip
view : view_of (flipped_lazily (at_rest old) migrate) ≡ flipped old migrate
view = refl

-- INSERT INTO p VALUES (1, 9223372036854775807)
need1 : needed_by old migrate (flipped old migrate) false (statement.Insert (codes "p") (one (number 1 ∷ number 9223372036854775807 ∷ []))) ≡ []
need1 = refl

-- UPDATE p SET x = x + 1
need2 : needed_by old migrate (flipped old migrate) false (statement.Update (codes "p") (one (codes "x", plus (column (unqualified (codes "x"))) (literal (number 1)))) None) ≡ []
need2 = refl

-- SELECT * FROM p
need3 : needed_by old migrate (flipped old migrate) false (statement.Select items.All (codes "p") None) ≡ []
need3 = refl
