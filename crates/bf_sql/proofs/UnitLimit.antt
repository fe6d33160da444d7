-- At most four tables give their rows one by one in a MIGRATE.
use Rattle.std.specs.Prelude.{◌≡◌, ℕ, false, List, [], ◌∷◌, map, None, codes, refl}
use Rattle.bf_base.specs.declared.table.Admit.TheVariants as admits
use Rattle.bf_tree.specs.declared.migration.Item.TheVariants as item
use Rattle.bf_tree.specs.declared.migration.Target.{Target}
use Rattle.bf_tree.specs.declared.statement.Statement.{Statement}
use Rattle.bf_tree.specs.declared.statement.Statement.TheVariants.{Migrate}
use Rattle.bf_tree.specs.declared.reply.Refusal.TheVariants.{UnitLimit}
use Rattle.bf_tree.specs.declared.reply.Reply.TheVariants.{Refused, Migrated}
use Rattle.bf_sql.specs.Database.{Database, Stored}
use Rattle.bf_sql.specs.Scopes.{unqualified}
use Rattle.bf_sql.specs.Meaning.{executed}
use Rattle.bf_sql.proofs.Spelling.{one, arm, target, migration, table, column_of, stored, database}

-- CREATE TABLE name (id INT, PRIMARY KEY (id))
abbrev numbers : List ℕ → Stored
numbers name = stored (table name (one (column_of (codes "id") admits.Int)) (one 0)) []

abbrev five : Database
five = database 5 (map numbers (codes "a" ∷ codes "b" ∷ codes "c" ∷ codes "d" ∷ codes "e" ∷ [])) []

-- CREATE TABLE name AS SELECT id FROM name
abbrev again : List ℕ → Target
again name = target name (one (arm (one (item.Column (unqualified (codes "id")))) name None None []))

abbrev migrate_all : List (List ℕ) → Statement
migrate_all names = Migrate (migration (map again names))

refused : (executed 6 five false (migrate_all (codes "a" ∷ codes "b" ∷ codes "c" ∷ codes "d" ∷ codes "e" ∷ []))).0 ≡ Refused (UnitLimit 5)
refused = refl

fits : (executed 6 five false (migrate_all (codes "a" ∷ codes "b" ∷ codes "c" ∷ codes "d" ∷ []))).0 ≡ Migrated 4
fits = refl
