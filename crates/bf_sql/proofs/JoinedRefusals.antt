-- What the catalog has against a MIGRATE with JOIN and GROUP BY, in the order of reading.
use Rattle.std.specs.Prelude.{◌≡◌, List, [], ◌∷◌, Some, None, codes, refl}
use Rattle.bf_base.specs.declared.table.Admit.TheVariants as admits
use Rattle.bf_tree.specs.declared.raw.Ref.{Ref}
use Rattle.bf_tree.specs.Trees.{literal, column}
use Rattle.bf_tree.specs.declared.items.Aggregate.TheVariants as total
use Rattle.bf_tree.specs.declared.migration.Item.{Item}
use Rattle.bf_tree.specs.declared.migration.Item.TheVariants as item
use Rattle.bf_tree.specs.declared.reply.Refusal.{Refusal}
use Rattle.bf_tree.specs.declared.reply.Refusal.TheVariants as refusal
use Rattle.bf_sql.specs.Database.{Database}
use Rattle.bf_sql.specs.Scopes.{unqualified}
use Rattle.bf_sql.specs.migrations.MigrationObjections.{migrate_objections}
use Rattle.bf_sql.proofs.Spelling.{one, number, qualified, join, arm, target, migration, table, column_of, stored, database}

-- CREATE TABLE a (id INT, n INT, s VARCHAR(5), PRIMARY KEY (id)) and CREATE TABLE b (id INT, m INT, PRIMARY KEY (id))
abbrev old : Database
old = database 2 (
    stored (table (codes "a") (column_of (codes "id") admits.Int ∷ column_of (codes "n") admits.Int ∷ column_of (codes "s") (admits.Varchar 5) ∷ []) (one 0)) []
    ∷ stored (table (codes "b") (column_of (codes "id") admits.Int ∷ column_of (codes "m") admits.Int ∷ []) (one 0)) []
    ∷ []
    ) []

abbrev plain : Ref → Item
plain ref = item.Column ref

-- what is wrong with CREATE TABLE t AS SELECT items FROM a JOIN b ON the pairs
abbrev joining : List Item → List (Ref × Ref) → List Refusal
joining items on = migrate_objections old (migration (one (target (codes "t") (one (arm items (codes "a") (Some (join (codes "b") on)) None [])))))

-- what is wrong with CREATE TABLE t AS SELECT items FROM a GROUP BY the refs
abbrev grouping : List Item → List Ref → List Refusal
grouping items group = migrate_objections old (migration (one (target (codes "t") (one (arm items (codes "a") None None group)))))

-- ON a.n = b.id has the whole key of b: the key of a serves
fine : joining (plain (qualified (codes "a") (codes "id")) ∷ plain (unqualified (codes "m")) ∷ []) (one (unqualified (codes "n"), qualified (codes "b") (codes "id"))) ≡ []
fine = refl

-- ON a.n = b.m has neither: both keys are asked for
key_missing : joining (plain (qualified (codes "a") (codes "id")) ∷ plain (unqualified (codes "m")) ∷ []) (one (unqualified (codes "n"), unqualified (codes "m"))) ≡ one (refusal.KeyNotInherited (codes "t"))
key_missing = refl

-- the first of: an ambiguous name
ambiguous : joining (one (plain (unqualified (codes "id")))) (one (unqualified (codes "n"), unqualified (codes "m"))) ≡ refusal.NameTwice (codes "id") ∷ refusal.KeyNotInherited (codes "t") ∷ []
ambiguous = refl

-- an equality within one table of two kinds: first the key, then the kinds
within_one : joining (plain (qualified (codes "a") (codes "id")) ∷ plain (qualified (codes "b") (codes "m")) ∷ []) ((unqualified (codes "n"), qualified (codes "b") (codes "id")) ∷ (unqualified (codes "n"), unqualified (codes "s")) ∷ []) ≡ refusal.KeyNotInherited (codes "t") ∷ refusal.TypeMismatch ∷ []
within_one = refl

-- a column twice in GROUP BY, once behind its table's name
grouped_twice : grouping (one (plain (unqualified (codes "n")))) (unqualified (codes "n") ∷ qualified (codes "a") (codes "n") ∷ []) ≡ one (refusal.NameTwice (codes "n"))
grouped_twice = refl

-- an item that is neither a total nor a column of GROUP BY
not_grouped : grouping (plain (unqualified (codes "n")) ∷ item.Named (literal (number 1)) (codes "one") ∷ []) (one (unqualified (codes "n"))) ≡ one (refusal.KeyNotInherited (codes "t"))
not_grouped = refl

-- the sum of a column without a check may fail
may_fail : grouping (plain (unqualified (codes "n")) ∷ item.Total (total.Sum (column (unqualified (codes "id")))) (codes "all") ∷ []) (one (unqualified (codes "n"))) ≡ one (refusal.MayFail (codes "t") 2)
may_fail = refl
