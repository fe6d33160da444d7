-- An UPDATE of two columns: each SET reads the old row, and the first fault is told, row by row and SET by SET.
use Rattle.std.specs.Prelude.{◌≡◌, ℕ, List, [], ◌∷◌, Option, Some, None, codes, refl}
use Rattle.bf_base.specs.declared.value.Value.{Value}
use Rattle.bf_base.specs.declared.value.Value.TheVariants.{Text}
use Rattle.bf_base.specs.declared.table.Admit.TheVariants as admits
use Rattle.bf_tree.specs.declared.compare.Compare.TheVariants as compare
use Rattle.bf_tree.specs.declared.raw.Ref.{Ref}
use Rattle.bf_tree.specs.Trees.{Expr, literal, column, plus, joined, Cond, compared}
use Rattle.bf_tree.specs.declared.items.Items.TheVariants as items
use Rattle.bf_tree.specs.declared.statement.ColumnForm.TheVariants as form
use Rattle.bf_tree.specs.declared.statement.Statement.TheVariants as statement
use Rattle.bf_tree.specs.declared.reply.Refusal.TheVariants as refusal
use Rattle.bf_tree.specs.declared.reply.Reply.TheVariants as reply
use Rattle.bf_tree.specs.declared.script.Script.{Script}
use Rattle.bf_tree.specs.declared.history.Entry.{Entry}
use Rattle.bf_sql.specs.Database.{Database, IsDatabase, empty_database}
use Rattle.bf_sql.specs.Scopes.{unqualified}
use Rattle.bf_sql.specs.History.{replayed}
use Rattle.bf_sql.proofs.Spelling.{one, number, given, rule, in_one_phase, alone, table, column_of, stored, database}

abbrev name : List ℕ → Expr Ref
name column_name = column (unqualified column_name)

abbrev greatest : Value
greatest = number 9223372036854775807

-- s = s || 'd', for which a text of three bytes is too long
abbrev longer : List ℕ × Expr Ref
longer = (codes "s", joined (name (codes "s")) (literal (Text (codes "d"))))

-- n = n + 1, which no INT is behind the greatest
abbrev next : List ℕ × Expr Ref
next = (codes "n", plus (name (codes "n")) (literal (number 1)))

abbrev at_one : Option (Cond Ref)
at_one = Some (compared compare.Equal (name (codes "id")) (literal (number 1)))

abbrev behind_one : Option (Cond Ref)
behind_one = Some (compared compare.Greater (name (codes "id")) (literal (number 1)))

-- CREATE TABLE t (id INT, a INT, b INT, PRIMARY KEY (id));
-- INSERT INTO t VALUES (1, 10, 20), (2, 30, 40);
-- UPDATE t SET a = b, b = a;
-- SELECT * FROM t;
-- CREATE TABLE u (id INT, s VARCHAR(3), n INT, PRIMARY KEY (id));
-- INSERT INTO u VALUES (1, 'abc', 9223372036854775807), (2, 'ab', 9223372036854775807), (3, 'abc', 7);
-- UPDATE u SET s = s || 'd', n = n + 1 WHERE id = 1;
-- UPDATE u SET n = n + 1, s = s || 'd' WHERE id = 1;
-- UPDATE u SET s = s || 'd', n = n + 1 WHERE id > 1;
abbrev script : Script
script = in_one_phase (one (
    statement.CreateTable (codes "t") (rule (codes "id") form.Int ∷ rule (codes "a") form.Int ∷ rule (codes "b") form.Int ∷ []) (one (codes "id"))
    ∷ statement.Insert (codes "t") ((number 1 ∷ number 10 ∷ number 20 ∷ []) ∷ (number 2 ∷ number 30 ∷ number 40 ∷ []) ∷ [])
    ∷ statement.Update (codes "t") ((codes "a", name (codes "b")) ∷ (codes "b", name (codes "a")) ∷ []) None
    ∷ statement.Select items.All (codes "t") None
    ∷ statement.CreateTable (codes "u") (rule (codes "id") form.Int ∷ rule (codes "s") (form.Varchar 3) ∷ rule (codes "n") form.Int ∷ []) (one (codes "id"))
    ∷ statement.Insert (codes "u") ((number 1 ∷ Text (codes "abc") ∷ greatest ∷ []) ∷ (number 2 ∷ Text (codes "ab") ∷ greatest ∷ []) ∷ (number 3 ∷ Text (codes "abc") ∷ number 7 ∷ []) ∷ [])
    ∷ statement.Update (codes "u") (longer ∷ next ∷ []) at_one
    ∷ statement.Update (codes "u") (next ∷ longer ∷ []) at_one
    ∷ statement.Update (codes "u") (longer ∷ next ∷ []) behind_one
    ∷ []
    ))

abbrev history : List Entry
history = alone 1 ∷ alone 2 ∷ alone 3 ∷ alone 4 ∷ alone 5 ∷ alone 6 ∷ alone 7 ∷ alone 8 ∷ alone 9 ∷ []

abbrev last : Database
last = database 2 (
    stored (table (codes "t") (column_of (codes "id") admits.Int ∷ column_of (codes "a") admits.Int ∷ column_of (codes "b") admits.Int ∷ []) (one 0)) ((number 1 ∷ number 20 ∷ number 10 ∷ []) ∷ (number 2 ∷ number 40 ∷ number 30 ∷ []) ∷ [])
    ∷ stored (table (codes "u") (column_of (codes "id") admits.Int ∷ column_of (codes "s") (admits.Varchar 3) ∷ column_of (codes "n") admits.Int ∷ []) (one 0)) ((number 1 ∷ Text (codes "abc") ∷ greatest ∷ []) ∷ (number 2 ∷ Text (codes "ab") ∷ greatest ∷ []) ∷ (number 3 ∷ Text (codes "abc") ∷ number 7 ∷ []) ∷ [])
    ∷ []
    ) []

-- the columns of t have changed places. On u the first SET's column refuses its value before the second SET is looked at,
-- and the first row's second SET fails before the second row's first
run : replayed script empty_database history ≡ (
  one reply.Created
      ∷ one (reply.Inserted 2)
      ∷ one (reply.Updated 2)
      ∷ one (reply.Rows ((given 1 ∷ given 20 ∷ given 10 ∷ []) ∷ (given 2 ∷ given 40 ∷ given 30 ∷ []) ∷ []))
      ∷ one reply.Created
      ∷ one (reply.Inserted 3)
      ∷ one (reply.Refused refusal.TooLong)
      ∷ one (reply.Refused refusal.OutOfRange)
      ∷ one (reply.Refused refusal.OutOfRange)
      ∷ [],
  last,
)
run = refl

last_is_database : IsDatabase last
last_is_database = record { tables_by_name = refl; indexes_by_name = refl; rows_by_key = refl; rows_admitted = refl; keys_within = refl; indexes_on_tables = refl }
