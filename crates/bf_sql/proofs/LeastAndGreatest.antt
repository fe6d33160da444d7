-- MIN and MAX over rows where neither the first nor the last row has both, of numbers and of texts.
use Rattle.std.specs.Prelude.{◌≡◌, ℕ, List, [], ◌∷◌, Some, None, codes, refl}
use Rattle.bf_base.specs.declared.value.Value.{Value}
use Rattle.bf_base.specs.declared.value.Value.TheVariants.{Text}
use Rattle.bf_base.specs.declared.table.Admit.TheVariants as admits
use Rattle.bf_tree.specs.declared.compare.Compare.TheVariants as compare
use Rattle.bf_tree.specs.declared.raw.Ref.{Ref}
use Rattle.bf_tree.specs.Trees.{Expr, literal, column, compared}
use Rattle.bf_tree.specs.declared.items.Aggregate.TheVariants as total
use Rattle.bf_tree.specs.declared.items.Items.{Items}
use Rattle.bf_tree.specs.declared.items.Items.TheVariants as items
use Rattle.bf_tree.specs.declared.statement.ColumnForm.TheVariants as form
use Rattle.bf_tree.specs.declared.statement.Statement.TheVariants as statement
use Rattle.bf_tree.specs.declared.reply.Cell.{Cell}
use Rattle.bf_tree.specs.declared.reply.Cell.TheVariants as cells
use Rattle.bf_tree.specs.declared.reply.Reply.TheVariants as reply
use Rattle.bf_tree.specs.declared.script.Script.{Script}
use Rattle.bf_tree.specs.declared.history.Entry.{Entry}
use Rattle.bf_sql.specs.Database.{Database, IsDatabase, empty_database}
use Rattle.bf_sql.specs.Scopes.{unqualified}
use Rattle.bf_sql.specs.History.{replayed}
use Rattle.bf_sql.proofs.Spelling.{one, number, given, rule, in_one_phase, alone, table, column_of, stored, database}

abbrev name : List ℕ → Expr Ref
name column_name = column (unqualified column_name)

abbrev letters : List ℕ → Cell
letters t = cells.Value (Text t)

-- MIN(n), MAX(n), MIN(s), MAX(s)
abbrev ends : Items (Expr Ref)
ends = items.Aggregates (total.Min (name (codes "n")) ∷ total.Max (name (codes "n")) ∷ total.Min (name (codes "s")) ∷ total.Max (name (codes "s")) ∷ [])

abbrev rows : List (List Value)
rows = (number 1 ∷ number 5 ∷ Text (codes "b") ∷ []) ∷ (number 2 ∷ number 7 ∷ Text (codes "ab") ∷ []) ∷ (number 3 ∷ number 6 ∷ Text (codes "a") ∷ []) ∷ []

-- CREATE TABLE m (id INT, n INT, s VARCHAR(3), PRIMARY KEY (id));
-- INSERT INTO m VALUES (1, 5, 'b'), (2, 7, 'ab'), (3, 6, 'a');
-- SELECT MIN(n), MAX(n), MIN(s), MAX(s) FROM m WHERE id < 3;
-- SELECT MIN(n), MAX(n), MIN(s), MAX(s) FROM m;
abbrev script : Script
script = in_one_phase (one (
    statement.CreateTable (codes "m") (rule (codes "id") form.Int ∷ rule (codes "n") form.Int ∷ rule (codes "s") (form.Varchar 3) ∷ []) (one (codes "id"))
    ∷ statement.Insert (codes "m") rows
    ∷ statement.Select ends (codes "m") (Some (compared compare.Less (name (codes "id")) (literal (number 3))))
    ∷ statement.Select ends (codes "m") None
    ∷ []
    ))

abbrev history : List Entry
history = alone 1 ∷ alone 2 ∷ alone 3 ∷ alone 4 ∷ []

abbrev last : Database
last = database 1 (one (stored (table (codes "m") (column_of (codes "id") admits.Int ∷ column_of (codes "n") admits.Int ∷ column_of (codes "s") (admits.Varchar 3) ∷ []) (one 0)) rows)) []

-- texts go by their bytes, a prefix before the longer text: 'a', 'ab', 'b'
run : replayed script empty_database history ≡ (
  one reply.Created
      ∷ one (reply.Inserted 3)
      ∷ one (reply.Rows (one (given 5 ∷ given 7 ∷ letters (codes "ab") ∷ letters (codes "b") ∷ [])))
      ∷ one (reply.Rows (one (given 5 ∷ given 7 ∷ letters (codes "a") ∷ letters (codes "b") ∷ [])))
      ∷ [],
  last,
)
run = refl

last_is_database : IsDatabase last
last_is_database = record { tables_by_name = refl; indexes_by_name = refl; rows_by_key = refl; rows_admitted = refl; keys_within = refl; indexes_on_tables = refl }
