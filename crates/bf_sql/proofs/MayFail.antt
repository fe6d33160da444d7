-- An item that may fail on some row is refused, also where no row is there; a check can rule that out.
use Rattle.std.specs.Prelude.{◌≡◌, pos, List, [], ◌∷◌, None, codes, refl}
use Rattle.bf_base.specs.declared.table.Admit.TheVariants as admits
use Rattle.bf_tree.specs.Trees.{literal, column, plus}
use Rattle.bf_tree.specs.declared.items.Items.TheVariants as items
use Rattle.bf_tree.specs.declared.migration.Item.TheVariants as item
use Rattle.bf_tree.specs.declared.statement.ColumnForm.TheVariants as form
use Rattle.bf_tree.specs.declared.statement.Statement.TheVariants as statement
use Rattle.bf_tree.specs.declared.reply.Refusal.TheVariants as refusal
use Rattle.bf_tree.specs.declared.reply.Reply.TheVariants as reply
use Rattle.bf_tree.specs.declared.script.Script.{Script}
use Rattle.bf_tree.specs.declared.history.Entry.{Entry}
use Rattle.bf_sql.specs.Database.{Database, IsDatabase, empty_database}
use Rattle.bf_sql.specs.Scopes.{unqualified}
use Rattle.bf_sql.specs.History.{replayed}
use Rattle.bf_sql.proofs.Spelling.{one, number, given, rule, arm, target, migration, in_one_phase, alone, table, column_of, stored, database}

-- CREATE TABLE p (id INT, x INT, PRIMARY KEY (id));
-- CREATE TABLE q (id INT, x INT CHECK (x BETWEEN 0 AND 9), PRIMARY KEY (id));
-- MIGRATE (CREATE TABLE p2 AS SELECT id, x + 1 AS y FROM p);
-- MIGRATE (CREATE TABLE q2 AS SELECT id, x + 1 AS y FROM q);
-- INSERT INTO p VALUES (1, 9223372036854775807);
-- UPDATE p SET x = x + 1;
-- SELECT * FROM p;
abbrev script : Script
script = in_one_phase (one (
    statement.CreateTable (codes "p") (rule (codes "id") form.Int ∷ rule (codes "x") form.Int ∷ []) (one (codes "id"))
    ∷ statement.CreateTable (codes "q") (rule (codes "id") form.Int ∷ rule (codes "x") (form.Checked (codes "x") (pos 0) (pos 9)) ∷ []) (one (codes "id"))
    ∷ statement.Migrate (migration (one (target (codes "p2") (one (arm (
    item.Column (unqualified (codes "id"))
    ∷ item.Named (plus (column (unqualified (codes "x"))) (literal (number 1))) (codes "y")
    ∷ []
    ) (codes "p") None None [])))))
    ∷ statement.Migrate (migration (one (target (codes "q2") (one (arm (
    item.Column (unqualified (codes "id"))
    ∷ item.Named (plus (column (unqualified (codes "x"))) (literal (number 1))) (codes "y")
    ∷ []
    ) (codes "q") None None [])))))
    ∷ statement.Insert (codes "p") (one (number 1 ∷ number 9223372036854775807 ∷ []))
    ∷ statement.Update (codes "p") (one (codes "x", plus (column (unqualified (codes "x"))) (literal (number 1)))) None
    ∷ statement.Select items.All (codes "p") None
    ∷ []
    ))

abbrev history : List Entry
history = alone 1 ∷ alone 2 ∷ alone 3 ∷ alone 4 ∷ alone 5 ∷ alone 6 ∷ alone 7 ∷ []

abbrev last : Database
last = database 3 (
    stored (table (codes "p") (column_of (codes "id") admits.Int ∷ column_of (codes "x") admits.Int ∷ []) (one 0)) (one (number 1 ∷ number 9223372036854775807 ∷ []))
    ∷ stored (table (codes "q2") (column_of (codes "id") admits.Int ∷ column_of (codes "y") admits.Int ∷ []) (one 0)) []
    ∷ []
    ) []

-- the replies to each transaction, and the database that they leave
run : replayed script empty_database history ≡ (
  one reply.Created
      ∷ one reply.Created
      ∷ one (reply.Refused (refusal.MayFail (codes "p2") 2))
      ∷ one (reply.Migrated 1)
      ∷ one (reply.Inserted 1)
      ∷ one (reply.Refused refusal.OutOfRange)
      ∷ one (reply.Rows (one (given 1 ∷ given 9223372036854775807 ∷ [])))
      ∷ [],
  last,
)
run = refl

last_is_database : IsDatabase last
last_is_database = record { tables_by_name = refl; indexes_by_name = refl; rows_by_key = refl; rows_admitted = refl; keys_within = refl; indexes_on_tables = refl }
