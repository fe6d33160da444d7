-- Rows that come in any order are read in key order.
use Rattle.std.specs.Prelude.{◌≡◌, List, [], ◌∷◌, None, codes, refl}
use Rattle.bf_base.specs.declared.table.Admit.TheVariants as admits
use Rattle.bf_tree.specs.declared.items.Items.TheVariants as items
use Rattle.bf_tree.specs.declared.statement.ColumnForm.TheVariants as form
use Rattle.bf_tree.specs.declared.statement.Statement.TheVariants as statement
use Rattle.bf_tree.specs.declared.reply.Reply.TheVariants as reply
use Rattle.bf_tree.specs.declared.script.Script.{Script}
use Rattle.bf_tree.specs.declared.history.Entry.{Entry}
use Rattle.bf_sql.specs.Database.{Database, IsDatabase, empty_database}
use Rattle.bf_sql.specs.History.{replayed}
use Rattle.bf_sql.proofs.Spelling.{one, number, given, rule, in_one_phase, alone, table, column_of, stored, database}

-- CREATE TABLE t (id INT, PRIMARY KEY (id));
-- INSERT INTO t VALUES (3);
-- INSERT INTO t VALUES (1);
-- INSERT INTO t VALUES (2);
-- SELECT * FROM t;
abbrev script : Script
script = in_one_phase (one (
    statement.CreateTable (codes "t") (one (rule (codes "id") form.Int)) (one (codes "id"))
    ∷ statement.Insert (codes "t") (one (one (number 3)))
    ∷ statement.Insert (codes "t") (one (one (number 1)))
    ∷ statement.Insert (codes "t") (one (one (number 2)))
    ∷ statement.Select items.All (codes "t") None
    ∷ []
    ))

abbrev history : List Entry
history = alone 1 ∷ alone 2 ∷ alone 3 ∷ alone 4 ∷ alone 5 ∷ []

abbrev last : Database
last = database 1 (one (stored (table (codes "t") (one (column_of (codes "id") admits.Int)) (one 0)) (one (number 1) ∷ one (number 2) ∷ one (number 3) ∷ []))) []

-- the replies to each transaction, and the database that they leave
run : replayed script empty_database history ≡ (
  one reply.Created
      ∷ one (reply.Inserted 1)
      ∷ one (reply.Inserted 1)
      ∷ one (reply.Inserted 1)
      ∷ one (reply.Rows (one (given 1) ∷ one (given 2) ∷ one (given 3) ∷ []))
      ∷ [],
  last,
)
run = refl

last_is_database : IsDatabase last
last_is_database = record { tables_by_name = refl; indexes_by_name = refl; rows_by_key = refl; rows_admitted = refl; keys_within = refl; indexes_on_tables = refl }
