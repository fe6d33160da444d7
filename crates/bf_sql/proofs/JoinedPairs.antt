-- A new table has a row for each pair of rows with equal columns.
use Rattle.std.specs.Prelude.{◌≡◌, List, [], ◌∷◌, Some, None, codes, refl}
use Rattle.bf_base.specs.declared.table.Admit.TheVariants as admits
use Rattle.bf_tree.specs.declared.items.Items.TheVariants as items
use Rattle.bf_tree.specs.declared.migration.Item.TheVariants as item
use Rattle.bf_tree.specs.declared.statement.ColumnForm.TheVariants as form
use Rattle.bf_tree.specs.declared.statement.Statement.TheVariants as statement
use Rattle.bf_tree.specs.declared.reply.Reply.TheVariants as reply
use Rattle.bf_tree.specs.declared.script.Script.{Script}
use Rattle.bf_tree.specs.declared.history.Entry.{Entry}
use Rattle.bf_sql.specs.Database.{Database, IsDatabase, empty_database}
use Rattle.bf_sql.specs.Scopes.{unqualified}
use Rattle.bf_sql.specs.History.{replayed}
use Rattle.bf_sql.proofs.Spelling.{one, number, given, qualified, rule, join, arm, target, migration, in_one_phase, alone, table, column_of, stored, database}

-- CREATE TABLE a (aid INT, v INT, PRIMARY KEY (aid));
-- CREATE TABLE b (bid INT, v INT, PRIMARY KEY (bid));
-- INSERT INTO a VALUES (1, 5), (2, 6);
-- INSERT INTO b VALUES (1, 5), (2, 5), (3, 9);
-- MIGRATE (CREATE TABLE j AS SELECT aid, bid, a.v FROM a JOIN b ON a.v = b.v);
-- SELECT * FROM j;
abbrev script : Script
script = in_one_phase (one (
    statement.CreateTable (codes "a") (rule (codes "aid") form.Int ∷ rule (codes "v") form.Int ∷ []) (one (codes "aid"))
    ∷ statement.CreateTable (codes "b") (rule (codes "bid") form.Int ∷ rule (codes "v") form.Int ∷ []) (one (codes "bid"))
    ∷ statement.Insert (codes "a") ((number 1 ∷ number 5 ∷ []) ∷ (number 2 ∷ number 6 ∷ []) ∷ [])
    ∷ statement.Insert (codes "b") ((number 1 ∷ number 5 ∷ []) ∷ (number 2 ∷ number 5 ∷ []) ∷ (number 3 ∷ number 9 ∷ []) ∷ [])
    ∷ statement.Migrate (migration (one (target (codes "j") (one (arm (
    item.Column (unqualified (codes "aid"))
    ∷ item.Column (unqualified (codes "bid"))
    ∷ item.Column (qualified (codes "a") (codes "v"))
    ∷ []
    ) (codes "a") (Some (join (codes "b") (one (qualified (codes "a") (codes "v"), qualified (codes "b") (codes "v"))))) None [])))))
    ∷ statement.Select items.All (codes "j") None
    ∷ []
    ))

abbrev history : List Entry
history = alone 1 ∷ alone 2 ∷ alone 3 ∷ alone 4 ∷ alone 5 ∷ alone 6 ∷ []

abbrev last : Database
last = database 3 (one (stored (table (codes "j") (column_of (codes "aid") admits.Int ∷ column_of (codes "bid") admits.Int ∷ column_of (codes "v") admits.Int ∷ []) (0 ∷ 1 ∷ [])) ((number 1 ∷ number 1 ∷ number 5 ∷ []) ∷ (number 1 ∷ number 2 ∷ number 5 ∷ []) ∷ []))) []

-- the replies to each transaction, and the database that they leave
run : replayed script empty_database history ≡ (
  one reply.Created
      ∷ one reply.Created
      ∷ one (reply.Inserted 2)
      ∷ one (reply.Inserted 3)
      ∷ one (reply.Migrated 1)
      ∷ one (reply.Rows ((given 1 ∷ given 1 ∷ given 5 ∷ []) ∷ (given 1 ∷ given 2 ∷ given 5 ∷ []) ∷ []))
      ∷ [],
  last,
)
run = refl

last_is_database : IsDatabase last
last_is_database = record { tables_by_name = refl; indexes_by_name = refl; rows_by_key = refl; rows_admitted = refl; keys_within = refl; indexes_on_tables = refl }
