-- A new table takes the place of one that came out of a migration.
use Rattle.std.specs.Prelude.{◌≡◌, List, [], ◌∷◌, Some, None, codes, refl}
use Rattle.bf_base.specs.declared.value.Value.TheVariants.{Text}
use Rattle.bf_base.specs.declared.table.Admit.TheVariants as admits
use Rattle.bf_tree.specs.declared.compare.Compare.TheVariants as compare
use Rattle.bf_tree.specs.Trees.{literal, column, joined, compared}
use Rattle.bf_tree.specs.declared.items.Items.TheVariants as items
use Rattle.bf_tree.specs.declared.migration.Item.TheVariants as item
use Rattle.bf_tree.specs.declared.statement.ColumnForm.TheVariants as form
use Rattle.bf_tree.specs.declared.statement.Statement.TheVariants as statement
use Rattle.bf_tree.specs.declared.reply.Cell.TheVariants as cell
use Rattle.bf_tree.specs.declared.reply.Reply.TheVariants as reply
use Rattle.bf_tree.specs.declared.script.Script.{Script}
use Rattle.bf_tree.specs.declared.history.Entry.{Entry}
use Rattle.bf_sql.specs.Database.{Database, IsDatabase, empty_database}
use Rattle.bf_sql.specs.Scopes.{unqualified}
use Rattle.bf_sql.specs.History.{replayed}
use Rattle.bf_sql.proofs.Spelling.{one, number, given, rule, arm, target, migration, in_one_phase, alone, table, column_of, stored, database}

-- CREATE TABLE cust (id INT, name VARCHAR(20), pin INT, PRIMARY KEY (id));
-- INSERT INTO cust VALUES (1, 'Ann', 11), (2, 'Bob', 22), (3, 'Cy', 33);
-- MIGRATE (CREATE TABLE pub AS SELECT id, name FROM cust; CREATE TABLE priv AS SELECT id, pin FROM cust);
-- MIGRATE (CREATE TABLE pub AS SELECT id, name || '!' AS name FROM pub);
-- SELECT * FROM pub WHERE id = 3;
abbrev script : Script
script = in_one_phase (one (
    statement.CreateTable (codes "cust") (rule (codes "id") form.Int ∷ rule (codes "name") (form.Varchar 20) ∷ rule (codes "pin") form.Int ∷ []) (one (codes "id"))
    ∷ statement.Insert (codes "cust") (
    (number 1 ∷ Text (codes "Ann") ∷ number 11 ∷ [])
    ∷ (number 2 ∷ Text (codes "Bob") ∷ number 22 ∷ [])
    ∷ (number 3 ∷ Text (codes "Cy") ∷ number 33 ∷ [])
    ∷ []
    )
    ∷ statement.Migrate (migration (
    target (codes "pub") (one (arm (item.Column (unqualified (codes "id")) ∷ item.Column (unqualified (codes "name")) ∷ []) (codes "cust") None None []))
    ∷ target (codes "priv") (one (arm (item.Column (unqualified (codes "id")) ∷ item.Column (unqualified (codes "pin")) ∷ []) (codes "cust") None None []))
    ∷ []
    ))
    ∷ statement.Migrate (migration (one (target (codes "pub") (one (arm (
    item.Column (unqualified (codes "id"))
    ∷ item.Named (joined (column (unqualified (codes "name"))) (literal (Text (codes "!")))) (codes "name")
    ∷ []
    ) (codes "pub") None None [])))))
    ∷ statement.Select items.All (codes "pub") (Some (compared compare.Equal (column (unqualified (codes "id"))) (literal (number 3))))
    ∷ []
    ))

abbrev history : List Entry
history = alone 1 ∷ alone 2 ∷ alone 3 ∷ alone 4 ∷ alone 5 ∷ []

abbrev last : Database
last = database 3 (
    stored (table (codes "priv") (column_of (codes "id") admits.Int ∷ column_of (codes "pin") admits.Int ∷ []) (one 0)) ((number 1 ∷ number 11 ∷ []) ∷ (number 2 ∷ number 22 ∷ []) ∷ (number 3 ∷ number 33 ∷ []) ∷ [])
    ∷ stored (table (codes "pub") (column_of (codes "id") admits.Int ∷ column_of (codes "name") (admits.Varchar 21) ∷ []) (one 0)) ((number 1 ∷ Text (codes "Ann!") ∷ []) ∷ (number 2 ∷ Text (codes "Bob!") ∷ []) ∷ (number 3 ∷ Text (codes "Cy!") ∷ []) ∷ [])
    ∷ []
    ) []

-- the replies to each transaction, and the database that they leave
run : replayed script empty_database history ≡ (
  one reply.Created
      ∷ one (reply.Inserted 3)
      ∷ one (reply.Migrated 2)
      ∷ one (reply.Migrated 1)
      ∷ one (reply.Rows (one (given 3 ∷ cell.Value (Text (codes "Cy!")) ∷ [])))
      ∷ [],
  last,
)
run = refl

last_is_database : IsDatabase last
last_is_database = record { tables_by_name = refl; indexes_by_name = refl; rows_by_key = refl; rows_admitted = refl; keys_within = refl; indexes_on_tables = refl }
