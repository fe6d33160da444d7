-- A table is split in two, which keep its key.
use Rattle.std.specs.Prelude.{◌≡◌, List, [], ◌∷◌, Some, None, codes, refl}
use Rattle.bf_base.specs.declared.value.Value.TheVariants.{Text}
use Rattle.bf_base.specs.declared.table.Admit.TheVariants as admits
use Rattle.bf_tree.specs.declared.compare.Compare.TheVariants as compare
use Rattle.bf_tree.specs.Trees.{literal, column, compared}
use Rattle.bf_tree.specs.declared.items.Aggregate.TheVariants as total
use Rattle.bf_tree.specs.declared.items.Items.TheVariants as items
use Rattle.bf_tree.specs.declared.migration.Item.TheVariants as item
use Rattle.bf_tree.specs.declared.statement.ColumnForm.TheVariants as form
use Rattle.bf_tree.specs.declared.statement.Statement.TheVariants as statement
use Rattle.bf_tree.specs.declared.reply.Cell.TheVariants as cell
use Rattle.bf_tree.specs.declared.reply.Refusal.TheVariants as refusal
use Rattle.bf_tree.specs.declared.reply.Reply.TheVariants as reply
use Rattle.bf_tree.specs.declared.script.Script.{Script}
use Rattle.bf_tree.specs.declared.history.Entry.{Entry}
use Rattle.bf_sql.specs.Database.{Database, IsDatabase, empty_database}
use Rattle.bf_sql.specs.Scopes.{unqualified}
use Rattle.bf_sql.specs.History.{replayed}
use Rattle.bf_sql.proofs.Spelling.{one, number, given, rule, arm, target, migration, in_one_phase, alone, table, column_of, stored, database}

-- CREATE TABLE cust (id INT, name VARCHAR(20), pin INT, PRIMARY KEY (id));
-- INSERT INTO cust VALUES (1, 'Ann', 11), (2, 'Bob', 22), (3, 'Cy', 33);
-- MIGRATE (CREATE TABLE pub AS SELECT id, name FROM cust; CREATE TABLE priv AS SELECT id, pin FROM cust);
-- SELECT * FROM pub WHERE id = 2;
-- INSERT INTO pub VALUES (3, 'Zed');
-- SELECT COUNT(*) FROM cust;
-- DELETE FROM pub WHERE id = 1;
-- SELECT * FROM pub;
-- SELECT COUNT(*), SUM(pin) FROM priv;
abbrev script : Script
script = in_one_phase (one (
    statement.CreateTable (codes "cust") (rule (codes "id") form.Int ∷ rule (codes "name") (form.Varchar 20) ∷ rule (codes "pin") form.Int ∷ []) (one (codes "id"))
    ∷ statement.Insert (codes "cust") (
    (number 1 ∷ Text (codes "Ann") ∷ number 11 ∷ [])
    ∷ (number 2 ∷ Text (codes "Bob") ∷ number 22 ∷ [])
    ∷ (number 3 ∷ Text (codes "Cy") ∷ number 33 ∷ [])
    ∷ []
    )
    ∷ statement.Migrate (migration (
    target (codes "pub") (one (arm (item.Column (unqualified (codes "id")) ∷ item.Column (unqualified (codes "name")) ∷ []) (codes "cust") None None []))
    ∷ target (codes "priv") (one (arm (item.Column (unqualified (codes "id")) ∷ item.Column (unqualified (codes "pin")) ∷ []) (codes "cust") None None []))
    ∷ []
    ))
    ∷ statement.Select items.All (codes "pub") (Some (compared compare.Equal (column (unqualified (codes "id"))) (literal (number 2))))
    ∷ statement.Insert (codes "pub") (one (number 3 ∷ Text (codes "Zed") ∷ []))
    ∷ statement.Select (items.Aggregates (one total.Count)) (codes "cust") None
    ∷ statement.Delete (codes "pub") (Some (compared compare.Equal (column (unqualified (codes "id"))) (literal (number 1))))
    ∷ statement.Select items.All (codes "pub") None
    ∷ statement.Select (items.Aggregates (total.Count ∷ total.Sum (column (unqualified (codes "pin"))) ∷ [])) (codes "priv") None
    ∷ []
    ))

abbrev history : List Entry
history = alone 1 ∷ alone 2 ∷ alone 3 ∷ alone 4 ∷ alone 5 ∷ alone 6 ∷ alone 7 ∷ alone 8 ∷ alone 9 ∷ []

abbrev last : Database
last = database 2 (
    stored (table (codes "priv") (column_of (codes "id") admits.Int ∷ column_of (codes "pin") admits.Int ∷ []) (one 0)) ((number 1 ∷ number 11 ∷ []) ∷ (number 2 ∷ number 22 ∷ []) ∷ (number 3 ∷ number 33 ∷ []) ∷ [])
    ∷ stored (table (codes "pub") (column_of (codes "id") admits.Int ∷ column_of (codes "name") (admits.Varchar 20) ∷ []) (one 0)) ((number 2 ∷ Text (codes "Bob") ∷ []) ∷ (number 3 ∷ Text (codes "Cy") ∷ []) ∷ [])
    ∷ []
    ) []

-- the replies to each transaction, and the database that they leave
run : replayed script empty_database history ≡ (
  one reply.Created
      ∷ one (reply.Inserted 3)
      ∷ one (reply.Migrated 2)
      ∷ one (reply.Rows (one (given 2 ∷ cell.Value (Text (codes "Bob")) ∷ [])))
      ∷ one (reply.Refused (refusal.DuplicateKey (one (number 3))))
      ∷ one (reply.Refused (refusal.NoTable (codes "cust")))
      ∷ one (reply.Deleted 1)
      ∷ one (reply.Rows ((given 2 ∷ cell.Value (Text (codes "Bob")) ∷ []) ∷ (given 3 ∷ cell.Value (Text (codes "Cy")) ∷ []) ∷ []))
      ∷ one (reply.Rows (one (given 3 ∷ given 66 ∷ [])))
      ∷ [],
  last,
)
run = refl

last_is_database : IsDatabase last
last_is_database = record { tables_by_name = refl; indexes_by_name = refl; rows_by_key = refl; rows_admitted = refl; keys_within = refl; indexes_on_tables = refl }
