-- A new table of totals has a row for each group.
use Rattle.std.specs.Prelude.{◌≡◌, pos, List, [], ◌∷◌, Some, None, codes, refl}
use Rattle.bf_base.specs.declared.table.Admit.TheVariants as admits
use Rattle.bf_tree.specs.declared.compare.Compare.TheVariants as compare
use Rattle.bf_tree.specs.Trees.{literal, column, compared, both}
use Rattle.bf_tree.specs.declared.items.Aggregate.TheVariants as total
use Rattle.bf_tree.specs.declared.items.Items.TheVariants as items
use Rattle.bf_tree.specs.declared.migration.Item.TheVariants as item
use Rattle.bf_tree.specs.declared.statement.ColumnForm.TheVariants as form
use Rattle.bf_tree.specs.declared.statement.Statement.TheVariants as statement
use Rattle.bf_tree.specs.declared.reply.Reply.TheVariants as reply
use Rattle.bf_tree.specs.declared.script.Script.{Script}
use Rattle.bf_tree.specs.declared.history.Entry.{Entry}
use Rattle.bf_sql.specs.Database.{Database, IsDatabase, empty_database}
use Rattle.bf_sql.specs.Scopes.{unqualified}
use Rattle.bf_sql.specs.History.{replayed}
use Rattle.bf_sql.proofs.Spelling.{one, number, given, rule, arm, target, migration, in_one_phase, alone, table, column_of, stored, database}

-- CREATE TABLE ord (id INT, cust INT, amt INT CHECK (amt BETWEEN 0 AND 1000), PRIMARY KEY (id));
-- INSERT INTO ord VALUES (1, 7, 10), (2, 7, 30), (3, 8, 5), (4, 9, 50);
-- MIGRATE (CREATE TABLE tot AS SELECT cust, COUNT(*) AS cnt, SUM(amt) AS total FROM ord GROUP BY cust);
-- SELECT * FROM tot WHERE total > 30 AND cust < 9;
abbrev script : Script
script = in_one_phase (one (
    statement.CreateTable (codes "ord") (rule (codes "id") form.Int ∷ rule (codes "cust") form.Int ∷ rule (codes "amt") (form.Checked (codes "amt") (pos 0) (pos 1000)) ∷ []) (one (codes "id"))
    ∷ statement.Insert (codes "ord") (
    (number 1 ∷ number 7 ∷ number 10 ∷ [])
    ∷ (number 2 ∷ number 7 ∷ number 30 ∷ [])
    ∷ (number 3 ∷ number 8 ∷ number 5 ∷ [])
    ∷ (number 4 ∷ number 9 ∷ number 50 ∷ [])
    ∷ []
    )
    ∷ statement.Migrate (migration (one (target (codes "tot") (one (arm (
    item.Column (unqualified (codes "cust"))
    ∷ item.Total total.Count (codes "cnt")
    ∷ item.Total (total.Sum (column (unqualified (codes "amt")))) (codes "total")
    ∷ []
    ) (codes "ord") None None (one (unqualified (codes "cust"))))))))
    ∷ statement.Select items.All (codes "tot") (Some (both (compared compare.Greater (column (unqualified (codes "total"))) (literal (number 30))) (compared compare.Less (column (unqualified (codes "cust"))) (literal (number 9)))))
    ∷ []
    ))

abbrev history : List Entry
history = alone 1 ∷ alone 2 ∷ alone 3 ∷ alone 4 ∷ []

abbrev last : Database
last = database 2 (one (stored (table (codes "tot") (column_of (codes "cust") admits.Int ∷ column_of (codes "cnt") admits.Int ∷ column_of (codes "total") admits.Int ∷ []) (one 0)) ((number 7 ∷ number 2 ∷ number 40 ∷ []) ∷ (number 8 ∷ number 1 ∷ number 5 ∷ []) ∷ (number 9 ∷ number 1 ∷ number 50 ∷ []) ∷ []))) []

-- the replies to each transaction, and the database that they leave
run : replayed script empty_database history ≡ (
  one reply.Created
      ∷ one (reply.Inserted 4)
      ∷ one (reply.Migrated 1)
      ∷ one (reply.Rows (one (given 7 ∷ given 2 ∷ given 40 ∷ [])))
      ∷ [],
  last,
)
run = refl

last_is_database : IsDatabase last
last_is_database = record { tables_by_name = refl; indexes_by_name = refl; rows_by_key = refl; rows_admitted = refl; keys_within = refl; indexes_on_tables = refl }
