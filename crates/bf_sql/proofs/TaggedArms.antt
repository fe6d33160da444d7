-- The arms of a new table tell their rows apart by tags.
use Rattle.std.specs.Prelude.{◌≡◌, List, [], ◌∷◌, None, codes, refl}
use Rattle.bf_base.specs.declared.table.Admit.TheVariants as admits
use Rattle.bf_tree.specs.Trees.{literal, column}
use Rattle.bf_tree.specs.declared.items.Items.TheVariants as items
use Rattle.bf_tree.specs.declared.migration.Item.TheVariants as item
use Rattle.bf_tree.specs.declared.statement.ColumnForm.TheVariants as form
use Rattle.bf_tree.specs.declared.statement.Statement.TheVariants as statement
use Rattle.bf_tree.specs.declared.reply.Refusal.TheVariants as refusal
use Rattle.bf_tree.specs.declared.reply.Reply.TheVariants as reply
use Rattle.bf_tree.specs.declared.script.Script.{Script}
use Rattle.bf_tree.specs.declared.history.Entry.{Entry}
use Rattle.bf_sql.specs.Database.{Database, IsDatabase, empty_database}
use Rattle.bf_sql.specs.Scopes.{unqualified}
use Rattle.bf_sql.specs.History.{replayed}
use Rattle.bf_sql.proofs.Spelling.{one, number, given, rule, arm, target, migration, in_one_phase, alone, table, column_of, stored, database}

-- CREATE TABLE c (id INT, h INT, w INT, PRIMARY KEY (id));
-- INSERT INTO c VALUES (1, 20, 30);
-- MIGRATE (CREATE TABLE ph AS SELECT 1 AS tag, id, h AS num FROM c UNION ALL SELECT 1 AS tag, id, w AS num FROM c);
-- MIGRATE (CREATE TABLE ph AS SELECT 1 AS tag, id, h AS num FROM c UNION ALL SELECT 2 AS tag, id, w AS num FROM c);
-- SELECT * FROM ph;
abbrev script : Script
script = in_one_phase (one (
    statement.CreateTable (codes "c") (rule (codes "id") form.Int ∷ rule (codes "h") form.Int ∷ rule (codes "w") form.Int ∷ []) (one (codes "id"))
    ∷ statement.Insert (codes "c") (one (number 1 ∷ number 20 ∷ number 30 ∷ []))
    ∷ statement.Migrate (migration (one (target (codes "ph") (
    arm (
    item.Named (literal (number 1)) (codes "tag")
    ∷ item.Column (unqualified (codes "id"))
    ∷ item.Named (column (unqualified (codes "h"))) (codes "num")
    ∷ []
    ) (codes "c") None None []
    ∷ arm (
    item.Named (literal (number 1)) (codes "tag")
    ∷ item.Column (unqualified (codes "id"))
    ∷ item.Named (column (unqualified (codes "w"))) (codes "num")
    ∷ []
    ) (codes "c") None None []
    ∷ []
    ))))
    ∷ statement.Migrate (migration (one (target (codes "ph") (
    arm (
    item.Named (literal (number 1)) (codes "tag")
    ∷ item.Column (unqualified (codes "id"))
    ∷ item.Named (column (unqualified (codes "h"))) (codes "num")
    ∷ []
    ) (codes "c") None None []
    ∷ arm (
    item.Named (literal (number 2)) (codes "tag")
    ∷ item.Column (unqualified (codes "id"))
    ∷ item.Named (column (unqualified (codes "w"))) (codes "num")
    ∷ []
    ) (codes "c") None None []
    ∷ []
    ))))
    ∷ statement.Select items.All (codes "ph") None
    ∷ []
    ))

abbrev history : List Entry
history = alone 1 ∷ alone 2 ∷ alone 3 ∷ alone 4 ∷ alone 5 ∷ []

abbrev last : Database
last = database 2 (one (stored (table (codes "ph") (column_of (codes "tag") admits.Int ∷ column_of (codes "id") admits.Int ∷ column_of (codes "num") admits.Int ∷ []) (0 ∷ 1 ∷ [])) ((number 1 ∷ number 1 ∷ number 20 ∷ []) ∷ (number 2 ∷ number 1 ∷ number 30 ∷ []) ∷ []))) []

-- the replies to each transaction, and the database that they leave
run : replayed script empty_database history ≡ (
  one reply.Created
      ∷ one (reply.Inserted 1)
      ∷ one (reply.Refused (refusal.KeyNotInherited (codes "ph")))
      ∷ one (reply.Migrated 1)
      ∷ one (reply.Rows ((given 1 ∷ given 1 ∷ given 20 ∷ []) ∷ (given 2 ∷ given 1 ∷ given 30 ∷ []) ∷ []))
      ∷ [],
  last,
)
run = refl

last_is_database : IsDatabase last
last_is_database = record { tables_by_name = refl; indexes_by_name = refl; rows_by_key = refl; rows_admitted = refl; keys_within = refl; indexes_on_tables = refl }
