-- A sum is refused where 2^20 times an end of its argument leaves the INTs.
use Rattle.std.specs.Prelude.{◌≡◌, pos, List, [], ◌∷◌, None, codes, refl}
use Rattle.bf_base.specs.declared.table.Admit.TheVariants as admits
use Rattle.bf_tree.specs.Trees.{column}
use Rattle.bf_tree.specs.declared.items.Aggregate.TheVariants as total
use Rattle.bf_tree.specs.declared.migration.Item.TheVariants as item
use Rattle.bf_tree.specs.declared.statement.ColumnForm.TheVariants as form
use Rattle.bf_tree.specs.declared.statement.Statement.TheVariants as statement
use Rattle.bf_tree.specs.declared.reply.Refusal.TheVariants as refusal
use Rattle.bf_tree.specs.declared.reply.Reply.TheVariants as reply
use Rattle.bf_tree.specs.declared.script.Script.{Script}
use Rattle.bf_tree.specs.declared.history.Entry.{Entry}
use Rattle.bf_sql.specs.Database.{Database, IsDatabase, empty_database}
use Rattle.bf_sql.specs.Scopes.{unqualified}
use Rattle.bf_sql.specs.History.{replayed}
use Rattle.bf_sql.proofs.Spelling.{one, rule, arm, target, migration, in_one_phase, alone, table, column_of, stored, database}

-- CREATE TABLE c (id INT, n INT CHECK (n BETWEEN 0 AND 8796093022207), PRIMARY KEY (id));
-- CREATE TABLE d (id INT, n INT CHECK (n BETWEEN 0 AND 8796093022208), PRIMARY KEY (id));
-- MIGRATE (CREATE TABLE s AS SELECT id, SUM(n) AS m FROM d GROUP BY id);
-- MIGRATE (CREATE TABLE s AS SELECT id, SUM(n) AS m FROM c GROUP BY id);
abbrev script : Script
script = in_one_phase (one (
    statement.CreateTable (codes "c") (rule (codes "id") form.Int ∷ rule (codes "n") (form.Checked (codes "n") (pos 0) (pos 8796093022207)) ∷ []) (one (codes "id"))
    ∷ statement.CreateTable (codes "d") (rule (codes "id") form.Int ∷ rule (codes "n") (form.Checked (codes "n") (pos 0) (pos 8796093022208)) ∷ []) (one (codes "id"))
    ∷ statement.Migrate (migration (one (target (codes "s") (one (arm (item.Column (unqualified (codes "id")) ∷ item.Total (total.Sum (column (unqualified (codes "n")))) (codes "m") ∷ []) (codes "d") None None (one (unqualified (codes "id"))))))))
    ∷ statement.Migrate (migration (one (target (codes "s") (one (arm (item.Column (unqualified (codes "id")) ∷ item.Total (total.Sum (column (unqualified (codes "n")))) (codes "m") ∷ []) (codes "c") None None (one (unqualified (codes "id"))))))))
    ∷ []
    ))

abbrev history : List Entry
history = alone 1 ∷ alone 2 ∷ alone 3 ∷ alone 4 ∷ []

abbrev last : Database
last = database 3 (
    stored (table (codes "d") (column_of (codes "id") admits.Int ∷ column_of (codes "n") (admits.Checked (pos 0) (pos 8796093022208)) ∷ []) (one 0)) []
    ∷ stored (table (codes "s") (column_of (codes "id") admits.Int ∷ column_of (codes "m") admits.Int ∷ []) (one 0)) []
    ∷ []
    ) []

-- the replies to each transaction, and the database that they leave
run : replayed script empty_database history ≡ (
  one reply.Created
      ∷ one reply.Created
      ∷ one (reply.Refused (refusal.MayFail (codes "s") 2))
      ∷ one (reply.Migrated 1)
      ∷ [],
  last,
)
run = refl

last_is_database : IsDatabase last
last_is_database = record { tables_by_name = refl; indexes_by_name = refl; rows_by_key = refl; rows_admitted = refl; keys_within = refl; indexes_on_tables = refl }
