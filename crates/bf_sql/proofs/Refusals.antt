-- One statement for each of many refusals.
use Rattle.std.specs.Prelude.{◌≡◌, List, [], ◌∷◌, None, codes, refl}
use Rattle.bf_base.specs.declared.value.Value.TheVariants.{Text}
use Rattle.bf_base.specs.declared.table.Admit.TheVariants as admits
use Rattle.bf_tree.specs.Trees.{literal, column, plus, joined}
use Rattle.bf_tree.specs.declared.items.Items.TheVariants as items
use Rattle.bf_tree.specs.declared.migration.Item.TheVariants as item
use Rattle.bf_tree.specs.declared.statement.ColumnForm.TheVariants as form
use Rattle.bf_tree.specs.declared.statement.Statement.TheVariants as statement
use Rattle.bf_tree.specs.declared.reply.Refusal.TheVariants as refusal
use Rattle.bf_tree.specs.declared.reply.Reply.TheVariants as reply
use Rattle.bf_tree.specs.declared.script.Script.{Script}
use Rattle.bf_tree.specs.declared.history.Entry.{Entry}
use Rattle.bf_sql.specs.Database.{Database, IsDatabase, empty_database}
use Rattle.bf_sql.specs.Scopes.{unqualified}
use Rattle.bf_sql.specs.History.{replayed}
use Rattle.bf_sql.proofs.Spelling.{one, number, rule, arm, target, migration, in_one_phase, alone, table, column_of, stored, index, database}

-- CREATE TABLE t (id INT, s VARCHAR(3), PRIMARY KEY (id));
-- CREATE INDEX i ON t (s);
-- INSERT INTO t VALUES (1, 'abc');
-- SELECT x FROM t;
-- SELECT s + 1 FROM t;
-- UPDATE t SET s = s || 'd';
-- CREATE TABLE t (id INT, PRIMARY KEY (id));
-- INSERT INTO t VALUES (2);
-- UPDATE t SET id = 2;
-- CREATE TABLE u (a INT, a INT, PRIMARY KEY (a));
-- MIGRATE (CREATE TABLE v AS SELECT id FROM w);
-- CREATE INDEX i ON t (id);
abbrev script : Script
script = in_one_phase (one (
    statement.CreateTable (codes "t") (rule (codes "id") form.Int ∷ rule (codes "s") (form.Varchar 3) ∷ []) (one (codes "id"))
    ∷ statement.CreateIndex (codes "i") (codes "t") (one (codes "s"))
    ∷ statement.Insert (codes "t") (one (number 1 ∷ Text (codes "abc") ∷ []))
    ∷ statement.Select (items.Exprs (one (column (unqualified (codes "x"))))) (codes "t") None
    ∷ statement.Select (items.Exprs (one (plus (column (unqualified (codes "s"))) (literal (number 1))))) (codes "t") None
    ∷ statement.Update (codes "t") (one (codes "s", joined (column (unqualified (codes "s"))) (literal (Text (codes "d"))))) None
    ∷ statement.CreateTable (codes "t") (one (rule (codes "id") form.Int)) (one (codes "id"))
    ∷ statement.Insert (codes "t") (one (one (number 2)))
    ∷ statement.Update (codes "t") (one (codes "id", literal (number 2))) None
    ∷ statement.CreateTable (codes "u") (rule (codes "a") form.Int ∷ rule (codes "a") form.Int ∷ []) (one (codes "a"))
    ∷ statement.Migrate (migration (one (target (codes "v") (one (arm (one (item.Column (unqualified (codes "id")))) (codes "w") None None [])))))
    ∷ statement.CreateIndex (codes "i") (codes "t") (one (codes "id"))
    ∷ []
    ))

abbrev history : List Entry
history = alone 1 ∷ alone 2 ∷ alone 3 ∷ alone 4 ∷ alone 5 ∷ alone 6 ∷ alone 7 ∷ alone 8 ∷ alone 9 ∷ alone 10 ∷ alone 11 ∷ alone 12 ∷ []

abbrev last : Database
last = database 2 (one (stored (table (codes "t") (column_of (codes "id") admits.Int ∷ column_of (codes "s") (admits.Varchar 3) ∷ []) (one 0)) (one (number 1 ∷ Text (codes "abc") ∷ [])))) (one (index (codes "i") (codes "t") (one 1)))

-- the replies to each transaction, and the database that they leave
run : replayed script empty_database history ≡ (
  one reply.Created
      ∷ one reply.Created
      ∷ one (reply.Inserted 1)
      ∷ one (reply.Refused (refusal.NoColumn (codes "x")))
      ∷ one (reply.Refused refusal.TypeMismatch)
      ∷ one (reply.Refused refusal.TooLong)
      ∷ one (reply.Refused (refusal.TableExists (codes "t")))
      ∷ one (reply.Refused refusal.WrongCount)
      ∷ one (reply.Refused (refusal.KeyColumn (codes "id")))
      ∷ one (reply.Refused (refusal.NameTwice (codes "a")))
      ∷ one (reply.Refused (refusal.SourceUnknown (codes "w")))
      ∷ one (reply.Refused (refusal.IndexExists (codes "i")))
      ∷ [],
  last,
)
run = refl

last_is_database : IsDatabase last
last_is_database = record { tables_by_name = refl; indexes_by_name = refl; rows_by_key = refl; rows_admitted = refl; keys_within = refl; indexes_on_tables = refl }
