-- The order of the objections to an INSERT of several faults: tuple by tuple, each tuple's values from the left, then its key.
use Rattle.std.specs.Prelude.{◌≡◌, ℕ, pos, List, [], ◌∷◌, codes, refl}
use Rattle.bf_base.specs.declared.value.Value.{Value}
use Rattle.bf_base.specs.declared.value.Value.TheVariants.{Text}
use Rattle.bf_base.specs.declared.table.Admit.TheVariants as admits
use Rattle.bf_base.specs.declared.table.Column.{Column}
use Rattle.bf_tree.specs.declared.statement.ColumnForm.TheVariants as form
use Rattle.bf_tree.specs.declared.statement.ColumnRule.{ColumnRule}
use Rattle.bf_tree.specs.declared.statement.Statement.TheVariants as statement
use Rattle.bf_tree.specs.declared.reply.Refusal.TheVariants as refusal
use Rattle.bf_tree.specs.declared.reply.Reply.{Reply}
use Rattle.bf_tree.specs.declared.reply.Reply.TheVariants as reply
use Rattle.bf_tree.specs.declared.script.Script.{Script}
use Rattle.bf_tree.specs.declared.history.Entry.{Entry}
use Rattle.bf_sql.specs.Database.{Database, IsDatabase, empty_database}
use Rattle.bf_sql.specs.History.{replayed}
use Rattle.bf_sql.proofs.Spelling.{one, number, rule, in_one_phase, alone, table, column_of, stored, database}

-- key, n, s
abbrev tuple : ℕ → ℕ → List ℕ → List Value
tuple key n s = number key ∷ number n ∷ Text s ∷ []

abbrev key_rule : ColumnRule
key_rule = rule (codes "k") form.Int

abbrev n_rule : ColumnRule
n_rule = rule (codes "n") (form.Checked (codes "n") (pos 0) (pos 9))

abbrev s_rule : ColumnRule
s_rule = rule (codes "s") (form.Varchar 1)

abbrev key_column : Column
key_column = column_of (codes "k") admits.Int

abbrev n_column : Column
n_column = column_of (codes "n") (admits.Checked (pos 0) (pos 9))

abbrev s_column : Column
s_column = column_of (codes "s") (admits.Varchar 1)

abbrev rows : List (List Value)
rows = tuple 1 0 (codes "a") ∷ tuple 2 0 (codes "b") ∷ []

-- CREATE TABLE w (k INT, n INT CHECK (n BETWEEN 0 AND 9), s VARCHAR(1), PRIMARY KEY (k));
-- CREATE TABLE x (k INT, s VARCHAR(1), n INT CHECK (n BETWEEN 0 AND 9), PRIMARY KEY (k));
-- INSERT INTO w VALUES (1, 0, 'a'), (2, 0, 'b');
-- INSERT INTO w VALUES (1, 10, 'ab');
-- INSERT INTO x VALUES (1, 'ab', 10);
-- INSERT INTO w VALUES (1, 0, 'ab');
-- INSERT INTO w VALUES (1, 10, 'a');
-- INSERT INTO w VALUES (1, 0, 'a'), (3, 10, 'a');
-- INSERT INTO w VALUES (3, 0, 'ab'), (1, 10, 'a');
-- INSERT INTO w VALUES (2, 0, 'a'), (1, 0, 'a');
-- INSERT INTO w VALUES (3, 0, 'a'), (3, 0, 'a'), (1, 0, 'a');
-- INSERT INTO w VALUES (3, 0, 'a'), (1, 0, 'a'), (3, 0, 'a');
abbrev script : Script
script = in_one_phase (one (
    statement.CreateTable (codes "w") (key_rule ∷ n_rule ∷ s_rule ∷ []) (one (codes "k"))
    ∷ statement.CreateTable (codes "x") (key_rule ∷ s_rule ∷ n_rule ∷ []) (one (codes "k"))
    ∷ statement.Insert (codes "w") rows
    ∷ statement.Insert (codes "w") (one (tuple 1 10 (codes "ab")))
    ∷ statement.Insert (codes "x") (one (number 1 ∷ Text (codes "ab") ∷ number 10 ∷ []))
    ∷ statement.Insert (codes "w") (one (tuple 1 0 (codes "ab")))
    ∷ statement.Insert (codes "w") (one (tuple 1 10 (codes "a")))
    ∷ statement.Insert (codes "w") (tuple 1 0 (codes "a") ∷ tuple 3 10 (codes "a") ∷ [])
    ∷ statement.Insert (codes "w") (tuple 3 0 (codes "ab") ∷ tuple 1 10 (codes "a") ∷ [])
    ∷ statement.Insert (codes "w") (tuple 2 0 (codes "a") ∷ tuple 1 0 (codes "a") ∷ [])
    ∷ statement.Insert (codes "w") (tuple 3 0 (codes "a") ∷ tuple 3 0 (codes "a") ∷ tuple 1 0 (codes "a") ∷ [])
    ∷ statement.Insert (codes "w") (tuple 3 0 (codes "a") ∷ tuple 1 0 (codes "a") ∷ tuple 3 0 (codes "a") ∷ [])
    ∷ []
    ))

abbrev history : List Entry
history = alone 1 ∷ alone 2 ∷ alone 3 ∷ alone 4 ∷ alone 5 ∷ alone 6 ∷ alone 7 ∷ alone 8 ∷ alone 9 ∷ alone 10 ∷ alone 11 ∷ alone 12 ∷ []

abbrev last : Database
last = database 2 (
    stored (table (codes "w") (key_column ∷ n_column ∷ s_column ∷ []) (one 0)) rows
    ∷ stored (table (codes "x") (key_column ∷ s_column ∷ n_column ∷ []) (one 0)) []
    ∷ []
    ) []

abbrev taken : ℕ → List Reply
taken key = one (reply.Refused (refusal.DuplicateKey (one (number key))))

-- the values of a tuple from the left, each before the key; the first tuple with a fault; of several keys that are
-- taken, that of the first tuple, whether a row or an earlier tuple has it
run : replayed script empty_database history ≡ (
  one reply.Created
      ∷ one reply.Created
      ∷ one (reply.Inserted 2)
      ∷ one (reply.Refused refusal.OutOfRange)
      ∷ one (reply.Refused refusal.TooLong)
      ∷ one (reply.Refused refusal.TooLong)
      ∷ one (reply.Refused refusal.OutOfRange)
      ∷ taken 1
      ∷ one (reply.Refused refusal.TooLong)
      ∷ taken 2
      ∷ taken 3
      ∷ taken 1
      ∷ [],
  last,
)
run = refl

last_is_database : IsDatabase last
last_is_database = record { tables_by_name = refl; indexes_by_name = refl; rows_by_key = refl; rows_admitted = refl; keys_within = refl; indexes_on_tables = refl }
