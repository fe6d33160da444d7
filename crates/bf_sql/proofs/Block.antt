-- A block goes on behind a refused statement, and commits.
use Rattle.std.specs.Prelude.{◌≡◌, false, List, [], ◌∷◌, Some, None, codes, refl}
use Rattle.bf_base.specs.declared.table.Admit.TheVariants as admits
use Rattle.bf_tree.specs.declared.compare.Compare.TheVariants as compare
use Rattle.bf_tree.specs.Trees.{literal, column, plus, compared}
use Rattle.bf_tree.specs.declared.items.Items.TheVariants as items
use Rattle.bf_tree.specs.declared.statement.ColumnForm.TheVariants as form
use Rattle.bf_tree.specs.declared.statement.Statement.TheVariants as statement
use Rattle.bf_tree.specs.declared.reply.Refusal.TheVariants as refusal
use Rattle.bf_tree.specs.declared.reply.Reply.TheVariants as reply
use Rattle.bf_tree.specs.declared.history.Outcome.TheVariants as outcome
use Rattle.bf_tree.specs.declared.script.Script.{Script}
use Rattle.bf_tree.specs.declared.reply.Reply.{Reply}
use Rattle.bf_tree.specs.declared.history.Entry.{Entry}
use Rattle.bf_sql.specs.Database.{Database, IsDatabase, empty_database}
use Rattle.bf_sql.specs.Scopes.{unqualified}
use Rattle.bf_tree.specs.Answered.{IsAllAnswered}
use Rattle.bf_sql.specs.History.{replayed, IsLegalHistory}
use Rattle.bf_sql.proofs.Spelling.{one, number, given, rule, in_one_phase, entry, alone, table, column_of, stored, database}

-- CREATE TABLE t (id INT, n INT, PRIMARY KEY (id));
-- INSERT INTO t VALUES (1, 10);
-- BEGIN;
-- UPDATE t SET n = n + 1 WHERE id = 1;
-- INSERT INTO t VALUES (2, 20), (1, 0);
-- DELETE FROM t WHERE id = 5;
-- COMMIT;
-- SELECT * FROM t;
abbrev script : Script
script = in_one_phase (one (
    statement.CreateTable (codes "t") (rule (codes "id") form.Int ∷ rule (codes "n") form.Int ∷ []) (one (codes "id"))
    ∷ statement.Insert (codes "t") (one (number 1 ∷ number 10 ∷ []))
    ∷ statement.Begin
    ∷ statement.Update (codes "t") (one (codes "n", plus (column (unqualified (codes "n"))) (literal (number 1)))) (Some (compared compare.Equal (column (unqualified (codes "id"))) (literal (number 1))))
    ∷ statement.Insert (codes "t") ((number 2 ∷ number 20 ∷ []) ∷ (number 1 ∷ number 0 ∷ []) ∷ [])
    ∷ statement.Delete (codes "t") (Some (compared compare.Equal (column (unqualified (codes "id"))) (literal (number 5))))
    ∷ statement.Commit
    ∷ statement.Select items.All (codes "t") None
    ∷ []
    ))

abbrev history : List Entry
history = alone 1 ∷ alone 2 ∷ entry 1 3 7 (outcome.Committed 3) ∷ entry 1 8 8 (outcome.Committed 4) ∷ []

abbrev last : Database
last = database 1 (one (stored (table (codes "t") (column_of (codes "id") admits.Int ∷ column_of (codes "n") admits.Int ∷ []) (one 0)) (one (number 1 ∷ number 11 ∷ [])))) []

-- the replies to each transaction, and the database that they leave
run : replayed script empty_database history ≡ (
  one reply.Created
      ∷ one (reply.Inserted 1)
      ∷ (reply.Begun ∷ reply.Updated 1 ∷ reply.Refused (refusal.DuplicateKey (one (number 1))) ∷ reply.Deleted 0 ∷ reply.Committed 3 ∷ [])
      ∷ one (reply.Rows (one (given 1 ∷ given 11 ∷ [])))
      ∷ [],
  last,
)
run = refl

-- the replay counts the commits, whatever numbers the entries have
misnumbered : replayed script empty_database (entry 1 1 1 (outcome.Committed 9) ∷ alone 2 ∷ entry 1 3 7 (outcome.Committed 1) ∷ entry 1 8 8 (outcome.Committed 4) ∷ []) ≡ replayed script empty_database history
misnumbered = refl

last_is_database : IsDatabase last
last_is_database = record { tables_by_name = refl; indexes_by_name = refl; rows_by_key = refl; rows_admitted = refl; keys_within = refl; indexes_on_tables = refl }

abbrev transcripts : List (List Reply)
transcripts =
    (reply.Created ∷ reply.Inserted 1 ∷ reply.Begun ∷ reply.Updated 1 ∷ reply.Refused (refusal.DuplicateKey (one (number 1))) ∷ reply.Deleted 0 ∷ reply.Committed 3 ∷ reply.Rows (one (given 1 ∷ given 11 ∷ [])) ∷ [])
    ∷ []

-- no group is open, and no cause is allowed
legal : IsLegalHistory script (λ s g cause. ⊥) (λ s g. false) empty_database transcripts history
legal = record { whole_groups = refl; in_order = refl; outcomes = refl; replies = refl; others = tt }

answered : IsAllAnswered script transcripts
answered = refl
