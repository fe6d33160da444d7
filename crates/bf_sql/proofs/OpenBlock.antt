-- A block that its session leaves open is rolled back, and a stray COMMIT is in no transaction.
use Rattle.std.specs.Prelude.{◌≡◌, ℕ, false, List, [], ◌∷◌, None, codes, refl}
use mathlib.Core.Logic.{inl, inr}
use Rattle.bf_base.specs.declared.table.Admit.TheVariants as admits
use Rattle.bf_tree.specs.Trees.{column}
use Rattle.bf_tree.specs.declared.items.Aggregate.TheVariants as total
use Rattle.bf_tree.specs.declared.items.Items.TheVariants as items
use Rattle.bf_tree.specs.declared.statement.ColumnForm.TheVariants as form
use Rattle.bf_tree.specs.declared.statement.Statement.TheVariants as statement
use Rattle.bf_tree.specs.declared.reply.Cell.TheVariants as cell
use Rattle.bf_tree.specs.declared.reply.Refusal.TheVariants as refusal
use Rattle.bf_tree.specs.declared.reply.Reply.TheVariants as reply
use Rattle.bf_tree.specs.declared.history.Outcome.TheVariants as outcome
use Rattle.bf_tree.specs.declared.script.Script.{Script}
use Rattle.bf_tree.specs.declared.reply.Cause.{Cause}
use Rattle.bf_tree.specs.declared.reply.Reply.{Reply}
use Rattle.bf_tree.specs.declared.history.Entry.{Entry}
use Rattle.bf_sql.specs.Database.{Database, IsDatabase, empty_database}
use Rattle.bf_sql.specs.Scopes.{unqualified}
use Rattle.bf_tree.specs.Answered.{IsAllAnswered}
use Rattle.bf_sql.specs.History.{replayed, IsApart, IsLegalHistory}
use Rattle.bf_sql.proofs.Spelling.{one, number, given, rule, in_one_phase, entry, alone, table, column_of, stored, database}

-- SESSION; CREATE TABLE t (id INT, n INT, PRIMARY KEY (id));
-- SELECT COUNT(*), SUM(n), MIN(n), MAX(n) FROM t;
-- COMMIT;
-- BEGIN;
-- BEGIN;
-- CREATE TABLE u (id INT, PRIMARY KEY (id));
-- INSERT INTO t VALUES (1, 1);
-- SESSION; SELECT * FROM t;
abbrev script : Script
script = in_one_phase (
    (
    statement.CreateTable (codes "t") (rule (codes "id") form.Int ∷ rule (codes "n") form.Int ∷ []) (one (codes "id"))
    ∷ statement.Select (items.Aggregates (
    total.Count
    ∷ total.Sum (column (unqualified (codes "n")))
    ∷ total.Min (column (unqualified (codes "n")))
    ∷ total.Max (column (unqualified (codes "n")))
    ∷ []
    )) (codes "t") None
    ∷ statement.Commit
    ∷ statement.Begin
    ∷ statement.Begin
    ∷ statement.CreateTable (codes "u") (one (rule (codes "id") form.Int)) (one (codes "id"))
    ∷ statement.Insert (codes "t") (one (number 1 ∷ number 1 ∷ []))
    ∷ []
    )
    ∷ (
    statement.Select items.All (codes "t") None
    ∷ []
    )
    ∷ []
    )

abbrev history : List Entry
history = alone 1 ∷ alone 2 ∷ entry 1 4 7 outcome.RolledBack ∷ entry 2 1 1 (outcome.Committed 3) ∷ []

abbrev last : Database
last = database 1 (one (stored (table (codes "t") (column_of (codes "id") admits.Int ∷ column_of (codes "n") admits.Int ∷ []) (one 0)) [])) []

-- the replies to each transaction, and the database that they leave
run : replayed script empty_database history ≡ (
  one reply.Created
      ∷ one (reply.Rows (one (given 0 ∷ cell.Null ∷ cell.Null ∷ cell.Null ∷ [])))
      ∷ (reply.Begun ∷ reply.Refused refusal.InTransaction ∷ reply.Refused refusal.MustBeAlone ∷ reply.Inserted 1 ∷ [])
      ∷ one (reply.Rows [])
      ∷ [],
  last,
)
run = refl

last_is_database : IsDatabase last
last_is_database = record { tables_by_name = refl; indexes_by_name = refl; rows_by_key = refl; rows_admitted = refl; keys_within = refl; indexes_on_tables = refl }

abbrev told_first : List Reply
told_first = reply.Created
    ∷ reply.Rows (one (given 0 ∷ cell.Null ∷ cell.Null ∷ cell.Null ∷ []))
    ∷ reply.Refused refusal.NoTransaction
    ∷ reply.Begun
    ∷ reply.Refused refusal.InTransaction
    ∷ reply.Refused refusal.MustBeAlone
    ∷ reply.Inserted 1
    ∷ []

abbrev transcripts : List (List Reply)
transcripts = told_first ∷ one (reply.Rows []) ∷ []

-- no group is open, and no cause is allowed
legal : IsLegalHistory script (λ s g cause. ⊥) (λ s g. false) empty_database transcripts history
legal = record { whole_groups = refl; in_order = refl; outcomes = refl; replies = refl; others = (inl (refl, refl), tt) }

answered : IsAllAnswered script transcripts
answered = refl

-- a reply for which session 2 has no statement
abbrev told_more : List (List Reply)
told_more = told_first ∷ (reply.Rows [] ∷ reply.Refused refusal.NoTransaction ∷ []) ∷ []

module _ (IsAllowed : ℕ → ℕ × ℕ → Cause → Type 0) where
  not_apart : IsApart script IsAllowed told_more (2, 2, reply.Refused refusal.NoTransaction) → ⊥
  not_apart (inl (stray, same)) = cc
  not_apart (inr (group, cause, found, allowed, replies)) = cc

  told_more_is_refused : IsLegalHistory script IsAllowed (λ s g. false) empty_database told_more history → ⊥
  told_more_is_refused legal = not_apart legal.others.1.0
