-- Two sessions set one row: one waits for the other, or dies of it and is told so.
use Rattle.std.specs.Prelude.{◌≡◌, ℕ, Bool, false, List, [], ◌∷◌, Some, codes, refl, unwrap_or}
use Rattle.std.proofs.Common.{ap, sym, subst}
use mathlib.Core.Logic.{inl, inr}
use Rattle.bf_base.specs.declared.table.Admit.TheVariants as admits
use Rattle.bf_tree.specs.declared.compare.Compare.TheVariants as compare
use Rattle.bf_tree.specs.Trees.{literal, column, plus, compared}
use Rattle.bf_tree.specs.declared.statement.ColumnForm.TheVariants as form
use Rattle.bf_tree.specs.declared.statement.Statement.{Statement}
use Rattle.bf_tree.specs.declared.statement.Statement.TheVariants as statement
use Rattle.bf_tree.specs.declared.reply.Cause.{Cause}
use Rattle.bf_tree.specs.declared.reply.Cause.TheVariants.{Died}
use Rattle.bf_tree.specs.declared.reply.Reply.{Reply}
use Rattle.bf_tree.specs.declared.reply.Reply.TheVariants as reply
use Rattle.bf_tree.specs.declared.history.Outcome.TheVariants.{Committed}
use Rattle.bf_tree.specs.declared.script.Script.{Script}
use Rattle.bf_tree.specs.declared.history.Entry.{Entry}
use Rattle.bf_sql.specs.Database.{Database, empty_database}
use Rattle.bf_sql.specs.Scopes.{unqualified}
use Rattle.bf_tree.specs.Answered.{IsAllAnswered}
use Rattle.bf_sql.specs.History.{replayed, IsEndedBy, IsApart, IsLegalHistory}
use Rattle.bf_sql.proofs.Spelling.{one, number, rule, session, entry, alone, table, column_of, stored, database}

-- BEGIN;
-- UPDATE t SET n = n + 1 WHERE id = 1;
-- COMMIT;
abbrev count_up : List Statement
count_up = statement.Begin
    ∷ statement.Update (codes "t") (one (codes "n", plus (column (unqualified (codes "n"))) (literal (number 1)))) (Some (compared compare.Equal (column (unqualified (codes "id"))) (literal (number 1))))
    ∷ statement.Commit
    ∷ []

-- PHASE; SESSION; CREATE TABLE t (id INT, n INT, PRIMARY KEY (id));
-- INSERT INTO t VALUES (1, 0);
-- PHASE; SESSION; the block above; SESSION; the same
abbrev script : Script
script = record {
  phases = 2;
  sessions =
      session 1 (
      statement.CreateTable (codes "t") (rule (codes "id") form.Int ∷ rule (codes "n") form.Int ∷ []) (one (codes "id"))
      ∷ statement.Insert (codes "t") (one (number 1 ∷ number 0 ∷ []))
      ∷ []
      )
      ∷ session 2 count_up
      ∷ session 2 count_up
      ∷ [];
}

abbrev none_open : ℕ → ℕ × ℕ → Bool
none_open s group = false

-- session 2 waits for session 3, whose block commits first
abbrev waited : List Entry
waited = alone 1 ∷ alone 2 ∷ entry 3 1 3 (Committed 3) ∷ entry 2 1 3 (Committed 4) ∷ []

abbrev counted_twice : Database
counted_twice = database 1 (one (stored (table (codes "t") (column_of (codes "id") admits.Int ∷ column_of (codes "n") admits.Int ∷ []) (one 0)) (one (number 1 ∷ number 2 ∷ [])))) []

run : replayed script empty_database waited ≡ (
  one reply.Created ∷ one (reply.Inserted 1) ∷ (reply.Begun ∷ reply.Updated 1 ∷ reply.Committed 3 ∷ []) ∷ (reply.Begun ∷ reply.Updated 1 ∷ reply.Committed 4 ∷ []) ∷ [],
  counted_twice,
)
run = refl

abbrev told_after_waiting : List (List Reply)
told_after_waiting =
    (reply.Created ∷ reply.Inserted 1 ∷ [])
    ∷ (reply.Begun ∷ reply.Updated 1 ∷ reply.Committed 4 ∷ [])
    ∷ (reply.Begun ∷ reply.Updated 1 ∷ reply.Committed 3 ∷ [])
    ∷ []

waiting_is_legal : IsLegalHistory script (λ s group cause. ⊥) none_open empty_database told_after_waiting waited
waiting_is_legal = record { whole_groups = refl; in_order = refl; outcomes = refl; replies = refl; others = tt }

-- session 3 dies of session 2, whose start number is 3
abbrev died : List Entry
died = alone 1 ∷ alone 2 ∷ entry 2 1 3 (Committed 3) ∷ []

-- the transcripts by the replies of sessions 2 and 3
abbrev told : List Reply → List Reply → List (List Reply)
told second third = (reply.Created ∷ reply.Inserted 1 ∷ []) ∷ second ∷ third ∷ []

abbrev counted : List Reply
counted = reply.Begun ∷ reply.Updated 1 ∷ reply.Committed 3 ∷ []

abbrev dead : List Reply
dead = reply.Ended (Died 3) ∷ reply.Ended (Died 3) ∷ reply.Ended (Died 3) ∷ []

-- the one cause that is allowed
abbrev IsDeath : ℕ → ℕ × ℕ → Cause → Type 0
IsDeath s group cause = (s ≡ 3) × (group ≡ (1, 3)) × (cause ≡ Died 3)

death_is_legal : IsLegalHistory script IsDeath none_open empty_database (told counted dead) died
death_is_legal = record {
  whole_groups = refl;
  in_order = refl;
  outcomes = refl;
  replies = refl;
  others = (
    inr ((1, 3), Died 3, refl, (refl, refl, refl), refl),
    (inr ((1, 3), Died 3, refl, (refl, refl, refl), refl), (inr ((1, 3), Died 3, refl, (refl, refl, refl), refl), tt)),
  );
}

all_answered : IsAllAnswered script (told counted dead)
all_answered = refl

-- with another reply in the midst of the dead block no cause can stand, whatever is allowed
abbrev half_dead : List Reply
half_dead = reply.Ended (Died 3) ∷ reply.Updated 1 ∷ reply.Ended (Died 3) ∷ []

module _ (IsAllowed : ℕ → ℕ × ℕ → Cause → Type 0) where
  not_apart : IsApart script IsAllowed (told counted half_dead) (3, 1, reply.Ended (Died 3)) → ⊥
  not_apart (inl (stray, same)) = cc
  not_apart (inr (group, cause, found, allowed, replies)) =
      let whole : (1, 3) ≡ group = ap (λ g. unwrap_or g (0, 0)) found in
      let block : IsEndedBy script (told counted half_dead) 3 (1, 3) cause = subst (λ g. IsEndedBy script (told counted half_dead) 3 g cause) (sym whole) replies in
      cc

  half_dead_is_refused : IsLegalHistory script IsAllowed none_open empty_database (told counted half_dead) died → ⊥
  half_dead_is_refused legal = not_apart legal.others.0

  -- a reply that the replay does not give
  wrong_reply_is_refused : IsLegalHistory script IsAllowed none_open empty_database (told (reply.Begun ∷ reply.Updated 2 ∷ reply.Committed 3 ∷ []) dead) died → ⊥
  wrong_reply_is_refused legal = let replies = legal.replies in cc
