-- The replay of a history, and legal histories.
use Rattle.std.specs.Prelude.{◌≡◌, ℕ, ◌+◌, ◌⊎◌, Bool, true, false, not, ◌&&◌, ◌||◌, ◌==◌, nat_lt, nat_le, List, [], ◌∷◌, map, flat_map, filter, find, Some, slice_index_or, IsTrue}
use Rattle.std.specs.List.{AllByRecursion, list_any, list_all, enumerate_from}
use Rattle.bf_base.specs.Lists.{part, with_before}
use Rattle.bf_tree.specs.declared.statement.Statement.{Statement}
use Rattle.bf_tree.specs.declared.script.Script.{Script}
use Rattle.bf_tree.specs.declared.reply.Cause.{Cause}
use Rattle.bf_tree.specs.declared.reply.Refusal.TheVariants.{NoTransaction}
use Rattle.bf_tree.specs.declared.reply.Reply.{Reply}
use Rattle.bf_tree.specs.declared.reply.Reply.TheVariants.{Refused, Ended}
use Rattle.bf_tree.specs.declared.history.Outcome.{Outcome}
use Rattle.bf_tree.specs.declared.history.Outcome.TheVariants.{Committed, RolledBack}
use Rattle.bf_tree.specs.declared.history.Entry.{Entry}
use Rattle.bf_sql.specs.Database.{Database}
use Rattle.bf_sql.specs.Meaning.{executed}
use Rattle.bf_sql.specs.Groups.{session_at, groups_in, statements_in, statements_of, has_statement, is_stray, outcomes_from}

-- a group's statements, each on what the one before it left; all but the first stand in its block
abbrev pub run_group : ℕ → Bool → Database → List Statement → List Reply × Database
run_group commit in_block db [] = ([], db)
run_group commit in_block db (s ∷ ss) =
    let (answer, next) = executed commit db in_block s in
    let (answers, last) = run_group commit true next ss in
    (answer ∷ answers, last)

-- how many entries are committed up to one, of whose predecessors n are
abbrev pub commits_with : ℕ → Outcome → ℕ
commits_with n (Committed number) = n + 1
commits_with n RolledBack = n

-- a committed group's result takes its place, one that is rolled back leaves the database. `commit` is the number of the
-- commit that it may end
abbrev pub settled : ℕ → Database → Outcome → List Statement → List Reply × Database
settled commit db (Committed number) ss = run_group commit false db ss
settled commit db RolledBack ss = ((run_group commit false db ss).0, db)

-- the replay of entries behind n committed ones, which counts the commits itself: the numbers in the entries are not read
abbrev pub replayed_behind : ℕ → Script → Database → List Entry → List (List Reply) × Database
replayed_behind n script db [] = ([], db)
replayed_behind n script db (e ∷ es) =
    let commit = commits_with n e.outcome in
    let (answers, next) = settled commit db e.outcome (statements_of script e) in
    let (later, last) = replayed_behind commit script next es in
    (answers ∷ later, last)

-- REPLAY: one group after the other, on one thread. The replies to each entry, and the last database
abbrev pub replayed : Script → Database → List Entry → List (List Reply) × Database
replayed script db history = replayed_behind 0 script db history

-- the replies that the transcripts give to a group of session s
abbrev pub replies_to : List (List Reply) → ℕ → ℕ × ℕ → List Reply
replies_to transcripts s group = part group.0 group.1 (slice_index_or ([] ∷ transcripts) s [])

-- the replies that the transcripts give to an entry's statements
abbrev pub told : List (List Reply) → Entry → List Reply
told transcripts e = replies_to transcripts e.session (e.first, e.last)

-- each answered statement, as its session, its place there and its reply
abbrev pub answered : List (List Reply) → List (ℕ × ℕ × Reply)
answered transcripts = flat_map (λ s. map (λ n. (s.0, n.0, n.1)) (enumerate_from 1 s.1)) (enumerate_from 1 transcripts)

abbrev pub stands_in : ℕ → ℕ → Entry → Bool
stands_in s n e = e.session == s && has_statement n (e.first, e.last)

module _ (script : Script) where
  -- an entry is one whole group of the script
  abbrev pub is_whole_group : Entry → Bool
  is_whole_group e = list_any (λ g. e.first == g.0 && e.last == g.1) (groups_in script e.session)

  -- an entry may stand before another: by the text of one session (so no group has two entries), by the phases of two
  abbrev pub may_precede : Entry → Entry → Bool
  may_precede d e = (not (d.session == e.session) || nat_lt d.last e.first) && nat_le (session_at script d.session).phase (session_at script e.session).phase

  -- the answered statements in no entry and no open group; `is_open` tells of a session and a group
  abbrev pub apart : (ℕ → ℕ × ℕ → Bool) → List (List Reply) → List Entry → List (ℕ × ℕ × Reply)
  apart is_open transcripts history =
      let in_entry : ℕ × ℕ × Reply → Bool = λ a. list_any (stands_in a.0 a.1) history in
      let in_open_group : ℕ × ℕ × Reply → Bool = λ a. list_any (λ g. is_open a.0 g && has_statement a.1 g) (groups_in script a.0) in
      filter (λ a. not (in_entry a || in_open_group a)) (answered transcripts)

  -- a cause told to each statement of a group of session s
  abbrev pub IsEndedBy : List (List Reply) → ℕ → ℕ × ℕ → Cause → Type 0
  IsEndedBy transcripts s group cause = replies_to transcripts s group ≡ map (λ _. Ended cause) (statements_in script s group)

  -- `IsAllowed` tells of a session, a group and a cause
  module _ (IsAllowed : ℕ → ℕ × ℕ → Cause → Type 0) where
    -- a COMMIT or ROLLBACK of the text in no group, with its refusal, or a statement of a group that ended by a cause
    abbrev pub IsApart : List (List Reply) → ℕ × ℕ × Reply → Type 0
    IsApart transcripts a =
        (IsTrue (is_stray script a.0 a.1) × (a.2 ≡ Refused NoTransaction))
        ⊎ ((g : ℕ × ℕ) × (cause : Cause) × (find (has_statement a.1) (groups_in script a.0) ≡ Some g) × IsAllowed a.0 g cause × IsEndedBy transcripts a.0 g cause)

    -- LEGAL: transcripts and history that a one-thread database could have given, but for groups that a cause has ended
    pub record IsLegalHistory (is_open : ℕ → ℕ × ℕ → Bool) (start : Database) (transcripts : List (List Reply)) (history : List Entry) : Type 0 where
      pub whole_groups : IsTrue (list_all is_whole_group history)
      pub in_order : IsTrue (list_all (λ p. list_all (λ d. may_precede d p.1) p.0) (with_before history))
      pub outcomes : map (λ e. e.outcome) history ≡ outcomes_from 1 (map (statements_of script) history)
      pub replies : map (told transcripts) history ≡ (replayed script start history).0
      pub others : AllByRecursion (IsApart transcripts) (apart is_open transcripts history)
