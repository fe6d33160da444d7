-- Transactions by the text of a script alone.
use Rattle.std.specs.Prelude.{ℕ, ◌+◌, ◌-◌, Bool, true, false, not, ◌&&◌, nat_le, List, [], ◌∷◌, Option, Some, None, slice_index_or}
use Rattle.std.specs.List.{list_any}
use Rattle.bf_base.specs.Lists.{part}
use Rattle.bf_tree.specs.declared.statement.Statement.{Statement}
use Rattle.bf_tree.specs.declared.statement.Statement.TheVariants.{Begin, Commit, Rollback}
use Rattle.bf_tree.specs.declared.script.Session.{Session}
use Rattle.bf_tree.specs.declared.script.Script.{Script}
use Rattle.bf_tree.specs.declared.history.Outcome.{Outcome}
use Rattle.bf_tree.specs.declared.history.Outcome.TheVariants.{Committed, RolledBack}
use Rattle.bf_tree.specs.declared.history.Entry.{Entry}

-- GROUPS: the first and the last statement of each transaction, counted from 1; `began` is where a block began. A block goes from
-- BEGIN to the first COMMIT or ROLLBACK or to the session's end; outside, a COMMIT or ROLLBACK is in no group, and each
-- other statement is a group of its own
abbrev pub groups_from : ℕ → Option ℕ → List Statement → List (ℕ × ℕ)
groups_from n None [] = []
groups_from n (Some began) [] = (began, n - 1) ∷ []
groups_from n None (Begin ∷ ss) = groups_from (n + 1) (Some n) ss
groups_from n None (Commit ∷ ss) = groups_from (n + 1) None ss
groups_from n None (Rollback ∷ ss) = groups_from (n + 1) None ss
groups_from n None (s ∷ ss) = (n, n) ∷ groups_from (n + 1) None ss
groups_from n (Some began) (Commit ∷ ss) = (began, n) ∷ groups_from (n + 1) None ss
groups_from n (Some began) (Rollback ∷ ss) = (began, n) ∷ groups_from (n + 1) None ss
groups_from n (Some began) (s ∷ ss) = groups_from (n + 1) (Some began) ss

abbrev pub groups_of : List Statement → List (ℕ × ℕ)
groups_of ss = groups_from 1 None ss

abbrev pub no_session : Session
no_session = record { phase = 0; statements = [] }

-- session s, counted from 1
abbrev pub session_at : Script → ℕ → Session
session_at script s = slice_index_or (no_session ∷ script.sessions) s no_session

-- the groups of session s
abbrev pub groups_in : Script → ℕ → List (ℕ × ℕ)
groups_in script s = groups_of (session_at script s).statements

-- the statements of a group of session s, given by its first and last
abbrev pub statements_in : Script → ℕ → ℕ × ℕ → List Statement
statements_in script s group = part group.0 group.1 (session_at script s).statements

-- the statements of an entry's group
abbrev pub statements_of : Script → Entry → List Statement
statements_of script e = statements_in script e.session (e.first, e.last)

-- whether a group has statement n
abbrev pub has_statement : ℕ → ℕ × ℕ → Bool
has_statement n group = nat_le group.0 n && nat_le n group.1

abbrev pub ends_block : Statement → Bool
ends_block Commit = true
ends_block Rollback = true
ends_block s = false

-- whether statement n of session s is there, and is a COMMIT or ROLLBACK in no group
abbrev pub is_stray : Script → ℕ → ℕ → Bool
is_stray script s n = list_any ends_block (statements_in script s (n, n)) && not (list_any (has_statement n) (groups_in script s))

abbrev pub last_is_commit : List Statement → Bool
last_is_commit [] = false
last_is_commit (Commit ∷ []) = true
last_is_commit (s ∷ []) = false
last_is_commit (s ∷ t ∷ ss) = last_is_commit (t ∷ ss)

-- whether a group commits: a lone statement does, a block where it ends in COMMIT
abbrev pub commits : List Statement → Bool
commits (Begin ∷ ss) = last_is_commit ss
commits ss = true

abbrev pub outcome_by : Bool → ℕ → Outcome × ℕ
outcome_by true n = (Committed n, n + 1)
outcome_by false n = (RolledBack, n)

-- the outcomes that the text gives groups, commits numbered from n
abbrev pub outcomes_from : ℕ → List (List Statement) → List Outcome
outcomes_from n [] = []
outcomes_from n (ss ∷ rest) = (outcome_by (commits ss) n).0 ∷ outcomes_from (outcome_by (commits ss) n).1 rest
