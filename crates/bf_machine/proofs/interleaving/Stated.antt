-- A change of the schema that is pending is what a statement of the script is to leave, so what holds of each statement holds of that one.
use Rattle.std.proofs.Common.{◌≡◌, ℕ, zero, suc, false, List, [], ◌∷◌, ap, subst}
use Rattle.std.specs.List.{AllByRecursion, slice_index_or}
use Rattle.bf_locks.specs.Locks.{Locks}
use Rattle.bf_tree.specs.declared.reply.Reply.{Reply}
use Rattle.bf_tree.specs.declared.script.Script.{Script}
use Rattle.bf_tree.specs.declared.script.Session.{Session}
use Rattle.bf_tree.specs.declared.statement.Statement.{Statement}
use Rattle.bf_sql.specs.Database.{Database}
use Rattle.bf_sql.specs.Groups.{no_session, session_at, statements_in}
use Rattle.bf_live.specs.OpenGroups.{Answered}
use Rattle.bf_machine.specs.interleaving.Groups.{Pending, Rows, NewTable, NewIndex, Flip, Nothing, HasRun, IsLeftBy, IsSchemaStep, answered_by}
use Rattle.bf_machine.specs.interleaving.Journals.{AreSaid, IsStated}
use Rattle.bf_machine.proofs.interleaving.Narrow.{all_part}

module _ (Says : Statement → Type 0) where
  said_at : (sessions : List Session) (n : ℕ) → AllByRecursion (λ (s : Session). AllByRecursion Says s.statements) sessions
      → AllByRecursion Says (slice_index_or sessions n no_session).statements
  said_at [] n all = tt
  said_at (x ∷ sessions) zero all = all.0
  said_at (x ∷ sessions) (suc n) all = said_at sessions n all.1

  said_session : (script : Script) → AreSaid Says script → (s : ℕ) → AllByRecursion Says (session_at script s).statements
  said_session script all zero = tt
  said_session script all (suc s) = said_at script.sessions s all

  pub said_in : (script : Script) → AreSaid Says script → (s : ℕ) (group : ℕ × ℕ) → AllByRecursion Says (statements_in script s group)
  said_in script all s group = all_part Says group.0 group.1 (session_at script s).statements (said_session script all s)

  -- the one that is answered alone
  said_alone : (rs : List Reply) (ss : List Statement) → AllByRecursion Says ss → (a : Answered) → answered_by false rs ss ≡ a ∷ [] → Says a.statement
  said_alone [] ss all a alone = absurd cc
  said_alone (r ∷ rs) [] all a alone = absurd cc
  said_alone (r ∷ rs) (s ∷ ss) all a alone = subst Says (ap (first_of s) alone) all.0
    where
      first_of : Statement → List Answered → Statement
      first_of d [] = d
      first_of d (b ∷ rest) = b.statement

  module _ (locks : Locks) (owner : ℕ) (db : Database) (rs : List Reply) (ss : List Statement) (all : AllByRecursion Says ss) where
    by_step : (change : Pending) → IsSchemaStep locks owner db (answered_by false rs ss) change → (s : Statement) × Says s × IsLeftBy db s change
    by_step change run = (run.statement, said_alone rs ss all (record { in_block = false; statement = run.statement; reply = run.reply }) run.alone, run.pends)

    pub stated : (p : Pending) → HasRun locks owner db (answered_by false rs ss) p → IsStated Says db p
    stated (Rows writes) run = tt
    stated (NewTable table) run = by_step (NewTable table) run
    stated (NewIndex index) run = by_step (NewIndex index) run
    stated (Flip plan) run = by_step (Flip plan) run
    stated Nothing run = tt
