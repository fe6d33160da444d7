-- EVENTS on the seen state: what a call makes of a machine.
use Rattle.std.specs.Prelude.{◌≡◌, ◌⊎◌, ℕ, ◌+◌, ◌-◌, ◌≤◌, Bool, true, false, List, [], ◌∷◌, ◌++◌, length, map, take, drop, Option, Some, None, nat_lt, if◌then◌else◌, IsTrue, Contains, slice_set, slice_index_or}
use Rattle.std.specs.Option.{option_map_or}
use Rattle.bf_base.specs.declared.granule.Granule.{Granule}
use Rattle.bf_locks.specs.declared.answer.LockAnswer.{LockAnswer}
use Rattle.bf_locks.specs.declared.answer.LockAnswer.TheVariants.{Die}
use Rattle.bf_locks.specs.declared.mode.Mode.{Mode}
use Rattle.bf_locks.specs.declared.name.LockName.{LockName}
use Rattle.bf_locks.specs.Locks.{IsJudged, after, without_owner}
use Rattle.bf_tree.specs.declared.bound.Bound.{Bound}
use Rattle.bf_tree.specs.declared.history.Entry.{Entry}
use Rattle.bf_tree.specs.declared.history.Outcome.{Outcome}
use Rattle.bf_tree.specs.declared.history.Outcome.TheVariants.{Committed, RolledBack}
use Rattle.bf_tree.specs.declared.plan.Plan.{Plan}
use Rattle.bf_tree.specs.declared.reply.Cause.{Cause}
use Rattle.bf_tree.specs.declared.reply.Cause.TheVariants.{Died}
use Rattle.bf_tree.specs.declared.reply.Refusal.TheVariants.{NoTransaction}
use Rattle.bf_tree.specs.declared.reply.Reply.{Reply}
use Rattle.bf_tree.specs.declared.reply.Reply.TheVariants as reply
use Rattle.bf_tree.specs.declared.statement.Statement.{Statement}
use Rattle.bf_tree.specs.declared.statement.Statement.TheVariants.{Commit, Rollback}
use Rattle.bf_sql.specs.Database.{Database}
use Rattle.bf_sql.specs.Footprints.{footprint_of}
use Rattle.bf_sql.specs.Groups.{groups_in, statements_in, ends_block, commits, is_stray}
use Rattle.bf_sql.specs.History.{commits_with, replayed}
use Rattle.bf_live.specs.OpenGroups.{Holds}
use Rattle.bf_sql.specs.migrations.Lazy.{LazyState}
use Rattle.bf_sql.specs.migrations.Need.{needed_for}
use Rattle.bf_sql.specs.migrations.Plans.{prepared_of}
use Rattle.bf_store.specs.Calls.{after_commit}
use Rattle.bf_store.specs.Stores.{IsByPass}
use Rattle.bf_store.specs.States.{AreGranulesIfAny, HaveMoved, frozen_lazily, with_moved}
use Rattle.bf_machine.specs.interleaving.Groups.{Pending, Rows, NewTable, NewIndex, Flip, Nothing, footprint_in, left_by, pending_behind, reply_on}
use Rattle.bf_machine.specs.interleaving.Machines.{Group, Began, Open, Machine, IsAmong, open_at, told_at, began_at}
use Rattle.bf_machine.specs.interleaving.Kept.{HasStart, HasEnded, IsCurrent, is_of_log}

-- how many entries are committed, behind n that are
abbrev pub commits_behind : ℕ → List Entry → ℕ
commits_behind n [] = n
commits_behind n (e ∷ es) = commits_behind (commits_with n e.outcome) es

-- the statements of an open group, those that have no reply yet, and the next of them
abbrev pub text_of : Machine → ℕ → Open → List Statement
text_of m s o = statements_in m.script s o.group

abbrev pub rest_of : Machine → ℕ → Open → List Statement
rest_of m s o = drop (length o.replies) (text_of m s o)

-- a statement with so many of its group before it stands in the group's block
abbrev pub stands_inside : List Reply → Bool
stands_inside [] = false
stands_inside (r ∷ rs) = true

-- what a group leaves, put into a lazy state, as one change of it where a record tells anything of that
abbrev pub put_into : LazyState → Pending → LazyState
put_into lazy (Rows writes) = after_commit lazy writes
put_into lazy (NewTable table) = record lazy { live = left_by lazy.live (NewTable table); records = lazy.records + 1 }
put_into lazy (NewIndex index) = record lazy { live = left_by lazy.live (NewIndex index); records = lazy.records + 1 }
put_into lazy (Flip plan) = frozen_lazily lazy plan.migrate
put_into lazy Nothing = lazy

module _ (m : Machine) (s : ℕ) where
  abbrev pub with_open : Option Open → Machine
  with_open o = record m { opens = slice_set m.opens (s - 1) o }

  -- BEGIN of a group that begins for the first time, with the next start number, or begins again, with its own
  abbrev pub opened : ℕ → Group → Open
  opened n group = record { start = n; group = group; replies = []; pending = Rows [] }

  abbrev pub begun : Group → Machine
  begun group = record (with_open (Some (opened (length m.began + 1) group))) { began = m.began ++ record { session = s; group = group; deaths = [] } ∷ [] }

  abbrev pub begun_again : ℕ → Group → Machine
  begun_again n group = with_open (Some (opened n group))

  -- the group that the last death named has ended
  abbrev pub LastHasEnded : List ℕ → Type 0
  LastHasEnded deaths = (i t : ℕ) (other : Group) → i + 1 ≡ length deaths → HasStart m.began t other (slice_index_or deaths i 0) → HasEnded m t other

  pub record Begins (next : Machine) : Type 0 where
    pub current : IsCurrent m s
    pub closed : open_at m s ≡ None
    pub group : Group
    pub whole : Contains (groups_in m.script s) group
    pub first : group.0 ≡ length (told_at m s) + 1
    pub goes : (((n : ℕ) → HasStart m.began s group n → ⊥) × (next ≡ begun group))
        ⊎ ((n : ℕ) × (start : HasStart m.began s group n) × LastHasEnded start.deaths × (next ≡ begun_again n group))

  -- the start numbers that the deaths of an open group named
  abbrev pub deaths_of : Open → List ℕ
  deaths_of o = option_map_or (λ (b : Began). b.deaths) (began_at m.began o.start) []

  abbrev pub with_death : Open → ℕ → List Began
  with_death o h = slice_set m.began (o.start - 1) (record { session = s; group = o.group; deaths = deaths_of o ++ h ∷ [] })

  -- the end of an open group: its locks are freed, and its statements have these replies
  abbrev pub ended : Open → List Reply → Machine
  ended o answers = record (with_open None) { locks = without_owner m.locks o.start; told = slice_set m.told (s - 1) (told_at m s ++ answers) }

  -- DEATH of an open group: it is to begin again, or with no retry left its statements are told the cause
  abbrev pub told_at_death : Open → ℕ → List Reply
  told_at_death o h = if nat_lt m.retries (length (deaths_of o) + 1) then map (λ _. reply.Ended (Died h)) (text_of m s o) else []

  abbrev pub died : Open → ℕ → Machine
  died o h = record (ended o (told_at_death o h)) { began = with_death o h }

  -- LOCK: an answer to a request for a lock of the next statement's footprint, as it is bound after some prefix of the history
  abbrev pub asked : Open → LockName → Mode → LockAnswer → Machine
  asked o name mode (Die h) = died o h
  asked o name mode answer = record m { locks = after m.locks o.start name mode answer }

  pub record Asks (start : Database) (name : LockName) (mode : Mode) (answer : LockAnswer) (next : Machine) : Type 0 where
    pub current : IsCurrent m s
    pub o : Open
    pub is : open_at m s ≡ Some o
    pub statement : Statement
    pub later : List Statement
    pub left : rest_of m s o ≡ statement ∷ later
    pub prefix : ℕ
    pub asks : Contains (footprint_in (replayed m.script start (take prefix m.history)).1 (stands_inside o.replies) statement) (name, mode)
    pub judged : IsJudged m.locks o.start name mode answer
    pub goes : next ≡ asked o name mode answer

  -- EXEC of an open group's next statement, as it is bound, whose footprint is held and whose need has moved
  abbrev pub stepped : Open → Statement → Bound → Open
  stepped o statement bound =
      let inside = stands_inside o.replies in
      record o { replies = o.replies ++ reply_on m.db o.pending inside statement ∷ []; pending = pending_behind m.db o.pending inside statement bound.action }

  pub record Executes (next : Machine) : Type 0 where
    pub current : IsCurrent m s
    pub o : Open
    pub is : open_at m s ≡ Some o
    pub statement : Statement
    pub later : List Statement
    pub left : rest_of m s o ≡ statement ∷ later
    pub goes_on : ends_block statement ≡ false
    pub bound : Bound
    pub bound_so : prepared_of m.db (stands_inside o.replies) statement ≡ Some bound
    pub held : Holds m.locks o.start (footprint_of bound)
    pub moved : HaveMoved m.lazy.last (λ last. needed_for last.old last.migrate bound.action)
    pub goes : next ≡ with_open (Some (stepped o statement bound))

  -- EXEC of a COMMIT or ROLLBACK in no group
  pub record Refuses (next : Machine) : Type 0 where
    pub place : (1 ≤ s) × (s ≤ length m.script.sessions)
    pub current : IsCurrent m s
    pub closed : open_at m s ≡ None
    pub stray : IsTrue (is_stray m.script s (length (told_at m s) + 1))
    pub goes : next ≡ record m { told = slice_set m.told (s - 1) (told_at m s ++ reply.Refused NoTransaction ∷ []) }

  abbrev pub entry_of : Open → Outcome → Entry
  entry_of o outcome = record { session = s; first = o.group.0; last = o.group.1; outcome = outcome }

  -- COMMIT: what is left is the group's COMMIT, or nothing outside a block
  abbrev pub committed : Open → Machine
  committed o =
      let n = commits_behind 0 m.history + 1 in
      record (ended o (o.replies ++ map (λ _. reply.Committed n) (rest_of m s o))) { db = left_by m.db o.pending; lazy = put_into m.lazy o.pending; history = m.history ++ entry_of o (Committed n) ∷ [] }

  pub record IsToCommit : Type 0 where
    pub current : IsCurrent m s
    pub o : Open
    pub is : open_at m s ≡ Some o
    pub commits_so : commits (text_of m s o) ≡ true
    pub left : (rest_of m s o ≡ []) ⊎ (rest_of m s o ≡ Commit ∷ [])

  pub record Commits (next : Machine) : Type 0 where
    pub can : IsToCommit
    -- a flip comes with a pass of its own, and nothing else changes it
    pub by_pass : IsByPass next.lazy.last next.pass
    pub same_pass : ((plan : Plan) → can.o.pending ≡ Flip plan → ⊥) → next.pass ≡ m.pass
    pub goes : next ≡ record (committed can.o) { pass = next.pass }

  -- ABORT: what is left is the block's ROLLBACK, or nothing at the session's end
  abbrev pub rolled_back : Open → Machine
  rolled_back o =
      record (ended o (o.replies ++ map (λ _. reply.RolledBack) (rest_of m s o))) { history = m.history ++ entry_of o RolledBack ∷ [] }

  pub record Aborts (next : Machine) : Type 0 where
    pub current : IsCurrent m s
    pub o : Open
    pub is : open_at m s ≡ Some o
    pub commits_so : commits (text_of m s o) ≡ false
    pub left : (rest_of m s o ≡ []) ⊎ (rest_of m s o ≡ Rollback ∷ [])
    pub goes : next ≡ rolled_back o

  -- END BY A LOG: the group that is open ends by a cause of the log, which each of its statements is told
  pub record EndsByLog (next : Machine) : Type 0 where
    pub current : IsCurrent m s
    pub o : Open
    pub is : open_at m s ≡ Some o
    pub cause : Cause
    pub may : IsAmong m.may_end (record { session = s; group = o.group; cause = cause })
    pub of_log : is_of_log cause ≡ true
    pub goes : next ≡ ended o (map (λ _. reply.Ended cause) (text_of m s o))

-- MOVE of granules of the last migration, which differ; no session goes on, and the database stays
pub record Moves (m : Machine) (granules : List Granule) (next : Machine) : Type 0 where
  pub granules_of_it : AreGranulesIfAny m.lazy.last granules
  pub goes : next ≡ record m { lazy = with_moved m.lazy granules }

-- an event of the machine. A session's end changes nothing that is seen
pub data Event (start : Database) (m next : Machine) : Type 0 where
  begins : (s : ℕ) → Begins m s next → Event start m next
  asks : (s : ℕ) (name : LockName) (mode : Mode) (answer : LockAnswer) → Asks m s start name mode answer next → Event start m next
  executes : (s : ℕ) → Executes m s next → Event start m next
  refuses : (s : ℕ) → Refuses m s next → Event start m next
  commits_now : (s : ℕ) → Commits m s next → Event start m next
  aborts : (s : ℕ) → Aborts m s next → Event start m next
  moves : (granules : List Granule) → Moves m granules next → Event start m next
  ends_by_log : (s : ℕ) → EndsByLog m s next → Event start m next
  finishes : (s : ℕ) → next ≡ m → Event start m next

-- REACH: events one after the other, in whatever order
pub data Reaches (start : Database) (m : Machine) : Machine → Type 0 where
  at_once : Reaches start m m
  one_more : {now next : Machine} → Reaches start m now → Event start now next → Reaches start m next
