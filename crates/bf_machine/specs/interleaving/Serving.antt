-- SERVING sessions on one thread: what a turn of a session makes of a machine.
use Rattle.std.specs.Prelude.{◌≡◌, ◌≢◌, ◌⊎◌, ℕ, ◌+◌, ◌-◌, ◌<◌, ◌≤◌, Bool, true, false, List, [], ◌∷◌, ◌++◌, length, take, Option, Some, None, Contains, nat_le, slice_get, IsTrue}
use Rattle.std.specs.Option.{option_map_or}
use Rattle.std.specs.List.{AllByRecursion}
use Rattle.bf_locks.specs.declared.answer.LockAnswer.{LockAnswer}
use Rattle.bf_locks.specs.declared.answer.LockAnswer.TheVariants.{Die, Wait}
use Rattle.bf_locks.specs.declared.mode.Mode.{Mode}
use Rattle.bf_locks.specs.declared.name.LockName.{LockName}
use Rattle.bf_locks.specs.Locks.{IsJudged, Locks}
use Rattle.bf_base.specs.declared.granule.Granule.{Granule}
use Rattle.bf_tree.specs.declared.bound.Bound.{Bound}
use Rattle.bf_tree.specs.declared.history.Entry.{Entry}
use Rattle.bf_tree.specs.declared.reply.Cause.{Cause}
use Rattle.bf_tree.specs.declared.statement.Statement.{Statement}
use Rattle.bf_sql.specs.Database.{Database}
use Rattle.bf_sql.specs.migrations.Lazy.{Migration}
use Rattle.bf_sql.specs.migrations.Plans.{prepared_of}
use Rattle.bf_store.specs.States.{need_of, to_move}
use Rattle.bf_sql.specs.Footprints.{Lock, footprint_of}
use Rattle.bf_sql.specs.Groups.{ends_block, statements_of}
use Rattle.bf_live.specs.OpenGroups.{Holds}
use Rattle.bf_machine.specs.Movement.{movement, moving_behind, moving_in, moving_seen}
use Rattle.bf_machine.specs.Runnable.{phases_rise_from}
use Rattle.bf_machine.specs.declared.stand.Turn.{Turn}
use Rattle.bf_machine.specs.declared.stand.Turn.TheVariants as turn
use Rattle.bf_machine.specs.declared.stand.Stand.{Stand}
use Rattle.bf_machine.specs.declared.stand.Stand.TheVariants as stand
use Rattle.bf_machine.specs.interleaving.Calls.{HasSessionEnded, IsPlace, StandsAs, replies_at, statements_at}
use Rattle.bf_machine.specs.interleaving.Events.{Commits, EndsByLog, Moves, Reaches, died, put_into, rest_of, stands_inside, text_of}
use Rattle.bf_machine.specs.interleaving.Groups.{footprint_in, left_by}
use Rattle.bf_machine.specs.interleaving.Journals.{Keeps}
use Rattle.bf_machine.specs.interleaving.Kept.{IsCurrent}
use Rattle.bf_machine.specs.interleaving.Machines.{Began, Machine, Open, these, began_at, open_at, told_at}

-- whether a call of a session that stands so can come
abbrev pub can_go : Stand → Bool
can_go stand.Ended = false
can_go stand.Later = false
can_go (stand.Named h) = false
can_go other = true

-- the start numbers that the deaths of a group named, by its own
abbrev pub deaths_at : Machine → ℕ → List ℕ
deaths_at m n = option_map_or (λ (b : Began). b.deaths) (began_at m.began n) []

-- how many statements of a session have no reply
abbrev pub unanswered : Machine → ℕ → ℕ
unanswered m s = length (statements_at m s) - length (replies_at m s)

-- an open group has a statement left, as it ends with the reply to its last one
abbrev pub HasMore : Machine → ℕ → Type 0
HasMore m s = (o : Open) → open_at m s ≡ Some o → rest_of m s o ≡ [] → ⊥

-- and has a reply, as it begins in the turn of its first one
abbrev pub HasReply : Machine → ℕ → Type 0
HasReply m s = (o : Open) → open_at m s ≡ Some o → o.replies ≡ [] → ⊥

-- the statements of the open group that have their replies
abbrev pub answered_text : Machine → ℕ → List Statement
answered_text m s = option_map_or (λ (o : Open). take (length o.replies) (text_of m s o)) (open_at m s) []

module _ (m : Machine) (s : ℕ) where
  -- whether the next statement stands in an open block
  abbrev pub is_in_block : Bool
  is_in_block = option_map_or (λ (o : Open). stands_inside o.replies) (open_at m s) false

  -- whether a group is open whose statements all have replies
  abbrev pub is_answered : Bool
  is_answered = option_map_or (λ (o : Open). nat_le (length (text_of m s o)) (length o.replies)) (open_at m s) false

  -- other sessions stay as they are
  abbrev pub IsBeside : Machine → Type 0
  IsBeside next = (t : ℕ) → t ≢ s → (open_at next t ≡ open_at m t) × (told_at next t ≡ told_at m t)

  -- SERVES: the session alone goes on; no group dies, and only groups of the session have ended
  pub record Serves (next : Machine) : Type 0 where
    pub script : next.script ≡ m.script
    pub beside : IsBeside next
    pub deaths : (n : ℕ) → deaths_at next n ≡ deaths_at m n
    pub entries : (more : List Entry) × AllByRecursion (λ e. e.session ≡ s) more × (next.history ≡ m.history ++ more)

  -- the database that the next statement is on: what its open group is to leave, or where none is open the present one
  abbrev pub sees : Database
  sees = option_map_or (λ (o : Open). left_by m.db o.pending) (open_at m s) m.db

  -- RECORDED: how statements of the session come into the history. Behind them the open group goes on, and no entry comes
  pub record GoesOnWith (ss : List Statement) (next : Machine) : Type 0 where
    pub o : Open
    pub is : open_at next s ≡ Some o
    pub text : answered_text next s ≡ answered_text m s ++ ss
    pub history : next.history ≡ m.history

  -- or the group has ended, and its entry comes last
  pub record IsEnteredWith (ss : List Statement) (next : Machine) : Type 0 where
    pub closed : open_at next s ≡ None
    pub entry : Entry
    pub text : statements_of m.script entry ≡ answered_text m s ++ ss
    pub history : next.history ≡ m.history ++ entry ∷ []

  -- or the statement is a COMMIT or ROLLBACK in no group, of which no entry comes
  pub record IsStrayWith (ss : List Statement) (next : Machine) : Type 0 where
    pub closed : open_at m s ≡ None
    pub still : open_at next s ≡ None
    pub statement : Statement
    pub is : ss ≡ statement ∷ []
    pub ends : ends_block statement ≡ true
    pub history : next.history ≡ m.history

  abbrev pub IsRecorded : List Statement → Machine → Type 0
  IsRecorded ss next = GoesOnWith ss next ⊎ IsEnteredWith ss next ⊎ IsStrayWith ss next

  -- the last migration, once what the session's open group is to leave is put into the store
  abbrev pub last_behind : Option Migration
  last_behind = option_map_or (λ (o : Open). (put_into m.lazy o.pending).last) (open_at m s) m.lazy.last

  -- FOLLOWED: of it has moved what the statements of the history needed, and then those of the session's open group
  abbrev pub IsFollowed : Database → Type 0
  IsFollowed start = moving_seen last_behind ≡ moving_in (movement m.script start m.history) false m.db (answered_text m s)

  -- ANSWERED: one statement more has its reply. Of the last migration exactly what the statement needs has moved besides; and where
  -- it is a MIGRATE that nothing is against, the next one has begun, of which nothing has moved
  pub record HasAnswered (next : Machine) : Type 0 where
    pub one_more : unanswered m s ≡ unanswered next s + 1
    pub statement : Statement
    pub is : slice_get (statements_at m s) (length (replies_at m s)) ≡ Some statement
    pub moved : moving_seen next.lazy.last ≡ moving_behind (moving_seen m.lazy.last) sees is_in_block statement
    pub recorded : IsRecorded (statement ∷ []) next

  -- ENDED: only the open group has ended, which had all its replies
  pub record HasEndedAlone (next : Machine) : Type 0 where
    pub o : Open
    pub is : open_at m s ≡ Some o
    pub answered : rest_of m s o ≡ []
    pub closed : open_at next s ≡ None
    pub same : unanswered next s ≡ unanswered m s
    pub moved : moving_seen next.lazy.last ≡ moving_seen (put_into m.lazy o.pending).last
    pub recorded : IsEnteredWith [] next

  -- SETTLED: what the open group is to leave is told of as if it had ended, whether it has or goes on
  abbrev pub HasSettled : Machine → Type 0
  HasSettled next = (o : Open) → open_at m s ≡ Some o → moving_seen next.lazy.last ≡ moving_seen (put_into m.lazy o.pending).last

  -- exactly one statement more has its reply, or only its open group has ended; a group that is open then has a reply, and a statement left
  pub record HasGoneOn (start : Database) (next : Machine) : Type 0 where
    pub serves : Serves next
    pub reached : Reaches start m next
    pub more : HasMore next s
    pub has_reply : HasReply next s
    pub goes : HasAnswered next ⊎ HasEndedAlone next

  -- ENDED BY ITS LOG: the session's open group, as it stands by then, has ended by a cause of the log. Fewer statements have no reply,
  -- or the open group had all of its replies before, and as many have none
  pub record HadAllReplies (next : Machine) : Type 0 where
    pub o : Open
    pub is : open_at m s ≡ Some o
    pub answered : rest_of m s o ≡ []
    pub same : unanswered next s ≡ unanswered m s

  pub record HasFailed (start : Database) (cause : Cause) (next : Machine) : Type 0 where
    pub now : Machine
    pub serves : Serves now
    pub reached : Reaches start m now
    pub by : EndsByLog now s next
    pub told : by.cause ≡ cause
    pub left : (unanswered next s < unanswered m s) ⊎ HadAllReplies next

  -- how a turn ends that commits the open group: by its entry, or by a cause of the log
  abbrev pub IsCommit : Turn → Machine → Type 0
  IsCommit turn.Served next = Commits m s next
  IsCommit (turn.Ended cause) next = (by : EndsByLog m s next) × (by.cause ≡ cause)
  IsCommit other next = ⊥

  -- the open group goes on, or has ended where all of its statements had their replies
  pub record EndsIfAnswered (next : Machine) : Type 0 where
    pub serves : Serves next
    pub replies : unanswered next s ≡ unanswered m s
    pub more : HasMore next s
    pub has_reply : HasReply next s
    pub settled : HasSettled next
    pub ended : (next ≡ m) ⊎ HasEndedAlone next

  abbrev pub IsEndIfAnswered : Turn → Machine → Type 0
  IsEndIfAnswered turn.Served next = EndsIfAnswered next
  IsEndIfAnswered (turn.Ended cause) next = (by : EndsByLog m s next) × (by.cause ≡ cause)
  IsEndIfAnswered other next = ⊥

  -- ASKED: before a statement more has its reply, the session's open group, as it stands by then, asks for a lock of its next statement's footprint, and has this answer
  pub record IsAsked (start : Database) (answer : LockAnswer) : Type 0 where
    pub now : Machine
    pub serves : Serves now
    pub reached : Reaches start m now
    pub no_reply : unanswered now s ≡ unanswered m s
    pub no_move : now.lazy ≡ m.lazy
    pub o : Open
    pub is : open_at now s ≡ Some o
    pub same : (p : Open) → open_at m s ≡ Some p → p.start ≡ o.start
    pub statement : Statement
    pub later : List Statement
    pub left : rest_of now s o ≡ statement ∷ later
    pub name : LockName
    pub mode : Mode
    pub asks : Contains (footprint_in now.db (stands_inside o.replies) statement) (name, mode)
    pub judged : IsJudged now.locks o.start name mode answer

  -- the next statement, which has these locks in its footprint
  pub record IsToLock (o : Open) (locks : List Lock) : Type 0 where
    pub current : IsCurrent m s
    pub is : open_at m s ≡ Some o
    pub statement : Statement
    pub later : List Statement
    pub left : rest_of m s o ≡ statement ∷ later
    pub footprint : footprint_in m.db (stands_inside o.replies) statement ≡ locks

  -- as it is bound in the present catalog, and is to be replied to
  pub record IsBoundNext (o : Open) (bound : Bound) : Type 0 where
    pub to_lock : IsToLock o (footprint_of bound)
    pub goes_on : ends_block to_lock.statement ≡ false
    pub bound_so : prepared_of m.db (stands_inside o.replies) to_lock.statement ≡ Some bound

  -- the next statement, of an open group or not, is prepared so in the present catalog
  pub record IsPreparedNext (bound : Bound) : Type 0 where
    pub statement : Statement
    pub is : slice_get (statements_at m s) (length (replies_at m s)) ≡ Some statement
    pub prepared_so : prepared_of m.db is_in_block statement ≡ Some bound

  -- the group holds them, and nothing else has changed
  abbrev pub HasLocked : List Lock → Machine → Type 0
  HasLocked footprint next = (o : Open) × (open_at m s ≡ Some o) × (locks : Locks) × (next ≡ record m { locks = locks }) × Holds locks o.start footprint

  -- no other group is open
  abbrev pub IsAlone : Type 0
  IsAlone = (t : ℕ) → t ≢ s → open_at m t ≡ None

  -- no open group is younger than the session's
  abbrev pub IsYoungest : Type 0
  IsYoungest = (o : Open) × (open_at m s ≡ Some o) × ((t : ℕ) (other : Open) → open_at m t ≡ Some other → other.start ≤ o.start)

  -- a call of the session can come, or none can
  abbrev pub CanGo : Type 0
  CanGo = (at : Stand) × StandsAs m s at × (can_go at ≡ true)

  abbrev pub CannotGo : Type 0
  CannotGo = (at : Stand) × StandsAs m s at × (can_go at ≡ false)

  -- TURN: how it ended, and what it made
  abbrev pub IsTurn : Database → Turn → Machine → Type 0
  IsTurn start turn.Passed next = CannotGo × (next ≡ m)
  IsTurn start turn.Served next = HasGoneOn start next
  IsTurn start turn.Waited next = (others : List ℕ) × (asked : IsAsked start (Wait others)) × (next ≡ asked.now)
  IsTurn start turn.Died next = (older : ℕ) × (asked : IsAsked start (Die older)) × (next ≡ died asked.now s asked.o older)
  IsTurn start (turn.Ended cause) next = HasFailed start cause next

-- OF LOCKS: a turn that asks for locks alone gets them all, waits or dies
abbrev pub IsOfLocks : Turn → Type 0
IsOfLocks turn.Served = Unit {0}
IsOfLocks turn.Waited = Unit {0}
IsOfLocks turn.Died = Unit {0}
IsOfLocks other = ⊥

-- MOVED: granules of the last migration, by one record after the other
pub data MovesAll (m : Machine) : List Granule → Machine → Type 0 where
  no_move : MovesAll m [] m
  one_record : {before : List Granule} {now next : Machine} → MovesAll m before now → (granules : List Granule) → Moves now granules next → MovesAll m (before ++ granules) next

-- or those of a first part
pub record HasMovedFirst (m : Machine) (granules : List Granule) (next : Machine) : Type 0 where
  pub front : List Granule
  pub back : List Granule
  pub parts : granules ≡ front ++ back
  pub moves : MovesAll m front next

-- what is left of a bound statement's need, and of the last migration exactly that has moved, or a first part of it
abbrev pub left_of_need : Machine → Bound → List Granule
left_of_need m bound = to_move m.lazy.last (need_of m.lazy.last bound.action)

abbrev pub HasMovedNeed : Machine → Bound → Machine → Type 0
HasMovedNeed m bound next = MovesAll m (left_of_need m bound) next

abbrev pub HasMovedSome : Machine → Bound → Machine → Type 0
HasMovedSome m bound next = HasMovedFirst m (left_of_need m bound) next

-- events one after the other that leave the store, so that no journal is asked for any
abbrev pub LeavesStore : Database → Machine → Machine → Type 0
LeavesStore start m next = Keeps {J = Unit {0}} (λ lazy then before after answer. ⊥) start m tt next tt

-- the turn of one number of an order: its session's, and where there is none nothing
pub record IsTurnOf (start : Database) (m : Machine) (n : ℕ) (next : Machine) : Type 0 where
  pub turn : IsPlace m.script n → (how : Turn) × IsTurn m n start how next
  pub passed : (IsPlace m.script n → ⊥) → next ≡ m

-- TURNED: the turns of the numbers of an order, one after the other
pub data Turned (start : Database) (m : Machine) : List ℕ → Machine → Type 0 where
  no_turn : Turned start m [] m
  one_turn : {ns : List ℕ} {now next : Machine} (n : ℕ) → Turned start m ns now → IsTurnOf start now n next → Turned start m (ns ++ n ∷ []) next

-- the session whose turn is next where all that is left is driven: that of the youngest open group, or where none is open the first of which a call can come
abbrev pub IsNextDriven : Machine → ℕ → Type 0
IsNextDriven m s = IsYoungest m s ⊎ (((t : ℕ) → open_at m t ≡ None) × CanGo m s × ((t : ℕ) → 1 ≤ t → t < s → CannotGo m t))

-- DRIVEN: turns one after the other, each of the session that is next
pub data Driven (start : Database) (m : Machine) : Machine → Type 0 where
  at_rest : Driven start m m
  one_driven : {now next : Machine} (s : ℕ) → Driven start m now → IsNextDriven now s → (how : Turn) → IsTurn now s start how next → Driven start m next

-- the entries are of one session after the other, from one on
abbrev pub SessionsRiseFrom : ℕ → List Entry → Type 0
SessionsRiseFrom s [] = Unit {0}
SessionsRiseFrom s (e ∷ es) = (s ≤ e.session) × SessionsRiseFrom e.session es

-- IN SEQUENCE: no log ends groups, no group is open or has died, the entries are of one session after the other, each once those before it have ended,
-- and of the last migration what their statements needed has moved, and no more
pub record IsInSequence (start : Database) (m : Machine) : Type 0 where
  pub unlogged : m.may_end ≡ these []
  pub phases : IsTrue (phases_rise_from 0 m.script.sessions)
  pub closed : (s : ℕ) → open_at m s ≡ None
  pub no_death : (n : ℕ) → deaths_at m n ≡ []
  pub rises : SessionsRiseFrom 1 m.history
  pub ended : AllByRecursion (λ e. (s : ℕ) → 1 ≤ s → s < e.session → HasSessionEnded m s) m.history
  pub moved : moving_seen m.lazy.last ≡ movement m.script start m.history
