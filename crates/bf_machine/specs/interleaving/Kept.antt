-- WHAT EVERY EVENT KEEPS of a machine whose sessions take turns.
use Rattle.std.specs.Prelude.{◌≡◌, ◌≢◌, ◌⊎◌, ℕ, ◌+◌, ◌<◌, ◌≤◌, Bool, true, false, List, [], ◌∷◌, ◌++◌, length, map, take, Option, Some, None, Contains, slice_index_or, IsTrue}
use Rattle.std.specs.FinMap as fin
use Rattle.std.specs.List.{AllByRecursion}
use Rattle.bf_locks.specs.declared.mode.Mode.{Mode}
use Rattle.bf_locks.specs.declared.name.LockName.{LockName}
use Rattle.bf_locks.specs.Locks.{held, IsConsistent}
use Rattle.bf_locks.specs.Modes.{are_compatible, join_of}
use Rattle.bf_tree.specs.declared.history.Entry.{Entry}
use Rattle.bf_tree.specs.declared.history.Outcome.{Outcome}
use Rattle.bf_tree.specs.declared.reply.Cause.{Cause}
use Rattle.bf_tree.specs.declared.reply.Cause.TheVariants.{Died}
use Rattle.bf_tree.specs.Limits.{HasNarrowTables, IsNarrowIfMigrate, IsNarrowMigrate, is_narrow_script}
use Rattle.bf_tree.specs.declared.plan.Plan.{Plan}
use Rattle.bf_tree.specs.declared.reply.Reply.{Reply}
use Rattle.bf_tree.specs.declared.script.Script.{Script}
use Rattle.bf_tree.specs.declared.script.Session.{Session}
use Rattle.bf_tree.specs.declared.statement.Statement.{Statement}
use Rattle.bf_sql.specs.Bound.{catalog_of}
use Rattle.bf_sql.specs.Database.{Database, IsDatabase}
use Rattle.bf_sql.specs.Groups.{session_at, groups_in, statements_in}
use Rattle.bf_sql.specs.History.{IsEndedBy, IsLegalHistory, replayed}
use Rattle.bf_sql.specs.migrations.Lazy.{LazyState, view_of}
use Rattle.bf_sql.specs.migrations.Plans.{plan_made}
use Rattle.bf_store.specs.Calls.{MayFlip}
use Rattle.bf_store.specs.States.{IsLazy, IsOpenLazily, IsSeenAs}
use Rattle.bf_store.specs.Stores.{IsByPass, Store}
use Rattle.bf_machine.specs.InOrder.{none_open}
use Rattle.bf_machine.specs.interleaving.Groups.{Pending, Rows, Flip, footprint_in, HasRun}
use Rattle.bf_machine.specs.interleaving.Machines.{Group, Began, Open, Machine, MayEnd, IsAmong, any_if, open_at, told_at, began_at, answered_in, has_open, transcripts_of}

-- something holds of one of a group's statements, given whether it stands in the group's block
abbrev pub SomeOf : (Bool → Statement → Type 0) → Bool → List Statement → Type 0
SomeOf P inner [] = ⊥
SomeOf P inner (s ∷ ss) = P inner s ⊎ SomeOf P true ss

module _ (start : Database) (script : Script) (history : List Entry) where
  -- WANTS: a statement of the group, bound in the catalog after some prefix of the history, has the name and the mode in its footprint
  abbrev pub Wants : ℕ → Group → LockName → Mode → Type 0
  Wants s group name mode =
      (k : ℕ) × SomeOf (λ inner statement. Contains (footprint_in (replayed script start (take k history)).1 inner statement) (name, mode)) false (statements_in script s group)

  -- two groups want one name in modes that conflict
  pub record Clash (s : ℕ) (one : Group) (t : ℕ) (other : Group) : Type 0 where
    pub name : LockName
    pub mine : Mode
    pub theirs : Mode
    pub first : Wants s one name mine
    pub second : Wants t other name theirs
    pub against : are_compatible mine theirs ≡ false

  -- a mode is a join of modes that a group wants
  pub data IsJoin (s : ℕ) (group : Group) (name : LockName) : Mode → Type 0 where
    wanted : {mode : Mode} → Wants s group name mode → IsJoin s group name mode
    joined : {a b : Mode} → IsJoin s group name a → IsJoin s group name b → IsJoin s group name (join_of a b)

abbrev pub phase_of : Script → ℕ → ℕ
phase_of script s = (session_at script s).phase

-- a group has its start number
pub record HasStart (began : List Began) (s : ℕ) (group : Group) (n : ℕ) : Type 0 where
  pub deaths : List ℕ
  pub is : began_at began n ≡ Some (record { session = s; group = group; deaths = deaths })

-- a group has ended: it stands in the history, or its statements have a cause as their reply
abbrev pub HasEnded : Machine → ℕ → Group → Type 0
HasEnded m s group = group.1 ≤ length (told_at m s)

-- a group stands in the history: an entry of its session has its first and its last statement
abbrev pub StandsInHistory : Machine → ℕ → Group → Type 0
StandsInHistory m s group = (outcome : Outcome) × Contains m.history (record { session = s; first = group.0; last = group.1; outcome = outcome })

-- each of its statements has a cause as its reply
abbrev pub IsToldACause : Machine → ℕ → Group → Type 0
IsToldACause m s group = (cause : Cause) × IsEndedBy m.script m.told s group cause

-- session s is of the current phase or of an earlier one: all sessions of phases before its own have ended
abbrev pub IsCurrent : Machine → ℕ → Type 0
IsCurrent m s = (t : ℕ) → phase_of m.script t < phase_of m.script s → (length (session_at m.script t).statements ≤ length (told_at m t)) × (open_at m t ≡ None)

-- a script within the limits of the language, each MIGRATE too
pub record IsWithinLimits (script : Script) : Type 0 where
  pub narrow : IsTrue (is_narrow_script script)
  pub migrates : AllByRecursion (λ (s : Session). AllByRecursion IsNarrowIfMigrate s.statements) script.sessions

-- each session of the script has a place for its open group and for its replies
pub record IsShaped (m : Machine) : Type 0 where
  pub opens : length m.opens ≡ length m.script.sessions
  pub told : length m.told ≡ length m.script.sessions

-- the causes of a log
abbrev pub is_of_log : Cause → Bool
is_of_log (Died h) = false
is_of_log other = true

module _ (start : Database) (script : Script) (began : List Began) (history : List Entry) where
  -- a group died for an older one of another session of its phase, with which it clashes
  pub record DiedFor (s : ℕ) (group : Group) (h : ℕ) : Type 0 where
    pub own : ℕ
    pub other : ℕ
    pub theirs : Group
    pub has : HasStart began s group own
    pub named : HasStart began other theirs h
    pub another : other ≢ s
    pub one_phase : phase_of script other ≡ phase_of script s
    pub older : h < own
    pub clash : Clash start script history s group other theirs

  -- a group ends by the last of its deaths, where it has died once more than the retries; or by a cause by which a log may end it
  abbrev pub IsAllowed : MayEnd → ℕ → ℕ → Group → Cause → Type 0
  IsAllowed may_end retries s group (Died h) = (died : DiedFor s group h) × (before : List ℕ) × (died.has.deaths ≡ before ++ h ∷ []) × (length before ≡ retries)
  IsAllowed may_end retries s group other = IsAmong may_end (record { session = s; group = group; cause = other })

-- what can be put into a lazy state: the writes of an open transaction, and a flip, as it is planned in its catalog, of which
-- nothing is against it
pub record IsReadyToFlip (lazy : LazyState) (plan : Plan) : Type 0 where
  pub may : MayFlip lazy plan.migrate
  pub planned : plan ≡ plan_made lazy.live plan.migrate
  pub narrow : IsNarrowMigrate plan.migrate

abbrev pub CanBePutInto : LazyState → Pending → Type 0
CanBePutInto lazy (Rows writes) = IsOpenLazily lazy writes
CanBePutInto lazy (Flip plan) = IsReadyToFlip lazy plan
CanBePutInto lazy other = Unit {0}

module _ (start : Database) (m : Machine) where
  abbrev pub AllowedNow : ℕ → Group → Cause → Type 0
  AllowedNow = IsAllowed start m.script m.began m.history m.may_end m.retries

  -- HISTORY LEGAL: transcripts and history are legal from the opening database, and the database is the replay's. No group is
  -- open in the transcripts: the replies of open groups stand apart
  pub record HistoryLegal : Type 0 where
    pub legal : IsLegalHistory m.script AllowedNow none_open start m.told m.history
    pub replay : m.db ≡ (replayed m.script start m.history).1
    pub database : IsDatabase m.db
    -- entries stand in what is told, and sessions of phases before theirs have ended
    pub placed : AllByRecursion (λ e. e.last ≤ length (told_at m e.session)) m.history
    pub in_turn : AllByRecursion (λ e. IsCurrent m e.session) m.history

  -- so they are with the replies of open groups in their places
  abbrev pub TranscriptsLegal : Type 0
  TranscriptsLegal = IsLegalHistory m.script AllowedNow (has_open m) start (transcripts_of m) m.history

  -- OPEN GROUPS REPLAY: an open group of session s
  pub record IsOpenGroup (s : ℕ) (o : Open) : Type 0 where
    -- is the session's next group
    pub whole : Contains (groups_in m.script s) o.group
    pub next : o.group.0 ≡ length (told_at m s) + 1
    pub within : length o.replies ≤ length (statements_in m.script s o.group)
    -- and its replies, and what it is to leave, are those of its answered statements on the present database
    pub run : HasRun m.locks o.start m.db (answered_in m.script s o) o.pending

  pub record OpenGroupsReplay : Type 0 where
    pub each : (s : ℕ) (o : Open) → open_at m s ≡ Some o → IsOpenGroup s o

  -- a group that has begun is one of its session's, and has ended or is the next
  pub record HasBegun (s : ℕ) (group : Group) : Type 0 where
    pub whole : Contains (groups_in m.script s) group
    pub goes : HasEnded m s group ⊎ (group.0 ≡ length (told_at m s) + 1)

  -- LOCKS CONSISTENT: owners are start numbers of open groups, and hold joins of modes that their groups want
  pub record LocksConsistent : Type 0 where
    pub apart : IsConsistent m.locks
    pub owners : (name : LockName) (owner : ℕ) (mode : Mode) → held m.locks name owner ≡ Some mode
        → (s : ℕ) × (o : Open) × (open_at m s ≡ Some o) × (o.start ≡ owner) × IsJoin start m.script m.history s o.group name mode
    pub starts : (s : ℕ) (o : Open) → open_at m s ≡ Some o → HasStart m.began s o.group o.start
    -- each group has one start number, and those of earlier phases have the smaller ones
    pub once : (s : ℕ) (group : Group) (i j : ℕ) → HasStart m.began s group i → HasStart m.began s group j → i ≡ j
    pub in_turn : (s : ℕ) (group : Group) (n : ℕ) → HasStart m.began s group n → IsCurrent m s
    pub begun : (s : ℕ) (group : Group) (n : ℕ) → HasStart m.began s group n → HasBegun s group
    -- each group that has ended had begun
    pub numbered : (s : ℕ) (group : Group) → Contains (groups_in m.script s) group → HasEnded m s group → (n : ℕ) × HasStart m.began s group n
    -- the last one of a session alone may not have ended
    pub by_session : (s : ℕ) (one other : Group) (i j : ℕ) → HasStart m.began s one i → HasStart m.began s other j → i < j → HasEnded m s one
    pub by_phase : (s t : ℕ) (one other : Group) (i j : ℕ) → HasStart m.began s one i → HasStart m.began t other j → i < j → phase_of m.script s ≤ phase_of m.script t

  -- CAUSES ALLOWED: what a group's deaths named. (That causes in the transcripts are allowed stands in `legal`.)
  pub record DeathsAllowed (n : ℕ) (b : Began) : Type 0 where
    pub each : (h : ℕ) → Contains b.deaths h → DiedFor start m.script m.began m.history b.session b.group h
    -- groups of different sessions
    pub sessions_differ : (i j s : ℕ) (one other : Group) → i < length b.deaths → j < length b.deaths
        → HasStart m.began s one (slice_index_or b.deaths i 0) → HasStart m.began s other (slice_index_or b.deaths j 0) → i ≡ j
    -- of which all but the last have ended, and the last too where the group is open
    pub ended : (i s : ℕ) (group : Group) → i + 1 < length b.deaths → HasStart m.began s group (slice_index_or b.deaths i 0) → HasEnded m s group
    pub last_ended : (i s : ℕ) (group : Group) (o : Open) → open_at m b.session ≡ Some o → o.start ≡ n → i < length b.deaths
        → HasStart m.began s group (slice_index_or b.deaths i 0) → HasEnded m s group
    -- each later group of these sessions has a greater number than the group that died
    pub later : (h s k : ℕ) (one other : Group) → Contains b.deaths h → HasStart m.began s one h → HasStart m.began s other k → h < k → n < k
    -- while the group has not ended it has not died once more than the retries
    pub most : length b.deaths ≤ m.retries + 1
    pub retried : (length b.deaths ≤ m.retries) ⊎ HasEnded m b.session b.group

  pub record CausesAllowed : Type 0 where
    pub deaths : (n : ℕ) (b : Began) → began_at m.began n ≡ Some b → DeathsAllowed n b

  -- STORE VALID: the database is what is seen of a lazy state, and what each open group is to leave can be put into that
  pub record StoreValid : Type 0 where
    pub seen_as : IsSeenAs m.db m.lazy
    pub narrow : HasNarrowTables (catalog_of m.lazy.live)
    pub by_pass : IsByPass m.lazy.last m.pass
    pub puts : (s : ℕ) (o : Open) → open_at m s ≡ Some o → CanBePutInto m.lazy o.pending

  -- ALL OF THEM
  pub record IsKept : Type 0 where
    pub within : IsWithinLimits m.script
    pub shaped : IsShaped m
    pub store_valid : StoreValid
    pub history_legal : HistoryLegal
    pub open_groups_replay : OpenGroupsReplay
    pub locks_consistent : LocksConsistent
    pub causes_allowed : CausesAllowed

abbrev pub no_group : Session → Option Open
no_group s = None

abbrev pub no_replies : Session → List Reply
no_replies s = []

-- what is true of the store that a machine begins with
pub record IsOpening (store : Store) : Type 0 where
  pub lazy_state : IsLazy store.lazy
  pub narrow : HasNarrowTables (catalog_of store.lazy.live)
  pub by_pass : IsByPass store.lazy.last store.migration

-- NEW: nothing has begun
abbrev pub fresh_with : MayEnd → Store → Script → ℕ → Machine
fresh_with may_end store script retries = record {
  script = script;
  retries = retries;
  may_end = may_end;
  db = view_of store.lazy;
  lazy = store.lazy;
  pass = store.migration;
  locks = fin.empty;
  began = [];
  opens = map no_group script.sessions;
  told = map no_replies script.sessions;
  history = [];
}

-- and a log may end any group, or none
abbrev pub fresh : Bool → Store → Script → ℕ → Machine
fresh logged = fresh_with (any_if logged)
