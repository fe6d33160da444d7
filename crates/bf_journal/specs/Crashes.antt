-- What every crash of a machine leaves: the view after a prefix of its history.
use Rattle.std.specs.Prelude.{◌≡◌, ◌⊎◌, ℕ, ◌≤◌, List, [], ◌∷◌, ◌++◌, Option, Some, None, ⊤}
use Rattle.bf_disk.specs.declared.disk.Disk.{Ghosts}
use Rattle.bf_log.specs.declared.log.Log.{Log}
use Rattle.bf_journal.specs.Leaving.{Stores, Fails, StoresNothing}
use Rattle.bf_journal.specs.States.{IsReady, MayLeave, moment_of}

-- the view after these entries, in order
abbrev pub replayed : {V E : Type 0} → (V → E → V) → V → List E → V
replayed run db [] = db
replayed run db (entry ∷ entries) = replayed run (run db entry) entries

-- a view is the one after a prefix of the history
pub record IsAfterPrefix {V E : Type 0} (run : V → E → V) (opening : V) (history : List E) (db : V) : Type 0 where
  pub prefix : List E
  pub behind : List E
  pub split : prefix ++ behind ≡ history
  pub is : db ≡ replayed run opening prefix

-- A machine: its state and the log that keeps it, the view at its opening, the moment from which on crashes are spoken
-- of, the entries since, and the view that its one failed change would have made.
pub record Machine (L D : Type 0) (g : Ghosts D) (V E : Type 0) : Type 0 where
  pub state : L
  pub log : Log D g
  pub opening : V
  pub since : ℕ
  pub history : List E
  pub failed : Option V

-- what is left reopens, to a view with P or to the one of the failed change
abbrev pub ReopensWith : {L V : Type 0} → (L → V) → Option V → (V → Type 0) → Option L → Type 0
ReopensWith {L = L} view failed P left = (state : L) × (left ≡ Some state) × (P (view state) ⊎ (failed ≡ Some (view state)))

module _ {L V E : Type 0} (first : L) (Steps : L → List ℕ → L → Type 0) (view : L → V) (run : V → E → V) {D : Type 0} {g : Ghosts D} where
  -- Every image that a crash now may leave reopens to the view, and every image since that moment to the view after a
  -- prefix of the history; or to the view of the failed change.
  pub record CrashImages (m : Machine L D g V E) : Type 0 where
    pub view_is : view m.state ≡ replayed run m.opening m.history
    pub passed : m.since ≤ moment_of m.log
    pub none_failed : IsReady m.log → m.failed ≡ None
    pub now : (left : Option L) → MayLeave first Steps m.log (moment_of m.log) left
        → ReopensWith view m.failed (λ db. db ≡ view m.state) left
    pub ever : (left : Option L) → MayLeave first Steps m.log m.since left
        → ReopensWith view m.failed (IsAfterPrefix run m.opening m.history) left

  -- a transaction commits
  pub record Commits (old new : Machine L D g V E) : Type 0 where
    pub entry : E
    pub stores : Stores first Steps old.state new.state old.log new.log
    pub seen : view new.state ≡ run (view old.state) entry
    pub rest : new ≡ record old { state = new.state; log = new.log; history = old.history ++ entry ∷ [] }

  -- the state changes in a way that is not seen
  pub record Moves (old new : Machine L D g V E) : Type 0 where
    pub stores : Stores first Steps old.state new.state old.log new.log
    pub seen : view new.state ≡ view old.state
    pub rest : new ≡ record old { state = new.state; log = new.log }

  -- a call stores nothing
  pub record Refuses (old new : Machine L D g V E) : Type 0 where
    pub stores : StoresNothing first Steps old.log new.log
    pub rest : new ≡ record old { log = new.log }

  -- an entry that stores nothing and leaves the view: a transaction that wrote nothing, or one that was rolled back
  pub record Enters (old new : Machine L D g V E) : Type 0 where
    pub entry : E
    pub seen : run (view old.state) entry ≡ view old.state
    pub rest : new ≡ record old { history = old.history ++ entry ∷ [] }

  -- a change fails while it is stored
  pub record FailsAt (old new : Machine L D g V E) : Type 0 where
    pub next : L
    pub fails : Fails first Steps old.state next old.log new.log
    pub rest : new ≡ record old { log = new.log; failed = Some (view next) }

  abbrev pub IsStep : Machine L D g V E → Machine L D g V E → Type 0
  IsStep old new = Commits old new ⊎ Moves old new ⊎ Refuses old new ⊎ Enters old new ⊎ FailsAt old new

  -- a run of calls, by the machines after each
  abbrev pub IsRun : Machine L D g V E → List (Machine L D g V E) → Type 0
  IsRun m [] = ⊤
  IsRun m (next ∷ later) = IsStep m next × IsRun next later

-- the last of some machines
abbrev pub last_of : {M : Type 0} → M → List M → M
last_of m [] = m
last_of m (next ∷ later) = last_of next later

-- a machine that begins
abbrev pub started : {L D : Type 0} {g : Ghosts D} {V E : Type 0} → L → Log D g → V → ℕ → Machine L D g V E
started state log opening since =
    record { state = state; log = log; opening = opening; since = since; history = []; failed = None }
