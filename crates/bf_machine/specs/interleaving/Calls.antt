-- THE CONDITIONS of the machine's calls on a session, counted from 1, and where it stands by them.
use Rattle.std.specs.Prelude.{◌≡◌, ◌≢◌, ◌⊎◌, ℕ, ◌+◌, ◌-◌, ◌≤◌, ◌==◌, false, List, [], ◌∷◌, ◌++◌, length, take, Option, Some, None, option_map, Contains, IsSomeAnd, nat_lt, slice_get, if◌then◌else◌}
use Rattle.bf_locks.specs.declared.mode.Mode.{Mode}
use Rattle.bf_locks.specs.declared.name.LockName.{LockName}
use Rattle.bf_tree.specs.declared.bound.Bound.{Bound}
use Rattle.bf_tree.specs.declared.reply.Reply.{Reply}
use Rattle.bf_tree.specs.declared.script.Script.{Script}
use Rattle.bf_tree.specs.declared.statement.Statement.{Statement}
use Rattle.bf_base.specs.declared.granule.Granule.{Granule}
use Rattle.boxcar.specs.Table.{Where}
use Rattle.bf_image.specs.declared.migration.Migration.{Migration}
use Rattle.bf_sql.specs.migrations.Plans.{prepared_of}
use Rattle.bf_store.specs.States.{to_move}
use Rattle.bf_transpose.specs.Covers.{needed_in}
use Rattle.bf_transpose.specs.declared.cover.Cover.{Cover}
use Rattle.bf_sql.specs.Database.{Database}
use Rattle.bf_sql.specs.Footprints.{footprint_of}
use Rattle.bf_sql.specs.Groups.{ends_block, groups_in, session_at}
use Rattle.bf_sql.specs.History.{replayed}
use Rattle.bf_live.specs.OpenGroups.{Holds, HoldsIn}
use Rattle.bf_machine.specs.declared.stand.Ending.{Ending}
use Rattle.bf_machine.specs.declared.stand.Ending.TheVariants as ending
use Rattle.bf_machine.specs.declared.stand.Stand.{Stand}
use Rattle.bf_machine.specs.declared.stand.Stand.TheVariants as stand
use Rattle.bf_machine.specs.declared.stand.Step.{Step}
use Rattle.bf_machine.specs.declared.stand.Step.TheVariants.{Need, Replied, Stale}
use Rattle.bf_machine.specs.interleaving.Events.{Aborts, Begins, Commits, EndsByLog, Executes, IsToCommit, Refuses, commits_behind, rest_of, stands_inside}
use Rattle.bf_machine.specs.interleaving.Groups.{footprint_in}
use Rattle.bf_machine.specs.interleaving.Kept.{HasEnded, HasStart, IsCurrent}
use Rattle.bf_machine.specs.interleaving.Machines.{Group, Machine, Open, open_at, told_at, with_replies}

abbrev pub IsPlace : Script → ℕ → Type 0
IsPlace script s = (1 ≤ s) × (s ≤ length script.sessions)

-- CURRENT: a statement is bound in the present catalog, and its cover is of the present migration, by the slot of its pass
abbrev pub slot_of : Option (Where Migration) → Option ℕ
slot_of pass = option_map (λ (p : Where Migration). p.index) pass

pub record IsPresent (m : Machine) (pass : Option (Where Migration)) (bound : Bound) : Type 0 where
  pub catalog : bound.catalog ≡ m.db.number
  pub migration : slot_of pass ≡ slot_of m.pass

-- ENOUGH: of a cover's granules is left to move what is left of all that a bound statement needs of the migration of its pass
abbrev pub IsEnough : Machine → Option Migration → Bound → Cover → Type 0
IsEnough m migration bound cover = to_move m.lazy.last cover.granules.items ≡ to_move m.lazy.last (needed_in migration bound.action)

-- EXEC: how it goes, by whether that is so, and by what is left to move of the cover
abbrev pub step_of : Machine → List Granule → Step → Type 0
step_of m cover (Stale n) = n ≡ m.db.number
step_of m cover (Need granules) = (granules.items ≡ to_move m.lazy.last cover) × (to_move m.lazy.last cover ≢ [])
step_of m cover Replied = to_move m.lazy.last cover ≡ []

abbrev pub IsStep : Machine → Option (Where Migration) → Bound → List Granule → Step → Type 0
IsStep m pass bound cover step =
    (IsPresent m pass bound × step_of m cover step × ((n : ℕ) → step ≢ Stale n))
    ⊎ ((IsPresent m pass bound → ⊥) × (step ≡ Stale m.db.number))

module _ (m : Machine) (s : ℕ) where
  -- the replies as they stand, those of an open group included
  abbrev pub replies_at : List Reply
  replies_at = with_replies (told_at m s) (open_at m s)

  abbrev pub statements_at : List Statement
  statements_at = (session_at m.script s).statements

  -- the reply to statement n, counted from 1
  abbrev pub reply_at : ℕ → Option Reply
  reply_at n = if n == 0 then None else slice_get replies_at (n - 1)

  -- the number of the next statement
  abbrev pub next_place : Option ℕ
  next_place = if nat_lt (length replies_at) (length statements_at) then Some (length replies_at + 1) else None

  abbrev pub HasSessionEnded : Type 0
  HasSessionEnded = (length statements_at ≤ length (told_at m s)) × (open_at m s ≡ None)

  -- the open group holds a name in a mode that covers one
  abbrev pub IsCovered : LockName → Mode → Type 0
  IsCovered name mode = IsSomeAnd (open_at m s) (λ o. HoldsIn m.locks o.start name mode)

  -- a call may be made where its event can come; which pass a flip comes with is not known before
  abbrev pub CanBegin : Type 0
  CanBegin = (next : Machine) × Begins m s next

  abbrev pub CanCommit : Type 0
  CanCommit = IsToCommit m s

  abbrev pub CanAbort : Type 0
  CanAbort = (next : Machine) × Aborts m s next

  -- FAIL: a group is open
  pub record CanFail : Type 0 where
    pub current : IsCurrent m s
    pub o : Open
    pub is : open_at m s ≡ Some o

  -- how a group ended that was to commit: by its entry, which is one more commit, or by a cause of the log
  abbrev pub IsEnding : Machine → Ending → Type 0
  IsEnding next (ending.Committed n) = Commits m s next × (n ≡ commits_behind 0 m.history + 1)
  IsEnding next (ending.Ended cause) = (by : EndsByLog m s next) × (by.cause ≡ cause)

  abbrev pub CanRefuse : Type 0
  CanRefuse = (next : Machine) × Refuses m s next

  -- the next statement of an open group, as it is bound after some prefix of the history, whose footprint is held
  pub record IsToExec (start : Database) (bound : Bound) : Type 0 where
    pub current : IsCurrent m s
    pub o : Open
    pub is : open_at m s ≡ Some o
    pub statement : Statement
    pub later : List Statement
    pub left : rest_of m s o ≡ statement ∷ later
    pub goes_on : ends_block statement ≡ false
    pub prefix : ℕ
    pub bound_so : prepared_of (replayed m.script start (take prefix m.history)).1 (stands_inside o.replies) statement ≡ Some bound
    pub held : Holds m.locks o.start (footprint_of bound)

  -- EXEC can come there, or at a COMMIT or ROLLBACK in no group
  abbrev pub CanExec : Database → Bound → Type 0
  CanExec start bound = IsToExec start bound ⊎ CanRefuse

  -- it has its reply, as it is bound
  abbrev pub HasReplied : Bound → Machine → Type 0
  HasReplied bound next = ((by : Executes m s next) × (by.bound ≡ bound)) ⊎ Refuses m s next

  -- LOCK, before the answer is known
  pub record CanAsk (start : Database) (name : LockName) (mode : Mode) : Type 0 where
    pub current : IsCurrent m s
    pub o : Open
    pub is : open_at m s ≡ Some o
    pub statement : Statement
    pub later : List Statement
    pub left : rest_of m s o ≡ statement ∷ later
    pub prefix : ℕ
    pub asks : Contains (footprint_in (replayed m.script start (take prefix m.history)).1 (stands_inside o.replies) statement) (name, mode)

  -- the next statement has this number, and does not end its group
  pub record GoesOn (n : ℕ) : Type 0 where
    pub current : IsCurrent m s
    pub o : Open
    pub is : open_at m s ≡ Some o
    pub statement : Statement
    pub later : List Statement
    pub left : rest_of m s o ≡ statement ∷ later
    pub goes_on : ends_block statement ≡ false
    pub number : n ≡ o.group.0 + length o.replies

  -- the next group is to begin again, but the group that its last death named has not ended
  pub record IsNamed (h : ℕ) : Type 0 where
    pub current : IsCurrent m s
    pub closed : open_at m s ≡ None
    pub group : Group
    pub whole : Contains (groups_in m.script s) group
    pub first : group.0 ≡ length (told_at m s) + 1
    pub start : ℕ
    pub has : HasStart m.began s group start
    pub before : List ℕ
    pub named : has.deaths ≡ before ++ h ∷ []
    pub goes_on : (t : ℕ) (other : Group) → HasStart m.began t other h → HasEnded m t other → ⊥

  -- STAND: what the session's next call is
  abbrev pub StandsAs : Stand → Type 0
  StandsAs stand.Ended = HasSessionEnded
  StandsAs stand.Later = (HasSessionEnded → ⊥) × (IsCurrent m s → ⊥)
  StandsAs (stand.Named h) = IsNamed h
  StandsAs stand.Begin = CanBegin
  StandsAs (stand.Statement n) = GoesOn n ⊎ (CanRefuse × (n ≡ length (told_at m s) + 1))
  StandsAs stand.Commit = CanCommit
  StandsAs stand.Abort = CanAbort
