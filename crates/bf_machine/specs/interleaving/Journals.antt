-- A MACHINE BESIDE A JOURNAL, which keeps each change of its store before it is made.
use Rattle.std.specs.Prelude.{◌≡◌, ◌⊎◌, ℕ, ◌≤◌, Bool, true, false, List, [], ◌∷◌, ◌++◌, length, map, Option, Result, Ok, Err, IsTrue, ⊤}
use Rattle.std.specs.List.{AllByRecursion}
use Rattle.bf_base.specs.declared.granule.Granule.{Granule}
use Rattle.bf_base.specs.Lists.{rises}
use Rattle.bf_sql.specs.Database.{Database}
use Rattle.bf_sql.specs.migrations.Lazy.{LazyState, Migration}
use Rattle.bf_store.specs.Calls.{tells}
use Rattle.bf_store.specs.States.{AreGranulesIfAny, most_moved, place_cmp, with_moved}
use Rattle.bf_tree.specs.declared.reply.Cause.{Cause}
use Rattle.bf_tree.specs.declared.reply.Cause.TheVariants.{TooLarge}
use Rattle.bf_tree.specs.declared.script.Script.{Script}
use Rattle.bf_tree.specs.declared.script.Session.{Session}
use Rattle.bf_tree.specs.declared.statement.Statement.{Statement}
use Rattle.bf_machine.specs.declared.journal.KeepError.{KeepError}
use Rattle.bf_machine.specs.declared.journal.KeepError.TheVariants.{Ended, Memory}
use Rattle.bf_machine.specs.interleaving.Events.{Event, IsToCommit, ends_by_log, put_into}
use Rattle.bf_machine.specs.interleaving.Groups.{IsLeftBy, Pending, Rows, Nothing}
use Rattle.bf_machine.specs.interleaving.Kept.{is_of_log}
use Rattle.bf_machine.specs.interleaving.Machines.{EndedGroup, Machine}

-- a record tells something of what an open group is to leave
abbrev pub leaves_something : LazyState → Pending → Bool
leaves_something lazy (Rows writes) = tells lazy writes
leaves_something lazy Nothing = false
leaves_something lazy other = true

-- ONE RECORD: granules of the last migration that one record may move, 1 to 64 of one unit in the order of place
pub record IsOneRecord (last : Option Migration) (granules : List Granule) : Type 0 where
  pub of_it : AreGranulesIfAny last granules
  pub some : 1 ≤ length granules
  pub few : length granules ≤ most_moved
  pub unit : ℕ
  pub of_one_unit : AllByRecursion (λ g. g.unit ≡ unit) granules
  pub in_order : IsTrue (rises place_cmp (map (λ g. g.place) granules))

-- SAID: the journal can keep the changes of the schema that each statement of a script is to leave
abbrev pub AreSaid : (Statement → Type 0) → Script → Type 0
AreSaid Says script = AllByRecursion (λ (session : Session). AllByRecursion Says session.statements) script.sessions

-- STATED: a change of the schema is what such a statement is to leave
abbrev pub IsStated : (Statement → Type 0) → Database → Pending → Type 0
IsStated Says db (Rows writes) = ⊤
IsStated Says db Nothing = ⊤
IsStated Says db change = (s : Statement) × Says s × IsLeftBy db s change

-- a journal ends a group by a cause of a log alone, and where it may end groups
abbrev pub IsOfLogIfEnded : Bool → Result (Unit {0}) KeepError → Type 0
IsOfLogIfEnded ends (Ok done) = ⊤
IsOfLogIfEnded ends (Err (Ended cause)) = (ends ≡ true) × IsTrue (is_of_log cause)
IsOfLogIfEnded ends (Err Memory) = ⊤

-- A CHANGE of a lazy state: what a group is to leave
abbrev pub IsPutInto : LazyState → Pending → LazyState → Type 0
IsPutInto lazy pending next = next ≡ put_into lazy pending

-- or a move of granules of the last migration
abbrev pub IsMoveIn : LazyState → LazyState → Type 0
IsMoveIn lazy next = (granules : List Granule) × AreGranulesIfAny lazy.last granules × (next ≡ with_moved lazy granules)

-- what the open group of session s is to leave, which is to commit
abbrev pub IsLeftFor : Machine → ℕ → LazyState → Type 0
IsLeftFor m s next = (can : IsToCommit m s) × IsPutInto m.lazy can.o.pending next

-- or a move, whoever needs it
abbrev pub IsChangeFor : Machine → ℕ → LazyState → Type 0
IsChangeFor m s next = IsLeftFor m s next ⊎ IsMoveIn m.lazy next

-- for that of some session
abbrev pub IsChangeOf : Machine → LazyState → Type 0
IsChangeOf m next = (s : ℕ) × IsChangeFor m s next

-- a cause for which a move may not be kept: that a record is too large is told of what a group makes alone
abbrev pub is_of_move : Cause → Bool
is_of_move (TooLarge size) = false
is_of_move other = true

abbrev pub IsOfMoveIfEnded : Result (Unit {0}) KeepError → Type 0
IsOfMoveIfEnded (Ok done) = ⊤
IsOfMoveIfEnded (Err (Ended cause)) = IsTrue (is_of_move cause)
IsOfMoveIfEnded (Err Memory) = ⊤

-- UNKEPT: a move that may not be kept for this cause
abbrev pub IsUnkeptMove : LazyState → Cause → LazyState → Type 0
IsUnkeptMove lazy cause next = IsTrue (is_of_move cause) × IsMoveIn lazy next

-- or what the open group of session s is to leave
abbrev pub IsUnkeptFor : Machine → ℕ → Cause → LazyState → Type 0
IsUnkeptFor m s cause next = IsLeftFor m s next ⊎ IsUnkeptMove m.lazy cause next

-- the group that an event ends by a cause of a log, if it does
abbrev pub ended_by : {start : Database} {m next : Machine} → Event start m next → List EndedGroup
ended_by (ends_by_log s by) = record { session = s; group = by.o.group; cause = by.cause } ∷ []
ended_by other = []

module _ {J : Type 0} (Answers : LazyState → LazyState → J → J → Result (Unit {0}) KeepError → Type 0) where
  -- BESIDE: the store changes where the journal has kept that change; else both stay, or there was no memory to keep one of these changes
  abbrev pub IsBeside : (LazyState → Type 0) → LazyState → LazyState → J → J → Type 0
  IsBeside Change lazy next j k =
      ((next ≡ lazy) × (k ≡ j))
      ⊎ Answers lazy next j k (Ok tt)
      ⊎ ((next ≡ lazy) × ((other : LazyState) × Change other × Answers lazy other j k (Err Memory)))

  -- REFUSED: the journal has not kept one of these changes, for this cause
  abbrev pub IsRefused : (LazyState → Type 0) → LazyState → J → J → Cause → Type 0
  IsRefused Change lazy j k cause = (other : LazyState) × Change other × Answers lazy other j k (Err (Ended cause))

  -- an event beside the journal: a group ends by the cause for which the journal does not keep a change for it, and with no other event
  -- is a change refused by a cause
  abbrev pub IsEventBeside : {start : Database} {m next : Machine} → Event start m next → J → J → Type 0
  IsEventBeside {m = m} (ends_by_log s by) j k = IsRefused (IsUnkeptFor m s by.cause) m.lazy j k by.cause
  IsEventBeside {m = m} {next = next} other j k = IsBeside (IsChangeOf m) m.lazy next.lazy j k

  -- KEEPS: events one after the other, each beside the journal, and moves between them that it has not kept
  pub data Keeps (start : Database) (m : Machine) (j : J) : Machine → J → Type 0 where
    nothing_yet : Keeps start m j m j
    one_beside : {now next : Machine} {k l : J} → Keeps start m j now k → (event : Event start now next) → IsEventBeside event k l → Keeps start m j next l
    -- or the journal has not kept a move, for a cause, by which no group ends: the machine stays
    unkept_move : {now : Machine} {k l : J} → Keeps start m j now k → (cause : Cause) → IsRefused (IsUnkeptMove now.lazy cause) now.lazy k l cause → Keeps start m j now l

  -- the groups that they end by a cause of the log, in order
  abbrev pub ended_in : {start : Database} {m : Machine} {j : J} {next : Machine} {l : J} → Keeps start m j next l → List EndedGroup
  ended_in nothing_yet = []
  ended_in (one_beside before event beside) = ended_in before ++ ended_by event
  ended_in (unkept_move before cause refused) = ended_in before

  -- KEEPS, OR IS REFUSED: the events are beside the journal; a call that tells a cause, of a log that may end groups, has come behind
  -- them to a move that the journal has not kept for it
  abbrev pub KeepsOrIsRefused : Bool → Database → Machine → J → Machine → J → Result (Unit {0}) KeepError → Type 0
  KeepsOrIsRefused ends start m j next l (Err (Ended cause)) =
      (ends ≡ true) × IsTrue (is_of_log cause) × ((k : J) × Keeps start m j next k × IsRefused (IsUnkeptMove next.lazy cause) next.lazy k l cause)
  KeepsOrIsRefused ends start m j next l other = Keeps start m j next l
