-- What is true of a lazy state, and of the writes of a transaction that is open over it.
use Rattle.std.specs.Prelude.{◌≡◌, ◌==◌, ℕ, Bool, true, not, List, [], map, Option, Some, None, IsTrue}
use Rattle.std.specs.List.{list_all, count_by, AllByRecursion}
use Rattle.std.specs.Option.{option_map}
use Rattle.std.specs.Ordering.{nat_cmp, on, then_cmp}
use Rattle.std.specs.declared.cmp.Ordering.{Ordering}
use Rattle.std.specs.declared.cmp.Ordering.TheVariants.{Less, Greater}
use Rattle.bf_base.specs.declared.granule.Granule.{Granule}
use Rattle.bf_base.specs.declared.granule.Place.{Place}
use Rattle.bf_base.specs.declared.granule.Place.TheVariants.{Row, Group}
use Rattle.bf_base.specs.declared.table.Table.{Table}
use Rattle.bf_base.specs.declared.value.Value.{Value}
use Rattle.bf_base.specs.Lists.{same_key, has, in_order}
use Rattle.bf_base.specs.Values.{key_cmp}
use Rattle.bf_base.specs.Tables.{key_of}
use Rattle.bf_base.proofs.Apart.{are_apart}
use Rattle.bf_tree.specs.declared.bound.Action.{Action}
use Rattle.bf_tree.specs.declared.migration.Migrate.{Migrate}
use Rattle.bf_txn.specs.declared.write.Write.{Write}
use Rattle.bf_sql.specs.Database.{Database, IsDatabase}
use Rattle.bf_sql.specs.migrations.Granules.{granules_of, same_granule}
use Rattle.bf_sql.specs.migrations.Lazy.{Migration, LazyState, due, is_done, not_done, view_of, IsValid, begun, flipped_lazily, moved}
use Rattle.bf_sql.specs.migrations.Need.{needed_for}
use Rattle.bf_sql.specs.migrations.Targets.{target_table}
use Rattle.bf_image.specs.Lawful.{IsLawful}
use Rattle.bf_image.specs.Sources.{frozen_of, table_under}
use Rattle.bf_live.specs.Live.{committed}
use Rattle.bf_live.specs.Open.{IsOpen}

-- granules by unit, then by place: rows by position, before values in their order
abbrev pub place_cmp : Place → Place → Ordering
place_cmp (Row m) (Row n) = nat_cmp m n
place_cmp (Row m) (Group w) = Less
place_cmp (Group v) (Row n) = Greater
place_cmp (Group v) (Group w) = key_cmp v w

-- the most places of one record of moves
abbrev pub most_moved : ℕ
most_moved = 64

abbrev pub granule_cmp : Granule → Granule → Ordering
granule_cmp = then_cmp (on (λ g. g.unit) nat_cmp) (on (λ g. g.place) place_cmp)

-- the granules that have moved
abbrev pub granules_done : Migration → List Granule
granules_done last = map (λ d. d.granule) last.done

-- UNDER WAY: a lawful migration whose targets are live tables as it made them, and of which granules have moved, each once
pub record IsUnderWay (live : Database) (last : Migration) : Type 0 where
  pub lawful : IsLawful last.old last.migrate
  pub targets : AllByRecursion (λ t. table_under live t.name ≡ Some (target_table last.old t)) last.migrate.targets
  pub granules : IsTrue (list_all (has same_granule (granules_of last.old last.migrate)) (granules_done last))
  pub once : IsTrue (are_apart same_granule (granules_done last))

-- COMPLETE: each granule of the migration has moved exactly once
abbrev pub IsComplete : Migration → Type 0
IsComplete last = IsTrue (list_all (λ g. count_by (same_granule g) (granules_done last) == 1) (granules_of last.old last.migrate))

abbrev pub IsUnderWayIfAny : Database → Option Migration → Type 0
IsUnderWayIfAny live None = Unit {0}
IsUnderWayIfAny live (Some last) = IsUnderWay live last

-- what is true of each lazy state
pub record IsLazy (lazy : LazyState) : Type 0 where
  pub live : IsDatabase lazy.live
  pub last : IsUnderWayIfAny lazy.live lazy.last
  pub valid : IsValid lazy

-- a lazy state with a database as its view
pub record IsSeenAs (db : Database) (lazy : LazyState) : Type 0 where
  pub lazy_state : IsLazy lazy
  pub view : view_of lazy ≡ db

-- each granule of a list has moved, where there is a migration
abbrev pub HaveMoved : Option Migration → (Migration → List Granule) → Type 0
HaveMoved None granules = Unit {0}
HaveMoved (Some last) granules = IsTrue (list_all (is_done last) (granules last))

-- a key whose row is not to come: it has no owner, or its owner has moved
abbrev pub is_free : Option Migration → Table → List Value → Bool
is_free last table key = not (has same_key (map (key_of table) (due last table.name)) key)

-- FREE: the writes to a table are to free keys
abbrev pub AreFree : Option Migration → List Write → Table → Type 0
AreFree last writes table = AllByRecursion (λ w. w.table ≡ table.name → is_free last table w.key ≡ true) writes

-- the lazy state with the writes of a transaction in its live tables
abbrev pub under : LazyState → List Write → LazyState
under lazy writes = record lazy { live = committed lazy.live writes }

-- OPEN: a transaction is open over the live tables, and each key that it has written is free
pub record IsOpenLazily (lazy : LazyState) (writes : List Write) : Type 0 where
  pub over_live : IsOpen lazy.live writes
  pub free : AllByRecursion (λ s. AreFree lazy.last writes s.table) lazy.live.tables

-- what a record of moves may name: granules of the migration, which differ
pub record AreGranules (last : Migration) (granules : List Granule) : Type 0 where
  pub each : IsTrue (list_all (has same_granule (granules_of last.old last.migrate)) granules)
  pub apart : IsTrue (are_apart same_granule granules)

abbrev pub AreGranulesIfAny : Option Migration → List Granule → Type 0
AreGranulesIfAny None granules = Unit {0}
AreGranulesIfAny (Some last) granules = AreGranules last granules

-- QUIET: a step from one lazy state to another that nobody sees, and that leaves each open transaction open
pub record IsQuiet (before after : LazyState) : Type 0 where
  pub seen_as : IsSeenAs (view_of before) after
  pub opened : (writes : List Write) → IsOpenLazily before writes → IsOpenLazily after writes

-- those of some granules that have not moved
abbrev pub to_move : Option Migration → List Granule → List Granule
to_move None granules = []
to_move (Some last) granules = not_done last granules

-- the need of a bound action under the last migration, and that of a further MIGRATE
abbrev pub need_of : Option Migration → Action → List Granule
need_of None act = []
need_of (Some last) act = needed_for last.old last.migrate act

abbrev pub need_of_all : Option Migration → List Granule
need_of_all None = []
need_of_all (Some last) = granules_of last.old last.migrate

-- OWNER: a key has no owner, or its owner has moved
abbrev pub settled_by : Migration → Option Granule → Bool
settled_by last None = true
settled_by last (Some g) = is_done last g

-- the old tables of a MIGRATE, in the order of their names, without the number and the indexes of their database
abbrev pub set_aside : Database → Migrate → Database
set_aside db m = record { number = 0; tables = (frozen_of db m).tables; indexes = [] }

-- the flip as a store can do it: of the old database it keeps the sources' tables alone
abbrev pub frozen_lazily : LazyState → Migrate → LazyState
frozen_lazily lazy m = record (flipped_lazily lazy m) { last = Some (begun lazy.last (set_aside lazy.live m) m) }

-- ORDER OF PLACE: the numbers tell in which order granules moved, so those that have moved are kept in the order of unit and place
abbrev pub by_place : Migration → Migration
by_place last = record last { done = in_order granule_cmp (λ d. d.granule) last.done }

abbrev pub with_moved : LazyState → List Granule → LazyState
with_moved lazy granules =
    let after = moved lazy granules in
    record after { last = option_map by_place after.last }

-- the granules of the last migration that have moved
abbrev pub granules_done_if_any : Option Migration → List Granule
granules_done_if_any None = []
granules_done_if_any (Some last) = granules_done last
