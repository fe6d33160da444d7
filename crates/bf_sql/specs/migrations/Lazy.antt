-- The state of an engine that moves granules late, and the whole database that it stands for.
use Rattle.std.specs.Prelude.{ℕ, ◌+◌, Bool, not, List, [], ◌∷◌, ◌++◌, map, flat_map, filter, find, length, Option, None, Some, IsTrue}
use Rattle.std.specs.List.{list_all, enumerate_from}
use Rattle.bf_base.specs.declared.value.Value.{Value}
use Rattle.bf_base.specs.declared.granule.Granule.{Granule}
use Rattle.bf_base.specs.declared.table.Table.{Table}
use Rattle.bf_base.specs.Values.{key_cmp}
use Rattle.bf_base.specs.Lists.{same_key, has, with_placed}
use Rattle.bf_base.specs.Tables.{key_of}
use Rattle.bf_tree.specs.declared.migration.Migrate.{Migrate}
use Rattle.bf_tree.specs.declared.history.Sweep.{Sweep}
use Rattle.bf_tree.specs.declared.history.Sweep.TheVariants.{Never, Complete, Running}
use Rattle.bf_sql.specs.Database.{Database, Stored}
use Rattle.bf_sql.specs.migrations.Targets.{target_table}
use Rattle.bf_sql.specs.migrations.Images.{replaced}
use Rattle.bf_sql.specs.migrations.Granules.{units_of, anchors_of, granule, granules_of, part_in, same_granule}

-- a granule that has moved, and the number of the record that moved it
pub record DoneGranule : Type 0 where
  pub granule : Granule
  pub number : ℕ

-- a migration: its number from 1 on, the database at its flip, its statement, and the granules that have moved
pub record Migration : Type 0 where
  pub number : ℕ
  pub old : Database
  pub migrate : Migrate
  pub done : List DoneGranule

-- LAZY STATE: the live tables as they are kept, the last migration, and how many records its log has
pub record LazyState : Type 0 where
  pub live : Database
  pub last : Option Migration
  pub records : ℕ

abbrev pub is_done : Migration → Granule → Bool
is_done last g = has same_granule (map (λ d. d.granule) last.done) g

-- those of some granules that have not moved
abbrev pub not_done : Migration → List Granule → List Granule
not_done last granules = filter (λ g. not (is_done last g)) granules

-- the granules of a migration that have not moved
abbrev pub pending : Migration → List Granule
pending last = not_done last (granules_of last.old last.migrate)

-- the rows that the table of a name has of some granules
abbrev pub rows_from : Option Migration → List Granule → List ℕ → List (List Value)
rows_from None granules name = []
rows_from (Some last) granules name = flat_map (part_in last.old last.migrate name) granules

abbrev pub pending_of : Option Migration → List Granule
pending_of None = []
pending_of (Some last) = pending last

-- the rows of a table that have not moved into it
abbrev pub due : Option Migration → List ℕ → List (List Value)
due last name = rows_from last (pending_of last) name

-- a row whose owner has not moved
abbrev pub is_early : Option Migration → Table → List Value → Bool
is_early last table row = has same_key (map (key_of table) (due last table.name)) (key_of table row)

-- a table as it is seen: the kept rows whose owners have moved, and those that are due, each in its place
abbrev pub seen : Option Migration → Stored → Stored
seen last s = record s { rows = with_placed key_cmp (key_of s.table) (filter (λ row. not (is_early last s.table row)) s.rows) (due last s.table.name) }

-- VIEW: the live tables as they are seen
abbrev pub view_of : LazyState → Database
view_of lazy = record lazy.live { tables = map (seen lazy.last) lazy.live.tables }

-- VALID: no row is kept before its owner has moved
abbrev pub is_on_time : Option Migration → Stored → Bool
is_on_time last s = list_all (λ row. not (is_early last s.table row)) s.rows

abbrev pub IsValid : LazyState → Type 0
IsValid lazy = IsTrue (list_all (is_on_time lazy.last) lazy.live.tables)

-- a table with its rows of some granules, each in its place
abbrev pub with_rows_of : Migration → List Granule → Stored → Stored
with_rows_of last granules s = record s { rows = with_placed key_cmp (key_of s.table) s.rows (rows_from (Some last) granules s.table.name) }

abbrev pub done_by : ℕ → Granule → DoneGranule
done_by number g = record { granule = g; number = number }

-- a record of moves, where it moves any granule
abbrev pub with_record_of_moves : LazyState → Migration → List Granule → LazyState
with_record_of_moves lazy last [] = lazy
with_record_of_moves lazy last (g ∷ gs) = record {
  live = record lazy.live { tables = map (with_rows_of last (g ∷ gs)) lazy.live.tables };
  last = Some (record last { done = last.done ++ map (done_by (lazy.records + 1)) (g ∷ gs) });
  records = lazy.records + 1;
}

abbrev pub moved_in : LazyState → Option Migration → List Granule → LazyState
moved_in lazy None granules = lazy
moved_in lazy (Some last) granules = with_record_of_moves lazy last (not_done last granules)

-- MOVE: the rows of different granules come into the live tables, and these granules are done, by one record; those that
-- were done before are left alone
abbrev pub moved : LazyState → List Granule → LazyState
moved lazy granules = moved_in lazy lazy.last granules

-- how many migrations there were
abbrev pub migrations_so_far : Option Migration → ℕ
migrations_so_far None = 0
migrations_so_far (Some last) = last.number

-- a migration begins: the database at its flip is kept, and nothing has moved
abbrev pub begun : Option Migration → Database → Migrate → Migration
begun last db m = record { number = migrations_so_far last + 1; old = db; migrate = m; done = [] }

-- the flip as it is done, by one record: the sources are set aside, and the targets are empty
abbrev pub flipped_lazily : LazyState → Migrate → LazyState
flipped_lazily lazy m = record {
  live = replaced lazy.live m (map (λ t. record { table = target_table lazy.live t; rows = [] }) m.targets);
  last = Some (begun lazy.last lazy.live m);
  records = lazy.records + 1;
}

-- the granule of each anchor of a migration, with the anchor's place in its unit
abbrev pub anchored : Migration → List (Granule × ℕ)
anchored last = flat_map (λ u. map (λ a. (granule u.0 a.1, a.0)) (enumerate_from 0 (anchors_of last.old u.1))) (enumerate_from 0 (units_of last.old last.migrate))

abbrev pub sweep_by : Migration → Option (Granule × ℕ) → Sweep
sweep_by last None = Complete last.number (length last.done)
sweep_by last (Some next) = Running last.number (length last.done) (next.0).unit next.1

-- SWEEP: how many granules have moved, and the first anchor whose granule has not
abbrev pub sweep_of : Option Migration → Sweep
sweep_of None = Never
sweep_of (Some last) = sweep_by last (find (λ a. not (is_done last a.0)) (anchored last))
