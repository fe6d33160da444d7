-- What the calls of a store do to the lazy state that it is seen as: `lazy` before a call, `after` after it.
use Rattle.std.specs.Prelude.{◌≡◌, ℕ, ◌+◌, Bool, ◌&&◌, ◌||◌, List, [], ◌++◌, map, filter, filter_map, find, Option, Some, None, is_some, option_map, false, if◌then◌else◌, IsTrue}
use Rattle.std.specs.List.{list_all, list_any}
use Rattle.bf_base.specs.declared.granule.Granule.{Granule}
use Rattle.bf_base.specs.declared.value.Value.{Value}
use Rattle.bf_base.specs.Lists.{has, same_key}
use Rattle.bf_base.specs.Tables.{key_of}
use Rattle.bf_tree.specs.declared.bound.Bound.{Bound}
use Rattle.bf_tree.specs.declared.history.Sweep.{Sweep}
use Rattle.bf_tree.specs.declared.migration.Migrate.{Migrate}
use Rattle.bf_tree.specs.declared.statement.Statement.TheVariants as statement
use Rattle.bf_txn.specs.declared.write.Write.{Write}
use Rattle.bf_sql.specs.Database.{Database, stored_at, table_at, table_rows}
use Rattle.bf_sql.specs.Objections.{objections}
use Rattle.bf_sql.specs.RowObjections.{row_objections}
use Rattle.bf_sql.specs.migrations.Granules.{same_granule}
use Rattle.bf_sql.specs.migrations.Lazy.{Migration, LazyState, migrations_so_far, pending_of, view_of, sweep_of}
use Rattle.bf_live.specs.Live.{committed}
use Rattle.bf_store.specs.declared.moved.Moved.{Moved}
use Rattle.bf_store.specs.declared.moved.Receipt.{Receipt}
use Rattle.bf_store.specs.States.{IsOpenLazily, frozen_lazily, need_of, to_move, with_moved}

-- COVER: exactly what a bound statement needs, in order of unit and place: all granules for a MIGRATE, none where there is
-- no migration
abbrev pub cover_of : Option Migration → Bound → List Granule
cover_of last bound = need_of last bound.action

-- NEED: those of a cover that have not moved
abbrev pub IsNeedOf : LazyState → List Granule → List Granule → Type 0
IsNeedOf lazy cover answer = answer ≡ to_move lazy.last cover

-- the number of the record that moved a granule, if it has moved
abbrev pub moved_by : Option Migration → Granule → Option ℕ
moved_by None g = None
moved_by (Some last) g = option_map (λ d. d.number) (find (λ d. same_granule d.granule g) last.done)

-- what is told of a granule that has moved now
abbrev pub receipt_of : LazyState → Granule → Receipt
receipt_of lazy g = record { migration = migrations_so_far lazy.last; granule = g; number = lazy.records + 1 }

-- MOVE, of granules of the migration that differ: by one record those that have not moved, each told with the number of that
-- record, and those that had moved before with the number of theirs
pub record IsMoveOf (lazy after : LazyState) (granules : List Granule) (told : Moved) : Type 0 where
  pub state : after ≡ with_moved lazy granules
  pub fresh : told.fresh.items ≡ map (receipt_of lazy) (to_move lazy.last granules)
  pub already : told.already.items ≡ filter_map (λ g. option_map (λ n. (g, n)) (moved_by lazy.last g)) granules

-- FLIP: a caller sees that nothing is pending, and that neither the catalog nor the rows have anything against the MIGRATE
pub record MayFlip (lazy : LazyState) (m : Migrate) : Type 0 where
  pub complete : pending_of lazy.last ≡ []
  pub unrefused : objections lazy.live false (statement.Migrate m) ++ row_objections lazy.live (statement.Migrate m) ≡ []

-- then no granule has moved, and of the old tables the sources alone are kept
pub record IsFlipOf (lazy after : LazyState) (m : Migrate) (number : ℕ) : Type 0 where
  pub state : after ≡ frozen_lazily lazy m
  pub numbered : number ≡ migrations_so_far lazy.last + 1

-- COMMIT: the writes of an open transaction, to tables that stand, and no removal of a row that is not seen
pub record IsLegalCommit (lazy : LazyState) (writes : List Write) : Type 0 where
  pub opened : IsOpenLazily lazy writes
  pub tables : IsTrue (list_all (λ w. is_some (stored_at lazy.live w.table)) writes)
  pub removals : IsTrue (list_all (λ w. is_some w.row || has same_key (map (key_of (table_at lazy.live w.table)) (table_rows (view_of lazy) w.table)) w.key) writes)

-- then they are in the live tables, by one record
abbrev pub with_commit : LazyState → List Write → LazyState
with_commit lazy writes = record lazy { live = committed lazy.live writes; records = lazy.records + 1 }

pub record IsCommitOf (lazy after : LazyState) (writes : List Write) (number : ℕ) : Type 0 where
  pub state : after ≡ with_commit lazy writes
  pub numbered : number ≡ lazy.records + 1

-- whether the table of a write has a row of its key
abbrev pub stands_in : Database → Write → Bool
stands_in db w = has same_key (map (key_of (table_at db w.table)) (table_rows db w.table)) w.key

-- TOLD: of the writes of an open transaction a record of their commit tells those that put a row into a live table, and those
-- that remove one that stands there
abbrev pub is_told : Database → Write → Bool
is_told live w = (is_some (stored_at live w.table) && is_some w.row) || stands_in live w

abbrev pub told_of : LazyState → List Write → List Write
told_of lazy writes = filter (is_told lazy.live) writes

-- whether it tells anything
abbrev pub tells : LazyState → List Write → Bool
tells lazy writes = list_any (is_told lazy.live) writes

-- so a commit is by one record where that tells anything, and else leaves all as it is
abbrev pub after_commit : LazyState → List Write → LazyState
after_commit lazy writes = if tells lazy writes then with_commit lazy writes else lazy

-- VIEW: the rows of the table of a name as they are seen; nothing moves
abbrev pub IsViewOf : LazyState → List ℕ → Option (List (List Value)) → Type 0
IsViewOf lazy name rows = rows ≡ option_map (λ s. s.rows) (stored_at (view_of lazy) name)

-- SWEEP: how far the last migration has come
abbrev pub IsSweepOf : LazyState → Sweep → Type 0
IsSweepOf lazy sweep = sweep ≡ sweep_of lazy.last
