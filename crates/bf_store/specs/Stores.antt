-- A STORE as it is seen: the lazy state that it is, and the pass of its last migration.
use Rattle.std.specs.Prelude.{◌≡◌, ℕ, ◌<◌, ◌^◌, List, length, find, not, Option, Some, None, option_map}
use Rattle.boxcar.specs.Table.{Where, Shows}
use Rattle.bf_base.specs.declared.granule.Granule.{Granule}
use Rattle.bf_tree.specs.Limits.{HasNarrowTables}
use Rattle.bf_sql.specs.Bound.{catalog_of}
use Rattle.bf_sql.specs.Database.{Database}
use Rattle.bf_sql.specs.migrations.Lazy.{DoneGranule, LazyState, Migration, anchored, is_done}
use Rattle.bf_image.specs.Migrations.{old_of, value_indexes}
use Rattle.bf_image.specs.Registries.{Registry}
use Rattle.bf_image.specs.declared.migration.Migration.{Migration as Kept}
use Rattle.bf_image.specs.declared.value_indexes.UnitIndex.{UnitIndex}
use Rattle.bf_store.specs.States.{IsLazy}
use Rattle.bf_store.specs.declared.anchor.Anchor.{Anchor}
use Rattle.bf_store.specs.declared.under_way.UnderWay.{UnderWay}

pub record Store : Type 0 where
  pub lazy : LazyState
  pub migration : Option (Where Kept)

-- a migration that is kept, of which granules have moved
abbrev pub migration_of : Kept → List DoneGranule → Migration
migration_of m done = record { number = m.number; old = old_of m; migrate = m.plan.migrate; done = done }

abbrev pub last_seen : UnderWay → Migration
last_seen u = migration_of u.pass.value u.done

abbrev pub lazy_seen : Database → Option UnderWay → ℕ → LazyState
lazy_seen live last records = record { live = live; last = option_map last_seen last; records = records }

abbrev pub seen : Database → Option UnderWay → ℕ → Store
seen live last records = record { lazy = lazy_seen live last records; migration = option_map (λ (u : UnderWay). u.pass) last }

-- NEXT: the first anchor, of all units in turn, whose granule has not moved; none where all have
abbrev pub next_anchor : Migration → Option Anchor
next_anchor last = option_map (λ (a : Granule × ℕ). record { unit = (a.0).unit; position = a.1 }) (find (λ a. not (is_done last a.0)) (anchored last))

-- what is true of a migration under way
pub record IsCounted (u : UnderWay) : Type 0 where
  pub numbered : u.number ≡ u.pass.value.number
  pub next : u.next ≡ next_anchor (last_seen u)
  pub few : length u.done < 2 ^ 32

abbrev pub IsCountedIfAny : Option UnderWay → Type 0
IsCountedIfAny None = Unit {0}
IsCountedIfAny (Some u) = IsCounted u

-- what the type of a store keeps
pub record IsStore (live : Database) (last : Option UnderWay) (records : ℕ) : Type 0 where
  pub lazy_state : IsLazy (lazy_seen live last records)
  pub narrow : HasNarrowTables (catalog_of live)
  pub counted : IsCountedIfAny last

-- the pass of a store's migration, if there is one, is a registry's
abbrev pub IsOf : Registry → Option (Where Kept) → Type 0
IsOf registry None = Unit {0}
IsOf registry (Some pass) = Shows registry.migrations pass

-- the rows of its old tables by their values
abbrev pub AreIndexesOf : Option (Where Kept) → List (Option UnitIndex) → Type 0
AreIndexesOf None indexes = Unit {0}
AreIndexesOf (Some pass) indexes = indexes ≡ value_indexes pass.value

-- BY ITS PASS: the last migration is the one that the pass reads, and of it granules have moved
abbrev pub IsByPass : Option Migration → Option (Where Kept) → Type 0
IsByPass None None = Unit {0}
IsByPass (Some last) (Some pass) = last ≡ migration_of pass.value last.done
IsByPass last pass = ⊥
