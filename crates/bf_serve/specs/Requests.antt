-- A STATEMENT THAT IS MADE READY outside the lock: where its session stood, and how it is bound in the catalog of that moment.
use Rattle.std.specs.Prelude.{◌≡◌, ◌≢◌, ◌⊎◌, ℕ, ◌-◌, ◌<◌, ◌≤◌, Bool, List, [], length, Option, Some, IfSome, IsTrue, option_map, slice_get}
use Rattle.std.specs.Global.{Vec}
use Rattle.std.specs.List.{All, list_all}
use Rattle.bf_base.specs.declared.granule.Granule.{Granule}
use Rattle.bf_base.specs.Lists.{has, rises}
use Rattle.boxcar.specs.Table.{Shows, Where}
use Rattle.bf_tree.specs.Catalogs.{Catalog}
use Rattle.bf_tree.specs.declared.bound.Bound.{Bound}
use Rattle.bf_tree.specs.declared.script.Script.{Script}
use Rattle.bf_tree.specs.declared.statement.Statement.{Statement}
use Rattle.bf_tree.specs.declared.statement.Statement.TheVariants as statement
use Rattle.bf_sql.specs.Bound.{catalog_of, without_rows}
use Rattle.bf_sql.specs.Database.{IsDatabase}
use Rattle.bf_sql.specs.Footprints.{Lock, footprint_of}
use Rattle.bf_sql.specs.Groups.{session_at}
use Rattle.bf_sql.specs.migrations.Granules.{same_granule}
use Rattle.bf_sql.specs.migrations.Plans.{prepared_of}
use Rattle.bf_image.specs.Registries.{Registry}
use Rattle.bf_image.specs.declared.migration.Migration.{Migration}
use Rattle.bf_plan.specs.Limits.{KeepsPlanLimits}
use Rattle.bf_store.specs.States.{AreGranules, granule_cmp, to_move}
use Rattle.bf_store.specs.Stores.{IsOf, migration_of}
use Rattle.bf_transpose.specs.Covers.{IsCoverOf, needed_in}
use Rattle.bf_transpose.specs.declared.cover.Cover.{Cover}
use Rattle.bf_machine.specs.declared.stand.Stand.TheVariants as stand
use Rattle.bf_machine.specs.interleaving.Calls.{IsCovered, IsPlace, StandsAs}
use Rattle.bf_machine.specs.interleaving.Machines.{Machine, Open, open_at}
use Rattle.bf_machine.specs.interleaving.Serving.{is_in_block}

-- statement n of session s, both counted from 1
abbrev pub statement_at : Script → ℕ → ℕ → Option Statement
statement_at script s n = slice_get (session_at script s).statements (n - 1)

-- POSITION: statement `place` of a session is its next, in an open block or not, while these are the catalog and the last migration
pub record Position : Type 0 where
  pub session : ℕ
  pub place : ℕ
  pub in_block : Bool
  pub catalog : Where Catalog
  pub migration : Option (Where Migration)

-- the session has such a statement, which keeps the limits of the catalog, and both passes are those of the registry
pub record IsPosition (registry : Registry) (script : Script) (p : Position) : Type 0 where
  pub session : IsPlace script p.session
  pub place : 1 ≤ p.place
  pub within : p.place - 1 < length (session_at script p.session).statements
  pub shown : Shows registry.catalogs p.catalog
  pub of : IsOf registry p.migration
  pub database : IsDatabase (without_rows p.catalog.value)
  pub limits : (s : Statement) → statement_at script p.session p.place ≡ Some s → KeepsPlanLimits p.catalog.value s

-- a SELECT
abbrev pub IsSelect : Statement → Type 0
IsSelect (statement.Select list table condition) = Unit {0}
IsSelect other = ⊥

-- CANDIDATES: each granule that a statement needs which is bound at a position is among some
abbrev pub AreCandidatesOf : Option (Where Migration) → Bound → List Granule → Type 0
AreCandidatesOf migration bound granules = IsTrue (list_all (has same_granule granules) (needed_in (option_map (λ (p : Where Migration). p.value) migration) bound.action))

-- REQUEST: the statement as it is prepared at such a position, with the locks of its footprint; with what it needs of the migration, if that
-- has been looked for; and with its candidates, if its keys tell them
pub record Request : Type 0 where
  pub at : Position
  pub bound : Bound
  pub locks : List Lock
  pub cover : Option Cover
  pub candidates : Option (Vec Granule)

-- how the statement at a position is prepared
pub record IsPreparedAt (script : Script) (p : Position) (bound : Bound) : Type 0 where
  pub statement : Statement
  pub is : statement_at script p.session p.place ≡ Some statement
  pub prepared_so : prepared_of (without_rows p.catalog.value) p.in_block statement ≡ Some bound

pub record IsRequest (registry : Registry) (script : Script) (r : Request) : Type 0 where
  pub at : IsPosition registry script r.at
  pub prepared : IsPreparedAt script r.at r.bound
  pub locks : r.locks ≡ footprint_of r.bound
  pub covered : IfSome r.cover (λ c. IsCoverOf (option_map (λ (p : Where Migration). p.value) r.at.migration) r.bound c)
  pub candidates : IfSome r.candidates (λ granules. AreCandidatesOf r.at.migration r.bound granules.items)

-- PRESENT: a pass of a registry, if there is one, reads the catalog of a machine
abbrev pub IsPresentCatalog : Registry → Machine → Option (Where Catalog) → Type 0
IsPresentCatalog registry m pass = IfSome pass (λ p. Shows registry.catalogs p × (p.value ≡ catalog_of m.db))

-- STANDS AT: the machine stands where the position was taken, in the same catalog
pub record StandsAt (m : Machine) (p : Position) : Type 0 where
  pub stands : StandsAs m p.session (stand.Statement p.place)
  pub block : is_in_block m p.session ≡ p.in_block
  pub catalog : p.catalog.value ≡ catalog_of m.db

-- the open group of a session holds all locks of a request
abbrev pub HoldsAll : Machine → Request → Type 0
HoldsAll m r = All (λ lock. IsCovered m r.at.session lock.0 lock.1) r.locks

abbrev pub HoldsIfOpen : Machine → Request → Type 0
HoldsIfOpen m r = (o : Open) → open_at m r.at.session ≡ Some o → HoldsAll m r

-- READY: the machine stands at the request, with the same last migration, and where a group is open it holds the locks
pub record IsReady (m : Machine) (r : Request) : Type 0 where
  pub stands : StandsAt m r.at
  pub migration : option_map (λ (p : Where Migration). p.value) r.at.migration ≡ option_map (λ (p : Where Migration). p.value) m.pass
  pub held : HoldsIfOpen m r

-- nothing that it needs is left to move
abbrev pub NeedsNothing : Machine → Request → Type 0
NeedsNothing m r = to_move m.lazy.last (needed_in (option_map (λ (p : Where Migration). p.value) r.at.migration) r.bound.action) ≡ []

-- its cover, or where it needs nothing that is left to move no granule
abbrev pub IsCoverAt : Machine → Request → Cover → Type 0
IsCoverAt m r cover = (r.cover ≡ Some cover) ⊎ (NeedsNothing m r × (cover.granules.items ≡ []))

-- NEEDED: granules of the last migration at the request's position, in the order of unit and place, at least one
abbrev pub AreNeededOf : Request → List Granule → Type 0
AreNeededOf r granules =
    IfSome r.at.migration (λ pass. AreGranules (migration_of pass.value []) granules × IsTrue (rises granule_cmp granules)) × (granules ≢ [])
