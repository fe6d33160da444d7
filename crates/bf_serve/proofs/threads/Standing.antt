-- Where a session stands: its statement keeps the limits of the catalog at that moment.
use Rattle.std.proofs.Common.{◌≡◌, ℕ, zero, suc, ◌+◌, ◌-◌, ◌<◌, arith, Bool, List, [], ◌∷◌, length, Option, Some, refl, sym, subst, ◌∙◌}
use Rattle.std.specs.Prelude.{slice_get}
use Rattle.std.specs.List.{slice_index_or}
use Rattle.std.proofs.lemmas.Option.{same_Some}
use Rattle.boxcar.specs.Table.{Shows, Where}
use Rattle.bf_tree.specs.Catalogs.{Catalog}
use Rattle.bf_tree.specs.Limits.{KeepsLimits}
use Rattle.bf_tree.specs.declared.script.Script.{Script}
use Rattle.bf_tree.specs.declared.statement.Statement.{Statement}
use Rattle.bf_sql.specs.Bound.{catalog_of, without_rows}
use Rattle.bf_sql.specs.Database.{Database, IsDatabase}
use Rattle.bf_sql.specs.Groups.{session_at}
use Rattle.bf_live.proofs.statements.Bare.{bare_is_database}
use Rattle.bf_image.specs.Registries.{Registry}
use Rattle.bf_image.specs.declared.migration.Migration.{Migration}
use Rattle.bf_store.specs.Stores.{IsOf}
use Rattle.bf_machine.specs.declared.stand.Stand.TheVariants as stand
use Rattle.bf_machine.specs.interleaving.Calls.{IsPlace, StandsAs}
use Rattle.bf_machine.specs.interleaving.Kept.{IsKept}
use Rattle.bf_machine.specs.interleaving.Machines.{Machine}
use Rattle.bf_machine.proofs.served.Binding.{next_limits, next_migrates, next_within}
use Rattle.bf_plan.specs.Limits.{KeepsPlanLimits}
use Rattle.bf_tree.specs.declared.statement.Statement.TheVariants as statement
use Rattle.bf_serve.specs.Requests.{IsPosition, IsSelect, Position, statement_at}
use Rattle.bf_serve.proofs.threads.Asking.{read_at}

module _ {start : Database} (registry : Registry) (script : Script) (m : Machine) (same : m.script ≡ script) (kept : IsKept start m) (s n : ℕ) (place : IsPlace script s) (at : StandsAs m s (stand.Statement n)) (database : IsDatabase m.db)
    (in_block : Bool) (catalog : Where Catalog) (migration : Option (Where Migration)) (shown : Shows registry.catalogs catalog) (present : catalog.value ≡ catalog_of m.db) (of : IsOf registry migration) where
  own_place : IsPlace m.script s
  own_place = subst (λ (sc : Script). IsPlace sc s) (sym same) place

  abbrev position : Position
  position = record { session = s; place = n; in_block = in_block; catalog = catalog; migration = migration }

  in_own : IsPosition registry m.script position
  in_own =
      let within = next_within m kept s n own_place at in
      record {
        session = own_place;
        place = within.0;
        within = within.1;
        shown = shown;
        of = of;
        database = subst (λ (c : Catalog). IsDatabase (without_rows c)) (sym present) (bare_is_database m.db database);
        limits = λ st is.
            let here : slice_index_or (session_at m.script s).statements (n - 1) st ≡ st = read_at (session_at m.script s).statements (n - 1) st is in
            record {
              bound = subst (λ (c : Catalog). KeepsLimits c st) (sym present) (next_limits m kept s n own_place at st here);
              planned = next_migrates m kept s n own_place at st here;
            };
      }

  pub is_position : IsPosition registry script (record { session = s; place = n; in_block = in_block; catalog = catalog; migration = migration })
  is_position = subst (λ (sc : Script). IsPosition registry sc position) same in_own

some_at : {X : Type 0} (xs : List X) (i : ℕ) → i < length xs → (x : X) × (slice_get xs i ≡ Some x)
some_at [] i within = absurd (omega (arith, within))
some_at (x ∷ xs) zero within = (x, refl)
some_at (x ∷ xs) (suc i) within = some_at xs i (omega (arith, within))

-- behind a position the next one is so too where a SELECT stands there
module _ (registry : Registry) (script : Script) (p : Position) (is : IsPosition registry script p) (n : ℕ) (next : n ≡ p.place + 1)
    (within : p.place < length (session_at script p.session).statements) (there : Statement) (found : statement_at script p.session n ≡ Some there) (select : IsSelect there) where
  select_limits : (s : Statement) → IsSelect s → KeepsPlanLimits p.catalog.value s
  select_limits (statement.Select list table condition) select =
      let here = some_at (session_at script p.session).statements (p.place - 1) is.within in
      record { bound = record { tables = (is.limits here.0 here.1).bound.tables; declared = omega (arith) }; planned = tt }
  select_limits other select = absurd select

  pub behind_position : IsPosition registry script (record { session = p.session; place = n; in_block = p.in_block; catalog = p.catalog; migration = p.migration })
  behind_position = record {
    session = is.session;
    place = omega (arith, next);
    within = omega (arith, next, within);
    shown = is.shown;
    of = is.of;
    database = is.database;
    limits = λ s at. subst (KeepsPlanLimits p.catalog.value) (same_Some there s (sym found ∙ at)) (select_limits there select);
  }
