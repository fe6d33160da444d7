-- What has moved of a machine's last migration, by its pass; and granules of the migration of a seat.
use Rattle.std.proofs.Common.{◌≡◌, ◌≢◌, ℕ, ◌≤◌, ◌==◌, false, List, [], ◌∷◌, length, Option, Some, None, refl, sym, subst, arith}
use Rattle.std.specs.Option.{option_map}
use Rattle.std.proofs.lemmas.Bool.Decides.{nat_tests}
use Rattle.std.proofs.lemmas.Option.{none-some, same_Some}
use Rattle.boxcar.specs.Table.{Where}
use Rattle.bf_base.specs.declared.granule.Granule.{Granule}
use Rattle.bf_image.specs.declared.migration.Migration.{Migration as Kept}
use Rattle.bf_sql.specs.Database.{Database}
use Rattle.bf_sql.specs.migrations.Lazy.{Migration}
use Rattle.bf_store.specs.States.{AreGranules, IsUnderWayIfAny, granules_done_if_any}
use Rattle.bf_store.specs.Stores.{IsByPass, migration_of}
use Rattle.bf_trackers.specs.Migrations.{IsGranuleOf}
use Rattle.bf_trackers.proofs.Rising.{granule_at}
use Rattle.bf_serve.specs.Seats.{AreOfSeat, IsSeatOf, Seat}

-- what has moved are granules of the pass's migration
pub done_by_pass : (live : Database) (last : Option Migration) (pass : Option (Where Kept)) (m : Kept) → IsUnderWayIfAny live last → IsByPass last pass
    → option_map (λ (p : Where Kept). p.value) pass ≡ Some m → AreGranules (migration_of m []) (granules_done_if_any last)
done_by_pass live last None m way by is = absurd (none-some m is)
done_by_pass live None (Some p) m way by is = absurd by
done_by_pass live (Some last) (Some p) m way by is =
    let own : AreGranules last (granules_done_if_any (Some last)) = record { each = way.granules; apart = way.once } in
    let passed : AreGranules (migration_of p.value last.done) (granules_done_if_any (Some last)) = subst (λ (l : Migration). AreGranules l (granules_done_if_any (Some last))) by own in
    subst (λ (k : Kept). AreGranules (migration_of k []) (granules_done_if_any (Some last))) (same_Some p.value m is) (record { each = passed.each; apart = passed.apart })

-- granules of the migration of a seat
pub of_seat : (seat : Option Seat) (m : Kept) (granules : List Granule) → IsSeatOf seat m → AreGranules (migration_of m []) granules → AreOfSeat seat granules
of_seat None m granules is are = absurd is
of_seat (Some seat) m granules is are = λ i g at. subst (λ (k : Kept). IsGranuleOf k g) (sym is) (granule_at m granules are i g at)

pub some_if_any : (granules : List Granule) → granules ≢ [] → 1 ≤ length granules
some_if_any [] any = absurd (any refl)
some_if_any (g ∷ granules) any = omega arith

pub some_there : (granules : List Granule) (len : ℕ) → (len == 0) ≡ false → length granules ≡ len → 1 ≤ length granules
some_there granules len not same = grind (arith, nat_tests)
