-- A flip that of the old tables keeps the sources alone.
use Rattle.std.proofs.Common.{◌≡◌, true, List, [], ◌∷◌, refl}
use Rattle.std.specs.List.{list_all, AllByRecursion}
use Rattle.std.proofs.lemmas.Bool.{and_parts}
use Rattle.bf_tree.specs.declared.migration.Migrate.{Migrate}
use Rattle.bf_tree.specs.declared.migration.Target.{Target}
use Rattle.bf_sql.specs.Database.{Database}
use Rattle.bf_sql.specs.migrations.Images.{flipped}
use Rattle.bf_sql.specs.migrations.Lazy.{LazyState, pending_of, view_of}
use Rattle.bf_sql.specs.migrations.MigrationObjections.{sources_of}
use Rattle.bf_image.specs.Lawful.{IsLawful}
use Rattle.bf_image.proofs.items.Lists.{none_left, none_right}
use Rattle.bf_image.proofs.keeping.Frozen.{frozen_same, frozen_lawful}
use Rattle.bf_image.proofs.keeping.SameTables.{is_inside, target_table_same}
use Rattle.bf_image.proofs.keeping.Sources.{arms_inside_sources, tables_same, images_same}
use Rattle.bf_store.specs.Calls.{MayFlip}
use Rattle.bf_store.specs.States.{IsLazy, IsSeenAs, frozen_lazily, set_aside}
use Rattle.bf_store.proofs.changing.Flipping.{IsSameTarget, flips_keeping}

-- the old tables set aside are a database, over which the migration is lawful
pub aside_lawful : (db : Database) (m : Migrate) → IsLawful db m → IsLawful (set_aside db m) m
aside_lawful db m lawful =
    let kept = frozen_lawful db m lawful in
    record {
      database = record {
        tables_by_name = kept.database.tables_by_name;
        indexes_by_name = refl;
        rows_by_key = kept.database.rows_by_key;
        rows_admitted = kept.database.rows_admitted;
        keys_within = kept.database.keys_within;
        indexes_on_tables = refl;
      };
      unobjected = kept.unobjected;
      few = kept.few;
    }

-- each target is the same table over the sources, with the same image
same_kept : (db : Database) (m : Migrate) → AllByRecursion (IsSameTarget (set_aside db m) db) m.targets
same_kept db m = each m.targets (arms_inside_sources m)
  where
    each : (ts : List Target) → list_all (λ t. list_all (is_inside (sources_of m)) t.arms) ts ≡ true
        → AllByRecursion (IsSameTarget (set_aside db m) db) ts
    each [] all = tt
    each (t ∷ ts) all =
        let inside = (and_parts _ _ all).0 in
        let tables = tables_same (set_aside db m) db (sources_of m) (frozen_same db m) in
        let here : IsSameTarget (set_aside db m) db t = record {
          table = target_table_same (set_aside db m) db (sources_of m) tables t inside;
          image = images_same (set_aside db m) db (sources_of m) (frozen_same db m) t.arms inside;
        } in
        (here, each ts (and_parts _ _ all).1)

-- what may flip is lawful
pub flip_lawful : (lazy : LazyState) (m : Migrate) → IsLazy lazy → MayFlip lazy m → IsLawful lazy.live m
flip_lawful lazy m is may = record { database = is.live; unobjected = none_left _ _ may.unrefused; few = none_right _ _ may.unrefused }

pub flips_frozen : (lazy : LazyState) (m : Migrate) → IsLazy lazy → pending_of lazy.last ≡ [] → IsLawful lazy.live m
    → IsSeenAs (flipped (view_of lazy) m) (frozen_lazily lazy m)
flips_frozen lazy m is none lawful = flips_keeping lazy m (set_aside lazy.live m) is none lawful.unobjected (aside_lawful lazy.live m lawful) (same_kept lazy.live m)
