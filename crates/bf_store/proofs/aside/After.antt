-- A store after a flip.
use Rattle.std.proofs.Common.{◌≡◌, ℕ, ◌+◌, Option, Some, option_map, sym, ap, subst, ◌∙◌}
use Rattle.bf_tree.specs.Limits.{HasNarrowTables, IsNarrowMigrate}
use Rattle.bf_tree.specs.declared.migration.Migrate.{Migrate}
use Rattle.bf_tree.specs.declared.plan.Plan.{Plan}
use Rattle.bf_sql.specs.Bound.{catalog_of}
use Rattle.bf_sql.specs.Database.{Database}
use Rattle.bf_sql.specs.migrations.Lazy.{LazyState, migrations_so_far}
use Rattle.bf_image.specs.Lawful.{IsLawful}
use Rattle.bf_image.specs.Registries.{Registry}
use Rattle.bf_store.specs.Calls.{IsFlipOf, MayFlip}
use Rattle.bf_store.specs.Flips.{IsBegun, emptied}
use Rattle.bf_store.specs.States.{IsLazy, frozen_lazily}
use Rattle.bf_store.specs.Stores.{IsStore, Store, last_seen, lazy_seen, seen}
use Rattle.bf_store.specs.declared.under_way.UnderWay.{UnderWay}
use Rattle.bf_store.proofs.aside.Emptied.{emptied_narrow}
use Rattle.bf_store.proofs.changing.Keeping.{flip_lawful, flips_frozen}

module _ (live : Database) (last : Option UnderWay) (records : ℕ) (is : IsStore live last records) (store : Store) (view : seen live last records ≡ store) (plan : Plan) where
  abbrev before : LazyState
  before = lazy_seen live last records

  abbrev m : Migrate
  m = plan.migrate

  same_lazy : before ≡ store.lazy
  same_lazy = ap (λ (s : Store). s.lazy) view

  may_before : MayFlip store.lazy m → MayFlip before m
  may_before may = subst (λ (lazy : LazyState). MayFlip lazy m) (sym same_lazy) may

  pub lawful_before : MayFlip store.lazy m → IsLawful live m
  lawful_before may = flip_lawful before m is.lazy_state (may_before may)

  module _ (registry : Registry) (number : ℕ) (numbered : number ≡ migrations_so_far store.lazy.last + 1) (begun : UnderWay) (begins : IsBegun live plan registry number begun)
      (after : Database) (empties : after ≡ emptied live m) (counted : ℕ) (one_more : counted ≡ records + 1) where
    numbered_before : number ≡ migrations_so_far (option_map last_seen last) + 1
    numbered_before = numbered ∙ ap (λ (lazy : LazyState). migrations_so_far lazy.last + 1) (sym same_lazy)

    -- it is as a flip that keeps the sources alone leaves it
    state : lazy_seen after (Some begun) counted ≡ frozen_lazily before m
    state i = record {
      live = empties i;
      last = Some (record {
        number = (begins.numbered ∙ numbered_before) i;
        old = begins.old i;
        migrate = (begins.planned i).migrate;
        done = begins.none_done i;
      });
      records = one_more i;
    }

    pub flips_store : IsFlipOf store.lazy (lazy_seen after (Some begun) counted) m number
    flips_store = record { state = state ∙ ap (λ (lazy : LazyState). frozen_lazily lazy m) same_lazy; numbered = numbered }

    pub keeps_store : MayFlip store.lazy m → IsNarrowMigrate m → IsStore after (Some begun) counted
    keeps_store may narrow = record {
      lazy_state = subst IsLazy (sym state) (flips_frozen before m is.lazy_state (may_before may).complete (lawful_before may)).lazy_state;
      narrow = subst (λ (db : Database). HasNarrowTables (catalog_of db)) (sym empties) (emptied_narrow live m narrow is.narrow);
      counted = begins.counted;
    }
