-- What a flip does, step by step: the sources are set aside, a migration is made of them, and the live tables are exchanged.
use Rattle.std.proofs.Common.{◌≡◌, ℕ, true, List, map, sym, ap, ap₂, subst, ◌∙◌}
use Rattle.std.specs.Prelude.{Err, Ok, OnErr, Result, fold}
use Rattle.std.specs.List.{list_all}
use Rattle.bf_base.specs.declared.table.Table.{Table}
use Rattle.bf_base.specs.Lists.{has, same_name}
use Rattle.bf_tree.specs.Limits.{HasNarrowTables, IsNarrowMigrate}
use Rattle.bf_tree.specs.declared.plan.Plan.{Plan}
use Rattle.bf_sql.specs.Bound.{catalog_of}
use Rattle.bf_sql.specs.Database.{Database}
use Rattle.bf_sql.specs.migrations.Plans.{plan_made}
use Rattle.bf_image.specs.Lawful.{IsLawful}
use Rattle.bf_image.specs.Migrations.{IsLawfulMigration, old_of}
use Rattle.bf_image.specs.declared.migration.Frozen.{Frozen}
use Rattle.bf_live.specs.Aside.{set_aside as without_rows_of}
use Rattle.bf_live.specs.Drafts.{AreNamedApart, CanExchange, IsExchangeOf, Prepared, tables_after}
use Rattle.bf_live.specs.Live.{TableRows, exchanged, stored}
use Rattle.bf_store.specs.Flips.{AreTablesOf, MayComeBack, emptied, frozen_in, names_in, tables_of, with_back}
use Rattle.bf_store.specs.States.{set_aside}
use Rattle.bf_store.proofs.aside.Back.{all_are_back, may_be_back}
use Rattle.bf_store.proofs.aside.Emptied.{bare, can_exchange, exchange_apart, exchanged_aside, names_among, prepared_aside}
use Rattle.bf_store.proofs.aside.Sources.{are_tables, lawful_migration, old_is, under_way}

pub on_err : {A E : Type 0} (r : Result A E) (P : Type 0) → P → OnErr r P
on_err (Ok x) P p = tt
on_err (Err e) P p = p

-- what is begun with
pub record CanFlip (db : Database) (plan : Plan) : Type 0 where
  pub lawful : IsLawful db plan.migrate
  pub planned : plan ≡ plan_made db plan.migrate
  pub narrow : IsNarrowMigrate plan.migrate
  pub tables : HasNarrowTables (catalog_of db)

module _ (db : Database) (plan : Plan) (can : CanFlip db plan) (sources : List (List ℕ)) (theirs : sources ≡ plan.sources) where
  pub apart : (new : List TableRows) → new ≡ bare plan.tables → AreNamedApart (tables_after (catalog_of db) sources new)
  apart new is =
      subst (λ (new : List TableRows). AreNamedApart (tables_after (catalog_of db) sources new)) (sym is)
      (subst (λ (names : List (List ℕ)). AreNamedApart (tables_after (catalog_of db) names (bare plan.tables))) (sym theirs) (exchange_apart db plan can.lawful can.planned))

  module _ (ts : List Table) (named : ts ≡ tables_of db sources) where
    ts_are : ts ≡ tables_of db plan.sources
    ts_are = named ∙ ap (tables_of db) theirs

    pub are : AreTablesOf db ts
    are = subst (AreTablesOf db) (sym ts_are) (are_tables db can.lawful.database plan.sources)

    among : list_all (has same_name plan.sources) (names_in ts) ≡ true
    among = ap (λ (ts : List Table). list_all (has same_name plan.sources) (names_in ts)) ts_are ∙ names_among plan.sources db

    -- the migration
    module _ (number : ℕ) (copy : Plan) (copied : copy ≡ plan) (frozen : List Frozen) (them : frozen ≡ map (frozen_in db) ts) where
      made : record { number = number; plan = copy; frozen = frozen } ≡ under_way db plan number can.lawful can.planned can.narrow can.tables
      made i = record { number = number; plan = copied i; frozen = (them ∙ ap (map (frozen_in db)) ts_are) i }

      pub is_lawful : IsLawfulMigration (record { number = number; plan = copy; frozen = frozen })
      is_lawful = subst IsLawfulMigration (sym made) (lawful_migration db plan number can.lawful can.planned can.narrow can.tables)

      pub keeps_sources : old_of (record { number = number; plan = copy; frozen = frozen }) ≡ set_aside db plan.migrate
      keeps_sources = ap old_of made ∙ old_is db plan number can.lawful can.planned can.narrow can.tables

    -- the rows are aside
    module _ (live : Database) (aside : live ≡ without_rows_of (names_in ts) db) where
      module _ (frozen : List Frozen) (them : frozen ≡ map (frozen_in db) ts) where
        pub can_be_back : MayComeBack live frozen
        can_be_back = may_be_back db can.lawful.database ts are live frozen aside them

        pub is_back : fold with_back live frozen ≡ db
        is_back = all_are_back db can.lawful.database ts are live frozen aside them

      -- the exchange
      module _ (exchange : Prepared) (new : List TableRows) (is : new ≡ bare plan.tables) (prepared : IsExchangeOf (catalog_of db) sources new exchange) where
        prepared_so : IsExchangeOf (catalog_of db) plan.sources (bare plan.tables) exchange
        prepared_so =
            subst (λ (names : List (List ℕ)). IsExchangeOf (catalog_of db) names (bare plan.tables) exchange) theirs
            (subst (λ (new : List TableRows). IsExchangeOf (catalog_of db) sources new exchange) is prepared)

        pub may_exchange : CanExchange live sources exchange
        may_exchange =
            subst (λ (names : List (List ℕ)). CanExchange live names exchange) (sym theirs)
            (subst (λ (db' : Database). CanExchange db' plan.sources exchange) (sym aside) (can_exchange db plan can.lawful can.planned exchange prepared_so (names_in ts) among))

        prepared_still : IsExchangeOf (catalog_of live) sources (bare plan.tables) exchange
        prepared_still =
            subst (λ (names : List (List ℕ)). IsExchangeOf (catalog_of live) names (bare plan.tables) exchange) (sym theirs)
            (subst (λ (db' : Database). IsExchangeOf (catalog_of db') plan.sources (bare plan.tables) exchange) (sym aside) (prepared_aside db plan can.lawful can.planned exchange prepared_so (names_in ts) among))

        pub empties : (after : Database) → ((new : List TableRows) → IsExchangeOf (catalog_of live) sources new exchange → after ≡ exchanged live sources (map stored new))
            → after ≡ emptied db plan.migrate
        empties after exchanges =
            exchanges (bare plan.tables) prepared_still
            ∙ ap₂ (λ (db' : Database) (names : List (List ℕ)). exchanged db' names (map stored (bare plan.tables))) aside theirs
            ∙ exchanged_aside db plan can.lawful can.planned exchange prepared_so (names_in ts) among
