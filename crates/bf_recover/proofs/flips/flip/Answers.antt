use Rattle.std.proofs.Common.{◌≡◌, [], sym, ap, subst, ◌∙◌}
use Rattle.bf_sql.specs.Bound.{catalog_of}
use Rattle.bf_sql.specs.Database.{Database}
use Rattle.bf_sql.specs.migrations.Plans.{plan_made}
use Rattle.bf_store.specs.States.{frozen_lazily}
use Rattle.bf_tree.specs.Limits.{HasNarrowTables, IsNarrowMigrate}
use Rattle.bf_tree.specs.declared.migration.Migrate.{Migrate}
use Rattle.bf_recover.specs.Flips.{IsAllowedPlan, IsPlanIfAllowed, against}
use Rattle.bf_recover.specs.Schemas.{is_empty}
use Rattle.bf_recover.proofs.Creating.{none_in}
use Rattle.bf_recover.proofs.Planning.{illegal_refused, illegal_running, illegal_unspoken, legal_flip}
use Rattle.bf_recover.proofs.flips.flip.Goals as goal

pub returns-then-not-is_spoken_migrate-clause-legal : goal.returns-then-not-is_spoken_migrate-clause-legal
returns-then-not-is_spoken_migrate-clause-legal g c =
    illegal_unspoken c.args.store.now.lazy c.args.migrate.now (sym c.is_spoken_migrate.ensures ∙ c.if-not-is_spoken_migrate.true)

pub returns-then-not-is_complete-clause-legal : goal.returns-then-not-is_complete-clause-legal
returns-then-not-is_complete-clause-legal g c =
    illegal_running c.args.store.now.lazy c.args.migrate.now (sym c.is_complete.ensures ∙ c.if-not-is_complete.true)

pub plan_if_allowed-requires-clause-narrow : goal.plan_if_allowed-requires-clause-narrow
plan_if_allowed-requires-clause-narrow g c =
    subst (λ (db : Database). HasNarrowTables (catalog_of db)) (sym c.live.ensures.live) c.live.ensures.narrow

pub plan_if_allowed-requires-clause-spoken : goal.plan_if_allowed-requires-clause-spoken
plan_if_allowed-requires-clause-spoken g c = sym c.is_spoken_migrate.ensures ∙ c.if-not-is_spoken_migrate.false

pub returns-in_default-clause-legal : goal.returns-in_default-clause-legal
returns-in_default-clause-legal g c =
    let m = c.args.migrate.now in
    illegal_refused c.args.store.now.lazy m
    (ap (λ (db : Database). is_empty (against db m)) (sym c.live.ensures.live) ∙ subst (IsPlanIfAllowed c.live.result.now m) c.in_default.is c.in_ok-plan.ensures)

pub flip-requires-clause-may : goal.flip-requires-clause-may
flip-requires-clause-may g c =
    let lazy = c.args.store.now.lazy in
    let plan = c.in-Some.plan in
    let told : IsAllowedPlan lazy.live c.args.migrate.now plan = subst (λ (db : Database). IsAllowedPlan db c.args.migrate.now plan) c.live.ensures.live (subst (IsPlanIfAllowed c.live.result.now c.args.migrate.now) c.in-Some.is c.in_ok-plan.ensures) in
    record {
      complete = none_in _ (sym c.is_complete.ensures ∙ c.if-not-is_complete.false);
      unrefused = subst (λ (m : Migrate). against lazy.live m ≡ []) (sym told.migrate) told.unrefused;
    }

pub flip-requires-clause-narrow : goal.flip-requires-clause-narrow
flip-requires-clause-narrow g c =
    let lazy = c.args.store.now.lazy in
    let plan = c.in-Some.plan in
    let told : IsAllowedPlan lazy.live c.args.migrate.now plan = subst (λ (db : Database). IsAllowedPlan db c.args.migrate.now plan) c.live.ensures.live (subst (IsPlanIfAllowed c.live.result.now c.args.migrate.now) c.in-Some.is c.in_ok-plan.ensures) in
    subst IsNarrowMigrate (sym told.migrate) told.narrow

pub flip-requires-clause-planned : goal.flip-requires-clause-planned
flip-requires-clause-planned g c =
    let lazy = c.args.store.now.lazy in
    let plan = c.in-Some.plan in
    let told : IsAllowedPlan lazy.live c.args.migrate.now plan = subst (λ (db : Database). IsAllowedPlan db c.args.migrate.now plan) c.live.ensures.live (subst (IsPlanIfAllowed c.live.result.now c.args.migrate.now) c.in-Some.is c.in_ok-plan.ensures) in
    told.made ∙ ap (plan_made lazy.live) (sym told.migrate)

pub returns-clause-legal : goal.returns-clause-legal
returns-clause-legal g c =
    let lazy = c.args.store.now.lazy in
    let m = c.args.migrate.now in
    let plan = c.in-Some.plan in
    let told : IsAllowedPlan lazy.live m plan = subst (λ (db : Database). IsAllowedPlan db m plan) c.live.ensures.live (subst (IsPlanIfAllowed c.live.result.now m) c.in-Some.is c.in_ok-plan.ensures) in
    legal_flip lazy m (sym c.is_spoken_migrate.ensures ∙ c.if-not-is_spoken_migrate.false) (sym c.is_complete.ensures ∙ c.if-not-is_complete.false)
    (ap (λ rs. is_empty rs) told.unrefused)

pub returns-clause-applied : goal.returns-clause-applied
returns-clause-applied g c = λ _.
    let lazy = c.args.store.now.lazy in
    let m = c.args.migrate.now in
    let plan = c.in-Some.plan in
    let told : IsAllowedPlan lazy.live m plan = subst (λ (db : Database). IsAllowedPlan db m plan) c.live.ensures.live (subst (IsPlanIfAllowed c.live.result.now m) c.in-Some.is c.in_ok-plan.ensures) in
    c.in_ok-flip.ensures.ok.state ∙ ap (frozen_lazily lazy) told.migrate
