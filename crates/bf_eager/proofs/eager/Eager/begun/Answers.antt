-- What is planned in the catalog is begun on the tables.
use Rattle.std.proofs.Common.{◌≡◌, Some, sym, ap, subst, ◌∙◌}
use Rattle.std.specs.Prelude.{IfOk}
use Rattle.bf_tree.specs.declared.migration.Migrate.{Migrate}
use Rattle.bf_sql.specs.Database.{Database}
use Rattle.bf_eager.specs.Beginnings.{IsBegun, first_against}
use Rattle.bf_eager.specs.Eager.{Ran}
use Rattle.bf_eager.proofs.Begun.{planned_in, refused_in}
use Rattle.bf_eager.proofs.eager.Eager.begun.Goals as goal

pub begun-requires-clause-planned : goal.begun-requires-clause-planned
begun-requires-clause-planned c =
    (planned_in c.self.inside.live c.catalog.result.now c.catalog.ensures.catalog c.args.migrate.now c.in-Ok.plan c.requires.narrow (sym c.in-Ok.is ∙ c.in_ok-plan.ensures)).0

pub returns-in-Ok : goal.returns-in-Ok
returns-in-Ok c =
    let planned = planned_in c.self.inside.live c.catalog.result.now c.catalog.ensures.catalog c.args.migrate.now c.in-Ok.plan c.requires.narrow (sym c.in-Ok.is ∙ c.in_ok-plan.ensures) in
    subst (λ (db : Database). IfOk c.begun.result (λ begun. IsBegun db c.args.migrate.now begun)) (ap (λ (ran : Ran). ran.database) c.self.view_is)
    (subst (λ (m : Migrate). IfOk c.begun.result (λ begun. IsBegun c.self.inside.live m begun)) planned.1 c.begun.ensures)

pub returns-in-Err : goal.returns-in-Err
returns-in-Err c =
    subst (λ (db : Database). first_against db c.args.migrate.now ≡ Some c.in-Err.refusal) (ap (λ (ran : Ran). ran.database) c.self.view_is)
    (refused_in c.self.inside.live c.catalog.result.now c.catalog.ensures.catalog c.args.migrate.now c.in-Err.refusal (sym c.in-Err.is ∙ c.in_ok-plan.ensures))
