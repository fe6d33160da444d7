use Rattle.std.proofs.Common.{◌<◌, length, sym, ap, subst, ◌∙◌}
use Rattle.std.proofs.lemmas.Result.{IfOk-weaker}
use Rattle.bf_sql.specs.migrations.Granules.{granule}
use Rattle.bf_image.specs.Giving.{gives_row}
use Rattle.bf_image.specs.declared.migration.Migration.{Migration}
use Rattle.bf_transpose.proofs.Given.{gives_always}
use Rattle.bf_transpose.proofs.scan.Search.gives_any.Goals as goal

pub gives_row-requires-clause-unit : goal.gives_row-requires-clause-unit
gives_row-requires-clause-unit c = c.requires.unit.whole

pub gives_row-requires-clause-there : goal.gives_row-requires-clause-there
gives_row-requires-clause-there c = subst (λ (m : Migration). c.args.self.now.target < length m.plan.migrate.targets) (sym c.requires.unit.of) c.requires.search.there

pub returns : goal.returns
returns c =
    let m = c.args.self.now.migration.now in
    let target = c.args.self.now.target in
    let here = granule c.args.unit.now.number c.args.place.now in
    IfOk-weaker c.gives_row.result _ _ (λ any is. is ∙ (ap (λ (n : Migration). gives_row n target here) c.requires.unit.of ∙ gives_always m target here)) c.gives_row.ensures
