use Rattle.std.proofs.Common.{◌≡◌}
use Rattle.bf_sql.specs.Bound.{without_rows}
use Rattle.bf_bind.proofs.Walks.{all, left_behind}
use Rattle.bf_plan.specs.Units.{taken_objections}
use Rattle.bf_plan.proofs.units.expect_all_free.Given as goal

abbrev pub invariant-loop-index : goal.invariant-loop-index
invariant-loop-index l =
    all (λ p. taken_objections (without_rows l.catalog) l.sources p.0 p.1.name) l.targets
    ≡ left_behind (λ p. taken_objections (without_rows l.catalog) l.sources p.0 p.1.name) l.targets l.index
