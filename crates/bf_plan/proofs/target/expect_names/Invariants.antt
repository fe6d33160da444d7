use Rattle.std.proofs.Common.{◌≡◌}
use Rattle.bf_bind.proofs.Walks.{all, left_behind}
use Rattle.bf_plan.specs.Targets.{name_objections}
use Rattle.bf_plan.proofs.target.expect_names.Given as goal

abbrev pub invariant-loop-index : goal.invariant-loop-index
invariant-loop-index l = all (λ p. name_objections p.0 p.1) l.items ≡ left_behind (λ p. name_objections p.0 p.1) l.items l.index
