use Rattle.std.proofs.Common.{List, [], ◌∷◌, ◌++◌, sym, ap₂, ◌∙◌}
use Rattle.bf_plan.specs.Units.{arm_unit}
use Rattle.bf_tree.specs.declared.plan.Unit.{Unit}
use Rattle.bf_plan.proofs.Walked.{mapped_more}
use Rattle.bf_plan.proofs.units.arm_units.Goals as goal

pub loop-index-preserved : goal.loop-index-preserved
loop-index-preserved c =
    c.in_ok-push.ensures.items ∙ ap₂ (λ (units : List Unit) (more : Unit). units ++ more ∷ []) c.loop-index.invariant c.in_ok-arm_unit.ensures
    ∙ sym (mapped_more {Y = Unit} (λ p. arm_unit (c.args.target, p.0) p.1) c.args.arms.now c.loop-index.index c.index-arms-index.result c.loop-index-test.true c.index-arms-index.is)
