use Rattle.bf_bind.specs.Parts.{rule_objections}
use Rattle.bf_bind.proofs.Walks.{walk_stops}
use Rattle.bf_bind.proofs.create.bind_rules.Goals as goal

pub returns-in_err-bind_rule : goal.returns-in_err-bind_rule
returns-in_err-bind_rule c =
    walk_stops (λ p. rule_objections p.0 p.1) c.args.rules.now c.loop-index.index c.loop-index.invariant.unobjected c.index-rules-index.result c.loop-index-test.true c.index-rules-index.is
    _ c.in_err-bind_rule.field-0.0 _ _ c.from_residual-in_err-bind_rule.ensures.1 c.in_err-bind_rule.ensures
