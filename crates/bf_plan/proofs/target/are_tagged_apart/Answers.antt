use Rattle.std.proofs.Common.{◌≡◌, not, true, take, sym, ap, ◌∙◌}
use Rattle.std.specs.Option.{option_cmp, option_eq}
use Rattle.std.specs.Ordering.{int_cmp, int_eq}
use Rattle.bf_plan.specs.Targets.{tagged_by}
use Rattle.bf_plan.specs.declared.arm.BoundArm.{BoundArm}
use Rattle.bf_plan.proofs.Seen.{same_tag-tie, seen_next, was_new}
use Rattle.bf_plan.proofs.Walked.{one_passed}
use Rattle.bf_plan.proofs.target.are_tagged_apart.Goals as goal

pub loop-arm-preserved : goal.loop-arm-preserved
loop-arm-preserved c =
    let arms = c.args.arms.now in
    let i = c.loop-arm.arm-index in
    let arm = c.arm-item.result in
    let fresh : not (tagged_by (take i arms) arm.tag) ≡ true = ap not (sym (c.loop-arm.invariant.seen arm.tag)) ∙ was_new c.in_ok-insert.field-0 _ c.in_ok-insert.ensures.added c.if-not-branch.false in
    record {
      left = one_passed (λ p. not (tagged_by p.0 p.1.tag)) arms i arm c.loop-arm-test.true c.arm-item.is fresh _ c.loop-arm.invariant.left;
      seen = seen_next (option_cmp int_cmp) (option_eq int_eq) same_tag-tie (λ (a : BoundArm). a.tag) c.loop-arm.seen c.insert.new.self arms i arm c.loop-arm-test.true c.arm-item.is c.loop-arm.invariant.seen c.in_ok-insert.ensures.updates.0;
    }
