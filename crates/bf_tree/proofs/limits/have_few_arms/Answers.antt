-- The target that finds too little room has more arms than are left to it.
use Rattle.std.proofs.Common.{◌≡◌, length, get_or, ap, arith}
use Rattle.std.proofs.lemmas.List.Folds.{length-flat_map-take}
use Rattle.bf_tree.specs.declared.migration.Target.{Target}
use Rattle.bf_tree.proofs.limits.have_few_arms.Goals as goal

pub returns-in_default : goal.returns-in_default
returns-in_default c =
    let more = length-flat_map-take (λ (t : Target). t.arms) c.args.targets.now c.loop-target.target-index c.target-item.result c.loop-target-test.true in
    let own : length c.target-item.result.arms ≡ length (get_or c.args.targets.now c.loop-target.target-index c.target-item.result).arms
    = ap (λ (t : Target). length t.arms) c.target-item.is in
    ((λ never. absurd (cc)), (λ within. absurd (c.in_default.ensures (omega (arith, more, own)))))
