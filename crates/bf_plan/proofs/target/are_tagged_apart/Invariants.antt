use Rattle.std.proofs.Common.{◌≡◌, ℤ, Option, not, take}
use Rattle.std.specs.BTreeSet.{contains}
use Rattle.std.specs.List.{list_all}
use Rattle.std.specs.Option.{option_cmp}
use Rattle.std.specs.Ordering.{int_cmp}
use Rattle.bf_base.specs.Lists.{with_before}
use Rattle.bf_plan.specs.Targets.{tagged_by}
use Rattle.bf_plan.proofs.Walked.{left_to_pass}
use Rattle.bf_plan.proofs.target.are_tagged_apart.Given as goal

-- the arms that are left, and the tags of those before
abbrev pub invariant-loop-arm : goal.invariant-loop-arm
invariant-loop-arm l = record {
  left : list_all (λ p. not (tagged_by p.0 p.1.tag)) (with_before l.arms) ≡ left_to_pass (λ p. not (tagged_by p.0 p.1.tag)) l.arms l.arm-index;
  seen : (tag : Option ℤ) → contains (option_cmp int_cmp) l.seen tag ≡ tagged_by (take l.arm-index l.arms) tag;
}
