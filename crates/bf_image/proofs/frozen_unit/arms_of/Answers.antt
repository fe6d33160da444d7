use Rattle.std.proofs.Common.{◌≡◌, ◌+◌, ◌<◌, length, take, sym, ap, subst, ◌∙◌, arith}
use Rattle.std.proofs.lemmas.List.{take_all}
use Rattle.bf_tree.specs.declared.plan.Unit.{Unit as Planned}
use Rattle.bf_sql.specs.migrations.Plans.{rows_unit_of}
use Rattle.bf_image.specs.FrozenUnits.{AreFound}
use Rattle.bf_image.specs.Migrations.{old_of}
use Rattle.bf_image.proofs.parting.FoundArms.{found_more}
use Rattle.bf_image.proofs.parting.UnitRows.{found_here}
use Rattle.bf_image.proofs.frozen_unit.arms_of.Goals as goal

pub unreachable-requires : goal.unreachable-requires
unreachable-requires c =
    let m = c.args.migration.now in
    let pairs = c.as_slice-target-items.result.now in
    let planned : pairs ≡ (rows_unit_of (old_of m) m.plan.migrate c.args.unit.now.driver).arms =
    c.as_slice-target-items.ensures ∙ ap (λ (u : Planned). u.arms) c.requires.planned in
    found_here m c.args.unit.now.driver pairs planned c.loop-target.target-index (omega arith) c.in-None.ensures

pub loop-target-preserved : goal.loop-target-preserved
loop-target-preserved c =
    let m = c.args.migration.now in
    let pairs = c.as_slice-target-items.result.now in
    subst (AreFound m (take (c.loop-target.target-index + 1) pairs)) (sym c.in_ok-push-in-Some.ensures.items)
    (found_more m pairs c.loop-target.arms.items c.loop-target.target-index (omega arith) c.in-Some.arm c.loop-target.invariant c.in-Some.ensures)

pub returns : goal.returns
returns c =
    let m = c.args.migration.now in
    let pairs = c.as_slice-target-items.result.now in
    let all : take c.loop-target.target-index pairs ≡ pairs = take_all c.loop-target.target-index pairs (omega arith) in
    subst (λ ps. AreFound m ps c.loop-target.arms.items) (all ∙ c.as_slice-target-items.ensures) c.loop-target.invariant
