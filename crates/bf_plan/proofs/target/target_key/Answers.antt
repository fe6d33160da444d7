use Rattle.bf_plan.specs.Targets.{first_key, key_before}
use Rattle.bf_plan.proofs.Columns.{given_more}
use Rattle.bf_plan.proofs.target.target_key.Goals as goal

pub loop-place-preserved : goal.loop-place-preserved
loop-place-preserved c =
    let same = c.first_key-place-items.ensures in
    given_more (key_before c.args.arms.now) c.loop-place.key.items c.in_ok-more.more.items (first_key c.args.arms.now) c.loop-place.place-index _ (rw same at c.loop-place-test.true) c.loop-place.invariant (rw same at c.in_ok-more.ensures)
