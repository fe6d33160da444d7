use Rattle.std.proofs.Common.{◌≡◌, not, length, ap, ◌∙◌, arith}
use Rattle.std.proofs.lemmas.Grind.{common_steps}
use Rattle.bf_plan.proofs.Columns.{kinds_alike}
use Rattle.bf_plan.proofs.target.is_misfit.Goals as goal

pub returns : goal.returns
returns c =
    let counted : length c.args.first.now ≡ length c.args.arm.now.items = grind (arith, common_steps) in
    let alike = rw c.as_slice-items.ensures at c.are_alike.ensures in
    ap not (alike ∙ kinds_alike c.args.first.now c.args.arm.now.items counted)
