use Rattle.std.proofs.Common.{◌≤◌, ◌≡◌, true, length, arith}
use Rattle.std.specs.Prelude.{nat_le}
use Rattle.std.proofs.lemmas.Bool.Decides.{nat_tests}
use Rattle.bf_image.proofs.arms.FrozenArm.width.Goals as goal

pub overflow_cast-result : goal.overflow_cast-result
overflow_cast-result c =
    let narrow : nat_le (length c.args.self.now.from.now.table.columns) 16 ≡ true = c.requires in
    let few : length c.args.self.now.from.now.table.columns ≤ 16 = grind (arith, nat_tests) in
    omega (arith, few)
