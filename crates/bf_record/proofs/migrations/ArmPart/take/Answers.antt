use Rattle.std.proofs.Common.{refl}
use Rattle.bf_wire.proofs.Parts.{none_as}
use Rattle.bf_record.specs.Apart.{AreArmParts, arm_parts_spelling, arm_parts, arm_has_parts}
use Rattle.bf_record.specs.Migrations.{IsArm, arm_spelling}
use Rattle.bf_record.proofs.migrations.ArmPart.take.Goals as goal

pub returns-in-None : goal.returns-in-None
returns-in-None c =
    let none = rw c.in-None.is at c.in_ok-items.ensures in
    none_as IsArm arm_spelling AreArmParts arm_parts_spelling arm_parts arm_has_parts (λ a. refl) none
