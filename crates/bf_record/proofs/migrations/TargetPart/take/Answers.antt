use Rattle.std.proofs.Common.{refl}
use Rattle.bf_wire.proofs.Parts.{none_as}
use Rattle.bf_record.specs.Apart.{AreTargetParts, target_parts_spelling, target_parts, target_has_parts}
use Rattle.bf_record.specs.Migrations.{IsTarget, target_spelling}
use Rattle.bf_record.proofs.migrations.TargetPart.take.Goals as goal

pub returns-in-None : goal.returns-in-None
returns-in-None c =
    let none = rw c.in-None.is at c.in_ok-name.ensures in
    none_as IsTarget target_spelling AreTargetParts target_parts_spelling target_parts target_has_parts (λ a. refl) none
