use Rattle.std.proofs.Common.{refl}
use Rattle.bf_wire.proofs.Parts.{none_as}
use Rattle.bf_record.specs.Apart.{AreTableWriteParts, write_parts_spelling, write_parts, write_has_parts}
use Rattle.bf_record.specs.Changes.{IsWrite, write_spelling}
use Rattle.bf_record.proofs.writes.TableWritePart.take.Goals as goal

pub returns-in-None : goal.returns-in-None
returns-in-None c =
    let none = rw c.in-None.is at c.in_ok-table.ensures in
    none_as IsWrite write_spelling AreTableWriteParts write_parts_spelling write_parts write_has_parts (λ a. refl) none
