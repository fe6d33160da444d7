use Rattle.std.proofs.Common.{refl}
use Rattle.bf_wire.proofs.Parts.{none_as}
use Rattle.bf_record.specs.Apart.{AreColumnParts, column_parts_spelling, column_parts, column_has_parts}
use Rattle.bf_record.specs.Schema.{IsColumn, column_spelling}
use Rattle.bf_record.proofs.schema.ColumnPart.take.Goals as goal

pub returns-in-None : goal.returns-in-None
returns-in-None c =
    let none = rw c.in-None.is at c.in_ok-name.ensures in
    none_as IsColumn column_spelling AreColumnParts column_parts_spelling column_parts column_has_parts (λ a. refl) none
