use Rattle.std.proofs.Common.{refl}
use Rattle.bf_wire.proofs.Parts.{none_as}
use Rattle.bf_record.specs.Apart.{AreTableParts, table_parts_spelling, table_parts, table_has_parts}
use Rattle.bf_record.specs.Schema.{IsTable, table_spelling}
use Rattle.bf_record.proofs.schema.TablePart.take.Goals as goal

pub returns-in-None : goal.returns-in-None
returns-in-None c =
    let none = rw c.in-None.is at c.in_ok-name.ensures in
    none_as IsTable table_spelling AreTableParts table_parts_spelling table_parts table_has_parts (λ a. refl) none
