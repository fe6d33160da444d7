use Rattle.std.proofs.Common.{refl}
use Rattle.bf_wire.proofs.Parts.{none_as}
use Rattle.bf_record.specs.Apart.{AreIndexParts, index_parts_spelling, index_parts, index_has_parts}
use Rattle.bf_record.specs.Schema.{IsIndex, index_spelling}
use Rattle.bf_record.proofs.schema.IndexRulePart.take.Goals as goal

pub returns-in-None : goal.returns-in-None
returns-in-None c =
    let none = rw c.in-None.is at c.in_ok-name.ensures in
    none_as IsIndex index_spelling AreIndexParts index_parts_spelling index_parts index_has_parts (λ a. refl) none
