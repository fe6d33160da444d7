use Rattle.std.proofs.Common.{◌≡◌, Some, sym, ◌∙◌, ap}
use Rattle.std.specs.Prelude.{option_and_then, position}
use Rattle.bf_disk.specs.MemoryShelves.{Places, disk_at}
use Rattle.bf_disk.specs.declared.slot.Slot.{Slot}
use Rattle.bf_disk.proofs.Places.{has_path, none_here, slot_here}
use Rattle.bf_disk.proofs.memory_shelf.MemoryShelf.disk.Goals as goal

pub returns-in-None : goal.returns-in-None
returns-in-None c = sym (ap (option_and_then (λ (slot : Slot). slot.disk)) (none_here c.args.self.now.slots c.args.path.now (sym c.in-None.ensures)))

pub returns-in-Some : goal.returns-in-Some
returns-in-Some c =
    let items = c.self.inside.slots.items in
    let there : position (has_path c.args.path.now) items ≡ Some c.in-Some.index =
    ap (λ (shelf : Places). position (has_path c.args.path.now) shelf.slots) c.self.view_is ∙ sym c.in-Some.ensures in
    c.as_ref.ensures.value ∙ ap (λ (slot : Slot). slot.disk) c.index.ensures
    ∙ sym (ap (option_and_then (λ (slot : Slot). slot.disk)) (slot_here items c.args.path.now c.in-Some.index c.index.result.now there))
    ∙ ap (λ (shelf : Places). disk_at shelf c.args.path.now) c.self.view_is
