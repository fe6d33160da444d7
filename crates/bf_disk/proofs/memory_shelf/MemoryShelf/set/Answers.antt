use Rattle.std.proofs.Common.{◌≡◌, ℕ, Option, Some, List, set, sym, ◌∙◌, ap, subst}
use Rattle.std.specs.Prelude.{position}
use Rattle.bf_disk.specs.MemoryShelves.{Places, disk_at, taken_at}
use Rattle.bf_disk.specs.Shelves.{Puts}
use Rattle.bf_disk.specs.Tape.{Tape}
use Rattle.bf_disk.specs.declared.slot.Slot.{Slot}
use Rattle.bf_disk.proofs.Places.{has_path, within, puts, fields_stay}
use Rattle.bf_disk.proofs.memory_shelf.MemoryShelf.set.Goals as goal

pub returns-clause-held : goal.returns-clause-held
returns-clause-held c =
    let items = c.self-2.inside.slots.items in
    let there : position (has_path c.args.path.now) items ≡ Some c.in-Ok.index =
    ap (λ (shelf : Places). position (has_path c.args.path.now) shelf.slots) c.self-2.view_is ∙ c.in-Ok.ensures.found in
    let after : Places = record { slots = set items c.in-Ok.index c.hold.new.self; faults = c.self-2.inside.faults } in
    subst (λ (before : List ℕ → Option Tape). Puts c.args.path.now (Some c.args.disk) before (disk_at after))
    (ap disk_at c.self-2.view_is ∙ c.in-Ok.ensures.held)
    (puts items c.args.path.now c.in-Ok.index c.index_mut.result.now there c.hold.new.self (sym c.index_mut.ensures.value)
    (ap (λ (slot : Slot). slot.path) c.hold.ensures) (λ (slot : Slot). slot.disk) (Some c.args.disk) (ap (λ (slot : Slot). slot.disk) c.hold.ensures))

pub returns-clause-taken : goal.returns-clause-taken
returns-clause-taken c =
    let items = c.self-2.inside.slots.items in
    let there : position (has_path c.args.path.now) items ≡ Some c.in-Ok.index =
    ap (λ (shelf : Places). position (has_path c.args.path.now) shelf.slots) c.self-2.view_is ∙ c.in-Ok.ensures.found in
    fields_stay (λ (slot : Slot). slot.lent) items c.in-Ok.index c.index_mut.result.now c.hold.new.self
    (within items c.args.path.now c.in-Ok.index c.index_mut.result.now there) (sym c.index_mut.ensures.value)
    (ap (λ (slot : Slot). slot.path) c.hold.ensures) (ap (λ (slot : Slot). slot.lent) c.hold.ensures)
    ∙ ap taken_at c.self-2.view_is ∙ c.in-Ok.ensures.taken
