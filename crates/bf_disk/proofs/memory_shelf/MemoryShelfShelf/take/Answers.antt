use Rattle.std.proofs.Common.{◌≡◌, ℕ, Option, Some, None, List, [], set, unwrap_or, sym, ◌∙◌, ap, subst}
use Rattle.std.specs.Prelude.{option_and_then, position}
use Rattle.bf_disk.specs.MemoryShelves.{Places, disk_at, taken_at}
use Rattle.bf_disk.specs.Shelves.{Puts}
use Rattle.bf_disk.specs.Tape.{Tape, new_tape, faults_of}
use Rattle.bf_disk.specs.declared.slot.Slot.{Slot}
use Rattle.bf_disk.proofs.Places.{has_path, puts, slot_here}
use Rattle.bf_disk.proofs.memory_shelf.MemoryShelfShelf.take.Goals as goal

pub returns-clause-disk : goal.returns-clause-disk
returns-clause-disk c =
    let items = c.self-2.inside.slots.items in
    let there : position (has_path c.args.path.now) items ≡ Some c.in_ok-index.index =
    ap (λ (shelf : Places). position (has_path c.args.path.now) shelf.slots) c.self-2.view_is ∙ c.in_ok-index.ensures.found in
    let held : disk_at c.args.self.now c.args.path.now ≡ c.index_mut.result.now.disk =
    sym (ap (λ (table : List ℕ → Option Tape). table c.args.path.now) c.in_ok-index.ensures.held)
    ∙ sym (ap (λ (shelf : Places). disk_at shelf c.args.path.now) c.self-2.view_is)
    ∙ ap (option_and_then (λ (slot : Slot). slot.disk)) (slot_here items c.args.path.now c.in_ok-index.index c.index_mut.result.now there)
    ∙ ap (λ (slot : Slot). slot.disk) (sym c.index_mut.ensures.value) in
    c.lend.ensures.disk ∙ ap (λ (disk : Option Tape). unwrap_or disk (new_tape [] [] None)) (sym held)

pub returns-clause-held : goal.returns-clause-held
returns-clause-held c =
    let items = c.self-2.inside.slots.items in
    let path = c.args.path.now in
    let there : position (has_path path) items ≡ Some c.in_ok-index.index =
    ap (λ (shelf : Places). position (has_path path) shelf.slots) c.self-2.view_is ∙ c.in_ok-index.ensures.found in
    let after : Places = record { slots = set items c.in_ok-index.index c.lend.new.self; faults = c.self-2.inside.faults } in
    subst (λ (before : List ℕ → Option Tape). Puts path None before (disk_at after)) (ap disk_at c.self-2.view_is ∙ c.in_ok-index.ensures.held)
    (puts items path c.in_ok-index.index c.index_mut.result.now there c.lend.new.self (sym c.index_mut.ensures.value)
    (ap (λ (slot : Slot). slot.path) c.lend.ensures.slot) (λ (slot : Slot). slot.disk) None (ap (λ (slot : Slot). slot.disk) c.lend.ensures.slot))

pub returns-clause-taken : goal.returns-clause-taken
returns-clause-taken c =
    let items = c.self-2.inside.slots.items in
    let path = c.args.path.now in
    let there : position (has_path path) items ≡ Some c.in_ok-index.index =
    ap (λ (shelf : Places). position (has_path path) shelf.slots) c.self-2.view_is ∙ c.in_ok-index.ensures.found in
    let after : Places = record { slots = set items c.in_ok-index.index c.lend.new.self; faults = c.self-2.inside.faults } in
    subst (λ (before : List ℕ → Option ℕ). Puts path (Some (faults_of c.lend.result)) before (taken_at after)) (ap taken_at c.self-2.view_is ∙ c.in_ok-index.ensures.taken)
    (puts items path c.in_ok-index.index c.index_mut.result.now there c.lend.new.self (sym c.index_mut.ensures.value)
    (ap (λ (slot : Slot). slot.path) c.lend.ensures.slot) (λ (slot : Slot). slot.lent) (Some (faults_of c.lend.result)) (ap (λ (slot : Slot). slot.lent) c.lend.ensures.slot))
