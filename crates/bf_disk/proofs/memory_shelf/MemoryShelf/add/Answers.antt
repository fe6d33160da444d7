use Rattle.std.proofs.Common.{◌≡◌, ℕ, Some, None, List, refl, ◌∙◌, ap, rules}
use Rattle.std.specs.Prelude.{option_and_then, position}
use Rattle.bf_disk.specs.MemoryShelves.{Places, slot_at, disk_at, taken_at}
use Rattle.bf_disk.specs.declared.slot.Slot.{Slot}
use Rattle.std.proofs.Common.{nat_eq, true, length}
use Rattle.std.specs.Cmp.Lexicographic.{pointwise}
use Rattle.bf_disk.proofs.Places.{has_path, added_place, all_as_before, same_path}
use Rattle.bf_disk.proofs.memory_shelf.MemoryShelf.add.Goals as goal

pub returns-clause-found : goal.returns-clause-found
returns-clause-found c =
    let path = c.args.path.now in
    let slot : Slot = record { path = c.of-path.result; disk = None; lent = None } in
    let none : position (has_path path) c.self.inside.slots.items ≡ None =
    ap (λ (shelf : Places). position (has_path path) shelf.slots) c.self.view_is ∙ c.requires in
    let copied : c.of-path.result ≡ path = search rules in
    let has : has_path path slot ≡ true = ap (λ (bytes : List ℕ). pointwise nat_eq bytes path) copied ∙ same_path path in
    let size : length c.self.inside.slots.items ≡ c.len-index.result = search rules in
    ap (position (has_path path)) c.in_ok-push.ensures.items ∙ added_place c.self.inside.slots.items slot path none has ∙ ap (λ (n : ℕ). Some n) size

pub returns-clause-held : goal.returns-clause-held
returns-clause-held c =
    let slot : Slot = record { path = c.of-path.result; disk = None; lent = None } in
    ap (λ (items : List Slot). λ (path : List ℕ). option_and_then (λ (one : Slot). one.disk) (slot_at items path)) c.in_ok-push.ensures.items
    ∙ all_as_before (λ (one : Slot). one.disk) c.self.inside.slots.items slot refl ∙ ap disk_at c.self.view_is

pub returns-clause-taken : goal.returns-clause-taken
returns-clause-taken c =
    let slot : Slot = record { path = c.of-path.result; disk = None; lent = None } in
    ap (λ (items : List Slot). λ (path : List ℕ). option_and_then (λ (one : Slot). one.lent) (slot_at items path)) c.in_ok-push.ensures.items
    ∙ all_as_before (λ (one : Slot). one.lent) c.self.inside.slots.items slot refl ∙ ap taken_at c.self.view_is
