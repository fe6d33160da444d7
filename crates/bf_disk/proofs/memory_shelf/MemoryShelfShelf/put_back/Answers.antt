use Rattle.std.proofs.Common.{◌≡◌, ℕ, Option, Some, None, List, set, unwrap_or, sym, ◌∙◌, ap, subst, arith}
use Rattle.std.specs.Prelude.{option_and_then, position, IsSome}
use Rattle.bf_disk.specs.MemoryShelves.{Places, disk_at, taken_at}
use Rattle.bf_disk.specs.Shelves.{Puts, rises_since}
use Rattle.bf_disk.specs.Tape.{Tape, faults_of}
use Rattle.bf_disk.specs.declared.slot.Slot.{Slot}
use Rattle.bf_disk.proofs.Places.{has_path, puts, slot_here, none_here}
use Rattle.std.proofs.lemmas.Bool.{false≢true}
use Rattle.bf_disk.proofs.Loans.{rises_of}
use Rattle.bf_disk.proofs.memory_shelf.MemoryShelfShelf.put_back.Goals as goal

pub returns-in-Some-clause-held : goal.returns-in-Some-clause-held
returns-in-Some-clause-held c =
    let items = c.self.inside.slots.items in
    let path = c.args.path.now in
    let there : position (has_path path) items ≡ Some c.in-Some.index =
    ap (λ (shelf : Places). position (has_path path) shelf.slots) c.self.view_is ∙ sym c.in-Some.ensures in
    let after : Places = record { slots = set items c.in-Some.index c.take_back-rises.new.self; faults = c.saturating_add-self-inside.result } in
    subst (λ (before : List ℕ → Option Tape). Puts path (Some c.args.disk) before (disk_at after)) (ap disk_at c.self.view_is)
    (puts items path c.in-Some.index c.index_mut.result.now there c.take_back-rises.new.self (sym c.index_mut.ensures.value)
    (ap (λ (slot : Slot). slot.path) c.take_back-rises.ensures.slot) (λ (slot : Slot). slot.disk) (Some c.args.disk) (ap (λ (slot : Slot). slot.disk) c.take_back-rises.ensures.slot))

pub returns-in-Some-clause-taken : goal.returns-in-Some-clause-taken
returns-in-Some-clause-taken c =
    let items = c.self.inside.slots.items in
    let path = c.args.path.now in
    let there : position (has_path path) items ≡ Some c.in-Some.index =
    ap (λ (shelf : Places). position (has_path path) shelf.slots) c.self.view_is ∙ sym c.in-Some.ensures in
    let after : Places = record { slots = set items c.in-Some.index c.take_back-rises.new.self; faults = c.saturating_add-self-inside.result } in
    subst (λ (before : List ℕ → Option ℕ). Puts path None before (taken_at after)) (ap taken_at c.self.view_is)
    (puts items path c.in-Some.index c.index_mut.result.now there c.take_back-rises.new.self (sym c.index_mut.ensures.value)
    (ap (λ (slot : Slot). slot.path) c.take_back-rises.ensures.slot) (λ (slot : Slot). slot.lent) None (ap (λ (slot : Slot). slot.lent) c.take_back-rises.ensures.slot))

pub returns-in-Some-clause-faults : goal.returns-in-Some-clause-faults
returns-in-Some-clause-faults c =
    let items = c.self.inside.slots.items in
    let path = c.args.path.now in
    let there : position (has_path path) items ≡ Some c.in-Some.index =
    ap (λ (shelf : Places). position (has_path path) shelf.slots) c.self.view_is ∙ sym c.in-Some.ensures in
    let lent : taken_at c.args.self.now path ≡ c.index_mut.result.now.lent =
    sym (ap (λ (shelf : Places). taken_at shelf path) c.self.view_is)
    ∙ ap (option_and_then (λ (slot : Slot). slot.lent)) (slot_here items path c.in-Some.index c.index_mut.result.now there)
    ∙ ap (λ (slot : Slot). slot.lent) (sym c.index_mut.ensures.value) in
    let since : rises_since (unwrap_or (taken_at c.args.self.now path) 0) (faults_of c.args.disk) ≡ c.take_back-rises.result =
    ap (λ (was : Option ℕ). rises_since (unwrap_or was 0) (faults_of c.args.disk)) lent ∙ sym c.take_back-rises.ensures.rises in
    let count = ap (λ (shelf : Places). shelf.faults) c.self.view_is in
    omega (arith, c.saturating_add-self-inside.ensures, since, count, rises_of c.args.self.now.faults (taken_at c.args.self.now path) (faults_of c.args.disk) c.requires)

pub returns-in-None-clause-held : goal.returns-in-None-clause-held
returns-in-None-clause-held c =
    let none = ap (option_and_then (λ (slot : Slot). slot.lent)) (none_here c.args.self.now.slots c.args.path.now (sym c.in-None.ensures)) in
    absurd (false≢true (subst (λ (lent : Option ℕ). IsSome lent) none c.requires))

pub returns-in-None-clause-taken : goal.returns-in-None-clause-taken
returns-in-None-clause-taken c =
    let none = ap (option_and_then (λ (slot : Slot). slot.lent)) (none_here c.args.self.now.slots c.args.path.now (sym c.in-None.ensures)) in
    absurd (false≢true (subst (λ (lent : Option ℕ). IsSome lent) none c.requires))

pub returns-in-None-clause-faults : goal.returns-in-None-clause-faults
returns-in-None-clause-faults c =
    let none = ap (option_and_then (λ (slot : Slot). slot.lent)) (none_here c.args.self.now.slots c.args.path.now (sym c.in-None.ensures)) in
    absurd (false≢true (subst (λ (lent : Option ℕ). IsSome lent) none c.requires))
