use Rattle.std.proofs.Common.{ℕ, ◌<◌, ◌≤◌, ◌*◌, ◌/◌, List, length, get_or, Option, ap, ◌∙◌, arith}
use Rattle.std.specs.BTreeMap.{is_at}
use Rattle.std.specs.Map.{lookup}
use Rattle.std.specs.Ordering.{nat_cmp}
use Rattle.bf_store.specs.RowNumbers.{from_slot}
use Rattle.bf_store.proofs.RowNumbers.{Page, found_in_page, no_page, page_high, page_low, page_slot}
use Rattle.bf_store.proofs.row_numbers.RowNumbers.get.Goals as goal

pub returns-in-Some : goal.returns-in-Some
returns-in-Some c =
    let k = c.args.position in
    let q = k / 64 in
    let ps = c.self.inside.pages.items in
    let x = c.in-Some.page.now in
    let look = c.in-Some.ensures.lookup in
    let in_range : q < length ps = omega (arith, look.3.0, ap (λ (us : List Page). length us) c.deref.ensures.value) in
    c.slot_at.ensures (64 * q)
    ∙ ap (λ j. lookup (is_at (nat_cmp j)) (from_slot (64 * q) c.deref-in-Some.result.now)) (page_slot k)
    ∙ ap (λ (os : List (Option ℕ)). lookup (is_at (nat_cmp k)) (from_slot (64 * q) os)) c.deref-in-Some.ensures.value
    ∙ found_in_page k q (page_low k) (page_high k) 0 ps q x (omega arith) c.self.invariant.each in_range (look.1 ∙ ap (λ (us : List Page). get_or us q x) c.deref.ensures.value)
    ∙ ap (λ (es : List (ℕ × ℕ)). lookup (is_at (nat_cmp k)) es) c.self.view_is

pub returns-in-None : goal.returns-in-None
returns-in-None c =
    let k = c.args.position in
    let q = k / 64 in
    let ps = c.self.inside.pages.items in
    let beyond : length ps ≤ q = omega (arith, c.in-None.ensures.lookup.3, ap (λ (us : List Page). length us) c.deref.ensures.value) in
    no_page k q (page_low k) (page_high k) 0 ps c.self.invariant.each (omega arith) ∙ ap (λ (es : List (ℕ × ℕ)). lookup (is_at (nat_cmp k)) es) c.self.view_is
