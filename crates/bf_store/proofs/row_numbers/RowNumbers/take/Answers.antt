use Rattle.std.proofs.Common.{ℕ, ◌<◌, ◌≤◌, ◌*◌, ◌/◌, List, length, is_some, sym, ap, ◌∙◌, arith}
use Rattle.std.specs.BTreeMap.{is_at}
use Rattle.std.specs.Map.{lookup, remove_entry}
use Rattle.std.specs.Ordering.{nat_cmp}
use Rattle.bf_store.specs.RowNumbers.{from_slot}
use Rattle.bf_store.proofs.ByUnit.{removal_passes}
use Rattle.bf_store.proofs.RowNumbers.{found_in_page, in_its_page, no_page, none_in_page, page_high, page_low, page_slot}
use Rattle.bf_store.proofs.row_numbers.RowNumbers.take.Goals as goal

pub returns-then-page-len-clause-taken : goal.returns-then-page-len-clause-taken
returns-then-page-len-clause-taken c =
    let k = c.args.position in
    let q = k / 64 in
    let ps = c.self.inside.pages.items in
    let x = c.index_mut.result.now in
    let gone : List (ℕ × ℕ) → List (ℕ × ℕ) = remove_entry (is_at (nat_cmp k)) in
    let in_range : q < length ps = omega (arith, c.if-page-len.true, c.len.ensures, c.self.inside.pages.ok.0) in
    in_its_page k q (page_low k) (page_high k) gone (removal_passes nat_cmp k) 0 ps q x c.take_slot.new.page (omega arith) c.self.invariant.each in_range c.index_mut.ensures.value
    (c.take_slot.ensures.taken (64 * q) ∙ ap (λ j. remove_entry (is_at (nat_cmp j)) (from_slot (64 * q) x.items)) (page_slot k))
    ∙ ap gone c.self.view_is

pub returns-then-page-len-clause-had : goal.returns-then-page-len-clause-had
returns-then-page-len-clause-had c =
    let k = c.args.position in
    let q = k / 64 in
    let ps = c.self.inside.pages.items in
    let x = c.index_mut.result.now in
    let in_range : q < length ps = omega (arith, c.if-page-len.true, c.len.ensures, c.self.inside.pages.ok.0) in
    c.take_slot.ensures.had (64 * q)
    ∙ ap is_some (ap (λ j. lookup (is_at (nat_cmp j)) (from_slot (64 * q) x.items)) (page_slot k)
    ∙ found_in_page k q (page_low k) (page_high k) 0 ps q x (omega arith) c.self.invariant.each in_range c.index_mut.ensures.value
    ∙ ap (λ (es : List (ℕ × ℕ)). lookup (is_at (nat_cmp k)) es) c.self.view_is)

pub returns-clause-taken : goal.returns-clause-taken
returns-clause-taken c =
    let k = c.args.position in
    let q = k / 64 in
    let ps = c.self.inside.pages.items in
    let beyond : length ps ≤ q = omega (arith, c.if-page-len.false, c.len.ensures, c.self.inside.pages.ok.0) in
    sym c.self.view_is ∙ none_in_page k q (page_low k) (page_high k) ps c.self.invariant.each beyond ∙ ap (λ (es : List (ℕ × ℕ)). remove_entry (is_at (nat_cmp k)) es) c.self.view_is

pub returns-clause-had : goal.returns-clause-had
returns-clause-had c =
    let k = c.args.position in
    let q = k / 64 in
    let ps = c.self.inside.pages.items in
    let beyond : length ps ≤ q = omega (arith, c.if-page-len.false, c.len.ensures, c.self.inside.pages.ok.0) in
    ap is_some (no_page k q (page_low k) (page_high k) 0 ps c.self.invariant.each (omega arith) ∙ ap (λ (es : List (ℕ × ℕ)). lookup (is_at (nat_cmp k)) es) c.self.view_is)
