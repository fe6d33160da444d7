use Rattle.std.proofs.Common.{◌≡◌, ℕ, ◌+◌, ◌*◌, ◌/◌, ◌%◌, List, ap, ◌∙◌, arith}
use Rattle.std.specs.BTreeMap.{insert_entry}
use Rattle.std.specs.Ordering.{nat_cmp}
use Rattle.std.proofs.lemmas.Result.{on_err_weaker, on_ok_weaker}
use Rattle.bf_store.specs.RowNumbers.{from_slot}
use Rattle.bf_store.proofs.ByUnit.{insertion_passes, nothing_passes}
use Rattle.bf_store.proofs.RowNumbers.{in_its_page, page_high, page_low, page_slot}
use Rattle.bf_store.proofs.row_numbers.RowNumbers.put.Goals as goal

pub returns-clause-ok : goal.returns-clause-ok
returns-clause-ok c =
    let k = c.args.position in
    let q = k / 64 in
    let n = c.args.number in
    let x = c.index_mut.result.now in
    let m = c.put_slot.new.page in
    let with_number : List (ℕ × ℕ) → List (ℕ × ℕ) = λ es. insert_entry nat_cmp es k n in
    on_ok_weaker c.put_slot.result
    (λ (done : (at : ℕ) → from_slot at m.items ≡ insert_entry nat_cmp (from_slot at x.items) (at + k % 64) n).
    in_its_page k q (page_low k) (page_high k) with_number (insertion_passes nat_cmp k n) 0 c.make_page.new.pages.items q x m (omega arith) c.make_page.ensures.pages.each c.in_ok-make_page.ensures.there c.index_mut.ensures.value
    (done (64 * q) ∙ ap (λ j. insert_entry nat_cmp (from_slot (64 * q) x.items) j n) (page_slot k))
    ∙ ap with_number (c.make_page.ensures.numbers ∙ c.self.view_is))
    c.put_slot.ensures.ok

pub returns-clause-err : goal.returns-clause-err
returns-clause-err c =
    let k = c.args.position in
    let q = k / 64 in
    let x = c.index_mut.result.now in
    let m = c.put_slot.new.page in
    on_err_weaker c.put_slot.result
    (λ (kept : (at : ℕ) → from_slot at m.items ≡ from_slot at x.items).
    in_its_page k q (page_low k) (page_high k) (λ es. es) (nothing_passes nat_cmp k) 0 c.make_page.new.pages.items q x m (omega arith) c.make_page.ensures.pages.each c.in_ok-make_page.ensures.there c.index_mut.ensures.value
    (kept (64 * q))
    ∙ c.make_page.ensures.numbers ∙ c.self.view_is)
    c.put_slot.ensures.err
