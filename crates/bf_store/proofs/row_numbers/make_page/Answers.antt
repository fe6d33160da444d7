use Rattle.std.proofs.Common.{◌∷◌, ◌≤◌, List, [], length, length-append, sym, ap, subst, ◌∙◌, arith}
use Rattle.std.specs.List.{AllByRecursion}
use Rattle.bf_store.specs.RowNumbers.{from_page}
use Rattle.bf_store.proofs.RowNumbers.{IsPage, Page, empty_page, pages_and}
use Rattle.bf_store.proofs.row_numbers.make_page.Goals as goal

pub loop-alloc-preserved : goal.loop-alloc-preserved
loop-alloc-preserved c =
    let before = c.loop-alloc.pages.items in
    let new = c.new.result in
    let items = c.in_ok-push.ensures.items in
    let none : length new.items ≤ 64 = omega (arith, ap length c.new.ensures.items) in
    record {
      numbers = ap (from_page 0) items ∙ empty_page 0 before new c.new.ensures.items ∙ c.loop-alloc.invariant.numbers;
      pages = record {
        each = subst (λ (ps : List Page). AllByRecursion IsPage ps) (sym items) (pages_and before new c.loop-alloc.invariant.pages.each none);
        few = omega (arith, ap (λ (ps : List Page). length ps) items, length-append before (new ∷ []), c.loop-alloc-test.true, c.len.ensures, c.loop-alloc.pages.ok.0, c.requires.page);
      };
    }
