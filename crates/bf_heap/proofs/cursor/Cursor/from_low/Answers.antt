use Rattle.std.proofs.Common.{rules, ◌≡◌, ◌+◌, ◌-◌, ◌<◌, true, false, [], ◌++◌, List, length, get_or, take, drop, sym, ap, subst, ◌∙◌, arith}
use Rattle.std.proofs.lemmas.List.{append-nil, get_or_default}
use Rattle.std.proofs.lemmas.List.Sorted.{IsPartitionPoint-from_clause}
use Rattle.bf_base.specs.Maps.{is_map}
use Rattle.bf_base.specs.Values.{key_cmp, key_cmp_total}
use Rattle.bf_heap.specs.Heaps.{Entry, key_of_entry}
use Rattle.bf_heap.specs.KeyRanges.{is_before}
use Rattle.bf_heap.specs.Pages.{rows_of, ends_with}
use Rattle.bf_heap.proofs.Flat.{rises_left, rises_right, page_rises}
use Rattle.bf_heap.proofs.Ranges.{falls_before, pages_parted, from_last, from_page, some_fail, used_front, used_behind}
use Rattle.bf_heap.proofs.cursor.Cursor.from_low.Goals as goal

pub from_low-requires : goal.from_low-requires
from_low-requires c = rises_right key_cmp_total key_of_entry (rows_of c.args.pages.now) c.args.last.now c.requires.in_order

-- the closure tells of a page whether its last key comes before the low end
pub returns-then-before-pages : goal.returns-then-before-pages
returns-then-before-pages c =
    let low = c.args.range.now.low in
    let pages = c.args.pages.now in
    let n = c.partition_point-before.result in
    let point = IsPartitionPoint-from_clause (ends_with (is_before low)) pages n c.partition_point-before.ensures.partitioned (pages_parted (is_before low) (falls_before low) pages (rises_left key_cmp_total key_of_entry (rows_of pages) c.args.last.now c.requires.in_order) c.requires.used) (λ a r f called. (search rules, search rules)) in
    append-nil c.from_low.result.now ∙ c.from_low.ensures ∙ from_last (is_before low) (falls_before low) pages c.args.last.now n c.requires.in_order point c.if-before-pages.true

pub from_low-requires-2 : goal.from_low-requires-2
from_low-requires-2 c =
    let pages = c.args.pages.now in
    let n = c.partition_point-before.result in
    let within : n < length pages = omega (arith, c.partition_point-before.ensures.bound, c.if-before-pages.false) in
    let page_is : c.rows.result.now ≡ get_or pages n [] = c.rows.ensures ∙ c.index-pages-before.is ∙ get_or_default pages n c.index-pages-before.result [] within in
    subst (λ (rows : List Entry). is_map key_cmp key_of_entry rows ≡ true) (sym page_is) (page_rises key_cmp_total key_of_entry pages n within (rises_left key_cmp_total key_of_entry (rows_of pages) c.args.last.now c.requires.in_order))

-- the page's last row does not come before the low end, so some row is ahead
pub invariant_of-result-2 : goal.invariant_of-result-2
invariant_of-result-2 c =
    let low = c.args.range.now.low in
    let pages = c.args.pages.now in
    let n = c.partition_point-before.result in
    let within : n < length pages = omega (arith, c.partition_point-before.ensures.bound, c.if-before-pages.false) in
    let page_is : c.rows.result.now ≡ get_or pages n [] = c.rows.ensures ∙ c.index-pages-before.is ∙ get_or_default pages n c.index-pages-before.result [] within in
    let point = IsPartitionPoint-from_clause (ends_with (is_before low)) pages n c.partition_point-before.ensures.partitioned (pages_parted (is_before low) (falls_before low) pages (rises_left key_cmp_total key_of_entry (rows_of pages) c.args.last.now c.requires.in_order) c.requires.used) (λ a r f called. (search rules, search rules)) in
    let fails : ends_with (is_before low) c.rows.result.now ≡ false = ap (ends_with (is_before low)) page_is ∙ point.1 n [] (omega arith) within in
    record {
      used = used_front (drop (n + 1) pages) (length pages - (n + 1)) (used_behind pages (n + 1) c.requires.used);
      none = λ none. absurd (some_fail (is_before low) (falls_before low) c.rows.result.now fails (sym c.from_low-2.ensures ∙ none));
    }

pub returns : goal.returns
returns c =
    let low = c.args.range.now.low in
    let pages = c.args.pages.now in
    let last = c.args.last.now in
    let n = c.partition_point-before.result in
    let within : n < length pages = omega (arith, c.partition_point-before.ensures.bound, c.if-before-pages.false) in
    let page_is : c.rows.result.now ≡ get_or pages n [] = c.rows.ensures ∙ c.index-pages-before.is ∙ get_or_default pages n c.index-pages-before.result [] within in
    let point = IsPartitionPoint-from_clause (ends_with (is_before low)) pages n c.partition_point-before.ensures.partitioned (pages_parted (is_before low) (falls_before low) pages (rises_left key_cmp_total key_of_entry (rows_of pages) last c.requires.in_order) c.requires.used) (λ a r f called. (search rules, search rules)) in
    ap (λ (rows : List Entry). rows ++ (rows_of (take (length pages - (n + 1)) (drop (n + 1) pages)) ++ last)) c.from_low-2.ensures
    ∙ from_page (is_before low) (falls_before low) pages last n c.requires.in_order point c.rows.result.now within page_is
