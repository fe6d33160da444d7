use Rattle.std.proofs.Common.{rules, ◌≡◌, ◌<◌, true, [], ◌++◌, not, List, length, get_or, take, sym, ap, subst, ◌∙◌, arith}
use Rattle.std.proofs.lemmas.List.{get_or_default}
use Rattle.std.proofs.lemmas.List.Sorted.{IsPartitionPoint-from_clause}
use Rattle.bf_base.specs.Maps.{is_map}
use Rattle.bf_base.specs.Values.{key_cmp, key_cmp_total}
use Rattle.bf_heap.specs.Heaps.{Entry, key_of_entry}
use Rattle.bf_heap.specs.KeyRanges.{is_behind}
use Rattle.bf_heap.specs.Pages.{rows_of, ends_with}
use Rattle.bf_heap.proofs.Flat.{page_rises}
use Rattle.bf_heap.proofs.Ranges.{falls_within, pages_parted, up_to_end, up_to_page, used_front}
use Rattle.bf_heap.proofs.heap.to_high.Goals as goal

-- the closure tells of a page whether its last key does not come behind the high end
pub returns-then-whole-pages-clause-rows : goal.returns-then-whole-pages-clause-rows
returns-then-whole-pages-clause-rows c =
    let high = c.args.range.now.high in
    let pages = c.args.pages.now in
    let n = c.partition_point-whole.result in
    let point = IsPartitionPoint-from_clause (ends_with (λ key. not (is_behind high key))) pages n c.partition_point-whole.ensures.partitioned (pages_parted (λ key. not (is_behind high key)) (falls_within high) pages c.requires.in_order c.requires.used) (λ a r f called. (search rules, search rules)) in
    up_to_end (λ key. not (is_behind high key)) (falls_within high) pages n c.requires.in_order point c.if-whole-pages.true

pub to_high-requires : goal.to_high-requires
to_high-requires c =
    let pages = c.args.pages.now in
    let n = c.partition_point-whole.result in
    let within : n < length pages = omega (arith, c.partition_point-whole.ensures.bound, c.if-whole-pages.false) in
    let page_is : c.rows.result.now ≡ get_or pages n [] = c.rows.ensures ∙ c.index-pages-whole.is ∙ get_or_default pages n c.index-pages-whole.result [] within in
    subst (λ (rows : List Entry). is_map key_cmp key_of_entry rows ≡ true) (sym page_is) (page_rises key_cmp_total key_of_entry pages n within c.requires.in_order)

pub returns-clause-used : goal.returns-clause-used
returns-clause-used c = used_front c.args.pages.now c.partition_point-whole.result c.requires.used

pub returns-clause-rows : goal.returns-clause-rows
returns-clause-rows c =
    let high = c.args.range.now.high in
    let pages = c.args.pages.now in
    let n = c.partition_point-whole.result in
    let within : n < length pages = omega (arith, c.partition_point-whole.ensures.bound, c.if-whole-pages.false) in
    let page_is : c.rows.result.now ≡ get_or pages n [] = c.rows.ensures ∙ c.index-pages-whole.is ∙ get_or_default pages n c.index-pages-whole.result [] within in
    let point = IsPartitionPoint-from_clause (ends_with (λ key. not (is_behind high key))) pages n c.partition_point-whole.ensures.partitioned (pages_parted (λ key. not (is_behind high key)) (falls_within high) pages c.requires.in_order c.requires.used) (λ a r f called. (search rules, search rules)) in
    ap (λ (rows : List Entry). rows_of (take n pages) ++ rows) c.to_high.ensures
    ∙ up_to_page (λ key. not (is_behind high key)) (falls_within high) pages n c.requires.in_order point c.rows.result.now within page_is
