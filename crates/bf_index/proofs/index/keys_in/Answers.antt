use Rattle.std.proofs.Common.{◌≡◌, ◌<◌, ◌-◌, true, [], List, length, get_or, take, drop, sym, ap, subst, ◌∙◌, arith}
use Rattle.std.proofs.lemmas.List.{take_all, length-drop, get_or_default}
use Rattle.bf_base.specs.declared.value.Value.{Value}
use Rattle.bf_base.specs.Maps.{is_map}
use Rattle.bf_heap.proofs.Flat.{page_rises}
use Rattle.bf_index.specs.Pages.{begins_above, pairs_of, IsPageOf}
use Rattle.bf_index.specs.Pairs.{Pair, itself, keys_with, pair_cmp}
use Rattle.bf_index.proofs.Finds.{pages_end, pages_from, rises_from}
use Rattle.bf_index.proofs.Orders.{pair_cmp_total}
use Rattle.bf_index.proofs.index.keys_in.Goals as goal

pub copy_keys-requires : goal.copy_keys-requires
copy_keys-requires c =
    let pages = c.args.pages.now in
    let n = c.page_of-first.result in
    let i = c.loop-page.page-index in
    let rest : List (List Pair) = drop n pages in
    let items_are : take (length pages - n) rest ≡ rest = take_all (length pages - n) rest (omega (arith, length-drop n pages)) in
    let within : i < length rest = subst (λ (ps : List (List Pair)). i < length ps) items_are c.loop-page-test.true in
    let page_is : c.page-item.result ≡ get_or rest i [] = c.page-item.is ∙ ap (λ (ps : List (List Pair)). get_or ps i c.page-item.result) items_are ∙ get_or_default rest i c.page-item.result [] within in
    subst (λ (page : List Pair). is_map pair_cmp itself page ≡ true) (sym page_is) (page_rises pair_cmp_total itself rest i within (rises_from c.args.value.now pages n c.requires.in_order))

pub returns-then-begins_above : goal.returns-then-begins_above
returns-then-begins_above c =
    let pages = c.args.pages.now in
    let v = c.args.value.now in
    let n = c.page_of-first.result in
    let i = c.loop-page.page-index in
    let rest : List (List Pair) = drop n pages in
    let items_are : take (length pages - n) rest ≡ rest = take_all (length pages - n) rest (omega (arith, length-drop n pages)) in
    let within : i < length rest = subst (λ (ps : List (List Pair)). i < length ps) items_are c.loop-page-test.true in
    let page_is : c.page-item.result ≡ get_or rest i [] = c.page-item.is ∙ ap (λ (ps : List (List Pair)). get_or ps i c.page-item.result) items_are ∙ get_or_default rest i c.page-item.result [] within in
    let at = subst (λ (key : List Value). IsPageOf pages (v, key) n) (c.of-least.ensures ∙ c.new.ensures.items) c.page_of-first.ensures in
    let above = ap (begins_above v) (sym page_is) ∙ sym c.begins_above.ensures ∙ c.if-begins_above.true in
    c.loop-page.invariant ∙ ap (λ (ps : List (List Pair)). keys_with (pairs_of (take i ps)) v) items_are
    ∙ pages_end v rest i (rises_from v pages n c.requires.in_order) within above
    ∙ pages_from v pages n c.requires.in_order c.requires.used at

pub returns : goal.returns
returns c =
    let pages = c.args.pages.now in
    let v = c.args.value.now in
    let n = c.page_of-first.result in
    let rest : List (List Pair) = drop n pages in
    let items : List (List Pair) = take (length pages - n) rest in
    let items_are : items ≡ rest = take_all (length pages - n) rest (omega (arith, length-drop n pages)) in
    let at = subst (λ (key : List Value). IsPageOf pages (v, key) n) (c.of-least.ensures ∙ c.new.ensures.items) c.page_of-first.ensures in
    c.loop-page.invariant ∙ ap (λ (ps : List (List Pair)). keys_with (pairs_of ps) v) (take_all c.loop-page.page-index items c.loop-page-test.false ∙ items_are)
    ∙ pages_from v pages n c.requires.in_order c.requires.used at
