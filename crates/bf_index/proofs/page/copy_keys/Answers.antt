use Rattle.std.proofs.Common.{rules, ◌≡◌, ◌<◌, ◌-◌, true, ◌++◌, ◌∷◌, [], List, length, get_or, take, drop, sym, ap, subst, ◌∙◌, arith}
use Rattle.std.proofs.lemmas.Bool.{false≢true}
use Rattle.std.proofs.lemmas.List.{take_all, length-drop, take-append-drop}
use Rattle.std.proofs.lemmas.List.Sorted.{IsPartitionPoint-from_clause}
use Rattle.bf_base.specs.declared.value.Value.{Value}
use Rattle.bf_base.specs.Maps.{is_map}
use Rattle.bf_heap.proofs.Flat.{rises_right}
use Rattle.bf_index.specs.Pairs.{Pair, itself, keys_with, pair_cmp}
use Rattle.bf_index.proofs.Finds.{BeginsAt, above_from, from_place, is_below, keys_end, keys_from, keys_more, parted}
use Rattle.bf_index.proofs.Orders.{pair_cmp_total}
use Rattle.bf_index.proofs.page.copy_keys.Goals as goal

-- the closure tells of a pair whether it is of a lesser value
pub returns-then-not-is_same : goal.returns-then-not-is_same
returns-then-not-is_same c =
    let ps = c.args.pairs.now in
    let v = c.args.value.now in
    let n = c.partition_point-before.result in
    let i = c.loop-pair.pair-index in
    let d = c.pair-item.result in
    let rest : List Pair = drop n ps in
    let items : List Pair = take (length ps - n) rest in
    let point : BeginsAt v ps n = IsPartitionPoint-from_clause (is_below v) ps n c.partition_point-before.ensures.partitioned (parted v ps c.requires) (λ a r f called. (search rules, search rules)) in
    let items_are : items ≡ rest = take_all (length ps - n) rest (omega (arith, length-drop n ps)) in
    let within : i < length rest = subst (λ (xs : List Pair). i < length xs) items_are c.loop-pair-test.true in
    let item : d ≡ get_or rest i d = c.pair-item.is ∙ ap (λ (xs : List Pair). get_or xs i d) items_are in
    let above = above_from v (get_or rest i d) (from_place v ps n i d point within) (λ same. false≢true (sym c.if-not-is_same.true ∙ c.is_same.ensures.1 (ap (λ (p : Pair). p.0) item ∙ same))) in
    let in_order = rises_right pair_cmp_total itself (take n ps) rest (subst (λ (xs : List Pair). is_map pair_cmp itself xs ≡ true) (sym (take-append-drop n ps)) c.requires) in
    c.loop-pair.invariant ∙ ap (λ (ks : List (List Value)). c.args.keys.now.items ++ ks) (ap (λ (xs : List Pair). keys_with (take i xs) v) items_are ∙ keys_end v rest i d in_order within above ∙ keys_from v ps n point)

pub loop-pair-preserved : goal.loop-pair-preserved
loop-pair-preserved c =
    let ps = c.args.pairs.now in
    let n = c.partition_point-before.result in
    let items : List Pair = take (length ps - n) (drop n ps) in
    c.in_ok-push.ensures.items ∙ ap (λ (k : List Value). c.loop-pair.keys.items ++ k ∷ []) c.in_ok-copy.ensures
    ∙ keys_more c.args.value.now items c.loop-pair.pair-index c.pair-item.result c.loop-pair-test.true c.pair-item.is (c.is_same.ensures.0 c.if-not-is_same.false) c.args.keys.now.items c.loop-pair.keys.items c.loop-pair.invariant

pub returns : goal.returns
returns c =
    let ps = c.args.pairs.now in
    let v = c.args.value.now in
    let n = c.partition_point-before.result in
    let rest : List Pair = drop n ps in
    let items : List Pair = take (length ps - n) rest in
    let point : BeginsAt v ps n = IsPartitionPoint-from_clause (is_below v) ps n c.partition_point-before.ensures.partitioned (parted v ps c.requires) (λ a r f called. (search rules, search rules)) in
    let items_are : items ≡ rest = take_all (length ps - n) rest (omega (arith, length-drop n ps)) in
    c.loop-pair.invariant ∙ ap (λ (xs : List Pair). c.args.keys.now.items ++ keys_with xs v) (take_all c.loop-pair.pair-index items c.loop-pair-test.false ∙ items_are) ∙ ap (λ (ks : List (List Value)). c.args.keys.now.items ++ ks) (keys_from v ps n point)
