use Rattle.std.proofs.Common.{Bor, List, [], ◌++◌, flat_map, ap, sym, ◌∙◌}
use Rattle.std.specs.List.{AllByRecursion}
use Rattle.std.proofs.lemmas.List.{take_all}
use Rattle.std.proofs.lemmas.List.Elements.{All-from_recursion}
use Rattle.bf_base.specs.declared.row.Row.{Row}
use Rattle.bf_base.specs.declared.value.Value.{Value}
use Rattle.bf_image.specs.ArmRows.{CanMatch, rows_of_match}
use Rattle.bf_image.proofs.arm_rows.Made.{more_behind, one_of, pairs_made, pairs_unobjected}
use Rattle.bf_image.proofs.arm_rows.rows_of_pairs.Goals as goal

pub add_matches-requires : goal.add_matches-requires
add_matches-requires c =
    let arm = c.args.arm.now in
    let on = c.args.on.now in
    let join = c.args.join.now in
    let left = c.left-item.result in
    All-from_recursion (λ right. CanMatch arm on (left.now ++ right.now)) join
    (one_of c.args.from.now c.loop-left.left-index left c.loop-left-test.true c.left-item.is (λ left. AllByRecursion (λ right. CanMatch arm on (left.now ++ right.now)) join)
    (pairs_unobjected (λ row. row.now) arm on c.requires.on c.args.from.now join c.requires.one c.requires.can))

pub loop-left-preserved : goal.loop-left-preserved
loop-left-preserved c =
    more_behind c.args.from.now c.loop-left.left-index c.left-item.result c.loop-left-test.true c.left-item.is
    (λ left. flat_map (λ right. rows_of_match c.args.arm.now c.args.on.now (left.now ++ right.now)) c.args.join.now) [] c.loop-left.made.items _ c.loop-left.invariant c.in_ok-add_matches.ensures

pub returns : goal.returns
returns c =
    let made : Bor Row → List (List Value) = λ left. flat_map (λ right. rows_of_match c.args.arm.now c.args.on.now (left.now ++ right.now)) c.args.join.now in
    c.loop-left.invariant ∙ ap (flat_map made) (take_all c.loop-left.left-index c.args.from.now c.loop-left-test.false)
    ∙ sym (pairs_made (λ row. row.now) c.args.arm.now c.args.on.now c.requires.on c.args.from.now c.args.join.now c.requires.one)
