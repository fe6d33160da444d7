use Rattle.std.proofs.Common.{◌≡◌, ◌≤◌, ◌++◌, List, flat_map, length, sym, ap, ◌∙◌, append-nil, arith}
use Rattle.std.specs.Global.{Vec}
use Rattle.std.specs.List.{range_with_len}
use Rattle.std.specs.Option.{option_to_list}
use Rattle.bf_base.specs.declared.granule.Granule.{Granule}
use Rattle.bf_image.proofs.planning.Units.{units_few}
use Rattle.bf_transpose.specs.Candidates.{candidate_in}
use Rattle.bf_transpose.proofs.Possible.{blocks_more}
use Rattle.bf_transpose.proofs.by_key.add_candidates.Goals as goal
use Rattle.bf_transpose.proofs.by_key.add_candidates.Goals.{in-Some+in_ok-push, in_default}

pub overflow_cast-number : goal.overflow_cast-number
overflow_cast-number c =
    let few : length c.args.migration.now.plan.units ≤ 12 = units_few c.args.migration.now c.requires.lawful in
    omega (arith, few, c.loop-number-test.true, c.len-number-end.ensures)

pub loop-number-preserved : goal.loop-number-preserved
loop-number-preserved c =
    let f = candidate_in c.args.migration.now c.args.target c.args.key.now in
    let before = c.args.found.now.items in
    let so_far = c.loop-number.found.items in
    let n = c.loop-number.number in
    elim c.match-branch-2.branch [
      | in-Some+in_ok-push w ↦
          blocks_more f before so_far _ n c.loop-number.invariant
          (ap (λ (gs : Vec Granule). gs.items) w.found-is ∙ w.in_ok-push.ensures.items
          ∙ ap (λ (gs : List Granule). so_far ++ gs) (ap option_to_list (sym w.in-Some.is) ∙ c.in_ok-granule.ensures))
      | in_default w ↦
          blocks_more f before so_far _ n c.loop-number.invariant
          (ap (λ (gs : Vec Granule). gs.items) w.found-is ∙ sym (append-nil so_far)
          ∙ ap (λ (gs : List Granule). so_far ++ gs) (ap option_to_list (sym w.in_default.is) ∙ c.in_ok-granule.ensures))
    ]

pub returns : goal.returns
returns c =
    let f = candidate_in c.args.migration.now c.args.target c.args.key.now in
    let all : c.loop-number.number ≡ length c.args.migration.now.plan.units = omega (arith, c.loop-number-test.false, c.loop-number.auto.number-end, c.len-number-end.ensures) in
    c.loop-number.invariant ∙ ap (λ n. c.args.found.now.items ++ flat_map f (range_with_len 0 n)) all
