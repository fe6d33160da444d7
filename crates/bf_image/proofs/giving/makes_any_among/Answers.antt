use Rattle.std.proofs.Common.{◌≡◌, [], ◌∷◌, List, Some, None, get_or, map, sym, ap, ◌∙◌, arith}
use Rattle.std.specs.Prelude.{option_map, slice_get}
use Rattle.std.specs.Option.{option_to_list}
use Rattle.bf_base.specs.declared.value.Value.{Value}
use Rattle.bf_heap.specs.Heaps.{Entry}
use Rattle.bf_image.specs.BoundArms.{entries_of}
use Rattle.bf_image.specs.Giving.{makes_any}
use Rattle.bf_image.proofs.arm_gives.Any.{made_of_none}
use Rattle.bf_image.proofs.giving.ValueRows.{makes_of_some, makes_of_more, makes_of_none}
use Rattle.bf_image.proofs.parting.Blocks.{listed_at}
use Rattle.bf_image.proofs.parting.ValueRows.{rows_at}
use Rattle.bf_image.proofs.giving.makes_any_among.Goals as goal
use Rattle.bf_image.proofs.giving.makes_any_among.Goals.{in-Some+in_ok-makes_any_of+else-branch, in_default}

pub returns-then-branch : goal.returns-then-branch
returns-then-branch c =
    let arm = c.args.arm.now in
    let rows = arm.from.now.rows in
    let join = rows_at (map (λ (e : Entry). e.1) (entries_of (option_map (λ j. j.now) arm.join))) c.args.join.now in
    let at = get_or c.args.from.now c.loop-position.position-index 0 in
    let found : option_to_list (slice_get (map (λ (e : Entry). e.1) rows) at) ≡ c.in-Some.row.now ∷ [] = listed_at (λ (e : Entry). e.1) rows at (Some (c.in-Some.field-0-0.now, c.in-Some.row.now)) (sym c.in-Some.ensures) in
    makes_of_some arm.placed.now (map (λ (e : Entry). e.1) rows) join c.args.from.now c.loop-position.position-index (omega arith)
    (ap (λ (from : List (List Value)). makes_any arm.placed.now from join) found ∙ sym c.in_ok-makes_any_of.ensures ∙ c.if-branch.true)

pub loop-position-preserved : goal.loop-position-preserved
loop-position-preserved c =
    let arm = c.args.arm.now in
    let rows = arm.from.now.rows in
    let join = rows_at (map (λ (e : Entry). e.1) (entries_of (option_map (λ j. j.now) arm.join))) c.args.join.now in
    let at = get_or c.args.from.now c.loop-position.position-index 0 in
    makes_of_more arm.placed.now (map (λ (e : Entry). e.1) rows) join c.args.from.now c.loop-position.position-index (omega arith) c.loop-position.invariant (elim c.match-at.branch [
      | in-Some+in_ok-makes_any_of+else-branch w ↦
          let found : option_to_list (slice_get (map (λ (e : Entry). e.1) rows) at) ≡ w.in-Some.row.now ∷ [] = listed_at (λ (e : Entry). e.1) rows at (Some (w.in-Some.field-0-0.now, w.in-Some.row.now)) (sym w.in-Some.ensures) in
          ap (λ (from : List (List Value)). makes_any arm.placed.now from join) found ∙ sym w.in_ok-makes_any_of.ensures ∙ w.if-branch.false
      | in_default w ↦
          let none : option_to_list (slice_get (map (λ (e : Entry). e.1) rows) at) ≡ [] = listed_at (λ (e : Entry). e.1) rows at None (sym w.in_default.ensures) in
          ap (λ (from : List (List Value)). makes_any arm.placed.now from join) none ∙ made_of_none arm.placed.now join
    ])

pub returns : goal.returns
returns c =
    let arm = c.args.arm.now in
    makes_of_none arm.placed.now (map (λ (e : Entry). e.1) arm.from.now.rows) (rows_at (map (λ (e : Entry). e.1) (entries_of (option_map (λ j. j.now) arm.join))) c.args.join.now) c.args.from.now
    c.loop-position.position-index (omega arith) c.loop-position.invariant
