use Rattle.std.proofs.Common.{◌≡◌, ◌∙◌, List, Some, ap, sym, refl}
use Rattle.std.specs.Prelude.{slice_get}
use Rattle.std.specs.Option.{option_and_then}
use Rattle.std.proofs.lemmas.Option.{slice_get_read}
use Rattle.bf_tree.specs.declared.plan.PlacedArm.{PlacedArm}
use Rattle.bf_image.proofs.planning.Sourced.{placed_at}
use Rattle.bf_image.proofs.migration.Migration.arms_at.Goals as goal

pub returns-clause-placed : goal.returns-clause-placed
returns-clause-placed c =
    let m = c.args.self.now in
    let target = c.args.target in
    let number = c.args.number in
    let arms : List PlacedArm = c.in_ok-get-2.field-0.now in
    let here : slice_get m.plan.arms target ≡ Some arms = ap (λ xs. slice_get xs target) (sym c.as_slice-arms.ensures) ∙ slice_get_read c.as_slice-arms.result.now _ target _ refl c.in_ok-get-2.ensures.lookup.3.0 c.in_ok-get-2.ensures.lookup.1 in
    let at : slice_get arms number ≡ Some c.in_ok-get-4.field-0.now = ap (λ xs. slice_get xs number) (sym c.as_slice-placed.ensures) ∙ slice_get_read c.as_slice-placed.result.now _ number _ refl c.in_ok-get-4.ensures.lookup.3.0 c.in_ok-get-4.ensures.lookup.1 in
    sym at ∙ ap (option_and_then (λ (xs : List PlacedArm). slice_get xs number)) (sym here) ∙ placed_at m c.requires.lawful target number
