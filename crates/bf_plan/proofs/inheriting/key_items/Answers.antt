use Rattle.std.proofs.Common.{ℕ, List, [], ◌∷◌, ◌++◌, Option, sym, ap₂, ◌∙◌}
use Rattle.std.proofs.lemmas.List.{map_more}
use Rattle.bf_plan.specs.Arms.{key_item}
use Rattle.bf_plan.proofs.inheriting.key_items.Goals as goal

pub loop-place-preserved : goal.loop-place-preserved
loop-place-preserved c =
    c.in_ok-push.ensures.items ∙ ap₂ (λ (found : List (Option ℕ)) (more : Option ℕ). found ++ more ∷ []) c.loop-place.invariant c.key_item.ensures
    ∙ sym (map_more (key_item c.args.items.now) c.args.places.now c.loop-place.place-index 0 c.loop-place-test.true)
