use Rattle.std.proofs.Common.{◌++◌, List, [], ◌∷◌, Option, Some, flat_map, append-nil, sym, ap, ◌∙◌}
use Rattle.std.specs.Option.{option_map, option_map_or}
use Rattle.bf_base.specs.declared.granule.Granule.{Granule}
use Rattle.bf_base.specs.declared.value.Value.{Value}
use Rattle.bf_transpose.specs.Candidates.{candidates_for, candidates_in, keyed}
use Rattle.bf_transpose.proofs.by_key.candidates_of_fixed.Goals as goal

-- the table is no target
pub returns-in_default-target_of : goal.returns-in_default-target_of
returns-in_default-target_of c =
    let m = c.args.migration.now in
    let key = c.in-Some.key in
    ap Some (c.new-found.ensures.items ∙ ap (λ o. option_map_or (λ target. flat_map (candidates_in m target) (key ∷ [])) o []) c.in_default-target_of.ensures.place)
    ∙ ap (λ (fixed : Option (List Value)). option_map (candidates_for m) (keyed c.args.table.now fixed)) (sym c.in-Some.is)

pub returns : goal.returns
returns c =
    let m = c.args.migration.now in
    let key = c.in-Some.key in
    let target = c.in-Some-target_of.target in
    ap Some
    (c.in_ok-add_candidates.ensures ∙ ap (λ (gs : List Granule). gs ++ candidates_in m target key) c.new-found.ensures.items ∙ sym (append-nil (candidates_in m target key))
    ∙ ap (λ o. option_map_or (λ target. flat_map (candidates_in m target) (key ∷ [])) o []) c.in-Some-target_of.ensures.place)
    ∙ ap (λ (fixed : Option (List Value)). option_map (candidates_for m) (keyed c.args.table.now fixed)) (sym c.in-Some.is)
