use Rattle.std.proofs.Common.{List, [], ◌∷◌, ◌++◌, map, take, sym, ap, ap₂, ◌∙◌, append_assoc}
use Rattle.std.specs.Global.{Vec}
use Rattle.bf_base.specs.declared.granule.Granule.{Granule}
use Rattle.bf_base.specs.declared.granule.Place.TheVariants.{Group}
use Rattle.bf_base.specs.declared.value.Value.{Value}
use Rattle.bf_sql.specs.migrations.Granules.{granule}
use Rattle.bf_index.specs.ByValues.{Valued, value_of}
use Rattle.bf_transpose.specs.Scans.{value_granules}
use Rattle.bf_transpose.proofs.Steps.{take_none, value_more}
use Rattle.bf_transpose.proofs.scan.add_values.Goals.{in-Some+in_ok-copy+in_ok-push, in_default}
use Rattle.bf_transpose.proofs.scan.add_values.Goals as goal

pub loop-at-preserved : goal.loop-at-preserved
loop-at-preserved c =
    let unit = c.args.unit in
    let n = c.loop-at.at in
    let values = c.args.values.now in
    let before = c.args.granules.now.items in
    let so_far = value_granules unit (map value_of (take n values)) in
    elim c.match-at.branch [
      | in-Some+in_ok-copy+in_ok-push w ↦
          let entry : Valued = (w.in-Some.value.now, w.in-Some.field-0-1.now) in
          ap (λ (gs : Vec Granule). gs.items) w.granules-is
          ∙ (w.in_ok-push.ensures.items
          ∙ (ap₂ (λ (gs : List Granule) (value : List Value). gs ++ granule unit (Group value) ∷ []) c.loop-at.invariant w.in_ok-copy.ensures
          ∙ (append_assoc before so_far (granule unit (Group entry.0) ∷ []) ∙ ap (λ (gs : List Granule). before ++ gs) (sym (value_more unit values n entry w.in-Some.ensures)))))
      | in_default w ↦
          ap (λ (gs : Vec Granule). gs.items) w.granules-is
          ∙ (c.loop-at.invariant ∙ ap (λ (vs : List Valued). before ++ value_granules unit (map value_of vs)) (sym (take_none values n w.in_default.ensures)))
    ]
