use Rattle.std.proofs.Common.{sym, ap, ◌∙◌}
use Rattle.std.specs.BTreeMap.{is_at}
use Rattle.std.specs.Map.{lookup}
use Rattle.bf_base.specs.declared.granule.Place.{Place}
use Rattle.bf_store.specs.ByUnit.{at_place, of_unit}
use Rattle.bf_store.specs.States.{granule_cmp}
use Rattle.bf_store.proofs.ByUnit.{row_found, value_found}
use Rattle.bf_store.proofs.unit_marks.UnitMarks.number.Goals as goal

pub returns-in-Row : goal.returns-in-Row
returns-in-Row c =
    let m = c.args.self.now in
    λ unit. c.get.ensures ∙ row_found unit m.rows m.values.entries c.in-Row.position
    ∙ ap (λ (p : Place). lookup (is_at (granule_cmp (at_place unit p))) (of_unit unit m)) (sym c.in-Row.is)

pub returns-in-Group : goal.returns-in-Group
returns-in-Group c =
    let m = c.args.self.now in
    λ unit. c.copied.ensures ∙ c.get-in-Group.ensures.value ∙ value_found unit m.rows m.values.entries c.in-Group.value
    ∙ ap (λ (p : Place). lookup (is_at (granule_cmp (at_place unit p))) (of_unit unit m)) (sym c.in-Group.is)
