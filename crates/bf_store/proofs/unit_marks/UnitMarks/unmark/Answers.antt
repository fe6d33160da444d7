use Rattle.std.proofs.Common.{ℕ, List, ◌++◌, is_some, sym, ap, ◌∙◌}
use Rattle.std.specs.BTreeMap.{is_at}
use Rattle.std.specs.Map.{lookup, remove_entry}
use Rattle.bf_base.specs.declared.granule.Place.{Place}
use Rattle.bf_base.specs.declared.value.Value.{Value}
use Rattle.bf_store.specs.ByUnit.{at_place, of_rows, of_unit, of_values}
use Rattle.bf_store.specs.States.{granule_cmp}
use Rattle.bf_store.proofs.ByUnit.{row_found, row_unmarked, value_found, value_unmarked}
use Rattle.bf_store.proofs.unit_marks.UnitMarks.unmark.Goals as goal

pub returns-in-Row-clause-unmarked : goal.returns-in-Row-clause-unmarked
returns-in-Row-clause-unmarked c =
    let m = c.args.self.now in
    λ unit. ap (λ (es : List (ℕ × ℕ)). of_rows unit es ++ of_values unit m.values.entries) c.take.ensures.taken
    ∙ row_unmarked unit m.rows m.values.entries c.in-Row.position
    ∙ ap (λ (p : Place). remove_entry (is_at (granule_cmp (at_place unit p))) (of_unit unit m)) (sym c.in-Row.is)

pub returns-in-Row-clause-had : goal.returns-in-Row-clause-had
returns-in-Row-clause-had c =
    let m = c.args.self.now in
    λ unit. c.take.ensures.had
    ∙ ap is_some (row_found unit m.rows m.values.entries c.in-Row.position
    ∙ ap (λ (p : Place). lookup (is_at (granule_cmp (at_place unit p))) (of_unit unit m)) (sym c.in-Row.is))

pub returns-in-Group-clause-unmarked : goal.returns-in-Group-clause-unmarked
returns-in-Group-clause-unmarked c =
    let m = c.args.self.now in
    λ unit. ap (λ (es : List (List Value × ℕ)). of_rows unit m.rows ++ of_values unit es) c.remove.ensures.entries
    ∙ value_unmarked unit m.rows m.values.entries c.in-Group.value
    ∙ ap (λ (p : Place). remove_entry (is_at (granule_cmp (at_place unit p))) (of_unit unit m)) (sym c.in-Group.is)

pub returns-in-Group-clause-had : goal.returns-in-Group-clause-had
returns-in-Group-clause-had c =
    let m = c.args.self.now in
    λ unit. c.is_some.ensures
    ∙ ap is_some (c.remove.ensures.value ∙ value_found unit m.rows m.values.entries c.in-Group.value
    ∙ ap (λ (p : Place). lookup (is_at (granule_cmp (at_place unit p))) (of_unit unit m)) (sym c.in-Group.is))
