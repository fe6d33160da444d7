use Rattle.std.proofs.Common.{◌≡◌, ℕ, List, ◌++◌, sym, ap, ◌∙◌}
use Rattle.std.specs.BTreeMap.{insert_entry}
use Rattle.std.specs.Ordering.{nat_cmp}
use Rattle.std.proofs.lemmas.Result.{on_ok_weaker}
use Rattle.bf_base.specs.Values.{key_cmp}
use Rattle.bf_base.specs.declared.granule.Place.{Place}
use Rattle.bf_base.specs.declared.value.Value.{Value}
use Rattle.bf_store.specs.ByUnit.{at_place, of_rows, of_unit, of_values}
use Rattle.bf_store.specs.States.{granule_cmp}
use Rattle.bf_store.proofs.ByUnit.{row_marked, value_marked}
use Rattle.bf_store.proofs.unit_marks.UnitMarks.mark.Goals as goal

pub returns-in-Row-clause-ok : goal.returns-in-Row-clause-ok
returns-in-Row-clause-ok c =
    let m = c.args.self.now in
    let n = c.args.number in
    on_ok_weaker c.put.result
    (λ (put : c.put.new.self ≡ insert_entry nat_cmp m.rows c.in-Row.position n). λ (unit : ℕ).
    ap (λ (es : List (ℕ × ℕ)). of_rows unit es ++ of_values unit m.values.entries) put
    ∙ row_marked unit m.rows m.values.entries c.in-Row.position n
    ∙ ap (λ (p : Place). insert_entry granule_cmp (of_unit unit m) (at_place unit p) n) (sym c.in-Row.is))
    c.put.ensures.ok

pub returns-in_ok-insert-in-Group-clause-ok : goal.returns-in_ok-insert-in-Group-clause-ok
returns-in_ok-insert-in-Group-clause-ok c =
    let m = c.args.self.now in
    λ unit. ap (λ (es : List (List Value × ℕ)). of_rows unit m.rows ++ of_values unit es)
    (c.in_ok-insert-in-Group.ensures.entries ∙ ap (λ (v : List Value). insert_entry key_cmp m.values.entries v c.args.number) c.in_ok-copy-in-Group.ensures)
    ∙ value_marked unit m.rows m.values.entries c.in-Group.value c.args.number
    ∙ ap (λ (p : Place). insert_entry granule_cmp (of_unit unit m) (at_place unit p) c.args.number) (sym c.in-Group.is)
