-- Each unit goes by rows or by values.
use Rattle.std.proofs.Common.{◌≡◌, ◌≤◌, List, ◌++◌, None, Option, Some, length, slice_get, take, sym, ap, ◌∙◌, arith}
use Rattle.std.specs.Global.{Vec}
use Rattle.std.specs.List.{enumerate_from}
use Rattle.std.specs.Option.{option_and_then}
use Rattle.bf_base.specs.declared.value.Value.{Value}
use Rattle.bf_tree.specs.declared.migration.Target.{Target}
use Rattle.bf_eager.specs.Gathering.{Numbered, gathered_of, named, parts_at, places_of_rows, places_of_values}
use Rattle.bf_image.specs.Migrations.{anchors_in, units_in, value_indexes}
use Rattle.bf_image.specs.declared.value_indexes.UnitIndex.{UnitIndex}
use Rattle.bf_eager.proofs.Counted.{few_units, units_counted}
use Rattle.bf_eager.proofs.Parting.{all_units, rows_more, values_more}
use Rattle.bf_eager.proofs.gathering.all_parts.Goals.{in-Some+in_ok-add_values-in-Some, in-None+in_ok-add_rows-in-None}
use Rattle.bf_eager.proofs.gathering.all_parts.Goals as goal

pub overflow_cast-unit : goal.overflow_cast-unit
overflow_cast-unit c =
    let m = c.args.migration.now in
    let few : length m.plan.units ≤ 12 = few_units m c.requires.lawful in
    omega (arith, few, c.loop-unit-test.true, c.len-unit-end.ensures)

pub loop-unit-preserved : goal.loop-unit-preserved
loop-unit-preserved c =
    let m = c.args.migration.now in
    let n = c.loop-unit.unit in
    let inv : named m c.loop-unit.rows.items ≡ gathered_of m (take n (enumerate_from 0 (units_in m))) = c.loop-unit.invariant in
    elim c.match-unit.branch [
      | in-Some+in_ok-add_values-in-Some w ↦
          let index = w.in-Some.index.now in
          let there : Some index ≡ option_and_then (λ (i : Option UnitIndex). i) (slice_get (value_indexes m) n) =
          w.in-Some.ensures ∙ ap (λ (is : List (Option UnitIndex)). option_and_then (λ (i : Option UnitIndex). i) (slice_get is n)) c.in_ok-indexes.ensures in
          ap (λ (rows : Vec Numbered). named m rows.items) w.rows-is
          ∙ (w.in_ok-add_values-in-Some.ensures
          ∙ (ap (λ (xs : List (Target × List Value)). xs ++ parts_at m n (places_of_values index.from)) inv ∙ sym (values_more m n index there)))
      | in-None+in_ok-add_rows-in-None w ↦
          let none : None ≡ option_and_then (λ (i : Option UnitIndex). i) (slice_get (value_indexes m) n) =
          w.in-None.ensures ∙ ap (λ (is : List (Option UnitIndex)). option_and_then (λ (i : Option UnitIndex). i) (slice_get is n)) c.in_ok-indexes.ensures in
          ap (λ (rows : Vec Numbered). named m rows.items) w.rows-is
          ∙ (w.in_ok-add_rows-in-None.ensures
          ∙ (ap (λ (xs : List (Target × List Value)). xs ++ parts_at m n (places_of_rows (anchors_in m n))) inv ∙ sym (rows_more m n none)))
    ]

pub returns : goal.returns
returns c =
    let m = c.args.migration.now in
    let all : length (units_in m) ≤ c.loop-unit.unit = omega (arith, units_counted m c.requires.lawful, c.loop-unit-test.false, c.len-unit-end.ensures) in
    c.loop-unit.invariant ∙ ap (gathered_of m) (all_units m c.loop-unit.unit all)
