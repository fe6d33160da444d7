use Rattle.std.proofs.Common.{map, sym, ap, ap₂, ◌∙◌}
use Rattle.std.specs.Prelude.{option_map}
use Rattle.std.proofs.lemmas.Result.{IfOk-weaker}
use Rattle.bf_heap.specs.Heaps.{Entry}
use Rattle.bf_image.specs.BoundArms.{entries_of}
use Rattle.bf_image.specs.Giving.{makes_any}
use Rattle.bf_image.proofs.giving.ValueRows.{gives_of_other, gives_of_own}
use Rattle.bf_image.proofs.parting.FrozenValues.{has_index, its_arm, its_index}
use Rattle.bf_image.proofs.parting.ValueRows.{rows_at, from_rows_with, joined_rows_with}
use Rattle.bf_image.proofs.frozen_unit.FrozenUnit.gives_under.Goals as goal

-- the unit's arm is of another target
pub returns-then-arm-target : goal.returns-then-arm-target
returns-then-arm-target c =
    let unit = c.args.self.now in
    let bound = c.in-Some.arm in
    let is = its_arm unit c.requires.unit bound c.in-Some.is in
    sym (gives_of_other unit.migration.now c.requires.unit.lawful unit.number bound is c.args.target c.requires.there c.args.value.now c.if-arm-target.true)

-- a unit by values has an index
pub returns-in_default-index : goal.returns-in_default-index
returns-in_default-index c = absurd (has_index c.args.self.now c.requires.unit c.in-Some.arm c.in-Some.is c.in_default-index.is)

pub returns : goal.returns
returns c =
    let unit = c.args.self.now in
    let m = unit.migration.now in
    let bound = c.in-Some.arm in
    let value = c.args.value.now in
    let is = its_arm unit c.requires.unit bound c.in-Some.is in
    let index = c.in-Some-index.index.now in
    let indexed = its_index unit c.requires.unit bound c.in-Some.is c.in-Some-index.index c.in-Some-index.is in
    IfOk-weaker c.makes_any_among.result _ _
    (λ gives made.
    made ∙ ap₂ (makes_any bound.placed.now)
    (ap (rows_at (map (λ (e : Entry). e.1) bound.from.now.rows)) c.positions-from.ensures ∙ from_rows_with m bound.target is.arm bound is.frozen is.target index indexed value)
    (ap (rows_at (map (λ (e : Entry). e.1) (entries_of (option_map (λ j. j.now) bound.join)))) c.joined_positions-join.ensures
    ∙ joined_rows_with m bound.target is.arm bound is.frozen is.target index indexed value)
    ∙ sym (gives_of_own m c.requires.unit.lawful unit.number bound is c.args.target c.requires.there value c.if-arm-target.false))
    c.makes_any_among.ensures
