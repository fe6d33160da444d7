use Rattle.std.proofs.Common.{◌+◌, ◌<◌, ◌≤◌, Bool, List, ◌++◌, filter, length, sym, ap, ◌∙◌, append_assoc, arith}
use Rattle.std.proofs.lemmas.List.{append-nil}
use Rattle.std.proofs.lemmas.List.Elements.{filter-append}
use Rattle.bf_base.specs.declared.granule.Granule.{Granule}
use Rattle.bf_image.specs.Migrations.{units_in}
use Rattle.bf_image.proofs.planning.Units.{units_few}
use Rattle.bf_transpose.specs.Scans.{gives, granules_in}
use Rattle.bf_transpose.proofs.Units.{granules_from, granules_more, no_more_granules, units_counted}
use Rattle.bf_transpose.proofs.scan.Search.granules.Goals as goal

pub overflow_cast-unit : goal.overflow_cast-unit
overflow_cast-unit c =
    let m = c.args.self.now.migration.now in
    let few : length m.plan.units ≤ 12 = units_few m c.requires.lawful in
    omega (arith, few, c.loop-unit-test.true, c.len-unit-end.ensures)

pub loop-unit-preserved : goal.loop-unit-preserved
loop-unit-preserved c =
    let s = c.args.self.now in
    let m = s.migration.now in
    let n = c.loop-unit.unit in
    let before = c.loop-unit.granules.items in
    let test : Granule → Bool = gives m s.target s.cond.now in
    let within : n < length (units_in m) = omega (arith, units_counted m c.requires.lawful, c.loop-unit-test.true, c.len-unit-end.ensures) in
    ap (λ (gs : List Granule). gs ++ filter test (granules_from m (n + 1))) c.in_ok-add_unit.ensures
    ∙ (append_assoc before (filter test (granules_in m n)) (filter test (granules_from m (n + 1)))
    ∙ (ap (λ (gs : List Granule). before ++ gs) (sym (filter-append test (granules_in m n) (granules_from m (n + 1))) ∙ ap (filter test) (sym (granules_more m n within))) ∙ c.loop-unit.invariant))

pub returns : goal.returns
returns c =
    let s = c.args.self.now in
    let m = s.migration.now in
    let n = c.loop-unit.unit in
    let test : Granule → Bool = gives m s.target s.cond.now in
    let past : length (units_in m) ≤ n = omega (arith, units_counted m c.requires.lawful, c.loop-unit-test.false, c.len-unit-end.ensures) in
    sym (append-nil c.loop-unit.granules.items)
    ∙ (ap (λ (gs : List Granule). c.loop-unit.granules.items ++ filter test gs) (sym (no_more_granules m n past)) ∙ c.loop-unit.invariant)
