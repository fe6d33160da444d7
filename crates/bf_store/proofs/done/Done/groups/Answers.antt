use Rattle.std.proofs.Common.{◌<◌, ◌≤◌, List, filter, length, get_or, sym, ap, ◌∙◌, arith}
use Rattle.bf_base.specs.Lists.{rises}
use Rattle.bf_sql.specs.migrations.Lazy.{DoneGranule}
use Rattle.bf_store.specs.ByUnit.{from_unit}
use Rattle.bf_store.specs.Marks.{granules_in, is_group_of}
use Rattle.bf_store.specs.States.{granule_cmp}
use Rattle.bf_store.specs.declared.unit_marks.UnitMarks.{UnitMarks}
use Rattle.bf_store.proofs.Groups.{groups_beyond, groups_kept}
use Rattle.bf_store.proofs.Marking.{in_order_if_sorted}
use Rattle.bf_store.proofs.done.Done.groups.Goals as goal

pub returns-in-Some-clause-groups : goal.returns-in-Some-clause-groups
returns-in-Some-clause-groups c =
    let unit = c.args.unit in
    let ms = c.self.inside.units.items in
    let marks = c.in-Some.marks.now in
    let look = c.in-Some.ensures.lookup in
    let in_range : unit < length ms = omega (arith, look.3.0, ap (λ (us : List UnitMarks). length us) c.deref.ensures.value) in
    c.groups.ensures unit ∙ groups_kept unit ms marks in_range (look.1 ∙ ap (λ (us : List UnitMarks). get_or us unit marks) c.deref.ensures.value)
    ∙ ap (λ (done : List DoneGranule). length (filter (is_group_of unit) (granules_in done))) c.self.view_is

pub returns-in-None-clause-groups : goal.returns-in-None-clause-groups
returns-in-None-clause-groups c =
    let unit = c.args.unit in
    let ms = c.self.inside.units.items in
    let beyond : length ms ≤ unit = omega (arith, c.in-None.ensures.lookup.3, ap (λ (us : List UnitMarks). length us) c.deref.ensures.value) in
    groups_beyond unit ms beyond ∙ ap (λ (done : List DoneGranule). length (filter (is_group_of unit) (granules_in done))) c.self.view_is

pub returns-in-Some-clause-ordered : goal.returns-in-Some-clause-ordered
returns-in-Some-clause-ordered c = ap (λ done. rises granule_cmp (granules_in done)) (sym c.self.view_is) ∙ in_order_if_sorted (from_unit 0 c.self.inside.units.items) c.self.invariant.sorted

pub returns-in-None-clause-ordered : goal.returns-in-None-clause-ordered
returns-in-None-clause-ordered c = ap (λ done. rises granule_cmp (granules_in done)) (sym c.self.view_is) ∙ in_order_if_sorted (from_unit 0 c.self.inside.units.items) c.self.invariant.sorted
