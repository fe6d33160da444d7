use Rattle.std.proofs.Common.{◌<◌, ◌≤◌, length, length-set, set, is_some, refl, sym, ap, ◌∙◌, arith}
use Rattle.std.specs.BTreeMap.{is_at}
use Rattle.std.specs.Map.{remove_entry}
use Rattle.bf_store.specs.ByUnit.{from_unit}
use Rattle.bf_store.specs.States.{granule_cmp}
use Rattle.bf_store.proofs.ByUnit.{found_in_unit, nothing_removed, removal_passes}
use Rattle.bf_store.proofs.Kept.{changed, kept_alike, kept_unmarked, none_taken, some_counted, taken}
use Rattle.bf_store.proofs.Marking.{without}
use Rattle.bf_store.proofs.done.Done.unmark_one.Goals.{else-unit-len-via-then-unit-len+else-unmark, else-unit-len-via-else-unit-len}
use Rattle.bf_store.proofs.done.Done.unmark_one.Goals as goal

pub overflow_sub-self : goal.overflow_sub-self
overflow_sub-self c =
    let ms = c.self.inside.units.items in
    let g = c.args.granule.now in
    let in_range : g.unit < length ms = omega (arith, c.if-unit-len.true, c.len.ensures, c.self.inside.units.ok.0) in
    let found = found_in_unit g.unit g.place 0 ms g.unit c.index_mut.result.now (omega arith) in_range c.index_mut.ensures.value in
    some_counted ms c.self.inside.count g c.self.invariant (ap is_some (sym found) ∙ sym (c.unmark.ensures.had g.unit) ∙ c.if-unmark.true)

pub invariant_of-self : goal.invariant_of-self
invariant_of-self c =
    let ms = c.self.inside.units.items in
    let g = c.args.granule.now in
    let m = c.unmark.new.self in
    let x = c.index_mut.result.now in
    let in_range : g.unit < length ms = omega (arith, c.if-unit-len.true, c.len.ensures, c.self.inside.units.ok.0) in
    let few : length (set ms g.unit m) ≤ 256 = omega (arith, length-set ms g.unit m, c.self.invariant.few) in
    let found = found_in_unit g.unit g.place 0 ms g.unit x (omega arith) in_range c.index_mut.ensures.value in
    let there = ap is_some (sym found) ∙ sym (c.unmark.ensures.had g.unit) ∙ c.if-unmark.true in
    kept_unmarked ms (set ms g.unit m) c.self.inside.count g c.self.invariant few (changed ms ms g (remove_entry (is_at (granule_cmp g))) (removal_passes granule_cmp g) x m in_range c.index_mut.ensures.value (c.unmark.ensures.unmarked g.unit) refl) there

pub invariant_of-self-else-unmark : goal.invariant_of-self-else-unmark
invariant_of-self-else-unmark c =
    let ms = c.self.inside.units.items in
    let g = c.args.granule.now in
    let m = c.unmark.new.self in
    let x = c.index_mut.result.now in
    let in_range : g.unit < length ms = omega (arith, c.if-unit-len.true, c.len.ensures, c.self.inside.units.ok.0) in
    let few : length (set ms g.unit m) ≤ 256 = omega (arith, length-set ms g.unit m, c.self.invariant.few) in
    let found = found_in_unit g.unit g.place 0 ms g.unit x (omega arith) in_range c.index_mut.ensures.value in
    let none = ap is_some (sym found) ∙ sym (c.unmark.ensures.had g.unit) ∙ c.if-unmark.false in
    kept_alike ms (set ms g.unit m) c.self.inside.count c.self.invariant
    (changed ms ms g (remove_entry (is_at (granule_cmp g))) (removal_passes granule_cmp g) x m in_range c.index_mut.ensures.value (c.unmark.ensures.unmarked g.unit) refl ∙ nothing_removed (is_at (granule_cmp g)) (from_unit 0 ms) none)
    few

pub returns-then-unmark : goal.returns-then-unmark
returns-then-unmark c =
    let ms = c.self.inside.units.items in
    let g = c.args.granule.now in
    let m = c.unmark.new.self in
    let in_range : g.unit < length ms = omega (arith, c.if-unit-len.true, c.len.ensures, c.self.inside.units.ok.0) in
    taken ms (set ms g.unit m) c.self.inside.count g c.self.invariant
    (changed ms ms g (remove_entry (is_at (granule_cmp g))) (removal_passes granule_cmp g) c.index_mut.result.now m in_range c.index_mut.ensures.value (c.unmark.ensures.unmarked g.unit) refl)
    ∙ ap (without g) c.self.view_is

pub returns-else-unit-len : goal.returns-else-unit-len
returns-else-unit-len c =
    let ms = c.self.inside.units.items in
    let g = c.args.granule.now in
    elim c.else-unit-len.branch [
      | else-unit-len-via-then-unit-len+else-unmark w ↦
          let in_range : g.unit < length ms = omega (arith, w.if-unit-len.true, c.len.ensures, c.self.inside.units.ok.0) in
          let m = w.unmark.new.self in
          w.self-is ∙ taken ms (set ms g.unit m) c.self.inside.count g c.self.invariant
          (changed ms ms g (remove_entry (is_at (granule_cmp g))) (removal_passes granule_cmp g) w.index_mut.result.now m in_range w.index_mut.ensures.value (w.unmark.ensures.unmarked g.unit) refl)
          ∙ ap (without g) c.self.view_is
      | else-unit-len-via-else-unit-len w ↦
          let beyond : length ms ≤ g.unit = omega (arith, w.if-unit-len.false, c.len.ensures, c.self.inside.units.ok.0) in
          w.self-is ∙ sym c.self.view_is ∙ none_taken ms c.self.inside.count g c.self.invariant beyond ∙ ap (without g) c.self.view_is
    ]
