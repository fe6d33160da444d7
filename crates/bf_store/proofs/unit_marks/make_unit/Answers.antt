use Rattle.std.proofs.Common.{◌∷◌, List, [], length, length-append, ap, ◌∙◌, arith}
use Rattle.bf_store.specs.ByUnit.{from_unit}
use Rattle.bf_store.specs.declared.unit_marks.UnitMarks.{UnitMarks}
use Rattle.bf_store.proofs.ByUnit.{empty_unit}
use Rattle.bf_store.proofs.unit_marks.make_unit.Goals as goal

pub loop-alloc-preserved : goal.loop-alloc-preserved
loop-alloc-preserved c =
    let before = c.loop-alloc.units.items in
    let new = c.new.result in
    record {
      marks = ap (from_unit 0) c.in_ok-push.ensures.items ∙ empty_unit 0 before new c.new.ensures ∙ c.loop-alloc.invariant.marks;
      few = omega (arith, ap (λ (ms : List UnitMarks). length ms) c.in_ok-push.ensures.items, length-append before (new ∷ []), c.loop-alloc-test.true, c.len.ensures, c.loop-alloc.units.ok.0, c.ranges.unit.fits);
    }
