use Rattle.std.proofs.Common.{List, sym, ap, subst}
use Rattle.bf_store.specs.ByUnit.{AreKept, from_unit, marks_of}
use Rattle.bf_store.specs.declared.unit_marks.UnitMarks.{UnitMarks}
use Rattle.bf_store.proofs.Kept.{kept_none}
use Rattle.bf_store.proofs.done.Done.new.Goals as goal

pub invariant_of-result : goal.invariant_of-result
invariant_of-result c = subst (λ (ms : List UnitMarks). AreKept ms 0) (sym c.new.ensures.items) kept_none

pub returns : goal.returns
returns c = ap (λ (ms : List UnitMarks). marks_of (from_unit 0 ms)) c.new.ensures.items
