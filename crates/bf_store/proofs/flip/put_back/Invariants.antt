use Rattle.std.proofs.Common.{◌≡◌}
use Rattle.std.specs.Prelude.{fold}
use Rattle.std.specs.Vec.Iter.{into_iter_items}
use Rattle.bf_store.specs.Flips.{MayComeBack, with_back}
use Rattle.bf_store.proofs.flip.put_back.Given as goal

-- those that are left may come back, and then all are back
abbrev pub invariant-loop-old : goal.invariant-loop-old
invariant-loop-old l = record {
  can : (goal.iterator-loop-old).can_next l.old-iterator;
  ends : (goal.iterator-loop-old).is_finite l.old-iterator;
  may : MayComeBack l.live (into_iter_items l.old-iterator);
  back : fold with_back l.live (into_iter_items l.old-iterator) ≡ fold with_back l.fn.live l.fn.frozen.items;
}
