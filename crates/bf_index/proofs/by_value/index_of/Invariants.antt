use Rattle.std.proofs.Common.{◌≡◌, List, take, drop}
use Rattle.std.specs.BTreeMap as tree
use Rattle.bf_base.specs.declared.value.Value.{Value}
use Rattle.bf_base.specs.Values.{key_cmp}
use Rattle.bf_index.specs.ByValues.{values_at}
use Rattle.bf_index.proofs.Indexed.{noted}
use Rattle.bf_index.proofs.by_value.index_of.Given as goal

-- the rows that are left, and what the index has of those before
abbrev pub invariant-loop-position : goal.invariant-loop-position
invariant-loop-position l = record {
  left : l.rows ≡ drop l.position l.heap;
  ordered : tree.IsOrdered key_cmp l.index;
  so_far : (value : List Value) → tree.get key_cmp l.index value ≡ noted value (take l.position (values_at l.places l.heap));
}
