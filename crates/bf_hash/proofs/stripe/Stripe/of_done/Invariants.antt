use Rattle.std.proofs.Common.{take}
use Rattle.std.specs.BTreeMap as tree
use Rattle.bf_base.specs.Values.{key_cmp}
use Rattle.bf_hash.proofs.Marks.{HasDone}
use Rattle.bf_hash.proofs.stripe.Stripe.of_done.Given as goal

abbrev pub invariant-loop-key : goal.invariant-loop-key
invariant-loop-key l =
    record {
      ordered : tree.IsOrdered key_cmp l.states;
      done : HasDone l.states (take l.key-index l.done);
    }
