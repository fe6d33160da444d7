use Rattle.std.proofs.Common.{◌≡◌, ◌++◌, replicate, vec_capacity}
use Rattle.bf_tree.specs.declared.reply.Reply.TheVariants.{Ended}
use Rattle.bf_machine.proofs.so_far.tell_cause.Given as goal

abbrev pub invariant-loop-told : goal.invariant-loop-told
invariant-loop-told l = record {
  replies : l.replies.items ≡ l.fn.replies.items ++ replicate l._told (Ended l.cause);
  capacity : vec_capacity l.replies ≡ vec_capacity l.fn.replies;
}
