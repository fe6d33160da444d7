use Rattle.std.proofs.Common.{◌≡◌, ◌++◌, ◌+◌, ◌≤◌, length, map, vec_capacity}
use Rattle.std.specs.Vec.Iter.{into_iter_items}
use Rattle.bf_machine.proofs.so_far.all_replies.Given as goal

abbrev pub invariant-loop-so_far : goal.invariant-loop-so_far
invariant-loop-so_far l = record {
  can : (goal.iterator-loop-so_far).can_next l.so_far-iterator;
  ends : (goal.iterator-loop-so_far).is_finite l.so_far-iterator;
  left : l.yielded ++ into_iter_items l.so_far-iterator ≡ l.fn.sessions.items;
  put : l.transcripts.items ≡ map (λ so_far. so_far.replies.items) l.yielded;
  room : length l.transcripts.items + length (into_iter_items l.so_far-iterator) ≤ vec_capacity l.transcripts;
}
