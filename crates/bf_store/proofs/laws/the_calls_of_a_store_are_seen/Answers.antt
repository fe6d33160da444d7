use Rattle.bf_store.proofs.Calls.{move_call, flip_call, commit_call, cover_has_moved}
use Rattle.bf_store.proofs.laws.the_calls_of_a_store_are_seen.Goals as goal

pub returns : goal.returns
returns c = record {
  moved = move_call;
  flipped = flip_call;
  committed = commit_call;
  needed = cover_has_moved;
}
