use Rattle.bf_store.proofs.moving.Unordered.{same_pending, same_view}
use Rattle.bf_store.proofs.laws.the_order_of_moves_is_not_seen.Goals as goal

pub returns : goal.returns
returns c = record {
  pending = same_pending;
  view = λ lazy last others same. same_view last others same lazy.live lazy.records;
}
