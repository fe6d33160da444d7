use Rattle.bf_store.proofs.Recorded.{after_last, after_seen, open_behind_after}
use Rattle.bf_store.proofs.seeing.Telling.{nothing_told, tells_nothing, untold_stays, untold_stays_seen}
use Rattle.bf_store.proofs.laws.a_commit_that_tells_nothing_changes_nothing.Goals as goal

pub returns : goal.returns
returns c = record {
  told = λ lazy writes. (nothing_told lazy writes, tells_nothing lazy writes);
  live = λ lazy writes is opened none. untold_stays lazy is writes opened (nothing_told lazy writes none);
  view = λ lazy writes is opened none. untold_stays_seen lazy is writes opened (nothing_told lazy writes none);
  seen = after_seen;
  last = after_last;
  others = open_behind_after;
}
