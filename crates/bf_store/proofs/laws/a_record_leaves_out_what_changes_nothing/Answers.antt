use Rattle.bf_live.proofs.querying.OwnKeys.{each}
use Rattle.bf_store.proofs.seeing.Telling.{AreAlike, stand_where_seen, told_is_all, told_is_all_seen, told_legal}
use Rattle.bf_store.proofs.laws.a_record_leaves_out_what_changes_nothing.Goals as goal

pub returns : goal.returns
returns c = record {
  live = λ lazy writes is opened. told_is_all lazy is writes opened;
  view = λ lazy writes is opened. told_is_all_seen lazy is writes opened;
  legal = λ lazy writes is opened. told_legal lazy is writes opened;
  seen = λ lazy writes is opened. each (AreAlike lazy is writes opened) writes (stand_where_seen lazy is writes opened);
}
