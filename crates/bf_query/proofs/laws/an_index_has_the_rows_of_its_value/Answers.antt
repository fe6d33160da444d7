use Rattle.bf_txn.specs.Writes.{writes_to}
use Rattle.bf_query.proofs.IndexRows.{value_selected}
use Rattle.bf_access.proofs.FixedValue.{value_held}
use Rattle.bf_access.proofs.Listing.{entries_at-index}
use Rattle.bf_query.proofs.laws.an_index_has_the_rows_of_its_value.Goals as goal

pub returns : goal.returns
returns c = record {
  value = λ cond columns row fixed holds. value_held cond columns row fixed holds;
  entries = entries_at-index;
  rows = λ cond columns entries writes table fixed in_order. value_selected cond columns fixed entries (writes_to table writes) in_order;
}
