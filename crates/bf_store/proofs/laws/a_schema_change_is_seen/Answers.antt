use Rattle.bf_store.proofs.changing.Changing.{with_new_table, with_new_index}
use Rattle.bf_store.proofs.laws.a_schema_change_is_seen.Goals as goal

pub returns : goal.returns
returns c = record {
  table = λ lazy table is absent database. with_new_table lazy is table absent database;
  index = λ lazy index is database. with_new_index lazy index is database;
}
