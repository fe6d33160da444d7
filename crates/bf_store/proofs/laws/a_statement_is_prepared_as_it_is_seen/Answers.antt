use Rattle.bf_store.proofs.seeing.Preparing.{prepared_as_seen, cover_is_need}
use Rattle.bf_store.proofs.laws.a_statement_is_prepared_as_it_is_seen.Goals as goal

pub returns : goal.returns
returns c = record {
  prepared = λ lazy in_block s is. prepared_as_seen lazy is in_block s;
  need = λ lazy last in_block s bound is there prepared. cover_is_need lazy is last in_block s bound there prepared;
}
