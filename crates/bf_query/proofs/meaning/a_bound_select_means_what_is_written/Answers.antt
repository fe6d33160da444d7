use Rattle.bf_live.proofs.querying.AsWritten.{select_law}
use Rattle.bf_query.proofs.meaning.a_bound_select_means_what_is_written.Goals as goal

pub returns : goal.returns
returns c = record {
  reply = λ commit db in_block s act table bound is on. (select_law commit db in_block s act table bound is on).0;
  database = λ commit db in_block s act table bound is on. (select_law commit db in_block s act table bound is on).1;
}
