use Rattle.bf_store.proofs.changing.Changing.{migrates, refuses}
use Rattle.bf_store.proofs.moving.Needing.{all_quiet, all_moved}
use Rattle.bf_store.proofs.laws.a_further_migration_moves_all_first.Goals as goal

pub returns : goal.returns
returns c = record {
  quiet = all_quiet;
  complete = all_moved;
  meant = λ lazy m commit is none nothing. (migrates lazy m is none nothing).meant commit;
  refused = λ lazy m r rs commit none some. refuses lazy m r rs none some commit;
}
