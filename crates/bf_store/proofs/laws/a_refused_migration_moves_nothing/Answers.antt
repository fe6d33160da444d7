use Rattle.bf_store.proofs.changing.Changing.{refused_at_once}
use Rattle.bf_store.proofs.laws.a_refused_migration_moves_nothing.Goals as goal

pub returns : goal.returns
returns c = record {
  meant = λ lazy m r rs commit is e. (refused_at_once lazy is m r rs e).meant commit;
  need = λ lazy m r rs old first is e. (refused_at_once lazy is m r rs e).needs_none old first;
}
