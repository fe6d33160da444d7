use Rattle.bf_store.proofs.seeing.Stepping.{step_is_seen, still_open}
use Rattle.bf_store.proofs.laws.a_step_is_seen.Goals as goal

pub returns : goal.returns
returns c = record {
  step = λ lazy before after in_block s act table answer is opened planned bound on moved step. step_is_seen lazy is before after opened in_block s planned act table bound on moved answer step;
  opened = λ lazy before after in_block s act table answer is opened planned bound on moved step. still_open lazy is before after opened in_block s planned act table bound on moved answer step;
}
