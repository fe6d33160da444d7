use Rattle.bf_machine.proofs.interleaving.Flipping.{flip_is_alone, flip_is_whole}
use Rattle.bf_machine.proofs.interleaving_laws.a_flip_stands_alone.Goals as goal

pub returns-clause-whole : goal.returns-clause-whole
returns-clause-whole c = λ start m s o plan kept there flips. flip_is_whole start m kept s o plan there flips

pub returns-clause-alone : goal.returns-clause-alone
returns-clause-alone c = λ start m s t o other plan kept there flips apart is_open. flip_is_alone start m kept s o plan there flips t other apart is_open
