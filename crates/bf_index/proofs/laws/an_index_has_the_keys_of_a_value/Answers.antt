use Rattle.bf_index.proofs.Keys.{keys_with-index_of}
use Rattle.bf_index.proofs.laws.an_index_has_the_keys_of_a_value.Goals as goal

pub returns : goal.returns
returns c = λ columns entries value h. keys_with-index_of value columns entries h
