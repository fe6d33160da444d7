use Rattle.bf_access.proofs.Within.{key_within}
use Rattle.bf_query.proofs.laws.a_key_range_has_the_keys_of_its_rows.Goals as goal

pub returns : goal.returns
returns c = key_within
