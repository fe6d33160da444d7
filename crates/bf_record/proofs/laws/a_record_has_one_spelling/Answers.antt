use Rattle.bf_record.specs.Apart.{changes_apart}
use Rattle.bf_record.proofs.laws.a_record_has_one_spelling.Goals as goal

pub returns : goal.returns
returns c = changes_apart
