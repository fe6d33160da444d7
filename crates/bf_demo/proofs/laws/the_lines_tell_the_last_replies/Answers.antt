use Rattle.bf_demo.proofs.Lines.{tell}
use Rattle.bf_demo.proofs.laws.the_lines_tell_the_last_replies.Goals as goal

pub returns : goal.returns
returns c = λ n. tell n
