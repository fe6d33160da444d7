use Rattle.bf_demo.proofs.Counting.{each_group}
use Rattle.bf_demo.proofs.LastReplies.{shows}
use Rattle.bf_demo.proofs.Telling.{tells}
use Rattle.bf_demo.proofs.laws.the_last_session_is_told.Goals as goal

pub returns : goal.returns
returns c = λ n transcripts history some few did answered many.
    tells n transcripts answered (shows n some few transcripts history did (each_group n history did.whole_groups did.in_order many))
