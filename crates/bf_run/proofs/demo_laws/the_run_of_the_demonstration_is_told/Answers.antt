use Rattle.bf_demo.proofs.Counting.{each_group}
use Rattle.bf_demo.proofs.LastReplies.{shows}
use Rattle.bf_demo.proofs.Telling.{tells}
use Rattle.bf_demo.specs.Replies.{IsReplayed}
use Rattle.bf_demo.specs.Script.{demonstration}
use Rattle.bf_sql.specs.Database.{empty_database}
use Rattle.bf_run.proofs.demo_laws.the_run_of_the_demonstration_is_told.Goals as goal

pub returns : goal.returns
returns c = λ n retries ended transcripts history sweep some few run many.
    let legal = run.history_legal in
    let replayed : IsReplayed (demonstration n) empty_database transcripts history =
    record { whole_groups = legal.whole_groups; in_order = legal.in_order; outcomes = legal.outcomes; replies = legal.replies } in
    tells n transcripts run.all_answered (shows n some few transcripts history replayed (each_group n history legal.whole_groups legal.in_order many))
