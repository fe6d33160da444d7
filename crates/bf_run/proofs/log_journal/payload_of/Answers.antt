use Rattle.std.proofs.Common.{◌≡◌, true}
use Rattle.bf_run.specs.Answers.{is_of_group}
use Rattle.bf_run.specs.Records.{IsRecordOf}
use Rattle.bf_run.proofs.Recorded.{spelled_by_group}
use Rattle.bf_run.proofs.log_journal.payload_of.Goals as goal

pub returns-clause-own : goal.returns-clause-own
returns-clause-own c = λ lazy next told own.
    let tells : IsRecordOf lazy c.in_ok-change.change next = rw c.in_ok-change.was at told in
    let of_group : is_of_group c.in_ok-change.change ≡ true = rw c.in_ok-change.was at own in
    spelled_by_group (λ bytes. bytes.items) lazy next c.in_ok-change.change tells of_group c.encode.result c.encode.ensures.bytes c.encode.ensures.spelled
