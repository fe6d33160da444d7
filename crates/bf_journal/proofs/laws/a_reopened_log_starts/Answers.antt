use Rattle.std.proofs.Common.{◌≤◌, arith}
use Rattle.bf_journal.specs.States.{moment_of}
use Rattle.bf_journal.proofs.Runs.{starts}
use Rattle.bf_journal.proofs.laws.a_reopened_log_starts.Goals as goal

pub returns-clause-from_its_end : goal.returns-clause-from_its_end
returns-clause-from_its_end g c = λ disk state log is.
    let here : moment_of log ≤ moment_of log = omega arith in
    starts g.L.State.first g.L.State.Steps g.L.State.view g.L.State.run
    (λ log t u left le leaves. (leaves.0, (leaves.1.0, g.met.D.Disk.earlier log.disk t u leaves.1.0 le leaves.1.1, leaves.1.2)))
    state log (moment_of log) here is.alone is.alone

pub returns-clause-from_its_start : goal.returns-clause-from_its_start
returns-clause-from_its_start g c = λ disk state log is file told only.
    starts g.L.State.first g.L.State.Steps g.L.State.view g.L.State.run
    (λ log t u left le leaves. (leaves.0, (leaves.1.0, g.met.D.Disk.earlier log.disk t u leaves.1.0 le leaves.1.1, leaves.1.2)))
    state log (g.D.Disk.moment disk) is.later (is.since_start file told only) is.alone
