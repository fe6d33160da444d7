use Rattle.std.proofs.Common.{[]}
use Rattle.bf_run.proofs.crashing.Beside.{events_keep, starts}
use Rattle.bf_run.proofs.journal_laws.every_crash_leaves_a_prefix.Goals as goal

pub returns-clause-begins : goal.returns-clause-begins
returns-clause-begins g c = λ start m log kept on alone. starts start m log kept on alone

pub returns-clause-goes_on : goal.returns-clause-goes_on
returns-clause-goes_on g c = λ start m next j k opened ended keeps kept was.
    (events_keep (λ log t u left le leaves. (leaves.0, (leaves.1.0, g.met.D.Disk.earlier log.disk t u leaves.1.0 le leaves.1.1, leaves.1.2)))
    start opened (λ j. j.log) ended m j next k kept was keeps).1

pub returns-clause-whole : goal.returns-clause-whole
returns-clause-whole g c = λ start m next j k keeps kept on alone.
    (events_keep (λ log t u left le leaves. (leaves.0, (leaves.1.0, g.met.D.Disk.earlier log.disk t u leaves.1.0 le leaves.1.1, leaves.1.2)))
    start j.log (λ j. j.log) [] m j next k kept (starts start m j.log kept on alone) keeps).1
