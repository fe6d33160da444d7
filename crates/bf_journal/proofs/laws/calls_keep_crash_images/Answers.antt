use Rattle.bf_journal.proofs.Runs.{run_keeps}
use Rattle.bf_journal.proofs.laws.calls_keep_crash_images.Goals as goal

pub returns : goal.returns
returns g c = λ m later kept run.
    run_keeps g.L.State.first g.L.State.Steps g.L.State.view g.L.State.run
    (λ log t u left le leaves. (leaves.0, (leaves.1.0, g.met.D.Disk.earlier log.disk t u leaves.1.0 le leaves.1.1, leaves.1.2)))
    later m kept run
