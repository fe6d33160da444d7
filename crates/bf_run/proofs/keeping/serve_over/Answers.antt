-- The disk that is given back is that of the log behind the run.
use Rattle.std.proofs.Common.{sym, subst}
use Rattle.std.specs.Prelude.{Result, Ok, Err, OnErr}
use Rattle.bf_journal.specs.Leaving.{LeavesAlone}
use Rattle.bf_log.specs.Append.{disk_of}
use Rattle.bf_log.specs.declared.log.Log.{Log}
use Rattle.bf_recover.specs.Legal.{first_state}
use Rattle.bf_recover.specs.Steps.{StepsTo}
use Rattle.bf_sql.specs.migrations.Lazy.{view_of}
use Rattle.bf_run.specs.Untold.{IsBrokenOffOn}
use Rattle.bf_run.proofs.keeping.serve_over.Goals as goal

on_err_weaker : {P Q : Type 0} {A E : Type 0} (r : Result A E) → (P → Q) → OnErr r P → OnErr r Q
on_err_weaker (Ok x) weaker so = tt
on_err_weaker (Err error) weaker so = weaker so

pub returns-clause-broken_off : goal.returns-clause-broken_off
returns-clause-broken_off g c =
    let last = c.tell_run-journal.result.0.log in
    on_err_weaker c.tell_run-journal.result.1
    (λ off. subst (λ (disk : g.row.D.Denot). IsBrokenOffOn {g = g.D.Disk} (view_of c.args.store.lazy) c.args.log disk c.args.script) (sym c.into_disk.ensures)
    (subst (λ (log : Log g.row.D.Denot g.D.Disk). IsBrokenOffOn {g = g.D.Disk} (view_of c.args.store.lazy) log (disk_of last) c.args.script) c.of-journal.ensures off))
    c.tell_run-journal.ensures.broken_off

-- the journal begins with the log that was given
pub tell_run-journal-requires-clause-alone : goal.tell_run-journal-requires-clause-alone
tell_run-journal-requires-clause-alone g c κs within =
    subst (λ (log : Log g.row.D.Denot g.D.Disk). LeavesAlone first_state StepsTo c.args.store.lazy log) (sym c.of-journal.ensures) c.requires.alone
