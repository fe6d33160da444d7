use Rattle.std.proofs.Common.{refl, subst}
use Rattle.bf_run.specs.Top.{HasRead}
use Rattle.bf_run.proofs.Answered.{of_none_run}
use Rattle.bf_run.proofs.Migrates.{script_within}
use Rattle.bf_run.proofs.Sayable.{script_sayable}
use Rattle.bf_run.proofs.top.run_input.Goals as goal

pub run-requires-clause-limits : goal.run-requires-clause-limits
run-requires-clause-limits g c κs within =
    let read = subst (HasRead _) c.in-Ok.is c.in_ok-script.ensures in
    script_within read.bytes c.in-Ok.script read.is_read.1

pub run-requires-clause-sayable : goal.run-requires-clause-sayable
run-requires-clause-sayable g c κs within =
    let read = subst (HasRead _) c.in-Ok.is c.in_ok-script.ensures in
    script_sayable read.bytes c.in-Ok.script read.is_read.1

pub returns-in-Err-clause-answer : goal.returns-in-Err-clause-answer
returns-in-Err-clause-answer g c =
    let read = subst (HasRead _) c.in-Err.is c.in_ok-script.ensures in
    of_none_run _ _ c.args.path.now _ c.in-Err.told read (refl, refl)
