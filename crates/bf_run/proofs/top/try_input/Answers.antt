use Rattle.std.proofs.Common.{Some, subst}
use Rattle.bf_run.specs.Top.{HasRead}
use Rattle.bf_words.specs.Words.{trying}
use Rattle.bf_run.proofs.Answered.{no_script}
use Rattle.bf_run.proofs.Migrates.{script_within}
use Rattle.bf_run.proofs.Parsed.{script_rises}
use Rattle.bf_run.proofs.top.try_input.Goals as goal

pub run_report-requires-clause-limits : goal.run_report-requires-clause-limits
run_report-requires-clause-limits g c =
    let read = subst (HasRead _) c.in-Ok.is c.in_ok-script.ensures in
    script_within read.bytes c.in-Ok.script read.is_read.1

pub run_report-requires-clause-phases : goal.run_report-requires-clause-phases
run_report-requires-clause-phases g c =
    let read = subst (HasRead _) c.in-Ok.is c.in_ok-script.ensures in
    script_rises read.bytes c.in-Ok.script read.is_read.1

pub returns-in-Err : goal.returns-in-Err
returns-in-Err g c =
    let read = subst (HasRead _) c.in-Err.is c.in_ok-script.ensures in
    let both = no_script _ read.bytes (Some trying) (λ status script start history ended last. ⊥) (Unit {0}) c.in-Err.told.0 c.in-Err.told.1.items read.is_read in
    record { bytes = read.bytes; are_told = read.are_told; causes = both.0; is_text = both.1 }
