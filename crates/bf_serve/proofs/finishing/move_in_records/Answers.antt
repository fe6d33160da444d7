-- All of them have moved, or a first part, behind which the journal has stopped or memory has run out.
use Rattle.std.proofs.Common.{ap, inl, inr, subst, ◌∙◌}
use Rattle.std.specs.Prelude.{Result, Err}
use Rattle.bf_machine.specs.declared.journal.KeepError.{KeepError}
use Rattle.bf_machine.specs.interleaving.Journals.{KeepsOrIsRefused}
use Rattle.bf_machine.specs.interleaving.Machines.{Machine}
use Rattle.bf_serve.proofs.Rest.{ended_stays}
use Rattle.bf_serve.proofs.threads.Moving.{kept, stopped}
use Rattle.bf_serve.proofs.finishing.move_in_records.Goals as goal

pub returns-in-Ok-clause-keeps : goal.returns-in-Ok-clause-keeps
returns-in-Ok-clause-keeps g c = kept g.J.Journal.Answers g.N.Opened.opening g.J.Journal.ends c.args.machine.now c.move_records.new.machine c.args.journal.now c.move_records.new.journal c.move_records.result c.move_records.ensures.keeps

pub returns-in-Err-Ended-clause-keeps : goal.returns-in-Err-Ended-clause-keeps
returns-in-Err-Ended-clause-keeps g c = kept g.J.Journal.Answers g.N.Opened.opening g.J.Journal.ends c.args.machine.now c.move_records.new.machine c.args.journal.now c.move_records.new.journal c.move_records.result c.move_records.ensures.keeps

pub returns-in-Err-Memory-clause-keeps : goal.returns-in-Err-Memory-clause-keeps
returns-in-Err-Memory-clause-keeps g c = kept g.J.Journal.Answers g.N.Opened.opening g.J.Journal.ends c.args.machine.now c.move_records.new.machine c.args.journal.now c.move_records.new.journal c.move_records.result c.move_records.ensures.keeps

pub returns-in-Ok-clause-moved : goal.returns-in-Ok-clause-moved
returns-in-Ok-clause-moved g c = inl c.in-Ok.ensures.moves

pub returns-in-Err-Ended-clause-moved : goal.returns-in-Err-Ended-clause-moved
returns-in-Err-Ended-clause-moved g c =
    let m : Machine = c.args.machine.now in
    let next : Machine = c.move_records.new.machine in
    let j = c.args.journal.now in
    let l = c.move_records.new.journal in
    let cause = c.in-Err-Ended.field-0-0 in
    let Answers = g.J.Journal.Answers in
    let refused = subst (λ (r : Result (Unit {0}) KeepError). KeepsOrIsRefused Answers g.J.Journal.ends g.N.Opened.opening m j next l r) (c.in-Err-Ended.is ∙ ap Err c.in-Err-Ended.field-0-is) c.move_records.ensures.keeps in
    inr (stopped Answers g.N.Opened.opening g.J.Journal.ends m next j l cause refused)

pub returns-in-Ok-clause-ended : goal.returns-in-Ok-clause-ended
returns-in-Ok-clause-ended g c = λ s place ended. ended_stays c.args.machine.now c.move_records.new.machine c.args.granules.now c.in-Ok.ensures.moves s ended

pub returns-in-Err-Ended-clause-ended : goal.returns-in-Err-Ended-clause-ended
returns-in-Err-Ended-clause-ended g c = λ s place ended. ended_stays c.args.machine.now c.move_records.new.machine c.in-Err-Ended.ensures.err.front c.in-Err-Ended.ensures.err.moves s ended

pub returns-in-Err-Memory-clause-ended : goal.returns-in-Err-Memory-clause-ended
returns-in-Err-Memory-clause-ended g c = λ s place ended. ended_stays c.args.machine.now c.move_records.new.machine c.in-Err-Memory.ensures.err.front c.in-Err-Memory.ensures.err.moves s ended
