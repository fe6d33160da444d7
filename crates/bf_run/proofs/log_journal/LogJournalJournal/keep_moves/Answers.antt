use Rattle.std.proofs.Common.{subst, sym, Ok, Err, refl}
use Rattle.bf_machine.specs.declared.journal.KeepError.{KeepError}
use Rattle.bf_machine.specs.interleaving.Journals.{IsOfLogIfEnded, IsOfMoveIfEnded}
use Rattle.bf_store.specs.States.{with_moved}
use Rattle.bf_log.specs.declared.error.AppendError.{AppendError}
use Rattle.bf_machine.specs.declared.journal.KeepError.TheVariants as keeps
use Rattle.bf_run.specs.Answers.{GoesOn, IsSizeTold, IsToldAs, told_as}
use Rattle.bf_run.proofs.Telling.{fault_is_of_log, fault_is_of_move, fault_told_as, goes_by_fault, is_of_log_as, is_told_as, no_size}
use Rattle.bf_run.proofs.log_journal.LogJournalJournal.keep_moves.Goals as goal

pub returns-in-Ok-clause-answers : goal.returns-in-Ok-clause-answers
returns-in-Ok-clause-answers g c = ((Ok tt, c.in-Ok.ensures.appended _ _ (c.move_payload_of-payload.ensures.steps _ _ c.move_of.ensures), refl), c.in-Ok.ensures.goes_on, tt)

pub returns-in-Err-DiskFault-clause-answers : goal.returns-in-Err-DiskFault-clause-answers
returns-in-Err-DiskFault-clause-answers g c = (
  (
    Err c.in-Err-DiskFault.field-0,
    c.in-Err-DiskFault.ensures.appended _ _ (c.move_payload_of-payload.ensures.steps _ _ c.move_of.ensures),
    subst (λ (e : AppendError). IsToldAs c.args.store.now.lazy (with_moved c.args.store.now.lazy c.args.granules.now) (Err e) (Err (keeps.Ended c.fault_cause.result))) (sym c.in-Err-DiskFault.field-0-is)
        (fault_told_as _ _ c.fault_cause.result c.fault_cause.ensures.fault (c.args.granules.now, c.requires.«record».of_it, refl)),
  ),
  goes_by_fault {g = g.D.Disk} c.args.self.now.log c.append.new.self.log c.fault_cause.result c.fault_cause.ensures.fault
      (subst (λ (e : AppendError). GoesOn {g = g.D.Disk} c.args.self.now.log c.append.new.self.log (Err (told_as e))) c.in-Err-DiskFault.field-0-is c.in-Err-DiskFault.ensures.goes_on)
      c.fault_cause.ensures.tells,
  no_size c.args.store.now.lazy _ c.fault_cause.result c.fault_cause.ensures.fault,
)

pub returns-in-Err-DiskFault-clause-ended : goal.returns-in-Err-DiskFault-clause-ended
returns-in-Err-DiskFault-clause-ended g c = fault_is_of_log c.fault_cause.result c.fault_cause.ensures.fault

pub returns-in-Err-DiskFault-clause-fits : goal.returns-in-Err-DiskFault-clause-fits
returns-in-Err-DiskFault-clause-fits g c = fault_is_of_move c.fault_cause.result c.fault_cause.ensures.fault

pub returns-in-Err : goal.returns-in-Err
returns-in-Err g c = record {
  answers = (
    (
      Err c.in-Err.error,
      c.in-Err.ensures.appended _ _ (c.move_payload_of-payload.ensures.steps _ _ c.move_of.ensures),
      subst (λ (why : KeepError). IsToldAs c.args.store.now.lazy (with_moved c.args.store.now.lazy c.args.granules.now) (Err c.in-Err.error) (Err why)) (sym c.keep_error.ensures) (is_told_as _ _ c.in-Err.error),
    ),
    subst (λ (why : KeepError). GoesOn {g = g.D.Disk} c.args.self.now.log c.append.new.self.log (Err why)) (sym c.keep_error.ensures) c.in-Err.ensures.goes_on,
    subst (λ (why : KeepError). IsSizeTold c.args.store.now.lazy (with_moved c.args.store.now.lazy c.args.granules.now) (Err why)) (sym c.keep_error.ensures) (c.in-Err.ensures.sized_within c.args.store.now.lazy (with_moved c.args.store.now.lazy c.args.granules.now) (c.move_payload_of-payload.ensures.steps c.args.store.now.lazy (with_moved c.args.store.now.lazy c.args.granules.now) c.move_of.ensures) c.move_payload_of-payload.ensures.fits),
  );
  ended = subst (λ (why : KeepError). IsOfLogIfEnded _ (Err why)) (sym c.keep_error.ensures) (is_of_log_as c.in-Err.error);
  fits = subst (λ (why : KeepError). IsOfMoveIfEnded (Err why)) (sym c.keep_error.ensures) (c.in-Err.ensures.fits c.move_payload_of-payload.ensures.fits);
}
