use Rattle.std.proofs.Common.{subst, sym, Ok, Err, refl}
use Rattle.bf_machine.specs.declared.journal.KeepError.{KeepError}
use Rattle.bf_machine.specs.interleaving.Events.{put_into}
use Rattle.bf_machine.specs.interleaving.Seen.{pending_seen}
use Rattle.bf_machine.specs.interleaving.Journals.{IsOfLogIfEnded}
use Rattle.bf_run.specs.Answers.{GoesOn, IsSizeTold, IsToldAs}
use Rattle.bf_run.proofs.Telling.{is_of_log_as, is_told_as}
use Rattle.bf_run.proofs.log_journal.LogJournalJournal.keep_group.Goals as goal

pub returns-in-Ok-clause-answers : goal.returns-in-Ok-clause-answers
returns-in-Ok-clause-answers g c = ((Ok tt, c.in-Ok.ensures.appended _ _ (c.payload_of-payload.ensures.steps _ _ c.change_of.ensures.recorded), refl), c.in-Ok.ensures.goes_on, tt)

pub returns-in-Err-clause-answers : goal.returns-in-Err-clause-answers
returns-in-Err-clause-answers g c = (
  (
    Err c.in-Err.error,
    c.in-Err.ensures.appended _ _ (c.payload_of-payload.ensures.steps _ _ c.change_of.ensures.recorded),
    subst (λ (why : KeepError). IsToldAs c.args.store.now.lazy (put_into c.args.store.now.lazy (pending_seen c.args.pending.now)) (Err c.in-Err.error) (Err why)) (sym c.keep_error.ensures) (is_told_as _ _ c.in-Err.error),
  ),
  subst (λ (why : KeepError). GoesOn {g = g.D.Disk} c.args.self.now.log c.append.new.self.log (Err why)) (sym c.keep_error.ensures) c.in-Err.ensures.goes_on,
  subst (λ (why : KeepError). IsSizeTold c.args.store.now.lazy (put_into c.args.store.now.lazy (pending_seen c.args.pending.now)) (Err why)) (sym c.keep_error.ensures) (c.in-Err.ensures.sized c.args.store.now.lazy (put_into c.args.store.now.lazy (pending_seen c.args.pending.now)) (c.payload_of-payload.ensures.own c.args.store.now.lazy (put_into c.args.store.now.lazy (pending_seen c.args.pending.now)) c.change_of.ensures.recorded c.change_of.ensures.own)),
)

pub returns-in-Err-clause-ended : goal.returns-in-Err-clause-ended
returns-in-Err-clause-ended g c = subst (λ (why : KeepError). IsOfLogIfEnded _ (Err why)) (sym c.keep_error.ensures) (is_of_log_as c.in-Err.error)
