-- A run that was to finish, whose log takes records still: nothing is left to move, or the log is full.
use Rattle.std.proofs.Common.{◌≡◌, ◌⊎◌, ℕ, ◌+◌, ◌≤◌, true, false, List, length, None, Some, Err, refl, sym, ap, ◌∙◌, inl, inr, arith}
use Rattle.std.specs.Prelude.{IsTrue}
use Rattle.bf_disk.specs.declared.disk.Disk.{Ghosts}
use Rattle.bf_journal.specs.States.{IsReady}
use Rattle.bf_log.specs.Append.{halted_of}
use Rattle.bf_log.specs.Format.{frame}
use Rattle.bf_log.specs.declared.log.Log.{Log}
use Rattle.bf_machine.specs.declared.journal.KeepError.TheVariants.{Ended}
use Rattle.bf_machine.specs.interleaving.Journals.{IsMoveIn, is_of_move}
use Rattle.bf_machine.specs.interleaving.Machines.{Machine}
use Rattle.bf_recover.specs.Flips.{says_complete}
use Rattle.bf_recover.specs.Schemas.{is_empty}
use Rattle.bf_recover.proofs.Completing.{sweep_tells}
use Rattle.bf_serve.specs.Finishing.{HasFinished}
use Rattle.bf_sql.specs.migrations.Lazy.{LazyState, sweep_of}
use Rattle.bf_tree.specs.declared.reply.Cause.{Cause}
use Rattle.bf_tree.specs.declared.reply.Cause.TheVariants.{Died, DiskFault, Halted, LogFull, TooLarge}
use Rattle.bf_run.specs.Answers.{HasAnswered, largest_log, largest_record}
use Rattle.bf_run.specs.Options.{IsFinished, IsFull}
use Rattle.bf_run.specs.declared.log_journal.LogJournal.{LogJournal}
use Rattle.bf_run.specs.declared.status.Status.TheVariants.{Done}
use Rattle.bf_run.proofs.Running.{if_told}

module _ {D : Type 0} {g : Ghosts D} where
  -- a log that takes records has not kept a move since it is full
  full_by : (lazy next : LazyState) (old new : Log D g) → IsReady new → (cause : Cause) → IsTrue (is_of_move cause) → IsMoveIn lazy next
      → HasAnswered lazy next old new (Err (Ended cause)) → IsFull lazy (g.seen new.disk)
  full_by lazy next old new ready (Died older) of_move move answered = absurd answered.1.stands
  full_by lazy next old new ready DiskFault of_move move answered =
      let tells = answered.1.stands.1 in
      let none : halted_of new ≡ None = rw ready refl in
      let clash : None ≡ Some tells.0 = sym none ∙ tells.1 in
      absurd cc
  full_by lazy next old new ready (Halted faults) of_move move answered =
      let none : halted_of new ≡ None = rw ready refl in
      let clash : None ≡ Some faults = sym none ∙ answered.1.stands in
      absurd cc
  full_by lazy next old new ready (LogFull end need) of_move move answered =
      let tells = answered.1.stands in
      let sized = answered.2 in
      record {
        next = next;
        move = move;
        size = sized.0;
        has_record = sized.1;
        fits = omega (arith, sized.2, tells.2);
        end = end;
        within = if_told (g.seen new.disk) _ (λ file told. omega (arith, tells.0, new.within file told));
        past = omega (arith, sized.2, tells.1);
      }
  full_by lazy next old new ready (TooLarge size) of_move move answered = absurd (let clash : false ≡ true = of_move in cc)

  pub finished : (m : Machine) (k : LogJournal D g) → IsReady k.log
      → HasFinished {J = LogJournal D g} (λ lazy next old new answer. HasAnswered lazy next old.log new.log answer) m k
      → (says_complete (sweep_of m.lazy.last) ≡ true) ⊎ IsFull m.lazy (g.seen k.log.disk)
  finished m k ready (inl none) = inl (sweep_tells m.lazy.last ∙ ap is_empty none)
  finished m k ready (inr (cause, j, refused)) = inr (full_by m.lazy refused.0 j.log k.log ready cause refused.1.0 refused.1.1 refused.2)

-- where there is room for any record, the log is not full
pub with_room : (bytes : List ℕ) (last : LazyState) → IsFinished true Done (Some bytes) last → length bytes + largest_record + frame ≤ largest_log → says_complete (sweep_of last.last) ≡ true
with_room bytes last is room = elim (is refl refl) as (λ _. says_complete (sweep_of last.last) ≡ true) [
  | inl so ↦ so
  | inr full ↦ absurd (omega (arith, full.within, full.fits, full.past, room))
]
