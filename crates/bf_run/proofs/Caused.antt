-- The groups that a log has ended, by causes that it can tell.
use Rattle.std.proofs.Common.{◌≡◌, ℕ, false, List, [], ◌∷◌, None, Some, refl, sym, ◌∙◌, arith}
use Rattle.std.specs.List.{AllByRecursion}
use Rattle.bf_disk.specs.declared.disk.Disk.{Ghosts}
use Rattle.bf_journal.specs.States.{IsReady}
use Rattle.bf_log.specs.Append.{disk_of, halted_of}
use Rattle.bf_log.specs.declared.log.Log.{Log}
use Rattle.bf_machine.specs.interleaving.Machines.{EndedGroup}
use Rattle.bf_sql.specs.Database.{Database}
use Rattle.bf_tree.specs.declared.history.Entry.{Entry}
use Rattle.bf_tree.specs.declared.script.Script.{Script}
use Rattle.bf_tree.specs.declared.reply.Cause.{Cause}
use Rattle.bf_tree.specs.declared.reply.Cause.TheVariants.{Died, DiskFault, Halted, LogFull, TooLarge}
use Rattle.bf_run.specs.Answers.{AreSizesOf, CausesMatchLog, Tells}
use Rattle.bf_run.specs.Causes.{AreCaused, IsCause, is_of_fault}
use Rattle.bf_run.specs.declared.status.Status.{Status}
use Rattle.bf_run.specs.declared.status.Status.TheVariants.{Done}
use Rattle.bf_run.proofs.Running.{if_told}

module _ {D : Type 0} {g : Ghosts D} (log : Log D g) where
  abbrev IsCounted : Type 0
  IsCounted = (faults : ℕ) → halted_of log ≡ Some faults → g.fault_count (disk_of log) ≡ faults

  cause_is : IsCounted → (cause : Cause) → Tells log cause → IsCause (g.seen log.disk) (g.fault_count log.disk) cause
  cause_is counted (Died older) tells = absurd tells
  cause_is counted DiskFault tells = tt
  cause_is counted (Halted faults) tells = sym (counted faults tells)
  cause_is counted (LogFull end need) tells = (if_told (g.seen log.disk) _ (λ file told. omega (arith, tells.0, log.within file told)), tells.1, tells.2)
  cause_is counted (TooLarge size) tells = tells

  causes_are : IsCounted → (groups : List EndedGroup) → AllByRecursion (λ (group : EndedGroup). Tells log group.cause) groups
      → AllByRecursion (λ (group : EndedGroup). IsCause (g.seen log.disk) (g.fault_count log.disk) group.cause) groups
  causes_are counted [] each = tt
  causes_are counted (group ∷ groups) each = (cause_is counted group.cause each.0, causes_are counted groups each.1)

  -- a log that takes records has told of no fault
  not_of_fault : IsReady log → (cause : Cause) → Tells log cause → is_of_fault cause ≡ false
  not_of_fault ready (Died older) tells = absurd tells
  not_of_fault ready DiskFault tells =
      let none : halted_of log ≡ None = rw ready refl in
      let clash : None ≡ Some tells.0 = sym none ∙ tells.1 in
      absurd cc
  not_of_fault ready (Halted faults) tells =
      let none : halted_of log ≡ None = rw ready refl in
      let clash : None ≡ Some faults = sym none ∙ tells in
      absurd cc
  not_of_fault ready (LogFull end need) tells = refl
  not_of_fault ready (TooLarge size) tells = refl

  none_of_fault : IsReady log → (groups : List EndedGroup) → AllByRecursion (λ (group : EndedGroup). Tells log group.cause) groups → AllByRecursion (λ (group : EndedGroup). is_of_fault group.cause ≡ false) groups
  none_of_fault ready [] each = tt
  none_of_fault ready (group ∷ groups) each = (not_of_fault ready group.cause each.0, none_of_fault ready groups each.1)

  pub caused : (start : Database) (script : Script) (history : List Entry) (groups : List EndedGroup) → CausesMatchLog log groups → AreSizesOf start script history groups → (status : Status) → (status ≡ Done → IsReady log)
      → AreCaused start script history (g.seen log.disk) (g.fault_count log.disk) status groups
  caused start script history groups told sized status ready = record {
    each = causes_are told.counted groups told.each;
    one_fault = told.one_fault;
    calm = λ done. none_of_fault (ready done) groups told.each;
    sized = sized;
  }
