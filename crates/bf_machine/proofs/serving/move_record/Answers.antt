-- The migration is the last one, and so its move is not of an old one.
use Rattle.std.proofs.Common.{◌≡◌, ◌≢◌, ℕ, refl, sym, ap, subst, ◌∙◌, inr}
use Rattle.std.specs.Prelude.{Result, Err}
use Rattle.bf_sql.specs.migrations.Lazy.{LazyState}
use Rattle.bf_tree.specs.declared.reply.Cause.{Cause}
use Rattle.bf_machine.specs.declared.journal.KeepError.{KeepError}
use Rattle.bf_machine.specs.declared.stand.MoveError.{MoveError}
use Rattle.bf_machine.specs.declared.stand.MoveError.TheVariants.{Ended, Memory as NoMemory, Old}
use Rattle.bf_machine.specs.interleaving.Calls.{slot_of}
use Rattle.bf_machine.specs.interleaving.Events.{moves}
use Rattle.bf_machine.specs.interleaving.Journals.{IsBeside, IsChangeOf, IsMoveIn, IsRefused, IsUnkeptMove, KeepsOrIsRefused, nothing_yet, one_beside}
use Rattle.bf_machine.specs.interleaving.Machines.{Machine}
use Rattle.bf_machine.proofs.keeping.Beside.{beside_weaker}
use Rattle.bf_machine.proofs.served.Keeping.{keeps_not, keeps_still}
use Rattle.bf_machine.proofs.serving.move_record.Goals.{in-Ok, in-Err-Ended, in-Err-Memory}
use Rattle.bf_machine.proofs.serving.move_record.Goals as goal

not_old : {T : Type 0} (error : MoveError) (n : ℕ) → ((n : ℕ) → ◌≢◌ {A = Result T MoveError} (Err error) (Err (Old n))) → error ≡ Old n → ⊥
not_old error n never same = never n (ap Err same)

pub unreachable-requires : goal.unreachable-requires
unreachable-requires g c = not_old c.in-Err-Old.field-0 _ (c.in-Err-Old.ensures.present (ap slot_of c.requires.present)) c.in-Err-Old.field-0-is

no_cause : {T : Type 0} (error : MoveError) → error ≡ NoMemory → (cause : Cause) → ◌≢◌ {A = Result T MoveError} (Err error) (Err (Ended cause))
no_cause {T = T} error is cause same =
    let clash : ◌≡◌ {A = Result T MoveError} (Err NoMemory) (Err (Ended cause)) = ap Err (sym is) ∙ same in
    cc

of_machine : {J : Type 0} (Answers : LazyState → LazyState → J → J → Result (Unit {0}) KeepError → Type 0) (m next : Machine) (j k : J) → IsBeside Answers (IsMoveIn m.lazy) m.lazy next.lazy j k → IsBeside Answers (IsChangeOf m) m.lazy next.lazy j k
of_machine Answers m next j k beside = beside_weaker Answers (IsMoveIn m.lazy) m.lazy next.lazy j k (IsChangeOf m) (λ change is. (0, inr is)) beside

pub returns-clause-keeps : goal.returns-clause-keeps
returns-clause-keeps g c =
    let m : Machine = c.args.machine.now in
    let next : Machine = c.moved.new.self in
    let Answers = g.J.Journal.Answers in
    let start = g.N.Opened.opening in
    let j = c.args.journal.now in
    let k = c.moved.new.journal in
    let Goal = KeepsOrIsRefused Answers g.J.Journal.ends start m j next k in
    elim c.match-moved.branch as (λ _. Goal c.match-moved.result) [
      | in-Ok w ↦ subst Goal (sym w.result-is) (one_beside nothing_yet (moves c.args.granules.now w.in-Ok.ensures.moves) (of_machine Answers m next j k (w.in-Ok.ensures.beside (λ cause same. cc))))
      | in-Err-Ended w ↦
          let cause = w.in-Err-Ended.cause in
          let ended = c.moved.ensures.ended cause (w.in-Err-Ended.is ∙ ap Err w.in-Err-Ended.field-0-is) in
          let stays : next ≡ m = w.in-Err-Ended.ensures.err in
          subst Goal (sym w.result-is) (
            ended.0,
            ended.1,
            (
              j,
              keeps_not Answers start m next j j stays refl,
              subst (λ (n : Machine). IsRefused Answers (IsUnkeptMove n.lazy cause) n.lazy j k cause) (sym stays) ended.2,
            ),
          )
      | in-Err-Memory w ↦
          let beside = w.in-Err-Memory.ensures.beside (no_cause w.in-Err-Memory.field-0 w.in-Err-Memory.field-0-is) in
          subst Goal (sym w.result-is) (keeps_still Answers start m j m j next k nothing_yet w.in-Err-Memory.ensures.err (of_machine Answers m next j k beside))
    ]
