-- A move is kept and made, or the journal refuses it, and the group that needs it ends.
use Rattle.std.proofs.Common.{◌≡◌, ◌≢◌, ◌⊎◌, ℕ, Bool, true, false, List, [], Some, option_map, inl, inr, ap, sym, subst, ◌∙◌}
use Rattle.std.specs.Prelude.{Result, Ok, Err}
use Rattle.boxcar.specs.Table.{Where}
use Rattle.bf_image.specs.declared.migration.Migration.{Migration}
use Rattle.bf_base.specs.declared.granule.Granule.{Granule}
use Rattle.bf_store.specs.Puts.{AreImages}
use Rattle.bf_store.specs.Stores.{migration_of}
use Rattle.bf_tree.specs.declared.reply.Cause.{Cause}
use Rattle.bf_machine.specs.declared.stand.MoveError.{MoveError}
use Rattle.bf_machine.specs.declared.stand.MoveError.TheVariants.{Ended, Memory as NoMemory, Old}
use Rattle.bf_machine.specs.interleaving.Calls.{slot_of}
use Rattle.bf_machine.specs.interleaving.Events.{Moves}
use Rattle.bf_machine.specs.interleaving.Journals.{IsOneRecord, IsRefused, IsUnkeptMove, Keeps}
use Rattle.bf_machine.specs.interleaving.Machines.{Machine}
use Rattle.bf_serve.proofs.threads.Moving.{moved, not_moved, unkept}
use Rattle.bf_serve.proofs.sections.move_for.Goals.{in-Ok, in-Err-Old, in-Err-Ended, in-Err-Memory}
use Rattle.bf_serve.proofs.sections.move_for.Goals as goal

-- work is one record of moves
pub moved-requires-clause-granules : goal.moved-requires-clause-granules
moved-requires-clause-granules g c =
    let by = c.granules-granules.ensures in
    subst (λ (p : Where Migration). IsOneRecord (Some (migration_of p.value [])) c.granules-granules.result.now) (sym c.pass-pass.ensures)
    (record { of_it = by.of_it; some = by.some; few = by.few; unit = by.of_one_unit.0; of_one_unit = by.of_one_unit.1; in_order = by.in_order })

pub moved-requires-clause-images : goal.moved-requires-clause-images
moved-requires-clause-images g c =
    subst (λ (p : Where Migration). AreImages p.value c.granules-granules.result.now c.args.images) (sym c.pass-pass.ensures)
    (subst (λ (gs : List Granule). AreImages c.args.work.now.pass.value gs c.args.images) (sym c.granules-granules.ensures.granules) c.requires.images)

pub end_needing-requires-clause-logged : goal.end_needing-requires-clause-logged
end_needing-requires-clause-logged g c =
    let ended = c.moved.ensures.ended c.in-Err-Ended.cause (c.in-Err-Ended.is ∙ ap Err c.in-Err-Ended.field-0-is) in
    sym c.requires.logged ∙ ended.0

old_is_no_cause : {T : Type 0} (error : MoveError) (n : ℕ) → error ≡ Old n → (cause : Cause) → ◌≢◌ {A = Result T MoveError} (Err error) (Err (Ended cause))
old_is_no_cause {T = T} error n is cause same =
    let clash : ◌≡◌ {A = Result T MoveError} (Err (Old n)) (Err (Ended cause)) = ap Err (sym is) ∙ same in
    cc

memory_is_no_cause : {T : Type 0} (error : MoveError) → error ≡ NoMemory → (cause : Cause) → ◌≢◌ {A = Result T MoveError} (Err error) (Err (Ended cause))
memory_is_no_cause {T = T} error is cause same =
    let clash : ◌≡◌ {A = Result T MoveError} (Err NoMemory) (Err (Ended cause)) = ap Err (sym is) ∙ same in
    cc

pub returns-clause-keeps : goal.returns-clause-keeps
returns-clause-keeps g c =
    let m : Machine = c.args.machine.now in
    let Answers = g.J.Journal.Answers in
    let start = g.N.Opened.opening in
    let j = c.args.journal.now in
    let k = c.moved.new.journal in
    let Goal : Machine → Type 0 = λ next. Keeps Answers start m j next k in
    elim c.match-moved.branch as (λ _. Goal c.match-moved.machine) [
      | in-Ok w ↦ subst Goal (sym w.machine-is) (moved Answers start m c.moved.new.self j k c.granules-granules.result.now w.in-Ok.ensures.moves (w.in-Ok.ensures.beside (λ cause same. cc)))
      | in-Err-Old w ↦ subst Goal (sym w.machine-is) (not_moved Answers start m c.moved.new.self j k w.in-Err-Old.ensures.err (w.in-Err-Old.ensures.beside (old_is_no_cause w.in-Err-Old.field-0 _ w.in-Err-Old.field-0-is)))
      | in-Err-Ended w ↦
          let ended = c.moved.ensures.ended w.in-Err-Ended.cause (w.in-Err-Ended.is ∙ ap Err w.in-Err-Ended.field-0-is) in
          subst Goal (sym w.machine-is) (unkept Answers start m c.moved.new.self w.end_needing.new.machine j k w.in-Err-Ended.cause w.in-Err-Ended.ensures.err ended.2 w.end_needing.ensures)
      | in-Err-Memory w ↦ subst Goal (sym w.machine-is) (not_moved Answers start m c.moved.new.self j k w.in-Err-Memory.ensures.err (w.in-Err-Memory.ensures.beside (memory_is_no_cause w.in-Err-Memory.field-0 w.in-Err-Memory.field-0-is)))
    ]

-- answers that differ
not_both : {E : Type 0} (r : Result Bool E) → r ≡ Ok true → r ≡ Ok false → ⊥
not_both {E = E} r one other =
    let clash : ◌≡◌ {A = Result Bool E} (Ok true) (Ok false) = sym one ∙ other in
    cc

not_told : {E : Type 0} (r : Result Bool E) (e : E) (b : Bool) → r ≡ Err e → r ≡ Ok b → ⊥
not_told {E = E} r e b one other =
    let clash : ◌≡◌ {A = Result Bool E} (Err e) (Ok b) = sym one ∙ other in
    cc

pub returns-clause-moves : goal.returns-clause-moves
returns-clause-moves g c =
    let m : Machine = c.args.machine.now in
    let r = c.match-moved.result in
    elim c.match-moved.branch as (λ _. r ≡ Ok true → Moves m c.args.work.now.granules c.match-moved.machine) [
      | in-Ok w ↦ λ _. subst (λ (gs : List Granule). Moves m gs c.match-moved.machine) c.granules-granules.ensures.granules (subst (λ (next : Machine). Moves m c.granules-granules.result.now next) (sym w.machine-is) w.in-Ok.ensures.moves)
      | in-Err-Old w ↦ λ is. absurd (not_both r is w.result-is)
      | in-Err-Ended w ↦ λ is. absurd (not_both r is w.result-is)
      | in-Err-Memory w ↦ λ is. absurd (not_told r _ true w.result-is is)
    ]

pub returns-clause-of_it : goal.returns-clause-of_it
returns-clause-of_it g c =
    let m : Machine = c.args.machine.now in
    let r = c.match-moved.result in
    elim c.match-moved.branch as (λ _. r ≡ Ok true → option_map (λ (p : Where Migration). p.value) m.pass ≡ Some c.args.work.now.pass.value) [
      | in-Ok w ↦ λ _. w.in-Ok.ensures.of_it ∙ ap (λ (p : Where Migration). Some p.value) c.pass-pass.ensures
      | in-Err-Old w ↦ λ is. absurd (not_both r is w.result-is)
      | in-Err-Ended w ↦ λ is. absurd (not_both r is w.result-is)
      | in-Err-Memory w ↦ λ is. absurd (not_told r _ true w.result-is is)
    ]

pub returns-clause-refused : goal.returns-clause-refused
returns-clause-refused g c =
    let m : Machine = c.args.machine.now in
    let r = c.match-moved.result in
    let Answers = g.J.Journal.Answers in
    let Refused : Type 0 = (cause : Cause) × IsRefused Answers (IsUnkeptMove m.lazy cause) m.lazy c.args.journal.now c.moved.new.journal cause in
    elim c.match-moved.branch as (λ _. r ≡ Ok false → (slot_of m.pass ≢ Some c.args.work.now.pass.index) ⊎ Refused) [
      | in-Ok w ↦ λ is. absurd (not_both r w.result-is is)
      | in-Err-Old w ↦ λ _. inl (λ same.
          c.moved.ensures.present (same ∙ ap (λ (p : Where Migration). Some p.index) (sym c.pass-pass.ensures)) _ (w.in-Err-Old.is ∙ ap Err w.in-Err-Old.field-0-is))
      | in-Err-Ended w ↦ λ _. inr (w.in-Err-Ended.cause, (c.moved.ensures.ended w.in-Err-Ended.cause (w.in-Err-Ended.is ∙ ap Err w.in-Err-Ended.field-0-is)).2)
      | in-Err-Memory w ↦ λ is. absurd (not_told r _ false w.result-is is)
    ]
