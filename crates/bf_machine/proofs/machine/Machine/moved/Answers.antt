-- The granules are of the last migration where the pass is its, and the store alone changes.
use Rattle.std.proofs.Common.{◌≡◌, ◌≢◌, ℕ, Bool, true, false, Bor, Err, Ok, Result, Option, Some, None, refl, sym, ap, subst, ◌∙◌, option_map}
use Rattle.std.specs.Option.{option_copied, option_map_or}
use Rattle.std.specs.Result.{IsErr, IsErrAnd}
use Rattle.std.proofs.lemmas.Bool.{false≢true}
use Rattle.std.specs.Arc.{arc_value}
use Rattle.boxcar.specs.Table.{Where}
use Rattle.bf_sql.specs.migrations.Lazy.{migrations_so_far}
use Rattle.bf_image.specs.Registries.{Registry}
use Rattle.bf_image.specs.declared.migration.Migration.{Migration as Kept}
use Rattle.bf_store.specs.Calls.{IsMoveOf}
use Rattle.bf_store.specs.States.{AreGranulesIfAny, with_moved}
use Rattle.bf_store.specs.Stores.{IsOf, Store}
use Rattle.bf_tree.specs.declared.reply.Cause.{Cause}
use Rattle.bf_machine.specs.declared.stand.MoveError.{MoveError}
use Rattle.bf_machine.specs.declared.stand.MoveError.TheVariants.{Ended, Memory, Old}
use Rattle.bf_machine.specs.interleaving.Calls.{slot_of}
use Rattle.bf_machine.specs.interleaving.Events.{Moves}
use Rattle.bf_machine.specs.interleaving.Journals.{IsBeside, IsMoveIn, IsRefused, IsUnkeptMove}
use Rattle.bf_machine.specs.interleaving.Kept.{is_of_log}
use Rattle.bf_machine.specs.interleaving.Machines.{Machine}
use Rattle.bf_machine.specs.interleaving.Seen.{IsSound, seen}
use Rattle.bf_machine.proofs.keeping.Beside.{moved_beside, none_beside, unkept_beside}
use Rattle.bf_machine.proofs.keeping.Moving.{images_of_it, indexes_of_it, moved_sound, moves, number_is, of_the_last}
use Rattle.bf_machine.proofs.keeping.Records.{one_record_of_the_last}
use Rattle.bf_machine.proofs.machine.Machine.moved.Goals.{then-kept, else-kept}
use Rattle.bf_machine.proofs.machine.Machine.moved.Goals as goal

by_copied : {P : Type 0} (f : P → Kept) (r : Option (Bor P)) → option_map (λ p. f p.now) r ≡ option_map f (option_copied r)
by_copied f None = refl
by_copied f (Some p) = refl

as_copied : {P : Type 0} (r : Option (Bor P)) → option_map (λ p. p.now) r ≡ option_copied r
as_copied None = refl
as_copied (Some p) = refl

number_copied : (r : Option (Bor (Where Kept))) → option_map_or (λ p. p.now.value.number) r 0 ≡ option_map_or (λ (p : Where Kept). p.value.number) (option_copied r) 0
number_copied None = refl
number_copied (Some p) = refl

-- a `?` hands on the error that it finds
same_error : {A E : Type 0} (r : Result A E) (e : E) → IsErr r → IsErrAnd r (λ (x : E). x ≡ e) → r ≡ Err e
same_error (Ok a) e none same = absurd (false≢true none)
same_error (Err x) e none same = ap Err same

error_of : {A E : Type 0} (r : Result A E) (d e : E) → r ≡ Err d → r ≡ Err e → d ≡ e
error_of {A = A} {E = E} r d e one other =
    let both : ◌≡◌ {A = Result A E} (Err d) (Err e) = sym one ∙ other in
    cc

-- an error that tells no cause and no number
is_memory : (error : MoveError) → ((cause : Cause) → error ≢ Ended cause) → ((n : ℕ) → error ≢ Old n) → error ≡ Memory
is_memory (Ended cause) ended old = absurd (ended cause refl)
is_memory (Old n) ended old = absurd (old n refl)
is_memory Memory ended old = refl

pub move_granules-requires-clause-one : goal.move_granules-requires-clause-one
move_granules-requires-clause-one g c = subst (λ (registry : Registry). IsOf registry c.self.inside.store.migration) (sym c.requires.registry) c.self.invariant.0.one

pub move_granules-requires-clause-indexed : goal.move_granules-requires-clause-indexed
move_granules-requires-clause-indexed g c =
    let own = c.self.inside.store.migration in
    let value = c.args.migration.now.value in
    let passes = by_copied (λ (p : Where Kept). p.value) c.as_ref-last.result ∙ ap (option_map (λ (p : Where Kept). p.value)) (c.as_ref-last.ensures.value ∙ c.migration-last.ensures.pass) in
    let same : option_map (λ (p : Where Kept). p.value) own ≡ Some value = sym (c.are_same-same.ensures.values c.if-not-same.false ∙ passes) in
    indexes_of_it own value same c.args.indexes.now c.requires.indexed

pub move_granules-requires-clause-images : goal.move_granules-requires-clause-images
move_granules-requires-clause-images g c =
    let own = c.self.inside.store.migration in
    let value = c.args.migration.now.value in
    let passes = by_copied (λ (p : Where Kept). p.value) c.as_ref-last.result ∙ ap (option_map (λ (p : Where Kept). p.value)) (c.as_ref-last.ensures.value ∙ c.migration-last.ensures.pass) in
    let same : option_map (λ (p : Where Kept). p.value) own ≡ Some value = sym (c.are_same-same.ensures.values c.if-not-same.false ∙ passes) in
    images_of_it own value same c.args.granules.now c.args.images c.requires.images

pub keep_left-requires : goal.keep_left-requires
keep_left-requires g c =
    let own = c.self.inside.store.migration in
    let value = c.args.migration.now.value in
    let passes = by_copied (λ (p : Where Kept). p.value) c.as_ref-last.result ∙ ap (option_map (λ (p : Where Kept). p.value)) (c.as_ref-last.ensures.value ∙ c.migration-last.ensures.pass) in
    let same : option_map (λ (p : Where Kept). p.value) own ≡ Some value = sym (c.are_same-same.ensures.values c.if-not-same.false ∙ passes) in
    one_record_of_the_last c.self.inside.store.lazy.last own c.migration-last.ensures.by_pass value same c.args.granules.now c.requires.granules

pub move_granules-requires-clause-granules : goal.move_granules-requires-clause-granules
move_granules-requires-clause-granules g c =
    let own = c.self.inside.store.migration in
    let value = c.args.migration.now.value in
    let passes = by_copied (λ (p : Where Kept). p.value) c.as_ref-last.result ∙ ap (option_map (λ (p : Where Kept). p.value)) (c.as_ref-last.ensures.value ∙ c.migration-last.ensures.pass) in
    let same : option_map (λ (p : Where Kept). p.value) own ≡ Some value = sym (c.are_same-same.ensures.values c.if-not-same.false ∙ passes) in
    of_the_last c.self.inside.store.lazy.last own c.migration-last.ensures.by_pass value same c.args.granules.now c.requires.granules.of_it

pub returns-then-not-same-clause-old : goal.returns-then-not-same-clause-old
returns-then-not-same-clause-old g c = λ _.
    let i = c.self.inside in
    let passes : option_copied c.as_ref-last.result ≡ i.store.migration = c.as_ref-last.ensures.value ∙ c.migration-last.ensures.pass in
    let number = c.number_of.ensures ∙ number_copied c.as_ref-last.result ∙ ap (λ (own : Option (Where Kept)). option_map_or (λ (p : Where Kept). p.value.number) own 0) passes
    ∙ number_is i.store.lazy.last i.store.migration c.migration-last.ensures.by_pass in
    ap (λ (n : ℕ). Err (Old n)) (number ∙ ap (λ (m : Machine). migrations_so_far m.lazy.last) c.self.view_is)

pub returns-then-not-same-clause-present : goal.returns-then-not-same-clause-present
returns-then-not-same-clause-present g c = λ is n _.
    let i = c.self.inside in
    let passes = as_copied c.as_ref-last.result ∙ c.as_ref-last.ensures.value ∙ c.migration-last.ensures.pass in
    let own : slot_of i.store.migration ≡ Some c.args.migration.now.index = ap (λ (m : Machine). slot_of m.pass) c.self.view_is ∙ is in
    let same : c.are_same-same.result ≡ true = c.are_same-same.ensures.slots.1 (sym own ∙ sym (ap slot_of passes)) in
    let differ : c.are_same-same.result ≡ false = c.if-not-same.true in
    cc

pub invariant_of-self : goal.invariant_of-self
invariant_of-self g c =
    let i = c.self.inside in
    let value = c.args.migration.now.value in
    let passes = by_copied (λ (p : Where Kept). p.value) c.as_ref-last.result ∙ ap (option_map (λ (p : Where Kept). p.value)) (c.as_ref-last.ensures.value ∙ c.migration-last.ensures.pass) in
    let same : option_map (λ (p : Where Kept). p.value) i.store.migration ≡ Some value = sym (c.are_same-same.ensures.values c.if-not-same.false ∙ passes) in
    let are : AreGranulesIfAny i.store.lazy.last c.args.granules.now = of_the_last i.store.lazy.last i.store.migration c.migration-last.ensures.by_pass value same c.args.granules.now c.requires.granules.of_it in (
      moved_sound g.N.Opened.logged (arc_value i.script) i.retries i.store i.locks i.began.items i.sessions.items i.history i.commits i.transcripts c.self.invariant.0
          c.args.granules.now are c.move_granules.new.self c.in-Ok.ensures.ok.state c.in-Ok.ensures.migration,
      c.self.invariant.1,
    )

pub invariant_of-self-2 : goal.invariant_of-self-2
invariant_of-self-2 g c =
    let i = c.self.inside in
    (subst (λ (store : Store). IsSound g.N.Opened.opening g.N.Opened.registry g.N.Opened.script g.N.Opened.logged (arc_value i.script) i.retries store i.locks i.began.items i.sessions.items i.history i.commits i.transcripts) (sym c.in-Err.ensures.err) c.self.invariant.0, c.self.invariant.1)

pub returns-in-Ok-clause-moves : goal.returns-in-Ok-clause-moves
returns-in-Ok-clause-moves g c =
    let i = c.self.inside in
    let value = c.args.migration.now.value in
    let passes = by_copied (λ (p : Where Kept). p.value) c.as_ref-last.result ∙ ap (option_map (λ (p : Where Kept). p.value)) (c.as_ref-last.ensures.value ∙ c.migration-last.ensures.pass) in
    let same : option_map (λ (p : Where Kept). p.value) i.store.migration ≡ Some value = sym (c.are_same-same.ensures.values c.if-not-same.false ∙ passes) in
    let are : AreGranulesIfAny i.store.lazy.last c.args.granules.now = of_the_last i.store.lazy.last i.store.migration c.migration-last.ensures.by_pass value same c.args.granules.now c.requires.granules.of_it in
    let next : Machine = seen g.N.Opened.logged (arc_value i.script) i.retries c.move_granules.new.self i.locks i.began.items i.sessions.items i.history.items in
    subst (λ (m : Machine). Moves m c.args.granules.now next) c.self.view_is
    (moves g.N.Opened.logged (arc_value i.script) i.retries i.store i.locks i.began.items i.sessions.items i.history i.commits i.transcripts c.self.invariant.0
    c.args.granules.now are c.move_granules.new.self c.in-Ok.ensures.ok.state c.in-Ok.ensures.migration)

pub returns-in-Ok-clause-of_it : goal.returns-in-Ok-clause-of_it
returns-in-Ok-clause-of_it g c =
    let value = c.args.migration.now.value in
    let passes = by_copied (λ (p : Where Kept). p.value) c.as_ref-last.result ∙ ap (option_map (λ (p : Where Kept). p.value)) (c.as_ref-last.ensures.value ∙ c.migration-last.ensures.pass) in
    let same : option_map (λ (p : Where Kept). p.value) c.self.inside.store.migration ≡ Some value = sym (c.are_same-same.ensures.values c.if-not-same.false ∙ passes) in
    ap (λ (m : Machine). option_map (λ (p : Where Kept). p.value) m.pass) (sym c.self.view_is) ∙ same

pub returns-in-Ok-clause-told : goal.returns-in-Ok-clause-told
returns-in-Ok-clause-told g c = subst (λ (m : Machine). IsMoveOf m.lazy c.move_granules.new.self.lazy c.args.granules.now c.in-Ok.moved) c.self.view_is c.in-Ok.ensures.ok

pub returns-in-Ok-clause-old : goal.returns-in-Ok-clause-old
returns-in-Ok-clause-old g c = λ differs.
    let i = c.self.inside in
    let passes = as_copied c.as_ref-last.result ∙ c.as_ref-last.ensures.value ∙ c.migration-last.ensures.pass in
    let own = c.are_same-same.ensures.slots.0 c.if-not-same.false ∙ ap slot_of passes ∙ ap (λ (m : Machine). slot_of m.pass) c.self.view_is in
    absurd (differs (sym own))

pub returns-clause-old : goal.returns-clause-old
returns-clause-old g c = λ differs.
    let i = c.self.inside in
    let passes = as_copied c.as_ref-last.result ∙ c.as_ref-last.ensures.value ∙ c.migration-last.ensures.pass in
    let own = c.are_same-same.ensures.slots.0 c.if-not-same.false ∙ ap slot_of passes ∙ ap (λ (m : Machine). slot_of m.pass) c.self.view_is in
    absurd (differs (sym own))

pub returns-clause-err : goal.returns-clause-err
returns-clause-err g c =
    let i = c.self.inside in
    ap (λ (store : Store). seen g.N.Opened.logged (arc_value i.script) i.retries store i.locks i.began.items i.sessions.items i.history.items) c.in-Err.ensures.err ∙ c.self.view_is

pub returns-in_err-kept-clause-ended : goal.returns-in_err-kept-clause-ended
returns-in_err-kept-clause-ended g c = λ cause is.
    let error = c.in_err-kept.field-0.0 in
    let same : c.from_residual.result ≡ Err error = same_error c.from_residual.result error c.from_residual.ensures.0 c.from_residual.ensures.1 in
    let ends : ◌≡◌ {A = Result Bool MoveError} (Err error) (Err (Ended cause)) = ap (λ (e : MoveError). Err e) (error_of c.from_residual.result error (Ended cause) same is) in
    subst (λ (m : Machine). (g.J.Journal.ends ≡ true) × (is_of_log cause ≡ true) × IsRefused g.J.Journal.Answers (IsUnkeptMove m.lazy cause) m.lazy c.args.journal.now c.keep_left.new.journal cause) c.self.view_is
    (c.in_err-kept.ensures.ended cause ends)

pub returns-in_err-kept-clause-beside : goal.returns-in_err-kept-clause-beside
returns-in_err-kept-clause-beside g c = λ never.
    let error = c.in_err-kept.field-0.0 in
    let same : c.from_residual.result ≡ Err error = same_error c.from_residual.result error c.from_residual.ensures.0 c.from_residual.ensures.1 in
    let none : error ≡ Memory =
    is_memory error (λ cause is. never cause (same ∙ ap (λ (e : MoveError). Err e) is)) (λ n is. c.in_err-kept.ensures.present n (ap (λ (e : MoveError). Err e) is)) in
    subst (λ (m : Machine). IsBeside g.J.Journal.Answers (IsMoveIn m.lazy) m.lazy m.lazy c.args.journal.now c.keep_left.new.journal) c.self.view_is
    (c.in_err-kept.ensures.memory (ap (λ (e : MoveError). Err e) none))

pub returns-in-Ok-clause-beside : goal.returns-in-Ok-clause-beside
returns-in-Ok-clause-beside g c = λ _.
    let lazy = c.self.inside.store.lazy in
    let next = c.move_granules.new.self.lazy in
    let kept = c.in_ok-kept.kept in
    let Answers = g.J.Journal.Answers in
    subst (λ (m : Machine). IsBeside Answers (IsMoveIn m.lazy) m.lazy next c.args.journal.now c.keep_left.new.journal) c.self.view_is
    (moved_beside Answers (IsMoveIn lazy) lazy c.args.granules.now c.args.journal.now c.keep_left.new.journal kept
    (λ some. c.in_ok-kept.ensures.kept (ap (λ (b : Bool). Ok b) some)) (λ none. c.in_ok-kept.ensures.nothing (ap (λ (b : Bool). Ok b) none))
    next c.in-Ok.ensures.ok.state (λ none. ap (λ (store : Store). store.lazy) (c.in-Ok.ensures.nothing none)))

pub returns-clause-beside : goal.returns-clause-beside
returns-clause-beside g c = λ _.
    let i = c.self.inside in
    let lazy = i.store.lazy in
    let value = c.args.migration.now.value in
    let passes = by_copied (λ (p : Where Kept). p.value) c.as_ref-last.result ∙ ap (option_map (λ (p : Where Kept). p.value)) (c.as_ref-last.ensures.value ∙ c.migration-last.ensures.pass) in
    let same : option_map (λ (p : Where Kept). p.value) i.store.migration ≡ Some value = sym (c.are_same-same.ensures.values c.if-not-same.false ∙ passes) in
    let are : AreGranulesIfAny lazy.last c.args.granules.now = of_the_last lazy.last i.store.migration c.migration-last.ensures.by_pass value same c.args.granules.now c.requires.granules.of_it in
    let next = c.move_granules.new.self.lazy in
    let stays : next ≡ lazy = ap (λ (store : Store). store.lazy) c.in-Err.ensures.err in
    let Answers = g.J.Journal.Answers in
    let j = c.args.journal.now in
    subst (λ (m : Machine). IsBeside Answers (IsMoveIn m.lazy) m.lazy next j c.if-kept.journal) c.self.view_is
    (elim c.if-kept.branch as (λ _. IsBeside Answers (IsMoveIn lazy) lazy next j c.if-kept.journal) [
      | then-kept w ↦
          let kept = c.in_ok-kept.ensures.kept (ap (λ (b : Bool). Ok b) w.if-kept.true) in
          subst (IsBeside Answers (IsMoveIn lazy) lazy next j) (sym w.journal-is)
          (unkept_beside Answers (IsMoveIn lazy) lazy next j w.give_up.new.self (with_moved lazy c.args.granules.now) (c.args.granules.now, are, refl) stays
          (w.give_up.ensures lazy (with_moved lazy c.args.granules.now) j kept))
      | else-kept w ↦
          let none = c.in_ok-kept.ensures.nothing (ap (λ (b : Bool). Ok b) w.if-kept.false) in
          subst (IsBeside Answers (IsMoveIn lazy) lazy next j) (sym w.journal-is) (none_beside Answers (IsMoveIn lazy) lazy next j c.keep_left.new.journal stays none.1)
    ])
