-- Record by record, what is left gets shorter.
use Rattle.std.proofs.Common.{◌≡◌, ◌<◌, List, [], ◌++◌, length, refl, sym, ap, subst, ◌∙◌, arith, append_assoc, append-nil}
use Rattle.std.specs.Prelude.{IsTrue, Result, Ok, Err, OnErr}
use Rattle.std.specs.List.{AllByRecursion}
use Rattle.std.specs.Result.{IsErr, IsErrAnd}
use Rattle.std.proofs.lemmas.Bool.{false≢true}
use Rattle.bf_base.specs.declared.granule.Granule.{Granule}
use Rattle.bf_base.specs.Lists.{rises}
use Rattle.bf_sql.specs.migrations.Lazy.{Migration}
use Rattle.bf_store.specs.States.{AreGranules, granule_cmp}
use Rattle.bf_store.specs.Stores.{migration_of}
use Rattle.bf_machine.specs.interleaving.Journals.{KeepsOrIsRefused, nothing_yet}
use Rattle.bf_machine.specs.interleaving.Machines.{Machine}
use Rattle.bf_machine.specs.interleaving.Serving.{MovesAll, no_move, one_record}
use Rattle.bf_machine.proofs.served.Keeping.{keeps_behind, keeps_both}
use Rattle.bf_machine.proofs.served.Records.{first_there, left_none, left_some, one_record_of}
use Rattle.bf_machine.proofs.serving.move_records.Goals as goal

on_err : {P : Type 0} {A E : Type 0} (r : Result A E) → P → OnErr r P
on_err (Ok x) so = tt
on_err (Err error) so = so

-- a `?` hands on the error that it finds
same_error : {A E : Type 0} (r : Result A E) (e : E) → IsErr r → IsErrAnd r (λ (x : E). x ≡ e) → r ≡ Err e
same_error (Ok a) e none same = absurd (false≢true none)
same_error (Err x) e none same = ap Err same

pub loop-left-init : goal.loop-left-init
loop-left-init g c = record { moved = ([], refl, no_move); keeps = nothing_yet; pass = refl }

pub move_record-requires-clause-present : goal.move_record-requires-clause-present
move_record-requires-clause-present g c = c.loop-left.invariant.pass ∙ c.requires.present

pub move_record-requires-clause-granules : goal.move_record-requires-clause-granules
move_record-requires-clause-granules g c =
    let last : Migration = migration_of c.args.pass.now.value [] in
    let moved = c.loop-left.invariant.moved in
    let left = c.loop-left.left.now in
    let own = c.split_at.result.0.now in
    let later = c.split_at.result.1.now in
    let parts : c.args.granules.now ≡ moved.0 ++ (own ++ later) = moved.1 ∙ ap (λ (gs : List Granule). moved.0 ++ gs) c.split_at.ensures.by_index.0 in
    let there : 0 < length left = left_some left (sym c.is_empty.ensures ∙ c.loop-left-test.true) in
    let some : 0 < c.record_len-count.result = c.record_len-count.ensures.some there in
    let first = first_there left there in
    one_record_of last moved.0 own later (subst (AreGranules last) parts c.requires.granules) (subst (λ (gs : List Granule). IsTrue (rises granule_cmp gs)) parts c.requires.in_order)
    (omega (arith, some, c.split_at.ensures.front_len)) (omega (arith, c.record_len-count.ensures.few, c.split_at.ensures.front_len)) first.0.unit
    (subst (AllByRecursion (λ (g : Granule). g.unit ≡ first.0.unit)) (sym c.split_at.ensures.front) (c.record_len-count.ensures.one_unit first.0 first.1))

pub loop-left-preserved : goal.loop-left-preserved
loop-left-preserved g c =
    let m : Machine = c.args.machine.now in
    let now : Machine = c.loop-left.machine in
    let next : Machine = c.move_record.new.machine in
    let moved = c.loop-left.invariant.moved in
    let own = c.split_at.result.0.now in
    let later = c.split_at.result.1.now in
    let by = c.in_ok-move_record.ensures.moves in
    record {
      moved = (
        moved.0 ++ own,
        moved.1 ∙ (ap (λ (gs : List Granule). moved.0 ++ gs) c.split_at.ensures.by_index.0 ∙ sym (append_assoc moved.0 own later)),
        one_record moved.2 own by,
      );
      keeps = keeps_both g.J.Journal.Answers g.N.Opened.opening m c.args.journal.now now c.loop-left.journal next c.move_record.new.journal c.loop-left.invariant.keeps c.in_ok-move_record.ensures.keeps;
      pass = ap (λ (k : Machine). k.pass) by.goes ∙ c.loop-left.invariant.pass;
    }

pub returns-in_err-move_record-clause-err : goal.returns-in_err-move_record-clause-err
returns-in_err-move_record-clause-err g c =
    let moved = c.loop-left.invariant.moved in
    let stays : MovesAll c.args.machine.now moved.0 c.move_record.new.machine = subst (MovesAll c.args.machine.now moved.0) (sym c.in_err-move_record.ensures.err) moved.2 in
    on_err c.from_residual.result (record { front = moved.0; back = c.loop-left.left.now; parts = moved.1; moves = stays })

pub returns-in_err-move_record-clause-keeps : goal.returns-in_err-move_record-clause-keeps
returns-in_err-move_record-clause-keeps g c =
    let error = c.in_err-move_record.field-0.0 in
    let same : c.from_residual.result ≡ Err error = same_error c.from_residual.result error c.from_residual.ensures.0 c.from_residual.ensures.1 in
    let Answers = g.J.Journal.Answers in
    subst (KeepsOrIsRefused Answers g.J.Journal.ends g.N.Opened.opening c.args.machine.now c.args.journal.now c.move_record.new.machine c.move_record.new.journal) (sym same)
    (keeps_behind Answers g.N.Opened.opening g.J.Journal.ends c.args.machine.now c.args.journal.now c.loop-left.machine c.loop-left.journal c.move_record.new.machine c.move_record.new.journal (Err error)
    c.loop-left.invariant.keeps c.in_err-move_record.ensures.keeps)

pub returns-clause-moves : goal.returns-clause-moves
returns-clause-moves g c =
    let moved = c.loop-left.invariant.moved in
    let none : c.args.granules.now ≡ moved.0 = moved.1 ∙ (ap (λ (gs : List Granule). moved.0 ++ gs) (left_none c.loop-left.left.now (sym c.is_empty.ensures ∙ c.loop-left-test.false)) ∙ append-nil moved.0) in
    subst (λ (gs : List Granule). MovesAll c.args.machine.now gs c.loop-left.machine) (sym none) moved.2
