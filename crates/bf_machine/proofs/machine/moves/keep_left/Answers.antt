-- Those that have not moved are of one record, and their move is that of all.
use Rattle.std.proofs.Common.{◌≡◌, ℕ, ◌≤◌, ◌==◌, false, Ok, Err, refl, inr, List, length, sym, ap, subst, ◌∙◌, arith}
use Rattle.std.proofs.lemmas.Bool.Decides.{nat_tests}
use Rattle.bf_base.specs.declared.granule.Granule.{Granule}
use Rattle.bf_sql.specs.migrations.Lazy.{LazyState}
use Rattle.bf_store.specs.States.{AreGranulesIfAny, to_move, with_moved}
use Rattle.bf_tree.specs.declared.reply.Cause.{Cause}
use Rattle.bf_machine.specs.declared.journal.KeepError.{KeepError}
use Rattle.bf_machine.specs.declared.journal.KeepError.TheVariants.{Ended}
use Rattle.bf_machine.specs.interleaving.Journals.{IsMoveIn, IsOfLogIfEnded, IsOfMoveIfEnded, IsOneRecord}
use Rattle.bf_machine.proofs.keeping.Records.{left_is_one_record, left_moves_all, left_twice}
use Rattle.bf_machine.proofs.machine.moves.keep_left.Goals as goal

some_there : (granules : List Granule) (n : ℕ) → (n == 0) ≡ false → n ≡ length granules → 1 ≤ length granules
some_there granules n some size = grind (arith, nat_tests, some, size)

pub keep_moves-requires-clause-record : goal.keep_moves-requires-clause-record
keep_moves-requires-clause-record g c =
    let last = c.args.store.now.lazy.last in
    let left = c.in-Ok.left in
    let some : 1 ≤ length left.items = some_there left.items left.len (sym c.is_empty.ensures ∙ c.if-is_empty.false) (omega (arith, left.ok.0)) in
    let is : left.items ≡ to_move last c.args.granules.now = c.in-Ok.ensures in
    let one = left_is_one_record last c.args.granules.now c.requires (subst (λ (gs : List Granule). 1 ≤ length gs) is some) in
    subst (IsOneRecord last) (sym (c.as_slice.ensures.value ∙ is)) one

pub keep_moves-requires-clause-left : goal.keep_moves-requires-clause-left
keep_moves-requires-clause-left g c =
    let last = c.args.store.now.lazy.last in
    let is : c.as_slice.result.now ≡ to_move last c.args.granules.now = c.as_slice.ensures.value ∙ c.in-Ok.ensures in
    subst (λ (gs : List Granule). to_move last gs ≡ gs) (sym is) (left_twice last c.args.granules.now)

pub returns-in-Ok-keep_moves-clause-kept : goal.returns-in-Ok-keep_moves-clause-kept
returns-in-Ok-keep_moves-clause-kept g c = λ _.
    let lazy = c.args.store.now.lazy in
    let is : c.as_slice.result.now ≡ to_move lazy.last c.args.granules.now = c.as_slice.ensures.value ∙ c.in-Ok.ensures in
    subst (λ (next : LazyState). g.J.Journal.Answers lazy next c.args.journal.now c.keep_moves.new.self (Ok tt)) (ap (with_moved lazy) is ∙ left_moves_all lazy c.args.granules.now)
    c.in-Ok-keep_moves.ensures.answers

-- the move that was not kept
unkept : (lazy : LazyState) (granules left : List Granule) → IsOneRecord lazy.last granules → left ≡ to_move lazy.last granules → 1 ≤ length left → IsMoveIn lazy (with_moved lazy left)
unkept lazy granules left one is some =
    let left_one = left_is_one_record lazy.last granules one (subst (λ (gs : List Granule). 1 ≤ length gs) is some) in
    (left, subst (AreGranulesIfAny lazy.last) (sym is) left_one.of_it, refl)

pub returns-in-Err-Ended-clause-ended : goal.returns-in-Err-Ended-clause-ended
returns-in-Err-Ended-clause-ended g c = λ cause same.
    let lazy = c.args.store.now.lazy in
    let left = c.in-Ok.left in
    let is : c.as_slice.result.now ≡ to_move lazy.last c.args.granules.now = c.as_slice.ensures.value ∙ c.in-Ok.ensures in
    let some : 1 ≤ length left.items = some_there left.items left.len (sym c.is_empty.ensures ∙ c.if-is_empty.false) (omega (arith, left.ok.0)) in
    let one : c.in-Err-Ended.cause ≡ cause = cc in
    let told : c.in-Err-Ended.field-0 ≡ Ended cause = c.in-Err-Ended.field-0-is ∙ ap (λ (d : Cause). Ended d) one in
    let ended = subst (λ (why : KeepError). IsOfLogIfEnded g.J.Journal.ends (Err why)) told c.in-Err-Ended.ensures.ended in
    let fits = subst (λ (why : KeepError). IsOfMoveIfEnded (Err why)) told c.in-Err-Ended.ensures.fits in
    let answers = subst (λ (why : KeepError). g.J.Journal.Answers lazy (with_moved lazy c.as_slice.result.now) c.args.journal.now c.keep_moves.new.self (Err why)) told c.in-Err-Ended.ensures.answers in (
      ended.0,
      ended.1,
      (
        with_moved lazy c.as_slice.result.now,
        (fits, unkept lazy c.args.granules.now c.as_slice.result.now c.requires is (subst (λ (gs : List Granule). 1 ≤ length gs) (sym c.as_slice.ensures.value) some)),
        answers,
      ),
    )

pub returns-clause-memory : goal.returns-clause-memory
returns-clause-memory g c = λ _.
    let lazy = c.args.store.now.lazy in
    let left = c.in-Ok.left in
    let is : c.as_slice.result.now ≡ to_move lazy.last c.args.granules.now = c.as_slice.ensures.value ∙ c.in-Ok.ensures in
    let some : 1 ≤ length left.items = some_there left.items left.len (sym c.is_empty.ensures ∙ c.if-is_empty.false) (omega (arith, left.ok.0)) in
    let answers =
    subst (λ (why : KeepError). g.J.Journal.Answers lazy (with_moved lazy c.as_slice.result.now) c.args.journal.now c.keep_moves.new.self (Err why)) c.in-Err-Memory.field-0-is c.in-Err-Memory.ensures.answers in
    inr (inr (
      refl,
      (
        with_moved lazy c.as_slice.result.now,
        unkept lazy c.args.granules.now c.as_slice.result.now c.requires is (subst (λ (gs : List Granule). 1 ≤ length gs) (sym c.as_slice.ensures.value) some),
        answers,
      ),
    ))
