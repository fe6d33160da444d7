-- The granules are of the last migration, whose look-ups are kept.
use Rattle.std.proofs.Common.{◌≡◌, [], Option, Some, refl, sym, ap, subst, ◌∙◌}
use Rattle.std.specs.Prelude.{Result, Ok, Err, OnErr}
use Rattle.std.specs.Result.{IsErr, IsErrAnd}
use Rattle.std.specs.Option.{option_map}
use Rattle.std.proofs.lemmas.Bool.{false≢true}
use Rattle.std.proofs.lemmas.Option.{same_Some}
use Rattle.boxcar.specs.Table.{Where}
use Rattle.bf_image.specs.declared.migration.Migration.{Migration as Kept}
use Rattle.bf_image.specs.Migrations.{value_indexes}
use Rattle.bf_store.specs.Stores.{IsByPass}
use Rattle.bf_machine.specs.declared.journal.KeepError.TheVariants.{Memory}
use Rattle.bf_machine.specs.interleaving.Journals.{nothing_yet}
use Rattle.bf_machine.specs.interleaving.Serving.{no_move, one_record}
use Rattle.bf_machine.proofs.served.Keeping.{keeps_without_memory}
use Rattle.bf_machine.proofs.served.Needs.{granules_by_pass, moves_nothing, none_by_pass}
use Rattle.bf_machine.proofs.serving.move_need.Goals as goal

on_err : {P : Type 0} {A E : Type 0} (r : Result A E) → P → OnErr r P
on_err (Ok x) so = tt
on_err (Err error) so = so

-- a `?` hands on the error that it finds
same_error : {A E : Type 0} (r : Result A E) (e : E) → IsErr r → IsErrAnd r (λ (x : E). x ≡ e) → r ≡ Err e
same_error (Ok a) e none same = absurd (false≢true none)
same_error (Err x) e none same = ap Err same

pub returns-in_default-clause-moves : goal.returns-in_default-clause-moves
returns-in_default-clause-moves g c =
    let m = c.args.machine.now in
    one_record no_move c.args.granules.now (moves_nothing m c.args.granules.now (none_by_pass m.lazy.last (subst (IsByPass m.lazy.last) (sym c.migration.ensures.pass ∙ c.in_default.is) c.migration.ensures.by_pass)))

pub returns-in_default-clause-keeps : goal.returns-in_default-clause-keeps
returns-in_default-clause-keeps g c = nothing_yet

pub returns-in_err-look_up-clause-err : goal.returns-in_err-look_up-clause-err
returns-in_err-look_up-clause-err g c = on_err c.from_residual.result (record { front = []; back = c.args.granules.now; parts = refl; moves = no_move })

pub returns-in_err-look_up-clause-keeps : goal.returns-in_err-look_up-clause-keeps
returns-in_err-look_up-clause-keeps g c =
    keeps_without_memory g.J.Journal.Answers g.N.Opened.opening g.J.Journal.ends c.args.machine.now c.args.journal.now c.args.machine.now c.args.journal.now c.from_residual.result
    (same_error c.from_residual.result Memory c.from_residual.ensures.0 c.from_residual.ensures.1) nothing_yet

pub move_records-requires-clause-present : goal.move_records-requires-clause-present
move_records-requires-clause-present g c = sym c.migration.ensures.pass ∙ c.in-Some.is

pub move_records-requires-clause-granules : goal.move_records-requires-clause-granules
move_records-requires-clause-granules g c =
    let m = c.args.machine.now in
    granules_by_pass m.lazy.last c.in-Some.pass c.args.granules.now (subst (IsByPass m.lazy.last) (sym c.migration.ensures.pass ∙ c.in-Some.is) c.migration.ensures.by_pass) c.requires.granules

pub move_records-requires-clause-indexed : goal.move_records-requires-clause-indexed
move_records-requires-clause-indexed g c =
    let same : Some c.in-Some-lookups.found.value ≡ Some c.in-Some.pass.value = sym (ap (λ (o : Option (Where Kept)). option_map (λ (f : Where Kept). f.value) o) c.in-Some-lookups.is) ∙ c.in_ok-look_up.ensures in
    c.indexes.ensures ∙ ap value_indexes (same_Some c.in-Some-lookups.found.value c.in-Some.pass.value same)
