-- What is needed has moved, and then the statement has its reply.
use Rattle.std.proofs.Common.{◌≡◌, List, [], Option, refl, sym, ap, subst, ◌∙◌}
use Rattle.std.specs.Prelude.{IsTrue, Result, Ok, Err, OnErr}
use Rattle.std.specs.Global.{Vec}
use Rattle.std.specs.Option.{option_map}
use Rattle.std.specs.Result.{IsErr, IsErrAnd}
use Rattle.std.proofs.lemmas.Bool.{false≢true}
use Rattle.boxcar.specs.Table.{Where}
use Rattle.bf_base.specs.declared.granule.Granule.{Granule}
use Rattle.bf_base.specs.declared.memory.Memory.{Memory}
use Rattle.bf_base.specs.Lists.{rises}
use Rattle.bf_image.specs.declared.migration.Migration.{Migration as Kept}
use Rattle.bf_store.specs.States.{AreGranulesIfAny, granule_cmp}
use Rattle.bf_store.specs.Stores.{IsOf}
use Rattle.bf_machine.specs.declared.journal.KeepError.TheVariants.{Memory as NoMemory}
use Rattle.bf_machine.specs.declared.stand.Step.{Step}
use Rattle.bf_machine.specs.declared.stand.Step.TheVariants.{Need, Replied}
use Rattle.bf_machine.specs.interleaving.Calls.{IsEnough, IsStep}
use Rattle.bf_machine.specs.interleaving.Journals.{Keeps, KeepsOrIsRefused, nothing_yet}
use Rattle.bf_machine.specs.interleaving.Machines.{Machine}
use Rattle.bf_machine.specs.interleaving.Serving.{HasMovedFirst, HasMovedSome, MovesAll, left_of_need, no_move}
use Rattle.bf_machine.proofs.served.Keeping.{keeps_not, keeps_reply, keeps_without_memory}
use Rattle.bf_machine.proofs.served.Needs.{all_is_some, can_then, enough_then, has_moved, has_moved_some, is_present, lent, lent_then, may_move, need_told, none_is_some, none_then, not_stale, nothing_to_move, place_then, present_then}
use Rattle.bf_machine.proofs.served.Records.{left_rises}
use Rattle.bf_machine.proofs.serving.reply_to.Goals as goal

on_err : {P : Type 0} {A E : Type 0} (r : Result A E) → P → OnErr r P
on_err (Ok x) so = tt
on_err (Err error) so = so

-- a `?` hands on the error that it finds
same_error : {A E : Type 0} (r : Result A E) (e : E) → IsErr r → IsErrAnd r (λ (x : E). x ≡ e) → r ≡ Err e
same_error (Ok a) e none same = absurd (false≢true none)
same_error (Err x) e none same = ap Err same

not_replied : (r : Result Step Memory) (granules : Vec Granule) → r ≡ Ok (Need granules) → r ≡ Ok Replied → ⊥
not_replied r granules is e = let clash : ◌≡◌ {A = Result Step Memory} (Ok (Need granules)) (Ok Replied) = sym is ∙ e in cc

pub cover_with-requires-clause-own : goal.cover_with-requires-clause-own
cover_with-requires-clause-own g c = lent c.as_ref-migration.result ∙ (c.as_ref-migration.ensures.value ∙ c.migration-pass.ensures.pass)

pub cover_with-requires-clause-pass : goal.cover_with-requires-clause-pass
cover_with-requires-clause-pass g c =
    subst (IsOf g.N.Opened.registry) (sym (lent c.as_ref-migration.result ∙ (c.as_ref-migration.ensures.value ∙ c.migration-pass.ensures.pass))) c.migration-pass.ensures.one

pub move_need-requires-clause-granules : goal.move_need-requires-clause-granules
move_need-requires-clause-granules g c =
    let m : Machine = c.args.machine.now in
    let bound = c.args.bound.now in
    let cover = c.in_ok-cover.cover in
    let pass = option_map (λ p. p.now) c.as_ref-migration.result in
    let own : pass ≡ m.pass = lent c.as_ref-migration.result ∙ (c.as_ref-migration.ensures.value ∙ c.migration-pass.ensures.pass) in
    let is : IsEnough m (option_map (λ (p : Where Kept). p.value) pass) bound cover = subst (λ (o : Option Kept). IsEnough m o bound cover) (lent_then (λ (p : Where Kept). p.value) c.as_ref-migration.result) c.in_ok-cover.ensures in
    let same : c.exec.new.self ≡ m = c.exec.ensures.same (not_replied c.exec.result c.in-Need.granules (c.in_ok-exec.was ∙ ap Ok c.in-Need.is)) in
    let step : IsStep m pass bound cover.granules.items (Need c.in-Need.granules) = subst (λ (step : Step). IsStep m pass bound cover.granules.items step) c.in-Need.is c.in_ok-exec.ensures.step in
    let told = c.as_slice.ensures.value ∙ need_told m c.requires.kept bound cover pass own is c.requires.present c.in-Need.granules step in
    subst (λ (k : Machine). AreGranulesIfAny k.lazy.last c.as_slice.result.now) (sym same) (may_move m c.requires.kept bound cover pass own is c.requires.present c.as_slice.result.now told)

pub move_need-requires-clause-in_order : goal.move_need-requires-clause-in_order
move_need-requires-clause-in_order g c =
    let m : Machine = c.args.machine.now in
    let bound = c.args.bound.now in
    let cover = c.in_ok-cover.cover in
    let pass = option_map (λ p. p.now) c.as_ref-migration.result in
    let own : pass ≡ m.pass = lent c.as_ref-migration.result ∙ (c.as_ref-migration.ensures.value ∙ c.migration-pass.ensures.pass) in
    let is : IsEnough m (option_map (λ (p : Where Kept). p.value) pass) bound cover = subst (λ (o : Option Kept). IsEnough m o bound cover) (lent_then (λ (p : Where Kept). p.value) c.as_ref-migration.result) c.in_ok-cover.ensures in
    let same : c.exec.new.self ≡ m = c.exec.ensures.same (not_replied c.exec.result c.in-Need.granules (c.in_ok-exec.was ∙ ap Ok c.in-Need.is)) in
    let step : IsStep m pass bound cover.granules.items (Need c.in-Need.granules) = subst (λ (step : Step). IsStep m pass bound cover.granules.items step) c.in-Need.is c.in_ok-exec.ensures.step in
    let told = c.as_slice.ensures.value ∙ need_told m c.requires.kept bound cover pass own is c.requires.present c.in-Need.granules step in
    subst (λ (gs : List Granule). IsTrue (rises granule_cmp gs)) (sym told) (left_rises m.lazy.last bound.action)

pub reply_behind_moves-requires-clause-place : goal.reply_behind_moves-requires-clause-place
reply_behind_moves-requires-clause-place g c =
    let m : Machine = c.args.machine.now in
    let bound = c.args.bound.now in
    let cover = c.in_ok-cover.cover in
    let pass = option_map (λ p. p.now) c.as_ref-migration.result in
    let own : pass ≡ m.pass = lent c.as_ref-migration.result ∙ (c.as_ref-migration.ensures.value ∙ c.migration-pass.ensures.pass) in
    let is : IsEnough m (option_map (λ (p : Where Kept). p.value) pass) bound cover = subst (λ (o : Option Kept). IsEnough m o bound cover) (lent_then (λ (p : Where Kept). p.value) c.as_ref-migration.result) c.in_ok-cover.ensures in
    let same : c.exec.new.self ≡ m = c.exec.ensures.same (not_replied c.exec.result c.in-Need.granules (c.in_ok-exec.was ∙ ap Ok c.in-Need.is)) in
    let step : IsStep m pass bound cover.granules.items (Need c.in-Need.granules) = subst (λ (step : Step). IsStep m pass bound cover.granules.items step) c.in-Need.is c.in_ok-exec.ensures.step in
    let told = c.as_slice.ensures.value ∙ need_told m c.requires.kept bound cover pass own is c.requires.present c.in-Need.granules step in
    let by : MovesAll m c.as_slice.result.now c.move_need.new.machine = subst (λ (k : Machine). MovesAll k c.as_slice.result.now c.move_need.new.machine) same c.in_ok-move_need-in-Need.ensures.moves in
    place_then m c.requires.kept bound cover pass own is c.requires.present c.as_slice.result.now told c.move_need.new.machine by c.args.session c.requires.place

pub reply_behind_moves-requires-clause-can : goal.reply_behind_moves-requires-clause-can
reply_behind_moves-requires-clause-can g c =
    let m : Machine = c.args.machine.now in
    let bound = c.args.bound.now in
    let cover = c.in_ok-cover.cover in
    let pass = option_map (λ p. p.now) c.as_ref-migration.result in
    let own : pass ≡ m.pass = lent c.as_ref-migration.result ∙ (c.as_ref-migration.ensures.value ∙ c.migration-pass.ensures.pass) in
    let is : IsEnough m (option_map (λ (p : Where Kept). p.value) pass) bound cover = subst (λ (o : Option Kept). IsEnough m o bound cover) (lent_then (λ (p : Where Kept). p.value) c.as_ref-migration.result) c.in_ok-cover.ensures in
    let same : c.exec.new.self ≡ m = c.exec.ensures.same (not_replied c.exec.result c.in-Need.granules (c.in_ok-exec.was ∙ ap Ok c.in-Need.is)) in
    let step : IsStep m pass bound cover.granules.items (Need c.in-Need.granules) = subst (λ (step : Step). IsStep m pass bound cover.granules.items step) c.in-Need.is c.in_ok-exec.ensures.step in
    let told = c.as_slice.ensures.value ∙ need_told m c.requires.kept bound cover pass own is c.requires.present c.in-Need.granules step in
    let by : MovesAll m c.as_slice.result.now c.move_need.new.machine = subst (λ (k : Machine). MovesAll k c.as_slice.result.now c.move_need.new.machine) same c.in_ok-move_need-in-Need.ensures.moves in
    can_then m c.requires.kept bound cover pass own is c.requires.present c.as_slice.result.now told c.move_need.new.machine by c.args.session c.requires.can

pub reply_behind_moves-requires-clause-present : goal.reply_behind_moves-requires-clause-present
reply_behind_moves-requires-clause-present g c =
    let m : Machine = c.args.machine.now in
    let bound = c.args.bound.now in
    let cover = c.in_ok-cover.cover in
    let pass = option_map (λ p. p.now) c.as_ref-migration.result in
    let own : pass ≡ m.pass = lent c.as_ref-migration.result ∙ (c.as_ref-migration.ensures.value ∙ c.migration-pass.ensures.pass) in
    let is : IsEnough m (option_map (λ (p : Where Kept). p.value) pass) bound cover = subst (λ (o : Option Kept). IsEnough m o bound cover) (lent_then (λ (p : Where Kept). p.value) c.as_ref-migration.result) c.in_ok-cover.ensures in
    let same : c.exec.new.self ≡ m = c.exec.ensures.same (not_replied c.exec.result c.in-Need.granules (c.in_ok-exec.was ∙ ap Ok c.in-Need.is)) in
    let step : IsStep m pass bound cover.granules.items (Need c.in-Need.granules) = subst (λ (step : Step). IsStep m pass bound cover.granules.items step) c.in-Need.is c.in_ok-exec.ensures.step in
    let told = c.as_slice.ensures.value ∙ need_told m c.requires.kept bound cover pass own is c.requires.present c.in-Need.granules step in
    let by : MovesAll m c.as_slice.result.now c.move_need.new.machine = subst (λ (k : Machine). MovesAll k c.as_slice.result.now c.move_need.new.machine) same c.in_ok-move_need-in-Need.ensures.moves in
    present_then m c.requires.kept bound cover pass own is c.requires.present c.as_slice.result.now told c.move_need.new.machine by

pub reply_behind_moves-requires-clause-moved : goal.reply_behind_moves-requires-clause-moved
reply_behind_moves-requires-clause-moved g c =
    let m : Machine = c.args.machine.now in
    let bound = c.args.bound.now in
    let cover = c.in_ok-cover.cover in
    let pass = option_map (λ p. p.now) c.as_ref-migration.result in
    let own : pass ≡ m.pass = lent c.as_ref-migration.result ∙ (c.as_ref-migration.ensures.value ∙ c.migration-pass.ensures.pass) in
    let is : IsEnough m (option_map (λ (p : Where Kept). p.value) pass) bound cover = subst (λ (o : Option Kept). IsEnough m o bound cover) (lent_then (λ (p : Where Kept). p.value) c.as_ref-migration.result) c.in_ok-cover.ensures in
    let same : c.exec.new.self ≡ m = c.exec.ensures.same (not_replied c.exec.result c.in-Need.granules (c.in_ok-exec.was ∙ ap Ok c.in-Need.is)) in
    let step : IsStep m pass bound cover.granules.items (Need c.in-Need.granules) = subst (λ (step : Step). IsStep m pass bound cover.granules.items step) c.in-Need.is c.in_ok-exec.ensures.step in
    let told = c.as_slice.ensures.value ∙ need_told m c.requires.kept bound cover pass own is c.requires.present c.in-Need.granules step in
    let by : MovesAll m c.as_slice.result.now c.move_need.new.machine = subst (λ (k : Machine). MovesAll k c.as_slice.result.now c.move_need.new.machine) same c.in_ok-move_need-in-Need.ensures.moves in
    none_then m c.requires.kept bound cover pass own is c.requires.present c.as_slice.result.now told c.move_need.new.machine by

pub reply_behind_moves-requires-clause-cover : goal.reply_behind_moves-requires-clause-cover
reply_behind_moves-requires-clause-cover g c =
    let m : Machine = c.args.machine.now in
    let bound = c.args.bound.now in
    let cover = c.in_ok-cover.cover in
    let pass = option_map (λ p. p.now) c.as_ref-migration.result in
    let own : pass ≡ m.pass = lent c.as_ref-migration.result ∙ (c.as_ref-migration.ensures.value ∙ c.migration-pass.ensures.pass) in
    let is : IsEnough m (option_map (λ (p : Where Kept). p.value) pass) bound cover = subst (λ (o : Option Kept). IsEnough m o bound cover) (lent_then (λ (p : Where Kept). p.value) c.as_ref-migration.result) c.in_ok-cover.ensures in
    let same : c.exec.new.self ≡ m = c.exec.ensures.same (not_replied c.exec.result c.in-Need.granules (c.in_ok-exec.was ∙ ap Ok c.in-Need.is)) in
    let step : IsStep m pass bound cover.granules.items (Need c.in-Need.granules) = subst (λ (step : Step). IsStep m pass bound cover.granules.items step) c.in-Need.is c.in_ok-exec.ensures.step in
    let told = c.as_slice.ensures.value ∙ need_told m c.requires.kept bound cover pass own is c.requires.present c.in-Need.granules step in
    let by : MovesAll m c.as_slice.result.now c.move_need.new.machine = subst (λ (k : Machine). MovesAll k c.as_slice.result.now c.move_need.new.machine) same c.in_ok-move_need-in-Need.ensures.moves in
    subst (λ (o : Option Kept). IsEnough c.move_need.new.machine o bound cover) (sym (lent_then (λ (p : Where Kept). p.value) c.as_ref-migration.result))
    (enough_then m c.requires.kept bound cover pass own is c.requires.present c.as_slice.result.now told c.move_need.new.machine by)

pub unreachable-requires : goal.unreachable-requires
unreachable-requires g c =
    let m : Machine = c.args.machine.now in
    let bound = c.args.bound.now in
    let cover = c.in_ok-cover.cover in
    let pass = option_map (λ p. p.now) c.as_ref-migration.result in
    let own : pass ≡ m.pass = lent c.as_ref-migration.result ∙ (c.as_ref-migration.ensures.value ∙ c.migration-pass.ensures.pass) in
    let is : IsEnough m (option_map (λ (p : Where Kept). p.value) pass) bound cover = subst (λ (o : Option Kept). IsEnough m o bound cover) (lent_then (λ (p : Where Kept). p.value) c.as_ref-migration.result) c.in_ok-cover.ensures in
    not_stale m pass bound cover.granules.items (is_present m c.requires.kept bound cover pass own is c.requires.present) c.in-Stale.field-0
    (subst (λ (step : Step). IsStep m pass bound cover.granules.items step) c.in-Stale.is c.in_ok-exec.ensures.step)

pub returns-in-Need-clause-replied : goal.returns-in-Need-clause-replied
returns-in-Need-clause-replied g c =
    let m : Machine = c.args.machine.now in
    let bound = c.args.bound.now in
    let cover = c.in_ok-cover.cover in
    let pass = option_map (λ p. p.now) c.as_ref-migration.result in
    let own : pass ≡ m.pass = lent c.as_ref-migration.result ∙ (c.as_ref-migration.ensures.value ∙ c.migration-pass.ensures.pass) in
    let is : IsEnough m (option_map (λ (p : Where Kept). p.value) pass) bound cover = subst (λ (o : Option Kept). IsEnough m o bound cover) (lent_then (λ (p : Where Kept). p.value) c.as_ref-migration.result) c.in_ok-cover.ensures in
    let same : c.exec.new.self ≡ m = c.exec.ensures.same (not_replied c.exec.result c.in-Need.granules (c.in_ok-exec.was ∙ ap Ok c.in-Need.is)) in
    let step : IsStep m pass bound cover.granules.items (Need c.in-Need.granules) = subst (λ (step : Step). IsStep m pass bound cover.granules.items step) c.in-Need.is c.in_ok-exec.ensures.step in
    let told = c.as_slice.ensures.value ∙ need_told m c.requires.kept bound cover pass own is c.requires.present c.in-Need.granules step in
    let by : MovesAll m c.as_slice.result.now c.move_need.new.machine = subst (λ (k : Machine). MovesAll k c.as_slice.result.now c.move_need.new.machine) same c.in_ok-move_need-in-Need.ensures.moves in
    (c.move_need.new.machine, has_moved m c.requires.kept bound cover pass own is c.requires.present c.as_slice.result.now told c.move_need.new.machine by, c.in_ok-reply_behind_moves-in-Need.ensures.replied)

pub returns-in_err-move_need-in-Need-clause-err : goal.returns-in_err-move_need-in-Need-clause-err
returns-in_err-move_need-in-Need-clause-err g c =
    let m : Machine = c.args.machine.now in
    let bound = c.args.bound.now in
    let cover = c.in_ok-cover.cover in
    let pass = option_map (λ p. p.now) c.as_ref-migration.result in
    let own : pass ≡ m.pass = lent c.as_ref-migration.result ∙ (c.as_ref-migration.ensures.value ∙ c.migration-pass.ensures.pass) in
    let is : IsEnough m (option_map (λ (p : Where Kept). p.value) pass) bound cover = subst (λ (o : Option Kept). IsEnough m o bound cover) (lent_then (λ (p : Where Kept). p.value) c.as_ref-migration.result) c.in_ok-cover.ensures in
    let same : c.exec.new.self ≡ m = c.exec.ensures.same (not_replied c.exec.result c.in-Need.granules (c.in_ok-exec.was ∙ ap Ok c.in-Need.is)) in
    let step : IsStep m pass bound cover.granules.items (Need c.in-Need.granules) = subst (λ (step : Step). IsStep m pass bound cover.granules.items step) c.in-Need.is c.in_ok-exec.ensures.step in
    let told = c.as_slice.ensures.value ∙ need_told m c.requires.kept bound cover pass own is c.requires.present c.in-Need.granules step in
    let some : HasMovedFirst m c.as_slice.result.now c.move_need.new.machine = subst (λ (k : Machine). HasMovedFirst k c.as_slice.result.now c.move_need.new.machine) same c.in_err-move_need-in-Need.ensures.err in
    on_err c.from_residual-in_err-move_need-in-Need.result (has_moved_some m c.requires.kept bound cover pass own is c.requires.present c.as_slice.result.now told c.move_need.new.machine some)

pub returns-in_err-move_need-in-Need-clause-keeps : goal.returns-in_err-move_need-in-Need-clause-keeps
returns-in_err-move_need-in-Need-clause-keeps g c =
    let m : Machine = c.args.machine.now in
    let same : c.exec.new.self ≡ m = c.exec.ensures.same (not_replied c.exec.result c.in-Need.granules (c.in_ok-exec.was ∙ ap Ok c.in-Need.is)) in
    let journal = c.args.journal.now in
    let error = c.in_err-move_need-in-Need.field-0.0 in
    let result = c.from_residual-in_err-move_need-in-Need.result in
    let told : result ≡ Err error = same_error result error c.from_residual-in_err-move_need-in-Need.ensures.0 c.from_residual-in_err-move_need-in-Need.ensures.1 in
    subst (KeepsOrIsRefused g.J.Journal.Answers g.J.Journal.ends g.N.Opened.opening m journal c.move_need.new.machine c.move_need.new.journal) (sym told)
    (subst (λ (k : Machine). KeepsOrIsRefused g.J.Journal.Answers g.J.Journal.ends g.N.Opened.opening k journal c.move_need.new.machine c.move_need.new.journal (Err error)) same c.in_err-move_need-in-Need.ensures.keeps)

pub returns-in_err-reply_behind_moves-in-Need-clause-err : goal.returns-in_err-reply_behind_moves-in-Need-clause-err
returns-in_err-reply_behind_moves-in-Need-clause-err g c =
    let m : Machine = c.args.machine.now in
    let bound = c.args.bound.now in
    let cover = c.in_ok-cover.cover in
    let pass = option_map (λ p. p.now) c.as_ref-migration.result in
    let own : pass ≡ m.pass = lent c.as_ref-migration.result ∙ (c.as_ref-migration.ensures.value ∙ c.migration-pass.ensures.pass) in
    let is : IsEnough m (option_map (λ (p : Where Kept). p.value) pass) bound cover = subst (λ (o : Option Kept). IsEnough m o bound cover) (lent_then (λ (p : Where Kept). p.value) c.as_ref-migration.result) c.in_ok-cover.ensures in
    let same : c.exec.new.self ≡ m = c.exec.ensures.same (not_replied c.exec.result c.in-Need.granules (c.in_ok-exec.was ∙ ap Ok c.in-Need.is)) in
    let step : IsStep m pass bound cover.granules.items (Need c.in-Need.granules) = subst (λ (step : Step). IsStep m pass bound cover.granules.items step) c.in-Need.is c.in_ok-exec.ensures.step in
    let told = c.as_slice.ensures.value ∙ need_told m c.requires.kept bound cover pass own is c.requires.present c.in-Need.granules step in
    let by : MovesAll m c.as_slice.result.now c.move_need.new.machine = subst (λ (k : Machine). MovesAll k c.as_slice.result.now c.move_need.new.machine) same c.in_ok-move_need-in-Need.ensures.moves in
    let all = has_moved m c.requires.kept bound cover pass own is c.requires.present c.as_slice.result.now told c.move_need.new.machine by in
    on_err c.from_residual-in_err-reply_behind_moves-in-Need.result (subst (λ (k : Machine). HasMovedSome m bound k) (sym c.in_err-reply_behind_moves-in-Need.ensures.err) (all_is_some m bound c.move_need.new.machine all))

pub returns-in_err-reply_behind_moves-in-Need-clause-keeps : goal.returns-in_err-reply_behind_moves-in-Need-clause-keeps
returns-in_err-reply_behind_moves-in-Need-clause-keeps g c =
    let m : Machine = c.args.machine.now in
    let same : c.exec.new.self ≡ m = c.exec.ensures.same (not_replied c.exec.result c.in-Need.granules (c.in_ok-exec.was ∙ ap Ok c.in-Need.is)) in
    let journal = c.args.journal.now in
    let moved = subst (λ (k : Machine). Keeps g.J.Journal.Answers g.N.Opened.opening k journal c.move_need.new.machine c.move_need.new.journal) same c.in_ok-move_need-in-Need.ensures.keeps in
    let result = c.from_residual-in_err-reply_behind_moves-in-Need.result in
    keeps_without_memory g.J.Journal.Answers g.N.Opened.opening g.J.Journal.ends m journal c.reply_behind_moves.new.machine c.move_need.new.journal result
    (same_error result NoMemory c.from_residual-in_err-reply_behind_moves-in-Need.ensures.0 c.from_residual-in_err-reply_behind_moves-in-Need.ensures.1)
    (subst (λ (k : Machine). Keeps g.J.Journal.Answers g.N.Opened.opening m journal k c.move_need.new.journal) (sym c.in_err-reply_behind_moves-in-Need.ensures.err) moved)

pub returns-in-Need-clause-keeps : goal.returns-in-Need-clause-keeps
returns-in-Need-clause-keeps g c =
    let m : Machine = c.args.machine.now in
    let same : c.exec.new.self ≡ m = c.exec.ensures.same (not_replied c.exec.result c.in-Need.granules (c.in_ok-exec.was ∙ ap Ok c.in-Need.is)) in
    let journal = c.args.journal.now in
    let moved = subst (λ (k : Machine). Keeps g.J.Journal.Answers g.N.Opened.opening k journal c.move_need.new.machine c.move_need.new.journal) same c.in_ok-move_need-in-Need.ensures.keeps in
    keeps_reply g.J.Journal.Answers g.N.Opened.opening m journal c.move_need.new.machine c.move_need.new.journal c.args.session c.args.bound.now c.reply_behind_moves.new.machine moved
    c.in_ok-reply_behind_moves-in-Need.ensures.replied

pub returns-in-Replied-clause-replied : goal.returns-in-Replied-clause-replied
returns-in-Replied-clause-replied g c =
    let m : Machine = c.args.machine.now in
    let bound = c.args.bound.now in
    let cover = c.in_ok-cover.cover in
    let pass = option_map (λ p. p.now) c.as_ref-migration.result in
    let own : pass ≡ m.pass = lent c.as_ref-migration.result ∙ (c.as_ref-migration.ensures.value ∙ c.migration-pass.ensures.pass) in
    let is : IsEnough m (option_map (λ (p : Where Kept). p.value) pass) bound cover = subst (λ (o : Option Kept). IsEnough m o bound cover) (lent_then (λ (p : Where Kept). p.value) c.as_ref-migration.result) c.in_ok-cover.ensures in
    let step : IsStep m pass bound cover.granules.items Replied = subst (λ (step : Step). IsStep m pass bound cover.granules.items step) c.in-Replied.is c.in_ok-exec.ensures.step in
    let none : left_of_need m bound ≡ [] = nothing_to_move m c.requires.kept bound cover pass own is c.requires.present step in
    (m, subst (λ (gs : List Granule). MovesAll m gs m) (sym none) no_move, c.exec.ensures.replied (c.in_ok-exec.was ∙ ap Ok c.in-Replied.is))

pub returns-in-Replied-clause-keeps : goal.returns-in-Replied-clause-keeps
returns-in-Replied-clause-keeps g c =
    let m : Machine = c.args.machine.now in
    keeps_reply g.J.Journal.Answers g.N.Opened.opening m c.args.journal.now m c.args.journal.now c.args.session c.args.bound.now c.exec.new.self nothing_yet
    (c.exec.ensures.replied (c.in_ok-exec.was ∙ ap Ok c.in-Replied.is))

pub returns-in_err-cover-clause-err : goal.returns-in_err-cover-clause-err
returns-in_err-cover-clause-err g c = on_err c.from_residual.result (none_is_some c.args.machine.now c.args.bound.now)

pub returns-in_err-cover-clause-keeps : goal.returns-in_err-cover-clause-keeps
returns-in_err-cover-clause-keeps g c =
    keeps_without_memory g.J.Journal.Answers g.N.Opened.opening g.J.Journal.ends c.args.machine.now c.args.journal.now c.args.machine.now c.args.journal.now c.from_residual.result
    (same_error c.from_residual.result NoMemory c.from_residual.ensures.0 c.from_residual.ensures.1) nothing_yet

pub returns-in_err-exec-clause-err : goal.returns-in_err-exec-clause-err
returns-in_err-exec-clause-err g c =
    on_err c.from_residual-in_err-exec.result (subst (λ (k : Machine). HasMovedSome c.args.machine.now c.args.bound.now k) (sym (c.in_err-exec.ensures.same (λ e. cc))) (none_is_some c.args.machine.now c.args.bound.now))

pub returns-in_err-exec-clause-keeps : goal.returns-in_err-exec-clause-keeps
returns-in_err-exec-clause-keeps g c =
    let result = c.from_residual-in_err-exec.result in
    keeps_without_memory g.J.Journal.Answers g.N.Opened.opening g.J.Journal.ends c.args.machine.now c.args.journal.now c.exec.new.self c.args.journal.now result
    (same_error result NoMemory c.from_residual-in_err-exec.ensures.0 c.from_residual-in_err-exec.ensures.1)
    (keeps_not g.J.Journal.Answers g.N.Opened.opening c.args.machine.now c.exec.new.self c.args.journal.now c.args.journal.now (c.in_err-exec.ensures.same (λ e. cc)) refl)
