-- All that is left has moved, where the journal has not stopped.
use Rattle.std.proofs.Common.{◌≡◌, ◌⊎◌, List, sym, ap, ◌∙◌, inl, inr}
use Rattle.std.specs.Prelude.{Result, Ok, Err, OnOk}
use Rattle.bf_base.specs.declared.granule.Granule.{Granule}
use Rattle.bf_image.specs.Migrations.{old_of, value_indexes}
use Rattle.bf_image.specs.declared.migration.Migration.{Migration as Kept}
use Rattle.bf_sql.specs.migrations.Granules.{granules_of}
use Rattle.bf_store.specs.States.{to_move}
use Rattle.bf_machine.specs.interleaving.Journals.{nothing_yet}
use Rattle.bf_machine.specs.interleaving.Machines.{Machine}
use Rattle.bf_machine.specs.interleaving.Serving.{MovesAll}
use Rattle.bf_serve.specs.Finishing.{HasFinished, HasStopped}
use Rattle.bf_serve.proofs.Rest.{complete_none, left_granules, left_in_order, none_pending}
use Rattle.bf_serve.proofs.finishing.finish_migration.Goals as goal

abbrev whole : Kept → List Granule
whole m = granules_of (old_of m) m.plan.migrate

on_ok : {A E : Type 0} {P Q : Type 0} (r : Result A E) → (P → Q) → OnOk r P → OnOk r Q
on_ok (Ok a) so p = so p
on_ok (Err e) so p = tt

pub returns-in_default-clause-keeps : goal.returns-in_default-clause-keeps
returns-in_default-clause-keeps g c = nothing_yet

pub returns-then-is_complete-clause-keeps : goal.returns-then-is_complete-clause-keeps
returns-then-is_complete-clause-keeps g c = nothing_yet

pub returns-then-is_complete-clause-finished : goal.returns-then-is_complete-clause-finished
returns-then-is_complete-clause-finished g c =
    let m : Machine = c.args.machine.now in
    inl (complete_none m.lazy.live m.lazy.last c.script.ensures.kept.store_valid.seen_as.lazy_state.last (c.is_complete.ensures.0 c.if-is_complete.true))

pub returns-in_err-indexes-clause-keeps : goal.returns-in_err-indexes-clause-keeps
returns-in_err-indexes-clause-keeps g c = nothing_yet

pub returns-in_err-all-clause-keeps : goal.returns-in_err-all-clause-keeps
returns-in_err-all-clause-keeps g c = nothing_yet

pub returns-in_err-left-clause-keeps : goal.returns-in_err-left-clause-keeps
returns-in_err-left-clause-keeps g c = nothing_yet

pub move_in_records-requires-clause-indexed : goal.move_in_records-requires-clause-indexed
move_in_records-requires-clause-indexed g c = c.in_ok-indexes.ensures ∙ ap value_indexes c.migration-last.ensures.read

pub move_in_records-requires-clause-granules : goal.move_in_records-requires-clause-granules
move_in_records-requires-clause-granules g c =
    let m : Machine = c.args.machine.now in
    let p = c.in-Some.pass in
    let kept = c.script.ensures.kept.store_valid in
    let all : c.in_ok-all.all.items ≡ granules_of (old_of p.value) p.value.plan.migrate = c.in_ok-all.ensures ∙ ap whole c.migration-last.ensures.read in
    let left : c.as_slice-2.result.now ≡ to_move m.lazy.last (granules_of (old_of p.value) p.value.plan.migrate) =
    c.as_slice-2.ensures.value ∙ c.in_ok-left.ensures ∙ ap (to_move m.lazy.last) (c.as_slice.ensures.value ∙ all) in
    left_granules m.lazy m.pass p kept.seen_as.lazy_state kept.by_pass (sym c.in-Some.ensures.pass) c.as_slice-2.result.now left

pub move_in_records-requires-clause-in_order : goal.move_in_records-requires-clause-in_order
move_in_records-requires-clause-in_order g c =
    let m : Machine = c.args.machine.now in
    let p = c.in-Some.pass in
    let kept = c.script.ensures.kept.store_valid in
    let all : c.in_ok-all.all.items ≡ granules_of (old_of p.value) p.value.plan.migrate = c.in_ok-all.ensures ∙ ap whole c.migration-last.ensures.read in
    let left : c.as_slice-2.result.now ≡ to_move m.lazy.last (granules_of (old_of p.value) p.value.plan.migrate) =
    c.as_slice-2.ensures.value ∙ c.in_ok-left.ensures ∙ ap (to_move m.lazy.last) (c.as_slice.ensures.value ∙ all) in
    left_in_order m.lazy m.pass p kept.seen_as.lazy_state kept.by_pass (sym c.in-Some.ensures.pass) c.as_slice-2.result.now left

pub returns-clause-finished : goal.returns-clause-finished
returns-clause-finished g c =
    let m : Machine = c.args.machine.now in
    let next : Machine = c.move_in_records.new.machine in
    let l = c.move_in_records.new.journal in
    let p = c.in-Some.pass in
    let kept = c.script.ensures.kept.store_valid in
    let all : c.in_ok-all.all.items ≡ granules_of (old_of p.value) p.value.plan.migrate = c.in_ok-all.ensures ∙ ap whole c.migration-last.ensures.read in
    let left : c.as_slice-2.result.now ≡ to_move m.lazy.last (granules_of (old_of p.value) p.value.plan.migrate) =
    c.as_slice-2.ensures.value ∙ c.in_ok-left.ensures ∙ ap (to_move m.lazy.last) (c.as_slice.ensures.value ∙ all) in
    on_ok c.move_in_records.result
    (λ (so : MovesAll m c.as_slice-2.result.now next ⊎ HasStopped g.J.Journal.Answers next l). elim so as (λ _. HasFinished g.J.Journal.Answers next l) [
      | inl by ↦ inl (none_pending m next c.as_slice-2.result.now by p kept.by_pass (sym c.in-Some.ensures.pass) left)
      | inr stopped ↦ inr stopped
    ])
    c.move_in_records.ensures.moved
