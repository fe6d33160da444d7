use Rattle.std.proofs.Common.{◌≡◌, ◌≤◌, List, Option, None, Some, false, true, filter, length, option_map, sym, ap, ◌∙◌, arith}
use Rattle.std.specs.Prelude.{slice_get}
use Rattle.std.specs.Option.{option_and_then}
use Rattle.bf_sql.specs.migrations.Lazy.{is_done}
use Rattle.bf_image.specs.Migrations.{anchored_at, anchors_in}
use Rattle.bf_image.specs.declared.value_indexes.UnitIndex.{UnitIndex}
use Rattle.bf_store.specs.Anchors.{has_all_groups}
use Rattle.bf_store.specs.Marks.{granules_in, is_group_of}
use Rattle.bf_store.specs.Stores.{migration_of}
use Rattle.bf_store.proofs.moving.Ahead.{Anchored}
use Rattle.bf_store.proofs.moving.Anchoring.{first_here, none_left, none_past, passed_over}
use Rattle.bf_store.proofs.moving.Passing.{none_of_unit}
use Rattle.bf_store.proofs.anchor.next_in_unit.Goals as goal

pub returns-then-have_all_groups_moved : goal.returns-then-have_all_groups_moved
returns-then-have_all_groups_moved c =
    let m = c.args.migration.now in
    let done = c.args.done.now in
    let indexes = c.args.indexes.now in
    let counted : has_all_groups (option_and_then (λ index. index) (slice_get indexes c.args.unit)) (length (filter (is_group_of c.args.unit) (granules_in done))) ≡ true = sym c.have_all_groups_moved.ensures.all ∙ c.if-have_all_groups_moved.true in
    let all = ap (λ (is : List (Option UnitIndex)). has_all_groups (option_and_then (λ index. index) (slice_get is c.args.unit)) (length (filter (is_group_of c.args.unit) (granules_in done)))) (sym c.requires.indexed) ∙ counted in
    sym (ap (option_map (λ (a : Anchored). a.1)) (none_of_unit m done c.have_all_groups_moved.ensures.ordered c.requires.done c.args.unit all c.args.from))

pub returns : goal.returns
returns c =
    let past : anchors_in c.args.migration.now c.args.unit ≤ c.loop-position.position = omega (arith, c.positions-position-end.ensures, c.loop-position-test.false) in
    sym (ap (option_map (λ (a : Anchored). a.1)) (c.loop-position.invariant ∙ none_past c.args.migration.now c.args.done.now c.args.unit c.loop-position.position past))

pub returns-then-not-has : goal.returns-then-not-has
returns-then-not-has c =
    let m = c.args.migration.now in
    let done = c.args.done.now in
    let g = c.in-Some.granule in
    let here : anchored_at m c.args.unit c.loop-position.position ≡ Some g = sym c.in_ok-granule.ensures ∙ c.in-Some.is in
    let waits : is_done (migration_of m done) g ≡ false = sym c.has.ensures ∙ c.if-not-has.true in
    sym (ap (option_map (λ (a : Anchored). a.1)) (c.loop-position.invariant ∙ first_here m done c.args.unit c.loop-position.position g here waits))

pub loop-position-preserved : goal.loop-position-preserved
loop-position-preserved c =
    let m = c.args.migration.now in
    let done = c.args.done.now in
    let g = c.in-Some.granule in
    let here : anchored_at m c.args.unit c.loop-position.position ≡ Some g = sym c.in_ok-granule.ensures ∙ c.in-Some.is in
    let moved : is_done (migration_of m done) g ≡ true = sym c.has.ensures ∙ c.if-not-has.false in
    c.loop-position.invariant ∙ passed_over m done c.args.unit c.loop-position.position g here moved

pub returns-in_default : goal.returns-in_default
returns-in_default c =
    let m = c.args.migration.now in
    let none : anchored_at m c.args.unit c.loop-position.position ≡ None = sym c.in_ok-granule.ensures ∙ c.in_default.is in
    sym (ap (option_map (λ (a : Anchored). a.1)) (c.loop-position.invariant ∙ none_left m c.args.done.now c.args.unit c.loop-position.position none))
