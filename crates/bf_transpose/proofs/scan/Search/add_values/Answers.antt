-- The values before the range give nothing, nor do those behind it.
use Rattle.std.proofs.Common.{◌≡◌, ℕ, ◌≤◌, Bool, false, List, ◌++◌, Some, filter, map, slice_get, take, sym, ap, ◌∙◌, append_assoc, arith}
use Rattle.std.specs.Option.{option_to_list}
use Rattle.std.proofs.lemmas.List.{append-nil}
use Rattle.bf_base.specs.declared.granule.Granule.{Granule}
use Rattle.bf_base.specs.declared.granule.Place.TheVariants.{Group}
use Rattle.bf_sql.specs.migrations.Granules.{granule}
use Rattle.bf_index.specs.ByValues.{Valued, value_of}
use Rattle.bf_transpose.specs.Scans.{gives, value_granules}
use Rattle.bf_transpose.proofs.Ranged.{none_before, none_behind}
use Rattle.bf_transpose.proofs.Steps.{no_value_from, no_value_to, value_tested}
use Rattle.bf_transpose.proofs.scan.Search.add_values.Goals as goal

pub loop-at-init : goal.loop-at-init
loop-at-init c =
    let s = c.args.self.now in
    let test : Granule → Bool = gives s.migration.now s.target s.cond.now in
    let before = c.args.granules.now.items in
    let values = c.args.values.now in
    let n = c.values_before-first.result in
    let fails = none_before s c.args.unit values c.args.range.now c.requires.within n c.values_before-first.ensures.before in
    record {
      within = c.values_before-first.ensures.bound;
      found = sym (append-nil before) ∙ ap (λ (gs : List Granule). before ++ gs) (sym (no_value_to c.args.unit test values n fails));
    }

pub loop-at-preserved : goal.loop-at-preserved
loop-at-preserved c =
    let s = c.args.self.now in
    let test : Granule → Bool = gives s.migration.now s.target s.cond.now in
    let unit = c.args.unit in
    let n = c.loop-at.at in
    let values = c.args.values.now in
    let before = c.args.granules.now.items in
    let so_far = filter test (value_granules unit (map value_of (take n values))) in
    let next : List Granule = filter test (value_granules unit (map value_of (option_to_list (slice_get values n)))) in
    record {
      within = omega (arith, c.loop-at-test.true, c.values_to_end-end.ensures.bound);
      found = c.in_ok-add_value.ensures
          ∙ (ap (λ (gs : List Granule). gs ++ next) c.loop-at.invariant.found
          ∙ (append_assoc before so_far next ∙ ap (λ (gs : List Granule). before ++ gs) (sym (value_tested unit test values n))));
    }

pub returns : goal.returns
returns c =
    let s = c.args.self.now in
    let test : Granule → Bool = gives s.migration.now s.target s.cond.now in
    let unit = c.args.unit in
    let n = c.loop-at.at in
    let values = c.args.values.now in
    let before = c.args.granules.now.items in
    let past : c.values_to_end-end.result ≤ n = c.loop-at-test.false in
    let fails : (at : ℕ) (entry : Valued) → slice_get values at ≡ Some entry → n ≤ at → test (granule unit (Group (value_of entry))) ≡ false =
    λ at entry is low. none_behind s unit values c.args.range.now c.requires.within c.values_to_end-end.result c.values_to_end-end.ensures.behind at entry is (omega (arith, past, low)) in
    c.loop-at.invariant.found
    ∙ ap (λ (gs : List Granule). before ++ gs) (sym (no_value_from unit test values n c.loop-at.invariant.within fails))
