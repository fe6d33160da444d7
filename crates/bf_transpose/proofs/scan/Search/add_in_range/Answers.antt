-- The rows before the bounds give nothing, nor do those behind them.
use Rattle.std.proofs.Common.{◌≡◌, ℕ, ◌<◌, ◌≤◌, Bool, false, List, [], ◌∷◌, ◌++◌, filter, sym, ap, ◌∙◌, append_assoc, arith}
use Rattle.std.proofs.lemmas.List.{append-nil}
use Rattle.bf_base.specs.declared.granule.Granule.{Granule}
use Rattle.bf_base.specs.declared.granule.Place.TheVariants.{Row}
use Rattle.bf_sql.specs.migrations.Granules.{granule}
use Rattle.bf_image.specs.Migrations.{anchors_in}
use Rattle.bf_transpose.specs.Scans.{gives, row_granules}
use Rattle.bf_transpose.proofs.Steps.{none_from, none_to, row_tested}
use Rattle.bf_transpose.proofs.scan.Search.add_in_range.Goals as goal

pub loop-position-init : goal.loop-position-init
loop-position-init c =
    let s = c.args.self.now in
    let test : Granule → Bool = gives s.migration.now s.target s.cond.now in
    let before = c.args.granules.now.items in
    record {
      within = c.bounds-first.ensures.first;
      found = sym (append-nil before) ∙ ap (λ (gs : List Granule). before ++ gs) (sym (none_to c.args.unit test c.bounds-first.result.0 c.bounds-first.ensures.before));
    }

pub loop-position-preserved : goal.loop-position-preserved
loop-position-preserved c =
    let s = c.args.self.now in
    let test : Granule → Bool = gives s.migration.now s.target s.cond.now in
    let unit = c.args.unit in
    let n = c.loop-position.position in
    let before = c.args.granules.now.items in
    let next : List Granule = filter test (granule unit (Row n) ∷ []) in
    record {
      within = omega (arith, c.loop-position-test.true, c.bounds-first.ensures.end);
      found = c.in_ok-add_row.ensures
          ∙ (ap (λ (gs : List Granule). gs ++ next) c.loop-position.invariant.found
          ∙ (append_assoc before (filter test (row_granules unit n)) next ∙ ap (λ (gs : List Granule). before ++ gs) (sym (row_tested unit test n))));
    }

pub returns : goal.returns
returns c =
    let s = c.args.self.now in
    let m = s.migration.now in
    let test : Granule → Bool = gives m s.target s.cond.now in
    let unit = c.args.unit in
    let n = c.loop-position.position in
    let before = c.args.granules.now.items in
    let past : c.bounds-first.result.1 ≤ n = c.loop-position-test.false in
    let fails : (at : ℕ) → n ≤ at → at < anchors_in m unit → test (granule unit (Row at)) ≡ false = λ at low high. c.bounds-first.ensures.behind at (omega (arith, past, low)) high in
    c.loop-position.invariant.found
    ∙ ap (λ (gs : List Granule). before ++ gs) (sym (none_from unit test n (anchors_in m unit) c.loop-position.invariant.within fails))
