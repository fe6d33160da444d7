-- A driver's row of which a row comes that is sought satisfies what the condition says of the columns that it copies.
use Rattle.std.proofs.Common.{◌≡◌, Some, slice_get, refl, sym, ap, ◌∙◌}
use Rattle.std.proofs.lemmas.Option.{slice_get_read}
use Rattle.bf_base.specs.Tables.{cell}
use Rattle.bf_tree.specs.Evaluation.{holds_on}
use Rattle.bf_transpose.proofs.Coming.{came}
use Rattle.bf_transpose.proofs.scan.Search.behind.Goals as goal

pub returns : goal.returns
returns c =
    let s = c.args.self.now in
    let m = s.migration.now in
    let unit = c.args.unit in
    let planned = c.in-Some-get.planned.now in
    let here : slice_get m.plan.units unit ≡ Some planned = ap (λ us. slice_get us unit) (sym c.as_slice.ensures) ∙ slice_get_read c.as_slice.result.now _ unit _ refl c.in-Some-get.ensures.lookup.3.0 c.in-Some-get.ensures.lookup.1 in
    record {
      driver = c.in-Some.ensures;
      held = λ at entry there given.
          (λ i. holds_on (cell entry.1) (c.in_ok-cond.ensures i))
          ∙ came m c.requires.lawful s.cond.now s.target c.requires.there unit planned here c.in-Some.driver.now c.in-Some.ensures c.in-Some-copies_of.copies c.in-Some-copies_of.ensures at entry there given;
    }
