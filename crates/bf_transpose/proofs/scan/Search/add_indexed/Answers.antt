-- The values of FROM are all that give a row, and those in the range all that give one which is sought.
use Rattle.std.proofs.Common.{List, ◌++◌, ap, ◌∙◌}
use Rattle.std.proofs.lemmas.Result.{on_ok_weaker}
use Rattle.bf_base.specs.declared.granule.Granule.{Granule}
use Rattle.bf_heap.specs.KeyRanges.{is_within}
use Rattle.bf_heap.specs.declared.key_range.KeyRange.{KeyRange}
use Rattle.bf_index.specs.ByValues.{value_of}
use Rattle.bf_transpose.proofs.Grouped.{value_within}
use Rattle.bf_transpose.proofs.Sought.{found_at_values}
use Rattle.bf_transpose.proofs.scan.Search.add_indexed.Goals as goal

pub add_values-requires-in-None-clause-within : goal.add_values-requires-in-None-clause-within
add_values-requires-in-None-clause-within c =
    let s = c.args.self.now in
    λ at entry is given.
    ap (λ (r : KeyRange). is_within r (value_of entry)) c.requires.search.range
    ∙ value_within s.migration.now c.requires.search.lawful s.target c.requires.search.there s.cond.now c.args.unit c.args.index.now c.requires.of_unit c.in-None.is at entry is given

pub returns-in_ok-range-in-Some : goal.returns-in_ok-range-in-Some
returns-in_ok-range-in-Some c =
    let s = c.args.self.now in
    let before = c.args.granules.now.items in
    on_ok_weaker c.add_values.result
    (λ added. added ∙ ap (λ (gs : List Granule). before ++ gs) (found_at_values s.migration.now c.requires.search.lawful s.target c.requires.search.there s.cond.now c.args.unit c.args.index.now c.requires.of_unit))
    c.add_values.ensures

pub returns-in-None : goal.returns-in-None
returns-in-None c =
    let s = c.args.self.now in
    let before = c.args.granules.now.items in
    on_ok_weaker c.add_values-in-None.result
    (λ added. added ∙ ap (λ (gs : List Granule). before ++ gs) (found_at_values s.migration.now c.requires.search.lawful s.target c.requires.search.there s.cond.now c.args.unit c.args.index.now c.requires.of_unit))
    c.add_values-in-None.ensures
