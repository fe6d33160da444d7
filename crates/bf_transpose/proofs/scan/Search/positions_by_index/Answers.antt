-- The rows that an index finds are enough, since the others don't satisfy what the condition says of them.
use Rattle.std.proofs.Common.{◌≡◌, true, Bool, filter, sym, ap, ap₂, ◌∙◌}
use Rattle.bf_base.specs.declared.granule.Granule.{Granule}
use Rattle.bf_base.specs.Maps.{is_map}
use Rattle.bf_base.specs.Values.{key_cmp}
use Rattle.bf_heap.specs.Heaps.{key_of_entry}
use Rattle.bf_transpose.specs.Positions.{positions_under}
use Rattle.bf_transpose.specs.Scans.{gives, granules_at}
use Rattle.bf_transpose.proofs.Listed.{found_by_index}
use Rattle.bf_transpose.proofs.scan.Search.positions_by_index.Goals as goal

pub returns : goal.returns
returns c =
    let s = c.args.self.now in
    let m = s.migration.now in
    let unit = c.args.unit in
    let test : Granule → Bool = gives m s.target s.cond.now in
    let frozen = c.args.behind.now.driver.now in
    let part = c.args.behind.now.cond in
    let in_order : is_map key_cmp key_of_entry frozen.rows ≡ true = ap (is_map key_cmp key_of_entry) (sym c.heap-heap.ensures) ∙ c.len.ensures.in_order in
    let chosen = c.in-Some.ensures.some in
    let listed = c.in_ok-positions.ensures ∙ ap₂ positions_under c.heap-heap.ensures (c.deref.ensures.value ∙ c.in_ok-keys.ensures) in
    ap (λ ps. filter test (granules_at unit ps)) listed
    ∙ found_by_index m c.requires.search.lawful s.target c.requires.search.there s.cond.now unit frozen part c.requires.behind c.indexes.result.now c.in-Some.index.now in_order c.indexes.ensures chosen.given chosen.serves
