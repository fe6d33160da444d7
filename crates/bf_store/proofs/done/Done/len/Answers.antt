use Rattle.std.proofs.Common.{List, length, sym, ap, ◌∙◌}
use Rattle.std.proofs.lemmas.List.{length-map}
use Rattle.bf_base.specs.Lists.{rises}
use Rattle.bf_sql.specs.migrations.Lazy.{DoneGranule}
use Rattle.bf_store.specs.ByUnit.{from_unit}
use Rattle.bf_store.specs.Marks.{granules_in}
use Rattle.bf_store.specs.States.{granule_cmp}
use Rattle.bf_store.proofs.Marking.{in_order_if_sorted}
use Rattle.bf_store.proofs.done.Done.len.Goals as goal

pub returns-clause-len : goal.returns-clause-len
returns-clause-len c = c.self.invariant.counted ∙ sym (length-map (from_unit 0 c.self.inside.units.items) _) ∙ ap (λ (done : List DoneGranule). length done) c.self.view_is

pub returns-clause-ordered : goal.returns-clause-ordered
returns-clause-ordered c = ap (λ done. rises granule_cmp (granules_in done)) (sym c.self.view_is) ∙ in_order_if_sorted (from_unit 0 c.self.inside.units.items) c.self.invariant.sorted
