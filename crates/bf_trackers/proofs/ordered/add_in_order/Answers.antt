use Rattle.std.proofs.Common.{◌≡◌, ◌∙◌, List, ap, sym}
use Rattle.std.specs.List.{insert}
use Rattle.bf_base.specs.declared.granule.Granule.{Granule}
use Rattle.bf_base.specs.Lists.{rises}
use Rattle.bf_store.specs.States.{granule_cmp}
use Rattle.bf_trackers.specs.Ordered.{with_granule}
use Rattle.bf_trackers.proofs.Rising.{rising_with}
use Rattle.bf_trackers.proofs.ordered.add_in_order.Goals as goal

pub returns-in_ok-insert-clause-rising : goal.returns-in_ok-insert-clause-rising
returns-in_ok-insert-clause-rising c =
    let old = c.args.granules.now.items in
    let g = c.args.granule in
    let is : c.insert.new.self.items ≡ with_granule old g =
    c.in_ok-insert.ensures.items ∙ ap (λ (gs : List Granule). insert gs c.in-Some.place g) (sym c.as_slice.ensures.value)
    ∙ c.in-Some.ensures.new ∙ ap (λ (gs : List Granule). with_granule gs g) c.as_slice.ensures.value in
    ap (rises granule_cmp) is ∙ rising_with old g c.requires.rising
