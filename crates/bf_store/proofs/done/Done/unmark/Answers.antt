use Rattle.std.proofs.Common.{[], ◌∷◌, ◌++◌, take, sym, ap, ◌∙◌}
use Rattle.std.proofs.lemmas.List.{take_more}
use Rattle.bf_base.specs.declared.granule.Granule.{Granule}
use Rattle.bf_store.specs.Marks.{unmarked}
use Rattle.bf_store.proofs.Marking.{unmarked_more, unmarked_none, without}
use Rattle.bf_store.proofs.done.Done.unmark.Goals as goal

pub loop-granule-init : goal.loop-granule-init
loop-granule-init c = sym (unmarked_none c.args.self.now)

pub loop-granule-preserved : goal.loop-granule-preserved
loop-granule-preserved c =
    let gs = c.args.granules.now in
    let i = c.loop-granule.granule-index in
    let g = c.granule-item.result in
    c.unmark_one.ensures
    ∙ ap (without g) c.loop-granule.invariant
    ∙ unmarked_more c.args.self.now (take i gs) g
    ∙ ap (unmarked c.args.self.now) (sym (take_more gs i g c.loop-granule-test.true ∙ ap (λ (h : Granule). take i gs ++ h ∷ []) (sym c.granule-item.is)))
