use Rattle.std.proofs.Common.{◌≡◌, ◌+◌, List, [], ◌++◌, drop, sym, ap, ◌∙◌, append_assoc}
use Rattle.std.specs.Map.{keys_of}
use Rattle.std.proofs.lemmas.List.{append-nil, drop_all}
use Rattle.bf_base.specs.declared.granule.Granule.{Granule}
use Rattle.bf_store.specs.ByUnit.{Numbered, from_unit, of_unit}
use Rattle.bf_store.specs.Marks.{granules_in}
use Rattle.bf_store.specs.declared.unit_marks.UnitMarks.{UnitMarks}
use Rattle.bf_store.proofs.ByUnit.{keys-append, one_unit}
use Rattle.bf_store.proofs.Marking.{seen_keys}
use Rattle.bf_store.proofs.done.Done.granules.Goals as goal

pub loop-at-init : goal.loop-at-init
loop-at-init c = ap (λ (gs : List Granule). gs ++ keys_of (from_unit 0 c.deref-marks-items.result.now)) c.in_ok-granules.ensures.items

pub loop-at-preserved : goal.loop-at-preserved
loop-at-preserved c =
    let ms = c.deref-marks-items.result.now in
    let i = c.loop-at.at in
    let x = c.marks-item.result in
    let so_far = c.loop-at.granules.items in
    let rest = from_unit (i + 1) (drop (i + 1) ms) in
    ap (λ (gs : List Granule). gs ++ keys_of rest) c.in_ok-add_granules.ensures
    ∙ append_assoc so_far (keys_of (of_unit i x)) (keys_of rest)
    ∙ ap (λ (gs : List Granule). so_far ++ gs) (sym (keys-append (of_unit i x) rest))
    ∙ ap (λ (es : List Numbered). so_far ++ keys_of es) (one_unit i ms x c.loop-at-test.true c.marks-item.is)
    ∙ c.loop-at.invariant

pub returns : goal.returns
returns c =
    let ms = c.deref-marks-items.result.now in
    let all = c.loop-at.granules.items in
    let none : drop c.loop-at.at ms ≡ [] = drop_all c.loop-at.at ms c.loop-at-test.false in
    sym (append-nil all) ∙ ap (λ (us : List UnitMarks). all ++ keys_of (from_unit c.loop-at.at us)) (sym none)
    ∙ c.loop-at.invariant ∙ ap (λ (us : List UnitMarks). keys_of (from_unit 0 us)) c.deref-marks-items.ensures.value
    ∙ sym (seen_keys (from_unit 0 c.self.inside.units.items)) ∙ ap granules_in c.self.view_is
