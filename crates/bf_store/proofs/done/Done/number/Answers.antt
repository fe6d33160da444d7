use Rattle.std.proofs.Common.{◌<◌, ◌≤◌, List, length, get_or, ap, ◌∙◌, arith}
use Rattle.bf_store.specs.Marks.{number_in}
use Rattle.bf_store.specs.declared.unit_marks.UnitMarks.{UnitMarks}
use Rattle.bf_store.proofs.Kept.{number_beyond, number_kept}
use Rattle.bf_store.proofs.done.Done.number.Goals as goal

pub returns-in-Some : goal.returns-in-Some
returns-in-Some c =
    let g = c.args.granule.now in
    let ms = c.self.inside.units.items in
    let marks = c.in-Some.marks.now in
    let look = c.in-Some.ensures.lookup in
    let in_range : g.unit < length ms = omega (arith, look.3.0, ap (λ (us : List UnitMarks). length us) c.deref.ensures.value) in
    c.number.ensures g.unit ∙ number_kept ms g.unit g.place marks in_range (look.1 ∙ ap (λ (us : List UnitMarks). get_or us g.unit marks) c.deref.ensures.value)
    ∙ ap (λ done. number_in done g) c.self.view_is

pub returns-in-None : goal.returns-in-None
returns-in-None c =
    let g = c.args.granule.now in
    let ms = c.self.inside.units.items in
    let beyond : length ms ≤ g.unit = omega (arith, c.in-None.ensures.lookup.3, ap (λ (us : List UnitMarks). length us) c.deref.ensures.value) in
    number_beyond ms g.unit g.place beyond ∙ ap (λ done. number_in done g) c.self.view_is
