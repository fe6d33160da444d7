use Rattle.std.proofs.Common.{◌∙◌, List, ap, subst, sym}
use Rattle.bf_trackers.specs.declared.units.Shape.{Shape}
use Rattle.bf_trackers.specs.Migrations.{shapes_of}
use Rattle.bf_trackers.specs.Units.{AreDoneIn, AreMade}
use Rattle.bf_trackers.proofs.Done.{may_be_done}
use Rattle.bf_trackers.proofs.trackers.Trackers.of.Goals as goal

pub of-requires-clause-done : goal.of-requires-clause-done
of-requires-clause-done c =
    subst (λ (ss : List Shape). AreDoneIn ss c.args.done.now) (sym (c.as_slice.ensures.value ∙ c.in_ok-shapes.ensures.shapes ∙ ap shapes_of c.migration.ensures.read))
    (may_be_done c.args.pass.now.value c.args.done.now c.requires.done)

pub returns-clause-made : goal.returns-clause-made
returns-clause-made c =
    subst (λ (ss : List Shape). AreMade ss c.args.done.now c.in_ok-units.units c.in_ok-units.seats.units) (c.as_slice.ensures.value ∙ c.in_ok-shapes.ensures.shapes ∙ ap shapes_of c.migration.ensures.read)
    c.in_ok-units.ensures.made
