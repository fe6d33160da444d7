use Rattle.std.proofs.Common.{◌∙◌, ap, sym, Some}
use Rattle.bf_trackers.specs.declared.units.Shape.TheVariants as shape
use Rattle.bf_trackers.proofs.Shapes.{rows_shape}
use Rattle.bf_trackers.proofs.trackers.shape.Goals as goal

pub returns-in-None : goal.returns-in-None
returns-in-None c =
    rows_shape c.args.migration.now c.requires.lawful c.args.unit c.requires.there c.in-None.ensures ∙ ap (λ n. Some (shape.Rows n)) (sym c.positions.ensures)
