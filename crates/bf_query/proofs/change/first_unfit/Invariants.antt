use Rattle.std.proofs.Common.{◌≡◌, drop}
use Rattle.std.specs.Prelude.{flat_map, zip}
use Rattle.bf_sql.specs.RowObjections.{unfit_objections, unfit_row_objections}
use Rattle.bf_tree.specs.Settling.{first_of}
use Rattle.bf_query.proofs.change.first_unfit.Given as goal

-- the first objection is to a value from here on
abbrev pub invariant-loop-place : goal.invariant-loop-place
invariant-loop-place l =
    first_of (flat_map (λ p. unfit_objections p.0.admits p.1) (zip (drop l.place l.column-items) (drop l.place l.values))) ≡ first_of (unfit_row_objections l.table l.tuple)
