use Rattle.std.proofs.Common.{◌≡◌, false, ◌&&◌, ◌==◌, take}
use Rattle.std.specs.List.{list_any}
use Rattle.bf_tree.specs.declared.migration.Target.{Target}
use Rattle.bf_sql.specs.migrations.Need.{may_satisfy, total_places}
use Rattle.bf_transpose.proofs.owning.has_picked.Given as goal

-- none of the rows so far is one
abbrev pub invariant-loop-of : goal.invariant-loop-of
invariant-loop-of l = (t : Target) → total_places t ≡ l.totals → list_any (λ row. row.0 == l.target && may_satisfy l.cond t row.1) (take l.of-index l.rows) ≡ false
