use Rattle.std.proofs.Common.{◌≡◌, drop}
use Rattle.bf_sql.specs.Conditions.{fixed_key}
use Rattle.bf_bind.proofs.Keys.{with_fixed}
use Rattle.bf_bind.proofs.fixed.fixed_key.Given as goal

abbrev pub invariant-loop-place : goal.invariant-loop-place
invariant-loop-place l = fixed_key l.table l.cond ≡ with_fixed l.cond l.values.items (drop l.place-index l.table.key)
