use Rattle.std.proofs.Common.{◌≤◌, length, sym, arith}
use Rattle.std.proofs.lemmas.Grind.{common_steps}
use Rattle.bf_bind.proofs.Columns.{past_columns}
use Rattle.bf_bind.proofs.tuples_and_sets.has_name.Goals as goal

pub returns-in-None : goal.returns-in-None
returns-in-None c =
    let past : length c.args.columns.now ≤ c.args.place = grind (arith, common_steps) in
    sym (past_columns c.args.name.now c.args.columns.now c.args.place c.as_bytes-sought.ensures.name past)
