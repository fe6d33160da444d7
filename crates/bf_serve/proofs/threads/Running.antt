-- What came of a statement that was made ready.
use Rattle.std.proofs.Common.{Result, Ok, Err, IfOk}
use Rattle.bf_base.specs.declared.memory.Memory.{Memory}
use Rattle.bf_sql.specs.Database.{Database}
use Rattle.bf_machine.specs.interleaving.Machines.{Machine}
use Rattle.bf_serve.specs.Requests.{Request}
use Rattle.bf_serve.specs.Sections.{AreNeededIfAny, IsRanAs, IsRanHeld}
use Rattle.bf_serve.specs.declared.sections.Ran.{Ran}
use Rattle.bf_serve.specs.declared.sections.Ran.TheVariants.{Died, Elsewhere, Need, Replied, Uncovered, Waits}

module _ (start : Database) (m : Machine) (r : Request) (next : Machine) where
  -- it tells what is to move first
  needed_by : (ran : Ran) → IsRanAs start m r next ran → AreNeededIfAny r ran
  needed_by Replied is = tt
  needed_by (Need granules) is = is
  needed_by Waits is = tt
  needed_by Died is = tt
  needed_by Uncovered is = tt
  needed_by Elsewhere is = tt

  pub needed_if_ok : (x : Result Ran Memory) → IfOk x (IsRanAs start m r next) → IfOk x (AreNeededIfAny r)
  needed_if_ok (Ok ran) is = needed_by ran is
  needed_if_ok (Err memory) is = tt

  -- where its locks are held, it neither waits nor dies
  ran_by : (ran : Ran) → IsRanHeld r ran → IsRanAs start m r next ran
  ran_by Replied is = tt
  ran_by (Need granules) is = is
  ran_by Waits is = absurd is
  ran_by Died is = absurd is
  ran_by Uncovered is = tt
  ran_by Elsewhere is = tt

  pub ran_if_ok : (x : Result Ran Memory) → IfOk x (IsRanHeld r) → IfOk x (IsRanAs start m r next)
  ran_if_ok (Ok ran) is = ran_by ran is
  ran_if_ok (Err memory) is = tt
