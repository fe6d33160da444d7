-- A reply needs nothing.
use Rattle.std.specs.Prelude.{IfOk, Result, Ok, Err}
use Rattle.bf_base.specs.declared.memory.Memory.{Memory}
use Rattle.bf_serve.specs.Requests.{Request}
use Rattle.bf_serve.specs.Sections.{AreNeededIfServed, IsReplied}
use Rattle.bf_serve.specs.declared.engine.Served.{Served}
use Rattle.bf_serve.specs.declared.engine.Served.TheVariants.{Died, Elsewhere, Ended, Need, Replied, Uncovered, Waits}
use Rattle.bf_serve.proofs.engine.Engine.drive.Goals as goal

needs_none : (r : Request) (s : Served) → IsReplied s → AreNeededIfServed r s
needs_none r Replied is = tt
needs_none r (Ended changes) is = tt
needs_none r (Need granules seen) is = absurd is
needs_none r Uncovered is = tt
needs_none r (Waits seen) is = tt
needs_none r Died is = tt
needs_none r Elsewhere is = tt

none_if_ok : (r : Request) (x : Result Served Memory) → IfOk x IsReplied → IfOk x (AreNeededIfServed r)
none_if_ok r (Ok s) is = needs_none r s is
none_if_ok r (Err e) is = tt

pub returns-in-Replied : goal.returns-in-Replied
returns-in-Replied g c = none_if_ok c.args.request.now c.end_behind_reply.result c.end_behind_reply.ensures
