use Rattle.std.proofs.Common.{length, ◌-◌}
use Rattle.bf_serve.proofs.phases.serve_all.Given as goal

-- each phase has a session
abbrev pub decreases-loop-from : goal.decreases-loop-from
decreases-loop-from g l = length l.sessions - l.from
