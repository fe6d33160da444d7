use Rattle.std.proofs.Common.{inr}
use Rattle.bf_serve.proofs.sections.end_needing.Goals as goal

pub returns-then-is_some : goal.returns-then-is_some
returns-then-is_some g c = inr (c.in-Some.session, c.fail.ensures.0, c.fail.ensures.1)
