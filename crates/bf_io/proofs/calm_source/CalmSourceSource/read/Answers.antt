use Rattle.bf_io.proofs.Giving.{given_then_left, none_left}
use Rattle.bf_io.proofs.calm_source.CalmSourceSource.read.Goals as goal

pub returns-clause-bytes : goal.returns-clause-bytes
returns-clause-bytes c =
    (cc (given_then_left c.deref.result.now c.copy_front-count.new.into c.self.inside.at c.copy_front-count.result c.copy_front-count.ensures.front, c.deref.ensures.value, c.self.view_is), λ none room. cc (none_left c.deref.result.now c.self.inside.at c.copy_front-count.result (c.copy_front-count.ensures.some none room), c.deref.ensures.value))
