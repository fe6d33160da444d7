use Rattle.bf_tree.specs.Trees.{nodes}
use Rattle.bf_recover.proofs.spoken.+has_plain_refs.Given as goal

abbrev pub decreases-has_plain_refs : goal.decreases-has_plain_refs
decreases-has_plain_refs l = nodes l.expr.now
