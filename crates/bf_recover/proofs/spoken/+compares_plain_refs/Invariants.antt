use Rattle.bf_tree.specs.Trees.{tests}
use Rattle.bf_recover.proofs.spoken.+compares_plain_refs.Given as goal

abbrev pub decreases-compares_plain_refs : goal.decreases-compares_plain_refs
decreases-compares_plain_refs l = tests l.cond.now
