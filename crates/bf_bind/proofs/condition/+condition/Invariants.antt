use Rattle.std.proofs.Common.{◌+◌, ◌*◌}
use Rattle.bf_tree.specs.Trees.{tests}
use Rattle.bf_bind.proofs.condition.+condition.Given as goal

abbrev pub decreases-bind_test : goal.decreases-bind_test
decreases-bind_test l = 2 * tests l.raw.now

abbrev pub decreases-bind_sides : goal.decreases-bind_sides
decreases-bind_sides l = 2 * (tests l.left.now + tests l.right.now) + 1
