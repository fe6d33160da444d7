-- Each call is of a shorter list.
use Rattle.std.proofs.Common.{length}
use Rattle.random_scripts.proofs.group.+block_commits.Given as goal

abbrev pub decreases-block_commits : goal.decreases-block_commits
decreases-block_commits l = length l.body.now
