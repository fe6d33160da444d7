use Rattle.std.specs.Prelude.{length}
use Rattle.bench_tests.proofs.rows.Rows.spend.Given as goal

abbrev pub decreases-loop-granule : goal.decreases-loop-granule
decreases-loop-granule l = length l.wip
