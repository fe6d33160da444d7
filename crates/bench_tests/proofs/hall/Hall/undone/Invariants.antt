use Rattle.bench_tests.specs.Seen.{AreWanted}
use Rattle.bench_tests.proofs.hall.Hall.undone.Given as goal

abbrev pub invariant-loop-position : goal.invariant-loop-position
invariant-loop-position l = AreWanted l.position l.wanted.most l.wanted.unit l.granules.items
