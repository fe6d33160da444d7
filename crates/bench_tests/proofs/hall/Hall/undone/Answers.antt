use Rattle.bench_tests.proofs.Lists.{wanted_next}
use Rattle.bench_tests.proofs.hall.Hall.undone.Goals as goal

pub loop-position-preserved : goal.loop-position-preserved
loop-position-preserved c = wanted_next c.loop-position.position c.args.wanted.most c.args.wanted.unit _ _ c.loop-position.invariant c.in_ok-add.ensures
