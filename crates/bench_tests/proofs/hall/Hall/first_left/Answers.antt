use Rattle.bench_tests.proofs.hall.Hall.first_left.Goals as goal

pub returns-clause-unit : goal.returns-clause-unit
returns-clause-unit c = (1, c.in_ok-second.ensures.unit)
