use Rattle.bf_disk.proofs.Loans.{rises_are_told, never_falls}
use Rattle.bf_disk.proofs.laws.a_shelf_tells_each_fault.Goals as goal

pub returns-clause-rose : goal.returns-clause-rose
returns-clause-rose c = rises_are_told

pub returns-clause-later : goal.returns-clause-later
returns-clause-later c = never_falls
