use Rattle.run_cases.proofs.Shelves.{untaken_with}
use Rattle.run_cases.proofs.desk.Desk.put.Goals as goal

pub invariant_of-self : goal.invariant_of-self
invariant_of-self c = record { untaken = untaken_with c.set.result c.args.disk c.args.self.now.shelf c.set.new.self c.set.ensures.taken c.set.ensures.err c.args.self.now.untaken }
