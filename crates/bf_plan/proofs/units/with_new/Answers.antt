use Rattle.bf_plan.proofs.Named.{one_more_seen}
use Rattle.bf_plan.proofs.units.with_new.Goals as goal

pub invariant_of-result-2 : goal.invariant_of-result-2
invariant_of-result-2 c =
    one_more_seen c.names.inside.seen c.insert.new.self c.names.inside.list.items c.push.new.self.items c.args.name.now _ _ c.names.invariant c.in_ok-copy.ensures c.in_ok-copy-2.ensures c.in_ok-insert.ensures.updates.0 c.in_ok-push.ensures.items
