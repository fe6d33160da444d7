use Rattle.std.proofs.Common.{[], sym, ap, ◌∙◌}
use Rattle.std.specs.Option.{unwrap_or}
use Rattle.bf_locks.specs.Locks.{held}
use Rattle.bf_locks.specs.Owners.{mode_of}
use Rattle.bf_locks.proofs.Asked.{held_there}
use Rattle.bf_locks.proofs.table.LockTable.holds.Goals as goal

pub returns-in-Some-clause-mode : goal.returns-in-Some-clause-mode
returns-in-Some-clause-mode c =
    c.mode_of.ensures
    ∙ ap (λ found. mode_of (unwrap_or found []) c.args.owner) c.in-Some.ensures.value
    ∙ sym (held_there c.self.inside.holders c.self.invariant.ordered c.args.name.now c.args.owner)
    ∙ ap (λ locks. held locks c.args.name.now c.args.owner) c.self.view_is

pub returns-in-None-clause-mode : goal.returns-in-None-clause-mode
returns-in-None-clause-mode c =
    ap (λ found. mode_of (unwrap_or found []) c.args.owner) c.in-None.ensures.value
    ∙ sym (held_there c.self.inside.holders c.self.invariant.ordered c.args.name.now c.args.owner)
    ∙ ap (λ locks. held locks c.args.name.now c.args.owner) c.self.view_is
