-- The statement is present, and nothing of its cover is left to move.
use Rattle.std.proofs.Common.{ap}
use Rattle.std.specs.Prelude.{Ok}
use Rattle.std.specs.Option.{option_map}
use Rattle.bf_machine.proofs.served.Needs.{no_other}
use Rattle.bf_machine.proofs.serving.reply_behind_moves.Goals as goal

pub unreachable-requires : goal.unreachable-requires
unreachable-requires g c =
    no_other c.args.machine.now (option_map (λ p. p.now) c.args.migration) c.args.bound.now c.args.cover.now.granules.items c.requires.present c.requires.moved c.in_ok-exec.field-0 c.in_ok-exec.ensures.step c.in_default.not-Replied

pub returns-clause-replied : goal.returns-clause-replied
returns-clause-replied g c = c.in_ok-exec.ensures.replied (ap Ok c.in-Replied.is)
