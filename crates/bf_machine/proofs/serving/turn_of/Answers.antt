-- A number of no session is passed over.
use Rattle.bf_machine.specs.interleaving.Events.{at_once}
use Rattle.bf_machine.specs.interleaving.Journals.{nothing_yet}
use Rattle.bf_machine.proofs.serving.turn_of.Goals as goal

pub returns-then-session-eq0-clause-reaches : goal.returns-then-session-eq0-clause-reaches
returns-then-session-eq0-clause-reaches g c = at_once

pub returns-then-session-eq0-clause-keeps : goal.returns-then-session-eq0-clause-keeps
returns-then-session-eq0-clause-keeps g c = nothing_yet
