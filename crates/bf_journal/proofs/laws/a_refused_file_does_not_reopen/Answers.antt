use Rattle.bf_journal.proofs.Refusals.{refused_is_refused, one_refusal}
use Rattle.bf_journal.proofs.laws.a_refused_file_does_not_reopen.Goals as goal

pub returns-clause-no_state : goal.returns-clause-no_state
returns-clause-no_state g c = refused_is_refused g.L.State.first g.L.State.Steps g.L.State.once

pub returns-clause-one_place : goal.returns-clause-one_place
returns-clause-one_place g c = one_refusal g.L.State.first g.L.State.Steps g.L.State.once
