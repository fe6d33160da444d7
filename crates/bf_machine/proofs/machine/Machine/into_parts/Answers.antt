-- The replies of open groups stand behind those before them.
use Rattle.std.proofs.Common.{ap, subst, ◌∙◌}
use Rattle.std.specs.Arc.{arc_value}
use Rattle.bf_machine.specs.interleaving.Kept.{TranscriptsLegal}
use Rattle.bf_machine.specs.interleaving.Machines.{Machine, transcripts_of}
use Rattle.bf_machine.specs.interleaving.Seen.{seen}
use Rattle.bf_machine.proofs.interleaving.Standing.{transcripts_legal}
use Rattle.bf_machine.proofs.keeping.Sessions.{all_joined}
use Rattle.bf_machine.proofs.machine.Machine.into_parts.Goals as goal

pub returns-clause-transcripts : goal.returns-clause-transcripts
returns-clause-transcripts g c =
    c.of.ensures ∙ (c.all_replies-sessions.ensures ∙ (all_joined c.self.inside.sessions.items ∙ ap transcripts_of c.self.view_is))

pub returns-clause-legal : goal.returns-clause-legal
returns-clause-legal g c =
    let i = c.self.inside in
    let m : Machine = seen g.N.Opened.logged (arc_value i.script) i.retries i.store i.locks i.began.items i.sessions.items i.history.items in
    subst (TranscriptsLegal g.N.Opened.opening) c.self.view_is (transcripts_legal g.N.Opened.opening m c.self.invariant.0.kept)
