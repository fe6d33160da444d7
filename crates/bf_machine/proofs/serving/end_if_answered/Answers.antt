-- A group whose statements have their replies ends.
use Rattle.std.proofs.Common.{refl, sym, ap, ◌∙◌, inl}
use Rattle.std.specs.Prelude.{Result, Ok, Err, IfOk}
use Rattle.bf_base.specs.declared.memory.Memory.{Memory}
use Rattle.bf_machine.specs.declared.stand.Turn.{Turn}
use Rattle.bf_machine.specs.interleaving.Events.{aborts, at_once, one_more}
use Rattle.bf_machine.specs.interleaving.Journals.{nothing_yet, one_beside}
use Rattle.bf_machine.specs.interleaving.Machines.{Machine}
use Rattle.bf_machine.proofs.served.EndsIf.{abort_if, commit_if, goes_on_if}
use Rattle.bf_machine.proofs.served.Keeping.{keeps_reach}
use Rattle.bf_machine.proofs.served.Left.{stands_more, unanswered_more}
use Rattle.bf_machine.proofs.serving.end_if_answered.Goals as goal

in_ok : {P Q : Turn → Type 0} (r : Result Turn Memory) → ((t : Turn) → P t → Q t) → IfOk r P → IfOk r Q
in_ok (Ok t) weaker so = weaker t so
in_ok (Err memory) weaker so = so

pub returns-then-not-is_answered-clause-reaches : goal.returns-then-not-is_answered-clause-reaches
returns-then-not-is_answered-clause-reaches g c = at_once

pub returns-then-not-is_answered-clause-keeps : goal.returns-then-not-is_answered-clause-keeps
returns-then-not-is_answered-clause-keeps g c = nothing_yet

pub returns-then-not-is_answered-clause-turn : goal.returns-then-not-is_answered-clause-turn
returns-then-not-is_answered-clause-turn g c =
    goes_on_if c.args.machine.now c.requires.kept c.args.session
    (unanswered_more c.args.machine.now c.args.session (sym c.is_answered.ensures ∙ c.if-not-is_answered.true)) c.requires.has_reply

pub returns-in-Commit-clause-reaches : goal.returns-in-Commit-clause-reaches
returns-in-Commit-clause-reaches g c =
    keeps_reach g.J.Journal.Answers g.N.Opened.opening c.args.machine.now c.args.journal.now c.commit.new.machine c.commit.new.journal c.commit.ensures.keeps

pub returns-in-Commit-clause-turn : goal.returns-in-Commit-clause-turn
returns-in-Commit-clause-turn g c =
    in_ok c.commit.result (λ t by. commit_if c.args.machine.now c.requires.kept c.args.session (sym c.is_answered.ensures ∙ c.if-not-is_answered.false) t c.commit.new.machine by) c.commit.ensures.turn

pub returns-in-Abort-clause-reaches : goal.returns-in-Abort-clause-reaches
returns-in-Abort-clause-reaches g c = one_more at_once (aborts c.args.session c.abort.ensures)

pub returns-in-Abort-clause-keeps : goal.returns-in-Abort-clause-keeps
returns-in-Abort-clause-keeps g c =
    one_beside nothing_yet (aborts c.args.session c.abort.ensures) (inl (ap (λ (k : Machine). k.lazy) c.abort.ensures.goes, refl))

pub returns-in-Abort-clause-turn : goal.returns-in-Abort-clause-turn
returns-in-Abort-clause-turn g c =
    abort_if c.args.machine.now c.requires.kept c.args.session (sym c.is_answered.ensures ∙ c.if-not-is_answered.false) c.abort.new.self c.abort.ensures

pub returns-in_default : goal.returns-in_default
returns-in_default g c = record {
  reaches = at_once;
  keeps = nothing_yet;
  turn = goes_on_if c.args.machine.now c.requires.kept c.args.session
      (stands_more c.args.machine.now c.requires.kept c.args.session c.stand.result c.stand.ensures c.in_default.not-Commit c.in_default.not-Abort) c.requires.has_reply;
}
