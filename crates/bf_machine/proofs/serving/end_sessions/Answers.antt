-- The first session that can go on is served until its group has ended; where none can, each has ended.
use Rattle.std.proofs.Common.{◌≡◌, ◌<◌, [], length, refl, sym, subst, ◌∙◌, inr}
use Rattle.bf_tree.specs.declared.script.Script.{Script}
use Rattle.bf_machine.specs.interleaving.Events.{at_once}
use Rattle.bf_machine.specs.interleaving.Journals.{nothing_yet}
use Rattle.bf_machine.specs.interleaving.Kept.{IsKept}
use Rattle.bf_machine.specs.interleaving.Machines.{Machine, these}
use Rattle.bf_machine.specs.interleaving.Serving.{at_rest, one_driven, unanswered}
use Rattle.bf_machine.proofs.interleaving.Reaching.{reached_keeps_all}
use Rattle.bf_machine.proofs.interleaving.Texts.{are_texts}
use Rattle.bf_machine.proofs.served.Ending.{driven_both, none_of, reached_may_end, served_to_end, serves_less}
use Rattle.bf_machine.proofs.served.Exclusive.{goes_has_not_ended}
use Rattle.bf_machine.proofs.served.Following.{served_moves}
use Rattle.bf_machine.proofs.served.Goes.{reaches_both}
use Rattle.bf_machine.proofs.served.Keeping.{keeps_both}
use Rattle.bf_machine.proofs.served.Sequence.{stays_in_sequence}
use Rattle.bf_machine.proofs.served.Stuck.{all_have_ended}
use Rattle.bf_machine.proofs.served.Totals.{total}
use Rattle.bf_machine.proofs.serving.end_sessions.Goals as goal

pub loop-session-init : goal.loop-session-init
loop-session-init g c = record { reaches = at_once; keeps = nothing_yet; driven = at_rest; closed = c.requires.closed; deaths = λ n. refl; sequence = λ sequence. sequence }

pub take_turn-requires-clause-kept : goal.take_turn-requires-clause-kept
take_turn-requires-clause-kept g c = reached_keeps_all g.N.Opened.opening c.args.machine.now c.loop-session.machine c.requires.kept c.loop-session.invariant.reaches

pub returns-in_err-take_turn-clause-reaches : goal.returns-in_err-take_turn-clause-reaches
returns-in_err-take_turn-clause-reaches g c =
    reaches_both g.N.Opened.opening c.args.machine.now c.loop-session.machine c.take_turn.new.machine c.loop-session.invariant.reaches c.take_turn.ensures.reaches

pub end_open_groups-requires-clause-kept : goal.end_open_groups-requires-clause-kept
end_open_groups-requires-clause-kept g c =
    reached_keeps_all g.N.Opened.opening c.args.machine.now c.take_turn.new.machine c.requires.kept
    (reaches_both g.N.Opened.opening c.args.machine.now c.loop-session.machine c.take_turn.new.machine c.loop-session.invariant.reaches c.in_ok-take_turn.ensures.reaches)

pub loop-session-smaller : goal.loop-session-smaller
loop-session-smaller g c =
    let now : Machine = c.loop-session.machine in
    let then : Machine = c.end_open_groups.new.machine in
    let kept : IsKept g.N.Opened.opening now = reached_keeps_all g.N.Opened.opening c.args.machine.now now c.requires.kept c.loop-session.invariant.reaches in
    let served = served_to_end now kept c.in-Some.session c.loop-session.invariant.closed c.in-Some.ensures.goes c.in_ok-take_turn.field-0 c.take_turn.new.machine c.in_ok-take_turn.ensures.turn then
    c.in_ok-end_open_groups.ensures.alone in
    let less = serves_less now then c.in-Some.session c.in-Some.ensures.place served.0 served.1 in
    subst (λ (k : Script). total (unanswered then) (length k.sessions) < total (unanswered now) (length now.script.sessions)) (sym served.0.script) less

pub loop-session-preserved : goal.loop-session-preserved
loop-session-preserved g c =
    let m : Machine = c.args.machine.now in
    let now : Machine = c.loop-session.machine in
    let next : Machine = c.take_turn.new.machine in
    let then : Machine = c.end_open_groups.new.machine in
    let kept : IsKept g.N.Opened.opening now = reached_keeps_all g.N.Opened.opening m now c.requires.kept c.loop-session.invariant.reaches in
    let goes = c.in-Some.ensures.goes in
    let served = served_to_end now kept c.in-Some.session c.loop-session.invariant.closed goes c.in_ok-take_turn.field-0 next c.in_ok-take_turn.ensures.turn then c.in_ok-end_open_groups.ensures.alone in
    let kept_next : IsKept g.N.Opened.opening next =
    reached_keeps_all g.N.Opened.opening m next c.requires.kept (reaches_both g.N.Opened.opening m now next c.loop-session.invariant.reaches c.in_ok-take_turn.ensures.reaches) in
    record {
      reaches = reaches_both g.N.Opened.opening m next then (reaches_both g.N.Opened.opening m now next c.loop-session.invariant.reaches c.in_ok-take_turn.ensures.reaches) c.in_ok-end_open_groups.ensures.reaches;
      keeps = keeps_both g.J.Journal.Answers g.N.Opened.opening m c.args.journal.now next c.take_turn.new.journal then c.end_open_groups.new.journal
          (keeps_both g.J.Journal.Answers g.N.Opened.opening m c.args.journal.now now c.loop-session.journal next c.take_turn.new.journal c.loop-session.invariant.keeps c.in_ok-take_turn.ensures.keeps)
          c.in_ok-end_open_groups.ensures.keeps;
      driven = driven_both g.N.Opened.opening m next then
          (one_driven c.in-Some.session c.loop-session.invariant.driven (inr (c.loop-session.invariant.closed, goes, c.in-Some.ensures.first)) c.in_ok-take_turn.field-0 c.in_ok-take_turn.ensures.turn)
          c.in_ok-end_open_groups.ensures.driven;
      closed = c.in_ok-end_open_groups.ensures.closed;
      deaths = λ n. served.0.deaths n ∙ c.loop-session.invariant.deaths n;
      sequence = λ sequence.
          let is = c.loop-session.invariant.sequence sequence in
          let unlogged : next.may_end ≡ these [] = reached_may_end g.N.Opened.opening now next c.in_ok-take_turn.ensures.reaches ∙ is.unlogged in
          stays_in_sequence now is c.in-Some.session c.in-Some.ensures.place c.in-Some.ensures.first (goes_has_not_ended now kept c.in-Some.session goes) then served.0
          (reached_may_end g.N.Opened.opening next then c.in_ok-end_open_groups.ensures.reaches ∙ unlogged)
          c.in_ok-end_open_groups.ensures.closed
          (served_moves now kept c.in-Some.session c.loop-session.invariant.closed goes c.in_ok-take_turn.field-0 next kept_next c.in_ok-take_turn.ensures.turn is.unlogged then
          (c.in_ok-end_open_groups.ensures.followed unlogged) c.in_ok-end_open_groups.ensures.closed is.moved);
    }

pub returns-in_err-end_open_groups-clause-reaches : goal.returns-in_err-end_open_groups-clause-reaches
returns-in_err-end_open_groups-clause-reaches g c =
    let m : Machine = c.args.machine.now in
    let now : Machine = c.loop-session.machine in
    let next : Machine = c.take_turn.new.machine in
    reaches_both g.N.Opened.opening m next c.end_open_groups.new.machine (reaches_both g.N.Opened.opening m now next c.loop-session.invariant.reaches c.in_ok-take_turn.ensures.reaches) c.end_open_groups.ensures.reaches

pub returns-in_err-take_turn-clause-keeps : goal.returns-in_err-take_turn-clause-keeps
returns-in_err-take_turn-clause-keeps g c =
    keeps_both g.J.Journal.Answers g.N.Opened.opening c.args.machine.now c.args.journal.now c.loop-session.machine c.loop-session.journal c.take_turn.new.machine c.take_turn.new.journal
    c.loop-session.invariant.keeps c.take_turn.ensures.keeps

pub returns-in_err-end_open_groups-clause-keeps : goal.returns-in_err-end_open_groups-clause-keeps
returns-in_err-end_open_groups-clause-keeps g c =
    let m : Machine = c.args.machine.now in
    let now : Machine = c.loop-session.machine in
    let next : Machine = c.take_turn.new.machine in
    keeps_both g.J.Journal.Answers g.N.Opened.opening m c.args.journal.now next c.take_turn.new.journal c.end_open_groups.new.machine c.end_open_groups.new.journal
    (keeps_both g.J.Journal.Answers g.N.Opened.opening m c.args.journal.now now c.loop-session.journal next c.take_turn.new.journal c.loop-session.invariant.keeps c.in_ok-take_turn.ensures.keeps)
    c.end_open_groups.ensures.keeps

pub returns-clause-ended : goal.returns-clause-ended
returns-clause-ended g c =
    let now : Machine = c.loop-session.machine in
    let kept : IsKept g.N.Opened.opening now = reached_keeps_all g.N.Opened.opening c.args.machine.now now c.requires.kept c.loop-session.invariant.reaches in
    all_have_ended now kept (are_texts now.script) (c.first_to_go.ensures.none (none_of c.first_to_go.result c.in_default.not-Some)) c.loop-session.invariant.closed
