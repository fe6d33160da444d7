-- The turns of the order, the open groups, and the rest.
use Rattle.std.proofs.Common.{◌≡◌, ℕ, List, None, length, take, refl, sym, ap, subst, ◌∙◌, arith}
use Rattle.std.specs.Prelude.{Result, Ok, Err, OnOk, slice_index_or}
use Rattle.std.proofs.lemmas.List.{take_all, take_more}
use Rattle.bf_base.specs.declared.memory.Memory.{Memory}
use Rattle.bf_tree.specs.declared.script.Script.{Script}
use Rattle.bf_machine.specs.interleaving.Events.{at_once}
use Rattle.bf_machine.specs.interleaving.Journals.{nothing_yet}
use Rattle.bf_machine.specs.interleaving.Machines.{Machine, open_at}
use Rattle.bf_machine.specs.interleaving.Serving.{IsInSequence, Turned, deaths_at, no_turn, one_turn}
use Rattle.bf_machine.proofs.interleaving.Reaching.{reached_keeps_all}
use Rattle.bf_machine.proofs.served.Ending.{driven_both, reached_script}
use Rattle.bf_machine.proofs.served.Goes.{reaches_both}
use Rattle.bf_machine.proofs.served.Keeping.{keeps_both}
use Rattle.bf_machine.proofs.serving.in_order.Goals as goal

on_ok : {P Q : Type 0} {A : Type 0} (r : Result A Memory) → (P → Q) → OnOk r P → OnOk r Q
on_ok (Ok x) weaker so = weaker so
on_ok (Err memory) weaker so = so

pub loop-session-init : goal.loop-session-init
loop-session-init g c = record { reaches = at_once; keeps = nothing_yet; turned = no_turn; nothing = λ empty. refl }

pub turn_of-requires-clause-count : goal.turn_of-requires-clause-count
turn_of-requires-clause-count g c =
    c.session_count-count.ensures.count
    ∙ ap (λ (k : Script). length k.sessions) (sym (reached_script g.N.Opened.opening c.args.machine.now c.loop-session.machine c.loop-session.invariant.reaches))

pub turn_of-requires-clause-kept : goal.turn_of-requires-clause-kept
turn_of-requires-clause-kept g c = reached_keeps_all g.N.Opened.opening c.args.machine.now c.loop-session.machine c.session_count-count.ensures.kept c.loop-session.invariant.reaches

pub returns-in_err-turn_of-clause-reaches : goal.returns-in_err-turn_of-clause-reaches
returns-in_err-turn_of-clause-reaches g c =
    reaches_both g.N.Opened.opening c.args.machine.now c.loop-session.machine c.turn_of.new.machine c.loop-session.invariant.reaches c.turn_of.ensures.reaches

pub loop-session-preserved : goal.loop-session-preserved
loop-session-preserved g c = record {
  reaches = reaches_both g.N.Opened.opening c.args.machine.now c.loop-session.machine c.turn_of.new.machine c.loop-session.invariant.reaches c.in_ok-turn_of.ensures.reaches;
  keeps = keeps_both g.J.Journal.Answers g.N.Opened.opening c.args.machine.now c.args.journal.now c.loop-session.machine c.loop-session.journal c.turn_of.new.machine c.turn_of.new.journal
      c.loop-session.invariant.keeps c.in_ok-turn_of.ensures.keeps;
  turned =
      let i = c.loop-session.session-index in
      let order = c.args.order.now in
      subst (λ (ns : List ℕ). Turned g.N.Opened.opening c.args.machine.now ns c.turn_of.new.machine) (sym (take_more order i 0 c.loop-session-test.true))
      (one_turn (slice_index_or order i 0) c.loop-session.invariant.turned c.in_ok-turn_of.ensures.turn);
  nothing = λ empty.
      let none : length c.args.order.now ≡ 0 = ap (λ (xs : List ℕ). length xs) empty in
      absurd (omega (arith, none, c.loop-session-test.true));
}

pub returns-in_err-turn_of-clause-keeps : goal.returns-in_err-turn_of-clause-keeps
returns-in_err-turn_of-clause-keeps g c =
    keeps_both g.J.Journal.Answers g.N.Opened.opening c.args.machine.now c.args.journal.now c.loop-session.machine c.loop-session.journal c.turn_of.new.machine c.turn_of.new.journal
    c.loop-session.invariant.keeps c.turn_of.ensures.keeps

pub returns-in_err-end_open_groups-clause-keeps : goal.returns-in_err-end_open_groups-clause-keeps
returns-in_err-end_open_groups-clause-keeps g c =
    keeps_both g.J.Journal.Answers g.N.Opened.opening c.args.machine.now c.args.journal.now c.loop-session.machine c.loop-session.journal c.end_open_groups.new.machine c.end_open_groups.new.journal
    c.loop-session.invariant.keeps c.end_open_groups.ensures.keeps

pub returns-clause-keeps : goal.returns-clause-keeps
returns-clause-keeps g c =
    let m : Machine = c.args.machine.now in
    let now : Machine = c.loop-session.machine in
    let then : Machine = c.end_open_groups.new.machine in
    keeps_both g.J.Journal.Answers g.N.Opened.opening m c.args.journal.now then c.end_open_groups.new.journal c.end_sessions.new.machine c.end_sessions.new.journal
    (keeps_both g.J.Journal.Answers g.N.Opened.opening m c.args.journal.now now c.loop-session.journal then c.end_open_groups.new.journal c.loop-session.invariant.keeps c.in_ok-end_open_groups.ensures.keeps)
    c.end_sessions.ensures.keeps

pub end_open_groups-requires-clause-kept : goal.end_open_groups-requires-clause-kept
end_open_groups-requires-clause-kept g c = reached_keeps_all g.N.Opened.opening c.args.machine.now c.loop-session.machine c.session_count-count.ensures.kept c.loop-session.invariant.reaches

pub returns-in_err-end_open_groups-clause-reaches : goal.returns-in_err-end_open_groups-clause-reaches
returns-in_err-end_open_groups-clause-reaches g c =
    reaches_both g.N.Opened.opening c.args.machine.now c.loop-session.machine c.end_open_groups.new.machine c.loop-session.invariant.reaches c.end_open_groups.ensures.reaches

pub end_sessions-requires-clause-kept : goal.end_sessions-requires-clause-kept
end_sessions-requires-clause-kept g c =
    reached_keeps_all g.N.Opened.opening c.args.machine.now c.end_open_groups.new.machine c.session_count-count.ensures.kept
    (reaches_both g.N.Opened.opening c.args.machine.now c.loop-session.machine c.end_open_groups.new.machine c.loop-session.invariant.reaches c.in_ok-end_open_groups.ensures.reaches)

pub returns-clause-reaches : goal.returns-clause-reaches
returns-clause-reaches g c =
    let m : Machine = c.args.machine.now in
    let now : Machine = c.loop-session.machine in
    let then : Machine = c.end_open_groups.new.machine in
    reaches_both g.N.Opened.opening m then c.end_sessions.new.machine (reaches_both g.N.Opened.opening m now then c.loop-session.invariant.reaches c.in_ok-end_open_groups.ensures.reaches) c.end_sessions.ensures.reaches

pub returns-clause-turns : goal.returns-clause-turns
returns-clause-turns g c =
    let now : Machine = c.loop-session.machine in
    let all : take c.loop-session.session-index c.args.order.now ≡ c.args.order.now = take_all c.loop-session.session-index c.args.order.now (omega (arith, c.loop-session-test.false)) in
    on_ok c.end_sessions.result
    (λ driven. (
      now,
      subst (λ (ns : List ℕ). Turned g.N.Opened.opening c.args.machine.now ns now) all c.loop-session.invariant.turned,
      driven_both g.N.Opened.opening now c.end_open_groups.new.machine c.end_sessions.new.machine c.in_ok-end_open_groups.ensures.driven driven,
    ))
    c.end_sessions.ensures.driven

pub returns-clause-no_death : goal.returns-clause-no_death
returns-clause-no_death g c =
    let m : Machine = c.args.machine.now in
    on_ok c.end_sessions.result
    (λ deaths empty closed n.
    let here : c.loop-session.machine ≡ m = c.loop-session.invariant.nothing empty in
    let none : (s : ℕ) → open_at c.loop-session.machine s ≡ None = λ s. ap (λ (k : Machine). open_at k s) here ∙ closed s in
    let same : c.end_open_groups.new.machine ≡ m = c.in_ok-end_open_groups.ensures.nothing none ∙ here in
    deaths n ∙ ap (λ (k : Machine). deaths_at k n) same)
    c.end_sessions.ensures.deaths

pub returns-clause-sequence : goal.returns-clause-sequence
returns-clause-sequence g c =
    let m : Machine = c.args.machine.now in
    on_ok c.end_sessions.result
    (λ stays empty sequence.
    let here : c.loop-session.machine ≡ m = c.loop-session.invariant.nothing empty in
    let none : (s : ℕ) → open_at c.loop-session.machine s ≡ None = λ s. ap (λ (k : Machine). open_at k s) here ∙ sequence.closed s in
    let same : c.end_open_groups.new.machine ≡ m = c.in_ok-end_open_groups.ensures.nothing none ∙ here in
    stays (subst (IsInSequence g.N.Opened.opening) (sym same) sequence))
    c.end_sessions.ensures.sequence
