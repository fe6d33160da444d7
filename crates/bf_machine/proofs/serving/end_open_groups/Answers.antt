-- The youngest open group goes on or ends; where it is alone, its session is served.
use Rattle.std.proofs.Common.{◌≡◌, ◌≢◌, ℕ, ◌<◌, ◌≤◌, Some, None, length, refl, sym, ap, subst, ◌∙◌, arith, inl, inr}
use Rattle.std.proofs.lemmas.Bool.{cases_eq}
use Rattle.bf_tree.specs.declared.script.Script.{Script}
use Rattle.bf_machine.specs.interleaving.Events.{at_once}
use Rattle.bf_machine.specs.interleaving.Journals.{nothing_yet}
use Rattle.bf_machine.specs.interleaving.Kept.{IsKept}
use Rattle.bf_machine.specs.interleaving.Machines.{Machine, open_at}
use Rattle.bf_machine.specs.interleaving.Serving.{IsAlone, IsFollowed, Serves, at_rest, one_driven, unanswered}
use Rattle.bf_machine.proofs.interleaving.Reaching.{reached_keeps_all}
use Rattle.bf_machine.proofs.served.Ending.{HasBeenServed, alone_open_goes_on, reached_may_end, reached_script, served_goes_on, served_no_more, served_serves, youngest_leaves_less}
use Rattle.bf_machine.proofs.served.Events.{serves_both, serves_not}
use Rattle.bf_machine.proofs.served.Following.{followed_stays}
use Rattle.bf_machine.proofs.served.Goes.{reaches_both}
use Rattle.bf_machine.proofs.served.Keeping.{keeps_both}
use Rattle.bf_machine.proofs.served.Open.{left_open}
use Rattle.bf_machine.proofs.served.Totals.{total}
use Rattle.bf_machine.proofs.serving.end_open_groups.Goals as goal

pub loop-session-init : goal.loop-session-init
loop-session-init g c = record {
  reaches = at_once;
  keeps = nothing_yet;
  driven = at_rest;
  nothing = λ none. refl;
  alone = λ s alone. serves_not c.args.machine.now s;
  followed = λ unlogged s alone followed. followed;
  no_more = λ s alone. omega arith;
}

pub take_turn-requires-clause-kept : goal.take_turn-requires-clause-kept
take_turn-requires-clause-kept g c = reached_keeps_all g.N.Opened.opening c.args.machine.now c.loop-session.machine c.requires.kept c.loop-session.invariant.reaches

pub loop-session-smaller : goal.loop-session-smaller
loop-session-smaller g c =
    let now : Machine = c.loop-session.machine in
    let next : Machine = c.take_turn.new.machine in
    let kept : IsKept g.N.Opened.opening now = reached_keeps_all g.N.Opened.opening c.args.machine.now now c.requires.kept c.loop-session.invariant.reaches in
    let script : next.script ≡ now.script = reached_script g.N.Opened.opening now next c.in_ok-take_turn.ensures.reaches in
    let less = youngest_leaves_less now kept c.in-Some.session c.in_ok-take_turn.field-0 next c.in_ok-take_turn.ensures.turn c.in-Some.ensures.youngest script c.in-Some.ensures.place in
    subst (λ (k : Script). total (left_open next) (length k.sessions) < total (left_open now) (length now.script.sessions)) (sym script) less

pub loop-session-preserved : goal.loop-session-preserved
loop-session-preserved g c =
    let m : Machine = c.args.machine.now in
    let now : Machine = c.loop-session.machine in
    let next : Machine = c.take_turn.new.machine in
    let s = c.in-Some.session in
    let kept : IsKept g.N.Opened.opening now = reached_keeps_all g.N.Opened.opening m now c.requires.kept c.loop-session.invariant.reaches in
    let reached = reaches_both g.N.Opened.opening m now next c.loop-session.invariant.reaches c.in_ok-take_turn.ensures.reaches in
    let kept_next : IsKept g.N.Opened.opening next = reached_keeps_all g.N.Opened.opening m next c.requires.kept reached in
    let youngest = c.in-Some.ensures.youngest in
    let served : (u : ℕ) → IsAlone m u → (u ≡ s) × HasBeenServed now s g.N.Opened.opening next = λ u alone.
    let before = c.loop-session.invariant.alone u alone in
    let alone_now : IsAlone now u = λ t apart. (before.beside t apart).0 ∙ alone t apart in
    elim (cases_eq u s) as (λ _. (u ≡ s) × HasBeenServed now s g.N.Opened.opening next) [
      | inl same ↦ (same, alone_open_goes_on now kept s c.in_ok-take_turn.field-0 next c.in_ok-take_turn.ensures.turn (subst (IsAlone now) same alone_now) youngest.0 youngest.1)
      | inr apart ↦
          let other : s ≢ u = λ same. apart (sym same) in
          let clash : None ≡ Some youngest.0 = sym (alone_now s other) ∙ youngest.1 in
          absurd cc
    ] in
    record {
      reaches = reached;
      keeps = keeps_both g.J.Journal.Answers g.N.Opened.opening m c.args.journal.now now c.loop-session.journal next c.take_turn.new.journal c.loop-session.invariant.keeps c.in_ok-take_turn.ensures.keeps;
      driven = one_driven s c.loop-session.invariant.driven (inl youngest) c.in_ok-take_turn.field-0 c.in_ok-take_turn.ensures.turn;
      nothing = λ none.
          let clash : None ≡ Some youngest.0 = sym (none s) ∙ (ap (λ (k : Machine). open_at k s) (sym (c.loop-session.invariant.nothing none)) ∙ youngest.1) in
          absurd cc;
      alone = λ u alone.
          let goes = served u alone in
          serves_both m u now next (c.loop-session.invariant.alone u alone) (subst (λ (v : ℕ). Serves now v next) (sym goes.0) (served_serves now s next goes.1));
      followed = λ unlogged u alone followed.
          let goes = served u alone in
          let was : IsFollowed now s g.N.Opened.opening =
          subst (λ (v : ℕ). IsFollowed now v g.N.Opened.opening) goes.0 (c.loop-session.invariant.followed unlogged u alone followed) in
          let gone = served_goes_on now s next goes.1 (reached_may_end g.N.Opened.opening m now c.loop-session.invariant.reaches ∙ unlogged) in
          subst (λ (v : ℕ). IsFollowed next v g.N.Opened.opening) (sym goes.0) (followed_stays now kept s next kept_next gone was);
      no_more = λ u alone.
          let goes = served u alone in
          let less : unanswered next s ≤ unanswered now s = served_no_more now s next goes.1 in
          let more : unanswered next u ≤ unanswered now u = subst (λ (v : ℕ). unanswered next v ≤ unanswered now v) (sym goes.0) less in
          omega (arith, more, c.loop-session.invariant.no_more u alone);
    }

pub returns-in_err-take_turn-clause-reaches : goal.returns-in_err-take_turn-clause-reaches
returns-in_err-take_turn-clause-reaches g c =
    reaches_both g.N.Opened.opening c.args.machine.now c.loop-session.machine c.take_turn.new.machine c.loop-session.invariant.reaches c.take_turn.ensures.reaches

pub returns-in_err-take_turn-clause-keeps : goal.returns-in_err-take_turn-clause-keeps
returns-in_err-take_turn-clause-keeps g c =
    keeps_both g.J.Journal.Answers g.N.Opened.opening c.args.machine.now c.args.journal.now c.loop-session.machine c.loop-session.journal c.take_turn.new.machine c.take_turn.new.journal
    c.loop-session.invariant.keeps c.take_turn.ensures.keeps

pub returns-clause-alone : goal.returns-clause-alone
returns-clause-alone g c = λ s alone. (c.loop-session.invariant.alone s alone, c.loop-session.invariant.no_more s alone)
