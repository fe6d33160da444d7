-- A statement in no group is refused, and else its group is served.
use Rattle.std.proofs.Common.{◌≡◌, ℕ, true, false, Option, None, refl, sym, subst, ◌∙◌}
use Rattle.std.specs.Prelude.{is_some}
use Rattle.bf_machine.specs.interleaving.Events.{Reaches, at_once}
use Rattle.bf_machine.specs.interleaving.Journals.{nothing_yet}
use Rattle.bf_machine.specs.interleaving.Machines.{open_at}
use Rattle.bf_machine.proofs.served.Keeping.{keeps_not, keeps_reply}
use Rattle.bf_machine.proofs.served.Replying.{can_refuse, in_group, none_started, refused_now}
use Rattle.bf_machine.proofs.serving.serve.Goals as goal

pub returns-in_err-bound-clause-reaches : goal.returns-in_err-bound-clause-reaches
returns-in_err-bound-clause-reaches g c = at_once

pub returns-in_err-bound-clause-keeps : goal.returns-in_err-bound-clause-keeps
returns-in_err-bound-clause-keeps g c = nothing_yet

pub serve_in_group-requires-clause-next : goal.serve_in_group-requires-clause-next
serve_in_group-requires-clause-next g c =
    in_group c.args.machine.now c.args.session c.in_ok-bound.bound
    (subst (λ (r : Option ℕ). is_some r ≡ true) c.start.ensures (sym c.is_some.ensures ∙ c.if-is_some.true)) c.in_ok-bound.ensures.next

pub refuse-requires-clause-can : goal.refuse-requires-clause-can
refuse-requires-clause-can g c =
    let closed : open_at c.args.machine.now c.args.session ≡ None = none_started _ (subst (λ (r : Option ℕ). is_some r ≡ false) c.start.ensures (sym c.is_some.ensures ∙ c.if-is_some.false)) in
    can_refuse c.args.machine.now c.args.session c.in_ok-bound.bound closed c.in_ok-bound.ensures.next

pub returns-in_err-refuse-clause-reaches : goal.returns-in_err-refuse-clause-reaches
returns-in_err-refuse-clause-reaches g c = subst (Reaches g.N.Opened.opening c.args.machine.now) (sym c.in_err-refuse.ensures.err) at_once

pub returns-in_err-refuse-clause-keeps : goal.returns-in_err-refuse-clause-keeps
returns-in_err-refuse-clause-keeps g c =
    keeps_not g.J.Journal.Answers g.N.Opened.opening c.args.machine.now c.refuse.new.machine c.args.journal.now c.args.journal.now c.in_err-refuse.ensures.err refl

pub returns-clause-reaches : goal.returns-clause-reaches
returns-clause-reaches g c =
    let closed : open_at c.args.machine.now c.args.session ≡ None = none_started _ (subst (λ (r : Option ℕ). is_some r ≡ false) c.start.ensures (sym c.is_some.ensures ∙ c.if-is_some.false)) in
    (refused_now c.args.machine.now c.args.session c.requires.kept closed c.in_ok-bound.bound c.in_ok-bound.ensures.prepared c.refuse.new.machine c.in_ok-refuse.ensures.replied).reached

pub returns-clause-keeps : goal.returns-clause-keeps
returns-clause-keeps g c =
    keeps_reply g.J.Journal.Answers g.N.Opened.opening c.args.machine.now c.args.journal.now c.args.machine.now c.args.journal.now c.args.session c.in_ok-bound.bound c.refuse.new.machine nothing_yet
    c.in_ok-refuse.ensures.replied

pub returns-clause-turn : goal.returns-clause-turn
returns-clause-turn g c =
    let closed : open_at c.args.machine.now c.args.session ≡ None = none_started _ (subst (λ (r : Option ℕ). is_some r ≡ false) c.start.ensures (sym c.is_some.ensures ∙ c.if-is_some.false)) in
    refused_now c.args.machine.now c.args.session c.requires.kept closed c.in_ok-bound.bound c.in_ok-bound.ensures.prepared c.refuse.new.machine c.in_ok-refuse.ensures.replied
