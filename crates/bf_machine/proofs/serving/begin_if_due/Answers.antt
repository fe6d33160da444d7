-- A group that is to begin has begun, and can go on.
use Rattle.std.proofs.Common.{refl, sym, subst, arith}
use Rattle.bf_machine.specs.interleaving.Events.{Reaches, at_once, begins, one_more}
use Rattle.bf_machine.specs.interleaving.Kept.{IsKept}
use Rattle.bf_machine.specs.interleaving.Machines.{Machine}
use Rattle.bf_machine.proofs.interleaving.Reaching.{reached_keeps_all}
use Rattle.bf_machine.proofs.served.Exclusive.{open_can}
use Rattle.bf_machine.proofs.served.Goes.{begin_opens}
use Rattle.bf_machine.proofs.served.Keeping.{leaves_beginning, leaves_not}
use Rattle.bf_machine.proofs.serving.begin_if_due.Goals as goal

pub returns-then-ne-clause-reaches : goal.returns-then-ne-clause-reaches
returns-then-ne-clause-reaches g c = at_once

pub returns-in_err-begin-clause-reaches : goal.returns-in_err-begin-clause-reaches
returns-in_err-begin-clause-reaches g c = subst (Reaches g.N.Opened.opening c.args.machine.now) (sym c.in_err-begin.ensures.err) at_once

pub returns-clause-reaches : goal.returns-clause-reaches
returns-clause-reaches g c = one_more at_once (begins c.args.session c.in_ok-begin.ensures.begins)

pub returns-then-ne-clause-leaves : goal.returns-then-ne-clause-leaves
returns-then-ne-clause-leaves g c = leaves_not g.N.Opened.opening c.args.machine.now c.args.machine.now refl

pub returns-in_err-begin-clause-leaves : goal.returns-in_err-begin-clause-leaves
returns-in_err-begin-clause-leaves g c = leaves_not g.N.Opened.opening c.args.machine.now c.begin.new.self c.in_err-begin.ensures.err

pub returns-clause-leaves : goal.returns-clause-leaves
returns-clause-leaves g c = leaves_beginning g.N.Opened.opening c.args.machine.now c.begin.new.self c.args.session c.in_ok-begin.ensures.begins

pub returns-clause-passed : goal.returns-clause-passed
returns-clause-passed g c = λ none.
    let m : Machine = c.args.machine.now in
    let next : Machine = c.begin.new.self in
    let s = c.args.session in
    let by = c.in_ok-begin.ensures.begins in
    let kept : IsKept g.N.Opened.opening next = reached_keeps_all g.N.Opened.opening m next c.requires.kept (one_more at_once (begins s by)) in
    let opened = begin_opens m c.requires.kept s (c.requires.place.0, omega (arith, c.requires.place.1, c.requires.kept.shaped.opens)) next by in
    absurd (open_can next kept s opened.0 opened.1 (c.stand.result, c.stand.ensures, none))
