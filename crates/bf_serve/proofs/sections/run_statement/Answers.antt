-- Its locks are asked for, and where they are held it is run.
use Rattle.std.proofs.Common.{sym, subst, inl, inr}
use Rattle.bf_tree.specs.declared.script.Script.{Script}
use Rattle.bf_machine.specs.interleaving.Calls.{IsPlace}
use Rattle.bf_machine.specs.interleaving.Machines.{Machine}
use Rattle.bf_machine.proofs.served.Keeping.{keeps_both}
use Rattle.bf_serve.specs.Requests.{HoldsIfOpen, Request}
use Rattle.bf_serve.specs.Sections.{IsAskedAs}
use Rattle.bf_serve.specs.declared.sections.Asked.{Asked}
use Rattle.bf_serve.specs.declared.sections.Asked.TheVariants.{Granted}
use Rattle.bf_serve.proofs.threads.Asking.{held_if_locked, held_if_none}
use Rattle.bf_serve.proofs.threads.Running.{ran_if_ok}
use Rattle.bf_serve.proofs.sections.run_statement.Goals as goal

pub run_held-requires-clause-place : goal.run_held-requires-clause-place
run_held-requires-clause-place g c = subst (λ (script : Script). IsPlace script c.args.request.now.at.session) (sym c.ask_for_all.ensures.same) c.requires.place

pub run_held-requires-clause-held : goal.run_held-requires-clause-held
run_held-requires-clause-held g c =
    let m : Machine = c.args.machine.now in
    let r : Request = c.args.request.now in
    let next : Machine = c.ask_for_all.new.machine in
    let asked : IsAskedAs g.N.Opened.opening m r next Granted = subst (λ (a : Asked). IsAskedAs g.N.Opened.opening m r next a) c.in-Granted.is c.in_ok-ask_for_all.ensures.asked in
    elim asked as (λ _. HoldsIfOpen next r) [ inl none ↦ held_if_none next r none.0 | inr locked ↦ held_if_locked m next r locked ]

pub returns-in-Granted-clause-leaves : goal.returns-in-Granted-clause-leaves
returns-in-Granted-clause-leaves g c =
    keeps_both (λ lazy then before after answer. ⊥) g.N.Opened.opening c.args.machine.now tt c.ask_for_all.new.machine tt c.run_held.new.machine tt c.ask_for_all.ensures.leaves c.run_held.ensures.leaves

pub returns-in-Granted-clause-ran : goal.returns-in-Granted-clause-ran
returns-in-Granted-clause-ran g c = ran_if_ok g.N.Opened.opening c.args.machine.now c.args.request.now c.run_held.new.machine c.run_held.result c.run_held.ensures.ran

pub returns-in-Waits-clause-ran : goal.returns-in-Waits-clause-ran
returns-in-Waits-clause-ran g c =
    subst (λ (a : Asked). IsAskedAs g.N.Opened.opening c.args.machine.now c.args.request.now c.ask_for_all.new.machine a) c.in-Waits.is c.in_ok-ask_for_all.ensures.asked

pub returns-in-Died-clause-ran : goal.returns-in-Died-clause-ran
returns-in-Died-clause-ran g c =
    subst (λ (a : Asked). IsAskedAs g.N.Opened.opening c.args.machine.now c.args.request.now c.ask_for_all.new.machine a) c.in-Died.is c.in_ok-ask_for_all.ensures.asked
