use Rattle.std.proofs.Common.{◌≡◌, sym, subst, ◌∙◌}
use Rattle.bf_tree.specs.declared.script.Script.{Script}
use Rattle.bf_machine.specs.interleaving.Calls.{IsPlace}
use Rattle.bf_serve.proofs.threads.Going.{goes_leaving}
use Rattle.bf_serve.proofs.threads.Running.{needed_if_ok}
use Rattle.bf_serve.proofs.engine.Engine.run_statement.Goals as goal

pub run_statement-requires-clause-place : goal.run_statement-requires-clause-place
run_statement-requires-clause-place g c =
    let m = c.self.inside.machine in
    let same : m.script ≡ g.N.Opened.script = sym c.script.ensures.script ∙ c.script.ensures.opened in
    subst (λ (script : Script). IsPlace script c.args.request.now.at.session) (sym same) c.at.ensures.own.at.session

pub invariant_of-self : goal.invariant_of-self
invariant_of-self g c =
    let i = c.self.invariant in
    let m = c.self.inside.machine in
    let goes = goes_leaving g.J.Journal.Answers g.N.Opened.opening g.N.Beginning.begins g.N.Opened.registry m c.self.inside.journal c.self.inside.catalog i.0 i.3
    c.run_statement.new.machine c.run_statement.ensures.leaves c.run_statement.ensures.present in
    (goes.0, i.1, i.2, goes.1)

pub returns : goal.returns
returns g c = needed_if_ok g.N.Opened.opening c.self.inside.machine c.args.request.now c.run_statement.new.machine c.run_statement.result c.run_statement.ensures.ran
