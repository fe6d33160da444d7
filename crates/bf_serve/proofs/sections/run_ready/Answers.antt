-- What is ready may have its reply; and what it needs is what the machine tells.
use Rattle.std.proofs.Common.{◌≡◌, ℕ, sym, ap, subst, ◌∙◌}
use Rattle.std.specs.Prelude.{Ok}
use Rattle.std.specs.Option.{option_map}
use Rattle.bf_tree.specs.declared.bound.Bound.{Bound}
use Rattle.bf_tree.specs.declared.script.Script.{Script}
use Rattle.bf_machine.specs.declared.stand.Step.{Step}
use Rattle.bf_machine.specs.declared.stand.Step.TheVariants.{Need}
use Rattle.bf_machine.specs.interleaving.Calls.{CanExec, IsStep}
use Rattle.bf_machine.specs.interleaving.Machines.{Machine}
use Rattle.bf_machine.proofs.served.Needs.{lent}
use Rattle.bf_serve.specs.Requests.{IsRequest, Position, Request}
use Rattle.bf_serve.proofs.threads.Asking.{may_run}
use Rattle.bf_serve.proofs.threads.Coming.{leaves_replied}
use Rattle.bf_serve.proofs.threads.Needing.{needed}
use Rattle.bf_serve.proofs.sections.run_ready.Goals as goal

pub exec-requires-clause-can : goal.exec-requires-clause-can
exec-requires-clause-can g c =
    let m : Machine = c.args.machine.now in
    let r : Request = c.args.request.now in
    let own : m.script ≡ g.N.Opened.script = sym c.script.ensures.script ∙ c.script.ensures.opened in
    let is : IsRequest g.N.Opened.registry m.script r = subst (λ (k : Script). IsRequest g.N.Opened.registry k r) (sym own) c.at.ensures.own in
    let session : c.session-session.result ≡ r.at.session = c.session-session.ensures.session ∙ ap (λ (p : Position). p.session) c.at.ensures.at in
    subst (λ (s : ℕ). CanExec m s g.N.Opened.opening c.bound.result.now) (sym session)
    (subst (λ (b : Bound). CanExec m r.at.session g.N.Opened.opening b) (sym c.bound.ensures)
    (may_run g.N.Opened.registry m c.script.ensures.kept r is c.requires.ready.stands c.requires.ready.held))

pub returns-in-Replied-clause-leaves : goal.returns-in-Replied-clause-leaves
returns-in-Replied-clause-leaves g c =
    leaves_replied g.N.Opened.opening c.args.machine.now c.exec.new.self c.session-session.result c.bound.result.now (c.exec.ensures.replied (c.in_ok-exec.was ∙ ap Ok c.in-Replied.is))

pub returns-in-Need-clause-ran : goal.returns-in-Need-clause-ran
returns-in-Need-clause-ran g c =
    let m : Machine = c.args.machine.now in
    let r : Request = c.args.request.now in
    let own_script : m.script ≡ g.N.Opened.script = sym c.script.ensures.script ∙ c.script.ensures.opened in
    let is : IsRequest g.N.Opened.registry m.script r = subst (λ (k : Script). IsRequest g.N.Opened.registry k r) (sym own_script) c.at.ensures.own in
    let pass = option_map (λ p. p.now) c.as_ref.result in
    let own : pass ≡ m.pass = lent c.as_ref.result ∙ (c.as_ref.ensures.value ∙ c.migration-pass.ensures.pass) in
    let told : IsStep m pass c.bound.result.now c.args.cover.now.granules.items (Need c.in-Need.granules) =
    subst (λ (step : Step). IsStep m pass c.bound.result.now c.args.cover.now.granules.items step) c.in-Need.is c.in_ok-exec.ensures.step in
    let step : IsStep m pass r.bound c.args.cover.now.granules.items (Need c.in-Need.granules) =
    subst (λ (b : Bound). IsStep m pass b c.args.cover.now.granules.items (Need c.in-Need.granules)) c.bound.ensures told in
    needed g.N.Opened.registry m c.script.ensures.kept r is c.requires.ready c.args.cover.now c.requires.cover pass own c.in-Need.granules step
