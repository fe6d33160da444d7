-- Each test tells its part.
use Rattle.std.proofs.Common.{◌≡◌, sym, ap, subst, ◌∙◌}
use Rattle.std.specs.Option.{option_map}
use Rattle.boxcar.specs.Table.{Where}
use Rattle.bf_image.specs.declared.migration.Migration.{Migration as Kept}
use Rattle.bf_machine.specs.interleaving.Machines.{Machine}
use Rattle.bf_machine.proofs.served.Needs.{lent, lent_then}
use Rattle.bf_serve.specs.Requests.{Position, Request, StandsAt}
use Rattle.bf_serve.proofs.threads.Needing.{values}
use Rattle.bf_serve.proofs.sections.is_ready.Goals as goal

pub returns : goal.returns
returns g c = λ yes.
    let m : Machine = c.args.machine.now in
    let r : Request = c.args.request.now in
    let value : Where Kept → Kept = λ p. p.value in
    let theirs : values r.at.migration ≡ option_map (λ p. value p.now) c.migration.result =
    sym (lent_then value c.migration.result ∙ ap values (c.migration.ensures.pass ∙ ap (λ (p : Position). p.migration) c.at-at.ensures.at)) in
    let ours : option_map (λ p. value p.now) c.as_ref.result ≡ values m.pass =
    lent_then value c.as_ref.result ∙ ap values (lent c.as_ref.result ∙ (c.as_ref.ensures.value ∙ c.migration-pass.ensures.pass)) in
    record {
      stands = subst (StandsAt m) c.at-at.ensures.at (c.stands_at.ensures c.if-not-stands_at.false);
      migration = theirs ∙ (c.are_one.ensures yes ∙ ours);
      held = c.requires.held;
    }
