-- The session stands at that statement, in an open block or not as then, and both passes read one catalog.
use Rattle.std.proofs.Common.{rules, ◌≡◌, ℕ, Option, sym, ap, subst, ◌∙◌}
use Rattle.std.specs.Prelude.{IfSome}
use Rattle.boxcar.specs.Table.{Shows, Where}
use Rattle.bf_tree.specs.Catalogs.{Catalog}
use Rattle.bf_sql.specs.Bound.{catalog_of}
use Rattle.bf_machine.specs.declared.stand.Stand.{Stand}
use Rattle.bf_machine.specs.declared.stand.Stand.TheVariants.{Statement}
use Rattle.bf_machine.specs.interleaving.Calls.{StandsAs}
use Rattle.bf_machine.specs.interleaving.Machines.{Machine}
use Rattle.bf_machine.specs.interleaving.Serving.{is_in_block}
use Rattle.bf_serve.proofs.sections.stands_at.Goals as goal

pub returns : goal.returns
returns g c = λ yes.
    let m : Machine = c.args.machine.now in
    let at = c.args.at.now in
    let there : c.in-Statement.place ≡ at.place = search rules in
    let stands : StandsAs m at.session c.stand.result = subst (λ (s : ℕ). StandsAs m s c.stand.result) c.session-session.ensures.session c.stand.ensures in
    let block : is_in_block m at.session ≡ at.in_block = search rules in
    let present = subst (λ (o : Option (Where Catalog)). IfSome o (λ p. Shows g.N.Opened.registry.catalogs p × (p.value ≡ catalog_of m.db))) c.in-Some.is c.requires.present in
    record {
      stands = subst (λ (k : Stand). StandsAs m at.session k) (c.in-Statement.is ∙ ap Statement there) stands;
      block = block;
      catalog = ap (λ (p : Where Catalog). p.value) (sym c.catalog.ensures.pass) ∙ (c.same_catalog.ensures.values yes ∙ present.1);
    }
