use Rattle.std.proofs.Common.{subst}
use Rattle.bf_image.specs.Registries.{Registry}
use Rattle.bf_serve.specs.Requests.{IsPresentCatalog}
use Rattle.bf_serve.proofs.threads.Coming.{comes_at_once}
use Rattle.bf_serve.proofs.engine.Engine.of.Goals as goal

pub invariant_of-result : goal.invariant_of-result
invariant_of-result g c = (
  comes_at_once g.J.Journal.Answers g.N.Opened.opening g.N.Beginning.begins c.args.machine c.args.journal c.requires.begins,
  c.requires.logged,
  c.requires.said,
  subst (λ (registry : Registry). IsPresentCatalog registry c.args.machine c.present_catalog-catalog.result) c.requires.registry c.present_catalog-catalog.ensures,
)
