-- The catalog is that of the live tables, which are seen under it.
use Rattle.std.proofs.Common.{ap, sym, ◌∙◌}
use Rattle.bf_sql.specs.Bound.{catalog_of}
use Rattle.bf_store.proofs.seeing.Viewing.{same_catalog_seen}
use Rattle.bf_machine.specs.interleaving.Machines.{Machine}
use Rattle.bf_machine.proofs.machine.Machine.catalog.Goals as goal

pub returns-clause-catalog : goal.returns-clause-catalog
returns-clause-catalog g c =
    c.catalog.ensures.catalog ∙ ap catalog_of c.live.ensures.live ∙ sym (same_catalog_seen c.self.inside.store.lazy c.live.ensures.lazy_state)
    ∙ ap (λ (m : Machine). catalog_of m.db) c.self.view_is
