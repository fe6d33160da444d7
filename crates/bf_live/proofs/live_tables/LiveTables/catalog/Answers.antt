use Rattle.bf_live.specs.Live.{rows_in}
use Rattle.bf_live.proofs.Held.{catalog_held}
use Rattle.bf_live.proofs.live_tables.LiveTables.catalog.Goals as goal

pub returns-clause-catalog : goal.returns-clause-catalog
returns-clause-catalog c = catalog_held c.self.inside.catalog (rows_in c.self.inside.heaps.entries) c.self.invariant c.args.self.now c.self.view_is
