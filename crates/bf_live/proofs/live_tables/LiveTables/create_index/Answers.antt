use Rattle.bf_live.specs.Live.{rows_in}
use Rattle.bf_live.proofs.Created.{index_is_new}
use Rattle.bf_live.proofs.live_tables.LiveTables.create_index.Goals as goal

pub add_index-requires : goal.add_index-requires
add_index-requires c = index_is_new c.self.inside.catalog (rows_in c.self.inside.heaps.entries) c.self.invariant c.args.self.now c.self.view_is c.args.index c.requires.database
