use Rattle.std.proofs.Common.{subst, sym, ap, ◌∙◌}
use Rattle.bf_live.specs.Live.{AreLiveTables, database_of, rows_in}
use Rattle.bf_live.proofs.Swapped.{store_put, view_put}
use Rattle.bf_live.proofs.live_tables.LiveTables.put_rows.Goals as goal

pub invariant_of-self : goal.invariant_of-self
invariant_of-self c =
    subst (AreLiveTables c.self.inside.catalog) (sym c.exchange_heap.ensures.rows)
    (store_put c.self.inside.catalog (rows_in c.self.inside.heaps.entries) c.self.invariant c.args.self.now c.self.view_is c.args.name.now c.args.rows.entries c.requires.own_keys c.requires.database)

pub returns : goal.returns
returns c =
    ap (database_of c.self.inside.catalog) c.exchange_heap.ensures.rows
    ∙ view_put c.self.inside.catalog (rows_in c.self.inside.heaps.entries) c.self.invariant c.args.self.now c.self.view_is c.args.name.now c.args.rows.entries
