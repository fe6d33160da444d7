use Rattle.std.proofs.Common.{◌≡◌, ap, subst, sym, ◌∙◌}
use Rattle.bf_live.specs.Commits.{with_writes}
use Rattle.bf_live.specs.Live.{AreLiveTables, database_of, rows_in}
use Rattle.bf_live.specs.Puts.{all_puts}
use Rattle.bf_live.proofs.Committed.{store_committed, view_committed}
use Rattle.bf_live.proofs.live_tables.LiveTables.put.Goals as goal

-- all rows are in the heaps of their tables
pub invariant_of-self-2 : goal.invariant_of-self-2
invariant_of-self-2 c =
    let rows = rows_in c.self.inside.heaps.entries in
    let put : rows_in c.put_all.new.heaps.entries ≡ with_writes (all_puts c.args.puts.items) rows = c.put_all.ensures ∙ ap (with_writes (all_puts c.args.puts.items)) c.make_room_for.ensures.rows in
    subst (AreLiveTables c.self.inside.catalog) (sym put) (store_committed c.self.inside.catalog rows c.self.invariant c.args.self.now c.self.view_is (all_puts c.args.puts.items) c.requires.own_keys c.requires.database)

pub returns-clause-ok : goal.returns-clause-ok
returns-clause-ok c =
    let rows = rows_in c.self.inside.heaps.entries in
    let put : rows_in c.put_all.new.heaps.entries ≡ with_writes (all_puts c.args.puts.items) rows = c.put_all.ensures ∙ ap (with_writes (all_puts c.args.puts.items)) c.make_room_for.ensures.rows in
    ap (database_of c.self.inside.catalog) put ∙ view_committed c.self.inside.catalog rows c.self.invariant c.args.self.now c.self.view_is (all_puts c.args.puts.items)
