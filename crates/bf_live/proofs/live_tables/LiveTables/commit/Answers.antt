use Rattle.std.proofs.Common.{◌≡◌, ap, ap₂, subst, sym, ◌∙◌}
use Rattle.bf_live.specs.Commits.{with_writes}
use Rattle.bf_live.specs.Live.{AreLiveTables, database_of, rows_in}
use Rattle.bf_live.proofs.Committed.{store_committed, view_committed}
use Rattle.bf_live.proofs.live_tables.LiveTables.commit.Goals as goal

-- all writes are in the heaps of their tables
pub invariant_of-self-2 : goal.invariant_of-self-2
invariant_of-self-2 c =
    let rows = rows_in c.self.inside.heaps.entries in
    let written : rows_in c.apply.new.heaps.entries ≡ with_writes c.args.writes.now rows = c.apply.ensures ∙ ap₂ with_writes c.replace-taken.ensures.value c.make_room.ensures.rows in
    subst (AreLiveTables c.self.inside.catalog) (sym written) (store_committed c.self.inside.catalog rows c.self.invariant c.args.self.now c.self.view_is c.args.writes.now c.requires.own_keys c.requires.database)

pub returns-clause-ok : goal.returns-clause-ok
returns-clause-ok c =
    let rows = rows_in c.self.inside.heaps.entries in
    let written : rows_in c.apply.new.heaps.entries ≡ with_writes c.args.writes.now rows = c.apply.ensures ∙ ap₂ with_writes c.replace-taken.ensures.value c.make_room.ensures.rows in
    ap (database_of c.self.inside.catalog) written ∙ view_committed c.self.inside.catalog rows c.self.invariant c.args.self.now c.self.view_is c.args.writes.now
