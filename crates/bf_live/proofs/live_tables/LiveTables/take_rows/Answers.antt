use Rattle.std.proofs.Common.{[], option_map, refl, subst, sym, ap, ◌∙◌}
use Rattle.bf_heap.specs.Heaps.{Rows}
use Rattle.bf_sql.specs.Database.{IsDatabase}
use Rattle.bf_live.specs.Live.{AreLiveTables, database_of, rows_in, with_rows_under}
use Rattle.bf_live.proofs.Aside.{keeps_without_rows}
use Rattle.bf_live.proofs.Held.{rows_found, rows_held}
use Rattle.bf_live.proofs.Swapped.{store_put, view_put}
use Rattle.bf_live.proofs.live_tables.LiveTables.take_rows.Goals as goal

pub invariant_of-self : goal.invariant_of-self
invariant_of-self c =
    let rows = rows_in c.self.inside.heaps.entries in
    let database = keeps_without_rows c.args.self.now c.args.name.now (subst IsDatabase c.self.view_is c.self.invariant.database) in
    subst (AreLiveTables c.self.inside.catalog) (sym (c.exchange_heap.ensures.rows ∙ ap (λ (h : Rows). with_rows_under c.args.name.now h.entries rows) (c.of-none.ensures ∙ c.new.ensures)))
    (store_put c.self.inside.catalog rows c.self.invariant c.args.self.now c.self.view_is c.args.name.now [] (λ s found. refl) database)

pub returns-clause-live : goal.returns-clause-live
returns-clause-live c =
    let rows = rows_in c.self.inside.heaps.entries in
    ap (database_of c.self.inside.catalog) (c.exchange_heap.ensures.rows ∙ ap (λ (h : Rows). with_rows_under c.args.name.now h.entries rows) (c.of-none.ensures ∙ c.new.ensures))
    ∙ view_put c.self.inside.catalog rows c.self.invariant c.args.self.now c.self.view_is c.args.name.now []

pub returns-clause-rows : goal.returns-clause-rows
returns-clause-rows c =
    ap (option_map (λ (h : Rows). h.entries)) c.exchange_heap.ensures.former ∙ rows_found c.args.name.now c.self.inside.heaps.entries
    ∙ rows_held c.self.inside.catalog (rows_in c.self.inside.heaps.entries) c.self.invariant c.args.self.now c.self.view_is c.args.name.now
