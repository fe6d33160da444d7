use Rattle.std.proofs.Common.{sym, ap, subst, ◌∙◌}
use Rattle.bf_sql.specs.Bound.{catalog_of, without_rows}
use Rattle.bf_tree.specs.Limits.{HasNarrowTables}
use Rattle.bf_tree.specs.declared.catalog.Catalog.{Catalog}
use Rattle.bf_recover.specs.Schemas.{is_legal_table}
use Rattle.bf_recover.proofs.Creating.{bare_of, table_by_catalog, legal_is_narrow, table_makes_database}
use Rattle.bf_recover.proofs.schema.add_table.Goals as goal

pub is_legal_table-requires-clause-database : goal.is_legal_table-requires-clause-database
is_legal_table-requires-clause-database c =
    let live = c.args.store.now.lazy.live in
    bare_of live c.catalog.result.now (c.catalog.ensures.catalog ∙ ap catalog_of c.live.ensures.live) c.live.ensures.lazy_state.live

pub is_legal_table-requires-clause-narrow : goal.is_legal_table-requires-clause-narrow
is_legal_table-requires-clause-narrow c = subst HasNarrowTables (sym (c.catalog.ensures.catalog ∙ ap catalog_of c.live.ensures.live)) c.live.ensures.narrow

pub returns-then-not-legal-clause-legal : goal.returns-then-not-legal-clause-legal
returns-then-not-legal-clause-legal c =
    let live = c.args.store.now.lazy.live in
    sym c.if-not-legal.true ∙ c.in_ok-legal.ensures
    ∙ ap (λ (k : Catalog). is_legal_table (without_rows k) c.args.table) (c.catalog.ensures.catalog ∙ ap catalog_of c.live.ensures.live)
    ∙ table_by_catalog live c.args.table

pub create_table-requires-clause-database : goal.create_table-requires-clause-database
create_table-requires-clause-database c =
    let live = c.args.store.now.lazy.live in
    table_makes_database live c.live.ensures.lazy_state.live c.args.table
    (sym (sym c.if-not-legal.false ∙ c.in_ok-legal.ensures
    ∙ ap (λ (k : Catalog). is_legal_table (without_rows k) c.args.table) (c.catalog.ensures.catalog ∙ ap catalog_of c.live.ensures.live)
    ∙ table_by_catalog live c.args.table))

pub returns-clause-legal : goal.returns-clause-legal
returns-clause-legal c =
    let live = c.args.store.now.lazy.live in
    sym c.if-not-legal.false ∙ c.in_ok-legal.ensures
    ∙ ap (λ (k : Catalog). is_legal_table (without_rows k) c.args.table) (c.catalog.ensures.catalog ∙ ap catalog_of c.live.ensures.live)
    ∙ table_by_catalog live c.args.table

pub create_table-requires-clause-narrow : goal.create_table-requires-clause-narrow
create_table-requires-clause-narrow c =
    let live = c.args.store.now.lazy.live in
    legal_is_narrow live c.args.table
    (sym (sym c.if-not-legal.false ∙ c.in_ok-legal.ensures
    ∙ ap (λ (k : Catalog). is_legal_table (without_rows k) c.args.table) (c.catalog.ensures.catalog ∙ ap catalog_of c.live.ensures.live)
    ∙ table_by_catalog live c.args.table))
