use Rattle.std.proofs.Common.{ap, ◌∙◌}
use Rattle.bf_tree.specs.Catalogs.{Catalog}
use Rattle.bf_live.specs.Drafts.{Prepared, staying_rows, with_rows_of}
use Rattle.bf_live.specs.Live.{rows_in}
use Rattle.bf_live.proofs.Exchanged.{names_apart, prepared_apart, store_exchanged, view_exchanged}
use Rattle.bf_live.proofs.live_tables.LiveTables.exchange.Goals as goal

-- the live tables are what was built up, with the rows of the tables that stay
pub invariant_of-self : goal.invariant_of-self
invariant_of-self c =
    let may = c.requires in
    store_exchanged c.self.inside.catalog (rows_in c.self.inside.heaps.entries) c.self.invariant c.args.self.now c.self.view_is c.args.gone.now may.new
    c.args.exchange (rows_in c.replace-old.result.entries) c.put_staying.new.self c.with_number.result (rows_in c.into_parts-catalog.result.1.entries)
    (record {
      prepared = may.prepared;
      apart = names_apart c.args.self.now c.args.gone.now may.new may.database;
      kept = ap (λ m. rows_in m.entries) c.replace-old.ensures.value;
      filled = c.put_staying.ensures ∙ ap (λ (e : Prepared). record e.drafted { tables = with_rows_of (staying_rows c.args.gone.now (rows_in c.replace-old.result.entries)) e.drafted.tables }) c.exchange.view_is;
      number = ap (λ (catalog : Catalog). catalog.number) c.with_number.ensures ∙ ap (λ (e : Prepared). e.number) c.exchange.view_is;
      tables = ap (λ (catalog : Catalog). catalog.tables) c.with_number.ensures ∙ c.into_parts-catalog.ensures.tables;
      rules = ap (λ (catalog : Catalog). catalog.indexes) c.with_number.ensures ∙ c.into_parts-catalog.ensures.indexes;
      rows_are = c.into_parts-catalog.ensures.rows;
    }) may.database may.under_own_keys

pub returns : goal.returns
returns c = λ new is.
    let may = c.requires in
    view_exchanged c.self.inside.catalog (rows_in c.self.inside.heaps.entries) c.self.invariant c.args.self.now c.self.view_is c.args.gone.now new
    c.args.exchange (rows_in c.replace-old.result.entries) c.put_staying.new.self c.with_number.result (rows_in c.into_parts-catalog.result.1.entries)
    (record {
      prepared = is;
      apart = prepared_apart c.args.self.now c.args.gone.now may.new new c.args.exchange may.database may.prepared is;
      kept = ap (λ m. rows_in m.entries) c.replace-old.ensures.value;
      filled = c.put_staying.ensures ∙ ap (λ (e : Prepared). record e.drafted { tables = with_rows_of (staying_rows c.args.gone.now (rows_in c.replace-old.result.entries)) e.drafted.tables }) c.exchange.view_is;
      number = ap (λ (catalog : Catalog). catalog.number) c.with_number.ensures ∙ ap (λ (e : Prepared). e.number) c.exchange.view_is;
      tables = ap (λ (catalog : Catalog). catalog.tables) c.with_number.ensures ∙ c.into_parts-catalog.ensures.tables;
      rules = ap (λ (catalog : Catalog). catalog.indexes) c.with_number.ensures ∙ c.into_parts-catalog.ensures.indexes;
      rows_are = c.into_parts-catalog.ensures.rows;
    })
