use Rattle.std.proofs.Common.{◌≡◌, ◌+◌, subst, sym, ap, rules, ◌∙◌}
use Rattle.bf_tree.specs.Catalogs.{Catalog}
use Rattle.bf_sql.specs.Bound.{catalog_of}
use Rattle.bf_live.specs.Drafts.{AreNamedApart, Drafted, staying_rules, tables_after}
use Rattle.bf_live.specs.Live.{held_in, rows_in}
use Rattle.bf_live.proofs.Held.{catalog_held}
use Rattle.bf_live.proofs.live_tables.LiveTables.prepare_exchange.Goals as goal

pub of-requires : goal.of-requires
of-requires c =
    let held : c.self.inside.catalog ≡ catalog_of c.args.self.now = catalog_held c.self.inside.catalog (rows_in c.self.inside.heaps.entries) c.self.invariant c.args.self.now c.self.view_is in
    subst (λ (catalog : Catalog). AreNamedApart (tables_after catalog c.args.gone.now (held_in c.args.new.items))) (sym held) c.requires

pub returns : goal.returns
returns c =
    let held : c.self.inside.catalog ≡ catalog_of c.args.self.now = catalog_held c.self.inside.catalog (rows_in c.self.inside.heaps.entries) c.self.invariant c.args.self.now c.self.view_is in
    let counted : c.in_ok-number.number ≡ c.self.inside.catalog.number + 1 = search rules in
    record {
      number = counted ∙ ap (λ (catalog : Catalog). catalog.number + 1) held;
      tables = ap (λ (d : Drafted). d.tables) c.in_ok-draft.ensures ∙ ap (λ (catalog : Catalog). tables_after catalog c.args.gone.now (held_in c.args.new.items)) held;
      indexes = ap (λ (d : Drafted). d.indexes) c.in_ok-draft.ensures ∙ ap (λ (catalog : Catalog). staying_rules c.args.gone.now catalog.indexes) held;
    }
