use Rattle.std.proofs.Common.{◌≡◌, [], List, ap, ap₂, subst, sym, ◌∙◌}
use Rattle.std.specs.BTreeMap.{insert_entry, is_at}
use Rattle.std.specs.Map.{remove_entry}
use Rattle.bf_base.specs.Lists.{name_cmp}
use Rattle.bf_heap.specs.Heaps.{empty_heap}
use Rattle.bf_tree.specs.Catalogs.{Catalog}
use Rattle.bf_live.specs.Live.{AreLiveTables, NamedHeap, database_of, rows_in}
use Rattle.bf_live.proofs.Created.{none_found, removed_again, rows_are_new, store_created, table_is_new, view_created}
use Rattle.bf_live.proofs.Paired.{rows_inserted}
use Rattle.bf_live.proofs.live_tables.LiveTables.create_table.Goals as goal

pub add_table-requires : goal.add_table-requires
add_table-requires c =
    let rows = rows_in c.self.inside.heaps.entries in
    table_is_new c.self.inside.catalog rows c.self.invariant c.args.self.now c.self.view_is c.args.table c.requires.database

-- the table and its heap stand under one name
pub invariant_of-self-in-Ok : goal.invariant_of-self-in-Ok
invariant_of-self-in-Ok c =
    let heaps = c.self.inside.heaps.entries in
    let rows = rows_in heaps in
    let name = c.args.table.name in
    let inserted : c.insert.new.self.entries ≡ insert_entry name_cmp heaps name empty_heap = c.in_ok-insert.ensures.entries ∙ ap₂ (λ n h. insert_entry name_cmp heaps n h) c.in_ok-under.ensures (c.of.ensures ∙ c.new.ensures) in
    let rows_now : rows_in c.insert.new.self.entries ≡ insert_entry name_cmp rows name [] = ap rows_in inserted ∙ rows_inserted name empty_heap heaps in
    subst (AreLiveTables c.add_table.new.self) (sym rows_now)
    (subst (λ (catalog : Catalog). AreLiveTables catalog (insert_entry name_cmp rows name [])) (sym c.in-Ok.ensures.ok)
    (store_created c.self.inside.catalog rows c.self.invariant c.args.self.now c.self.view_is c.args.table c.requires.database))

pub returns-in-Ok-clause-ok : goal.returns-in-Ok-clause-ok
returns-in-Ok-clause-ok c =
    let heaps = c.self.inside.heaps.entries in
    let rows = rows_in heaps in
    let name = c.args.table.name in
    let inserted : c.insert.new.self.entries ≡ insert_entry name_cmp heaps name empty_heap = c.in_ok-insert.ensures.entries ∙ ap₂ (λ n h. insert_entry name_cmp heaps n h) c.in_ok-under.ensures (c.of.ensures ∙ c.new.ensures) in
    let rows_now : rows_in c.insert.new.self.entries ≡ insert_entry name_cmp rows name [] = ap rows_in inserted ∙ rows_inserted name empty_heap heaps in
    ap₂ database_of c.in-Ok.ensures.ok rows_now ∙ view_created c.self.inside.catalog rows c.self.invariant c.args.self.now c.self.view_is c.args.table c.requires.database

-- the heap is taken out again where there is no memory for the table
pub invariant_of-self-in-Err : goal.invariant_of-self-in-Err
invariant_of-self-in-Err c =
    let heaps = c.self.inside.heaps.entries in
    let rows = rows_in heaps in
    let name = c.args.table.name in
    let inserted : c.insert.new.self.entries ≡ insert_entry name_cmp heaps name empty_heap = c.in_ok-insert.ensures.entries ∙ ap₂ (λ n h. insert_entry name_cmp heaps n h) c.in_ok-under.ensures (c.of.ensures ∙ c.new.ensures) in
    let same : c.remove.new.self.entries ≡ heaps =
    c.remove.ensures.entries ∙ ap (λ n. remove_entry (is_at (name_cmp n)) c.insert.new.self.entries) c.in_ok-name.ensures ∙ ap (λ (es : List NamedHeap). remove_entry (is_at (name_cmp name)) es) inserted
    ∙ removed_again name empty_heap heaps (none_found name heaps (rows_are_new c.self.inside.catalog rows c.self.invariant c.args.self.now c.self.view_is c.args.table c.requires.database)) in
    subst (λ (heaps : List NamedHeap). AreLiveTables c.add_table.new.self (rows_in heaps)) (sym same)
    (subst (λ (catalog : Catalog). AreLiveTables catalog rows) (sym c.in-Err.ensures.err) c.self.invariant)

pub returns-clause-err : goal.returns-clause-err
returns-clause-err c =
    let heaps = c.self.inside.heaps.entries in
    let rows = rows_in heaps in
    let name = c.args.table.name in
    let inserted : c.insert.new.self.entries ≡ insert_entry name_cmp heaps name empty_heap = c.in_ok-insert.ensures.entries ∙ ap₂ (λ n h. insert_entry name_cmp heaps n h) c.in_ok-under.ensures (c.of.ensures ∙ c.new.ensures) in
    let same : c.remove.new.self.entries ≡ heaps =
    c.remove.ensures.entries ∙ ap (λ n. remove_entry (is_at (name_cmp n)) c.insert.new.self.entries) c.in_ok-name.ensures ∙ ap (λ (es : List NamedHeap). remove_entry (is_at (name_cmp name)) es) inserted
    ∙ removed_again name empty_heap heaps (none_found name heaps (rows_are_new c.self.inside.catalog rows c.self.invariant c.args.self.now c.self.view_is c.args.table c.requires.database)) in
    ap₂ database_of c.in-Err.ensures.err (ap rows_in same) ∙ c.self.view_is
