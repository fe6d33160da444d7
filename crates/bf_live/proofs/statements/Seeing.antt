-- What a transaction sees: the committed tables under what it has written.
use Rattle.std.proofs.Common.{◌≡◌, ℕ, List, [], ◌∷◌, map, Some, option_map, refl, sym, ap, ap₂, subst, ◌∙◌}
use Rattle.bf_base.specs.declared.value.Value.{Value}
use Rattle.bf_base.specs.declared.table.Table.{Table}
use Rattle.bf_base.specs.Lists.{same_name}
use Rattle.bf_tree.specs.Limits.{HasNarrowTables}
use Rattle.bf_live.specs.Meanings.{entries_of}
use Rattle.bf_live.specs.Merged.{StandUnderOwnKeys}
use Rattle.bf_live.proofs.querying.Binding.{as_stored}
use Rattle.bf_live.proofs.querying.OwnKeys.{each, weakened}
use Rattle.bf_live.proofs.querying.RowsAsEntries.{hold_rows, rows_are}
use Rattle.bf_tree.specs.declared.catalog.Catalog.{Catalog}
use Rattle.bf_sql.specs.Database.{Database, Stored, IsDatabase, stored_at}
use Rattle.bf_sql.specs.Bound.{catalog_of}
use Rattle.bf_live.specs.Live.{committed, written_to}
use Rattle.bf_txn.specs.declared.write.Write.{Write}
use Rattle.bf_live.specs.Open.{IsOpen}
use Rattle.bf_live.proofs.statements.Bare.{either_found}
use Rattle.bf_live.proofs.statements.Named.{IsThere, all_there, rows_there}

module _ (db : Database) (writes : List Write) where
  -- it sees the committed catalog
  pub same_catalog : catalog_of (committed db writes) ≡ catalog_of db
  same_catalog = ap (λ (tables : List Table). record { number = db.number; tables = tables; indexes = db.indexes }) (same_tables db.tables)
    where
      same_tables : (tables : List Stored) → map (λ s. s.table) (map (written_to writes) tables) ≡ map (λ s. s.table) tables
      same_tables [] = refl
      same_tables (s ∷ tables) = ap (λ (ts : List Table). s.table ∷ ts) (same_tables tables)

  pub narrow_seen : HasNarrowTables (catalog_of db) → HasNarrowTables (catalog_of (committed db writes))
  narrow_seen = subst (λ (catalog : Catalog). HasNarrowTables catalog) (sym same_catalog)

  -- and under each name the committed table, written to
  pub seen_at : (name : List ℕ) → stored_at (committed db writes) name ≡ option_map (written_to writes) (stored_at db name)
  seen_at name = seen_in db.tables
    where
      seen_in : (tables : List Stored) → stored_at (committed (record db { tables = tables }) writes) name
          ≡ option_map (written_to writes) (stored_at (record db { tables = tables }) name)
      seen_in [] = refl
      seen_in (s ∷ tables) = either_found (written_to writes) (same_name s.table.name name) s _ _ (seen_in tables)

-- before its first write it sees what is committed
pub nothing_written : (db : Database) → committed db [] ≡ db
nothing_written db = ap (λ (tables : List Stored). record db { tables = tables }) (as_they_are db.tables)
  where
    as_they_are : (tables : List Stored) → map (written_to []) tables ≡ tables
    as_they_are [] = refl
    as_they_are (s ∷ tables) =
        ap₂ (λ (rows : List (List Value)) (ss : List Stored). as_stored s.table rows ∷ ss) (rows_are s.table s.rows) (as_they_are tables)

-- the rows of a table stand under their own keys
abbrev pub Stands : List Write → Stored → Type 0
Stands writes s = StandUnderOwnKeys s.table (entries_of s.table s.rows) writes

stands : (db : Database) → IsDatabase db → (s : Stored) → IsThere db s → Stands [] s
stands db is s there =
    let rows = rows_there db s there in
    let held = hold_rows db s.table is (there ∙ ap (λ (rs : List (List Value)). Some (as_stored s.table rs)) (sym rows)) in
    subst (λ (rs : List (List Value)). Stands [] (as_stored s.table rs)) rows held.under_own_keys

-- so a transaction that begins is open
pub begun : (db : Database) → IsDatabase db → IsOpen db []
begun db is = record {
  database = subst IsDatabase (sym (nothing_written db)) is;
  by_table_key = refl;
  own_keys = each (Stands []) db.tables (weakened (IsThere db) (Stands []) (stands db is) db.tables (all_there db is));
}
