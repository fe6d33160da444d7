-- The live tables after a commit.
use Rattle.std.proofs.Common.{◌≡◌, suc, List, [], ◌∷◌, map, refl, sym, ap, ap₂, subst, ◌∙◌, arith}
use Rattle.std.specs.Prelude.{zip}
use Rattle.std.specs.List.{All, AllByRecursion}
use Rattle.std.specs.Map.{keys_of, values_of}
use Rattle.std.proofs.lemmas.List.Elements.{All-cons}
use Rattle.bf_base.specs.declared.table.Table.{Table}
use Rattle.bf_heap.specs.Heaps.{Entry}
use Rattle.bf_live.specs.Meanings.{entries_of}
use Rattle.bf_live.specs.Merged.{HasOwnKey, StandUnderOwnKeys, entries_under}
use Rattle.bf_live.proofs.querying.OwnKeys.{own_keys}
use Rattle.bf_tree.specs.Catalogs.{Catalog}
use Rattle.bf_sql.specs.Database.{Database, IsDatabase, Stored}
use Rattle.bf_txn.specs.declared.write.Write.{Write}
use Rattle.bf_live.specs.Commits.{with_writes}
use Rattle.bf_live.specs.Live.{AreLiveTables, IsUnderOwnKeys, NamedRows, committed, database_of, stored, written_to}
use Rattle.bf_live.proofs.Held.{OneEach, held}

-- tables with one more, which has these rows
abbrev with_first : Table → List Entry → List Stored → List Stored
with_first table entries others = stored (table, entries) ∷ others

-- entries that stand under their own keys are those of their rows
own_entries : (table : Table) (entries : List Entry) → AllByRecursion (λ e. HasOwnKey table e.0 e.1) entries → entries ≡ entries_of table (map (λ e. e.1) entries)
own_entries table [] own = refl
own_entries table (e ∷ entries) own = ap₂ (λ key es. (key, e.1) ∷ es) (sym own.0.1) (own_entries table entries own.1)

module _ (writes : List Write) where
  abbrev pub Stands : Stored → Type 0
  Stands s = StandUnderOwnKeys s.table (entries_of s.table s.rows) writes

  names_written : (rows : List NamedRows) → keys_of (with_writes writes rows) ≡ keys_of rows
  names_written [] = refl
  names_written (r ∷ rs) = ap (λ ns. r.0 ∷ ns) (names_written rs)

  written_held : (tables : List Table) (rows : List NamedRows) → OneEach tables rows → All IsUnderOwnKeys (zip tables (values_of rows)) → held tables (with_writes writes rows) ≡ map (written_to writes) (held tables rows)
  written_held [] rows one_each own = refl
  written_held (t ∷ ts) [] one_each own = absurd cc
  written_held (t ∷ ts) (r ∷ rs) one_each own =
      let named : r.0 ≡ t.name = cc in
      let rest : OneEach ts rs = cc in
      let own_here : r.1 ≡ entries_of t (map (λ e. e.1) r.1) = own 0 (t, r.1) (omega arith) in
      ap₂ (with_first t) (ap₂ (λ es n. entries_under es writes n) own_here named) (written_held ts rs rest (λ k d below. own (suc k) d (omega arith)))

  written_own_keys : (tables : List Table) (rows : List NamedRows) → OneEach tables rows → All IsUnderOwnKeys (zip tables (values_of rows)) → All Stands (held tables rows) → All IsUnderOwnKeys (zip tables (values_of (with_writes writes rows)))
  written_own_keys [] rows one_each own stand = λ k d below. absurd (omega arith)
  written_own_keys (t ∷ ts) [] one_each own stand = absurd cc
  written_own_keys (t ∷ ts) (r ∷ rs) one_each own stand =
      let named : r.0 ≡ t.name = cc in
      let rest : OneEach ts rs = cc in
      let own_here : r.1 ≡ entries_of t (map (λ e. e.1) r.1) = own 0 (t, r.1) (omega arith) in
      let stands : StandUnderOwnKeys t r.1 writes = subst (λ (es : List Entry). StandUnderOwnKeys t es writes) (sym own_here) (stand 0 (stored (t, r.1)) (omega arith)) in
      let under_name : IsUnderOwnKeys (t, entries_under r.1 writes t.name) = own_entries t (entries_under r.1 writes t.name) (own_keys t r.1 writes stands) in
      All-cons IsUnderOwnKeys (t, entries_under r.1 writes r.0) (zip ts (values_of (with_writes writes rs)))
      (subst (λ n. IsUnderOwnKeys (t, entries_under r.1 writes n)) (sym named) under_name)
      (written_own_keys ts rs rest (λ k d below. own (suc k) d (omega arith)) (λ k d below. stand (suc k) d (omega arith)))

module _ (catalog : Catalog) (rows : List NamedRows) (live : AreLiveTables catalog rows) (db : Database) (is : database_of catalog rows ≡ db) (writes : List Write) where
  pub view_committed : database_of catalog (with_writes writes rows) ≡ committed db writes
  view_committed =
      ap (λ (tables : List Stored). record { number = catalog.number; tables = tables; indexes = catalog.indexes }) (written_held writes catalog.tables rows live.one_each live.under_own_keys)
      ∙ ap (λ (db : Database). committed db writes) is

  pub store_committed : All (Stands writes) db.tables → IsDatabase (committed db writes) → AreLiveTables catalog (with_writes writes rows)
  store_committed stand database = record {
    one_each = names_written writes rows ∙ live.one_each;
    under_own_keys = written_own_keys writes catalog.tables rows live.one_each live.under_own_keys (subst (λ (db : Database). All (Stands writes) db.tables) (sym is) stand);
    database = subst IsDatabase (sym view_committed) database;
  }
