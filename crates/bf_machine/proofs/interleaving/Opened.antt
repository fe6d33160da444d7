-- Of two transactions that are open over one database each stays open where the other is committed.
use Rattle.std.proofs.Common.{◌≡◌, Bool, true, false, ◌&&◌, cond, List, [], ◌∷◌, map, fold, Some, refl, sym, ap, ap₂, subst, ◌∙◌, inl, inr, is_eq}
use Rattle.std.specs.List.{AllByRecursion, list_all}
use Rattle.std.proofs.lemmas.Bool.{and_from, and_parts, cases_Bool}
use Rattle.std.proofs.lemmas.Cmp.{tied_itself}
use Rattle.std.proofs.lemmas.List.Folds.{list_all-map}
use Rattle.std.proofs.lemmas.Option.{same_Some}
use Rattle.std.proofs.lemmas.Simd.{map-map}
use Rattle.bf_base.specs.declared.table.Table.{Table}
use Rattle.bf_base.specs.declared.value.Value.{Value}
use Rattle.bf_base.specs.Lists.{name_cmp, rises, same_name}
use Rattle.bf_base.specs.Maps.{is_map}
use Rattle.bf_base.specs.Tables.{key_of}
use Rattle.bf_base.specs.Values.{key_cmp, key_cmp_total}
use Rattle.bf_base.proofs.Order.{less_from_test, list_any-map, rises_skip, rises_tail, turned_less}
use Rattle.bf_heap.specs.Heaps.{Entry, key_of_entry, row_under}
use Rattle.bf_txn.specs.declared.write.Write.{Write}
use Rattle.bf_txn.specs.Writes.{AreWrites, writes_to}
use Rattle.bf_sql.specs.Database.{Database, Stored, is_admitted, is_keyed, is_on_table, is_within}
use Rattle.bf_live.specs.Meanings.{entries_of}
use Rattle.bf_live.specs.Merged.{HasOwnKey, applied, entries_under}
use Rattle.bf_live.proofs.querying.Keyed.{by_key, is_map-fold, row_under-applied}
use Rattle.bf_live.proofs.querying.Merging.{write_keys}
use Rattle.bf_index.proofs.Rising.{RisesFrom}
use Rattle.bf_live.proofs.querying.OwnKeys.{OwnKeys, by_recursion, each, fold_keeps, own_keys}
use Rattle.bf_image.proofs.items.Lists.{all_so}
use Rattle.bf_live.specs.Live.{committed, written_to}
use Rattle.bf_live.specs.Open.{IsOpen}
use Rattle.bf_live.proofs.statements.Seeing.{Stands}

-- WHAT ALL ROWS PASS, each row that was written passes, where one write a key was applied
module _ (p : List Value → Bool) where
  abbrev Passes : Entry → Type 0
  Passes e = p e.1 ≡ true

  abbrev rows_of : List Entry → List (List Value)
  rows_of entries = map (λ (e : Entry). e.1) entries

  pub each_passes : (entries : List Entry) → list_all p (rows_of entries) ≡ true → AllByRecursion Passes entries
  each_passes [] all = tt
  each_passes (e ∷ es) all = let parts = and_parts (p e.1) (list_all p (rows_of es)) all in (parts.0, each_passes es parts.1)

  pub all_pass : (entries : List Entry) → AllByRecursion Passes entries → list_all p (rows_of entries) ≡ true
  all_pass [] all = refl
  all_pass (e ∷ es) all = and_from (p e.1) (list_all p (rows_of es)) all.0 (all_pass es all.1)

  found_passes : (entries : List Entry) (key row : List Value) → row_under entries key ≡ Some row → AllByRecursion Passes entries → p row ≡ true
  found_passes [] key row found all = absurd cc
  found_passes (e ∷ es) key row found all = elim (cases_Bool (is_eq (key_cmp e.0 key))) [
    | inl tied ↦
        let here : Some e.1 ≡ Some row = rw tied at found in
        subst (λ (row : List Value). p row ≡ true) (same_Some e.1 row here) all.0
    | inr apart ↦
        let later : row_under es key ≡ Some row = rw apart at found in
        found_passes es key row later all.1
  ]

  -- later writes have greater keys
  kept_row : (ws : List Write) (entries : List Entry) (key row : List Value) → RisesFrom key (write_keys ws) → row_under entries key ≡ Some row → row_under (fold applied entries ws) key ≡ Some row
  kept_row [] entries key row h found = found
  kept_row (w ∷ ws) entries key row h found =
      let apart : is_eq (key_cmp w.key key) ≡ false = ap is_eq (turned_less key_cmp_total key w.key (less_from_test _ (and_parts _ _ h).0)) in
      let now : row_under (applied entries w) key ≡ Some row = row_under-applied entries w key ∙ (ap (λ (b : Bool). cond b w.row (row_under entries key)) apart ∙ found) in
      kept_row ws (applied entries w) key row (rises_skip key_cmp_total key w.key (write_keys ws) h) now

  pub written_pass : (ws : List Write) (entries : List Entry) → rises key_cmp (write_keys ws) ≡ true → AllByRecursion Passes (fold applied entries ws)
      → AllByRecursion (λ w. (row : List Value) → w.row ≡ Some row → p row ≡ true) ws
  written_pass [] entries h all = tt
  written_pass (w ∷ ws) entries h all = (
    λ row is.
        let tied : is_eq (key_cmp w.key w.key) ≡ true = ap is_eq (tied_itself key_cmp_total w.key) in
        let here : row_under (applied entries w) w.key ≡ Some row = row_under-applied entries w w.key ∙ (ap (λ (b : Bool). cond b w.row (row_under entries w.key)) tied ∙ is) in
        found_passes (fold applied (applied entries w) ws) w.key row (kept_row ws (applied entries w) w.key row h here) all,
    written_pass ws (applied entries w) (rises_tail key_cmp_total w.key (write_keys ws) h) all,
  )

-- entries under their own keys are those of their rows
own_again : (table : Table) (entries : List Entry) → OwnKeys table entries → entries_of table (map (λ (e : Entry). e.1) entries) ≡ entries
own_again table [] own = refl
own_again table (e ∷ es) own = ap₂ (λ (key : List Value) (es : List Entry). (key, e.1) ∷ es) own.0.1 (own_again table es own.1)

keys_own : (table : Table) (entries : List Entry) → OwnKeys table entries → map (key_of table) (map (λ (e : Entry). e.1) entries) ≡ map key_of_entry entries
keys_own table [] own = refl
keys_own table (e ∷ es) own = ap₂ (λ (key : List Value) (keys : List (List Value)). key ∷ keys) own.0.1 (keys_own table es own.1)

keyed_entries : (table : Table) (rows : List (List Value)) → rises key_cmp (map (key_of table) rows) ≡ true → is_map key_cmp key_of_entry (entries_of table rows) ≡ true
keyed_entries table rows keyed = ap (rises key_cmp) (map-map key_of_entry (λ (row : List Value). (key_of table row, row)) rows) ∙ keyed

module _ (writes others : List Write) (sorted : AreWrites others) where
  -- A TABLE
  module _ (s : Stored) (mine : Stands writes s) (its : Stands others s) (keyed : is_keyed (written_to writes s) ≡ true) where
    abbrev then : Stored
    then = written_to writes s

    pub stands_then : Stands others then
    stands_then = record {
      heap =
          let own = own_keys s.table (entries_of s.table s.rows) writes mine in
          let stay = own_again s.table (entries_under (entries_of s.table s.rows) writes s.table.name) own in
          each (λ (e : Entry). HasOwnKey s.table e.0 e.1) (entries_of s.table then.rows) (subst (OwnKeys s.table) (sym stay) own);
      workspace = its.workspace;
    }

    abbrev ends : List Entry
    ends = entries_under (entries_of s.table then.rows) others s.table.name

    pub keyed_then : is_keyed (written_to others then) ≡ true
    keyed_then =
        ap (rises key_cmp) (keys_own s.table ends (own_keys s.table (entries_of s.table then.rows) others stands_then))
        ∙ is_map-fold (writes_to s.table.name others) (entries_of s.table then.rows) (keyed_entries s.table then.rows keyed)

    abbrev p : List Value → Bool
    p = is_admitted s.table

    pub admitted_then : list_all p then.rows ≡ true → list_all p (written_to others s).rows ≡ true → list_all p (written_to others then).rows ≡ true
    admitted_then before alone =
        let new = written_pass p (writes_to s.table.name others) (entries_of s.table s.rows) (by_key others s.table.name sorted) (each_passes p (entries_under (entries_of s.table s.rows) others s.table.name) alone) in
        let old = each_passes p (entries_of s.table then.rows) (subst (λ (rows : List (List Value)). list_all p rows ≡ true) (sym (again then.rows)) before) in
        all_pass p ends (fold_keeps (Passes p) (writes_to s.table.name others) (entries_of s.table then.rows) old new)
      where
        again : (rows : List (List Value)) → map (λ (e : Entry). e.1) (entries_of s.table rows) ≡ rows
        again [] = refl
        again (row ∷ rows) = ap (λ (rs : List (List Value)). row ∷ rs) (again rows)

  -- ALL TABLES
  abbrev are_admitted : Stored → Bool
  are_admitted s = list_all (is_admitted s.table) s.rows

  each_stands : (ss : List Stored) → AllByRecursion (Stands writes) ss → AllByRecursion (Stands others) ss → list_all is_keyed (map (written_to writes) ss) ≡ true
      → AllByRecursion (Stands others) (map (written_to writes) ss)
  each_stands [] mine its keyed = tt
  each_stands (s ∷ ss) mine its keyed =
      let parts = and_parts (is_keyed (written_to writes s)) (list_all is_keyed (map (written_to writes) ss)) keyed in
      (stands_then s mine.0 its.0 parts.0, each_stands ss mine.1 its.1 parts.1)

  each_keyed : (ss : List Stored) → AllByRecursion (Stands writes) ss → AllByRecursion (Stands others) ss → list_all is_keyed (map (written_to writes) ss) ≡ true
      → list_all is_keyed (map (written_to others) (map (written_to writes) ss)) ≡ true
  each_keyed [] mine its keyed = refl
  each_keyed (s ∷ ss) mine its keyed =
      let parts = and_parts (is_keyed (written_to writes s)) (list_all is_keyed (map (written_to writes) ss)) keyed in
      and_from _ _ (keyed_then s mine.0 its.0 parts.0) (each_keyed ss mine.1 its.1 parts.1)

  each_admitted : (ss : List Stored) → AllByRecursion (Stands writes) ss → AllByRecursion (Stands others) ss → list_all is_keyed (map (written_to writes) ss) ≡ true
      → list_all are_admitted (map (written_to writes) ss) ≡ true → list_all are_admitted (map (written_to others) ss) ≡ true → list_all are_admitted (map (written_to others) (map (written_to writes) ss)) ≡ true
  each_admitted [] mine its keyed before alone = refl
  each_admitted (s ∷ ss) mine its keyed before alone =
      let parts = and_parts (is_keyed (written_to writes s)) (list_all is_keyed (map (written_to writes) ss)) keyed in
      let one = and_parts (are_admitted (written_to writes s)) (list_all are_admitted (map (written_to writes) ss)) before in
      let two = and_parts (are_admitted (written_to others s)) (list_all are_admitted (map (written_to others) ss)) alone in
      and_from _ _ (admitted_then s mine.0 its.0 parts.0 one.0 two.0) (each_admitted ss mine.1 its.1 parts.1 one.1 two.1)

-- BOTH OPEN
pub open_behind : (db : Database) (writes others : List Write) → IsOpen db writes → IsOpen db others → IsOpen (committed db writes) others
open_behind db writes others mine its =
    let now = committed db writes in
    let stand = by_recursion (Stands writes) db.tables mine.own_keys in
    let theirs = by_recursion (Stands others) db.tables its.own_keys in
    record {
      database = record {
        tables_by_name = ap (rises name_cmp) (map-map (λ (s : Stored). s.table.name) (written_to others) now.tables) ∙ mine.database.tables_by_name;
        indexes_by_name = mine.database.indexes_by_name;
        rows_by_key = each_keyed writes others its.by_table_key db.tables stand theirs mine.database.rows_by_key;
        rows_admitted = each_admitted writes others its.by_table_key db.tables stand theirs mine.database.rows_by_key mine.database.rows_admitted its.database.rows_admitted;
        keys_within = list_all-map (λ (s : Stored). is_within s.table s.table.key) (written_to others) now.tables ∙ mine.database.keys_within;
        indexes_on_tables =
            all_so (is_on_table now) (is_on_table (committed now others))
            (λ index on. list_any-map (λ (s : Stored). same_name s.table.name index.table && is_within s.table index.columns) (written_to others) now.tables ∙ on) now.indexes mine.database.indexes_on_tables;
      };
      by_table_key = its.by_table_key;
      own_keys = each (Stands others) now.tables (each_stands writes others its.by_table_key db.tables stand theirs mine.database.rows_by_key);
    }
