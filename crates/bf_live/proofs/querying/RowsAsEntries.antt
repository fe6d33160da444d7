-- The rows of a database as entries, each under its own key.
use Rattle.std.proofs.Common.{◌≡◌, true, List, [], ◌∷◌, map, Some, refl, ap, ◌∙◌, arith}
use Rattle.std.specs.List.{list_all}
use Rattle.std.proofs.lemmas.Bool.{and_parts}
use Rattle.bf_base.specs.declared.value.Value.{Value}
use Rattle.bf_base.specs.declared.table.Table.{Table}
use Rattle.bf_base.specs.Tables.{key_of}
use Rattle.bf_base.specs.Lists.{rises}
use Rattle.bf_base.specs.Values.{key_cmp}
use Rattle.bf_heap.specs.Heaps.{Entry, key_of_entry}
use Rattle.bf_sql.specs.Database.{Database, IsDatabase, is_admitted, is_within, stored_at, table_rows}
use Rattle.bf_live.specs.Merged.{HasOwnKey}
use Rattle.bf_live.specs.Meanings.{HoldRowsOf, entries_of}
use Rattle.bf_live.proofs.querying.Binding.{as_stored, key_within, rows_keyed, rows_admitted, row_within}
use Rattle.bf_live.proofs.querying.Merging.{rows_of}
use Rattle.bf_live.proofs.querying.OwnKeys.{OwnKeys, each}

module _ (table : Table) where
  keys_are : (rows : List (List Value)) → map key_of_entry (entries_of table rows) ≡ map (key_of table) rows
  keys_are [] = refl
  keys_are (row ∷ rows) = ap (λ ks. key_of table row ∷ ks) (keys_are rows)

  pub rows_are : (rows : List (List Value)) → rows_of (entries_of table rows) ≡ rows
  rows_are [] = refl
  rows_are (row ∷ rows) = ap (λ rs. row ∷ rs) (rows_are rows)

  own : is_within table table.key ≡ true → (rows : List (List Value)) → list_all (is_admitted table) rows ≡ true → OwnKeys table (entries_of table rows)
  own all [] admitted = tt
  own all (row ∷ rows) admitted =
      let parts = and_parts (is_admitted table row) (list_all (is_admitted table) rows) admitted in
      ((row_within table all row parts.0, refl), own all rows parts.1)

pub hold_rows : (db : Database) (table : Table) → IsDatabase db → stored_at db table.name ≡ Some (as_stored table (table_rows db table.name)) → HoldRowsOf db table (entries_of table (table_rows db table.name)) []
hold_rows db table database stored =
    let rows = table_rows db table.name in
    record {
      entries_by_key = ap (rises key_cmp) (keys_are table rows) ∙ rows_keyed db database table rows stored;
      writes_by_table_key = refl;
      under_own_keys = record {
        heap = each (λ (e : Entry). HasOwnKey table e.0 e.1) (entries_of table rows) (own table (key_within db database table rows stored) rows (rows_admitted db database table rows stored));
        workspace = λ k d below. absurd (omega arith);
      };
      rows = rows_are table rows;
    }
