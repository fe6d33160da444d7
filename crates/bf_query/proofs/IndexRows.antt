-- The rows that satisfy a condition are among those with the value that it fixes an index's columns to.
use Rattle.std.proofs.Common.{◌≡◌, ℕ, Bool, true, List, [], ◌∷◌, filter, fold, sym, ap, ap₂, ◌∙◌, is_eq}
use Rattle.std.specs.List.{AllByRecursion}
use Rattle.std.proofs.lemmas.Cmp.{tied_itself}
use Rattle.bf_base.specs.declared.table.Table.{Table}
use Rattle.bf_base.specs.Lists.{same_key}
use Rattle.bf_base.specs.Maps.{is_map}
use Rattle.bf_base.specs.Tables.{cell, cells}
use Rattle.bf_base.specs.Values.{key_cmp, key_cmp_total}
use Rattle.bf_base.proofs.Apart.{rises-filter}
use Rattle.bf_heap.specs.Heaps.{Entry, key_of_entry}
use Rattle.bf_tree.specs.Evaluation.{holds_on}
use Rattle.bf_tree.specs.Trees.{Cond}
use Rattle.bf_sql.specs.Queries.{selected}
use Rattle.bf_txn.specs.declared.write.Write.{Write}
use Rattle.bf_txn.specs.Writes.{KeyWrite, key_writes_to, writes_to}
use Rattle.bf_access.specs.ByIndex.{all_fixed, entries_with, fixed_value}
use Rattle.bf_live.specs.Merged.{applied, rows_ahead, rows_under, HasOwnKey, StandUnderOwnKeys}
use Rattle.bf_query.proofs.Chosen.{chosen-filter, chosen_rows}
use Rattle.bf_live.proofs.querying.Merging.{rows_of, without_name}
use Rattle.bf_live.proofs.querying.OwnKeys.{OwnKeys, by_recursion, each, filtered, weakened}
use Rattle.bf_query.proofs.RangeRows.{in_range, kept-named, range_selected}
use Rattle.bf_query.proofs.Restricting.{kept, kept_writes}
use Rattle.bf_access.proofs.FixedValue.{value_held}
use Rattle.bf_access.proofs.Within.{key_within}

module _ (c : Cond ℕ) where
  module _ (columns : List ℕ) (fixed : all_fixed c columns ≡ true) where
    abbrev has_value : Entry → Bool
    has_value e = same_key (cells columns e.1) (fixed_value c columns)

    all_have : (entries : List Entry) → AllByRecursion (λ e. holds_on (cell e.1) c ≡ true → has_value e ≡ true) entries
    all_have [] = tt
    all_have (e ∷ es) = ((λ h. ap (λ key. same_key key (fixed_value c columns)) (value_held c columns e.1 fixed h) ∙ ap is_eq (tied_itself key_cmp_total (fixed_value c columns))), all_have es)

    pub with_in_order : (entries : List Entry) → is_map key_cmp key_of_entry entries ≡ true → is_map key_cmp key_of_entry (entries_with columns (fixed_value c columns) entries) ≡ true
    with_in_order entries in_order = rises-filter key_cmp_total key_of_entry has_value entries in_order

    -- so what it selects under writes is selected of the rows that have the value
    pub value_selected : (entries : List Entry) (writes : List Write) → is_map key_cmp key_of_entry entries ≡ true → selected cell c (rows_of (fold applied (entries_with columns (fixed_value c columns) entries) writes)) ≡ selected cell c (rows_of (fold applied entries writes))
    value_selected entries writes in_order =
        chosen_rows (λ row. holds_on (cell row) c) writes (entries_with columns (fixed_value c columns) entries) entries (with_in_order entries in_order) in_order
        (chosen-filter (λ row. holds_on (cell row) c) has_value entries (all_have entries))

    -- and a pass over those rows and the writes in the range of keys selects all
    pub index_ahead : (table : Table) (entries some : List Entry) (writes : List Write) (noted : List KeyWrite) → is_map key_cmp key_of_entry entries ≡ true → StandUnderOwnKeys table entries writes
        → some ≡ entries_with columns (fixed_value c columns) entries → noted ≡ filter (λ (w : KeyWrite). in_range table c w.0) (key_writes_to table.name writes)
        → selected cell c (rows_ahead some noted) ≡ selected cell c (rows_under entries writes table.name)
    index_ahead table entries some writes noted in_order stand some_is noted_is =
        let with = entries_with columns (fixed_value c columns) entries in
        let ws = kept_writes (in_range table c) (writes_to table.name writes) in
        let with_order = with_in_order entries in_order in
        let own : OwnKeys table with = filtered (λ (e : Entry). HasOwnKey table e.0 e.1) has_value entries (by_recursion (λ (e : Entry). HasOwnKey table e.0 e.1) entries stand.heap) in
        let with_stand : StandUnderOwnKeys table with writes = record { heap = each (λ (e : Entry). HasOwnKey table e.0 e.1) with own; workspace = stand.workspace } in
        let inside = weakened (λ (e : Entry). HasOwnKey table e.0 e.1) (λ (e : Entry). holds_on (cell e.1) c ≡ true → in_range table c e.0 ≡ true) (λ e own h. sym (ap (in_range table c) own.1) ∙ key_within table c e.1 h) with own in
        let kept_order = rises-filter key_cmp_total key_of_entry (λ (e : Entry). in_range table c e.0) with with_order in
        ap₂ (λ (es : List Entry) (ws : List KeyWrite). selected cell c (rows_ahead es ws)) some_is (noted_is ∙ kept-named table c (writes_to table.name writes))
        ∙ ap (λ (es : List Entry). selected cell c (rows_of es)) (without_name with ws)
        ∙ chosen_rows (λ row. holds_on (cell row) c) ws with (kept (in_range table c) with) with_order kept_order (sym (chosen-filter (λ row. holds_on (cell row) c) (λ e. in_range table c e.0) with inside))
        ∙ range_selected table c with writes with_order with_stand
        ∙ value_selected entries (writes_to table.name writes) in_order
