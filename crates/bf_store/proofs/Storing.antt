-- The calls that change a store keep it one.
use Rattle.std.proofs.Common.{◌≡◌, ℕ, ◌+◌, true, false, List, [], ◌∷◌, map, Option, None, Some, ◌<◌, is_some, refl, sym, ◌∙◌}
use Rattle.std.specs.Prelude.{◌^◌, IsTrue, SomeIff}
use Rattle.std.specs.List.{list_all}
use Rattle.std.specs.Ordering.{eq_by_cmp}
use Rattle.std.proofs.lemmas.Bool.{and_from, and_parts, not-true}
use Rattle.std.proofs.lemmas.List.Folds.{list_all-map}
use Rattle.std.proofs.lemmas.Option.{same_Some}
use Rattle.bf_base.specs.declared.table.Table.{Table}
use Rattle.bf_base.specs.declared.value.Value.{Value}
use Rattle.bf_base.specs.Lists.{in_order, name_cmp}
use Rattle.bf_base.proofs.Apart.{apart_from_rises, are_apart, are_apart-same_items, with_placed-items}
use Rattle.bf_base.proofs.Items.{mapped}
use Rattle.bf_base.proofs.Names.{name_cmp_total}
use Rattle.bf_base.proofs.Order.{list_all-with_placed}
use Rattle.bf_tree.specs.Limits.{HasNarrowTables, is_narrow}
use Rattle.bf_txn.specs.declared.write.Write.{Write}
use Rattle.bf_sql.specs.Bound.{catalog_of}
use Rattle.bf_sql.specs.Database.{Database, IsDatabase, Stored, stored_at, stored_in_order, with_tables}
use Rattle.bf_sql.specs.Meaning.{next_number}
use Rattle.bf_live.specs.Live.{committed}
use Rattle.bf_live.proofs.statements.Seeing.{narrow_seen}
use Rattle.bf_store.specs.States.{IsOpenLazily}
use Rattle.bf_store.specs.Stores.{IsStore, lazy_seen}
use Rattle.bf_store.specs.declared.under_way.UnderWay.{UnderWay}
use Rattle.bf_store.proofs.Calls.{commit_seen}
use Rattle.bf_store.proofs.changing.Changing.{with_new_table}
use Rattle.bf_store.proofs.coming.Found.{has-stored_at, name_of}

pub commit_keeps_store : (live : Database) (last : Option UnderWay) (records : ℕ) (writes : List Write) → IsStore live last records
    → IsOpenLazily (lazy_seen live last records) writes → IsStore (committed live writes) last (records + 1)
commit_keeps_store live last records writes is opened = record {
  lazy_state = (commit_seen (lazy_seen live last records) writes is.lazy_state opened).lazy_state;
  narrow = narrow_seen live writes is.narrow;
  counted = is.counted;
}

-- a name is new where its table makes a database
new_name : (live : Database) (table : Table) → IsDatabase (next_number (with_tables (stored_in_order table [] ∷ []) live)) → is_some (stored_at live table.name) ≡ false
new_name live table database =
    let new = stored_in_order table [] in
    let apart : are_apart (eq_by_cmp name_cmp) (map name_of (new ∷ live.tables)) ≡ true =
    are_apart-same_items name_cmp_total (mapped name_of (with_placed-items name_cmp_total name_of [] (new ∷ live.tables)))
    ∙ apart_from_rises name_cmp_total (map name_of (in_order name_cmp name_of (new ∷ live.tables))) database.tables_by_name in
    sym (has-stored_at live table.name) ∙ not-true _ (and_parts _ _ apart).0

pub table_keeps_store : (live : Database) (last : Option UnderWay) (records : ℕ) (table : Table) → IsStore live last records → IsTrue (is_narrow table)
    → IsDatabase (next_number (with_tables (stored_in_order table [] ∷ []) live)) → IsStore (next_number (with_tables (stored_in_order table [] ∷ []) live)) last (records + 1)
table_keeps_store live last records table is narrow database =
    let then_lazy = (with_new_table (lazy_seen live last records) is.lazy_state table (new_name live table database) database).lazy_state in
    let new = stored_in_order table [] in
    record {
      lazy_state = record { live = then_lazy.live; last = then_lazy.last; valid = then_lazy.valid };
      narrow =
          list_all-map is_narrow (λ (s : Stored). s.table) (in_order name_cmp name_of (new ∷ live.tables))
          ∙ list_all-with_placed name_cmp_total name_of (λ s. is_narrow s.table) [] (new ∷ live.tables)
          ∙ and_from _ _ narrow (sym (list_all-map is_narrow (λ (s : Stored). s.table) live.tables) ∙ is.narrow);
      counted = is.counted;
    }

-- a number that was counted on
pub one_more : (o : Option ℕ) (n records : ℕ) → SomeIff o (records + 1 < 2 ^ 64) (records + 1) → o ≡ Some n → n ≡ records + 1
one_more None n records sum is = absurd cc
one_more (Some m) n records sum is = same_Some n m (sym is) ∙ sum.1

-- before any migration
always_on_time : (ss : List Stored) → list_all (λ (s : Stored). list_all (λ row. true) s.rows) ss ≡ true
always_on_time [] = refl
always_on_time (s ∷ ss) = and_from _ _ (rows s.rows) (always_on_time ss)
  where
    rows : (rs : List (List Value)) → list_all (λ row. true) rs ≡ true
    rows [] = refl
    rows (r ∷ rs) = rows rs

pub first_store : (live : Database) → IsDatabase live → HasNarrowTables (catalog_of live) → IsStore live None 0
first_store live database narrow = record {
  lazy_state = record { live = database; last = tt; valid = always_on_time live.tables };
  narrow = narrow;
  counted = tt;
}
