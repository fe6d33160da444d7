-- What the writes of a statement make of the rows of their table, and of other tables.
use Rattle.std.proofs.Common.{◌≡◌, ℕ, Bool, true, false, not, cond, if◌then◌else◌, List, [], ◌∷◌, ◌++◌, map, filter, fold, Ordering, Less, Equal, Greater, Option, Some, None, option_map, unwrap_or, refl, sym, ap, subst, ◌∙◌, inl, inr, is_lt, is_eq}
use Rattle.std.specs.Prelude.{flat_map}
use Rattle.std.specs.List.{All, AllByRecursion}
use Rattle.std.specs.Option.{option_to_list}
use Rattle.std.specs.Ordering.{ordering_then}
use Rattle.std.proofs.lemmas.Bool.{and_parts, and_from, or_parts, cases_Bool}
use Rattle.std.proofs.lemmas.Cmp.{tied_itself}
use Rattle.std.proofs.lemmas.Grind.{fold-append}
use Rattle.bf_base.specs.declared.value.Value.{Value}
use Rattle.bf_base.specs.declared.table.Table.{Table}
use Rattle.bf_base.specs.Lists.{has, name_cmp, same_key, same_name, placed, with_placed, with_before_from, when}
use Rattle.bf_base.specs.Maps.{is_map, entry_at, beside}
use Rattle.bf_base.specs.Tables.{key_of, IsKeyWithin}
use Rattle.bf_base.specs.Values.{key_cmp, key_cmp_total, key_cmp-IsAntisymmetric}
use Rattle.bf_base.proofs.Maps.{entry_at-with_entry, is_map-with_entry, without_key-none}
use Rattle.bf_base.proofs.Names.{name_cmp_total}
use Rattle.bf_base.proofs.Order.{less_from_test, equal_from_test, turned_less, rises_skip, rises_tail, same_from_look_ups, has-with_placed}
use Rattle.bf_base.proofs.Ties.{name_ties}
use Rattle.bf_heap.specs.Heaps.{Entry, key_of_entry, row_under, with_row}
use Rattle.bf_sql.specs.RowObjections.{insert_objections, unfit_row_objections}
use Rattle.bf_txn.specs.declared.write.Write.{Write}
use Rattle.bf_txn.specs.Writes.{TableKey, table_key_cmp, table_key_of, written_at, writes_to, with_write, AreWrites}
use Rattle.bf_txn.proofs.Tables.{table_key_cmp_total}
use Rattle.bf_live.specs.Replies.{write_of}
use Rattle.bf_live.specs.Merged.{changed_by, applied, entries_under, rows_under, HasOwnKey, StandUnderOwnKeys}
use Rattle.bf_live.proofs.querying.Keyed.{row_under-applied, row_under-entries_under, is_map-fold}
use Rattle.bf_live.proofs.querying.Merging.{write_keys, rows_of, all_behind}
use Rattle.bf_index.proofs.Rising.{RisesFrom, keys_of}
use Rattle.bf_live.proofs.querying.OwnKeys.{OwnKeys, own_keys, with_one_more, by_recursion}
use Rattle.bf_live.proofs.querying.Inserting.{objections_to}

-- entries in order that have the same rows under the same keys are equal
entry_from_row : (entries : List Entry) (key : List Value) → entry_at key_cmp key_of_entry entries key ≡ option_map (λ row. (key, row)) (row_under entries key)
entry_from_row [] key = refl
entry_from_row (e ∷ entries) key = elim (cases_Bool (is_eq (key_cmp e.0 key))) [
  | inl tied ↦
      let same : e.0 ≡ key = key_cmp-IsAntisymmetric e.0 key (equal_from_test _ tied) in
      rw tied (ap (λ (k : List Value). Some (k, e.1)) same)
  | inr apart ↦ rw apart (entry_from_row entries key)
]

same_entries : (a b : List Entry) → is_map key_cmp key_of_entry a ≡ true → is_map key_cmp key_of_entry b ≡ true → ((key : List Value) → row_under a key ≡ row_under b key) → a ≡ b
same_entries a b in_a in_b same =
    same_from_look_ups key_cmp_total key_of_entry a b in_a in_b (λ key. entry_from_row a key ∙ ap (option_map (λ (row : List Value). (key, row))) (same key) ∙ sym (entry_from_row b key))

-- what is written at a place after a write
written_at-with_write : (writes : List Write) (w : Write) (spot : TableKey) → written_at (with_write writes w) spot ≡ cond (is_eq (table_key_cmp (table_key_of w) spot)) (Some w.row) (written_at writes spot)
written_at-with_write writes w spot =
    ap (option_map (λ (w : Write). w.row)) (entry_at-with_entry table_key_cmp_total table_key_of writes w spot)
    ∙ elim (is_eq (table_key_cmp (table_key_of w) spot)) as (λ b. option_map (λ (w : Write). w.row) (cond b (Some w) (entry_at table_key_cmp table_key_of writes spot)) ≡ cond b (Some w.row) (written_at writes spot)) [ true ↦ refl | false ↦ refl ]

-- the entries under one more write to their table
under_one_more : (entries : List Entry) (writes : List Write) (w : Write) → is_map key_cmp key_of_entry entries ≡ true → AreWrites writes
    → entries_under entries (with_write writes w) w.table ≡ applied (entries_under entries writes w.table) w
under_one_more entries writes w in_order sorted =
    let under = entries_under entries writes w.table in
    let sorted' : AreWrites (with_write writes w) = is_map-with_entry table_key_cmp_total table_key_of writes w sorted in
    same_entries (entries_under entries (with_write writes w) w.table) (applied under w)
    (is_map-fold (writes_to w.table (with_write writes w)) entries in_order)
    (is_map-fold (w ∷ []) under (is_map-fold (writes_to w.table writes) entries in_order))
    (λ key.
    row_under-entries_under entries (with_write writes w) w.table key sorted'
    ∙ ap (λ (found : Option (Option (List Value))). unwrap_or found (row_under entries key)) (written_at-with_write writes w (w.table, key))
    ∙ ap (λ r. unwrap_or (cond (is_eq (ordering_then r (key_cmp w.key key))) (Some w.row) (written_at writes (w.table, key))) (row_under entries key)) (tied_itself name_cmp_total w.table)
    ∙ unwrapped (is_eq (key_cmp w.key key)) w.row (written_at writes (w.table, key)) (row_under entries key)
    ∙ ap (cond (is_eq (key_cmp w.key key)) w.row) (sym (row_under-entries_under entries writes w.table key sorted))
    ∙ sym (row_under-applied under w key))
  where
    unwrapped : (b : Bool) (row : Option (List Value)) (found : Option (Option (List Value))) (else_row : Option (List Value)) → unwrap_or (cond b (Some row) found) else_row ≡ cond b row (unwrap_or found else_row)
    unwrapped true row found else_row = refl
    unwrapped false row found else_row = refl

abbrev pub AreTo : List ℕ → List Write → Type 0
AreTo table writes = AllByRecursion (λ w. w.table ≡ table) writes

pub sorted_with_all : (writes more : List Write) → AreWrites writes → AreWrites (fold with_write writes more)
sorted_with_all writes [] sorted = sorted
sorted_with_all writes (w ∷ more) sorted = sorted_with_all (with_write writes w) more (is_map-with_entry table_key_cmp_total table_key_of writes w sorted)

-- and under several
under_more : (entries : List Entry) (writes more : List Write) (table : List ℕ) → is_map key_cmp key_of_entry entries ≡ true → AreWrites writes → AreTo table more
    → entries_under entries (fold with_write writes more) table ≡ fold applied (entries_under entries writes table) more
under_more entries writes [] table in_order sorted to = refl
under_more entries writes (w ∷ more) table in_order sorted to =
    let step : entries_under entries (with_write writes w) table ≡ applied (entries_under entries writes table) w =
    subst (λ name. entries_under entries (with_write writes w) name ≡ applied (entries_under entries writes name) w) to.0 (under_one_more entries writes w in_order sorted) in
    under_more entries (with_write writes w) more table in_order (is_map-with_entry table_key_cmp_total table_key_of writes w sorted) to.1
    ∙ ap (λ (now : List Entry). fold applied now more) step

-- a table that is not written to has its writes
not_written : (writes : List Write) (w : Write) (table : List ℕ) → same_name w.table table ≡ false → writes_to table (with_write writes w) ≡ writes_to table writes
not_written [] w table other = rw other refl
not_written (v ∷ writes) w table other =
    elim (table_key_cmp (table_key_of w) (table_key_of v)) as (λ r. table_key_cmp (table_key_of w) (table_key_of v) ≡ r → writes_to table (beside r v writes w (with_write writes w)) ≡ writes_to table (v ∷ writes)) [
      | Less ↦ λ e. rw other refl
      | Equal ↦ λ e.
          let same : w.table ≡ v.table = (name_ties w.table v.table).0 (first_tied (name_cmp w.table v.table) (key_cmp w.key v.key) e) in
          let other' : same_name v.table table ≡ false = ap (λ (name : List ℕ). same_name name table) (sym same) ∙ other in
          rw (other, other') refl
      | Greater ↦ λ e.
          elim (same_name v.table table) as (λ b. cond b (v ∷ writes_to table (with_write writes w)) (writes_to table (with_write writes w)) ≡ cond b (v ∷ writes_to table writes) (writes_to table writes)) [
            | true ↦ ap (λ (ws : List Write). v ∷ ws) (not_written writes w table other)
            | false ↦ not_written writes w table other
          ]
    ] refl
  where
    first_tied : (r s : Ordering) → ordering_then r s ≡ Equal → r ≡ Equal
    first_tied Less s e = e
    first_tied Equal s e = refl
    first_tied Greater s e = e

pub others_stay : (entries : List Entry) (writes more : List Write) (table other : List ℕ) → AreTo table more → same_name table other ≡ false → rows_under entries (fold with_write writes more) other ≡ rows_under entries writes other
others_stay entries writes [] table other to apart = refl
others_stay entries writes (w ∷ more) table other to apart =
    let apart' : same_name w.table other ≡ false = ap (λ (name : List ℕ). same_name name other) to.0 ∙ apart in
    others_stay entries (with_write writes w) more table other to.1 apart ∙ ap (λ (ws : List Write). rows_of (fold applied entries ws)) (not_written writes w other apart')

nothing_at : (key : List Value) (entries : List Entry) → RisesFrom key (keys_of entries) → entry_at key_cmp key_of_entry entries key ≡ None
nothing_at key [] h = refl
nothing_at key (e ∷ entries) h = rw (turned_less key_cmp_total key e.0 (less_from_test _ (and_parts _ _ h).0)) (nothing_at key entries (rises_skip key_cmp_total key e.0 (keys_of entries) h))

-- writes to the entries that a test selects, each under its own key
module _ (table : Table) (test : List Value → Bool) (new : List Value → Option (List Value)) where
  abbrev pub write_for : List Value → Write
  write_for row = write_of table (key_of table row) (new row)

  abbrev pub remade : List Entry → List Entry
  remade [] = []
  remade (e ∷ entries) = if test e.1 then option_to_list (option_map (λ row. (e.0, row)) (new e.1)) ++ remade entries else e ∷ remade entries

  keys_rise : (key : List Value) (entries : List Entry) → OwnKeys table entries → RisesFrom key (keys_of entries) → RisesFrom key (write_keys (map write_for (filter test (rows_of entries))))
  keys_rise key [] own h = refl
  keys_rise key (e ∷ entries) own h = elim (test e.1) as (λ b. RisesFrom key (write_keys (map write_for (cond b (e.1 ∷ filter test (rows_of entries)) (filter test (rows_of entries)))))) [
    | true ↦
        let less : is_lt (key_cmp key (key_of table e.1)) ≡ true = ap (λ (k : List Value). is_lt (key_cmp key k)) own.0.1 ∙ (and_parts _ _ h).0 in
        let from : RisesFrom (key_of table e.1) (keys_of entries) = subst (λ k. RisesFrom k (keys_of entries)) (sym own.0.1) (and_parts _ _ h).1 in
        and_from _ _ less (keys_rise (key_of table e.1) entries own.1 from)
    | false ↦ keys_rise key entries own.1 (rises_skip key_cmp_total key e.0 (keys_of entries) h)
  ]

  pub remade_is : (entries : List Entry) → is_map key_cmp key_of_entry entries ≡ true → OwnKeys table entries → fold applied entries (map write_for (filter test (rows_of entries))) ≡ remade entries
  remade_is [] in_order own = refl
  remade_is (e ∷ entries) in_order own =
      let rest = remade_is entries (rises_tail key_cmp_total e.0 (keys_of entries) in_order) own.1 in
      let behind = keys_rise e.0 entries own.1 in_order in
      elim (test e.1) as (λ b. fold applied (e ∷ entries) (map write_for (cond b (e.1 ∷ filter test (rows_of entries)) (filter test (rows_of entries)))) ≡ (if b then option_to_list (option_map (λ row. (e.0, row)) (new e.1)) ++ remade entries else e ∷ remade entries)) [
        | true ↦
            ap (λ (k : List Value). fold applied (changed_by (new e.1) k (e ∷ entries)) (map write_for (filter test (rows_of entries)))) own.0.1
            ∙ elim (new e.1) as (λ r. fold applied (changed_by r e.0 (e ∷ entries)) (map write_for (filter test (rows_of entries))) ≡ option_to_list (option_map (λ row. (e.0, row)) r) ++ remade entries) [
              | None ↦
                  let gone = without_key-none key_cmp_total key_of_entry entries e.0 (nothing_at e.0 entries in_order) in
                  rw (tied_itself key_cmp_total e.0, gone) rest
              | Some row ↦ rw (tied_itself key_cmp_total e.0) (all_behind (λ (w : Write). w.key) (λ (w : Write). w.row) (e.0, row) entries _ behind ∙ ap (λ (es : List Entry). (e.0, row) ∷ es) rest)
            ]
        | false ↦ all_behind (λ (w : Write). w.key) (λ (w : Write). w.row) e entries _ behind ∙ ap (λ (es : List Entry). e ∷ es) rest
      ]

  -- and to all writes alike
  pub written_are : (rows : List (List Value)) → AreTo table.name (map write_for rows)
  written_are [] = tt
  written_are (row ∷ rows) = (refl, written_are rows)

  -- so the rows of the table are remade
  pub rows_remade : (entries : List Entry) (writes : List Write) → is_map key_cmp key_of_entry entries ≡ true → AreWrites writes → StandUnderOwnKeys table entries writes
      → rows_under entries (fold with_write writes (map write_for (filter test (rows_under entries writes table.name)))) table.name ≡ rows_of (remade (entries_under entries writes table.name))
  rows_remade entries writes in_order sorted stand =
      let under = entries_under entries writes table.name in
      ap rows_of (under_more entries writes (map write_for (filter test (rows_of under))) table.name in_order sorted (written_are (filter test (rows_of under)))
      ∙ remade_is under (is_map-fold (writes_to table.name writes) entries in_order) (own_keys table entries writes stand))

pub remade-changed : (table : Table) (test : List Value → Bool) (change : List Value → List Value) (entries : List Entry) → rows_of (remade table test (λ row. Some (change row)) entries) ≡ map (λ row. if test row then change row else row) (rows_of entries)
remade-changed table test change [] = refl
remade-changed table test change (e ∷ entries) =
    let rest = remade-changed table test change entries in
    elim (test e.1) as (λ b. rows_of (if b then (e.0, change e.1) ∷ remade table test (λ row. Some (change row)) entries else e ∷ remade table test (λ row. Some (change row)) entries)
    ≡ (if b then change e.1 else e.1) ∷ map (λ row. if test row then change row else row) (rows_of entries)) [
      | true ↦ ap (λ rs. change e.1 ∷ rs) rest
      | false ↦ ap (λ rs. e.1 ∷ rs) rest
    ]

pub remade-removed : (table : Table) (test : List Value → Bool) (entries : List Entry) → rows_of (remade table test (λ row. None) entries) ≡ filter (λ row. not (test row)) (rows_of entries)
remade-removed table test [] = refl
remade-removed table test (e ∷ entries) =
    let rest = remade-removed table test entries in
    elim (test e.1) as (λ b. rows_of (if b then remade table test (λ row. None) entries else e ∷ remade table test (λ row. None) entries)
    ≡ cond (not b) (e.1 ∷ filter (λ row. not (test row)) (rows_of entries)) (filter (λ row. not (test row)) (rows_of entries))) [
      | true ↦ rest
      | false ↦ ap (λ rs. e.1 ∷ rs) rest
    ]

-- a tuple with a new key is placed among the rows
placed_is : (table : Table) (tuple : List Value) (entries : List Entry) → OwnKeys table entries → has same_key (map (key_of table) (rows_of entries)) (key_of table tuple) ≡ false
    → rows_of (with_row entries (key_of table tuple) tuple) ≡ placed key_cmp (key_of table) (rows_of entries) tuple
placed_is table tuple [] own new = refl
placed_is table tuple (e ∷ entries) own new =
    let key = key_of table tuple in
    let parts = or_parts _ _ new in
    let rest = placed_is table tuple entries own.1 parts.1 in
    let apart : is_eq (key_cmp key e.0) ≡ false = ap (λ (k : List Value). is_eq (key_cmp key k)) (sym own.0.1) ∙ parts.0 in
    elim (key_cmp key e.0) as (λ r. is_eq r ≡ false → rows_of (beside r e entries (key, tuple) (with_row entries key tuple)) ≡ (if is_lt r then tuple ∷ e.1 ∷ rows_of entries else e.1 ∷ placed key_cmp (key_of table) (rows_of entries) tuple)) [
      | Less ↦ λ a. refl
      | Equal ↦ λ a. absurd cc
      | Greater ↦ λ a. ap (λ (rs : List (List Value)). e.1 ∷ rs) rest
    ] apart
    ∙ ap (λ (k : List Value). if is_lt (key_cmp key k) then tuple ∷ e.1 ∷ rows_of entries else e.1 ∷ placed key_cmp (key_of table) (rows_of entries) tuple) (sym own.0.1)

pub nothing_before : {X : Type 0} (xs ys : List X) → xs ++ ys ≡ [] → (xs ≡ []) × (ys ≡ [])
nothing_before [] ys e = (refl, e)
nothing_before (x ∷ xs) ys e = absurd cc

pub not_when : {X : Type 0} (b : Bool) (x : X) → when b x ≡ [] → b ≡ false
not_when false x e = refl
not_when true x e = absurd cc

module _ (table : Table) where
  abbrev pub tuple_write : List Value → Write
  tuple_write tuple = write_of table (key_of table tuple) (Some tuple)

  placed_all : (rows seen tuples : List (List Value)) (entries : List Entry) → OwnKeys table entries → rows_of entries ≡ with_placed key_cmp (key_of table) rows seen → AllByRecursion (IsKeyWithin table) tuples
      → flat_map (objections_to table rows) (with_before_from seen tuples) ≡ [] → rows_of (fold applied entries (map tuple_write tuples)) ≡ with_placed key_cmp (key_of table) (rows_of entries) tuples
  placed_all rows seen [] entries own is within none = refl
  placed_all rows seen (t ∷ tuples) entries own is within none =
      let key = key_of table t in
      let parts = nothing_before (objections_to table rows (seen, t)) _ none in
      let free = not_when _ _ (nothing_before (unfit_row_objections table t) _ parts.0).1 in
      let new : has same_key (map (key_of table) (rows_of entries)) key ≡ false =
      ap (λ (rs : List (List Value)). has same_key (map (key_of table) rs) key) is ∙ has-with_placed key_cmp_total (key_of table) rows seen key ∙ free in
      let step = placed_is table t entries own new in
      let own' = with_one_more key_cmp key_of_entry (λ e. HasOwnKey table e.0 e.1) entries (key, t) own (within.0, refl) in
      let is' = step ∙ ap (λ (rs : List (List Value)). placed key_cmp (key_of table) rs t) is ∙ sym (fold-append (placed key_cmp (key_of table)) rows seen (t ∷ [])) in
      placed_all rows (seen ++ t ∷ []) tuples (with_row entries key t) own' is' within.1 parts.1
      ∙ ap (λ (rs : List (List Value)). with_placed key_cmp (key_of table) rs tuples) step

  tuples_to : (tuples : List (List Value)) → AreTo table.name (map tuple_write tuples)
  tuples_to [] = tt
  tuples_to (t ∷ tuples) = (refl, tuples_to tuples)

  pub rows_placed : (entries : List Entry) (writes : List Write) (tuples : List (List Value)) → is_map key_cmp key_of_entry entries ≡ true → AreWrites writes → StandUnderOwnKeys table entries writes → All (IsKeyWithin table) tuples
      → insert_objections table (rows_under entries writes table.name) tuples ≡ []
      → rows_under entries (fold with_write writes (map tuple_write tuples)) table.name ≡ with_placed key_cmp (key_of table) (rows_under entries writes table.name) tuples
  rows_placed entries writes tuples in_order sorted stand within none =
      let under = entries_under entries writes table.name in
      ap rows_of (under_more entries writes (map tuple_write tuples) table.name in_order sorted (tuples_to tuples))
      ∙ placed_all (rows_of under) [] tuples under (own_keys table entries writes stand) refl (by_recursion (IsKeyWithin table) tuples within) none
