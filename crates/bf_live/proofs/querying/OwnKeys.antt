-- Rows stand under their own keys, in the heap and under the writes; and the one row that a fixed key leaves to select.
use Rattle.std.proofs.Common.{◌≡◌, ℕ, zero, suc, Bool, true, false, not, cond, List, [], ◌∷◌, filter, fold, Ordering, Less, Equal, Greater, Some, None, refl, sym, ap, subst, ◌∙◌, inl, inr, is_eq, arith}
use Rattle.std.specs.List.{All, AllByRecursion}
use Rattle.std.specs.Option.{option_to_list}
use Rattle.std.proofs.lemmas.Bool.{and_parts, cases_Bool}
use Rattle.std.proofs.lemmas.Cmp.{tied_itself}
use Rattle.bf_base.specs.declared.value.Value.{Value}
use Rattle.bf_base.specs.declared.table.Table.{Table}
use Rattle.bf_base.specs.Lists.{same_name}
use Rattle.bf_base.specs.Maps.{is_map, with_entry, has_key, beside}
use Rattle.bf_base.specs.Tables.{cell, IsKeyWithin}
use Rattle.bf_base.specs.Values.{key_cmp, key_cmp_total}
use Rattle.bf_base.proofs.Names.{same_name-tie}
use Rattle.bf_base.proofs.Order.{less_from_test, equal_from_test, rises_alike, rises_skip, rises_tail}
use Rattle.bf_base.proofs.Ties.{name_ties}
use Rattle.bf_tree.specs.Evaluation.{holds_on}
use Rattle.bf_tree.specs.Trees.{Cond}
use Rattle.bf_heap.specs.Heaps.{Entry, key_of_entry, row_under}
use Rattle.bf_sql.specs.Conditions.{fixed_key}
use Rattle.bf_sql.specs.Queries.{selected}
use Rattle.bf_txn.specs.declared.write.Write.{Write}
use Rattle.bf_txn.specs.Writes.{writes_to}
use Rattle.bf_live.specs.Merged.{changed_by, applied, entries_under, rows_under, HasOwnKey, WritesOwnKey, StandUnderOwnKeys}
use Rattle.bf_sql.proofs.FixedKey.{key_held}
use Rattle.bf_live.proofs.querying.Keyed.{is_map-fold}
use Rattle.bf_live.proofs.querying.Merging.{rows_of}
use Rattle.bf_index.proofs.Rising.{RisesFrom, keys_of}

pub by_recursion : {X : Type 0} (P : X → Type 0) (xs : List X) → All P xs → AllByRecursion P xs
by_recursion P [] all = tt
by_recursion P (x ∷ xs) all = (all 0 x (omega arith), by_recursion P xs (λ k d below. all (suc k) d (omega arith)))

pub filtered : {X : Type 0} (P : X → Type 0) (test : X → Bool) (xs : List X) → AllByRecursion P xs → AllByRecursion P (filter test xs)
filtered P test [] all = tt
filtered P test (x ∷ xs) all = elim (test x) as (λ b. AllByRecursion P (cond b (x ∷ filter test xs) (filter test xs))) [
  | true ↦ (all.0, filtered P test xs all.1)
  | false ↦ filtered P test xs all.1
]

pub with_one_more : {X K : Type 0} (cmp : K → K → Ordering) (key : X → K) (P : X → Type 0) (xs : List X) (x : X) → AllByRecursion P xs → P x → AllByRecursion P (with_entry cmp key xs x)
with_one_more cmp key P [] x all here = (here, tt)
with_one_more cmp key P (y ∷ xs) x all here = elim (cmp (key x) (key y)) as (λ r. AllByRecursion P (beside r y xs x (with_entry cmp key xs x))) [
  | Less ↦ (here, all)
  | Equal ↦ (here, all.1)
  | Greater ↦ (all.0, with_one_more cmp key P xs x all.1 here)
]

-- what is true of all entries, and of each row that is written, is true of all entries then
applied_keeps : (P : Entry → Type 0) (entries : List Entry) (w : Write) → AllByRecursion P entries → ((row : List Value) → w.row ≡ Some row → P (w.key, row)) → AllByRecursion P (applied entries w)
applied_keeps P entries w all new = elim (w.row) as (λ r. w.row ≡ r → AllByRecursion P (changed_by r w.key entries)) [
  | Some row ↦ λ is. with_one_more key_cmp key_of_entry P entries (w.key, row) all (new row is)
  | None ↦ λ is. filtered P (λ e. not (has_key key_cmp key_of_entry w.key e)) entries all
] refl

pub fold_keeps : (P : Entry → Type 0) (writes : List Write) (entries : List Entry) → AllByRecursion P entries → AllByRecursion (λ w. (row : List Value) → w.row ≡ Some row → P (w.key, row)) writes → AllByRecursion P (fold applied entries writes)
fold_keeps P [] entries all new = all
fold_keeps P (w ∷ writes) entries all new = fold_keeps P writes (applied entries w) (applied_keeps P entries w all new.0) new.1

abbrev pub OwnKeys : Table → List Entry → Type 0
OwnKeys table entries = AllByRecursion (λ e. HasOwnKey table e.0 e.1) entries

of_the_table : (table : Table) (writes : List Write) → AllByRecursion (WritesOwnKey table) writes → AllByRecursion (λ w. (row : List Value) → w.row ≡ Some row → HasOwnKey table w.key row) (writes_to table.name writes)
of_the_table table [] all = tt
of_the_table table (w ∷ writes) all = elim (cases_Bool (same_name w.table table.name)) [
  | inl same ↦
      let is : w.table ≡ table.name = (name_ties w.table table.name).0 (equal_from_test _ (sym (same_name-tie w.table table.name) ∙ same)) in
      rw same ((λ row. all.0 row is), of_the_table table writes all.1)
  | inr other ↦ rw other (of_the_table table writes all.1)
]

pub own_keys : (table : Table) (entries : List Entry) (writes : List Write) → StandUnderOwnKeys table entries writes → OwnKeys table (entries_under entries writes table.name)
own_keys table entries writes stand =
    fold_keeps (λ e. HasOwnKey table e.0 e.1) (writes_to table.name writes) entries (by_recursion _ entries stand.heap) (of_the_table table writes (by_recursion _ writes stand.workspace))

pub weakened : {X : Type 0} (P Q : X → Type 0) → ((x : X) → P x → Q x) → (xs : List X) → AllByRecursion P xs → AllByRecursion Q xs
weakened P Q then [] all = tt
weakened P Q then (x ∷ xs) all = (then x all.0, weakened P Q then xs all.1)

pub each : {X : Type 0} (P : X → Type 0) (xs : List X) → AllByRecursion P xs → All P xs
each P [] all k d below = absurd (omega arith)
each P (x ∷ xs) all zero d below = all.0
each P (x ∷ xs) all (suc k) d below = each P xs all.1 k d (omega arith)

pub rows_within : (table : Table) (entries : List Entry) → OwnKeys table entries → AllByRecursion (IsKeyWithin table) (rows_of entries)
rows_within table [] own = tt
rows_within table (e ∷ entries) own = (own.0.0, rows_within table entries own.1)

-- each selected row has the values of its key
pub selected_within : (table : Table) (c : Cond ℕ) (entries : List Entry) (writes : List Write) (rows : List (List Value)) → StandUnderOwnKeys table entries writes → rows ≡ selected cell c (rows_under entries writes table.name) → All (IsKeyWithin table) rows
selected_within table c entries writes rows stand is =
    let within = rows_within table (entries_under entries writes table.name) (own_keys table entries writes stand) in
    subst (All (IsKeyWithin table)) (sym is) (each (IsKeyWithin table) _ (filtered (IsKeyWithin table) (λ row. holds_on (cell row) c) (rows_under entries writes table.name) within))

-- a test that holds of rows under one key alone
module _ (test : List Value → Bool) (key : List Value) where
  abbrev pub HoldsAtKey : Entry → Type 0
  HoldsAtKey e = test e.1 ≡ true → e.0 ≡ key

  none_behind : (entries : List Entry) → RisesFrom key (keys_of entries) → AllByRecursion HoldsAtKey entries → filter test (rows_of entries) ≡ []
  none_behind [] h all = refl
  none_behind (e ∷ es) h all = elim (cases_Bool (test e.1)) [
    | inl holds ↦
        let less : key_cmp key e.0 ≡ Less = less_from_test _ (and_parts _ _ h).0 in
        let tied : key_cmp key e.0 ≡ Equal = ap (key_cmp key) (all.0 holds) ∙ tied_itself key_cmp_total key in
        absurd cc
    | inr fails ↦ rw fails (none_behind es (rises_skip key_cmp_total key e.0 (keys_of es) h) all.1)
  ]

  -- leaves of all rows what it leaves of the row under that key
  pub one_selected : (entries : List Entry) → is_map key_cmp key_of_entry entries ≡ true → AllByRecursion HoldsAtKey entries → filter test (option_to_list (row_under entries key)) ≡ filter test (rows_of entries)
  one_selected [] h all = refl
  one_selected (e ∷ es) h all = elim (cases_Bool (is_eq (key_cmp e.0 key))) [
    | inl tied ↦
        let none = none_behind es (rises_alike key_cmp_total e.0 key (keys_of es) (equal_from_test _ tied) h) all.1 in
        rw (tied, none) refl
    | inr apart ↦
        let rest = one_selected es (rises_tail key_cmp_total e.0 (keys_of es) h) all.1 in
        elim (cases_Bool (test e.1)) [
          | inl holds ↦
              let tied : is_eq (key_cmp e.0 key) ≡ true = ap is_eq (ap (λ k. key_cmp k key) (all.0 holds) ∙ tied_itself key_cmp_total key) in
              absurd cc
          | inr fails ↦ rw (apart, fails) rest
        ]
  ]

-- a key that the condition fixes is the key of each row that satisfies it
pub fixed_selected : (table : Table) (c : Cond ℕ) (key : List Value) (entries : List Entry) (writes : List Write) → is_map key_cmp key_of_entry entries ≡ true → StandUnderOwnKeys table entries writes → fixed_key table c ≡ Some key
    → selected cell c (option_to_list (row_under (entries_under entries writes table.name) key)) ≡ selected cell c (rows_under entries writes table.name)
fixed_selected table c key entries writes in_order stand fixed =
    let under = entries_under entries writes table.name in
    let test : List Value → Bool = λ row. holds_on (cell row) c in
    let at_key = weakened (λ (e : Entry). HasOwnKey table e.0 e.1) (HoldsAtKey test key) (λ e own holds. sym own.1 ∙ key_held e.1 table c key fixed holds) under (own_keys table entries writes stand) in
    one_selected test key under (is_map-fold (writes_to table.name writes) entries in_order) at_key
