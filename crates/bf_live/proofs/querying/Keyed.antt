-- The row under a key once the writes to a table are applied.
use Rattle.std.proofs.Common.{◌≡◌, ℕ, Bool, true, false, ◌&&◌, cond, List, [], ◌∷◌, map, filter, find, fold, Less, Equal, Greater, Some, None, option_map, unwrap_or, refl, sym, ap, subst, ◌∙◌, inl, inr, is_lt, is_eq}
use Rattle.std.specs.Ordering.{ordering_then}
use Rattle.std.proofs.lemmas.Simd.{map-map}
use Rattle.std.specs.List.{list_all}
use Rattle.std.proofs.lemmas.Bool.{and_parts, and_from, cases_Bool}
use Rattle.bf_base.specs.declared.value.Value.{Value}
use Rattle.bf_base.specs.Lists.{rises, name_cmp, same_name}
use Rattle.bf_base.specs.Maps.{is_map, entry_at}
use Rattle.bf_base.specs.Values.{key_cmp, key_cmp_total}
use Rattle.bf_base.proofs.Apart.{rises-filter}
use Rattle.bf_base.proofs.Maps.{entry_at-with_entry, entry_at-without_key, is_map-with_entry, is_map-without_key}
use Rattle.bf_base.proofs.Names.{same_name-tie, name_cmp_total}
use Rattle.bf_base.proofs.Order.{less_from_test, equal_from_test, turned_less, turned_equal, rises_alike, rises_tail, rises_skip}
use Rattle.bf_heap.specs.Heaps.{Entry, key_of_entry, row_under}
use Rattle.bf_txn.specs.declared.write.Write.{Write}
use Rattle.bf_txn.specs.Writes.{KeyWrite, key_of_write, key_write_of, key_writes_to, table_key_cmp, table_key_of, written_at, writes_to, AreWrites}
use Rattle.bf_txn.proofs.Tables.{table_key_cmp_total}
use Rattle.bf_live.specs.Merged.{changed_by, applied, entries_under, AreByKey}
use Rattle.bf_live.proofs.querying.Merging.{write_keys}
use Rattle.bf_index.proofs.Rising.{RisesFrom}

-- the row under a key after one write
pub row_under-applied : (entries : List Entry) (w : Write) (key : List Value) → row_under (applied entries w) key ≡ cond (is_eq (key_cmp w.key key)) w.row (row_under entries key)
row_under-applied entries w key = elim (w.row) as (λ row. row_under (changed_by row w.key entries) key ≡ cond (is_eq (key_cmp w.key key)) row (row_under entries key)) [
  | Some row ↦
      ap (option_map (λ (e : Entry). e.1)) (entry_at-with_entry key_cmp_total key_of_entry entries (w.key, row) key)
      ∙ elim (is_eq (key_cmp w.key key)) as (λ b. option_map (λ (e : Entry). e.1) (cond b (Some (w.key, row)) (entry_at key_cmp key_of_entry entries key)) ≡ cond b (Some row) (row_under entries key)) [ true ↦ refl | false ↦ refl ]
  | None ↦
      ap (option_map (λ (e : Entry). e.1)) (entry_at-without_key key_cmp_total key_of_entry entries w.key key)
      ∙ elim (is_eq (key_cmp w.key key)) as (λ b. option_map (λ (e : Entry). e.1) (cond b None (entry_at key_cmp key_of_entry entries key)) ≡ cond b None (row_under entries key)) [ true ↦ refl | false ↦ refl ]
]

-- no later write has a key that is below all of theirs
none_later : (key : List Value) (writes : List Write) → RisesFrom key (write_keys writes) → find (λ w. is_eq (key_cmp w.key key)) writes ≡ None
none_later key [] h = refl
none_later key (w ∷ writes) h =
    let later = turned_less key_cmp_total key w.key (less_from_test _ (and_parts _ _ h).0) in
    rw later (none_later key writes (rises_skip key_cmp_total key w.key (write_keys writes) h))

-- the row under a key after writes in the order of their keys
row_under-fold : (writes : List Write) (entries : List Entry) (key : List Value) → rises key_cmp (write_keys writes) ≡ true
    → row_under (fold applied entries writes) key ≡ unwrap_or (option_map (λ w. w.row) (find (λ w. is_eq (key_cmp w.key key)) writes)) (row_under entries key)
row_under-fold [] entries key h = refl
row_under-fold (w ∷ writes) entries key h =
    let rest = row_under-fold writes (applied entries w) key (rises_tail key_cmp_total w.key (write_keys writes) h) in
    let here = row_under-applied entries w key in
    elim (cases_Bool (is_eq (key_cmp w.key key))) [
      | inl tied ↦
          let none = none_later key writes (rises_alike key_cmp_total w.key key (write_keys writes) (equal_from_test _ tied) h) in
          let now : row_under (applied entries w) key ≡ w.row = rw tied at here in
          rest ∙ ap (λ found. unwrap_or (option_map (λ (w : Write). w.row) found) (row_under (applied entries w) key)) none ∙ rw tied now
      | inr apart ↦
          let now : row_under (applied entries w) key ≡ row_under entries key = rw apart at here in
          rw apart (rest ∙ ap (λ row. unwrap_or (option_map (λ (w : Write). w.row) (find (λ w. is_eq (key_cmp w.key key)) writes)) row) now)
    ]

-- a write to a key of a table is among the writes to that table
found_among : (table : List ℕ) (key : List Value) (writes : List Write) → find (λ w. is_eq (table_key_cmp (table_key_of w) (table, key))) writes ≡ find (λ w. is_eq (key_cmp w.key key)) (writes_to table writes)
found_among table key [] = refl
found_among table key (w ∷ writes) =
    let same = same_name-tie w.table table in
    let rest = found_among table key writes in
    rw same (elim (name_cmp w.table table) as (λ r. cond (is_eq (ordering_then r (key_cmp w.key key))) (Some w) (find (λ w. is_eq (table_key_cmp (table_key_of w) (table, key))) writes)
    ≡ find (λ w. is_eq (key_cmp w.key key)) (cond (is_eq r) (w ∷ writes_to table writes) (writes_to table writes))) [
      | Less ↦ rest
      | Equal ↦ ap (λ found. cond (is_eq (key_cmp w.key key)) (Some w) found) rest
      | Greater ↦ rest
    ])

-- sorted writes to one table are in the order of their keys
by_key_if_same : (table : List ℕ) (writes : List Write) → list_all (λ w. same_name w.table table) writes ≡ true → rises table_key_cmp (map table_key_of writes) ≡ true → rises key_cmp (write_keys writes) ≡ true
by_key_if_same table [] all h = refl
by_key_if_same table (w ∷ []) all h = refl
by_key_if_same table (w ∷ v ∷ writes) all h =
    let here = and_parts (same_name w.table table) (same_name v.table table && list_all (λ w. same_name w.table table) writes) all in
    let next = and_parts (same_name v.table table) (list_all (λ w. same_name w.table table) writes) here.1 in
    let w_ties : name_cmp w.table table ≡ Equal = equal_from_test _ (sym (same_name-tie w.table table) ∙ here.0) in
    let v_ties : name_cmp v.table table ≡ Equal = equal_from_test _ (sym (same_name-tie v.table table) ∙ next.0) in
    let tied : name_cmp w.table v.table ≡ Equal = name_cmp_total.congr w.table table v.table w_ties ∙ turned_equal name_cmp_total v.table table v_ties in
    let here_less : is_lt (ordering_then (name_cmp w.table v.table) (key_cmp w.key v.key)) ≡ true = (and_parts _ _ h).0 in
    let less = rw tied at here_less in
    and_from _ _ less (by_key_if_same table (v ∷ writes) here.1 (and_parts _ _ h).1)

all_pass : {X : Type 0} (test : X → Bool) (xs : List X) → list_all test (filter test xs) ≡ true
all_pass test [] = refl
all_pass test (x ∷ xs) = elim (cases_Bool (test x)) [
  | inl passes ↦ rw passes (and_from _ _ passes (all_pass test xs))
  | inr fails ↦ rw fails (all_pass test xs)
]

pub by_key : (writes : List Write) (table : List ℕ) → AreWrites writes → rises key_cmp (write_keys (writes_to table writes)) ≡ true
by_key writes table sorted =
    by_key_if_same table (writes_to table writes) (all_pass (λ w. same_name w.table table) writes) (rises-filter table_key_cmp_total table_key_of (λ w. same_name w.table table) writes sorted)

-- and so are those that a test leaves, without the table's name
pub by_key_in : (writes : List Write) (table : List ℕ) (test : KeyWrite → Bool) (some : List KeyWrite) → AreWrites writes → some ≡ filter test (key_writes_to table writes) → AreByKey some
by_key_in writes table test some sorted is =
    let all : rises key_cmp (map key_of_write (key_writes_to table writes)) ≡ true = ap (rises key_cmp) (map-map key_of_write key_write_of (writes_to table writes)) ∙ by_key writes table sorted in
    subst AreByKey (sym is) (rises-filter key_cmp_total key_of_write test (key_writes_to table writes) all)

-- the row under a key: what is written there, and else the heap's
pub row_under-entries_under : (entries : List Entry) (writes : List Write) (table : List ℕ) (key : List Value) → AreWrites writes
    → row_under (entries_under entries writes table) key ≡ unwrap_or (written_at writes (table, key)) (row_under entries key)
row_under-entries_under entries writes table key sorted =
    row_under-fold (writes_to table writes) entries key (by_key writes table sorted)
    ∙ ap (λ found. unwrap_or (option_map (λ (w : Write). w.row) found) (row_under entries key)) (sym (found_among table key writes))

-- the entries stay a map
is_map-applied : (entries : List Entry) (w : Write) → is_map key_cmp key_of_entry entries ≡ true → is_map key_cmp key_of_entry (applied entries w) ≡ true
is_map-applied entries w h = elim (w.row) as (λ row. is_map key_cmp key_of_entry (changed_by row w.key entries) ≡ true) [
  | Some row ↦ is_map-with_entry key_cmp_total key_of_entry entries (w.key, row) h
  | None ↦ is_map-without_key key_cmp_total key_of_entry entries w.key h
]

pub is_map-fold : (writes : List Write) (entries : List Entry) → is_map key_cmp key_of_entry entries ≡ true → is_map key_cmp key_of_entry (fold applied entries writes) ≡ true
is_map-fold [] entries h = h
is_map-fold (w ∷ writes) entries h = is_map-fold writes (applied entries w) (is_map-applied entries w h)
