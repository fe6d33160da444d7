-- The writes of tables, one table behind the other.
use Rattle.std.proofs.Common.{◌≡◌, ℕ, true, false, cond, List, [], ◌∷◌, ◌++◌, map, fold, Ordering, Less, Equal, Greater, Option, Some, None, option_map, unwrap_or, refl, sym, ap, subst, ◌∙◌, inl, inr, is_lt, is_eq}
use Rattle.std.specs.BTreeMap.{is_at}
use Rattle.std.specs.Cmp.{IsTotalOrder, on_total, then_total}
use Rattle.std.specs.FinMap.{IsAntisymmetric, nat_cmp-IsAntisymmetric, slice_cmp-IsAntisymmetric}
use Rattle.std.specs.Map.{keys_of, lookup}
use Rattle.std.specs.Ordering.{ordering_then}
use Rattle.std.proofs.lemmas.Bool.{and_parts, and_from, cases_Bool}
use Rattle.std.proofs.lemmas.Cmp.{tied_itself}
use Rattle.std.proofs.lemmas.List.{append-nil}
use Rattle.std.specs.List.{AllByRecursion}
use Rattle.std.specs.List.Sorted.{IsStrictlySortedBy}
use Rattle.bf_base.proofs.Maps.{is_map-with_entry}
use Rattle.bf_base.specs.declared.value.Value.{Value}
use Rattle.bf_base.specs.Lists.{rises, name_cmp, same_name}
use Rattle.bf_base.specs.Maps.{is_map, entry_at, beside}
use Rattle.bf_base.specs.Values.{key_cmp, key_cmp_total, key_cmp-IsAntisymmetric}
use Rattle.bf_base.proofs.Names.{name_cmp_total, same_name-tie}
use Rattle.bf_base.proofs.Order.{first_is, less_from_test, equal_from_test, symmetric, turned_less, rises_alike, rises_cons, rises_tail, rises_skip, same_from_look_ups}
use Rattle.bf_txn.specs.declared.write.Write.{Write}
use Rattle.bf_txn.specs.Writes.{gathered, AreKeyWrites, AreTables, AreWrites, KeyWrite, OfTable, TableKey, all_writes, key_of_write, key_write_of, key_writes_to, row_written_at, table_key_cmp, table_key_of, with_key_write, with_write, writes_at, writes_in, writes_to, written_at}
use Rattle.bf_txn.proofs.KeyWrites.{with_entry-with_entries, entry_at-with_entries, is_map-with_entries, looked_up, over, over_none, rises_from_sorted}

pub table_key_cmp_total : IsTotalOrder table_key_cmp
table_key_cmp_total = then_total (on_total (λ (table_key : TableKey). table_key.0) name_cmp_total) (on_total (λ (table_key : TableKey). table_key.1) key_cmp_total)

pub same_names : IsAntisymmetric name_cmp
same_names = slice_cmp-IsAntisymmetric nat_cmp-IsAntisymmetric

abbrev pub names_of : List OfTable → List (List ℕ)
names_of tables = map (λ t. t.0) tables

-- the keys rise, by name and then by key
abbrev pub RisesIn : List OfTable → Type 0
RisesIn tables = rises name_cmp (names_of tables) ≡ true

abbrev pub written : List ℕ → List Value → Option (List Value) → Write
written table key row = record { table = table; key = key; row = row }

then_apart : (r s : Ordering) → is_eq r ≡ false → is_eq (ordering_then r s) ≡ false
then_apart Less s e = refl
then_apart Equal s e = absurd cc
then_apart Greater s e = refl

-- a name before those of all tables
apart_below : (n m : List ℕ) → is_lt (name_cmp n m) ≡ true → is_eq (name_cmp m n) ≡ false
apart_below n m less = ap is_eq (turned_less name_cmp_total n m (less_from_test _ less))

module _ (n : List ℕ) where
  none_named : (ts : List OfTable) → rises name_cmp (n ∷ names_of ts) ≡ true → lookup (is_at (name_cmp n)) ts ≡ None
  none_named [] h = refl
  none_named (t ∷ ts) h =
      let less : name_cmp n t.0 ≡ Less = less_from_test _ (and_parts _ _ h).0 in
      rw (less, none_named ts (rises_skip name_cmp_total n t.0 (names_of ts) h)) refl

-- the writes of a table by its name
writes_at-first : (t : OfTable) (ts : List OfTable) (n : List ℕ) → is_eq (name_cmp t.0 n) ≡ true → writes_at (t ∷ ts) n ≡ t.1
writes_at-first t ts n tied =
    let turned : is_eq (name_cmp n t.0) ≡ true = symmetric name_cmp_total n t.0 ∙ tied in
    rw turned refl

writes_at-later : (t : OfTable) (ts : List OfTable) (n : List ℕ) → is_eq (name_cmp t.0 n) ≡ false → writes_at (t ∷ ts) n ≡ writes_at ts n
writes_at-later t ts n apart =
    let turned : is_eq (name_cmp n t.0) ≡ false = symmetric name_cmp_total n t.0 ∙ apart in
    rw turned refl

-- the writes to tables behind the first
later_each : (t : OfTable) (ts : List OfTable) → RisesIn (t ∷ ts) → ((n : List ℕ) → is_map key_cmp key_of_write (writes_at (t ∷ ts) n) ≡ true) → (n : List ℕ) → is_map key_cmp key_of_write (writes_at ts n) ≡ true
later_each t ts h each n = elim (cases_Bool (is_eq (name_cmp t.0 n))) [
  | inl tied ↦
      let none = none_named n ts (rises_alike name_cmp_total t.0 n (names_of ts) (equal_from_test _ tied) h) in
      rw none refl
  | inr apart ↦ subst (λ ws. is_map key_cmp key_of_write ws ≡ true) (writes_at-later t ts n apart) (each n)
]

-- ---- in their order
first_behind : (n : List ℕ) (k : List Value) (ts : List OfTable) → rises name_cmp (n ∷ names_of ts) ≡ true → first_is (λ b. is_lt (table_key_cmp (n, k) b)) (map table_key_of (all_writes ts)) ≡ true
first_behind n k [] h = refl
first_behind n k (t ∷ ts) h = behind t.0 t.1 (less_from_test _ (and_parts _ _ h).0) (first_behind n k ts (rises_skip name_cmp_total n t.0 (names_of ts) h))
  where
    behind : (m : List ℕ) (ws : List KeyWrite) → name_cmp n m ≡ Less → first_is (λ b. is_lt (table_key_cmp (n, k) b)) (map table_key_of (all_writes ts)) ≡ true
        → first_is (λ b. is_lt (table_key_cmp (n, k) b)) (map table_key_of (writes_in m ws ++ all_writes ts)) ≡ true
    behind m [] less rest = rest
    behind m (w ∷ ws) less rest = rw less refl

in_front : (n : List ℕ) (ws : List KeyWrite) (rest : List Write) → is_map key_cmp key_of_write ws ≡ true → is_map table_key_cmp table_key_of rest ≡ true
    → ((k : List Value) → first_is (λ b. is_lt (table_key_cmp (n, k) b)) (map table_key_of rest) ≡ true)
    → is_map table_key_cmp table_key_of (writes_in n ws ++ rest) ≡ true
in_front n [] rest h sorted first = sorted
in_front n (w ∷ []) rest h sorted first = rises_cons table_key_cmp_total (n, w.0) (map table_key_of rest) (first w.0) sorted
in_front n (w ∷ v ∷ ws) rest h sorted first =
    let less : is_lt (ordering_then (name_cmp n n) (key_cmp w.0 v.0)) ≡ true = rw (tied_itself name_cmp_total n) (and_parts _ _ h).0 in
    and_from _ _ less (in_front n (v ∷ ws) rest (and_parts _ _ h).1 sorted first)

in_order : (ts : List OfTable) → RisesIn ts → ((n : List ℕ) → is_map key_cmp key_of_write (writes_at ts n) ≡ true) → AreWrites (all_writes ts)
in_order [] h each = refl
in_order (t ∷ ts) h each =
    let own : is_map key_cmp key_of_write t.1 ≡ true = subst (λ ws. is_map key_cmp key_of_write ws ≡ true) (writes_at-first t ts t.0 (ap is_eq (tied_itself name_cmp_total t.0))) (each t.0) in
    in_front t.0 t.1 (all_writes ts) own (in_order ts (rises_tail name_cmp_total t.0 (names_of ts) h) (later_each t ts h each)) (λ k. first_behind t.0 k ts h)

pub names_rise : (ts : List OfTable) → AreTables ts → RisesIn ts
names_rise ts h = rises_from_sorted name_cmp_total ts h.by_name

pub are_writes : (ts : List OfTable) → AreTables ts → AreWrites (all_writes ts)
are_writes ts h = in_order ts (names_rise ts h) (λ n. rises_from_sorted key_cmp_total (writes_at ts n) (h.each n))

-- ---- look-ups
module _ (n : List ℕ) (k : List Value) where
  here : (ws : List KeyWrite) (rest : List Write) → entry_at table_key_cmp table_key_of rest (n, k) ≡ None
      → entry_at table_key_cmp table_key_of (writes_in n ws ++ rest) (n, k) ≡ option_map (written n k) (lookup (is_at (key_cmp k)) ws)
  here [] rest none = none
  here (w ∷ ws) rest none = elim (cases_Bool (is_eq (key_cmp w.0 k))) [
    | inl tied ↦
        let turned : is_eq (key_cmp k w.0) ≡ true = symmetric key_cmp_total k w.0 ∙ tied in
        let same : w.0 ≡ k = key_cmp-IsAntisymmetric w.0 k (equal_from_test _ tied) in
        rw (tied_itself name_cmp_total n, tied, turned) (ap (λ (q : List Value). Some (written n q w.1)) same)
    | inr apart ↦
        let turned : is_eq (key_cmp k w.0) ≡ false = symmetric key_cmp_total k w.0 ∙ apart in
        rw (tied_itself name_cmp_total n, apart, turned) (here ws rest none)
  ]

  elsewhere : (m : List ℕ) (ws : List KeyWrite) (rest : List Write) → is_eq (name_cmp m n) ≡ false
      → entry_at table_key_cmp table_key_of (writes_in m ws ++ rest) (n, k) ≡ entry_at table_key_cmp table_key_of rest (n, k)
  elsewhere m [] rest apart = refl
  elsewhere m (w ∷ ws) rest apart = rw (then_apart (name_cmp m n) (key_cmp w.0 k) apart) (elsewhere m ws rest apart)

  none_later : (ts : List OfTable) → rises name_cmp (n ∷ names_of ts) ≡ true → entry_at table_key_cmp table_key_of (all_writes ts) (n, k) ≡ None
  none_later [] h = refl
  none_later (t ∷ ts) h =
      elsewhere t.0 t.1 (all_writes ts) (apart_below n t.0 (and_parts _ _ h).0)
      ∙ none_later ts (rises_skip name_cmp_total n t.0 (names_of ts) h)

  -- what is written to a key of a table
  pub found_in : (ts : List OfTable) → RisesIn ts → entry_at table_key_cmp table_key_of (all_writes ts) (n, k) ≡ option_map (written n k) (lookup (is_at (key_cmp k)) (writes_at ts n))
  found_in [] h = refl
  found_in (t ∷ ts) h = elim (cases_Bool (is_eq (name_cmp t.0 n))) [
    | inl tied ↦
        let same : t.0 ≡ n = same_names t.0 n (equal_from_test _ tied) in
        let none = none_later ts (rises_alike name_cmp_total t.0 n (names_of ts) (equal_from_test _ tied) h) in
        ap (λ (m : List ℕ). entry_at table_key_cmp table_key_of (writes_in m t.1 ++ all_writes ts) (n, k)) same
        ∙ here t.1 (all_writes ts) none
        ∙ sym (ap (λ (ws : List KeyWrite). option_map (written n k) (lookup (is_at (key_cmp k)) ws)) (writes_at-first t ts n tied))
    | inr apart ↦
        elsewhere t.0 t.1 (all_writes ts) apart ∙ found_in ts (rises_tail name_cmp_total t.0 (names_of ts) h)
        ∙ sym (ap (λ (ws : List KeyWrite). option_map (written n k) (lookup (is_at (key_cmp k)) ws)) (writes_at-later t ts n apart))
  ]

-- ---- the writes to one table
module _ (n : List ℕ) where
  here_to : (ws : List KeyWrite) (rest : List Write) → writes_to n rest ≡ [] → key_writes_to n (writes_in n ws ++ rest) ≡ ws
  here_to [] rest none = ap (map key_write_of) none
  here_to (w ∷ ws) rest none =
      let same : same_name n n ≡ true = same_name-tie n n ∙ ap is_eq (tied_itself name_cmp_total n) in
      rw same (ap (λ (vs : List KeyWrite). w ∷ vs) (here_to ws rest none))

  elsewhere_to : (m : List ℕ) (ws : List KeyWrite) (rest : List Write) → is_eq (name_cmp m n) ≡ false → writes_to n (writes_in m ws ++ rest) ≡ writes_to n rest
  elsewhere_to m [] rest apart = refl
  elsewhere_to m (w ∷ ws) rest apart =
      let other : same_name m n ≡ false = same_name-tie m n ∙ apart in
      rw other (elsewhere_to m ws rest apart)

  none_to : (ts : List OfTable) → rises name_cmp (n ∷ names_of ts) ≡ true → writes_to n (all_writes ts) ≡ []
  none_to [] h = refl
  none_to (t ∷ ts) h =
      elsewhere_to t.0 t.1 (all_writes ts) (apart_below n t.0 (and_parts _ _ h).0)
      ∙ none_to ts (rises_skip name_cmp_total n t.0 (names_of ts) h)

  pub written_to : (ts : List OfTable) → RisesIn ts → key_writes_to n (all_writes ts) ≡ writes_at ts n
  written_to [] h = refl
  written_to (t ∷ ts) h = elim (cases_Bool (is_eq (name_cmp t.0 n))) [
    | inl tied ↦
        let same : t.0 ≡ n = same_names t.0 n (equal_from_test _ tied) in
        let none = none_to ts (rises_alike name_cmp_total t.0 n (names_of ts) (equal_from_test _ tied) h) in
        ap (λ (m : List ℕ). key_writes_to n (writes_in m t.1 ++ all_writes ts)) same
        ∙ here_to t.1 (all_writes ts) none ∙ sym (writes_at-first t ts n tied)
    | inr apart ↦
        ap (map key_write_of) (elsewhere_to t.0 t.1 (all_writes ts) apart)
        ∙ written_to ts (rises_tail name_cmp_total t.0 (names_of ts) h) ∙ sym (writes_at-later t ts n apart)
  ]

-- ---- after a change of one table's writes
option_map-over : {A B : Type 0} (f : A → B) (first second : Option A) → option_map f (over first second) ≡ over (option_map f first) (option_map f second)
option_map-over f (Some x) second = refl
option_map-over f None second = refl

-- what is read of writes with further ones
pub read_over : (xs more : List KeyWrite) (k : List Value) → is_map key_cmp key_of_write more ≡ true
    → lookup (is_at (key_cmp k)) (fold with_key_write xs more) ≡ over (lookup (is_at (key_cmp k)) more) (lookup (is_at (key_cmp k)) xs)
read_over xs more k h =
    looked_up key_cmp_total (fold with_key_write xs more) k
    ∙ ap (option_map (λ (w : KeyWrite). w.1)) (entry_at-with_entries key_cmp_total key_of_write xs more k h)
    ∙ option_map-over (λ (w : KeyWrite). w.1) _ _
    ∙ sym (λ i. over (looked_up key_cmp_total more k i) (looked_up key_cmp_total xs k i))

one_table : (table : List ℕ) (more : List KeyWrite) → all_writes ((table, more) ∷ []) ≡ writes_in table more
one_table table more = append-nil (writes_in table more)

one_each : (table : List ℕ) (more : List KeyWrite) → is_map key_cmp key_of_write more ≡ true → (n : List ℕ) → is_map key_cmp key_of_write (writes_at ((table, more) ∷ []) n) ≡ true
one_each table more h n = elim (is_eq (name_cmp n table)) as (λ b. is_map key_cmp key_of_write (unwrap_or (cond b (Some more) None) []) ≡ true) [ true ↦ h | false ↦ refl ]

pub are_writes_in : (table : List ℕ) (more : List KeyWrite) → is_map key_cmp key_of_write more ≡ true → AreWrites (writes_in table more)
are_writes_in table more h = subst AreWrites (one_table table more) (in_order ((table, more) ∷ []) refl (one_each table more h))

module _ (old new : List OfTable) (table : List ℕ) (ws : List KeyWrite) (before : AreTables old) (by_name : IsStrictlySortedBy name_cmp (keys_of new)) (sorted : AreKeyWrites ws)
    (changed : (n : List ℕ) → lookup (is_at (name_cmp n)) new ≡ cond (is_eq (name_cmp table n)) (Some ws) (lookup (is_at (name_cmp n)) old)) where
  now_at : (n : List ℕ) → writes_at new n ≡ cond (is_eq (name_cmp table n)) ws (writes_at old n)
  now_at n =
      ap (λ (o : Option (List KeyWrite)). unwrap_or o []) (changed n)
      ∙ elim (is_eq (name_cmp table n)) as (λ b. unwrap_or (cond b (Some ws) (lookup (is_at (name_cmp n)) old)) [] ≡ cond b ws (writes_at old n)) [ true ↦ refl | false ↦ refl ]

  pub still_tables : AreTables new
  still_tables = record {
    by_name = by_name;
    each = λ n. subst AreKeyWrites (sym (now_at n)) (elim (is_eq (name_cmp table n)) as (λ b. AreKeyWrites (cond b ws (writes_at old n))) [ true ↦ sorted | false ↦ before.each n ]);
  }

  module _ (more : List KeyWrite) (in_turn : is_map key_cmp key_of_write more ≡ true)
      (over_old : (k : List Value) → lookup (is_at (key_cmp k)) ws ≡ over (lookup (is_at (key_cmp k)) more) (lookup (is_at (key_cmp k)) (writes_at old table))) where
    abbrev at : List OfTable → List ℕ → List Value → Option Write
    at tables n k = option_map (written n k) (lookup (is_at (key_cmp k)) (writes_at tables n))

    both : (n : List ℕ) (k : List Value) → option_map (written n k) (lookup (is_at (key_cmp k)) (cond (is_eq (name_cmp table n)) ws (writes_at old n))) ≡ over (at ((table, more) ∷ []) n k) (at old n k)
    both n k = elim (cases_Bool (is_eq (name_cmp table n))) [
      | inl tied ↦
          let same : table ≡ n = same_names table n (equal_from_test _ tied) in
          rw tied (
          ap (option_map (written n k)) (over_old k ∙ ap (λ (m : List ℕ). over (lookup (is_at (key_cmp k)) more) (lookup (is_at (key_cmp k)) (writes_at old m))) same)
          ∙ option_map-over (written n k) _ _
          ∙ ap (λ (vs : List KeyWrite). over (option_map (written n k) (lookup (is_at (key_cmp k)) vs)) (at old n k)) (sym (writes_at-first (table, more) [] n tied)))
      | inr apart ↦
          rw apart (ap (λ (vs : List KeyWrite). over (option_map (written n k) (lookup (is_at (key_cmp k)) vs)) (at old n k)) (sym (writes_at-later (table, more) [] n apart)))
    ]

    added_at : (n : List ℕ) (k : List Value) → at ((table, more) ∷ []) n k ≡ entry_at table_key_cmp table_key_of (writes_in table more) (n, k)
    added_at n k =
        sym (found_in n k ((table, more) ∷ []) refl)
        ∙ ap (λ (ws : List Write). entry_at table_key_cmp table_key_of ws (n, k)) (one_table table more)

    alike : (q : TableKey) → entry_at table_key_cmp table_key_of (all_writes new) q ≡ entry_at table_key_cmp table_key_of (fold with_write (all_writes old) (writes_in table more)) q
    alike q =
        found_in q.0 q.1 new (names_rise new still_tables)
        ∙ ap (λ (vs : List KeyWrite). option_map (written q.0 q.1) (lookup (is_at (key_cmp q.1)) vs)) (now_at q.0)
        ∙ both q.0 q.1
        ∙ (λ i. over (added_at q.0 q.1 i) (sym (found_in q.0 q.1 old (names_rise old before)) i))
        ∙ sym (entry_at-with_entries table_key_cmp_total table_key_of (all_writes old) (writes_in table more) q (are_writes_in table more in_turn))

    pub all_noted : all_writes new ≡ fold with_write (all_writes old) (writes_in table more)
    all_noted = same_from_look_ups table_key_cmp_total table_key_of (all_writes new) (fold with_write (all_writes old) (writes_in table more))
        (are_writes new still_tables) (is_map-with_entries table_key_cmp_total table_key_of (all_writes old) (writes_in table more) (are_writes old before)) alike

  -- where the writes before are known
  pub noted_over : (xs more : List KeyWrite) → is_map key_cmp key_of_write more ≡ true → xs ≡ writes_at old table → ws ≡ fold with_key_write xs more → all_writes new ≡ fold with_write (all_writes old) (writes_in table more)
  noted_over xs more in_turn before_is now_is = all_noted more in_turn (λ k.
      ap (lookup (is_at (key_cmp k))) now_is
      ∙ read_over xs more k in_turn
      ∙ ap (λ (vs : List KeyWrite). over (lookup (is_at (key_cmp k)) more) (lookup (is_at (key_cmp k)) vs)) before_is)

  -- where there were none
  pub noted_first : is_map key_cmp key_of_write ws ≡ true → [] ≡ writes_at old table → all_writes new ≡ fold with_write (all_writes old) (writes_in table ws)
  noted_first in_turn none = all_noted ws in_turn (λ k.
      over_none (lookup (is_at (key_cmp k)) ws)
      ∙ ap (λ (vs : List KeyWrite). over (lookup (is_at (key_cmp k)) ws) (lookup (is_at (key_cmp k)) vs)) none)

-- what is read of the writes to a table
pub read_of : (writes : List Write) (n : List ℕ) (k : List Value) → row_written_at (key_writes_to n writes) k ≡ written_at writes (n, k)
read_of [] n k = refl
read_of (w ∷ writes) n k = elim (cases_Bool (same_name w.table n)) [
  | inl same ↦
      let tied : name_cmp w.table n ≡ Equal = equal_from_test _ (sym (same_name-tie w.table n) ∙ same) in
      rw (same, tied) (elim (is_eq (key_cmp w.key k)) as (λ b. option_map (λ (v : KeyWrite). v.1) (cond b (Some (key_write_of w)) (entry_at key_cmp key_of_write (key_writes_to n writes) k)) ≡ option_map (λ (v : Write). v.row) (cond b (Some w) (entry_at table_key_cmp table_key_of writes (n, k)))) [
        | true ↦ refl
        | false ↦ read_of writes n k
      ])
  | inr other ↦
      let apart : is_eq (name_cmp w.table n) ≡ false = sym (same_name-tie w.table n) ∙ other in
      rw (other, then_apart (name_cmp w.table n) (key_cmp w.key k) apart) (read_of writes n k)
]

-- ---- writes to one table, by their keys
module _ (n : List ℕ) where
  in_table : (ws : List KeyWrite) (w : KeyWrite) → writes_in n (with_key_write ws w) ≡ with_write (writes_in n ws) (written n w.0 w.1)
  in_table [] w = refl
  in_table (v ∷ ws) w = rw (tied_itself name_cmp_total n) (
      elim (key_cmp w.0 v.0) as (λ r. writes_in n (beside r v ws w (with_key_write ws w)) ≡ beside r (written n v.0 v.1) (writes_in n ws) (written n w.0 w.1) (with_write (writes_in n ws) (written n w.0 w.1))) [
        | Less ↦ refl
        | Equal ↦ refl
        | Greater ↦ ap (λ (vs : List Write). written n v.0 v.1 ∷ vs) (in_table ws w)
      ])

  gathered_from : (ws : List Write) (noted : List KeyWrite) (old : List Write) → AreWrites old → is_map key_cmp key_of_write noted ≡ true → AllByRecursion (λ w. w.table ≡ n) ws
      → fold with_write old (writes_in n (fold (λ noted w. with_key_write noted (key_write_of w)) noted ws)) ≡ fold with_write (fold with_write old (writes_in n noted)) ws
  gathered_from [] noted old h g all = refl
  gathered_from (w ∷ ws) noted old h g all =
      let more = is_map-with_entry key_cmp_total key_of_write noted (key_write_of w) g in
      gathered_from ws (with_key_write noted (key_write_of w)) old h more all.1
      ∙ ap (λ (now : List Write). fold with_write now ws) (
      ap (fold with_write old) (in_table noted (key_write_of w))
      ∙ sym (with_entry-with_entries table_key_cmp_total table_key_of old (writes_in n noted) (written n w.key w.row) h (are_writes_in n noted g))
      ∙ ap (λ (m : List ℕ). with_write (fold with_write old (writes_in n noted)) (written m w.key w.row)) (sym all.0))

  -- they make what they make one after the other
  pub gathered_alike : (ws old : List Write) → AreWrites old → AllByRecursion (λ w. w.table ≡ n) ws → fold with_write old (writes_in n (gathered ws)) ≡ fold with_write old ws
  gathered_alike ws old h all = gathered_from ws [] old h refl all
