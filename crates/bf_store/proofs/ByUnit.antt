-- Marks that are kept by unit are those of one map in the order of unit and place.
use Rattle.std.proofs.Common.{◌≡◌, ℕ, zero, suc, ◌+◌, ◌<◌, ◌≤◌, true, false, cond, List, [], ◌∷◌, ◌++◌, map, length, get_or, Ordering, Less, Equal, Greater, Some, None, is_eq, is_some, nat_cmp, refl, sym, ap, ◌∙◌, arith, add-one, drop, drop-cons}
use Rattle.std.proofs.Math.ListN.{set}
use Rattle.std.specs.BTreeMap.{insert_entry, is_at}
use Rattle.std.specs.Cmp.{nat_cmp_is}
use Rattle.std.specs.List.{AllByRecursion}
use Rattle.std.specs.Map.{keys_of, lookup, remove_entry}
use Rattle.std.specs.Ordering.{match_ordering, ordering_then}
use Rattle.std.proofs.lemmas.Cmp.{nat_cmp_total, tied_itself}
use Rattle.std.proofs.lemmas.List.{append-nil}
use Rattle.bf_base.specs.declared.granule.Granule.{Granule}
use Rattle.bf_base.specs.declared.granule.Place.{Place}
use Rattle.bf_base.specs.declared.granule.Place.TheVariants.{Row, Group}
use Rattle.bf_base.specs.declared.value.Value.{Value}
use Rattle.bf_base.specs.Values.{key_cmp}
use Rattle.bf_store.specs.ByUnit.{Numbered, at_place, from_unit, named, of_rows, of_unit, of_values}
use Rattle.bf_store.specs.States.{granule_cmp, place_cmp}
use Rattle.bf_store.specs.declared.unit_marks.UnitMarks.{UnitMarks}

-- a key compares alike with each of some entries
abbrev pub Compares : {K : Type 0} → (K → K → Ordering) → K → Ordering → List (K × ℕ) → Type 0
Compares cmp k r es = AllByRecursion (λ e. cmp k e.0 ≡ r) es

-- what is done at a key passes over the entries before it, and does not come to those behind it
pub record Passes {K : Type 0} (cmp : K → K → Ordering) (k : K) (f : List (K × ℕ) → List (K × ℕ)) : Type 0 where
  pub over : (xs ys : List (K × ℕ)) → Compares cmp k Greater xs → f (xs ++ ys) ≡ xs ++ f ys
  pub before : (xs ys : List (K × ℕ)) → Compares cmp k Less ys → f (xs ++ ys) ≡ f xs ++ ys

module _ {K : Type 0} (cmp : K → K → Ordering) (k : K) where
  module _ (n : ℕ) where
    inserted_over : (xs ys : List (K × ℕ)) → Compares cmp k Greater xs → insert_entry cmp (xs ++ ys) k n ≡ xs ++ insert_entry cmp ys k n
    inserted_over [] ys h = refl
    inserted_over (x ∷ xs) ys h = rw h.0 (ap (λ es. x ∷ es) (inserted_over xs ys h.1))

    inserted_before : (xs ys : List (K × ℕ)) → Compares cmp k Less ys → insert_entry cmp (xs ++ ys) k n ≡ insert_entry cmp xs k n ++ ys
    inserted_before [] [] h = refl
    inserted_before [] (y ∷ ys) h = rw h.0 refl
    inserted_before (x ∷ xs) ys h =
        elim (cmp k x.0) as (λ r. match_ordering r ((k, n) ∷ x ∷ (xs ++ ys)) ((x.0, n) ∷ (xs ++ ys)) (x ∷ insert_entry cmp (xs ++ ys) k n) ≡ match_ordering r ((k, n) ∷ x ∷ xs) ((x.0, n) ∷ xs) (x ∷ insert_entry cmp xs k n) ++ ys) [
          | Less ↦ refl
          | Equal ↦ refl
          | Greater ↦ ap (λ es. x ∷ es) (inserted_before xs ys h)
        ]

    pub insertion_passes : Passes cmp k (λ es. insert_entry cmp es k n)
    insertion_passes = record { over = inserted_over; before = inserted_before }

    -- a new key is one more
    pub length-inserted : (es : List (K × ℕ)) → lookup (is_at (cmp k)) es ≡ None → length (insert_entry cmp es k n) ≡ length es + 1
    length-inserted [] none = refl
    length-inserted (e ∷ es) none =
        elim (cmp k e.0) as (λ r. cond (is_eq r) (Some e.1) (lookup (is_at (cmp k)) es) ≡ None → length (match_ordering r ((k, n) ∷ e ∷ es) ((e.0, n) ∷ es) (e ∷ insert_entry cmp es k n)) ≡ length (e ∷ es) + 1) [
          | Less ↦ λ h. omega arith
          | Equal ↦ λ h. absurd cc
          | Greater ↦ λ h. let rest = length-inserted es h in omega arith
        ] none

  pub nothing_passes : Passes cmp k (λ es. es)
  nothing_passes = record { over = λ xs ys h. refl; before = λ xs ys h. refl }

  removed_over : (xs ys : List (K × ℕ)) → Compares cmp k Greater xs → remove_entry (is_at (cmp k)) (xs ++ ys) ≡ xs ++ remove_entry (is_at (cmp k)) ys
  removed_over [] ys h = refl
  removed_over (x ∷ xs) ys h = rw h.0 (ap (λ es. x ∷ es) (removed_over xs ys h.1))

  removed_before : (xs ys : List (K × ℕ)) → Compares cmp k Less ys → remove_entry (is_at (cmp k)) (xs ++ ys) ≡ remove_entry (is_at (cmp k)) xs ++ ys
  removed_before [] [] h = refl
  removed_before [] (y ∷ ys) h = rw h.0 (ap (λ es. y ∷ es) (removed_before [] ys h.1))
  removed_before (x ∷ xs) ys h = elim (is_eq (cmp k x.0)) as (λ b. cond b (xs ++ ys) (x ∷ remove_entry (is_at (cmp k)) (xs ++ ys)) ≡ cond b xs (x ∷ remove_entry (is_at (cmp k)) xs) ++ ys) [
    | true ↦ refl
    | false ↦ ap (λ es. x ∷ es) (removed_before xs ys h)
  ]

  pub removal_passes : Passes cmp k (λ es. remove_entry (is_at (cmp k)) es)
  removal_passes = record { over = removed_over; before = removed_before }

  pub found_over : (xs ys : List (K × ℕ)) → Compares cmp k Greater xs → lookup (is_at (cmp k)) (xs ++ ys) ≡ lookup (is_at (cmp k)) ys
  found_over [] ys h = refl
  found_over (x ∷ xs) ys h = rw h.0 (found_over xs ys h.1)

  pub found_before : (xs ys : List (K × ℕ)) → Compares cmp k Less ys → lookup (is_at (cmp k)) (xs ++ ys) ≡ lookup (is_at (cmp k)) xs
  found_before [] [] h = refl
  found_before [] (y ∷ ys) h = rw h.0 (found_before [] ys h.1)
  found_before (x ∷ xs) ys h = ap (cond (is_eq (cmp k x.0)) (Some x.1)) (found_before xs ys h)

-- an entry that is there is one less, and one that isn't changes nothing
pub length-removed : {K : Type 0} (test : K → _) (es : List (K × ℕ)) → is_some (lookup test es) ≡ true → length (remove_entry test es) + 1 ≡ length es
length-removed test [] some = absurd cc
length-removed test (e ∷ es) some = elim (test e.0) as (λ b. is_some (cond b (Some e.1) (lookup test es)) ≡ true → length (cond b es (e ∷ remove_entry test es)) + 1 ≡ length (e ∷ es)) [
  | true ↦ λ h. omega arith
  | false ↦ λ h. let rest = length-removed test es h in omega arith
] some

pub nothing_removed : {K : Type 0} (test : K → _) (es : List (K × ℕ)) → is_some (lookup test es) ≡ false → remove_entry test es ≡ es
nothing_removed test [] none = refl
nothing_removed test (e ∷ es) none = elim (test e.0) as (λ b. is_some (cond b (Some e.1) (lookup test es)) ≡ false → cond b es (e ∷ remove_entry test es) ≡ e ∷ es) [
  | true ↦ λ h. absurd cc
  | false ↦ λ h. ap (λ fs. e ∷ fs) (nothing_removed test es h)
] none

-- names that keep the order
module _ {K L : Type 0} (cmp : K → K → Ordering) (order : L → L → Ordering) (name : K → L) (same : (a b : K) → order (name a) (name b) ≡ cmp a b) where
  named_lookup : (es : List (K × ℕ)) (k : K) → lookup (is_at (cmp k)) es ≡ lookup (is_at (order (name k))) (named name es)
  named_lookup [] k = refl
  named_lookup (e ∷ es) k = rw (same k e.0) (ap (cond (is_eq (cmp k e.0)) (Some e.1)) (named_lookup es k))

  named_inserted : (es : List (K × ℕ)) (k : K) (n : ℕ) → named name (insert_entry cmp es k n) ≡ insert_entry order (named name es) (name k) n
  named_inserted [] k n = refl
  named_inserted (e ∷ es) k n =
      rw (same k e.0)
      (elim (cmp k e.0) as (λ r. named name (match_ordering r ((k, n) ∷ e ∷ es) ((e.0, n) ∷ es) (e ∷ insert_entry cmp es k n)) ≡ match_ordering r ((name k, n) ∷ named name (e ∷ es)) ((name e.0, n) ∷ named name es) ((name e.0, e.1) ∷ insert_entry order (named name es) (name k) n)) [
        | Less ↦ refl
        | Equal ↦ refl
        | Greater ↦ ap (λ (fs : List (L × ℕ)). (name e.0, e.1) ∷ fs) (named_inserted es k n)
      ])

  named_removed : (es : List (K × ℕ)) (k : K) → named name (remove_entry (is_at (cmp k)) es) ≡ remove_entry (is_at (order (name k))) (named name es)
  named_removed [] k = refl
  named_removed (e ∷ es) k =
      rw (same k e.0)
      (elim (is_eq (cmp k e.0)) as (λ b. named name (cond b es (e ∷ remove_entry (is_at (cmp k)) es)) ≡ cond b (named name es) ((name e.0, e.1) ∷ remove_entry (is_at (order (name k))) (named name es))) [
        | true ↦ refl
        | false ↦ ap (λ (fs : List (L × ℕ)). (name e.0, e.1) ∷ fs) (named_removed es k)
      ])

named_compares : {K L : Type 0} (order : L → L → Ordering) (name : K → L) (l : L) (r : Ordering) → ((k : K) → order l (name k) ≡ r) → (es : List (K × ℕ)) → Compares order l r (named name es)
named_compares order name l r each [] = tt
named_compares order name l r each (e ∷ es) = (each e.0, named_compares order name l r each es)

both_compare : {K : Type 0} (cmp : K → K → Ordering) (k : K) (r : Ordering) (xs ys : List (K × ℕ)) → Compares cmp k r xs → Compares cmp k r ys → Compares cmp k r (xs ++ ys)
both_compare cmp k r [] ys h g = g
both_compare cmp k r (x ∷ xs) ys h g = (h.0, both_compare cmp k r xs ys h.1 g)

-- the order of granules, by unit and then by place
at_unit : (u : ℕ) (p q : Place) → granule_cmp (at_place u p) (at_place u q) ≡ place_cmp p q
at_unit u p q = ap (λ r. ordering_then r (place_cmp p q)) (tied_itself nat_cmp_total u)

before_unit : (u v : ℕ) (p q : Place) → u < v → granule_cmp (at_place u p) (at_place v q) ≡ Less
before_unit u v p q less = ap (λ r. ordering_then r (place_cmp p q)) (sym (nat_cmp_is u v Less less))

behind_unit : (u v : ℕ) (p q : Place) → v < u → granule_cmp (at_place u p) (at_place v q) ≡ Greater
behind_unit u v p q less = ap (λ r. ordering_then r (place_cmp p q)) (sym (nat_cmp_is u v Greater less))

module _ (u : ℕ) (p : Place) where
  abbrev here : Granule
  here = at_place u p

  unit_compares : (r : Ordering) (v : ℕ) → ((q : Place) → granule_cmp here (at_place v q) ≡ r) → (m : UnitMarks) → Compares granule_cmp here r (of_unit v m)
  unit_compares r v each m =
      both_compare granule_cmp here r (of_rows v m.rows) (of_values v m.values.entries)
      (named_compares granule_cmp (λ n. at_place v (Row n)) here r (λ n. each (Row n)) m.rows)
      (named_compares granule_cmp (λ value. at_place v (Group value)) here r (λ value. each (Group value)) m.values.entries)

  units_behind : (s : ℕ) (ms : List UnitMarks) → u < s → Compares granule_cmp here Less (from_unit s ms)
  units_behind s [] less = tt
  units_behind s (m ∷ ms) less =
      both_compare granule_cmp here Less (of_unit s m) (from_unit (suc s) ms)
      (unit_compares Less s (λ q. before_unit u s p q less) m)
      (units_behind (suc s) ms (omega arith))

  -- what is done at a granule is done in its unit
  pub in_its_unit : (f : List Numbered → List Numbered) → Passes granule_cmp here f
      → (s : ℕ) (ms : List UnitMarks) (i : ℕ) (x m : UnitMarks) → u ≡ s + i → i < length ms → x ≡ get_or ms i x → of_unit u m ≡ f (of_unit u x)
      → from_unit s (set ms i m) ≡ f (from_unit s ms)
  in_its_unit f passes s [] i x m at in_range is change = absurd (omega arith)
  in_its_unit f passes s (y ∷ ms) zero x m at in_range is change =
      let same : s ≡ u = omega arith in
      let behind : Compares granule_cmp here Less (from_unit (suc s) ms) = units_behind (suc s) ms (omega arith) in
      ap (λ es. es ++ from_unit (suc s) ms) (ap (λ v. of_unit v m) same ∙ change ∙ ap (λ (z : UnitMarks). f (of_unit u z)) is ∙ ap (λ v. f (of_unit v y)) (sym same))
      ∙ sym (passes.before (of_unit s y) (from_unit (suc s) ms) behind)
  in_its_unit f passes s (y ∷ ms) (suc i) x m at in_range is change =
      let first : Compares granule_cmp here Greater (of_unit s y) = unit_compares Greater s (λ q. behind_unit u s p q (omega arith)) y in
      ap (λ es. of_unit s y ++ es) (in_its_unit f passes (suc s) ms i x m (omega arith) (omega arith) is change)
      ∙ sym (passes.over (of_unit s y) (from_unit (suc s) ms) first)

  -- a granule is looked up in its unit
  pub found_in_unit : (s : ℕ) (ms : List UnitMarks) (i : ℕ) (x : UnitMarks) → u ≡ s + i → i < length ms → x ≡ get_or ms i x
      → lookup (is_at (granule_cmp here)) (of_unit u x) ≡ lookup (is_at (granule_cmp here)) (from_unit s ms)
  found_in_unit s [] i x at in_range is = absurd (omega arith)
  found_in_unit s (y ∷ ms) zero x at in_range is =
      let same : u ≡ s = omega arith in
      ap (λ (z : UnitMarks). lookup (is_at (granule_cmp here)) (of_unit u z)) is
      ∙ ap (λ v. lookup (is_at (granule_cmp here)) (of_unit v y)) same
      ∙ sym (found_before granule_cmp here (of_unit s y) (from_unit (suc s) ms) (units_behind (suc s) ms (omega arith)))
  found_in_unit s (y ∷ ms) (suc i) x at in_range is =
      found_in_unit (suc s) ms i x (omega arith) (omega arith) is
      ∙ sym (found_over granule_cmp here (of_unit s y) (from_unit (suc s) ms) (unit_compares Greater s (λ q. behind_unit u s p q (omega arith)) y))

  -- and of a unit that is not kept nothing has moved
  pub no_unit : (s : ℕ) (ms : List UnitMarks) → s + length ms ≤ u → lookup (is_at (granule_cmp here)) (from_unit s ms) ≡ None
  no_unit s [] beyond = refl
  no_unit s (y ∷ ms) beyond =
      found_over granule_cmp here (of_unit s y) (from_unit (suc s) ms) (unit_compares Greater s (λ q. behind_unit u s p q (omega arith)) y)
      ∙ no_unit (suc s) ms (omega arith)

-- a unit without marks adds nothing
pub empty_unit : (s : ℕ) (ms : List UnitMarks) (m : UnitMarks) → ((u : ℕ) → of_unit u m ≡ []) → from_unit s (ms ++ m ∷ []) ≡ from_unit s ms
empty_unit s [] m empty = append-nil (of_unit s m) ∙ empty s
empty_unit s (x ∷ ms) m empty = ap (λ es. of_unit s x ++ es) (empty_unit (suc s) ms m empty)

-- within a unit, rows come before values
module _ (u : ℕ) (rows : List (ℕ × ℕ)) (values : List (List Value × ℕ)) where
  module _ (n : ℕ) where
    values_behind : Compares granule_cmp (at_place u (Row n)) Less (of_values u values)
    values_behind = named_compares granule_cmp (λ value. at_place u (Group value)) (at_place u (Row n)) Less (λ value. at_unit u (Row n) (Group value)) values

    pub row_found : lookup (is_at (nat_cmp n)) rows ≡ lookup (is_at (granule_cmp (at_place u (Row n)))) (of_rows u rows ++ of_values u values)
    row_found =
        named_lookup nat_cmp granule_cmp (λ k. at_place u (Row k)) (λ a b. at_unit u (Row a) (Row b)) rows n
        ∙ sym (found_before granule_cmp (at_place u (Row n)) (of_rows u rows) (of_values u values) values_behind)

    pub row_marked : (number : ℕ) → of_rows u (insert_entry nat_cmp rows n number) ++ of_values u values ≡ insert_entry granule_cmp (of_rows u rows ++ of_values u values) (at_place u (Row n)) number
    row_marked number =
        ap (λ es. es ++ of_values u values) (named_inserted nat_cmp granule_cmp (λ k. at_place u (Row k)) (λ a b. at_unit u (Row a) (Row b)) rows n number)
        ∙ sym ((insertion_passes granule_cmp (at_place u (Row n)) number).before (of_rows u rows) (of_values u values) values_behind)

    pub row_unmarked : of_rows u (remove_entry (is_at (nat_cmp n)) rows) ++ of_values u values ≡ remove_entry (is_at (granule_cmp (at_place u (Row n)))) (of_rows u rows ++ of_values u values)
    row_unmarked =
        ap (λ es. es ++ of_values u values) (named_removed nat_cmp granule_cmp (λ k. at_place u (Row k)) (λ a b. at_unit u (Row a) (Row b)) rows n)
        ∙ sym ((removal_passes granule_cmp (at_place u (Row n))).before (of_rows u rows) (of_values u values) values_behind)

  module _ (v : List Value) where
    rows_before : Compares granule_cmp (at_place u (Group v)) Greater (of_rows u rows)
    rows_before = named_compares granule_cmp (λ k. at_place u (Row k)) (at_place u (Group v)) Greater (λ k. at_unit u (Group v) (Row k)) rows

    pub value_found : lookup (is_at (key_cmp v)) values ≡ lookup (is_at (granule_cmp (at_place u (Group v)))) (of_rows u rows ++ of_values u values)
    value_found =
        named_lookup key_cmp granule_cmp (λ k. at_place u (Group k)) (λ a b. at_unit u (Group a) (Group b)) values v
        ∙ sym (found_over granule_cmp (at_place u (Group v)) (of_rows u rows) (of_values u values) rows_before)

    pub value_marked : (number : ℕ) → of_rows u rows ++ of_values u (insert_entry key_cmp values v number) ≡ insert_entry granule_cmp (of_rows u rows ++ of_values u values) (at_place u (Group v)) number
    value_marked number =
        ap (λ es. of_rows u rows ++ es) (named_inserted key_cmp granule_cmp (λ k. at_place u (Group k)) (λ a b. at_unit u (Group a) (Group b)) values v number)
        ∙ sym ((insertion_passes granule_cmp (at_place u (Group v)) number).over (of_rows u rows) (of_values u values) rows_before)

    pub value_unmarked : of_rows u rows ++ of_values u (remove_entry (is_at (key_cmp v)) values) ≡ remove_entry (is_at (granule_cmp (at_place u (Group v)))) (of_rows u rows ++ of_values u values)
    value_unmarked =
        ap (λ es. of_rows u rows ++ es) (named_removed key_cmp granule_cmp (λ k. at_place u (Group k)) (λ a b. at_unit u (Group a) (Group b)) values v)
        ∙ sym ((removal_passes granule_cmp (at_place u (Group v))).over (of_rows u rows) (of_values u values) rows_before)

-- the granules of named entries
pub keys-named : {K L : Type 0} (name : K → L) (es : List (K × ℕ)) → keys_of (named name es) ≡ map name (keys_of es)
keys-named name [] = refl
keys-named name (e ∷ es) = ap (λ ks. name e.0 ∷ ks) (keys-named name es)

pub keys-append : {K : Type 0} (xs ys : List (K × ℕ)) → keys_of (xs ++ ys) ≡ keys_of xs ++ keys_of ys
keys-append [] ys = refl
keys-append (x ∷ xs) ys = ap (λ ks. x.0 ∷ ks) (keys-append xs ys)

-- a unit, and those behind it
pub one_unit : (i : ℕ) (ms : List UnitMarks) (x : UnitMarks) → i < length ms → x ≡ get_or ms i x → of_unit i x ++ from_unit (i + 1) (drop (i + 1) ms) ≡ from_unit i (drop i ms)
one_unit i ms x in_range is = rw add-one (ap (from_unit i) (sym (drop-cons ms i x in_range ∙ ap (λ (y : UnitMarks). y ∷ drop (suc i) ms) (sym is))))
