-- The position of the row under a key.
use Rattle.std.proofs.Common.{◌≡◌, ℕ, ◌<◌, Bool, true, false, not, cond, nat_lt, List, [], ◌∷◌, length, get_or, find, Equal, Less, Option, Some, None, refl, sym, ap, ◌∙◌, inl, inr, arith, option_map, is_eq}
use Rattle.std.specs.List.{position, position_or_len, prefix_len}
use Rattle.std.proofs.lemmas.Bool.{cases_Bool, lt-ltb}
use Rattle.std.proofs.lemmas.Bool.Decides.{nat_tests}
use Rattle.std.proofs.lemmas.Cmp.{alike_right}
use Rattle.std.proofs.lemmas.List.Sums.{prefix_len_is}
use Rattle.bf_base.specs.declared.value.Value.{Value}
use Rattle.bf_base.specs.Lists.{same_key}
use Rattle.bf_base.specs.Maps.{is_map, has_key}
use Rattle.bf_base.specs.Values.{key_cmp, key_cmp_total}
use Rattle.bf_base.proofs.Order.{less_from_rises, turned_less, turned_equal, symmetric}
use Rattle.bf_heap.specs.Heaps.{Entry, key_of_entry, row_under}

not_below_itself : (n : ℕ) → nat_lt n n ≡ false
not_below_itself n = grind (arith, nat_tests)

some_at : (n size i : ℕ) → n ≡ i → i < size → cond (nat_lt n size) (Some n) None ≡ Some i
some_at n size i same below = ap (λ m. cond (nat_lt m size) (Some m) None) same ∙ ap (λ b. cond b (Some i) None) (lt-ltb i size below)

none_at : (n size : ℕ) → n ≡ size → cond (nat_lt n size) (Some n) None ≡ None
none_at n size same = ap (λ m. cond (nat_lt m size) (Some m) None) same ∙ ap (λ b. cond b (Some size) None) (not_below_itself size)

no_row : {A B : Type 0} (f : A → B) (o : Option A) → option_map f o ≡ None → o ≡ None
no_row f None none = refl
no_row f (Some x) none = absurd cc

module _ (key : List Value) where
  abbrev pub is_of : Entry → Bool
  is_of e = same_key key e.0

  -- the row at a place whose key is the same
  pub position_is : (rows : List Entry) (i : ℕ) (d : Entry) → is_map key_cmp key_of_entry rows ≡ true → i < length rows → key_cmp (get_or rows i d).0 key ≡ Equal → position is_of rows ≡ Some i
  position_is rows i d in_order within tied =
      let before : (k : ℕ) → k < i → not (is_of (get_or rows k d)) ≡ true = λ k less.
      let lesser : key_cmp (get_or rows k d).0 key ≡ Less = sym (alike_right key_cmp_total _ key (get_or rows k d).0 tied) ∙ less_from_rises key_cmp_total key_of_entry rows k i d in_order less within in
      ap (λ r. not (is_eq r)) (turned_less key_cmp_total (get_or rows k d).0 key lesser) in
      let stops : i < length rows → not (is_of (get_or rows i d)) ≡ false = λ below. ap (λ r. not (is_eq r)) (turned_equal key_cmp_total (get_or rows i d).0 key tied) in
      some_at (position_or_len is_of rows) (length rows) i (prefix_len_is (λ e. not (is_of e)) rows i d (omega (arith, within)) before stops) within

  all_before : (rows : List Entry) → find (has_key key_cmp key_of_entry key) rows ≡ None → position_or_len is_of rows ≡ length rows
  all_before [] none = refl
  all_before (e ∷ es) none = elim (cases_Bool (is_eq (key_cmp e.0 key))) [
    | inl tied ↦
        let found : Some e ≡ None = rw tied at none in
        absurd cc
    | inr apart ↦
        let rest : find (has_key key_cmp key_of_entry key) es ≡ None = rw apart at none in
        let other : is_of e ≡ false = symmetric key_cmp_total key e.0 ∙ apart in
        rw other (omega (arith, all_before es rest))
  ]

  -- and no row has the key
  pub no_position : (rows : List Entry) → row_under rows key ≡ None → position is_of rows ≡ None
  no_position rows none = none_at (position_or_len is_of rows) (length rows) (all_before rows (no_row (λ (e : Entry). e.1) _ none))
