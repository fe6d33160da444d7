-- Where a value ends in a text, and a list of values or cells.
use Rattle.std.proofs.Common.{◌≡◌, ℕ, Bool, true, false, cond, not, ◌||◌, ◌==◌, IsTrue, List, [], ◌∷◌, ◌++◌, map, flat_map, codes, drop, ℤ, unsigned_abs, refl, sym, ap, subst, ◌∙◌, append_assoc, arith}
use Rattle.std.specs.List.{list_all}
use Rattle.std.specs.Fmt.{signed_decimal}
use Rattle.std.proofs.lemmas.Bool.{and_parts, both_ways, eqb-true, eqb-false}
use Rattle.std.proofs.lemmas.Bool.Decides.{nat_tests}
use Rattle.bf_base.specs.declared.value.Value.{Value}
use Rattle.bf_base.specs.declared.value.Value.TheVariants.{Int, Text}
use Rattle.bf_tree.specs.declared.reply.Cell.{Cell}
use Rattle.bf_tree.specs.declared.reply.Cell.TheVariants as cells
use Rattle.bf_text.specs.Replies.{quoted, value_text, cell_text, listed}
use Rattle.bf_text.specs.Numbers.{is_u64, are_u64, numbers_in_value, numbers_in_cell}
use Rattle.bf_text.proofs.decoding.Runs.{is_inner, is_stop, is_end, Begins, Splits, Begins-append, Begins-weaker, begins_apart, stop_ends, signed_splits, signed_begins}

-- ---- a text between quotes

abbrev unquoted : ℕ → Bool
unquoted b = not (b == 39)

quote_ends : (c : ℕ) (t : Bool) → (c == 39) ≡ t → (r u : List ℕ) → Begins unquoted r
    → 39 ∷ r ≡ cond t (39 ∷ 39 ∷ []) (c ∷ []) ++ u → ⊥
quote_ends c true d r u h e = let next : r ≡ 39 ∷ u = ap (drop 1) e in
    both_ways false refl (subst (Begins unquoted) next h)
quote_ends c false d r u h e = eqb-false c 39 d cc

quoted_first : (b c : ℕ) (s t : Bool) → (b == 39) ≡ s → (c == 39) ≡ t → (u v : List ℕ)
    → cond s (39 ∷ 39 ∷ []) (b ∷ []) ++ u ≡ cond t (39 ∷ 39 ∷ []) (c ∷ []) ++ v → (b ≡ c) × (u ≡ v)
quoted_first b c true true p q u v e = (eqb-true b 39 p ∙ sym (eqb-true c 39 q), ap (drop 2) e)
quoted_first b c true false p q u v e = absurd (eqb-false c 39 q cc)
quoted_first b c false true p q u v e = absurd (eqb-false b 39 p cc)
quoted_first b c false false p q u v e = (cc, ap (drop 1) e)

quoted_splits : (x y r s : List ℕ) → Begins unquoted r → Begins unquoted s
    → flat_map quoted x ++ 39 ∷ r ≡ flat_map quoted y ++ 39 ∷ s → (x ≡ y) × (r ≡ s)
quoted_splits [] [] r s h k e = (refl, ap (drop 1) e)
quoted_splits [] (c ∷ y) r s h k e = absurd (quote_ends c (c == 39) refl r (flat_map quoted y ++ 39 ∷ s) h
    (e ∙ append_assoc (quoted c) (flat_map quoted y) (39 ∷ s)))
quoted_splits (b ∷ x) [] r s h k e = absurd (quote_ends b (b == 39) refl s (flat_map quoted x ++ 39 ∷ r) k
    (sym e ∙ append_assoc (quoted b) (flat_map quoted x) (39 ∷ r)))
quoted_splits (b ∷ x) (c ∷ y) r s h k e =
    let regrouped : quoted b ++ (flat_map quoted x ++ 39 ∷ r) ≡ quoted c ++ (flat_map quoted y ++ 39 ∷ s) =
    sym (append_assoc (quoted b) (flat_map quoted x) (39 ∷ r)) ∙ e
    ∙ append_assoc (quoted c) (flat_map quoted y) (39 ∷ s) in
    let first = quoted_first b c (b == 39) (c == 39) refl refl (flat_map quoted x ++ 39 ∷ r)
    (flat_map quoted y ++ 39 ∷ s) regrouped in
    let more = quoted_splits x y r s h k first.1 in
    let whole : b ∷ x ≡ c ∷ y = cc (first.0, more.0) in
    (whole, more.1)

end_unquoted : (b : ℕ) → IsTrue (is_end b) → IsTrue (unquoted b)
end_unquoted b h = grind (arith, nat_tests)

inner_unquoted : (b : ℕ) → IsTrue (is_inner b) → IsTrue (unquoted b)
inner_unquoted b h = grind (arith, nat_tests)

-- ---- values

abbrev pub value_fits : Value → Bool
value_fits v = are_u64 (numbers_in_value v)

quote_and_number : (z : ℤ) (u r s : List ℕ) → IsTrue (is_u64 (unsigned_abs z)) → 39 ∷ u ≡ signed_decimal z ++ s → ⊥
quote_and_number z u r s h e = let first : Begins unquoted (39 ∷ u) =
    subst (Begins unquoted) (sym e) (Begins-append unquoted (signed_decimal z) s
    (Begins-weaker is_inner unquoted inner_unquoted (signed_decimal z) (signed_begins z h))) in
    both_ways false refl first

pub value_splits : (v w : Value) → IsTrue (value_fits v) → IsTrue (value_fits w) → Splits value_text is_end v w
value_splits (Int y) (Int z) p q r s h k e =
    let both = signed_splits y z (and_parts (is_u64 (unsigned_abs y)) true p).0
    (and_parts (is_u64 (unsigned_abs z)) true q).0 r s h k e in
    (ap Int both.0, both.1)
value_splits (Int y) (Text c) p q r s h k e = absurd (quote_and_number y _ s r
    (and_parts (is_u64 (unsigned_abs y)) true p).0 (sym e))
value_splits (Text b) (Int z) p q r s h k e = absurd (quote_and_number z _ r s
    (and_parts (is_u64 (unsigned_abs z)) true q).0 e)
value_splits (Text b) (Text c) p q r s h k e =
    let inside : flat_map quoted b ++ 39 ∷ r ≡ flat_map quoted c ++ 39 ∷ s =
    sym (append_assoc (flat_map quoted b) (39 ∷ []) r) ∙ ap (drop 1) e
    ∙ append_assoc (flat_map quoted c) (39 ∷ []) s in
    let both = quoted_splits b c r s (Begins-weaker is_end unquoted end_unquoted r h)
    (Begins-weaker is_end unquoted end_unquoted s k) inside in
    (ap Text both.0, both.1)

-- what a value or a cell begins with: a byte of a number, a quote, or the N of NULL
abbrev is_first : ℕ → Bool
is_first b = is_inner b || b == 39

abbrev opens : ℕ → Bool
opens b = is_first b || b == 78

inner_first : (b : ℕ) → IsTrue (is_inner b) → IsTrue (is_first b)
inner_first b h = grind (arith, nat_tests)

first_opens : (b : ℕ) → IsTrue (is_first b) → IsTrue (opens b)
first_opens b h = grind (arith, nat_tests)

stop_opens_none : (b : ℕ) → IsTrue (is_stop b) → opens b ≡ false
stop_opens_none b h = grind (arith, nat_tests)

value_begins : (v : Value) → IsTrue (value_fits v) → Begins is_first (value_text v)
value_begins (Int z) h = Begins-weaker is_inner is_first inner_first (signed_decimal z)
    (signed_begins z (and_parts (is_u64 (unsigned_abs z)) true h).0)
value_begins (Text bytes) h = refl

value_opens : (v : Value) → IsTrue (value_fits v) → Begins opens (value_text v)
value_opens v h = Begins-weaker is_first opens first_opens (value_text v) (value_begins v h)

abbrev pub cell_fits : Cell → Bool
cell_fits c = are_u64 (numbers_in_cell c)

null_and_value : (v : Value) (u s : List ℕ) → IsTrue (value_fits v) → 78 ∷ u ≡ value_text v ++ s → ⊥
null_and_value v u s h e = let first : Begins is_first (78 ∷ u) =
    subst (Begins is_first) (sym e) (Begins-append is_first (value_text v) s (value_begins v h)) in absurd cc

pub cell_splits : (c d : Cell) → IsTrue (cell_fits c) → IsTrue (cell_fits d) → Splits cell_text is_end c d
cell_splits (cells.Value v) (cells.Value w) p q r s h k e = let both = value_splits v w p q r s h k e in
    (ap cells.Value both.0, both.1)
cell_splits (cells.Value v) cells.Null p q r s h k e = absurd (null_and_value v _ r p (sym e))
cell_splits cells.Null (cells.Value w) p q r s h k e = absurd (null_and_value w _ s q e)
cell_splits cells.Null cells.Null p q r s h k e = (refl, ap (drop 4) e)

cell_opens : (c : Cell) → IsTrue (cell_fits c) → Begins opens (cell_text c)
cell_opens (cells.Value v) h = value_opens v h
cell_opens cells.Null h = refl

-- ---- lists with a comma and a space between

module _ {A : Type 0} (text : A → List ℕ) (fits : A → Bool) where
  abbrev further : List A → List ℕ
  further xs = flat_map (λ y. codes ", " ++ y) (map text xs)

  further_ends : (xs : List A) (r : List ℕ) → Begins is_stop r → Begins is_end (further xs ++ r)
  further_ends [] r h = Begins-weaker is_stop is_end stop_ends r h
  further_ends (x ∷ xs) r h = refl

  further_splits : ((x y : A) → IsTrue (fits x) → IsTrue (fits y) → Splits text is_end x y) → (xs ys : List A)
      → IsTrue (list_all fits xs) → IsTrue (list_all fits ys)
      → (r s : List ℕ) → Begins is_stop r → Begins is_stop s → further xs ++ r ≡ further ys ++ s → (xs ≡ ys) × (r ≡ s)
  further_splits split [] [] p q r s h k e = (refl, e)
  further_splits split [] (y ∷ ys) p q r s h k e = let first = subst (Begins is_stop) e h in absurd cc
  further_splits split (x ∷ xs) [] p q r s h k e = let first = subst (Begins is_stop) (sym e) k in absurd cc
  further_splits split (x ∷ xs) (y ∷ ys) p q r s h k e =
      let left = and_parts (fits x) (list_all fits xs) p in
      let right = and_parts (fits y) (list_all fits ys) q in
      let regrouped : text x ++ (further xs ++ r) ≡ text y ++ (further ys ++ s) =
      sym (append_assoc (text x) (further xs) r) ∙ ap (drop 2) e ∙ append_assoc (text y) (further ys) s in
      let first = split x y left.0 right.0 (further xs ++ r) (further ys ++ s) (further_ends xs r h)
      (further_ends ys s k) regrouped in
      let more = further_splits split xs ys left.1 right.1 r s h k first.1 in
      let whole : x ∷ xs ≡ y ∷ ys = cc (first.0, more.0) in
      (whole, more.1)

  nothing_listed : ((x : A) → IsTrue (fits x) → Begins opens (text x)) → (x : A) (u r s : List ℕ) → IsTrue (fits x)
      → Begins is_stop r → r ≡ (text x ++ u) ++ s → ⊥
  nothing_listed starts x u r s p h e =
      begins_apart is_stop opens stop_opens_none r h (subst (Begins opens) (sym e)
      (Begins-append opens (text x ++ u) s (Begins-append opens (text x) u (starts x p))))

  pub listed_splits : ((x y : A) → IsTrue (fits x) → IsTrue (fits y) → Splits text is_end x y)
      → ((x : A) → IsTrue (fits x) → Begins opens (text x))
      → (xs ys : List A) → IsTrue (list_all fits xs) → IsTrue (list_all fits ys)
      → Splits (λ zs. listed (map text zs)) is_stop xs ys
  listed_splits split starts [] [] p q r s h k e = (refl, e)
  listed_splits split starts [] (y ∷ ys) p q r s h k e = absurd
      (nothing_listed starts y (further ys) r s (and_parts (fits y) (list_all fits ys) q).0 h e)
  listed_splits split starts (x ∷ xs) [] p q r s h k e = absurd
      (nothing_listed starts x (further xs) s r (and_parts (fits x) (list_all fits xs) p).0 k (sym e))
  listed_splits split starts (x ∷ xs) (y ∷ ys) p q r s h k e =
      let left = and_parts (fits x) (list_all fits xs) p in
      let right = and_parts (fits y) (list_all fits ys) q in
      let regrouped : text x ++ (further xs ++ r) ≡ text y ++ (further ys ++ s) =
      sym (append_assoc (text x) (further xs) r) ∙ e ∙ append_assoc (text y) (further ys) s in
      let first = split x y left.0 right.0 (further xs ++ r) (further ys ++ s) (further_ends xs r h)
      (further_ends ys s k) regrouped in
      let more = further_splits split xs ys left.1 right.1 r s h k first.1 in
      let whole : x ∷ xs ≡ y ∷ ys = cc (first.0, more.0) in
      (whole, more.1)

pub values_split : (vs ws : List Value) → IsTrue (list_all value_fits vs) → IsTrue (list_all value_fits ws)
    → Splits (λ zs. listed (map value_text zs)) is_stop vs ws
values_split = listed_splits value_text value_fits value_splits value_opens

pub cells_split : (xs ys : List Cell) → IsTrue (list_all cell_fits xs) → IsTrue (list_all cell_fits ys)
    → Splits (λ zs. listed (map cell_text zs)) is_stop xs ys
cells_split = listed_splits cell_text cell_fits cell_splits cell_opens
