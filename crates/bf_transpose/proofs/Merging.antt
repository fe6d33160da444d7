-- The least value that a pass over two indexes has ahead.
use Rattle.std.proofs.Common.{◌≡◌, ℕ, zero, suc, ◌+◌, true, List, [], ◌∷◌, ◌++◌, map, drop, Some, None, Less, Equal, Greater, is_lt, refl, sym, ap, ap₂, ◌∙◌, arith}
use Rattle.std.specs.Prelude.{slice_get}
use Rattle.std.specs.List.{list_all}
use Rattle.std.proofs.lemmas.Bool.{and_from}
use Rattle.std.proofs.lemmas.Option.{same_Some}
use Rattle.bf_base.specs.declared.value.Value.{Value}
use Rattle.bf_base.specs.Lists.{rises}
use Rattle.bf_base.specs.Values.{key_cmp, key_cmp_total, key_cmp-IsAntisymmetric}
use Rattle.bf_base.proofs.Order.{rises_tail, turned}
use Rattle.bf_index.specs.ByValues.{Valued, value_of}
use Rattle.bf_transpose.specs.InOrder.{values_in}
use Rattle.bf_transpose.proofs.Rising.{above_all, both_first, left_first, right_first}

-- the values from a place on
abbrev pub values_from : List Valued → ℕ → List (List Value)
values_from entries place = map value_of (drop place entries)

head_at : (xs : List Valued) (i : ℕ) (e : Valued) → Some e ≡ slice_get xs i → values_from xs i ≡ e.0 ∷ values_from xs (i + 1)
head_at [] zero e is = absurd cc
head_at [] (suc i) e is = absurd cc
head_at (x ∷ xs) zero e is = ap (λ (y : Valued). y.0 ∷ map value_of xs) (sym (same_Some e x is))
head_at (x ∷ xs) (suc i) e is =
    let next : suc i + 1 ≡ suc (i + 1) = omega arith in
    rw next (head_at xs i e is)

none_at : (xs : List Valued) (i : ℕ) → None ≡ slice_get xs i → values_from xs i ≡ []
none_at [] zero is = refl
none_at [] (suc i) is = refl
none_at (x ∷ xs) zero is = absurd cc
none_at (x ∷ xs) (suc i) is = none_at xs i is

rises_from : (xs : List Valued) (i : ℕ) → rises key_cmp (map value_of xs) ≡ true → rises key_cmp (values_from xs i) ≡ true
rises_from xs zero up = up
rises_from [] (suc i) up = up
rises_from (x ∷ xs) (suc i) up = rises_from xs i (rises_tail key_cmp_total x.0 (map value_of xs) up)

module _ (left right : List Valued) (i j : ℕ) (left_up : rises key_cmp (map value_of left) ≡ true) (right_up : rises key_cmp (map value_of right) ≡ true) where
  abbrev pub ahead : ℕ → ℕ → List (List Value)
  ahead l r = values_in (values_from left l ++ values_from right r)

  module _ (e : Valued) (there : Some e ≡ slice_get left i) where
    left_rises : rises key_cmp (e.0 ∷ values_from left (i + 1)) ≡ true
    left_rises = ap (rises key_cmp) (sym (head_at left i e there)) ∙ rises_from left i left_up

    -- the left one alone has a value ahead
    pub only_left : None ≡ slice_get right j → e.0 ∷ ahead (i + 1) j ≡ ahead i j
    only_left none =
        left_first e.0 (values_from left (i + 1)) (values_from right j) left_rises (ap (list_all (λ k. is_lt (key_cmp e.0 k))) (none_at right j none))
        ∙ ap (λ ls. values_in (ls ++ values_from right j)) (sym (head_at left i e there))

  module _ (f : Valued) (there : Some f ≡ slice_get right j) where
    right_rises : rises key_cmp (f.0 ∷ values_from right (j + 1)) ≡ true
    right_rises = ap (rises key_cmp) (sym (head_at right j f there)) ∙ rises_from right j right_up

    -- the right one alone has
    pub only_right : None ≡ slice_get left i → f.0 ∷ ahead i (j + 1) ≡ ahead i j
    only_right none =
        right_first f.0 (values_from left i) (values_from right (j + 1)) right_rises (ap (list_all (λ k. is_lt (key_cmp f.0 k))) (none_at left i none))
        ∙ ap (λ rs. values_in (values_from left i ++ rs)) (sym (head_at right j f there))

  -- both have one, and either comes first, or they are equal
  module _ (e f : Valued) (here : Some e ≡ slice_get left i) (there : Some f ≡ slice_get right j) where
    pub left_less : key_cmp e.0 f.0 ≡ Less → e.0 ∷ ahead (i + 1) j ≡ ahead i j
    left_less less =
        left_first e.0 (values_from left (i + 1)) (values_from right j) (left_rises e here)
        (ap (list_all (λ k. is_lt (key_cmp e.0 k))) (head_at right j f there) ∙ above_all e.0 (f.0 ∷ values_from right (j + 1)) (and_from _ _ (ap is_lt less) (right_rises f there)))
        ∙ ap (λ ls. values_in (ls ++ values_from right j)) (sym (head_at left i e here))

    pub right_less : key_cmp e.0 f.0 ≡ Greater → f.0 ∷ ahead i (j + 1) ≡ ahead i j
    right_less greater =
        right_first f.0 (values_from left i) (values_from right (j + 1)) (right_rises f there)
        (ap (list_all (λ k. is_lt (key_cmp f.0 k))) (head_at left i e here) ∙ above_all f.0 (e.0 ∷ values_from left (i + 1)) (and_from _ _ (ap is_lt (turned key_cmp_total e.0 f.0 greater)) (left_rises e here)))
        ∙ ap (λ rs. values_in (values_from left i ++ rs)) (sym (head_at right j f there))

    pub alike : key_cmp e.0 f.0 ≡ Equal → e.0 ∷ ahead (i + 1) (j + 1) ≡ ahead i j
    alike tied =
        let same : e.0 ≡ f.0 = key_cmp-IsAntisymmetric e.0 f.0 tied in
        let rest = values_from right (j + 1) in
        both_first e.0 (values_from left (i + 1)) rest (left_rises e here) (ap (λ k. rises key_cmp (k ∷ rest)) same ∙ right_rises f there)
        ∙ ap₂ (λ ls rs. values_in (ls ++ rs)) (sym (head_at left i e here)) (ap (λ k. k ∷ rest) same ∙ sym (head_at right j f there))

  pub nothing : None ≡ slice_get left i → None ≡ slice_get right j → [] ≡ ahead i j
  nothing here there = ap₂ (λ ls rs. values_in (ls ++ rs)) (sym (none_at left i here)) (sym (none_at right j there))
