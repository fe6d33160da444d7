-- A list of which the last item goes to the end of another, one after another.
use Rattle.std.proofs.Common.{◌≡◌, ℕ, zero, suc, ◌+◌, ◌<◌, ◌≤◌, List, [], ◌∷◌, ◌++◌, length, get_or, take, drop, reverse, refl, sym, ap, ◌∙◌, arith}
use Rattle.std.proofs.lemmas.List.{drop_more, reverse-append}

module _ {X : Type 0} where
  take_of_take : (n m : ℕ) (xs : List X) → n ≤ m → take n (take m xs) ≡ take n xs
  take_of_take zero m xs le = refl
  take_of_take (suc n) zero xs le = absurd (omega arith)
  take_of_take (suc n) (suc m) [] le = refl
  take_of_take (suc n) (suc m) (x ∷ xs) le = ap (λ zs. x ∷ zs) (take_of_take n m xs (omega arith))

  get_of_take : (n m : ℕ) (xs : List X) (d : X) → n < m → get_or (take m xs) n d ≡ get_or xs n d
  get_of_take n zero xs d lt = absurd (omega arith)
  get_of_take n (suc m) [] d lt = refl
  get_of_take zero (suc m) (x ∷ xs) d lt = refl
  get_of_take (suc n) (suc m) (x ∷ xs) d lt = get_of_take n m xs d (omega arith)

  -- the front that is left
  pub less_left : (xs left now : List X) (n m : ℕ) → left ≡ take (n + 1) xs → now ≡ take m left → m ≡ n → now ≡ take n xs
  less_left xs left now n m is rest same = rest ∙ ap (λ k. take k left) same ∙ ap (take n) is ∙ take_of_take n (n + 1) xs (omega arith)

  -- the rest, turned
  pub more_moved : (xs left moved : List X) (x : X) (n m : ℕ) → left ≡ take (n + 1) xs → x ≡ get_or left m x → m ≡ n → n < length xs → moved ≡ reverse (drop (n + 1) xs) → moved ++ x ∷ [] ≡ reverse (drop n xs)
  more_moved xs left moved x n m is item same within before =
      let this : x ≡ get_or xs n x = item ∙ ap (λ k. get_or left k x) same ∙ ap (λ l. get_or l n x) is ∙ get_of_take n (n + 1) xs x (omega arith) in
      let rest : drop n xs ≡ x ∷ drop (n + 1) xs = drop_more xs n x within ∙ ap (λ y. y ∷ drop (n + 1) xs) (sym this) in
      ap (λ l. l ++ x ∷ []) before ∙ sym (ap reverse rest ∙ reverse-append (x ∷ []) (drop (n + 1) xs))
