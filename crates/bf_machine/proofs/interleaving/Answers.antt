-- The replies that stand apart from the entries, where one session has more replies and the history one more entry.
use Rattle.std.proofs.Common.{◌≡◌, ℕ, zero, suc, ◌+◌, ◌<◌, ◌≤◌, Bool, true, false, cond, List, [], ◌∷◌, ◌++◌, length, map, filter, refl, ap, ◌∙◌, arith, inl, inr}
use Rattle.std.specs.List.{AllByRecursion, enumerate_from, flat_map, slice_index_or, slice_set}
use Rattle.std.proofs.lemmas.Bool.{cases_Bool}
use Rattle.std.proofs.lemmas.List.Elements.{filter-append}
use Rattle.bf_tree.specs.declared.reply.Reply.{Reply}

-- an answered statement: its session, its place and its reply
abbrev pub Told : Type 0
Told = ℕ × ℕ × Reply

abbrev pub told_in : ℕ → ℕ → List Reply → List Told
told_in k n replies = map (λ p. (k, p.0, p.1)) (enumerate_from n replies)

abbrev pub told_from : ℕ → List (List Reply) → List Told
told_from k told = flat_map (λ s. told_in s.0 1 s.1) (enumerate_from k told)

pub told_in-append : (k n : ℕ) (xs ys : List Reply) → told_in k n (xs ++ ys) ≡ told_in k n xs ++ told_in k (n + length xs) ys
told_in-append k n [] ys =
    let here : n + 0 ≡ n = omega arith in
    rw here refl
told_in-append k n (x ∷ xs) ys =
    let next : n + 1 + length xs ≡ n + suc (length xs) = omega arith in
    ap (λ (rest : List Told). (k, n, x) ∷ rest) (told_in-append k (n + 1) xs ys ∙ ap (λ (j : ℕ). told_in k (n + 1) xs ++ told_in k j ys) next)

pub all_in_both : {X : Type 0} (P : X → Type 0) (xs ys : List X) → AllByRecursion P xs → AllByRecursion P ys → AllByRecursion P (xs ++ ys)
all_in_both P [] ys first second = second
all_in_both P (x ∷ xs) ys first second = (first.0, all_in_both P xs ys first.1 second)

pub all_of_front : {X : Type 0} (P : X → Type 0) (xs ys : List X) → AllByRecursion P (xs ++ ys) → AllByRecursion P xs
all_of_front P [] ys all = tt
all_of_front P (x ∷ xs) ys all = (all.0, all_of_front P xs ys all.1)

pub all_of_back : {X : Type 0} (P : X → Type 0) (xs ys : List X) → AllByRecursion P (xs ++ ys) → AllByRecursion P ys
all_of_back P [] ys all = all
all_of_back P (x ∷ xs) ys all = all_of_back P xs ys all.1

module _ (P Q : Told → Type 0) (p q : Told → Bool) (weaker : (a : Told) → P a → Q a) (fewer : (a : Told) → q a ≡ true → p a ≡ true) where
  pub still : (xs : List Told) → AllByRecursion P (filter p xs) → AllByRecursion Q (filter q xs)
  still [] all = tt
  still (x ∷ xs) all = elim (cases_Bool (q x)) as (λ _. AllByRecursion Q (filter q (x ∷ xs))) [
    | inr out ↦
        let rest : AllByRecursion P (filter p xs) = elim (p x) as (λ b. AllByRecursion P (cond b (x ∷ filter p xs) (filter p xs)) → AllByRecursion P (filter p xs)) [ true ↦ λ h. h.1 | false ↦ λ h. h ] all in
        rw out (still xs rest)
    | inl stays ↦
        let was : p x ≡ true = fewer x stays in
        let both : AllByRecursion P (x ∷ filter p xs) = rw was at all in
        rw stays (weaker x both.0, still xs both.1)
  ]

  pub none_kept : (k n : ℕ) (replies : List Reply) → ((j : ℕ) (r : Reply) → n ≤ j → j < n + length replies → q (k, j, r) ≡ false)
      → AllByRecursion Q (filter q (told_in k n replies))
  none_kept k n [] out = tt
  none_kept k n (r ∷ replies) out =
      let here : q (k, n, r) ≡ false = out n r (omega arith) (omega arith) in
      rw here (none_kept k (n + 1) replies (λ j r low high. out j r (omega arith) (omega arith)))

  -- or all of them are so
  pub all_so : (k n : ℕ) (replies : List Reply) → ((j : ℕ) (r : Reply) → n ≤ j → j < n + length replies → Q (k, j, r))
      → AllByRecursion Q (filter q (told_in k n replies))
  all_so k n [] so = tt
  all_so k n (r ∷ replies) so =
      let rest : AllByRecursion Q (filter q (told_in k (n + 1) replies)) = all_so k (n + 1) replies (λ j r low high. so j r (omega arith) (omega arith)) in
      elim (cases_Bool (q (k, n, r))) as (λ _. AllByRecursion Q (filter q (told_in k n (r ∷ replies)))) [
        | inl stays ↦ rw stays (so n r (omega arith) (omega arith), rest)
        | inr out ↦ rw out rest
      ]

  -- MORE is told in session k + i, of which all that the second test keeps is so
  pub told_more : (k i : ℕ) (told : List (List Reply)) (more : List Reply)
      → AllByRecursion Q (filter q (told_in (k + i) (1 + length (slice_index_or told i [])) more))
      → AllByRecursion P (filter p (told_from k told)) → AllByRecursion Q (filter q (told_from k (slice_set told i (slice_index_or told i [] ++ more))))
  told_more k i [] more new all = tt
  told_more k zero (x ∷ xs) more new all =
      let split = rw filter-append at all in
      let here : k + 0 ≡ k = omega arith in
      let first : AllByRecursion Q (filter q (told_in k 1 x)) = still (told_in k 1 x) (all_of_front P (filter p (told_in k 1 x)) _ split) in
      let added : AllByRecursion Q (filter q (told_in k (1 + length x) more)) = rw here at new in
      let own : AllByRecursion Q (filter q (told_in k 1 (x ++ more))) = rw (told_in-append k 1 x more, filter-append) (all_in_both Q (filter q (told_in k 1 x)) _ first added) in
      rw filter-append (all_in_both Q (filter q (told_in k 1 (x ++ more))) _ own (still (told_from (k + 1) xs) (all_of_back P (filter p (told_in k 1 x)) _ split)))
  told_more k (suc i) (x ∷ xs) more new all =
      let split = rw filter-append at all in
      let next : k + 1 + i ≡ k + suc i = omega arith in
      let first : AllByRecursion Q (filter q (told_in k 1 x)) = still (told_in k 1 x) (all_of_front P (filter p (told_in k 1 x)) _ split) in
      let rest = told_more (k + 1) i xs more (rw next new) (all_of_back P (filter p (told_in k 1 x)) _ split) in
      rw filter-append (all_in_both Q (filter q (told_in k 1 x)) _ first rest)
