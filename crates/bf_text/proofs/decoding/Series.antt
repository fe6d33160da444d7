-- Texts one behind the other: of a known number of things, or up to a text that none of them begins.
use Rattle.std.proofs.Common.{◌≡◌, ℕ, ◌+◌, Bool, true, false, IsTrue, List, [], ◌∷◌, ◌++◌, length, map, flat_map, refl, sym, ap, ◌∙◌, append_assoc, arith}
use Rattle.std.specs.Prelude.{⊤}
use Rattle.std.specs.List.{list_all}
use Rattle.std.proofs.lemmas.Bool.{and_parts, both_ways}
use Rattle.bf_text.specs.Report.{texts_from}

-- as many of the one as of the other, and each pair alike
abbrev pub AllAlike : {X : Type 0} → (X → X → Type 0) → List X → List X → Type 0
AllAlike Alike [] [] = ⊤
AllAlike Alike (x ∷ xs) (y ∷ ys) = Alike x y × AllAlike Alike xs ys
AllAlike Alike xs ys = ⊥

-- where both pass a test and are of one size
abbrev pub AreOfOneSize : {X : Type 0} → (X → ℕ) → (X → Bool) → X → X → Type 0
AreOfOneSize size test x y = (size x ≡ size y) × IsTrue (test x) × IsTrue (test y)

pub alike_by_sizes : {X : Type 0} (size : X → ℕ) (test : X → Bool) (xs ys : List X) → map size xs ≡ map size ys
    → IsTrue (list_all test xs) → IsTrue (list_all test ys) → AllAlike (AreOfOneSize size test) xs ys
alike_by_sizes size test [] [] e p q = tt
alike_by_sizes size test [] (y ∷ ys) e p q = absurd cc
alike_by_sizes size test (x ∷ xs) [] e p q = absurd cc
alike_by_sizes size test (x ∷ xs) (y ∷ ys) e p q =
    let left = and_parts (test x) (list_all test xs) p in
    let right = and_parts (test y) (list_all test ys) q in
    ((cc, left.0, right.0), alike_by_sizes size test xs ys (cc) left.1 right.1)

-- things whose sizes do not matter
abbrev pub sizeless : {X : Type 0} → X → ℕ
sizeless x = 0

sizeless_alike : {X : Type 0} (xs ys : List X) → length xs ≡ length ys → map sizeless xs ≡ map sizeless ys
sizeless_alike [] [] e = refl
sizeless_alike [] (y ∷ ys) e = absurd (omega arith)
sizeless_alike (x ∷ xs) [] e = absurd (omega arith)
sizeless_alike (x ∷ xs) (y ∷ ys) e = ap (λ (zs : List ℕ). 0 ∷ zs) (sizeless_alike xs ys (omega arith))

pub alike_by_length : {X : Type 0} (test : X → Bool) (xs ys : List X) → length xs ≡ length ys
    → IsTrue (list_all test xs) → IsTrue (list_all test ys) → AllAlike (AreOfOneSize sizeless test) xs ys
alike_by_length test xs ys e p q = alike_by_sizes sizeless test xs ys (sizeless_alike xs ys e) p q

module _ {X : Type 0} (text : ℕ → X → List ℕ) where
  pub alike_split : (Alike : X → X → Type 0) → ((n : ℕ) (x y : X) (r s : List ℕ) → Alike x y
      → text n x ++ r ≡ text n y ++ s → (x ≡ y) × (r ≡ s))
      → (n : ℕ) (xs ys : List X) (r s : List ℕ) → AllAlike Alike xs ys
      → texts_from text n xs ++ r ≡ texts_from text n ys ++ s → (xs ≡ ys) × (r ≡ s)
  alike_split Alike split n [] [] r s a e = (refl, e)
  alike_split Alike split n [] (y ∷ ys) r s a e = absurd a
  alike_split Alike split n (x ∷ xs) [] r s a e = absurd a
  alike_split Alike split n (x ∷ xs) (y ∷ ys) r s a e =
      let regrouped : text n x ++ (texts_from text (n + 1) xs ++ r) ≡ text n y ++ (texts_from text (n + 1) ys ++ s) =
      sym (append_assoc (text n x) (texts_from text (n + 1) xs) r) ∙ e
      ∙ append_assoc (text n y) (texts_from text (n + 1) ys) s in
      let first = split n x y (texts_from text (n + 1) xs ++ r) (texts_from text (n + 1) ys ++ s) a.0 regrouped in
      let more = alike_split Alike split (n + 1) xs ys r s a.1 first.1 in
      let whole : x ∷ xs ≡ y ∷ ys = cc (first.0, more.0) in
      (whole, more.1)

  -- `begins` holds of each text of them, and not of what follows the last
  pub marked_split : (test : X → Bool) (begins : List ℕ → Bool)
      → ((n : ℕ) (x : X) (r : List ℕ) → begins (text n x ++ r) ≡ true)
      → ((n : ℕ) (x y : X) (r s : List ℕ) → IsTrue (test x) → IsTrue (test y) → text n x ++ r ≡ text n y ++ s
      → (x ≡ y) × (r ≡ s))
      → (n : ℕ) (xs ys : List X) (r s : List ℕ) → IsTrue (list_all test xs) → IsTrue (list_all test ys)
      → begins r ≡ false → begins s ≡ false
      → texts_from text n xs ++ r ≡ texts_from text n ys ++ s → (xs ≡ ys) × (r ≡ s)
  marked_split test begins marked split n [] [] r s p q h k e = (refl, e)
  marked_split test begins marked split n [] (y ∷ ys) r s p q h k e =
      absurd (both_ways (begins r) h (ap begins (e ∙ append_assoc (text n y) (texts_from text (n + 1) ys) s)
      ∙ marked n y (texts_from text (n + 1) ys ++ s)))
  marked_split test begins marked split n (x ∷ xs) [] r s p q h k e =
      absurd (both_ways (begins s) k (ap begins (sym e ∙ append_assoc (text n x) (texts_from text (n + 1) xs) r)
      ∙ marked n x (texts_from text (n + 1) xs ++ r)))
  marked_split test begins marked split n (x ∷ xs) (y ∷ ys) r s p q h k e =
      let left = and_parts (test x) (list_all test xs) p in
      let right = and_parts (test y) (list_all test ys) q in
      let regrouped : text n x ++ (texts_from text (n + 1) xs ++ r) ≡ text n y ++ (texts_from text (n + 1) ys ++ s) =
      sym (append_assoc (text n x) (texts_from text (n + 1) xs) r) ∙ e
      ∙ append_assoc (text n y) (texts_from text (n + 1) ys) s in
      let first = split n x y (texts_from text (n + 1) xs ++ r) (texts_from text (n + 1) ys ++ s) left.0 right.0
      regrouped in
      let more = marked_split test begins marked split (n + 1) xs ys r s left.1 right.1 h k first.1 in
      let whole : x ∷ xs ≡ y ∷ ys = cc (first.0, more.0) in
      (whole, more.1)

-- where the number is not told
pub unnumbered : {X : Type 0} (text : X → List ℕ) (n : ℕ) (xs : List X)
    → flat_map text xs ≡ texts_from (λ m. text) n xs
unnumbered text n [] = refl
unnumbered text n (x ∷ xs) = ap (λ (z : List ℕ). text x ++ z) (unnumbered text (n + 1) xs)
