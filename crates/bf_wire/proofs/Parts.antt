-- Values that are spelled part behind part, and read so.
use Rattle.std.proofs.Common.{◌≡◌, ℕ, ◌+◌, List, ◌∷◌, ◌++◌, length, drop, Option, Some, None, sym, ap, ap₂, ◌∙◌, append_assoc, add-one, arith}
use Rattle.std.proofs.lemmas.List.{drop-drop, length-append}
use Rattle.bf_wire.specs.Apart.{behind_apart}
use Rattle.bf_wire.specs.Spellings.{IsPair, pair_spelling}
use Rattle.bf_wire.specs.Taking.{BeginWith, IsTakenFrom, AreApart}

module _ {A : Type 0} (IsPart : A → Type 0) (part : A → List ℕ) (apart : AreApart IsPart part) where
  -- bytes begin with one value, and one rest stands behind it
  pub one_front : {bytes : List ℕ} {a : A} {n : ℕ} → BeginWith IsPart part bytes a n → (b : A) (rest : List ℕ) → IsPart b → bytes ≡ part b ++ rest
      → (a ≡ b) × (drop n bytes ≡ rest)
  one_front {bytes} {a} {n} begin b rest is_b same =
      behind_apart IsPart part apart a b (drop n bytes) rest begin.has_spelling is_b (sym begin.front ∙ same)

  -- what was written is what is read, whatever follows it
  pub taken_again : {bytes : List ℕ} (found : Option (A × ℕ)) → IsTakenFrom IsPart part bytes found → (b : A) (rest : List ℕ) → IsPart b → bytes ≡ part b ++ rest
      → found ≡ Some (b, length (part b))
  taken_again (Some found) begin b rest is_b same =
      let equal = (one_front begin b rest is_b same).0 in
      ap₂ (λ (a : A) (n : ℕ). Some (a, n)) equal (begin.taken ∙ ap (λ (a : A). length (part a)) equal)
  taken_again None none b rest is_b same = absurd (none b rest is_b same)

module _ {A B : Type 0} (IsFirst : A → Type 0) (IsSecond : B → Type 0) (first : A → List ℕ) (second : B → List ℕ) where
  -- a pair stands where its second part stands behind the first
  pub taken_behind : {bytes : List ℕ} {a : A} {b : B} {n more : ℕ} → BeginWith IsFirst first bytes a n → BeginWith IsSecond second (drop n bytes) b more
      → BeginWith (IsPair IsFirst IsSecond) (pair_spelling first second) bytes (a, b) (n + more)
  taken_behind {bytes} {a} {b} {n} {more} one two = record {
    has_spelling = (one.has_spelling, two.has_spelling);
    taken = omega (arith, one.taken, two.taken, length-append (first a) (second b));
    front = one.front ∙ ap (λ (rest : List ℕ). first a ++ rest) two.front ∙ sym (append_assoc (first a) (second b) (drop more (drop n bytes)))
        ∙ ap (λ (rest : List ℕ). (first a ++ second b) ++ rest) (drop-drop more n bytes);
  }

  -- no pair stands where its first part doesn't
  pub none_before : {bytes : List ℕ} → IsTakenFrom IsFirst first bytes None → IsTakenFrom (IsPair IsFirst IsSecond) (pair_spelling first second) bytes None
  none_before none pair rest is same = none pair.0 (second pair.1 ++ rest) is.0 (same ∙ append_assoc (first pair.0) (second pair.1) rest)

  -- no pair stands where its second part doesn't stand behind the first
  pub none_behind : AreApart IsFirst first → {bytes : List ℕ} {a : A} {n : ℕ} → BeginWith IsFirst first bytes a n
      → IsTakenFrom IsSecond second (drop n bytes) None → IsTakenFrom (IsPair IsFirst IsSecond) (pair_spelling first second) bytes None
  none_behind apart begin none pair rest is same =
      none pair.1 rest is.1 (one_front IsFirst first apart begin pair.0 (second pair.1 ++ rest) is.0 (same ∙ append_assoc (first pair.0) (second pair.1) rest)).1

-- Values of one type that are spelled as values of another, their parts, are.
module _ {A B : Type 0} {IsWhole : A → Type 0} {whole : A → List ℕ} {IsPart : B → Type 0} {part : B → List ℕ} {b : B} {n : ℕ} where
  pub taken_as : {bytes : List ℕ} (a : A) → IsWhole a → whole a ≡ part b → BeginWith IsPart part bytes b n → BeginWith IsWhole whole bytes a n
  taken_as {bytes} a is_a same begin = record {
    has_spelling = is_a;
    taken = begin.taken ∙ ap length (sym same);
    front = begin.front ∙ ap (λ (front : List ℕ). front ++ drop n bytes) (sym same);
  }

  -- a byte before the part tells the case of the whole
  pub taken_tagged : {tag : ℕ} {bytes : List ℕ} (a : A) → IsWhole a → whole a ≡ tag ∷ part b → BeginWith IsPart part bytes b n
      → BeginWith IsWhole whole (tag ∷ bytes) a (n + 1)
  taken_tagged {tag} {bytes} a is_a same begin = record {
    has_spelling = is_a;
    taken = omega (arith, begin.taken, ap length same);
    front = rw (same, add-one) (ap (λ (rest : List ℕ). tag ∷ rest) begin.front);
  }

module _ {A B : Type 0} (IsWhole : A → Type 0) (whole : A → List ℕ) (IsPart : B → Type 0) (part : B → List ℕ) where
  pub none_as : (parts : A → B) → ((a : A) → IsWhole a → IsPart (parts a)) → ((a : A) → whole a ≡ part (parts a))
      → {bytes : List ℕ} → IsTakenFrom IsPart part bytes None → IsTakenFrom IsWhole whole bytes None
  none_as parts have same none a rest is_a equal = none (parts a) rest (have a is_a) (equal ∙ ap (λ (front : List ℕ). front ++ rest) (same a))

  pub apart_as : (parts : A → B) (back : B → A) → ((a : A) → back (parts a) ≡ a) → ((a : A) → IsWhole a → IsPart (parts a)) → ((a : A) → whole a ≡ part (parts a))
      → AreApart IsPart part → AreApart IsWhole whole
  apart_as parts back returns have same apart a b xs ys is_a is_b equal =
      let front : part (parts a) ++ xs ≡ part (parts b) ++ ys =
      ap (λ (front : List ℕ). front ++ xs) (sym (same a)) ∙ equal ∙ ap (λ (front : List ℕ). front ++ ys) (same b) in
      sym (returns a) ∙ ap back (apart (parts a) (parts b) xs ys (have a is_a) (have b is_b) front) ∙ returns b

  -- no whole stands behind a tag where each whole with that tag has a part behind it, and no part stands there
  pub none_tagged : {tag : ℕ} {bytes : List ℕ} → ((a : A) (rest : List ℕ) → IsWhole a → tag ∷ bytes ≡ whole a ++ rest → (b : B) × IsPart b × (whole a ≡ tag ∷ part b))
      → IsTakenFrom IsPart part bytes None → IsTakenFrom IsWhole whole (tag ∷ bytes) None
  none_tagged {tag} {bytes} parts none a rest is_a same =
      let of = parts a rest is_a same in
      let all : tag ∷ bytes ≡ tag ∷ part of.0 ++ rest = same ∙ ap (λ (front : List ℕ). front ++ rest) of.2 in
      none of.0 rest of.1 cc
