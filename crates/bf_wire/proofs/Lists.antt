-- Reading the parts of a list one after the other, as a loop does.
use Rattle.std.proofs.Common.{◌≡◌, ℕ, ◌+◌, ◌<◌, List, [], ◌∷◌, ◌++◌, length, drop, All, None, sym, ap, ap₂, ◌∙◌, append_assoc, arith}
use Rattle.std.specs.List.{flat_map}
use Rattle.std.proofs.lemmas.List.{append-nil, drop-drop, flat_map_more, length-append}
use Rattle.std.proofs.lemmas.List.Elements.{All-nil, All-push, All-head, All-tail}
use Rattle.bf_wire.specs.Apart.{behind_apart, words_apart}
use Rattle.bf_wire.specs.Spellings.{IsWord, word_spelling, IsListed, list_spelling}
use Rattle.bf_wire.specs.Taking.{BeginWith, IsTakenFrom, AreApart}

module _ {A : Type 0} (IsPart : A → Type 0) (part : A → List ℕ) where
  -- the bytes begin with a count and these parts, which take so many
  pub record IsReadTo (bytes : List ℕ) (count : ℕ) (parts : List A) (n : ℕ) : Type 0 where
    pub fits : IsWord count
    pub all : All IsPart parts
    pub taken : n ≡ length (word_spelling count ++ flat_map part parts)
    pub front : bytes ≡ (word_spelling count ++ flat_map part parts) ++ drop n bytes

  pub starts : {bytes : List ℕ} {count n : ℕ} → BeginWith IsWord word_spelling bytes count n → IsReadTo bytes count [] n
  starts {bytes} {count} {n} begin =
      let none : word_spelling count ++ [] ≡ word_spelling count = append-nil (word_spelling count) in
      record {
        fits = begin.has_spelling;
        all = All-nil IsPart;
        taken = begin.taken ∙ ap length (sym none);
        front = begin.front ∙ ap (λ (front : List ℕ). front ++ drop n bytes) (sym none);
      }

  pub goes_on : {bytes : List ℕ} {count n more : ℕ} {parts : List A} {a : A} → IsReadTo bytes count parts n → BeginWith IsPart part (drop n bytes) a more
      → IsReadTo bytes count (parts ++ a ∷ []) (n + more)
  goes_on {bytes} {count} {n} {more} {parts} {a} so_far begin =
      let spelled : (word_spelling count ++ flat_map part parts) ++ part a ≡ word_spelling count ++ flat_map part (parts ++ a ∷ []) =
      flat_map_more part (word_spelling count) parts a in
      record {
        fits = so_far.fits;
        all = All-push IsPart parts a so_far.all begin.has_spelling;
        taken = omega (arith, so_far.taken, begin.taken, ap length spelled, length-append (word_spelling count ++ flat_map part parts) (part a));
        front = so_far.front ∙ ap (λ (rest : List ℕ). (word_spelling count ++ flat_map part parts) ++ rest) begin.front
            ∙ sym (append_assoc (word_spelling count ++ flat_map part parts) (part a) (drop more (drop n bytes)))
            ∙ ap₂ (λ (front rest : List ℕ). front ++ rest) spelled (drop-drop more n bytes);
      }

  pub ends : {bytes : List ℕ} {count n : ℕ} {parts : List A} → IsReadTo bytes count parts n → length parts ≡ count
      → BeginWith (IsListed IsPart) (list_spelling part) bytes parts n
  ends {bytes} {count} {n} {parts} so_far counted = record {
    has_spelling = (rw counted so_far.fits, so_far.all);
    taken = rw counted so_far.taken;
    front = rw counted so_far.front;
  }

  -- what a longer list has behind parts that are its first
  next : AreApart IsPart part → (these those : List A) (xs ys : List ℕ) → length these < length those → All IsPart these → All IsPart those
      → flat_map part these ++ xs ≡ flat_map part those ++ ys → (b : A) × IsPart b × ((rest : List ℕ) × (xs ≡ part b ++ rest))
  next apart these [] xs ys shorter all_a all_b same = absurd (omega arith)
  next apart [] (b ∷ those) xs ys shorter all_a all_b same =
      (b, All-head IsPart b those all_b, (flat_map part those ++ ys, same ∙ append_assoc (part b) (flat_map part those) ys))
  next apart (a ∷ these) (b ∷ those) xs ys shorter all_a all_b same =
      let grouped : part a ++ (flat_map part these ++ xs) ≡ part b ++ (flat_map part those ++ ys) =
      sym (append_assoc (part a) (flat_map part these) xs) ∙ same ∙ append_assoc (part b) (flat_map part those) ys in
      let behind = (behind_apart IsPart part apart a b _ _ (All-head IsPart a these all_a) (All-head IsPart b those all_b) grouped).1 in
      next apart these those xs ys (omega arith) (All-tail IsPart a these all_a) (All-tail IsPart b those all_b) behind

  pub none_counted : {bytes : List ℕ} → IsTakenFrom IsWord word_spelling bytes None → IsTakenFrom (IsListed IsPart) (list_spelling part) bytes None
  none_counted none parts rest is same =
      none (length parts) (flat_map part parts ++ rest) is.0 (same ∙ append_assoc (word_spelling (length parts)) (flat_map part parts) rest)

  pub none_more : AreApart IsPart part → {bytes : List ℕ} {count n : ℕ} {parts : List A} → IsReadTo bytes count parts n → length parts < count
      → IsTakenFrom IsPart part (drop n bytes) None → IsTakenFrom (IsListed IsPart) (list_spelling part) bytes None
  none_more apart {bytes} {count} {n} {parts} so_far fewer none others rest is same =
      let grouped : word_spelling count ++ (flat_map part parts ++ drop n bytes) ≡ word_spelling (length others) ++ (flat_map part others ++ rest) =
      sym (append_assoc (word_spelling count) (flat_map part parts) (drop n bytes)) ∙ sym so_far.front ∙ same
      ∙ append_assoc (word_spelling (length others)) (flat_map part others) rest in
      let front = behind_apart IsWord word_spelling words_apart count (length others) _ _ so_far.fits is.0 grouped in
      let one = next apart parts others (drop n bytes) rest (omega (arith, front.0)) so_far.all is.1 front.1 in
      none one.0 one.2.0 one.1 one.2.1
