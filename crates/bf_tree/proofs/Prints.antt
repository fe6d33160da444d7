-- Texts joined have no byte that neither of them has.
use Rattle.std.proofs.Common.{◌≡◌, ℕ, Bool, false, List, [], ◌∷◌, ◌++◌, None, position, arith}
use Rattle.std.proofs.lemmas.Bool.Decides.{nat_tests}
use Rattle.bf_base.specs.Texts.{first_bad_of}

module _ {X : Type 0} (bad : X → Bool) where
  position_none_first : (x : X) (xs : List X) → position bad (x ∷ xs) ≡ None → (bad x ≡ false) × (position bad xs ≡ None)
  position_none_first x xs none = grind (arith, nat_tests)

  position_none_more : (x : X) (xs : List X) → bad x ≡ false → position bad xs ≡ None → position bad (x ∷ xs) ≡ None
  position_none_more x xs good none = grind (arith, nat_tests)

  position_none-append : (xs ys : List X) → position bad xs ≡ None → position bad ys ≡ None → position bad (xs ++ ys) ≡ None
  position_none-append [] ys p q = q
  position_none-append (x ∷ xs) ys p q =
      let rest = position_none_first x xs p in
      position_none_more x (xs ++ ys) rest.0 (position_none-append xs ys rest.1 q)

pub first_bad_of-append : (xs ys : List ℕ) → first_bad_of xs ≡ None → first_bad_of ys ≡ None → first_bad_of (xs ++ ys) ≡ None
first_bad_of-append = position_none-append _
