-- What stands at a place of a list, counted from 1.
use Rattle.std.proofs.Common.{◌≡◌, ℕ, suc, ◌+◌, ◌-◌, Bool, true, List, [], ◌∷◌, ◌++◌, length, refl, sym, ap, ◌∙◌, arith, append_assoc, length-append}
use Rattle.std.specs.List.{slice_index_or, list_all}
use Rattle.std.proofs.Math.Seq.{drop-append_seam, take-append_seam, get_or-append_seam}
use Rattle.std.proofs.lemmas.Bool.{and_parts, and_from}
use Rattle.bf_base.specs.Lists.{part}

module _ {X : Type 0} where
  -- items are those of a list from a place on
  pub record IsAt (place : ℕ) (all rest : List X) : Type 0 where
    pub front : List X
    pub split : all ≡ front ++ rest
    pub here : place ≡ suc (length front)

  pub at_start : (all : List X) → IsAt 1 all all
  at_start all = record { front = []; split = refl; here = refl }

  -- the items behind some of them
  pub at_behind : (place last : ℕ) (all text rest whole : List X) → IsAt place all whole → whole ≡ text ++ rest → last + 1 ≡ place + length text
      → IsAt (last + 1) all rest
  at_behind place last all text rest whole at split_whole e = record {
    front = at.front ++ text;
    split = at.split ∙ (ap (λ (xs : List X). at.front ++ xs) split_whole ∙ sym (append_assoc at.front text rest));
    here = omega (arith, length-append at.front text);
  }

  pub at_next : (place : ℕ) (all : List X) (x : X) (rest : List X) → IsAt place all (x ∷ rest) → IsAt (place + 1) all rest
  at_next place all x rest at = at_behind place place all (x ∷ []) rest (x ∷ rest) at refl refl

  -- those of a first and a last place are the part between
  pub part_at : (place last : ℕ) (all text rest whole : List X) → IsAt place all whole → whole ≡ text ++ rest → last + 1 ≡ place + length text
      → part place last all ≡ text
  part_at place last all text rest whole at split_whole e =
      let count : last - (place - 1) ≡ length text = omega arith in
      let before : place - 1 ≡ length at.front = omega arith in
      rw (at.split, split_whole, count, before, drop-append_seam at.front (text ++ rest)) (take-append_seam text rest)

  pub item_at : (place : ℕ) (none d : X) (all : List X) (x : X) (rest : List X) → IsAt place all (x ∷ rest)
      → slice_index_or (none ∷ all) place d ≡ x
  item_at place none d all x rest at = rw (at.split, at.here) (get_or-append_seam at.front x rest d)

  -- items that pass a test pass a weaker one
  pub list_all-weaker : (p q : X → Bool) → ((x : X) → p x ≡ true → q x ≡ true) → (xs : List X) → list_all p xs ≡ true → list_all q xs ≡ true
  list_all-weaker p q weaker [] h = refl
  list_all-weaker p q weaker (x ∷ xs) h =
      let parts = and_parts (p x) (list_all p xs) h in
      and_from (q x) (list_all q xs) (weaker x parts.0) (list_all-weaker p q weaker xs parts.1)
