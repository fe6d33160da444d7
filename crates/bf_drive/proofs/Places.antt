-- Lists with one more at the end, and their fronts; and lists that are kept in places.
use Rattle.std.proofs.Common.{◌≡◌, ℕ, zero, suc, ◌-◌, ◌⊎◌, inl, inr, List, [], ◌∷◌, ◌++◌, length, take, map, refl, sym, ◌∙◌, ap, Option, Some, None}
use Rattle.std.specs.List.{slice_get}
use Rattle.std.specs.Option.{option_map, option_flatten}
use Rattle.std.proofs.lemmas.List.{take-map, length-map}
use Rattle.std.proofs.lemmas.Option.{slice_get-map, none-some, same_Some}
use Rattle.smallvec.specs.SmallVec.{SmallVec}
use Rattle.bf_drive.specs.Keeping.{AreKept, values_in}

-- what stands in a list with one more at the end
pub slice_get-snoc : {T : Type 0} (xs : List T) (y : T) (i : ℕ) (z : T) → slice_get (xs ++ y ∷ []) i ≡ Some z → (slice_get xs i ≡ Some z) ⊎ ((i ≡ length xs) × (z ≡ y))
slice_get-snoc [] y zero z e = inr (refl, sym (same_Some y z e))
slice_get-snoc [] y (suc i) z e = absurd (none-some z e)
slice_get-snoc (x ∷ xs) y zero z e = inl e
slice_get-snoc (x ∷ xs) y (suc i) z e = elim (slice_get-snoc xs y i z e) [ inl a ↦ inl a | inr b ↦ inr (ap suc b.0, b.1) ]

-- what stands in a front
pub slice_get-take : {T : Type 0} (n : ℕ) (xs : List T) (i : ℕ) (z : T) → slice_get (take n xs) i ≡ Some z → slice_get xs i ≡ Some z
slice_get-take zero xs i z e = absurd (none-some z e)
slice_get-take (suc n) [] i z e = e
slice_get-take (suc n) (x ∷ xs) zero z e = e
slice_get-take (suc n) (x ∷ xs) (suc i) z e = slice_get-take n xs i z e

module _ {T : Type 0} where
  pub values_in-snoc : (xs : List (Option T)) (v : T) → values_in (xs ++ Some v ∷ []) ≡ values_in xs ++ v ∷ []
  values_in-snoc [] v = refl
  values_in-snoc (None ∷ xs) v = values_in-snoc xs v
  values_in-snoc (Some w ∷ xs) v = ap (λ ws. w ∷ ws) (values_in-snoc xs v)

  pub values_in-map : (vs : List T) → values_in (map Some vs) ≡ vs
  values_in-map [] = refl
  values_in-map (v ∷ vs) = ap (λ ws. v ∷ ws) (values_in-map vs)

  -- where each place has a value
  pub values_in-take : (n : ℕ) (xs : List (Option T)) (vs : List T) → xs ≡ map Some vs → values_in (take n xs) ≡ take n vs
  values_in-take n xs vs e = ap (λ ys. values_in (take n ys)) e ∙ (ap values_in (take-map Some n vs) ∙ values_in-map (take n vs))

  pub length-values_in : (xs : List (Option T)) (vs : List T) → xs ≡ map Some vs → length xs ≡ length vs
  length-values_in xs vs e = ap length e ∙ length-map vs Some

  pub slice_get-values_in : (xs : List (Option T)) (vs : List T) (i : ℕ) → xs ≡ map Some vs → slice_get xs i ≡ option_map Some (slice_get vs i)
  slice_get-values_in xs vs i e = ap (λ ys. slice_get ys i) e ∙ slice_get-map Some vs i

  -- ---- a push and a pop keep it
  pub kept-snoc : (old new : SmallVec (Option T)) (v : T) → AreKept old → new.items ≡ old.items ++ Some v ∷ [] → new.capacity ≡ old.capacity → AreKept new
  kept-snoc old new v k items capacity = record {
    full = items ∙ (ap (λ xs. xs ++ Some v ∷ []) k.full ∙ (sym (map-snoc (values_in old.items) v) ∙ ap (map Some) (sym (ap values_in items ∙ values_in-snoc old.items v))));
    room = capacity ∙ k.room;
  }
    where
      map-snoc : (vs : List T) (w : T) → map Some (vs ++ w ∷ []) ≡ map Some vs ++ Some w ∷ []
      map-snoc [] w = refl
      map-snoc (u ∷ vs) w = ap (λ ws. Some u ∷ ws) (map-snoc vs w)

  pub kept-take : (old new : SmallVec (Option T)) (n : ℕ) → AreKept old → new.items ≡ take n old.items → new.capacity ≡ old.capacity → AreKept new
  kept-take old new n k items capacity = record {
    full = items ∙ (ap (take n) k.full ∙ (take-map Some n (values_in old.items) ∙ ap (map Some) (sym (ap values_in items ∙ values_in-take n old.items (values_in old.items) k.full))));
    room = capacity ∙ k.room;
  }

  -- what a pop takes off: the last value, and nothing where there is none
  pub popped : (xs : List (Option T)) (vs : List T) → xs ≡ map Some vs → option_flatten (slice_get xs (length xs - 1)) ≡ slice_get vs (length vs - 1)
  popped xs vs e = ap (λ n. option_flatten (slice_get xs (n - 1))) (length-values_in xs vs e) ∙ (ap option_flatten (slice_get-values_in xs vs (length vs - 1) e) ∙ flat (slice_get vs (length vs - 1)))
    where
      flat : (o : Option T) → option_flatten (option_map Some o) ≡ o
      flat None = refl
      flat (Some x) = refl
