-- The arms of a migration by their numbers.
use Rattle.std.proofs.Common.{◌≡◌, ℕ, ◌+◌, Bool, true, false, cond, List, [], ◌∷◌, ◌++◌, map, filter, flat_map, length, refl, sym, subst, ap, ap₂, ◌∙◌, append_assoc}
use Rattle.std.specs.Prelude.{Some, slice_get}
use Rattle.std.specs.List.{enumerate_from, AllByRecursion}
use Rattle.std.proofs.lemmas.List.{map-append}
use Rattle.std.proofs.lemmas.Option.{get_or_from_slice_get}
use Rattle.std.proofs.lemmas.Simd.{map-map}
use Rattle.bf_tree.specs.declared.migration.Arm.{Arm}
use Rattle.bf_tree.specs.declared.migration.Migrate.{Migrate}
use Rattle.bf_tree.specs.declared.migration.Target.{Target}
use Rattle.bf_sql.specs.migrations.Granules.{arms_of}
use Rattle.bf_sql.specs.migrations.Plans.{numbered_arms}
use Rattle.bf_sql.specs.migrations.Targets.{first_arm}
use Rattle.bf_image.proofs.cutting.Parts.{at_seam, one_longer}
use Rattle.bf_image.specs.PlannedUnits.{target_named, arm_named}

-- what holds of each item of two lists, and of blocks
pub each_append : {X : Type 0} (P : X → Type 0) (xs ys : List X) → AllByRecursion P xs → AllByRecursion P ys → AllByRecursion P (xs ++ ys)
each_append P [] ys h g = g
each_append P (x ∷ xs) ys h g = (h.0, each_append P xs ys h.1 g)

pub each_of_blocks : {X Y : Type 0} (P : Y → Type 0) (Q : X → Type 0) (f : X → List Y) → ((x : X) → Q x → AllByRecursion P (f x)) → (xs : List X) → AllByRecursion Q xs → AllByRecursion P (flat_map f xs)
each_of_blocks P Q f one [] h = tt
each_of_blocks P Q f one (x ∷ xs) h = each_append P (f x) (flat_map f xs) (one x h.0) (each_of_blocks P Q f one xs h.1)

pub each_of_map : {X Y : Type 0} (P : Y → Type 0) (Q : X → Type 0) (f : X → Y) → ((x : X) → Q x → P (f x)) → (xs : List X) → AllByRecursion Q xs → AllByRecursion P (map f xs)
each_of_map P Q f one [] h = tt
each_of_map P Q f one (x ∷ xs) h = (one x h.0, each_of_map P Q f one xs h.1)

pub each_kept : {X : Type 0} (P : X → Type 0) (test : X → Bool) (xs : List X) → AllByRecursion P xs → AllByRecursion P (filter test xs)
each_kept P test [] h = tt
each_kept P test (x ∷ xs) h = of (test x) (each_kept P test xs h.1)
  where
    of : (b : Bool) → AllByRecursion P (filter test xs) → AllByRecursion P (cond b (x ∷ filter test xs) (filter test xs))
    of true rest = (h.0, rest)
    of false rest = rest

pub each_so : {X : Type 0} (P Q : X → Type 0) → ((x : X) → P x → Q x) → (xs : List X) → AllByRecursion P xs → AllByRecursion Q xs
each_so P Q one [] h = tt
each_so P Q one (x ∷ xs) h = (one x h.0, each_so P Q one xs h.1)

-- each item of a list with numbers stands at its number
module _ {X : Type 0} where
  abbrev pub IsPlaced : List X → ℕ × X → Type 0
  IsPlaced xs p = slice_get xs p.0 ≡ Some p.1

  placed_from : (before xs : List X) (n : ℕ) → length before ≡ n → AllByRecursion (IsPlaced (before ++ xs)) (enumerate_from n xs)
  placed_from before [] n e = tt
  placed_from before (x ∷ xs) n e =
      let longer : length (before ++ x ∷ []) ≡ n + 1 = one_longer before x ∙ ap (λ k. k + 1) e in
      (ap (slice_get (before ++ (x ∷ xs))) (sym e) ∙ at_seam before x xs, subst (λ all. AllByRecursion (IsPlaced all) (enumerate_from (n + 1) xs)) (append_assoc before (x ∷ []) xs) (placed_from (before ++ x ∷ []) xs (n + 1) longer))

  pub placed_by_number : (xs : List X) → AllByRecursion (IsPlaced xs) (enumerate_from 0 xs)
  placed_by_number xs = placed_from [] xs 0 refl

-- numbers dropped
pub without_numbers : {X : Type 0} (n : ℕ) (xs : List X) → map (λ p. p.1) (enumerate_from n xs) ≡ xs
without_numbers n [] = refl
without_numbers n (x ∷ xs) = ap (λ ys. x ∷ ys) (without_numbers (n + 1) xs)

-- NUMBERED: an arm stands at its numbers
pub record IsNumbered (m : Migrate) (q : (ℕ × ℕ) × Arm) : Type 0 where
  pub of : slice_get m.targets q.0.0 ≡ Some (target_named m q.0.0)
  pub at : slice_get (target_named m q.0.0).arms q.0.1 ≡ Some q.1

module _ (m : Migrate) where
  abbrev of_target : ℕ × Target → List ((ℕ × ℕ) × Arm)
  of_target t = map (λ a. ((t.0, a.0), a.1)) (enumerate_from 0 t.1.arms)

  numbered_of_target : (t : ℕ × Target) → IsPlaced m.targets t → AllByRecursion (IsNumbered m) (of_target t)
  numbered_of_target t placed =
      let named : target_named m t.0 ≡ t.1 = get_or_from_slice_get m.targets t.0 t.1 _ placed in
      each_of_map (IsNumbered m) (IsPlaced t.1.arms) (λ a. ((t.0, a.0), a.1))
      (λ a at. record { of = placed ∙ ap Some (sym named); at = ap (λ (s : Target). slice_get s.arms a.0) named ∙ at })
      (enumerate_from 0 t.1.arms) (placed_by_number t.1.arms)

  abbrev pub with_target : Target → Arm → Target × Arm
  with_target t arm = (t, arm)

  abbrev pub without_number : (ℕ × ℕ) × Arm → Target × Arm
  without_number q = (target_named m q.0.0, q.1)

  -- each arm with numbers is the one that they name
  pub all_numbered : AllByRecursion (IsNumbered m) (numbered_arms m)
  all_numbered = each_of_blocks (IsNumbered m) (IsPlaced m.targets) of_target numbered_of_target (enumerate_from 0 m.targets) (placed_by_number m.targets)

  pub named_by_numbers : (q : (ℕ × ℕ) × Arm) → IsNumbered m q → arm_named m q.0 ≡ q.1
  named_by_numbers q numbered = get_or_from_slice_get (target_named m q.0.0).arms q.0.1 q.1 (first_arm []) numbered.at

  -- the arms with their targets are those with numbers
  pub arms_by_numbers : map without_number (numbered_arms m) ≡ arms_of m
  arms_by_numbers = each (enumerate_from 0 m.targets) (placed_by_number m.targets) ∙ ap (flat_map (λ t. map (with_target t) t.arms)) (without_numbers 0 m.targets)
    where
      one : (t : ℕ × Target) → IsPlaced m.targets t → map without_number (of_target t) ≡ map (with_target t.1) t.1.arms
      one t placed =
          let named : target_named m t.0 ≡ t.1 = get_or_from_slice_get m.targets t.0 t.1 _ placed in
          map-map without_number (λ a. ((t.0, a.0), a.1)) (enumerate_from 0 t.1.arms)
          ∙ ap (λ s. map (λ a. with_target s a.1) (enumerate_from 0 t.1.arms)) named
          ∙ sym (map-map (with_target t.1) (λ a. a.1) (enumerate_from 0 t.1.arms))
          ∙ ap (map (with_target t.1)) (without_numbers 0 t.1.arms)

      each : (ts : List (ℕ × Target)) → AllByRecursion (IsPlaced m.targets) ts → map without_number (flat_map of_target ts) ≡ flat_map (λ t. map (with_target t) t.arms) (map (λ t. t.1) ts)
      each [] h = refl
      each (t ∷ ts) h =
          map-append without_number (of_target t) (flat_map of_target ts)
          ∙ ap₂ (λ xs ys. xs ++ ys) (one t h.0) (each ts h.1)
