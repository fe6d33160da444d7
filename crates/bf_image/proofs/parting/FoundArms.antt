-- Arms that are found at pairs of numbers, one for each.
use Rattle.std.proofs.Common.{◌≡◌, ℕ, zero, suc, ◌+◌, ◌<◌, List, [], ◌∷◌, ◌++◌, length, get_or, take, Some, refl, sym, ap, subst, arith}
use Rattle.std.proofs.lemmas.List.{take_more}
use Rattle.bf_image.specs.BoundArms.{IsFound, arm_at}
use Rattle.bf_image.specs.FrozenUnits.{AreFound}
use Rattle.bf_image.specs.declared.arms.FrozenArm.{FrozenArm}
use Rattle.bf_image.specs.declared.migration.Migration.{Migration}

module _ (m : Migration) where
  -- an arm is found at a pair of numbers
  abbrev IsFoundAt : ℕ × ℕ → FrozenArm → Type 0
  IsFoundAt pair bound = IsFound m pair.0 (arm_at m pair.0 pair.1) (Some bound)

  -- an arm behind those that are found, at a pair behind theirs
  found_behind : (pairs : List (ℕ × ℕ)) (arms : List FrozenArm) (pair : ℕ × ℕ) (bound : FrozenArm)
      → AreFound m pairs arms → IsFoundAt pair bound → AreFound m (pairs ++ pair ∷ []) (arms ++ bound ∷ [])
  found_behind [] [] pair bound found one = (one, tt)
  found_behind [] (other ∷ others) pair bound found one = absurd found
  found_behind (p ∷ pairs) [] pair bound found one = absurd found
  found_behind (p ∷ pairs) (b ∷ arms) pair bound found one = (found.0, found_behind pairs arms pair bound found.1 one)

  -- one more arm is found at one more pair
  pub found_more : (pairs : List (ℕ × ℕ)) (arms : List FrozenArm) (i : ℕ) → i < length pairs → (bound : FrozenArm)
      → AreFound m (take i pairs) arms → IsFoundAt (get_or pairs i (0, 0)) bound → AreFound m (take (i + 1) pairs) (arms ++ bound ∷ [])
  found_more pairs arms i within bound found one =
      subst (λ ps. AreFound m ps (arms ++ bound ∷ [])) (sym (take_more pairs i (0, 0) within)) (found_behind (take i pairs) arms (get_or pairs i (0, 0)) bound found one)

  -- there are as many arms as pairs
  pub as_many : (pairs : List (ℕ × ℕ)) (arms : List FrozenArm) → AreFound m pairs arms → length pairs ≡ length arms
  as_many [] [] found = refl
  as_many [] (other ∷ others) found = absurd found
  as_many (p ∷ pairs) [] found = absurd found
  as_many (p ∷ pairs) (b ∷ arms) found = ap suc (as_many pairs arms found.1)

  -- each arm is found at its own pair
  pub found_at : (pairs : List (ℕ × ℕ)) (arms : List FrozenArm) (i : ℕ) (d : FrozenArm)
      → AreFound m pairs arms → i < length arms → IsFoundAt (get_or pairs i (0, 0)) (get_or arms i d)
  found_at [] [] i d found within = absurd (omega arith)
  found_at [] (other ∷ others) i d found within = absurd found
  found_at (p ∷ pairs) [] i d found within = absurd found
  found_at (p ∷ pairs) (b ∷ arms) zero d found within = found.0
  found_at (p ∷ pairs) (b ∷ arms) (suc i) d found within = found_at pairs arms i d found.1 (omega arith)
