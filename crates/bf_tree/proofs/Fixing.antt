-- The first conjunct that fixes a column, on either side of an AND.
use Rattle.std.proofs.Common.{◌≡◌, ℕ, List, [], ◌∷◌, ◌++◌, slice_get, Some, None, refl}
use Rattle.std.specs.List.{filter_map}
use Rattle.std.proofs.lemmas.List.Elements.{filter_map-append}
use Rattle.bf_base.specs.declared.value.Value.{Value}
use Rattle.bf_tree.specs.Trees.{Cond, both}
use Rattle.bf_tree.specs.Fixed.{column_fixed, conjuncts, value_fixed}

first_of_both : {Y : Type 0} (y : Y) (xs ys : List Y) → slice_get xs 0 ≡ Some y → slice_get (xs ++ ys) 0 ≡ Some y
first_of_both y [] ys e = absurd cc
first_of_both y (x ∷ xs) ys e = e

first_of_second : {Y : Type 0} (xs ys : List Y) → slice_get xs 0 ≡ None → slice_get (xs ++ ys) 0 ≡ slice_get ys 0
first_of_second [] ys e = refl
first_of_second (x ∷ xs) ys e = absurd cc

pub fixed_left : (c d : Cond ℕ) (place : ℕ) (v : Value) → column_fixed place c ≡ Some v → column_fixed place (both c d) ≡ Some v
fixed_left c d place v e = rw (filter_map-append (value_fixed place) (conjuncts c) (conjuncts d)) (first_of_both v (filter_map (value_fixed place) (conjuncts c)) (filter_map (value_fixed place) (conjuncts d)) e)

pub fixed_right : (c d : Cond ℕ) (place : ℕ) → column_fixed place c ≡ None → column_fixed place (both c d) ≡ column_fixed place d
fixed_right c d place e = rw (filter_map-append (value_fixed place) (conjuncts c) (conjuncts d)) (first_of_second (filter_map (value_fixed place) (conjuncts c)) (filter_map (value_fixed place) (conjuncts d)) e)
