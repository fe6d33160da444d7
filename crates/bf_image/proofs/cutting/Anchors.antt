-- The anchors of a unit by their numbers.
use lib.ListN.{length-map}
use Rattle.std.proofs.Common.{◌≡◌, ℕ, zero, suc, ◌+◌, ◌-◌, Bool, true, false, nat_lt, if◌then◌else◌, List, [], ◌∷◌, ◌++◌, map, length, Some, None, refl, sym, ap, ap₂, ◌∙◌, arith}
use Rattle.std.specs.Prelude.{option_map, slice_get}
use Rattle.std.specs.List.{range_with_len}
use Rattle.std.proofs.lemmas.Bool.Decides.{nat_tests}
use Rattle.std.proofs.lemmas.List.{length-append}
use Rattle.std.proofs.lemmas.List.FromFn.{length-range_with_len}
use Rattle.bf_base.specs.declared.granule.Place.TheVariants.{Row, Group}
use Rattle.bf_tree.specs.declared.plan.ArmKind.{ArmKind}
use Rattle.bf_tree.specs.declared.plan.ArmKind.TheVariants.{ByFrom, ByJoin, ByPair, ByGroup}
use Rattle.bf_sql.specs.Database.{Database, table_rows}
use Rattle.bf_sql.specs.migrations.Targets.{arm_kind}
use Rattle.bf_sql.specs.migrations.Images.{group_value, rows_of_join}
use Rattle.bf_sql.specs.migrations.Granules.{UnitForm, rows_unit, values_unit, left_value, right_value, anchor_values, anchors_of}
use Rattle.bf_image.specs.Lookup.{anchor_count_by, anchor_count, anchor_value_by, anchor_place}

get_of_map : {X Y : Type 0} (f : X → Y) (xs : List X) (i : ℕ) → slice_get (map f xs) i ≡ option_map f (slice_get xs i)
get_of_map f [] i = refl
get_of_map f (x ∷ xs) zero = refl
get_of_map f (x ∷ xs) (suc i) = get_of_map f xs i

get_of_range : (a n i : ℕ) → slice_get (range_with_len a n) i ≡ (if nat_lt i n then Some (a + i) else None)
get_of_range a zero i = let no : nat_lt i 0 ≡ false = grind (arith, nat_tests) in ap (λ b. if b then Some (a + i) else None) (sym no)
get_of_range a (suc n) zero = let below : nat_lt 0 (suc n) ≡ true = grind (arith, nat_tests) in let e : a ≡ a + 0 = omega arith in ap Some e ∙ ap (λ b. if b then Some (a + 0) else None) (sym below)
get_of_range a (suc n) (suc i) =
    let same : nat_lt i n ≡ nat_lt (suc i) (suc n) = grind (arith, nat_tests) in
    let e : a + 1 + i ≡ a + suc i = omega arith in
    get_of_range (a + 1) n i ∙ ap₂ (λ b m. if b then Some m else None) same e

get_of_append : {X : Type 0} (xs ys : List X) (i : ℕ) → slice_get (xs ++ ys) i ≡ (if nat_lt i (length xs) then slice_get xs i else slice_get ys (i - length xs))
get_of_append [] ys i = let no : nat_lt i 0 ≡ false = grind (arith, nat_tests) in let e : i ≡ i - 0 = omega arith in ap (slice_get ys) e ∙ ap (λ b. if b then None else slice_get ys (i - 0)) (sym no)
get_of_append (x ∷ xs) ys zero = let some : nat_lt 0 (length (x ∷ xs)) ≡ true = grind (arith, nat_tests) in ap (λ b. if b then Some x else slice_get ys (0 - length (x ∷ xs))) (sym some)
get_of_append (x ∷ xs) ys (suc i) =
    let same : nat_lt i (length xs) ≡ nat_lt (suc i) (length (x ∷ xs)) = grind (arith, nat_tests) in
    let e : i - length xs ≡ suc i - length (x ∷ xs) = omega arith in
    get_of_append xs ys i ∙ ap₂ (λ b n. if b then slice_get xs i else slice_get ys n) same e

module _ (old : Database) where
  pub count_is : (u : UnitForm) → length (anchors_of old u) ≡ anchor_count old u
  count_is (rows_unit driver) = length-map (range_with_len 0 (length (table_rows old driver))) Row ∙ length-range_with_len 0 (length (table_rows old driver))
  count_is (values_unit target arm) = length-map (anchor_values old arm (arm_kind old arm)) Group ∙ of (arm_kind old arm)
    where
      of : (kind : ArmKind) → length (anchor_values old arm kind) ≡ anchor_count_by old arm kind
      of ByFrom = refl
      of ByJoin = refl
      of ByGroup = length-map (table_rows old arm.from) (group_value old arm)
      of ByPair =
          length-append (map (left_value old arm) (table_rows old arm.from)) (map (right_value old arm) (rows_of_join old arm.join))
          ∙ ap₂ (λ m n. m + n) (length-map (table_rows old arm.from) (left_value old arm)) (length-map (rows_of_join old arm.join) (right_value old arm))

  pub place_is : (u : UnitForm) (at : ℕ) → slice_get (anchors_of old u) at ≡ anchor_place old u at
  place_is (rows_unit driver) at = get_of_map Row (range_with_len 0 (length (table_rows old driver))) at ∙ ap (option_map Row) (get_of_range 0 (length (table_rows old driver)) at) ∙ of (nat_lt at (length (table_rows old driver)))
    where
      of : (b : Bool) → option_map Row (if b then Some (0 + at) else None) ≡ (if b then Some (Row at) else None)
      of true = let e : 0 + at ≡ at = omega arith in ap (λ n. Some (Row n)) e
      of false = refl
  place_is (values_unit target arm) at = get_of_map Group (anchor_values old arm (arm_kind old arm)) at ∙ ap (option_map Group) (of (arm_kind old arm))
    where
      of : (kind : ArmKind) → slice_get (anchor_values old arm kind) at ≡ anchor_value_by old arm kind at
      of ByFrom = refl
      of ByJoin = refl
      of ByGroup = get_of_map (group_value old arm) (table_rows old arm.from) at
      of ByPair =
          get_of_append (map (left_value old arm) (table_rows old arm.from)) (map (right_value old arm) (rows_of_join old arm.join)) at
          ∙ ap₂ (λ n m. if nat_lt at n then slice_get (map (left_value old arm) (table_rows old arm.from)) at else slice_get (map (right_value old arm) (rows_of_join old arm.join)) (at - m))
          (length-map (table_rows old arm.from) (left_value old arm)) (length-map (table_rows old arm.from) (left_value old arm))
          ∙ ap₂ (λ l r. if nat_lt at (length (table_rows old arm.from)) then l else r) (get_of_map (left_value old arm) (table_rows old arm.from) at)
          (get_of_map (right_value old arm) (rows_of_join old arm.join) (at - length (table_rows old arm.from)))
