-- Whether an arm makes a row, by tests of the rows of its tables.
use Rattle.std.proofs.Common.{◌≡◌, ℕ, Bool, true, false, ◌&&◌, ◌||◌, cond, List, [], ◌∷◌, ◌++◌, map, filter, flat_map, fold, Option, None, Some, refl, sym, ap, ◌∙◌}
use Rattle.std.specs.List.{list_all, list_any}
use Rattle.std.proofs.Math.Bool.{or-false}
use Rattle.std.proofs.lemmas.List.Folds.{list_any-append}
use Rattle.bf_base.specs.declared.value.Value.{Value}
use Rattle.bf_base.specs.Distinct.{distinct, with_new}
use Rattle.bf_base.specs.Lists.{has, same_key}
use Rattle.bf_base.specs.Tables.{cell, cells}
use Rattle.bf_base.proofs.Order.{list_any-map}
use Rattle.bf_tree.specs.Evaluation.{holds_on}
use Rattle.bf_tree.specs.declared.plan.ArmKind.{ArmKind}
use Rattle.bf_tree.specs.declared.plan.ArmKind.TheVariants.{ByFrom, ByJoin, ByPair, ByGroup}
use Rattle.bf_tree.specs.declared.plan.PlacedArm.{PlacedArm}
use Rattle.bf_sql.specs.migrations.Placed.{is_equal_at, placed_groups, placed_matches, placed_over}
use Rattle.bf_image.specs.ArmRows.{is_match}
use Rattle.bf_image.specs.Giving.{has_any, makes_any}

module _ {X : Type 0} where
  has_any-map : {Y : Type 0} (f : X → Y) (xs : List X) → has_any (map f xs) ≡ has_any xs
  has_any-map f [] = refl
  has_any-map f (x ∷ xs) = refl

  has_any-filter : (test : X → Bool) (xs : List X) → has_any (filter test xs) ≡ list_any test xs
  has_any-filter test [] = refl
  has_any-filter test (x ∷ xs) = of (test x) (has_any-filter test xs)
    where
      of : (b : Bool) → has_any (filter test xs) ≡ list_any test xs → has_any (cond b (x ∷ filter test xs) (filter test xs)) ≡ (b || list_any test xs)
      of true e = refl
      of false e = e

  -- a test of those that pass another
  list_any-both : (p q : X → Bool) (xs : List X) → list_any p (filter q xs) ≡ list_any (λ x. q x && p x) xs
  list_any-both p q [] = refl
  list_any-both p q (x ∷ xs) = of (q x) (list_any-both p q xs)
    where
      of : (b : Bool) → list_any p (filter q xs) ≡ list_any (λ x. q x && p x) xs → list_any p (cond b (x ∷ filter q xs) (filter q xs)) ≡ ((b && p x) || list_any (λ x. q x && p x) xs)
      of true e = ap (λ rest. p x || rest) e
      of false e = e

  pub list_any-blocks : {Y : Type 0} (p : Y → Bool) (f : X → List Y) (xs : List X) → list_any p (flat_map f xs) ≡ list_any (λ x. list_any p (f x)) xs
  list_any-blocks p f [] = refl
  list_any-blocks p f (x ∷ xs) = list_any-append p (f x) (flat_map f xs) ∙ ap (λ rest. list_any p (f x) || rest) (list_any-blocks p f xs)

  list_any-one : (p : X → Bool) (x : X) → list_any p (x ∷ []) ≡ p x
  list_any-one p x = or-false (p x)

  module _ (same : X → X → Bool) where
    with_new-there : (seen : List X) (x : X) → has_any (with_new same seen x) ≡ true
    with_new-there [] x = refl
    with_new-there (y ∷ seen) x = of (has same (y ∷ seen) x)
      where
        of : (b : Bool) → has_any (cond b (y ∷ seen) ((y ∷ seen) ++ x ∷ [])) ≡ true
        of true = refl
        of false = refl

    some_more : (b : Bool) → true ≡ (b || true)
    some_more true = refl
    some_more false = refl

    has_any-seen : (seen xs : List X) → has_any (fold (with_new same) seen xs) ≡ (has_any seen || has_any xs)
    has_any-seen seen [] = sym (or-false (has_any seen))
    has_any-seen seen (x ∷ xs) =
        has_any-seen (with_new same seen x) xs ∙ ap (λ b. b || has_any xs) (with_new-there seen x) ∙ some_more (has_any seen)

    has_any-distinct : (xs : List X) → has_any (distinct same xs) ≡ has_any xs
    has_any-distinct xs = has_any-seen [] xs

module _ (arm : PlacedArm) where
  abbrev satisfies : List Value → Bool
  satisfies row = holds_on (cell row) arm.cond

  -- some rows have some group
  groups_there : (kind : ArmKind) (rows : List (List Value)) → has_any (placed_groups arm kind rows) ≡ has_any rows
  groups_there ByFrom rows = has_any-map (λ row. row ∷ []) rows
  groups_there ByJoin rows = has_any-map (λ row. row ∷ []) rows
  groups_there ByPair rows = has_any-map (λ row. row ∷ []) rows
  groups_there ByGroup rows =
      has_any-map (λ g. filter (λ row. same_key g (cells arm.group row)) rows) (distinct same_key (map (cells arm.group) rows))
      ∙ has_any-distinct same_key (map (cells arm.group) rows) ∙ has_any-map (cells arm.group) rows

  -- whether it makes one of a row of FROM
  abbrev takes : Option (List (ℕ × ℕ)) → List (List Value) → List Value → Bool
  takes None join row = satisfies row
  takes (Some on) join row = list_any (λ other. is_match arm on (row ++ other)) join

  takes_any : (o : Option (List (ℕ × ℕ))) (from join : List (List Value)) → list_any satisfies (placed_matches arm o from join) ≡ list_any (takes o join) from
  takes_any None from join = refl
  takes_any (Some on) from join =
      let beside : List Value → List (List Value) = λ row. map (λ other. row ++ other) join in
      list_any-both satisfies (λ pair. list_all (is_equal_at pair) on) (flat_map beside from)
      ∙ list_any-blocks (is_match arm on) beside from
      ∙ (λ i. list_any (λ row. list_any-map (is_match arm on) (λ other. row ++ other) join i) from)

  -- an arm makes a row where it takes a row of FROM
  made_by : (from join : List (List Value)) → makes_any arm from join ≡ list_any (takes arm.on join) from
  made_by from join =
      let matches = placed_matches arm arm.on from join in
      has_any-map (λ rows. map (placed_over rows) arm.items) (placed_groups arm arm.kind (filter satisfies matches))
      ∙ groups_there arm.kind (filter satisfies matches)
      ∙ has_any-filter satisfies matches ∙ takes_any arm.on from join

  made_of_one : (row : List Value) (join : List (List Value)) → makes_any arm (row ∷ []) join ≡ takes arm.on join row
  made_of_one row join = made_by (row ∷ []) join ∙ list_any-one (takes arm.on join) row

  pub made_of_none : (join : List (List Value)) → makes_any arm [] join ≡ false
  made_of_none join = made_by [] join

  -- without JOIN of a row that satisfies its condition, whatever else there is
  pub made_alone : arm.on ≡ None → (row : List Value) (join : List (List Value)) → makes_any arm (row ∷ []) join ≡ satisfies row
  made_alone alone row join = made_of_one row join ∙ ap (λ o. takes o join row) alone

  -- with JOIN of rows that match
  made_of_pairs : (on : List (ℕ × ℕ)) → arm.on ≡ Some on → (row : List Value) (join : List (List Value)) → makes_any arm (row ∷ []) join ≡ list_any (λ other. is_match arm on (row ++ other)) join
  made_of_pairs on joined row join = made_of_one row join ∙ ap (λ o. takes o join row) joined

  -- of blocks of rows of FROM, block by block
  module _ {X : Type 0} (block : X → List (List Value)) where
    pub made_in_turn : (xs : List X) (join : List (List Value)) → makes_any arm (flat_map block xs) join ≡ list_any (λ x. makes_any arm (block x) join) xs
    made_in_turn xs join =
        made_by (flat_map block xs) join ∙ list_any-blocks (takes arm.on join) block xs
        ∙ sym (λ i. list_any (λ x. made_by (block x) join i) xs)

    -- and of blocks of rows of JOIN
    pub joined_in_turn : (on : List (ℕ × ℕ)) → arm.on ≡ Some on → (row : List Value) (xs : List X) → makes_any arm (row ∷ []) (flat_map block xs) ≡ list_any (λ x. makes_any arm (row ∷ []) (block x)) xs
    joined_in_turn on joined row xs =
        made_of_pairs on joined row (flat_map block xs) ∙ list_any-blocks (λ other. is_match arm on (row ++ other)) block xs
        ∙ sym (λ i. list_any (λ x. made_of_pairs on joined row (block x) i) xs)
