-- The rows that an arm makes, one by one.
use Rattle.std.proofs.Common.{◌≡◌, ℕ, ◌+◌, ◌<◌, Bool, true, false, ◌&&◌, ◌==◌, cond, if◌then◌else◌, List, [], ◌∷◌, ◌++◌, map, filter, flat_map, length, get_or, take, Some, refl, sym, ap, ap₂, subst, ◌∙◌}
use Rattle.std.specs.List.{list_all, All, AllByRecursion}
use Rattle.std.proofs.lemmas.Bool.{and_parts, and_from, or_left, false≢true}
use Rattle.std.proofs.lemmas.List.{flat_map_more, map_more, take_more}
use Rattle.std.proofs.lemmas.List.Concat.{flat_map-append}
use Rattle.std.proofs.lemmas.List.Elements.{All-from_recursion}
use Rattle.std.proofs.lemmas.List.Folds.{flat_map-map, list_all_at}
use Rattle.bf_base.specs.declared.value.Value.{Value}
use Rattle.bf_base.specs.Distinct.{distinct}
use Rattle.bf_base.specs.Lists.{has, same_key}
use Rattle.bf_base.specs.Tables.{cell, cells}
use Rattle.bf_base.proofs.Parts.{filter_all}
use Rattle.bf_tree.specs.Evaluation.{holds_on}
use Rattle.bf_tree.specs.declared.plan.ArmKind.{ArmKind}
use Rattle.bf_tree.specs.declared.plan.ArmKind.TheVariants.{ByFrom, ByJoin, ByPair, ByGroup}
use Rattle.bf_tree.specs.declared.plan.PlacedArm.{PlacedArm}
use Rattle.bf_sql.specs.migrations.Placed.{is_equal_at, placed_groups, placed_matches, placed_rows}
use Rattle.bf_image.specs.ArmRows.{AreOfOne, CanMake, CanMatch, IsUnobjected, groups_of, made_of, rows_of_match, those_if_any}
use Rattle.bf_image.proofs.items.Lists.{none_left, none_right, all_kept}
use Rattle.bf_index.proofs.Values.{distinct-alike}
use Rattle.bf_image.proofs.making.Arms.{key-equal, key-itself, key-symmetric}

none_of : {X Y : Type 0} (f : X → List Y) (xs : List X) → flat_map f xs ≡ [] → AllByRecursion (λ x. f x ≡ []) xs
none_of f [] e = tt
none_of f (x ∷ xs) e = (none_left (f x) (flat_map f xs) e, none_of f xs (none_right (f x) (flat_map f xs) e))

module _ {X : Type 0} (xs : List X) (i : ℕ) (x : X) (less : i < length xs) (is : x ≡ get_or xs i x) where
  pub one_at : (P : X → Type 0) → All P xs → P x
  one_at P all = subst (λ (y : X). P y) (sym is) (all i x less)

  pub one_of : (P : X → Type 0) → AllByRecursion P xs → P x
  one_of P all = one_at P (All-from_recursion P xs all)

  -- what is behind others grows by what comes of an item
  pub more_behind : {Y : Type 0} (f : X → List Y) (first before after : List Y) → before ≡ first ++ flat_map f (take i xs) → after ≡ before ++ f x → after ≡ first ++ flat_map f (take (i + 1) xs)
  more_behind f first before after are grown =
      grown ∙ ap (λ ys. ys ++ f x) are ∙ flat_map_more f first (take i xs) x
      ∙ ap (λ ys. first ++ flat_map f ys) (ap (λ y. take i xs ++ y ∷ []) is ∙ sym (take_more xs i x less))

  pub one_more : {Y : Type 0} (f : X → Y) (before after : List Y) → before ≡ map f (take i xs) → after ≡ before ++ f x ∷ [] → after ≡ map f (take (i + 1) xs)
  one_more f before after are grown =
      grown ∙ ap₂ (λ ys y. ys ++ y ∷ []) are (ap f is) ∙ sym (map_more f xs i x less)

  -- nothing comes of the whole, so nothing comes of an item
  pub none_at : {Y : Type 0} (f : X → List Y) → flat_map f xs ≡ [] → f x ≡ []
  none_at f none = one_of (λ x. f x ≡ []) (none_of f xs none)

  pub passes : (test : X → Bool) → list_all test xs ≡ true → test x ≡ true
  passes test all = of (test x) refl
    where
      of : (b : Bool) → test x ≡ b → test x ≡ true
      of true e = e
      of false e = absurd (false≢true (sym (list_all_at test xs i x less (ap test (sym is) ∙ e)) ∙ all))

-- rows are a group where there is one
module _ {R : Type 0} (now : R → List Value) where
  pub group_there : (rows : List R) → (length rows == 0) ≡ false → those_if_any (map now rows) ≡ map now rows ∷ []
  group_there [] some = absurd (false≢true (sym some))
  group_there (row ∷ rows) some = refl

module _ (arm : PlacedArm) where
  abbrev value : List Value → List Value
  value = cells arm.group

  values_alike : (v : List Value) (rows : List (List Value)) → AllByRecursion (λ row. value row ≡ v) rows → list_all (λ row. same_key v (value row)) rows ≡ true
  values_alike v [] all = refl
  values_alike v (row ∷ rows) all = and_from _ _ (ap (same_key v) all.0 ∙ key-itself v) (values_alike v rows all.1)

  mapped : (v : List Value) (rows : List (List Value)) → list_all (λ row. same_key v (value row)) rows ≡ true → list_all (same_key v) (map value rows) ≡ true
  mapped v [] all = refl
  mapped v (row ∷ rows) all = and_from _ _ (and_parts _ _ all).0 (mapped v rows (and_parts _ _ all).1)

  one_group : (v : List Value) (rows : List (List Value)) → list_all (λ row. same_key v (value row)) rows ≡ true → placed_groups arm ByGroup rows ≡ those_if_any rows
  one_group v [] all = refl
  one_group v (row ∷ rows) all =
      let here : has same_key (map value (row ∷ rows)) v ≡ true = or_left (same_key v (value row)) (has same_key (map value rows) v) (and_parts (same_key v (value row)) (list_all (λ r. same_key v (value r)) rows) all).0 in
      let one : distinct same_key (map value (row ∷ rows)) ≡ v ∷ [] =
      distinct-alike same_key key-symmetric key-equal key-itself v (map value (row ∷ rows)) (mapped v (row ∷ rows) all) ∙ ap (λ b. cond b (v ∷ []) []) here in
      ap (map (λ g. filter (λ row. same_key g (value row)) (row ∷ rows))) one
      ∙ ap (λ zs. zs ∷ []) (filter_all (λ row. same_key v (value row)) (row ∷ rows) all)

  -- rows of one group are that group, whatever the condition leaves of them
  pub group_of_one : (test : List Value → Bool) (rows : List (List Value)) → AreOfOne ByGroup arm rows → placed_groups arm ByGroup (filter test rows) ≡ those_if_any (filter test rows)
  group_of_one test rows one = one_group one.1.0 (filter test rows) (all_kept (λ row. same_key one.1.0 (value row)) test rows (values_alike one.1.0 rows one.1.1))

  -- the groups among the rows that an arm finds to satisfy its condition
  module _ {R : Type 0} (now : R → List Value) (from found : List R) (satisfied : map now found ≡ filter (λ row. holds_on (cell row) arm.cond) (map now from)) where
    pub found_group : arm.kind ≡ ByGroup → AreOfOne arm.kind arm (map now from) → groups_of arm (map now from) ≡ those_if_any (map now found)
    found_group grouped one =
        ap (λ kind. placed_groups arm kind (filter (λ row. holds_on (cell row) arm.cond) (map now from))) grouped
        ∙ group_of_one (λ row. holds_on (cell row) arm.cond) (map now from) (subst (λ (kind : ArmKind). AreOfOne kind arm (map now from)) grouped one) ∙ ap those_if_any (sym satisfied)

    pub found_singles : (arm.kind ≡ ByGroup → ⊥) → groups_of arm (map now from) ≡ map (λ row. row ∷ []) (map now found)
    found_singles alone = of arm.kind refl ∙ ap (map (λ row. row ∷ [])) (sym satisfied)
      where
        of : (kind : ArmKind) → arm.kind ≡ kind → placed_groups arm kind (filter (λ row. holds_on (cell row) arm.cond) (map now from)) ≡ map (λ row. row ∷ []) (filter (λ row. holds_on (cell row) arm.cond) (map now from))
        of ByFrom e = refl
        of ByJoin e = refl
        of ByPair e = refl
        of ByGroup e = absurd (alone e)

  module _ {R : Type 0} (now : R → List Value) where
    pub each_made : (rows : List R) → map (made_of arm) (map (λ row. row ∷ []) (map now rows)) ≡ map (λ row. made_of arm (now row ∷ [])) rows
    each_made [] = refl
    each_made (row ∷ rows) = ap (λ made. made_of arm (now row ∷ []) ∷ made) (each_made rows)

    pub each_unobjected : (rows : List R) → AllByRecursion (IsUnobjected arm) (map (λ row. row ∷ []) (map now rows)) → AllByRecursion (λ row. IsUnobjected arm (now row ∷ [])) rows
    each_unobjected [] all = tt
    each_unobjected (row ∷ rows) all = (all.0, each_unobjected rows all.1)

  module _ (on : List (ℕ × ℕ)) where
    abbrev matched : List Value → Bool
    matched pair = list_all (is_equal_at pair) on

    abbrev satisfies : List Value → Bool
    satisfies pair = holds_on (cell pair) arm.cond

    matches_made : (pairs : List (List Value)) → map (made_of arm) (map (λ pair. pair ∷ []) (filter satisfies (filter matched pairs))) ≡ flat_map (rows_of_match arm on) pairs
    matches_made [] = refl
    matches_made (pair ∷ pairs) = of (matched pair) (matches_made pairs)
      where
        with_true : (c : Bool) → map (made_of arm) (map (λ pair. pair ∷ []) (filter satisfies (filter matched pairs))) ≡ flat_map (rows_of_match arm on) pairs
            → map (made_of arm) (map (λ pair. pair ∷ []) (cond c (pair ∷ filter satisfies (filter matched pairs)) (filter satisfies (filter matched pairs)))) ≡ (if c then made_of arm (pair ∷ []) ∷ [] else []) ++ flat_map (rows_of_match arm on) pairs
        with_true true e = ap (λ made. made_of arm (pair ∷ []) ∷ made) e
        with_true false e = e

        of : (b : Bool) → map (made_of arm) (map (λ pair. pair ∷ []) (filter satisfies (filter matched pairs))) ≡ flat_map (rows_of_match arm on) pairs
            → map (made_of arm) (map (λ pair. pair ∷ []) (filter satisfies (cond b (pair ∷ (filter matched pairs)) (filter matched pairs)))) ≡ (if b && satisfies pair then made_of arm (pair ∷ []) ∷ [] else []) ++ flat_map (rows_of_match arm on) pairs
        of true e = with_true (satisfies pair) e
        of false e = e

    abbrev Split : List Value → List (List Value) → Type 0
    Split pair pairs = CanMatch arm on pair × AllByRecursion (IsUnobjected arm) (map (λ pair. pair ∷ []) (filter satisfies (filter matched pairs)))

    matches_unobjected : (pairs : List (List Value)) → AllByRecursion (IsUnobjected arm) (map (λ pair. pair ∷ []) (filter satisfies (filter matched pairs))) → AllByRecursion (CanMatch arm on) pairs
    matches_unobjected [] all = tt
    matches_unobjected (pair ∷ pairs) all =
        let both = of (matched pair) refl all in
        (both.0, matches_unobjected pairs both.1)
      where
        with_true : (c : Bool) → satisfies pair ≡ c → AllByRecursion (IsUnobjected arm) (map (λ pair. pair ∷ []) (cond c (pair ∷ filter satisfies (filter matched pairs)) (filter satisfies (filter matched pairs)))) → Split pair pairs
        with_true true e all = (λ both. all.0, all.1)
        with_true false e all = (λ both. absurd (false≢true (sym e ∙ (and_parts (matched pair) (satisfies pair) both).1)), all)

        of : (b : Bool) → matched pair ≡ b → AllByRecursion (IsUnobjected arm) (map (λ pair. pair ∷ []) (filter satisfies (cond b (pair ∷ (filter matched pairs)) (filter matched pairs)))) → Split pair pairs
        of true e all = with_true (satisfies pair) refl all
        of false e all = (λ both. absurd (false≢true (sym e ∙ (and_parts (matched pair) (satisfies pair) both).0)), all)

-- over the pairs of each row of FROM
module _ {R : Type 0} (now : R → List Value) where
  abbrev pairs : List R → List R → List (List Value)
  pairs from join = flat_map (λ r. map (λ s. r ++ s) (map now join)) (map now from)

  pairs_in_turn : {Y : Type 0} (f : List Value → List Y) (from join : List R) → flat_map f (pairs from join) ≡ flat_map (λ left. flat_map (λ right. f (now left ++ now right)) join) from
  pairs_in_turn f [] join = refl
  pairs_in_turn f (left ∷ from) join =
      flat_map-append f (map (λ s. now left ++ s) (map now join)) (pairs from join)
      ∙ ap₂ (λ xs ys. xs ++ ys) (flat_map-map f (λ s. now left ++ s) (map now join) ∙ flat_map-map (λ s. f (now left ++ s)) now join) (pairs_in_turn f from join)

  module _ (P : List Value → Type 0) where
    of_left : (left : R) (join : List R) (rest : List (List Value)) → AllByRecursion P (map (λ s. now left ++ s) (map now join) ++ rest) → AllByRecursion (λ right. P (now left ++ now right)) join × AllByRecursion P rest
    of_left left [] rest all = (tt, all)
    of_left left (right ∷ join) rest all =
        let more = of_left left join rest all.1 in
        ((all.0, more.0), more.1)

    each_pair : (from join : List R) → AllByRecursion P (pairs from join) → AllByRecursion (λ left. AllByRecursion (λ right. P (now left ++ now right)) join) from
    each_pair [] join all = tt
    each_pair (left ∷ from) join all =
        let both = of_left left join (pairs from join) all in
        (both.0, each_pair from join both.1)

  module _ (arm : PlacedArm) (on : List (ℕ × ℕ)) (joined : arm.on ≡ Some on) (from join : List R) where
    abbrev satisfied : List (List Value)
    satisfied = filter (λ row. holds_on (cell row) arm.cond) (placed_matches arm arm.on (map now from) (map now join))

    groups_are : (kind : ArmKind) → AreOfOne kind arm (map now from) → placed_groups arm kind satisfied
        ≡ map (λ pair. pair ∷ []) (filter (satisfies arm on) (filter (matched arm on) (pairs from join)))
    groups_are ByFrom one = ap (λ o. map (λ pair. pair ∷ []) (filter (satisfies arm on) (placed_matches arm o (map now from) (map now join)))) joined
    groups_are ByJoin one = ap (λ o. map (λ pair. pair ∷ []) (filter (satisfies arm on) (placed_matches arm o (map now from) (map now join)))) joined
    groups_are ByPair one = ap (λ o. map (λ pair. pair ∷ []) (filter (satisfies arm on) (placed_matches arm o (map now from) (map now join)))) joined
    groups_are ByGroup one = absurd (cc (joined, one.0))

    pub pairs_made : AreOfOne arm.kind arm (map now from) → placed_rows arm (map now from) (map now join) ≡ flat_map (λ left. flat_map (λ right. rows_of_match arm on (now left ++ now right)) join) from
    pairs_made one = ap (map (made_of arm)) (groups_are arm.kind one) ∙ matches_made arm on (pairs from join) ∙ pairs_in_turn (rows_of_match arm on) from join

    pub pairs_unobjected : AreOfOne arm.kind arm (map now from) → CanMake arm (map now from) (map now join) → AllByRecursion (λ left. AllByRecursion (λ right. CanMatch arm on (now left ++ now right)) join) from
    pairs_unobjected one can =
        each_pair (CanMatch arm on) from join (matches_unobjected arm on (pairs from join) (subst (λ (groups : List (List (List Value))). AllByRecursion (IsUnobjected arm) groups) (groups_are arm.kind one) can))
