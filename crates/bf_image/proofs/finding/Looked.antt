-- A row with a key comes from the place that a look-up finds.
use lib.ListN.{length-map}
use Rattle.std.proofs.Common.{◌≡◌, ℕ, zero, suc, ◌+◌, ◌-◌, ◌<◌, Bool, true, false, not, ◌&&◌, ◌||◌, ◌==◌, cond, List, [], ◌∷◌, ◌++◌, map, filter, flat_map, length, position, take, drop, slice_range, Option, Some, None, refl, sym, ap, ap₂, ◌∙◌, arith}
use Rattle.std.specs.List.{list_any, list_all, position_or_len}
use Rattle.std.proofs.Math.Seq.{take-append_seam}
use Rattle.std.proofs.lemmas.Bool.{and_parts, and_from, or_from, or_left, or_right, not-true, false≢true, eqb-true, lt-ltb}
use Rattle.std.proofs.lemmas.List.{map-append}
use Rattle.std.proofs.lemmas.Simd.{map-map}
use Rattle.bf_base.specs.declared.value.Value.{Value}
use Rattle.bf_base.specs.Lists.{same_key, has}
use Rattle.bf_base.specs.Tables.{cell}
use Rattle.bf_base.proofs.Apart.{are_apart}
use Rattle.bf_base.proofs.Parts.{list_all_always}
use Rattle.bf_tree.specs.declared.migration.Join.{Join}
use Rattle.bf_tree.specs.declared.migration.Arm.{Arm}
use Rattle.bf_tree.specs.declared.plan.ArmKind.{ArmKind}
use Rattle.bf_tree.specs.declared.plan.ArmKind.TheVariants.{ByFrom, ByJoin, ByPair, ByGroup}
use Rattle.bf_sql.specs.Database.{Database, IsDatabase, table_at, table_rows}
use Rattle.bf_sql.specs.Scopes.{place_of}
use Rattle.bf_sql.specs.migrations.Targets.{key_by, arm_scope, width, from_key, join_key}
use Rattle.bf_sql.specs.migrations.Images.{is_equal_on, first_row, group_value, satisfying, matches_of_join}
use Rattle.bf_sql.specs.migrations.Granules.{left_value, from_with, join_with}
use Rattle.bf_index.proofs.Bags.{blocks_filtered}
use Rattle.bf_index.proofs.Values.{by_value, of_one_value}
use Rattle.bf_image.proofs.making.Arms.{passes, made, of_match, of_pair, of_from, rows_by, single_form, as_pairs, some_of_all, filters_exchanged, key-equal, key-itself, key-symmetric}
use Rattle.bf_image.proofs.making.Unobjected.{as_wide, two_sided}
use Rattle.bf_image.proofs.making.Keys.{cells_left, cells_right}
use Rattle.bf_image.proofs.making.ArmKeys.{first_with, key_in, keys_within, join_key_is}
use Rattle.bf_image.proofs.finding.Found.{alone_true, any_of_blocks, any_always, none_other}

pub one_row : {X : Type 0} (xs : List X) (at : ℕ) → slice_range xs at (at + 1) ≡ take 1 (drop at xs)
one_row xs at = let one : at + 1 - at ≡ 1 = omega arith in ap (λ n. take n (drop at xs)) one

module _ {X : Type 0} (p : X → Bool) where
  any_of_row : (xs : List X) (at : ℕ) → list_any p (take 1 (drop at xs)) ≡ true → list_any p xs ≡ true
  any_of_row [] zero some = some
  any_of_row [] (suc i) some = some
  any_of_row (x ∷ xs) zero some = of (p x) refl
    where
      of : (b : Bool) → p x ≡ b → (p x || list_any p xs) ≡ true
      of true at = or_left _ _ at
      of false at = absurd (false≢true (sym (or_from _ _ at refl) ∙ some))
  any_of_row (x ∷ xs) (suc i) some = or_right _ _ (any_of_row xs i some)

  all_of_row : (xs : List X) (at : ℕ) → list_all p xs ≡ true → list_all p (take 1 (drop at xs)) ≡ true
  all_of_row [] zero all = refl
  all_of_row [] (suc i) all = refl
  all_of_row (x ∷ xs) zero all = and_from _ _ (and_parts _ _ all).0 refl
  all_of_row (x ∷ xs) (suc i) all = all_of_row xs i (and_parts _ _ all).1

module _ {X : Type 0} (key : X → List Value) (k : List Value) where
  abbrev test : X → Bool
  test x = same_key k (key x)

  place_of_row : (xs : List X) (at : ℕ) → are_apart same_key (map key xs) ≡ true → list_any test (take 1 (drop at xs)) ≡ true → (position_or_len test xs ≡ at) × (at < length xs)
  place_of_row [] zero apart some = absurd (false≢true some)
  place_of_row [] (suc i) apart some = absurd (false≢true some)
  place_of_row (x ∷ xs) zero apart some = (of (test x) refl, omega arith)
    where
      of : (b : Bool) → test x ≡ b → position_or_len test (x ∷ xs) ≡ 0
      of true at = ap (λ b. cond (not b) (1 + position_or_len test xs) 0) at
      of false at = absurd (false≢true (sym (or_from _ _ at refl) ∙ some))
  place_of_row (x ∷ xs) (suc i) apart some = further (place_of_row xs i (and_parts _ _ apart).1 some)
    where
      of : (b : Bool) → test x ≡ b → position_or_len test xs ≡ i → position_or_len test (x ∷ xs) ≡ suc i
      of true at e = absurd (false≢true (sym (none_other same_key key-equal key-itself key k x xs at (not-true _ (and_parts _ _ apart).0)) ∙ any_of_row test xs i some))
      of false at e = ap (λ b. cond (not b) (1 + position_or_len test xs) 0) at ∙ omega (arith, e)

      further : (position_or_len test xs ≡ i) × (i < length xs) → (position_or_len test (x ∷ xs) ≡ suc i) × (suc i < length (x ∷ xs))
      further rest = (of (test x) refl rest.0, omega (arith, rest.1))

  -- where the row at a position has a key that no other has, a look-up finds the position
  pub position_at : (xs : List X) (at : ℕ) → are_apart same_key (map key xs) ≡ true → list_any test (slice_range xs at (at + 1)) ≡ true → position test xs ≡ Some at
  position_at xs at apart some =
      let both = place_of_row xs at apart (ap (list_any test) (sym (one_row xs at)) ∙ some) in
      let less : position_or_len test xs < length xs = omega (arith, both.0, both.1) in
      ap (λ b. cond b (Some (position_or_len test xs)) None) (lt-ltb _ _ less) ∙ ap Some both.0

pub all_of_slice : {X : Type 0} (p : X → Bool) (xs : List X) (at : ℕ) → list_all p xs ≡ true → list_all p (slice_range xs at (at + 1)) ≡ true
all_of_slice p xs at all = ap (list_all p) (one_row xs at) ∙ all_of_row p xs at all

module _ (old : Database) (is : IsDatabase old) (arm : Arm) (k : List Value) (p : List Value → Bool) where
  -- a row that passes has the key behind its tag
  abbrev pub Tells : ArmKind → Type 0
  Tells kind = (rows : List (List Value)) → p (made old arm rows) ≡ true → same_key k (map (cell (first_row rows)) (key_by old arm kind)) ≡ true

  match_tells : (kind : ArmKind) → Tells kind → (m : List Value) → list_any p (of_match old arm m) ≡ true → same_key k (map (cell m) (key_by old arm kind)) ≡ true
  match_tells kind tells m = of (passes old arm m)
    where
      of : (b : Bool) → list_any p (cond b (made old arm (m ∷ []) ∷ []) []) ≡ true → same_key k (map (cell m) (key_by old arm kind)) ≡ true
      of true some = tells (m ∷ []) (alone_true _ some)
      of false some = absurd (false≢true some)

  pair_tells : (kind : ArmKind) → Tells kind → (j : Join) (m : List Value) → list_any p (of_pair old arm j m) ≡ true → same_key k (map (cell m) (key_by old arm kind)) ≡ true
  pair_tells kind tells j m = of (list_all (is_equal_on (arm_scope old arm) m) j.on)
    where
      of : (b : Bool) → list_any p (cond b (of_match old arm m) []) ≡ true → same_key k (map (cell m) (key_by old arm kind)) ≡ true
      of true some = match_tells kind tells m some
      of false some = absurd (false≢true some)

  abbrev wide : List Value → Bool
  wide r = length r == width old arm

  left_is : (r s : List Value) → wide r ≡ true → map (cell (r ++ s)) (from_key old arm) ≡ key_in old is arm.from r
  left_is r s e = cells_left r s (width old arm) (from_key old arm) (eqb-true (length r) (width old arm) e) (keys_within old is arm.from)

  from_tells : Tells ByFrom → (o : Option Join) (join : List (List Value)) (r : List Value) → wide r ≡ true → list_any p (of_from old arm o join r) ≡ true → same_key k (key_in old is arm.from r) ≡ true
  from_tells tells None join r e some = match_tells ByFrom tells r some
  from_tells tells (Some j) join r e some =
      any_always (same_key k (key_in old is arm.from r)) join
      (any_of_blocks p (λ s. same_key k (key_in old is arm.from r)) (λ s. true) (λ s. of_pair old arm j (r ++ s)) (λ s o h. ap (same_key k) (sym (left_is r s e)) ∙ pair_tells ByFrom tells j (r ++ s) h) join (list_all_always join) some)

  -- a row of a driver's row has that row's key
  pub from_told : Tells ByFrom → (at : ℕ) (join : List (List Value)) → list_any p (rows_by old arm ByFrom (slice_range (table_rows old arm.from) at (at + 1)) join) ≡ true
      → list_any (λ r. same_key k (key_in old is arm.from r)) (slice_range (table_rows old arm.from) at (at + 1)) ≡ true
  from_told tells at join some =
      let rows = slice_range (table_rows old arm.from) at (at + 1) in
      any_of_blocks p (λ r. same_key k (key_in old is arm.from r)) wide (of_from old arm arm.join join) (from_tells tells arm.join join) rows (all_of_slice wide (table_rows old arm.from) at (as_wide old is arm arm.from))
      (ap (list_any p) (sym (single_form old arm rows join)) ∙ some)

  module _ (j : Join) (joined : arm.join ≡ Some j) (sided : two_sided old arm ≡ true) where
    right_is : (r s : List Value) → wide r ≡ true → map (cell (r ++ s)) (join_key old arm) ≡ key_in old is j.table s
    right_is r s e = ap (map (cell (r ++ s))) (join_key_is old is arm k p j joined sided) ∙ cells_right r s (width old arm) (table_at old j.table).key (eqb-true (length r) (width old arm) e)

    pub join_told : Tells ByJoin → (rows : List (List Value)) → list_any p (rows_by old arm ByJoin (table_rows old arm.from) rows) ≡ true → list_any (λ s. same_key k (key_in old is j.table s)) rows ≡ true
    join_told tells rows some =
        let from = table_rows old arm.from in
        let q : List Value → Bool = λ s. same_key k (key_in old is j.table s) in
        any_always (list_any q rows) from
        (any_of_blocks p (λ r. list_any q rows) wide (λ r. flat_map (λ s. of_pair old arm j (r ++ s)) rows)
        (λ r e more. any_of_blocks p q (λ s. true) (λ s. of_pair old arm j (r ++ s)) (λ s o h. ap (same_key k) (sym (right_is r s e)) ∙ pair_tells ByJoin tells j (r ++ s) h) rows (list_all_always rows) more)
        from (as_wide old is arm arm.from) (ap (list_any p) (sym (as_pairs old arm j joined from rows)) ∙ some))

    abbrev front : List Value
    front = take (length (from_key old arm)) k

    front_is : (r s : List Value) → wide r ≡ true → same_key k (map (cell (r ++ s)) (from_key old arm ++ join_key old arm)) ≡ true → same_key front (key_in old is arm.from r) ≡ true
    front_is r s e is_key =
        let whole : k ≡ key_in old is arm.from r ++ map (cell (r ++ s)) (join_key old arm) =
        key-equal _ _ is_key ∙ map-append (cell (r ++ s)) (from_key old arm) (join_key old arm) ∙ ap (λ a. a ++ map (cell (r ++ s)) (join_key old arm)) (left_is r s e) in
        let long : length (from_key old arm) ≡ length (key_in old is arm.from r) = sym (length-map (from_key old arm) (cell r)) in
        let cut : front ≡ key_in old is arm.from r = ap₂ take long whole ∙ take-append_seam (key_in old is arm.from r) (map (cell (r ++ s)) (join_key old arm)) in
        ap (same_key front) (sym cut) ∙ key-itself front

    pub pair_told : Tells ByPair → (v : List Value) → list_any p (rows_by old arm ByPair (from_with old arm ByPair v) (join_with old arm v)) ≡ true
        → list_any (λ r. same_key v (left_value old arm r) && same_key front (key_in old is arm.from r)) (table_rows old arm.from) ≡ true
    pair_told tells v some =
        let from = table_rows old arm.from in
        let c : List Value → Bool = λ r. same_key v (left_value old arm r) in
        let f : List Value → List (List Value) = λ r. flat_map (λ s. of_pair old arm j (r ++ s)) (join_with old arm v) in
        any_of_blocks p (λ r. c r && same_key front (key_in old is arm.from r)) wide (λ r. cond (c r) (f r) []) (λ r e h. one r e (c r) h) from (as_wide old is arm arm.from)
        (ap (list_any p) (sym (as_pairs old arm j joined (from_with old arm ByPair v) (join_with old arm v) ∙ blocks_filtered f c from)) ∙ some)
      where
        one : (r : List Value) → wide r ≡ true → (b : Bool) → list_any p (cond b (flat_map (λ s. of_pair old arm j (r ++ s)) (join_with old arm v)) []) ≡ true → (b && same_key front (key_in old is arm.from r)) ≡ true
        one r e true h =
            any_always (same_key front (key_in old is arm.from r)) (join_with old arm v)
            (any_of_blocks p (λ s. same_key front (key_in old is arm.from r)) (λ s. true) (λ s. of_pair old arm j (r ++ s)) (λ s o g. front_is r s e (pair_tells ByPair tells j (r ++ s) g)) (join_with old arm v) (list_all_always (join_with old arm v)) h)
        one r e false h = absurd (false≢true h)

  abbrev value : List Value → List Value
  value = group_value old arm

  pub group_told : Tells ByGroup → arm.join ≡ None → (v : List Value) → list_any p (rows_by old arm ByGroup (from_with old arm ByGroup v) (join_with old arm v)) ≡ true
      → (same_key k v ≡ true) × (has same_key (map value (table_rows old arm.from)) v ≡ true)
  group_told tells alone v some =
      let from = table_rows old arm.from in
      let satisfied = filter (passes old arm) from in
      let cut : satisfying old arm (from_with old arm ByGroup v) (join_with old arm v) ≡ filter (λ row. same_key v (value row)) satisfied =
      ap (λ o. filter (passes old arm) (matches_of_join old arm (from_with old arm ByGroup v) (join_with old arm v) o)) alone ∙ filters_exchanged (passes old arm) (λ row. same_key v (value row)) from in
      let of_all : List (List Value) → List (List Value) = by_value same_key key-symmetric key-equal key-itself value (made old arm) in
      let form : rows_by old arm ByGroup (from_with old arm ByGroup v) (join_with old arm v) ≡ cond (has same_key (map value satisfied) v) (made old arm (filter (λ row. same_key v (value row)) satisfied) ∷ []) [] =
      ap of_all cut ∙ of_one_value same_key key-symmetric key-equal key-itself value (made old arm) v satisfied in
      either (has same_key (map value satisfied) v) refl (ap (list_any p) (sym form) ∙ some)
    where
      either : (b : Bool) → has same_key (map value (filter (passes old arm) (table_rows old arm.from))) v ≡ b
          → list_any p (cond b (made old arm (filter (λ row. same_key v (value row)) (filter (passes old arm) (table_rows old arm.from))) ∷ []) []) ≡ true
          → (same_key k v ≡ true) × (has same_key (map value (table_rows old arm.from)) v ≡ true)
      either true there h =
          let group = filter (λ row. same_key v (value row)) (filter (passes old arm) (table_rows old arm.from)) in
          let first : map (cell (first_row group)) (map (place_of (arm_scope old arm)) arm.group) ≡ v = map-map (cell (first_row group)) (place_of (arm_scope old arm)) arm.group ∙ first_with value v (filter (passes old arm) (table_rows old arm.from)) there in
          (ap (same_key k) (sym first) ∙ tells group (alone_true _ h), some_of_all old arm v (passes old arm) (table_rows old arm.from) there)
      either false there h = absurd (false≢true h)
