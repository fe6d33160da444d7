-- Where ON has a whole key, one row at most is met, and a look-up by the key that ON fixes finds it.
use Rattle.std.proofs.Common.{◌≡◌, ℕ, ◌+◌, ◌-◌, Bool, true, false, not, ◌&&◌, ◌||◌, ◌==◌, nat_lt, nat_eq, cond, if◌then◌else◌, List, [], ◌∷◌, ◌++◌, map, flat_map, find, length, take, drop, slice_range, Option, Some, None, is_some, refl, sym, ap, ap₂, subst, ◌∙◌}
use Rattle.std.specs.Prelude.{option_map, unwrap_or}
use Rattle.std.specs.List.{list_any, list_all}
use Rattle.std.specs.Option.{option_to_list}
use Rattle.std.proofs.lemmas.Bool.{and_parts, or_parts, not-true, false≢true, eqb-true}
use Rattle.std.proofs.lemmas.List.{append-nil}
use Rattle.bf_base.specs.declared.value.Value.{Value}
use Rattle.bf_base.specs.Lists.{same_key, has}
use Rattle.bf_base.specs.Tables.{cell}
use Rattle.bf_base.proofs.Apart.{are_apart}
use Rattle.bf_base.proofs.Parts.{list_all_always}
use Rattle.bf_base.specs.Lists.{same_name}
use Rattle.bf_tree.specs.declared.raw.Ref.{Ref}
use Rattle.bf_tree.specs.declared.migration.Join.{Join}
use Rattle.bf_tree.specs.declared.migration.Arm.{Arm}
use Rattle.bf_sql.specs.Database.{Database, IsDatabase, table_at, table_rows}
use Rattle.bf_sql.specs.Scopes.{Scope, place_of}
use Rattle.bf_sql.specs.migrations.Targets.{arm_scope, width, from_key, join_key, on_places, equalities}
use Rattle.bf_sql.specs.migrations.Images.{is_equal_on}
use Rattle.bf_tree.specs.declared.plan.ArmKind.{ArmKind}
use Rattle.bf_tree.specs.declared.plan.ArmKind.TheVariants.{ByFrom, ByJoin, ByPair, ByGroup}
use Rattle.bf_sql.specs.migrations.Targets.{arm_kind, names_of_join, kind_by}
use Rattle.bf_sql.specs.migrations.Images.{arm_rows, rows_of_join}
use Rattle.bf_sql.specs.migrations.Granules.{rows_driven}
use Rattle.bf_image.specs.Lookup.{has_the_key, partner, join_met, from_met}
use Rattle.bf_image.specs.Lookup.{join_rows_met, from_rows_met, rows_met}
use Rattle.bf_image.proofs.making.Arms.{of_pair, of_match, is_one_sided, places_on, value-equal, key-equal, key-itself, cell_left, cell_right}
use Rattle.bf_image.proofs.making.Unobjected.{two_sided, as_wide}
use Rattle.bf_image.proofs.finding.Found.{none_other}
use Rattle.bf_image.proofs.items.Names.{name-equal}
use Rattle.bf_image.proofs.finding.Looked.{one_row, all_of_slice}
use Rattle.bf_image.proofs.cutting.Parts.{if_there}
use Rattle.bf_image.proofs.making.Arms.{rows_by, single_form, as_pairs, of_from}
use Rattle.bf_index.proofs.Bags.{blocks_equal, blocks_equal_where}
use Rattle.bf_image.proofs.making.ArmKeys.{key_in, keys_apart, keys_within, from_with_join, join_has_from}
use Rattle.bf_image.proofs.making.Keys.{cells_left, cells_right, other_side, turned_sides, all_behind}

-- an item that comes of one key alone
module _ {X Y : Type 0} (key : X → List Value) (k : List Value) (ok : X → Bool) (h : X → List Y) (nothing : (x : X) → ok x ≡ true → same_key k (key x) ≡ false → h x ≡ []) where
  none_comes : (xs : List X) → list_all ok xs ≡ true → list_any (λ x. same_key k (key x)) xs ≡ false → flat_map h xs ≡ []
  none_comes [] all none = refl
  none_comes (x ∷ xs) all none = ap₂ (λ ys zs. ys ++ zs) (nothing x (and_parts _ _ all).0 (or_parts _ _ none).0) (none_comes xs (and_parts _ _ all).1 (or_parts _ _ none).1)

  pub one_comes : (xs : List X) → list_all ok xs ≡ true → are_apart same_key (map key xs) ≡ true → flat_map h xs ≡ flat_map h (option_to_list (find (λ x. same_key k (key x)) xs))
  one_comes [] all apart = refl
  one_comes (x ∷ xs) all apart = of (same_key k (key x)) refl (one_comes xs (and_parts _ _ all).1 (and_parts _ _ apart).1)
    where
      of : (b : Bool) → same_key k (key x) ≡ b → flat_map h xs ≡ flat_map h (option_to_list (find (λ x. same_key k (key x)) xs))
          → flat_map h (x ∷ xs) ≡ flat_map h (option_to_list (cond (same_key k (key x)) (Some x) (find (λ x. same_key k (key x)) xs)))
      of true at rest =
          ap (λ ys. h x ++ ys) (none_comes xs (and_parts _ _ all).1 (none_other same_key key-equal key-itself key k x xs at (not-true _ (and_parts _ _ apart).0)))
          ∙ ap (λ b. flat_map h (option_to_list (cond b (Some x) (find (λ x. same_key k (key x)) xs)))) (sym at)
      of false at rest =
          ap (λ ys. ys ++ flat_map h xs) (nothing x (and_parts _ _ all).0 at) ∙ rest ∙ ap (λ b. flat_map h (option_to_list (cond b (Some x) (find (λ x. same_key k (key x)) xs)))) (sym at)

module _ (scope : Scope) (m : List Value) where
  -- in a row that satisfies the equalities, a joined column has the value of its partner
  partner_is : (on : List (Ref × Ref)) → list_all (is_equal_on scope m) on ≡ true → (w p : ℕ) → has nat_eq (places_on scope w on) p ≡ true → cell m p ≡ cell m (partner scope on p)
  partner_is [] equal w p there = absurd (false≢true there)
  partner_is (e ∷ on) equal w p there = of (nat_eq p (place_of scope e.0)) refl (nat_eq p (place_of scope e.1)) refl (λ more. partner_is on (and_parts _ _ equal).1 w p more)
    where
      of : (b : Bool) → nat_eq p (place_of scope e.0) ≡ b → (c : Bool) → nat_eq p (place_of scope e.1) ≡ c
          → (has nat_eq (places_on scope w on) p ≡ true → cell m p ≡ cell m (partner scope on p))
          → cell m p ≡ cell m (if nat_eq p (place_of scope e.0) then place_of scope e.1 else (if nat_eq p (place_of scope e.1) then place_of scope e.0 else partner scope on p))
      of true l c r rest =
          ap (cell m) (eqb-true p (place_of scope e.0) l) ∙ value-equal _ _ (and_parts _ _ equal).0
          ∙ ap (λ b. cell m (if b then place_of scope e.1 else (if nat_eq p (place_of scope e.1) then place_of scope e.0 else partner scope on p))) (sym l)
      of false l true r rest =
          ap (cell m) (eqb-true p (place_of scope e.1) r) ∙ sym (value-equal _ _ (and_parts _ _ equal).0)
          ∙ ap₂ (λ b c. cell m (if b then place_of scope e.1 else (if c then place_of scope e.0 else partner scope on p))) (sym l) (sym r)
      of false l false r rest =
          rest (sym (ap₂ (λ b c. b || (c || has nat_eq (places_on scope w on) p)) l r) ∙ there)
          ∙ ap₂ (λ b c. cell m (if b then place_of scope e.1 else (if c then place_of scope e.0 else partner scope on p))) (sym l) (sym r)

  partners_are : (on : List (Ref × Ref)) → list_all (is_equal_on scope m) on ≡ true → (w : ℕ) (places : List ℕ) → list_all (has nat_eq (places_on scope w on)) places ≡ true → map (cell m) places ≡ map (λ p. cell m (partner scope on p)) places
  partners_are on equal w [] there = refl
  partners_are on equal w (p ∷ ps) there = ap₂ (λ v vs. v ∷ vs) (partner_is on equal w p (and_parts _ _ there).0) (partners_are on equal w ps (and_parts _ _ there).1)

module _ (scope : Scope) (w : ℕ) where
  -- a column and its partner stand on the two sides
  partner_side : (on : List (Ref × Ref)) → list_all (λ e. not (is_one_sided scope w e)) on ≡ true → (p : ℕ) (side : Bool) → has nat_eq (places_on scope w on) p ≡ true → nat_lt p w ≡ not side → nat_lt (partner scope on p) w ≡ side
  partner_side [] sides p side there at = absurd (false≢true there)
  partner_side (e ∷ on) sides p side there at = of (nat_eq p (place_of scope e.0)) refl (nat_eq p (place_of scope e.1)) refl (λ more. partner_side on (and_parts _ _ sides).1 p side more at)
    where
      one : ((nat_lt (place_of scope e.0) w && nat_lt (place_of scope e.1) w) || not (nat_lt (place_of scope e.0) w || nat_lt (place_of scope e.1) w)) ≡ false
      one = not-true _ (and_parts _ _ sides).0

      of : (b : Bool) → nat_eq p (place_of scope e.0) ≡ b → (c : Bool) → nat_eq p (place_of scope e.1) ≡ c
          → (has nat_eq (places_on scope w on) p ≡ true → nat_lt (partner scope on p) w ≡ side)
          → nat_lt (if nat_eq p (place_of scope e.0) then place_of scope e.1 else (if nat_eq p (place_of scope e.1) then place_of scope e.0 else partner scope on p)) w ≡ side
      of true l c r rest =
          ap (λ b. nat_lt (if b then place_of scope e.1 else (if nat_eq p (place_of scope e.1) then place_of scope e.0 else partner scope on p)) w) l
          ∙ other_side scope w (nat_lt (place_of scope e.0) w) (nat_lt (place_of scope e.1) w) side one (ap (λ q. nat_lt q w) (sym (eqb-true p (place_of scope e.0) l)) ∙ at)
      of false l true r rest =
          ap₂ (λ b c. nat_lt (if b then place_of scope e.1 else (if c then place_of scope e.0 else partner scope on p)) w) l r
          ∙ other_side scope w (nat_lt (place_of scope e.1) w) (nat_lt (place_of scope e.0) w) side (turned_sides scope w (nat_lt (place_of scope e.0) w) (nat_lt (place_of scope e.1) w) one) (ap (λ q. nat_lt q w) (sym (eqb-true p (place_of scope e.1) r)) ∙ at)
      of false l false r rest =
          ap₂ (λ b c. nat_lt (if b then place_of scope e.1 else (if c then place_of scope e.0 else partner scope on p)) w) l r
          ∙ rest (sym (ap₂ (λ b c. b || (c || has nat_eq (places_on scope w on) p)) l r) ∙ there)

  module _ (r s : List Value) (as_long : length r ≡ w) (on : List (Ref × Ref)) (sides : list_all (λ e. not (is_one_sided scope w e)) on ≡ true) (equal : list_all (is_equal_on scope (r ++ s)) on ≡ true) where
    -- what ON fixes of the right row is in the left one, and the other way round
    fixed_right : (places : List ℕ) → list_all (λ p. not (nat_lt p w)) places ≡ true → list_all (has nat_eq (places_on scope w on)) places ≡ true → map (cell (r ++ s)) places ≡ map (λ p. cell r (partner scope on p)) places
    fixed_right [] right there = refl
    fixed_right (p ∷ ps) right there =
        let side = partner_side on sides p true (and_parts _ _ there).0 (not-true _ (and_parts _ _ right).0) in
        ap₂ (λ v vs. v ∷ vs) (partner_is scope (r ++ s) on equal w p (and_parts _ _ there).0 ∙ cell_left r s w (partner scope on p) as_long side) (fixed_right ps (and_parts _ _ right).1 (and_parts _ _ there).1)

    fixed_left : (places : List ℕ) → list_all (λ p. nat_lt p w) places ≡ true → list_all (has nat_eq (places_on scope w on)) places ≡ true → map (cell (r ++ s)) places ≡ map (λ p. cell s (partner scope on p - w)) places
    fixed_left [] left there = refl
    fixed_left (p ∷ ps) left there =
        let side = partner_side on sides p false (and_parts _ _ there).0 (and_parts _ _ left).0 in
        ap₂ (λ v vs. v ∷ vs) (partner_is scope (r ++ s) on equal w p (and_parts _ _ there).0 ∙ cell_right r s w (partner scope on p) as_long side) (fixed_left ps (and_parts _ _ left).1 (and_parts _ _ there).1)

module _ (old : Database) (is : IsDatabase old) (arm : Arm) (j : Join) (joined : arm.join ≡ Some j) (sided : two_sided old arm ≡ true) where
  abbrev scope : Scope
  scope = arm_scope old arm

  same_on : equalities arm ≡ j.on
  same_on = ap (λ (o : Option Join). unwrap_or (option_map (λ j. j.on) o) []) joined

  join_places : join_key old arm ≡ map (λ p. width old arm + p) (table_at old j.table).key
  join_places =
      ap (λ (o : Option Join). flat_map (λ name. map (λ p. width old arm + p) (table_at old name).key) (unwrap_or (option_map (λ j. j.table ∷ []) o) [])) joined
      ∙ append-nil (map (λ p. width old arm + p) (table_at old j.table).key)

  -- a row of FROM and the row of JOIN that it meets
  pub meets_one : list_all (has nat_eq (on_places old arm)) (join_key old arm) ≡ true → (r : List Value) → length r ≡ width old arm
      → flat_map (λ s. of_pair old arm j (r ++ s)) (table_rows old j.table) ≡ flat_map (λ s. of_pair old arm j (r ++ s)) (option_to_list (find (has_the_key old j.table (join_met old arm r)) (table_rows old j.table)))
  meets_one there r as_long =
      one_comes (key_in old is j.table) (join_met old arm r) (λ s. true) (λ s. of_pair old arm j (r ++ s)) (λ s fine other. nothing s other) (table_rows old j.table) (list_all_always (table_rows old j.table)) (keys_apart old is j.table)
    where
      nothing : (s : List Value) → same_key (join_met old arm r) (key_in old is j.table s) ≡ false → of_pair old arm j (r ++ s) ≡ []
      nothing s other = of (list_all (is_equal_on (arm_scope old arm) (r ++ s)) j.on) refl
        where
          of : (b : Bool) → list_all (is_equal_on (arm_scope old arm) (r ++ s)) j.on ≡ b → of_pair old arm j (r ++ s) ≡ []
          of true on =
              let equal : list_all (is_equal_on (arm_scope old arm) (r ++ s)) (equalities arm) ≡ true = ap (list_all (is_equal_on (arm_scope old arm) (r ++ s))) same_on ∙ on in
              let right : list_all (λ p. not (nat_lt p (width old arm))) (join_key old arm) ≡ true = ap (list_all (λ p. not (nat_lt p (width old arm)))) join_places ∙ all_behind (width old arm) (table_at old j.table).key in
              let fixed = fixed_right (arm_scope old arm) (width old arm) r s as_long (equalities arm) sided equal (join_key old arm) right there in
              let own : map (cell (r ++ s)) (join_key old arm) ≡ key_in old is j.table s = ap (map (cell (r ++ s))) join_places ∙ cells_right r s (width old arm) (table_at old j.table).key as_long in
              absurd (false≢true (sym other ∙ ap (same_key (join_met old arm r)) (sym own ∙ fixed) ∙ key-itself (join_met old arm r)))
          of false on = ap (λ b. cond b (of_match old arm (r ++ s)) []) on

  -- a row of JOIN and the row of FROM that it meets
  pub met_by_one : list_all (has nat_eq (on_places old arm)) (from_key old arm) ≡ true → (s : List Value) → list_all (λ r. length r == width old arm) (table_rows old arm.from) ≡ true
      → flat_map (λ r. of_pair old arm j (r ++ s)) (table_rows old arm.from) ≡ flat_map (λ r. of_pair old arm j (r ++ s)) (option_to_list (find (has_the_key old arm.from (from_met old arm s)) (table_rows old arm.from)))
  met_by_one there s wide =
      one_comes (key_in old is arm.from) (from_met old arm s) (λ r. length r == width old arm) (λ r. of_pair old arm j (r ++ s)) nothing (table_rows old arm.from) wide (keys_apart old is arm.from)
    where
      nothing : (r : List Value) → (length r == width old arm) ≡ true → same_key (from_met old arm s) (key_in old is arm.from r) ≡ false → of_pair old arm j (r ++ s) ≡ []
      nothing r fine other = of (list_all (is_equal_on (arm_scope old arm) (r ++ s)) j.on) refl
        where
          of : (b : Bool) → list_all (is_equal_on (arm_scope old arm) (r ++ s)) j.on ≡ b → of_pair old arm j (r ++ s) ≡ []
          of true on =
              let as_long = eqb-true (length r) (width old arm) fine in
              let equal : list_all (is_equal_on (arm_scope old arm) (r ++ s)) (equalities arm) ≡ true = ap (list_all (is_equal_on (arm_scope old arm) (r ++ s))) same_on ∙ on in
              let fixed = fixed_left (arm_scope old arm) (width old arm) r s as_long (equalities arm) sided equal (from_key old arm) (keys_within old is arm.from) there in
              let own : map (cell (r ++ s)) (from_key old arm) ≡ key_in old is arm.from r = cells_left r s (width old arm) (from_key old arm) as_long (keys_within old is arm.from) in
              absurd (false≢true (sym other ∙ ap (same_key (from_met old arm s)) (sym own ∙ fixed) ∙ key-itself (from_met old arm s)))
          of false on = ap (λ b. cond b (of_match old arm (r ++ s)) []) on

append_none : {X : Type 0} (xs : List X) → xs ++ [] ≡ xs
append_none [] = refl
append_none (x ∷ xs) = ap (λ ys. x ∷ ys) (append_none xs)

module _ (old : Database) (is : IsDatabase old) (arm : Arm) (sided : two_sided old arm ≡ true) where
  abbrev wide : List Value → Bool
  wide r = length r == width old arm

  abbrev kind_is : Bool → ArmKind
  kind_is joins = kind_by (nat_lt 0 (length arm.group)) joins (list_all (has nat_eq (on_places old arm)) (join_key old arm)) (list_all (has nat_eq (on_places old arm)) (from_key old arm))

  one_from : arm_kind old arm ≡ ByFrom → (o : Option Join) → arm.join ≡ o → (r : List Value) → wide r ≡ true → of_from old arm o (rows_of_join old o) r ≡ of_from old arm o (join_rows_met old arm r) r
  one_from e None alone r fine = refl
  one_from e (Some j) joined r fine =
      let there = from_with_join _ _ _ (ap kind_is (sym (ap is_some joined)) ∙ e) in
      let names : names_of_join arm ≡ j.table ∷ [] = ap (λ (o : Option Join). unwrap_or (option_map (λ j. j.table ∷ []) o) []) joined in
      meets_one old is arm j joined sided there r (eqb-true (length r) (width old arm) fine)
      ∙ ap (λ rows. flat_map (λ s. of_pair old arm j (r ++ s)) rows)
      (sym (append_none (option_to_list (find (has_the_key old j.table (join_met old arm r)) (table_rows old j.table))))
      ∙ ap (flat_map (λ name. option_to_list (find (has_the_key old name (join_met old arm r)) (table_rows old name)))) (sym names))

  -- the rows of one row of the driver, by a look-up in the other table
  pub driven_met : (kind : ArmKind) → arm_kind old arm ≡ kind → (d : List ℕ) (at : ℕ) → rows_driven old arm kind d at ≡ rows_met old arm kind d at
  driven_met ByFrom e d at = of (same_name arm.from d) refl
    where
      one : (r : List Value) → wide r ≡ true → of_from old arm arm.join (rows_of_join old arm.join) r ≡ arm_rows old arm (r ∷ []) (join_rows_met old arm r)
      one r fine =
          one_from e arm.join refl r fine
          ∙ sym (append_none (of_from old arm arm.join (join_rows_met old arm r) r))
          ∙ sym (ap (λ kind. rows_by old arm kind (r ∷ []) (join_rows_met old arm r)) e ∙ single_form old arm (r ∷ []) (join_rows_met old arm r))

      of : (b : Bool) → same_name arm.from d ≡ b → (if same_name arm.from d then arm_rows old arm (slice_range (table_rows old d) at (at + 1)) (rows_of_join old arm.join) else [])
          ≡ (if same_name arm.from d then flat_map (λ r. arm_rows old arm (r ∷ []) (join_rows_met old arm r)) (slice_range (table_rows old d) at (at + 1)) else [])
      of true same =
          let rows = slice_range (table_rows old d) at (at + 1) in
          let own = subst (λ n. list_all wide (slice_range (table_rows old n) at (at + 1)) ≡ true) (name-equal arm.from d same) (all_of_slice wide (table_rows old arm.from) at (as_wide old is arm arm.from)) in
          ap (λ b. if b then arm_rows old arm rows (rows_of_join old arm.join) else []) same
          ∙ ap (λ kind. rows_by old arm kind rows (rows_of_join old arm.join)) e
          ∙ single_form old arm rows (rows_of_join old arm.join)
          ∙ blocks_equal_where wide (of_from old arm arm.join (rows_of_join old arm.join)) (λ r. arm_rows old arm (r ∷ []) (join_rows_met old arm r)) one rows own
          ∙ ap (λ b. if b then flat_map (λ r. arm_rows old arm (r ∷ []) (join_rows_met old arm r)) rows else []) (sym same)
      of false other =
          ap (λ b. if b then arm_rows old arm (slice_range (table_rows old d) at (at + 1)) (rows_of_join old arm.join) else []) other
          ∙ ap (λ b. if b then flat_map (λ r. arm_rows old arm (r ∷ []) (join_rows_met old arm r)) (slice_range (table_rows old d) at (at + 1)) else []) (sym other)
  driven_met ByJoin e d at =
      let both = join_has_from _ (is_some arm.join) _ _ e in
      let (j, joined) = if_there arm.join both.0 in
      let row = one_row (table_rows old d) at in
      ap (λ rows. if list_any (same_name d) (names_of_join arm) then rows else [])
      (ap (arm_rows old arm (table_rows old arm.from)) row ∙ all_met j joined both.1 (drop at (table_rows old d)) ∙ ap (flat_map (λ s. arm_rows old arm (from_rows_met old arm s) (s ∷ []))) (sym row))
    where
      of_one : (j : Join) → arm.join ≡ Some j → list_all (has nat_eq (on_places old arm)) (from_key old arm) ≡ true → (s : List Value) → arm_rows old arm (table_rows old arm.from) (s ∷ []) ≡ arm_rows old arm (from_rows_met old arm s) (s ∷ [])
      of_one j joined there s =
          let form : (from : List (List Value)) → arm_rows old arm from (s ∷ []) ≡ flat_map (λ r. of_pair old arm j (r ++ s)) from = λ from.
          ap (λ kind. rows_by old arm kind from (s ∷ [])) e ∙ as_pairs old arm j joined from (s ∷ []) ∙ blocks_equal (λ r. of_pair old arm j (r ++ s) ++ []) (λ r. of_pair old arm j (r ++ s)) (λ r. append_none (of_pair old arm j (r ++ s))) from in
          form (table_rows old arm.from) ∙ met_by_one old is arm j joined sided there s (as_wide old is arm arm.from) ∙ sym (form (from_rows_met old arm s))

      none_of : (from : List (List Value)) → flat_map (λ r. let none : List (List Value) = [] in none) from ≡ []
      none_of [] = refl
      none_of (r ∷ from) = none_of from

      all_met : (j : Join) → arm.join ≡ Some j → list_all (has nat_eq (on_places old arm)) (from_key old arm) ≡ true → (rows : List (List Value))
          → arm_rows old arm (table_rows old arm.from) (take 1 rows) ≡ flat_map (λ s. arm_rows old arm (from_rows_met old arm s) (s ∷ [])) (take 1 rows)
      all_met j joined there [] = ap (λ kind. rows_by old arm kind (table_rows old arm.from) []) e ∙ as_pairs old arm j joined (table_rows old arm.from) [] ∙ none_of (table_rows old arm.from)
      all_met j joined there (s ∷ rows) = of_one j joined there s ∙ sym (append_none (arm_rows old arm (from_rows_met old arm s) (s ∷ [])))
  driven_met ByPair e d at = refl
  driven_met ByGroup e d at = refl
