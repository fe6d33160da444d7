-- The granules of a migration come in order: units by their numbers, and the places of each as rows or as values.
use Rattle.std.proofs.Common.{◌≡◌, ℕ, zero, suc, ◌+◌, ◌<◌, true, List, [], ◌∷◌, ◌++◌, map, map-id, flat_map, length, Ordering, Less, Equal, refl, sym, ap, ◌∙◌, is_lt, nat_cmp, arith}
use Rattle.std.specs.Cmp.{IsTotalOrder, nat_cmp_is}
use Rattle.std.specs.List.{list_all, enumerate_from, range_with_len}
use Rattle.std.specs.Ordering.{ordering_then}
use Rattle.std.proofs.lemmas.Bool.{and_parts, and_from}
use Rattle.std.proofs.lemmas.Cmp.{nat_cmp_total, tied_itself}
use Rattle.bf_base.specs.declared.granule.Place.{Place}
use Rattle.bf_base.specs.declared.granule.Place.TheVariants.{Row, Group}
use Rattle.bf_base.specs.declared.granule.Granule.{Granule}
use Rattle.bf_base.specs.declared.value.Value.{Value}
use Rattle.bf_base.specs.Distinct.{distinct}
use Rattle.bf_base.specs.Lists.{in_order, rises, same_key}
use Rattle.bf_base.specs.Values.{key_cmp, key_cmp_total, key_cmp-IsAntisymmetric}
use Rattle.bf_base.specs.contracts.granule.GranuleOrd.TheImpl.{ghosts as granule_order}
use Rattle.bf_base.specs.contracts.granule.PlaceOrd.TheImpl.{ghosts as place_order}
use Rattle.bf_base.proofs.Order.{rises_skip, rises_tail, symmetric}
use Rattle.bf_tree.specs.declared.migration.Migrate.{Migrate}
use Rattle.bf_sql.specs.Database.{Database, table_rows}
use Rattle.bf_sql.specs.migrations.Granules.{UnitForm, rows_unit, values_unit, anchor_values, granule, granules_of, places_in, units_of}
use Rattle.bf_sql.specs.migrations.Targets.{arm_kind}
use Rattle.bf_image.proofs.items.Lists.{all_append}
use Rattle.bf_index.proofs.Values.{distinct-apart, in_order-apart, same-equal, same-itself}
use Rattle.bf_transpose.proofs.Inserted.{ascends}

abbrev pub granule_cmp : Granule → Granule → Ordering
granule_cmp = granule_order.cmp

-- lists that ascend, the one wholly before the other
module _ {K : Type 0} (cmp : K → K → Ordering) where
  ascends-append : (xs ys : List K) → ascends cmp xs ≡ true → ascends cmp ys ≡ true → list_all (λ x. list_all (λ y. is_lt (cmp x y)) ys) xs ≡ true → ascends cmp (xs ++ ys) ≡ true
  ascends-append [] ys h g across = g
  ascends-append (x ∷ xs) ys h g across =
      and_from _ _ (all_append _ xs ys (and_parts _ _ h).0 (and_parts _ _ across).0) (ascends-append xs ys (and_parts _ _ h).1 g (and_parts _ _ across).1)

module _ {K : Type 0} {cmp : K → K → Ordering} (o : IsTotalOrder cmp) where
  below_all : (x : K) (xs : List K) → rises cmp (x ∷ xs) ≡ true → list_all (λ y. is_lt (cmp x y)) xs ≡ true
  below_all x [] h = refl
  below_all x (y ∷ ys) h = and_from _ _ (and_parts _ _ h).0 (below_all x ys (rises_skip o x y ys h))

  ascends_from_rises : (xs : List K) → rises cmp xs ≡ true → ascends cmp xs ≡ true
  ascends_from_rises [] h = refl
  ascends_from_rises (x ∷ xs) h = and_from _ _ (below_all x xs h) (ascends_from_rises xs (rises_tail o x xs h))

-- the places of a unit by rows
number_before : (m n : ℕ) → m < n → nat_cmp m n ≡ Less
number_before m n h = sym (nat_cmp_is m n Less h)

rows_above : (m first count : ℕ) → m < first → list_all (λ p. is_lt (place_order.cmp (Row m) p)) (map Row (range_with_len first count)) ≡ true
rows_above m first zero h = refl
rows_above m first (suc count) h = and_from _ _ (ap is_lt (number_before m first h)) (rows_above m (first + 1) count (omega arith))

rows_ascend : (first count : ℕ) → ascends place_order.cmp (map Row (range_with_len first count)) ≡ true
rows_ascend first zero = refl
rows_ascend first (suc count) = and_from _ _ (rows_above first (first + 1) count (omega arith)) (rows_ascend (first + 1) count)

-- and of one by values
groups_above : (v : List Value) (vs : List (List Value)) → list_all (λ w. is_lt (key_cmp v w)) vs ≡ true → list_all (λ p. is_lt (place_order.cmp (Group v) p)) (map Group vs) ≡ true
groups_above v [] h = refl
groups_above v (w ∷ vs) h = and_from _ _ (and_parts _ _ h).0 (groups_above v vs (and_parts _ _ h).1)

groups_ascend : (vs : List (List Value)) → ascends key_cmp vs ≡ true → ascends place_order.cmp (map Group vs) ≡ true
groups_ascend [] h = refl
groups_ascend (v ∷ vs) h = and_from _ _ (groups_above v vs (and_parts _ _ h).0) (groups_ascend vs (and_parts _ _ h).1)

values_ascend : (vs : List (List Value)) → ascends key_cmp (in_order key_cmp (λ v. v) (distinct same_key vs)) ≡ true
values_ascend vs =
    let once = distinct same_key vs in
    let apart = distinct-apart same_key (symmetric key_cmp_total) (same-equal key_cmp_total key_cmp-IsAntisymmetric) (same-itself key_cmp_total key_cmp-IsAntisymmetric) vs in
    let rising : rises key_cmp (in_order key_cmp (λ v. v) once) ≡ true =
    ap (rises key_cmp) (sym (map-id (in_order key_cmp (λ v. v) once))) ∙ in_order-apart key_cmp_total key_cmp-IsAntisymmetric once apart in
    ascends_from_rises key_cmp_total (in_order key_cmp (λ v. v) once) rising

places_ascend : (old : Database) (form : UnitForm) → ascends place_order.cmp (places_in old form) ≡ true
places_ascend old (rows_unit driver) = rows_ascend 0 (length (table_rows old driver))
places_ascend old (values_unit target arm) =
    let vs = anchor_values old arm (arm_kind old arm) in
    groups_ascend (in_order key_cmp (λ v. v) (distinct same_key vs)) (values_ascend vs)

-- the granules of one unit
granules_above : (unit : ℕ) (p : Place) (ps : List Place) → list_all (λ q. is_lt (place_order.cmp p q)) ps ≡ true → list_all (λ g. is_lt (granule_cmp (granule unit p) g)) (map (granule unit) ps) ≡ true
granules_above unit p [] h = refl
granules_above unit p (q ∷ ps) h =
    let tied : nat_cmp unit unit ≡ Equal = tied_itself nat_cmp_total unit in
    and_from _ _ (ap (λ r. is_lt (ordering_then r (place_order.cmp p q))) tied ∙ (and_parts _ _ h).0) (granules_above unit p ps (and_parts _ _ h).1)

granules_ascend : (unit : ℕ) (ps : List Place) → ascends place_order.cmp ps ≡ true → ascends granule_cmp (map (granule unit) ps) ≡ true
granules_ascend unit [] h = refl
granules_ascend unit (p ∷ ps) h = and_from _ _ (granules_above unit p ps (and_parts _ _ h).0) (granules_ascend unit ps (and_parts _ _ h).1)

-- and those of units of greater numbers
module _ (old : Database) where
  abbrev granules_from : ℕ → List UnitForm → List Granule
  granules_from first forms = flat_map (λ u. map (granule u.0) (places_in old u.1)) (enumerate_from first forms)

  module _ (unit : ℕ) (p : Place) where
    unit_above : (later : ℕ) (ps : List Place) → unit < later → list_all (λ g. is_lt (granule_cmp (granule unit p) g)) (map (granule later) ps) ≡ true
    unit_above later [] h = refl
    unit_above later (q ∷ ps) h = and_from _ _ (ap (λ r. is_lt (ordering_then r (place_order.cmp p q))) (number_before unit later h)) (unit_above later ps h)

    units_above : (later : ℕ) (forms : List UnitForm) → unit < later → list_all (λ g. is_lt (granule_cmp (granule unit p) g)) (granules_from later forms) ≡ true
    units_above later [] h = refl
    units_above later (form ∷ forms) h = all_append _ (map (granule later) (places_in old form)) _ (unit_above later (places_in old form) h) (units_above (later + 1) forms (omega arith))

  across_units : (unit later : ℕ) (ps : List Place) (forms : List UnitForm) → unit < later → list_all (λ g. list_all (λ h. is_lt (granule_cmp g h)) (granules_from later forms)) (map (granule unit) ps) ≡ true
  across_units unit later [] forms h = refl
  across_units unit later (p ∷ ps) forms h = and_from _ _ (units_above unit p later forms h) (across_units unit later ps forms h)

  units_ascend : (first : ℕ) (forms : List UnitForm) → ascends granule_cmp (granules_from first forms) ≡ true
  units_ascend first [] = refl
  units_ascend first (form ∷ forms) =
      ascends-append granule_cmp (map (granule first) (places_in old form)) (granules_from (first + 1) forms)
      (granules_ascend first (places_in old form) (places_ascend old form)) (units_ascend (first + 1) forms)
      (across_units first (first + 1) (places_in old form) forms (omega arith))

  pub granules_rise : (m : Migrate) → ascends granule_cmp (granules_of old m) ≡ true
  granules_rise m = units_ascend 0 (units_of old m)
