-- Granules in the order of unit and place, and the parts of them that one record may move.
use Rattle.std.proofs.Common.{◌≡◌, ℕ, ◌<◌, ◌≤◌, ◌==◌, Bool, true, false, List, [], ◌∷◌, ◌++◌, length, map, filter, Option, Some, None, Ordering, Equal, is_lt, nat_cmp, refl, sym, ap, ◌∙◌, arith, map-id}
use Rattle.std.specs.List.{AllByRecursion, list_all, slice_get}
use Rattle.std.specs.Ordering.{ordering_then}
use Rattle.std.proofs.lemmas.Bool.{and_from, and_parts}
use Rattle.std.proofs.lemmas.Bool.Decides.{nat_tests}
use Rattle.std.proofs.lemmas.Cmp.{nat_cmp_total, tied_itself}
use Rattle.bf_base.specs.contracts.granule.GranuleOrd.TheImpl.{ghosts as granule_order}
use Rattle.bf_base.specs.declared.granule.Granule.{Granule}
use Rattle.bf_base.specs.declared.granule.Place.{Place}
use Rattle.bf_base.specs.declared.granule.Place.TheVariants.{Group, Row}
use Rattle.bf_base.specs.declared.value.Value.{Value}
use Rattle.bf_base.specs.Lists.{has, rises}
use Rattle.bf_base.proofs.Apart.{apart_left, apart_right, rises-filter}
use Rattle.bf_tree.specs.declared.bound.Action.{Action}
use Rattle.bf_tree.specs.declared.bound.Action.TheVariants as action
use Rattle.bf_tree.specs.declared.migration.Migrate.{Migrate}
use Rattle.bf_tree.specs.declared.migration.Target.{Target}
use Rattle.bf_sql.specs.Database.{Database}
use Rattle.bf_sql.specs.migrations.Granules.{granules_of, same_granule}
use Rattle.bf_sql.specs.migrations.Lazy.{Migration}
use Rattle.bf_sql.specs.migrations.Need.{giving, has_key_of, may_satisfy, needed_for, target_of}
use Rattle.bf_store.specs.States.{AreGranules, granule_cmp, most_moved, need_of, place_cmp, to_move}
use Rattle.bf_store.proofs.Granules.{granule_cmp_total}
use Rattle.bf_transpose.proofs.Granules.{granules_rise}
use Rattle.bf_transpose.proofs.Inserted.{ascends}
use Rattle.bf_machine.specs.interleaving.Journals.{IsOneRecord}

-- the granules of a migration come in that order
alike : (u v : ℕ) (p q : Place) → granule_order.cmp (record { unit = u; place = p }) (record { unit = v; place = q }) ≡ granule_cmp (record { unit = u; place = p }) (record { unit = v; place = q })
alike u v (Row m) (Row n) = refl
alike u v (Row m) (Group w) = refl
alike u v (Group w) (Row n) = refl
alike u v (Group x) (Group w) = refl

rises_if_ascends : (gs : List Granule) → ascends granule_order.cmp gs ≡ true → rises granule_cmp gs ≡ true
rises_if_ascends [] above = refl
rises_if_ascends (g ∷ []) above = refl
rises_if_ascends (g ∷ h ∷ gs) above =
    let parts = and_parts _ _ above in
    and_from _ _ (ap is_lt (sym (alike g.unit h.unit g.place h.place)) ∙ (and_parts _ _ parts.0).0) (rises_if_ascends (h ∷ gs) parts.1)

all_rise : (old : Database) (m : Migrate) → rises granule_cmp (granules_of old m) ≡ true
all_rise old m = rises_if_ascends (granules_of old m) (granules_rise old m)

filter_rises : (test : Granule → Bool) (gs : List Granule) → rises granule_cmp gs ≡ true → rises granule_cmp (filter test gs) ≡ true
filter_rises test gs rise =
    ap (rises granule_cmp) (sym (map-id (filter test gs))) ∙ rises-filter granule_cmp_total (λ (g : Granule). g) test gs (ap (rises granule_cmp) (map-id gs) ∙ rise)

-- and so does what is left of a need
module _ (old : Database) (m : Migrate) where
  giving_rises : (target : Option Target) (test : Target → List Value → Bool) → rises granule_cmp (giving old m target test) ≡ true
  giving_rises None test = refl
  giving_rises (Some target) test = filter_rises _ (granules_of old m) (all_rise old m)

  needed_rises : (act : Action) → rises granule_cmp (needed_for old m act) ≡ true
  needed_rises (action.Insert table rows) = giving_rises (target_of old m table) (has_key_of table rows)
  needed_rises (action.Select table items cond fixed) = giving_rises (target_of old m table) (may_satisfy cond)
  needed_rises (action.Update table sets cond fixed) = giving_rises (target_of old m table) (may_satisfy cond)
  needed_rises (action.Delete table cond fixed) = giving_rises (target_of old m table) (may_satisfy cond)
  needed_rises (action.Migrate plan) = all_rise old m
  needed_rises other = refl

pub left_rises : (last : Option Migration) (act : Action) → rises granule_cmp (to_move last (need_of last act)) ≡ true
left_rises None act = refl
left_rises (Some last) act = filter_rises _ (needed_for last.old last.migrate act) (needed_rises last.old last.migrate act)

-- the parts of a list in order
module _ {K : Type 0} (cmp : K → K → Ordering) where
  rises_front : (xs ys : List K) → rises cmp (xs ++ ys) ≡ true → rises cmp xs ≡ true
  rises_front [] ys rise = refl
  rises_front (x ∷ []) ys rise = refl
  rises_front (x ∷ y ∷ xs) ys rise = let parts = and_parts _ _ rise in and_from _ _ parts.0 (rises_front (y ∷ xs) ys parts.1)

  rises_rest : (x : K) (xs : List K) → rises cmp (x ∷ xs) ≡ true → rises cmp xs ≡ true
  rises_rest x [] rise = refl
  rises_rest x (y ∷ xs) rise = (and_parts _ _ rise).1

  rises_back : (xs ys : List K) → rises cmp (xs ++ ys) ≡ true → rises cmp ys ≡ true
  rises_back [] ys rise = rise
  rises_back (x ∷ xs) ys rise = rises_back xs ys (rises_rest x (xs ++ ys) rise)

module _ {X : Type 0} (test : X → Bool) where
  all_front : (xs ys : List X) → list_all test (xs ++ ys) ≡ true → list_all test xs ≡ true
  all_front [] ys all = refl
  all_front (x ∷ xs) ys all = let parts = and_parts _ _ all in and_from _ _ parts.0 (all_front xs ys parts.1)

  all_back : (xs ys : List X) → list_all test (xs ++ ys) ≡ true → list_all test ys ≡ true
  all_back [] ys all = all
  all_back (x ∷ xs) ys all = all_back xs ys (and_parts _ _ all).1

module _ (last : Migration) where
  granules_front : (gs hs : List Granule) → AreGranules last (gs ++ hs) → AreGranules last gs
  granules_front gs hs are = record {
    each = all_front (has same_granule (granules_of last.old last.migrate)) gs hs are.each;
    apart = apart_left same_granule gs hs are.apart;
  }

  granules_back : (gs hs : List Granule) → AreGranules last (gs ++ hs) → AreGranules last hs
  granules_back gs hs are = record {
    each = all_back (has same_granule (granules_of last.old last.migrate)) gs hs are.each;
    apart = apart_right same_granule gs hs are.apart;
  }

-- granules of one unit are in the order of place
places_rise : (unit : ℕ) (gs : List Granule) → AllByRecursion (λ (g : Granule). g.unit ≡ unit) gs → rises granule_cmp gs ≡ true → rises place_cmp (map (λ (g : Granule). g.place) gs) ≡ true
places_rise unit [] one rise = refl
places_rise unit (g ∷ []) one rise = refl
places_rise unit (g ∷ h ∷ gs) one rise =
    let parts = and_parts _ _ rise in
    let tied : nat_cmp g.unit h.unit ≡ Equal = ap (nat_cmp g.unit) (one.1.0 ∙ sym one.0) ∙ tied_itself nat_cmp_total g.unit in
    and_from _ _ (ap (λ (r : Ordering). is_lt (ordering_then r (place_cmp g.place h.place))) (sym tied) ∙ parts.0) (places_rise unit (h ∷ gs) one.1 parts.1)

-- ONE RECORD: those in the midst of granules in order
pub one_record_of : (last : Migration) (before own later : List Granule) → AreGranules last (before ++ (own ++ later)) → rises granule_cmp (before ++ (own ++ later)) ≡ true
    → 1 ≤ length own → length own ≤ most_moved → (unit : ℕ) → AllByRecursion (λ (g : Granule). g.unit ≡ unit) own → IsOneRecord (Some last) own
one_record_of last before own later are rise some few unit one = record {
  of_it = granules_front last own later (granules_back last before (own ++ later) are);
  some = some;
  few = few;
  unit = unit;
  of_one_unit = one;
  in_order = places_rise unit own one (rises_front granule_cmp own later (rises_back granule_cmp before (own ++ later) rise));
}

-- what is left
pub left_none : (gs : List Granule) → (length gs == 0) ≡ true → gs ≡ []
left_none [] none = refl
left_none (g ∷ gs) none = let size : length (g ∷ gs) ≡ 0 = grind (arith, nat_tests, none) in absurd (omega (arith, size))

pub left_some : (gs : List Granule) → (length gs == 0) ≡ false → 0 < length gs
left_some gs some = grind (arith, nat_tests, some)

pub first_there : (gs : List Granule) → 0 < length gs → (first : Granule) × (slice_get gs 0 ≡ Some first)
first_there [] some = absurd (omega (arith, some))
first_there (g ∷ gs) some = (g, refl)
