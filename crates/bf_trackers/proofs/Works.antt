-- Claimed granules in the order of unit and place.
use Rattle.std.proofs.Common.{◌≡◌, ℕ, suc, ◌+◌, ◌≤◌, ◌||◌, Bool, true, false, inl, inr, List, [], ◌∷◌, map, length, take, refl, sym, ap, ap₂, ◌∙◌, arith, nat_cmp, is_lt, Equal, Some}
use Rattle.std.specs.List.{slice_get, list_all, AllByRecursion}
use Rattle.std.specs.Ordering.{eq_by_cmp, ordering_then}
use Rattle.std.proofs.lemmas.Bool.{and_from, and_parts, cases_Bool, false≢true, not_from_false}
use Rattle.std.proofs.lemmas.Cmp.{nat_cmp_total, tied_itself}
use Rattle.std.proofs.lemmas.List.{length-map}
use Rattle.std.proofs.lemmas.List.Sums.{fold-append}
use Rattle.boxcar.specs.Table.{Where}
use Rattle.bf_base.specs.declared.granule.Granule.{Granule}
use Rattle.bf_base.specs.Lists.{has, placed, rises}
use Rattle.bf_base.proofs.Apart.{are_apart, are_apart-same_items, rises-placed_apart, with_placed-items}
use Rattle.bf_base.proofs.Order.{list_any-with_placed}
use Rattle.bf_base.proofs.Items.{SameItems, no_items, same_first, exchanged, through, list_all-same_items}
use Rattle.bf_drive.specs.Lists.{AreDifferent, Entry, IsWip, granules_in}
use Rattle.bf_sql.specs.migrations.Granules.{granules_of, same_granule}
use Rattle.bf_image.specs.Migrations.{old_of}
use Rattle.bf_image.specs.declared.migration.Migration.{Migration}
use Rattle.bf_image.proofs.finding.Found.{same_granule-equal}
use Rattle.bf_store.specs.States.{AreGranules, granule_cmp, place_cmp}
use Rattle.bf_store.specs.Stores.{migration_of}
use Rattle.bf_store.proofs.Granules.{granule_cmp_total}
use Rattle.bf_trackers.specs.Migrations.{IsGranuleOf}
use Rattle.bf_trackers.proofs.Lists.{take_one, taken}
use Rattle.bf_trackers.specs.Ordered.{by_place, with_granule}
use Rattle.bf_trackers.specs.Works.{IsWork}
use Rattle.bf_trackers.proofs.Rising.{if_new, same_map, same_tests}

-- ---- granules at different places of a list are apart
has_at : (gs : List Granule) (g : Granule) → has same_granule gs g ≡ true → (j : ℕ) × (slice_get gs j ≡ Some g)
has_at [] g h = absurd (false≢true h)
has_at (k ∷ gs) g h = elim (cases_Bool (same_granule g k)) [
  | inl same ↦ (0, ap Some (sym (same_granule-equal g k same)))
  | inr other ↦ (let rest = has_at gs g (later (same_granule g k) (has same_granule gs g) other h) in (suc rest.0, rest.1))
]
  where
    later : (a b : Bool) → a ≡ false → (a || b) ≡ true → b ≡ true
    later true b e h = absurd (false≢true (sym e))
    later false b e h = h

apart_if_different : (gs : List Granule) → AreDifferent gs → are_apart same_granule gs ≡ true
apart_if_different [] differ = refl
apart_if_different (g ∷ gs) differ = and_from _ _ (not_from_false _ (none (has same_granule gs g) refl)) (apart_if_different gs (λ i j h a b. (let e = differ (suc i) (suc j) h a b in omega arith)))
  where
    none : (b : Bool) → has same_granule gs g ≡ b → b ≡ false
    none true e = (let there = has_at gs g e in let same = differ 0 (suc there.0) g refl there.1 in absurd (omega arith))
    none false e = refl

apart_by_cmp : (gs : List Granule) → AreDifferent gs → are_apart (eq_by_cmp granule_cmp) gs ≡ true
apart_by_cmp gs differ = ap (λ test. are_apart test gs) (sym same_tests) ∙ apart_if_different gs differ

by_place_rises : (gs : List Granule) → AreDifferent gs → rises granule_cmp (by_place gs) ≡ true
by_place_rises gs differ =
    ap (rises granule_cmp) (sym (same_map (by_place gs))) ∙ rises-placed_apart granule_cmp_total (λ g. g) [] gs refl (ap (are_apart (eq_by_cmp granule_cmp)) (same_map gs) ∙ apart_by_cmp gs differ)

-- ---- the same items in another order
length_same : {X : Type 0} {xs ys : List X} → SameItems xs ys → length xs ≡ length ys
length_same no_items = refl
length_same (same_first r) = ap suc (length_same r)
length_same exchanged = refl
length_same (through r s) = length_same r ∙ length_same s

all_same : {X : Type 0} (P : X → Type 0) {xs ys : List X} → SameItems xs ys → AllByRecursion P xs → AllByRecursion P ys
all_same P no_items all = tt
all_same P (same_first r) all = (all.0, all_same P r all.1)
all_same P exchanged all = (all.1.0, (all.0, all.1.1))
all_same P (through r s) all = all_same P s (all_same P r all)

-- granules of one unit are in the order of place
places_rise : (unit : ℕ) (gs : List Granule) → AllByRecursion (λ g. g.unit ≡ unit) gs → rises granule_cmp gs ≡ true → rises place_cmp (map (λ g. g.place) gs) ≡ true
places_rise unit [] one rise = refl
places_rise unit (g ∷ []) one rise = refl
places_rise unit (g ∷ h ∷ gs) one rise =
    let parts = and_parts _ _ rise in
    let tied : nat_cmp g.unit h.unit ≡ Equal = ap (nat_cmp g.unit) (one.1.0 ∙ sym one.0) ∙ tied_itself nat_cmp_total g.unit in
    and_from _ _ (ap (λ r. is_lt (ordering_then r (place_cmp g.place h.place))) (sym tied) ∙ parts.0) (places_rise unit (h ∷ gs) one.1 parts.1)

-- ---- the granules of a list, one after the other
module _ (gs : List Granule) (differ : AreDifferent gs) (i : ℕ) where
  differ_so_far : AreDifferent (take i gs)
  differ_so_far j k g a b = differ j k g (taken i j gs g a).1 (taken i k gs g b).1

  pub rising_so_far : (items : List Granule) → items ≡ by_place (take i gs) → rises granule_cmp items ≡ true
  rising_so_far items so_far = ap (rises granule_cmp) so_far ∙ by_place_rises (take i gs) differ_so_far

  -- the next is none of those before it
  none_before : (g : Granule) → slice_get gs i ≡ Some g → (b : Bool) → has same_granule (take i gs) g ≡ b → b ≡ false
  none_before g at true e =
      let there = has_at (take i gs) g e in
      let before = taken i there.0 gs g there.1 in
      let same = differ there.0 i g before.1 at in
      absurd (let less = before.0 in omega arith)
  none_before g at false e = refl

  -- and goes in its place among them
  pub next_in_order : (g copy : Granule) (items new : List Granule) → new ≡ with_granule items copy → copy ≡ g → items ≡ by_place (take i gs) → Some g ≡ slice_get gs i → new ≡ by_place (take (i + 1) gs)
  next_in_order g copy items new is copied so_far at =
      let none : has same_granule (by_place (take i gs)) g ≡ false =
      list_any-with_placed granule_cmp_total (λ h. h) (same_granule g) [] (take i gs) ∙ none_before g (sym at) (has same_granule (take i gs) g) refl in
      is ∙ ap₂ with_granule so_far copied ∙ if_new (by_place (take i gs)) g none
      ∙ sym (fold-append (placed granule_cmp (λ h. h)) [] (take i gs) (g ∷ [])) ∙ ap by_place (sym (take_one gs i g (sym at)))

-- ---- the work of claims
module _ (pass : Where Migration) (wip : List Entry) (sound : IsWip wip) (each : AllByRecursion (λ entry. IsGranuleOf pass.value entry.0) wip) where
  abbrev gs : List Granule
  gs = granules_in wip

  same : SameItems gs (by_place gs)
  same = with_placed-items granule_cmp_total (λ g. g) [] gs

  each_of_it : list_all (has same_granule (granules_of (old_of pass.value) pass.value.plan.migrate)) gs ≡ true
  each_of_it = of wip each
    where
      of : (entries : List Entry) → AllByRecursion (λ entry. IsGranuleOf pass.value entry.0) entries → list_all (has same_granule (granules_of (old_of pass.value) pass.value.plan.migrate)) (granules_in entries) ≡ true
      of [] all = refl
      of (entry ∷ entries) all = and_from _ _ all.0 (of entries all.1)

  pub of_it : AreGranules (migration_of pass.value []) (by_place gs)
  of_it = record {
    each = sym (list_all-same_items (has same_granule (granules_of (old_of pass.value) pass.value.plan.migrate)) same) ∙ each_of_it;
    apart = ap (λ test. are_apart test (by_place gs)) same_tests ∙ sym (are_apart-same_items granule_cmp_total same) ∙ apart_by_cmp gs sound.different;
  }

  rise : rises granule_cmp (by_place gs) ≡ true
  rise = by_place_rises gs sound.different

  pub is_work : 1 ≤ length wip → (unit : ℕ) → AllByRecursion (λ g. g.unit ≡ unit) gs → IsWork pass wip (by_place gs)
  is_work some unit one =
      let long = length_same same in
      let own = length-map wip (λ (entry : Entry). entry.0) in
      record {
        sorted = refl;
        of_it = of_it;
        some = omega arith;
        few = (let most = sound.few in omega arith);
        of_one_unit = (unit, all_same (λ g. g.unit ≡ unit) same one);
        in_order = places_rise unit (by_place gs) (all_same (λ g. g.unit ≡ unit) same one) rise;
      }
