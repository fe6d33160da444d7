-- Granules that rise by unit and place: they differ, and one more goes in its place among them. What rises and is of a migration can be named by one record of moves.
use Rattle.std.proofs.Common.{◌≡◌, ℕ, zero, suc, ◌-◌, ◌<◌, ◌≤◌, ◌⊎◌, inl, inr, Bool, true, false, cond, List, [], ◌∷◌, map, length, get_or, refl, sym, ap, ap₂, ◌∙◌, arith, Less, Equal, Greater, Some}
use Rattle.std.specs.Prelude.{IsTrue}
use Rattle.std.specs.List.{slice_get, list_all, insert, HoldsAt}
use Rattle.std.specs.List.Sorted.{IsNonDecreasingBy, IsPartitionPoint}
use Rattle.std.specs.Ordering.{eq_by_cmp, ordering_index}
use Rattle.std.proofs.lemmas.Bool.{and_from, and_parts, cases_Bool}
use Rattle.std.proofs.lemmas.Cmp.{tied_itself}
use Rattle.std.proofs.lemmas.Option.{get_or_from_slice_get, none-some, same_Some, slice_get_within}
use Rattle.bf_base.specs.declared.granule.Granule.{Granule}
use Rattle.bf_base.specs.Lists.{has, placed, rises}
use Rattle.bf_base.proofs.Apart.{apart_from_rises, are_apart}
use Rattle.bf_base.proofs.Order.{has-at, has-none, less_from_rises, list_all-placed, placed-insert, rises-placed, searchable_from_rises}
use Rattle.bf_drive.specs.Lists.{AreDifferent}
use Rattle.bf_sql.specs.migrations.Granules.{granules_of, same_granule}
use Rattle.bf_image.specs.Migrations.{old_of}
use Rattle.bf_image.specs.declared.migration.Migration.{Migration}
use Rattle.bf_store.specs.States.{AreGranules, granule_cmp}
use Rattle.bf_store.specs.Stores.{migration_of}
use Rattle.bf_store.proofs.Granules.{granule_cmp_total, granule_ties}
use Rattle.bf_trackers.specs.Migrations.{IsGranuleOf}
use Rattle.bf_trackers.specs.Ordered.{with_granule}

pub same_map : (gs : List Granule) → map (λ g. g) gs ≡ gs
same_map [] = refl
same_map (g ∷ gs) = ap (λ hs. g ∷ hs) (same_map gs)

pub same_tests : same_granule ≡ eq_by_cmp granule_cmp
same_tests i g h = granule_ties g h i

rising_map : (gs : List Granule) → rises granule_cmp gs ≡ true → rises granule_cmp (map (λ g. g) gs) ≡ true
rising_map gs rising = ap (rises granule_cmp) (same_map gs) ∙ rising

-- ---- those that rise differ
less_or_more : (i j : ℕ) → (i ≡ j) ⊎ ((i < j) ⊎ (j < i))
less_or_more i j = grind arith

not_before : (gs : List Granule) → rises granule_cmp gs ≡ true → (i j : ℕ) (g : Granule) → i < j → slice_get gs i ≡ Some g → slice_get gs j ≡ Some g → ⊥
not_before gs rising i j g before first second =
    let less = less_from_rises granule_cmp_total (λ h. h) gs i j g (rising_map gs rising) before (slice_get_within gs j g second) in
    let same = ap₂ granule_cmp (get_or_from_slice_get gs i g g first) (get_or_from_slice_get gs j g g second) in
    let both : Less ≡ Equal = sym less ∙ same ∙ tied_itself granule_cmp_total g in
    absurd cc

pub different : (gs : List Granule) → IsTrue (rises granule_cmp gs) → AreDifferent gs
different gs rising i j g first second = elim (less_or_more i j) [
  | inl same ↦ same
  | inr (inl before) ↦ absurd (not_before gs rising i j g before first second)
  | inr (inr behind) ↦ absurd (not_before gs rising j i g behind second first)
]

-- ---- one more
pub if_new : (gs : List Granule) (g : Granule) → has same_granule gs g ≡ false → with_granule gs g ≡ placed granule_cmp (λ h. h) gs g
if_new gs g none = ap (λ b. cond b gs (placed granule_cmp (λ h. h) gs g)) none

pub if_there : (gs : List Granule) (g : Granule) → has same_granule gs g ≡ true → with_granule gs g ≡ gs
if_there gs g there = ap (λ b. cond b gs (placed granule_cmp (λ h. h) gs g)) there

has_by_cmp : (gs : List Granule) (g : Granule) → has same_granule gs g ≡ has (eq_by_cmp granule_cmp) (map (λ h. h) gs) g
has_by_cmp gs g = ap₂ (λ test hs. has test hs g) same_tests (sym (same_map gs))

-- it goes to the place before which all come before it and from which all come behind it
abbrev pub Goes : List Granule → Granule → ℕ → Type 0
Goes gs g i = IsPartitionPoint (λ h. granule_cmp h g ≡ Less) (λ h. granule_cmp h g ≡ Greater) gs i

pub goes_in : (gs : List Granule) (g : Granule) (i : ℕ) → Goes gs g i → insert gs i g ≡ with_granule gs g
goes_in gs g i at =
    sym (if_new gs g (has_by_cmp gs g ∙ has-none granule_cmp_total (λ h. h) gs i g at) ∙ placed-insert granule_cmp_total (λ h. h) gs i g at)

pub is_there : (gs : List Granule) (g : Granule) (i : ℕ) → i < length gs → HoldsAt (λ h. granule_cmp h g ≡ Equal) gs i → with_granule gs g ≡ gs
is_there gs g i within tied = if_there gs g (has_by_cmp gs g ∙ has-at granule_cmp_total (λ h. h) gs i g g within (tied g))

-- behind the last it comes behind all
pub goes_behind : (gs : List Granule) (g last : Granule) → rises granule_cmp gs ≡ true → Some last ≡ slice_get gs (length gs - 1) → granule_cmp last g ≡ Less → Goes gs g (length gs)
goes_behind gs g last rising at less = (before, λ k d low high. absurd (omega arith))
  where
    last_or_not : (n k : ℕ) → k < n → (k ≡ n - 1) ⊎ (k < n - 1)
    last_or_not n k within = grind arith

    is_last : (k : ℕ) (d : Granule) → k ≡ length gs - 1 → get_or gs k d ≡ last
    is_last k d same = ap (λ n. get_or gs n d) same ∙ get_or_from_slice_get gs (length gs - 1) last d (sym at)

    before : (k : ℕ) (d : Granule) → 0 ≤ k → k < length gs → granule_cmp (get_or gs k d) g ≡ Less
    before k d low high = elim (last_or_not (length gs) k high) [
      | inl same ↦ ap (λ h. granule_cmp h g) (is_last k d same) ∙ less
      | inr earlier ↦
          let next = less_from_rises granule_cmp_total (λ h. h) gs k (length gs - 1) d (rising_map gs rising) earlier (omega arith) in
          granule_cmp_total.trans (get_or gs k d) last g (ap (granule_cmp (get_or gs k d)) (sym (is_last (length gs - 1) d refl)) ∙ next) less
    ]

pub searchable : (gs : List Granule) (g : Granule) → rises granule_cmp gs ≡ true → IsNonDecreasingBy (λ h. ordering_index (granule_cmp h g)) gs
searchable gs g rising = searchable_from_rises granule_cmp_total (λ h. h) gs g (rising_map gs rising)

pub rising_with : (gs : List Granule) (g : Granule) → IsTrue (rises granule_cmp gs) → IsTrue (rises granule_cmp (with_granule gs g))
rising_with gs g rising = elim (cases_Bool (has same_granule gs g)) [
  | inl there ↦ ap (rises granule_cmp) (if_there gs g there) ∙ rising
  | inr none ↦
      let apart = sym (has_by_cmp gs g) ∙ none in
      ap (rises granule_cmp) (if_new gs g none) ∙ ap (rises granule_cmp) (sym (same_map (placed granule_cmp (λ h. h) gs g))) ∙ rises-placed granule_cmp_total (λ h. h) gs g (rising_map gs rising) apart
]

-- ---- of a migration
each_at : (test : Granule → Bool) (gs : List Granule) → list_all test gs ≡ true → (i : ℕ) (g : Granule) → slice_get gs i ≡ Some g → test g ≡ true
each_at test [] each i g at = absurd (none-some g at)
each_at test (h ∷ gs) each zero g at = ap test (sym (same_Some h g at)) ∙ (and_parts _ _ each).0
each_at test (h ∷ gs) each (suc i) g at = each_at test gs (and_parts _ _ each).1 i g at

each_from : (test : Granule → Bool) (gs : List Granule) → ((i : ℕ) (g : Granule) → slice_get gs i ≡ Some g → test g ≡ true) → list_all test gs ≡ true
each_from test [] each = refl
each_from test (g ∷ gs) each = and_from _ _ (each 0 g refl) (each_from test gs (λ i h at. each (suc i) h at))

apart : (gs : List Granule) → rises granule_cmp gs ≡ true → are_apart same_granule gs ≡ true
apart gs rising = ap (λ test. are_apart test gs) same_tests ∙ apart_from_rises granule_cmp_total gs rising

module _ (m : Migration) where
  pub granule_at : (gs : List Granule) → AreGranules (migration_of m []) gs → (i : ℕ) (g : Granule) → slice_get gs i ≡ Some g → IsGranuleOf m g
  granule_at gs are = each_at (has same_granule (granules_of (old_of m) m.plan.migrate)) gs are.each

  pub are_granules : (gs : List Granule) → IsTrue (rises granule_cmp gs) → ((i : ℕ) (g : Granule) → slice_get gs i ≡ Some g → IsGranuleOf m g) → AreGranules (migration_of m []) gs
  are_granules gs rising each = record {
    each = each_from (has same_granule (granules_of (old_of m) m.plan.migrate)) gs each;
    apart = apart gs rising;
  }

  pub granules_with : (gs : List Granule) (g : Granule) → IsTrue (rises granule_cmp gs) → AreGranules (migration_of m []) gs → IsGranuleOf m g → AreGranules (migration_of m []) (with_granule gs g)
  granules_with gs g rising are one = record {
    each = each (cases_Bool (has same_granule gs g));
    apart = apart (with_granule gs g) (rising_with gs g rising);
  }
    where
      known : Granule → Bool
      known = has same_granule (granules_of (old_of m) m.plan.migrate)

      each : (has same_granule gs g ≡ true) ⊎ (has same_granule gs g ≡ false) → list_all known (with_granule gs g) ≡ true
      each (inl there) = ap (list_all known) (if_there gs g there) ∙ are.each
      each (inr none) = ap (list_all known) (if_new gs g none) ∙ list_all-placed granule_cmp_total (λ h. h) known gs g ∙ and_from _ _ one are.each
