-- A sweep is complete exactly where each granule has moved once, and as many have moved then as there are.
use Rattle.std.proofs.Common.{◌≡◌, ◌≤◌, Bool, true, false, not, List, [], ◌∷◌, filter, length, Some, ◌==◌, refl, sym, ap, ◌∙◌, inl, inr, arith}
use Rattle.std.specs.Cmp.{IsEquivalence}
use Rattle.std.specs.List.{list_all, count_by, AllByRecursion, IsDistinct}
use Rattle.std.proofs.lemmas.Bool.{and_parts, and_from, or_parts, not-true, not_from_false, cases_Bool, eqb-true, eq-eqb, false≢true}
use Rattle.std.proofs.lemmas.List.{length-map}
use Rattle.std.proofs.lemmas.List.Sums.{length-filter}
use Rattle.std.proofs.lemmas.Map.Made.{length-le_from_is_member}
use Rattle.bf_base.specs.declared.granule.Granule.{Granule}
use Rattle.bf_base.specs.Lists.{has}
use Rattle.bf_base.proofs.Apart.{are_apart}
use Rattle.bf_base.proofs.Parts.{filter_none, filter_same, none_fails}
use Rattle.bf_tree.specs.declared.history.Sweep.TheVariants.{Complete}
use Rattle.bf_sql.specs.Database.{Database}
use Rattle.bf_sql.specs.migrations.Granules.{granules_of, same_granule}
use Rattle.bf_sql.specs.migrations.Lazy.{DoneGranule, Migration, sweep_of}
use Rattle.bf_image.proofs.finding.Found.{same_granule-equal, same_granule-itself}
use Rattle.bf_store.specs.States.{IsComplete, IsUnderWay, granules_done}
use Rattle.bf_store.proofs.coming.Found.{same_granule-symmetric}
use Rattle.bf_store.proofs.coming.Parts.{granules_apart}
use Rattle.bf_store.proofs.moving.Sweeping.{complete_if_none_pending, none_pending_if_complete}

same_granule_equiv : IsEquivalence same_granule
same_granule_equiv = record { refl = same_granule-itself; symm = same_granule-symmetric; congr = λ g h k e. ap (λ x. same_granule x k) (same_granule-equal g h e) }

none_same : (g : Granule) (gs : List Granule) → has same_granule gs g ≡ false → AllByRecursion (λ h. same_granule g h ≡ false) gs
none_same g [] none = tt
none_same g (h ∷ gs) none = ((or_parts _ _ none).0, none_same g gs (or_parts _ _ none).1)

distinct_if_apart : (gs : List Granule) → are_apart same_granule gs ≡ true → IsDistinct same_granule gs
unfolding IsDistinct
distinct_if_apart [] apart = tt
distinct_if_apart (g ∷ gs) apart = (none_same g gs (not-true _ (and_parts _ _ apart).0), distinct_if_apart gs (and_parts _ _ apart).1)

-- of granules that are apart one is the same as one of them
counted_once : (gs : List Granule) (g : Granule) → are_apart same_granule gs ≡ true → has same_granule gs g ≡ true → (count_by (same_granule g) gs == 1) ≡ true
counted_once gs g apart there = eq-eqb _ _ (sym (length-filter (same_granule g) gs) ∙ ap length (filter_same same_granule same_granule-equal g gs apart there))

has_if_counted : (gs : List Granule) (g : Granule) → (count_by (same_granule g) gs == 1) ≡ true → has same_granule gs g ≡ true
has_if_counted gs g once = elim (cases_Bool (has same_granule gs g)) [
  | inl there ↦ there
  | inr absent ↦
      let nothing : count_by (same_granule g) gs ≡ 0 = sym (length-filter (same_granule g) gs) ∙ ap length (filter_none (same_granule g) gs absent) in
      let one : count_by (same_granule g) gs ≡ 1 = eqb-true _ _ once in
      absurd (omega arith)
]

-- where what does not pass comes to nothing, each passes
all_if_none_left : (test : Granule → Bool) (gs : List Granule) → filter (λ g. not (test g)) gs ≡ [] → list_all test gs ≡ true
all_if_none_left test [] none = refl
all_if_none_left test (g ∷ gs) none = elim (cases_Bool (test g)) [
  | inl passes ↦ and_from _ _ passes (all_if_none_left test gs (rw passes at none))
  | inr fails ↦
      let some : g ∷ filter (λ h. not (test h)) gs ≡ [] = rw fails at none in
      absurd (cc some)
]

-- what is one of some granules is one of all in which each of them is
pub has_if_within : (gs hs : List Granule) (g : Granule) → list_all (has same_granule hs) gs ≡ true → has same_granule gs g ≡ true → has same_granule hs g ≡ true
has_if_within [] hs g within there = absurd (false≢true there)
has_if_within (h ∷ gs) hs g within there = elim (cases_Bool (same_granule g h)) [
  | inl is ↦ ap (has same_granule hs) (same_granule-equal g h is) ∙ (and_parts _ _ within).0
  | inr other ↦
      let there' : has same_granule gs g ≡ true = rw other at there in
      has_if_within gs hs g (and_parts _ _ within).1 there'
]

-- where as many granules that differ are each one of others, these are all there
pub all_there : (gs hs : List Granule) → are_apart same_granule gs ≡ true → list_all (has same_granule hs) gs ≡ true → length hs ≤ length gs → (g : Granule) → has same_granule hs g ≡ true → has same_granule gs g ≡ true
all_there gs hs apart within enough g there = elim (cases_Bool (has same_granule gs g)) [
  | inl is ↦ is
  | inr absent ↦
      let differ = distinct_if_apart (g ∷ gs) (and_from _ _ (not_from_false _ absent) apart) in
      let more = length-le_from_is_member same_granule_equiv (g ∷ gs) hs differ (λ h is. has_if_within (g ∷ gs) hs h (and_from _ _ there within) is) in
      absurd (omega (arith, more, enough))
]

all_where : (test other : Granule → Bool) → ((g : Granule) → test g ≡ true → other g ≡ true) → (gs : List Granule) → list_all test gs ≡ true → list_all other gs ≡ true
all_where test other so [] all = refl
all_where test other so (g ∷ gs) all = and_from _ _ (so g (and_parts _ _ all).0) (all_where test other so gs (and_parts _ _ all).1)

module _ (live : Database) (last : Migration) (way : IsUnderWay live last) where
  abbrev granules : List Granule
  granules = granules_of last.old last.migrate

  abbrev done : List Granule
  done = granules_done last

  pub each_once : sweep_of (Some last) ≡ Complete last.number (length last.done) → IsComplete last
  each_once complete =
      let all = all_if_none_left (has same_granule done) granules (none_pending_if_complete last complete) in
      all_where (has same_granule done) (λ g. count_by (same_granule g) done == 1) (λ g there. counted_once done g way.once there) granules all

  all_done : IsComplete last → list_all (has same_granule done) granules ≡ true
  all_done once = all_where (λ g. count_by (same_granule g) done == 1) (has same_granule done) (λ g one. has_if_counted done g one) granules once

  pub complete_sweep : IsComplete last → sweep_of (Some last) ≡ Complete last.number (length last.done)
  complete_sweep once =
      complete_if_none_pending last (filter_none (λ g. not (has same_granule done g)) granules (none_fails (has same_granule done) granules (all_done once)))

  pub as_many : IsComplete last → length last.done ≡ length granules
  as_many once =
      let same : length done ≡ length last.done = length-map last.done (λ (d : DoneGranule). d.granule) in
      let no_more = length-le_from_is_member same_granule_equiv done granules (distinct_if_apart done way.once) (λ g there. has_if_within done granules g way.granules there) in
      let no_fewer = length-le_from_is_member same_granule_equiv granules done (distinct_if_apart granules (granules_apart last.old last.migrate)) (λ g there. has_if_within granules done g (all_done once) there) in
      omega (arith, same, no_more, no_fewer)
