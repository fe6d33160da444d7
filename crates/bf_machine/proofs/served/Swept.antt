-- The sweep of a migration is told by what has moved of it, in the order of unit and place.
use Rattle.std.proofs.Common.{◌≡◌, ℕ, Bool, true, false, not, List, [], ◌∷◌, map, filter, length, Option, Some, None, refl, sym, ap, ◌∙◌, arith, inl, inr}
use Rattle.std.specs.Cmp.{IsEquivalence}
use Rattle.std.specs.Prelude.{find}
use Rattle.std.specs.List.{AllByRecursion, IsDistinct, list_all}
use Rattle.std.proofs.lemmas.Bool.{and_parts, cases_Bool, false≢true, not-true, or_parts}
use Rattle.std.proofs.lemmas.List.{length-map}
use Rattle.std.proofs.lemmas.Map.Made.{length-le_from_is_member}
use Rattle.std.proofs.lemmas.Simd.{map-map}
use Rattle.bf_base.specs.declared.granule.Granule.{Granule}
use Rattle.bf_base.specs.Lists.{has}
use Rattle.bf_base.proofs.Apart.{apart-filter, are_apart}
use Rattle.bf_base.proofs.Parts.{map_itself}
use Rattle.bf_tree.specs.declared.history.Sweep.TheVariants.{Complete, Running}
use Rattle.bf_sql.specs.Database.{Database}
use Rattle.bf_sql.specs.migrations.Granules.{granules_of, same_granule}
use Rattle.bf_sql.specs.migrations.Lazy.{DoneGranule, Migration, anchored, done_by, is_done, sweep_by, sweep_of}
use Rattle.bf_image.proofs.finding.Found.{same_granule-equal, same_granule-itself}
use Rattle.bf_store.specs.States.{IsUnderWay, IsUnderWayIfAny, granules_done}
use Rattle.bf_store.proofs.coming.Found.{same_granule-symmetric}
use Rattle.bf_store.proofs.coming.Parts.{granules_apart}
use Rattle.bf_store.proofs.moving.Moving.{has_if_passes}
use Rattle.bf_machine.specs.Movement.{moving_seen, sweep_told}

granules_equiv : IsEquivalence same_granule
granules_equiv = record { refl = same_granule-itself; symm = same_granule-symmetric; congr = λ g h k e. ap (λ x. same_granule x k) (same_granule-equal g h e) }

none_same : (g : Granule) (gs : List Granule) → has same_granule gs g ≡ false → AllByRecursion (λ h. same_granule g h ≡ false) gs
none_same g [] none = tt
none_same g (h ∷ gs) none = ((or_parts (same_granule g h) (has same_granule gs g) none).0, none_same g gs (or_parts (same_granule g h) (has same_granule gs g) none).1)

differ : (gs : List Granule) → are_apart same_granule gs ≡ true → IsDistinct same_granule gs
unfolding IsDistinct
differ [] apart = tt
differ (g ∷ gs) apart =
    let parts = and_parts (not (has same_granule gs g)) (are_apart same_granule gs) apart in
    (none_same g gs (not-true (has same_granule gs g) parts.0), differ gs parts.1)

-- what is one of some granules is one of all in which each of them is
within : (gs hs : List Granule) (g : Granule) → list_all (has same_granule hs) gs ≡ true → has same_granule gs g ≡ true → has same_granule hs g ≡ true
within [] hs g each there = absurd (false≢true there)
within (h ∷ gs) hs g each there =
    let parts = and_parts (has same_granule hs h) (list_all (has same_granule hs) gs) each in
    elim (cases_Bool (same_granule g h)) as (λ _. has same_granule hs g ≡ true) [
      | inl is ↦ ap (has same_granule hs) (same_granule-equal g h is) ∙ parts.0
      | inr other ↦
          let rest : has same_granule gs g ≡ true = rw other at there in
          within gs hs g parts.1 rest
    ]

-- what a test leaves passes it
left_passes : (test : Granule → Bool) (xs : List Granule) (g : Granule) → has same_granule (filter test xs) g ≡ true → test g ≡ true
left_passes test [] g there = absurd (false≢true there)
left_passes test (x ∷ xs) g there = elim (cases_Bool (test x)) as (λ _. test g ≡ true) [
  | inr out ↦
      let rest : has same_granule (filter test xs) g ≡ true = rw out at there in
      left_passes test xs g rest
  | inl passes ↦
      let both : has same_granule (x ∷ filter test xs) g ≡ true = rw passes at there in
      elim (cases_Bool (same_granule g x)) as (λ _. test g ≡ true) [
        | inl is ↦ ap test (same_granule-equal g x is) ∙ passes
        | inr other ↦
            let rest : has same_granule (filter test xs) g ≡ true = rw other at both in
            left_passes test xs g rest
      ]
]

module _ (live : Database) (last : Migration) (way : IsUnderWay live last) where
  abbrev all : List Granule
  all = granules_of last.old last.migrate

  abbrev moved : List Granule
  moved = filter (is_done last) all

  abbrev told : Migration
  told = record { number = last.number; old = last.old; migrate = last.migrate; done = map (done_by 0) moved }

  -- the granules that are done are those of the migration that are
  one_of_moved : (g : Granule) → has same_granule moved g ≡ is_done last g
  one_of_moved g = elim (cases_Bool (is_done last g)) as (λ _. has same_granule moved g ≡ is_done last g) [
    | inl done ↦ has_if_passes (is_done last) all g (within (granules_done last) all g way.granules done) done ∙ sym done
    | inr waits ↦ elim (cases_Bool (has same_granule moved g)) as (λ _. has same_granule moved g ≡ is_done last g) [
      | inl there ↦ absurd (false≢true (sym waits ∙ left_passes (is_done last) all g there))
      | inr none ↦ none ∙ sym waits
    ]
  ]

  done_again : map (λ (d : DoneGranule). d.granule) (map (done_by 0) moved) ≡ moved
  done_again = map-map (λ (d : DoneGranule). d.granule) (done_by 0) moved ∙ map_itself (λ g. g) (λ g. refl) moved

  same_done : (g : Granule) → is_done last g ≡ is_done told g
  same_done g = sym (one_of_moved g) ∙ ap (λ (gs : List Granule). has same_granule gs g) (sym done_again)

  as_many : length last.done ≡ length told.done
  as_many =
      let one : length (granules_done last) ≡ length last.done = length-map last.done (λ (d : DoneGranule). d.granule) in
      let other : length told.done ≡ length moved = length-map moved (done_by 0) in
      let no_more = length-le_from_is_member granules_equiv (granules_done last) moved (differ (granules_done last) way.once) (λ g there. one_of_moved g ∙ there) in
      let no_fewer = length-le_from_is_member granules_equiv moved (granules_done last)
      (differ moved (apart-filter same_granule (is_done last) all (granules_apart last.old last.migrate))) (λ g there. sym (one_of_moved g) ∙ there) in
      omega (arith, one, other, no_more, no_fewer)

  swept : sweep_of (Some last) ≡ sweep_of (Some told)
  swept =
      ap (λ (found : Option (Granule × ℕ)). sweep_by last found) (λ i. find (λ (a : Granule × ℕ). not (same_done a.0 i)) (anchored last))
      ∙ by (find (λ (a : Granule × ℕ). not (is_done told a.0)) (anchored last))
    where
      by : (found : Option (Granule × ℕ)) → sweep_by last found ≡ sweep_by told found
      by None = ap (λ (n : ℕ). Complete last.number n) as_many
      by (Some next) = ap (λ (n : ℕ). Running last.number n (next.0).unit next.1) as_many

pub sweep_is : (live : Database) (last : Option Migration) → IsUnderWayIfAny live last → sweep_of last ≡ sweep_told (moving_seen last)
sweep_is live None way = refl
sweep_is live (Some last) way = swept live last way
