-- A sweep is complete exactly where nothing is pending.
use Rattle.std.proofs.Common.{◌≡◌, ℕ, ◌+◌, true, false, not, ◌&&◌, ◌||◌, cond, List, [], ◌∷◌, ◌++◌, map, flat_map, find, length, Option, Some, None, refl, sym, ap, ap₂, ◌∙◌, inl, inr}
use Rattle.std.specs.List.{list_all, enumerate_from}
use Rattle.std.proofs.lemmas.Bool.{and_parts, and_from, or_cases, or_right, false≢true}
use Rattle.std.proofs.lemmas.List.{map-append}
use Rattle.bf_base.specs.declared.granule.Granule.{Granule}
use Rattle.bf_base.specs.declared.granule.Place.{Place}
use Rattle.bf_base.specs.Lists.{has}
use Rattle.bf_tree.specs.declared.history.Sweep.TheVariants.{Complete}
use Rattle.bf_sql.specs.migrations.Granules.{UnitForm, units_of, anchors_of, granule, granules_of, same_granule}
use Rattle.bf_sql.specs.migrations.Lazy.{Migration, is_done, pending, anchored, sweep_by, sweep_of}
use Rattle.bf_image.specs.Laws.{swept}
use Rattle.bf_image.proofs.finding.Found.{same_granule-equal, same_granule-itself}
use Rattle.bf_image.proofs.finding.Owned.{sweep_meets}
use Rattle.bf_store.proofs.moving.Needing.{done_if_none_left, none_left_if_done}

places_numbered : (n k : ℕ) (ps : List Place)
    → map (λ (x : Granule × ℕ). x.0) (map (λ a. (granule n a.1, a.0)) (enumerate_from k ps)) ≡ map (granule n) ps
places_numbered n k [] = refl
places_numbered n k (p ∷ ps) = ap (λ gs. granule n p ∷ gs) (places_numbered n (k + 1) ps)

module _ (last : Migration) where
  met : (us : List (ℕ × UnitForm))
      → map (λ (x : Granule × ℕ). x.0) (flat_map (λ u. map (λ a. (granule u.0 a.1, a.0)) (enumerate_from 0 (anchors_of last.old u.1))) us) ≡ flat_map (λ u. map (granule u.0) (anchors_of last.old u.1)) us
  met [] = refl
  met (u ∷ us) =
      map-append (λ (x : Granule × ℕ). x.0) (map (λ a. (granule u.0 a.1, a.0)) (enumerate_from 0 (anchors_of last.old u.1))) (flat_map (λ u. map (λ a. (granule u.0 a.1, a.0)) (enumerate_from 0 (anchors_of last.old u.1))) us)
      ∙ ap₂ (λ gs hs. gs ++ hs) (places_numbered u.0 0 (anchors_of last.old u.1)) (met us)

  all_or_found : (xs : List (Granule × ℕ)) → find (λ a. not (is_done last a.0)) xs ≡ None
      → list_all (is_done last) (map (λ (x : Granule × ℕ). x.0) xs) ≡ true
  all_or_found [] e = refl
  all_or_found (x ∷ xs) e = elim (is_done last x.0) as (λ b. is_done last x.0 ≡ b → cond (not b) (Some x) (find (λ a. not (is_done last a.0)) xs) ≡ None → (is_done last x.0 && list_all (is_done last) (map (λ (x : Granule × ℕ). x.0) xs)) ≡ true) [
    | true ↦ λ d e. and_from _ _ d (all_or_found xs e)
    | false ↦ λ d e. absurd cc
  ] refl e

  none_found : (xs : List (Granule × ℕ)) → list_all (is_done last) (map (λ (x : Granule × ℕ). x.0) xs) ≡ true
      → find (λ a. not (is_done last a.0)) xs ≡ None
  none_found [] e = refl
  none_found (x ∷ xs) e =
      let first : is_done last x.0 ≡ true = (and_parts _ _ e).0 in
      rw first (none_found xs (and_parts _ _ e).1)

  -- a list all of whose granules are done has those of another done
  done_at : (gs : List Granule) (g : Granule) → list_all (is_done last) gs ≡ true → has same_granule gs g ≡ true → is_done last g ≡ true
  done_at [] g all there = absurd (false≢true there)
  done_at (h ∷ gs) g all there = elim (or_cases (same_granule g h) (has same_granule gs g) there) [
    | inl is ↦ ap (is_done last) (same_granule-equal g h is) ∙ (and_parts _ _ all).0
    | inr behind ↦ done_at gs g (and_parts _ _ all).1 behind
  ]

  all_done_there : (gs hs : List Granule) → ((g : Granule) → has same_granule hs g ≡ has same_granule gs g) → (more : List Granule) → ((g : Granule) → has same_granule more g ≡ true → has same_granule hs g ≡ true)
      → list_all (is_done last) gs ≡ true → list_all (is_done last) more ≡ true
  all_done_there gs hs same [] within all = refl
  all_done_there gs hs same (g ∷ more) within all =
      let here = within g (ap (λ b. b || has same_granule more g) (same_granule-itself g)) in
      and_from _ _ (done_at gs g all (sym (same g) ∙ here)) (all_done_there gs hs same more (λ h there. within h (or_right (same_granule h g) (has same_granule more h) there)) all)

  meets : (g : Granule) → has same_granule (swept last.old last.migrate) g ≡ has same_granule (granules_of last.old last.migrate) g
  meets = sweep_meets last.old last.migrate

  anchors_are : map (λ (x : Granule × ℕ). x.0) (anchored last) ≡ swept last.old last.migrate
  anchors_are = met (enumerate_from 0 (units_of last.old last.migrate))

  -- SWEEP: complete where nothing is pending
  pub complete_if_none_pending : pending last ≡ [] → sweep_of (Some last) ≡ Complete last.number (length last.done)
  complete_if_none_pending none =
      let all = done_if_none_left last (granules_of last.old last.migrate) none in
      let anchors = all_done_there (granules_of last.old last.migrate) (swept last.old last.migrate) meets (swept last.old last.migrate) (λ g there. there) all in
      ap (sweep_by last) (none_found (anchored last) (ap (list_all (is_done last)) anchors_are ∙ anchors))

  running_is_not_complete : (next : Option (Granule × ℕ)) → sweep_by last next ≡ Complete last.number (length last.done) → next ≡ None
  running_is_not_complete None e = refl
  running_is_not_complete (Some next) e = absurd cc

  -- and nowhere else
  pub none_pending_if_complete : sweep_of (Some last) ≡ Complete last.number (length last.done) → pending last ≡ []
  none_pending_if_complete e =
      let none = running_is_not_complete (find (λ a. not (is_done last a.0)) (anchored last)) e in
      let anchors = ap (list_all (is_done last)) (sym anchors_are) ∙ all_or_found (anchored last) none in
      none_left_if_done last (granules_of last.old last.migrate) (all_done_there (swept last.old last.migrate) (granules_of last.old last.migrate) (λ g. sym (meets g)) (granules_of last.old last.migrate) (λ g there. there) anchors)
