-- What the tests of places of a record come to: whether the move is legal.
use Rattle.std.proofs.Common.{◌≡◌, ℕ, ◌<◌, ◌≤◌, Bool, true, false, not, ◌&&◌, cond, List, [], ◌∷◌, filter, length, Option, Some, None, refl, sym, ap, ap₂, subst, ◌∙◌, inl, inr, is_lt, arith}
use Rattle.std.specs.List.{list_all}
use Rattle.std.specs.Ordering.{ordering_then}
use Rattle.std.proofs.lemmas.Bool.{and_from, and_parts, cases_Bool, false≢true}
use Rattle.std.proofs.lemmas.Cmp.{nat_cmp_total, tied_itself}
use Rattle.std.proofs.lemmas.List.Folds.{list_all-map}
use Rattle.boxcar.specs.Table.{Where}
use Rattle.bf_base.specs.declared.granule.Granule.{Granule}
use Rattle.bf_base.specs.declared.granule.Place.{Place}
use Rattle.bf_base.specs.Lists.{has, rises}
use Rattle.bf_base.proofs.Apart.{apart_from_rises, are_apart, list_any-filter}
use Rattle.bf_sql.specs.migrations.Granules.{granule, granules_of, same_granule}
use Rattle.bf_sql.specs.migrations.Lazy.{Migration, is_done, not_done}
use Rattle.bf_image.specs.Migrations.{old_of}
use Rattle.bf_image.specs.declared.migration.Migration.{Migration as Kept}
use Rattle.bf_store.specs.States.{AreGranulesIfAny, granule_cmp, place_cmp, to_move}
use Rattle.bf_store.specs.Stores.{IsByPass}
use Rattle.bf_store.proofs.Granules.{granule_cmp_total}
use Rattle.bf_store.proofs.moving.Moving.{has_if_passes, passes_if_has}
use Rattle.bf_store.proofs.moving.Ordered.{ties}
use Rattle.bf_recover.specs.Moves.{granules_at, is_legal_move, is_to_move, is_told_of}

-- granules of one unit rise where their places do
module _ (unit : ℕ) where
  in_one_unit : (p q : Place) → granule_cmp (granule unit p) (granule unit q) ≡ place_cmp p q
  in_one_unit p q = ap (λ r. ordering_then r (place_cmp p q)) (tied_itself nat_cmp_total unit)

  granules_rise : (places : List Place) → rises granule_cmp (granules_at unit places) ≡ rises place_cmp places
  granules_rise [] = refl
  granules_rise (p ∷ []) = refl
  granules_rise (p ∷ q ∷ places) = ap₂ (λ r b. is_lt r && b) (in_one_unit p q) (granules_rise (q ∷ places))

  pub granules_differ : (places : List Place) → rises place_cmp places ≡ true → are_apart same_granule (granules_at unit places) ≡ true
  granules_differ places rising =
      ap (λ same. are_apart same (granules_at unit places)) ties
      ∙ apart_from_rises granule_cmp_total (granules_at unit places) (granules_rise places ∙ rising)

fewer : (test : Granule → Bool) (gs : List Granule) → length (filter test gs) ≤ length gs
fewer test [] = omega arith
fewer test (g ∷ gs) =
    let rest = fewer test gs in
    elim (test g) as (λ b. length (cond b (g ∷ filter test gs) (filter test gs)) ≤ length (g ∷ gs)) [
      | true ↦ omega (arith, rest)
      | false ↦ omega (arith, rest)
    ]

module _ (last : Migration) (unit : ℕ) where
  abbrev is_known : Place → Bool
  is_known p = has same_granule (granules_of last.old last.migrate) (granule unit p)

  abbrev waits : Place → Bool
  waits p = is_to_move last (granule unit p)

  waits_not_done : (g : Granule) → is_to_move last g ≡ true → is_done last g ≡ true → ⊥
  waits_not_done g wait done = false≢true (sym (ap not done) ∙ passes_if_has (λ h. not (is_done last h)) (granules_of last.old last.migrate) g wait)

  not_if_done : (g : Granule) → is_done last g ≡ true → is_to_move last g ≡ false
  not_if_done g done = elim (cases_Bool (is_to_move last g)) as (λ _. is_to_move last g ≡ false) [
    | inl wait ↦ absurd (waits_not_done g wait done)
    | inr none ↦ none
  ]

  -- a place that is not known does not wait
  not_if_unknown : (places : List Place) → list_all is_known places ≡ false → list_all waits places ≡ false
  not_if_unknown [] e = absurd cc
  not_if_unknown (p ∷ places) e = elim (cases_Bool (is_known p)) as (λ _. list_all waits (p ∷ places) ≡ false) [
    | inl known ↦
        let rest : list_all is_known places ≡ false = sym (ap (λ b. b && list_all is_known places) known) ∙ e in
        second (waits p) (list_all waits places) (not_if_unknown places rest)
    | inr unknown ↦ ap (λ b. b && list_all waits places) (list_any-filter (same_granule (granule unit p)) (λ h. not (is_done last h)) (granules_of last.old last.migrate) unknown)
  ]
    where
      second : (a b : Bool) → b ≡ false → (a && b) ≡ false
      second true b e = e
      second false b e = refl

  -- nor does one that has moved
  not_if_moved : (places : List Place) → length (not_done last (granules_at unit places)) < length places → list_all waits places ≡ false
  not_if_moved [] less = absurd (omega arith)
  not_if_moved (p ∷ places) less = elim (cases_Bool (is_done last (granule unit p))) as (λ _. list_all waits (p ∷ places) ≡ false) [
    | inl done ↦ ap (λ b. b && list_all waits places) (not_if_done (granule unit p) done)
    | inr left ↦
        let kept : not_done last (granules_at unit (p ∷ places)) ≡ granule unit p ∷ not_done last (granules_at unit places) = ap (λ b. cond (not b) (granule unit p ∷ not_done last (granules_at unit places)) (not_done last (granules_at unit places))) left in
        second (waits p) (list_all waits places) (not_if_moved places (omega (arith, less, ap (λ (gs : List Granule). length gs) kept)))
  ]
    where
      second : (a b : Bool) → b ≡ false → (a && b) ≡ false
      second true b e = e
      second false b e = refl

  -- and each other place waits
  all_wait : (places : List Place) → list_all is_known places ≡ true → length places ≤ length (not_done last (granules_at unit places)) → list_all waits places ≡ true
  all_wait [] known enough = refl
  all_wait (p ∷ places) known enough = elim (cases_Bool (is_done last (granule unit p))) as (λ _. list_all waits (p ∷ places) ≡ true) [
    | inl done ↦
        let out : not_done last (granules_at unit (p ∷ places)) ≡ not_done last (granules_at unit places) = ap (λ b. cond (not b) (granule unit p ∷ not_done last (granules_at unit places)) (not_done last (granules_at unit places))) done in
        absurd (omega (arith, enough, ap (λ (gs : List Granule). length gs) out, fewer (λ h. not (is_done last h)) (granules_at unit places), as_many places))
    | inr left ↦
        let kept : not_done last (granules_at unit (p ∷ places)) ≡ granule unit p ∷ not_done last (granules_at unit places) = ap (λ b. cond (not b) (granule unit p ∷ not_done last (granules_at unit places)) (not_done last (granules_at unit places))) left in
        and_from _ _ (has_if_passes (λ h. not (is_done last h)) (granules_of last.old last.migrate) (granule unit p) (and_parts _ _ known).0 (ap not left))
        (all_wait places (and_parts _ _ known).1 (omega (arith, enough, ap (λ (gs : List Granule). length gs) kept)))
  ]
    where
      as_many : (ps : List Place) → length (granules_at unit ps) ≡ length ps
      as_many [] = refl
      as_many (p ∷ ps) = omega (arith, as_many ps)

-- before any migration no move is legal
pub not_if_never : (o : Option Migration) (now : Option (Where Kept)) → IsByPass o now → None ≡ now → (number unit : ℕ) (places : List Place) → false ≡ is_legal_move o number unit places
not_if_never None now by_pass none number unit places = refl
not_if_never (Some last) now by_pass none number unit places = absurd (subst (IsByPass (Some last)) (sym none) by_pass)

-- the last migration is the one of a pass
module _ (o : Option Migration) (now : Option (Where Kept)) (by_pass : IsByPass o now) (pass : Where Kept) (is : Some pass ≡ now) (m : Kept) (read : m ≡ pass.value)
    (number unit : ℕ) (places : List Place) where
  abbrev known_in : Kept → Place → Bool
  known_in k p = has same_granule (granules_of (old_of k) k.plan.migrate) (granule unit p)

  -- what of a migration is told of the one that is there
  by_this : (P : Option Migration → Type 0) → ((u : Migration) → u.number ≡ m.number → ((p : Place) → known_in m p ≡ is_known u unit p) → P (Some u)) → P o
  by_this P one = of o (subst (IsByPass o) (sym is) by_pass)
    where
      of : (o : Option Migration) → IsByPass o (Some pass) → P o
      of None by = absurd by
      of (Some u) by =
          one u (ap (λ (v : Migration). v.number) by ∙ ap (λ (k : Kept). k.number) (sym read))
          (λ p. ap (λ (k : Kept). known_in k p) read ∙ ap (λ (v : Migration). has same_granule (granules_of v.old v.migrate) (granule unit p)) (sym by))

  never : (a : Bool) → (a && false) ≡ false
  never true = refl
  never false = refl

  all_alike : (f g : Place → Bool) → ((p : Place) → f p ≡ g p) → (ps : List Place) → list_all f ps ≡ list_all g ps
  all_alike f g same [] = refl
  all_alike f g same (p ∷ ps) = ap₂ (λ a b. a && b) (same p) (all_alike f g same ps)

  count : (ps : List Place) → length (granules_at unit ps) ≡ length ps
  count [] = refl
  count (p ∷ ps) = omega (arith, count ps)

  -- it is told as no record of the migration is
  pub not_if_untold : false ≡ is_told_of m.number number places → false ≡ is_legal_move o number unit places
  not_if_untold untold =
      by_this (λ o. false ≡ is_legal_move o number unit places)
      (λ u n same. ap (λ told. told && list_all (waits u unit) places) (untold ∙ ap (λ k. is_told_of k number places) (sym n)))

  -- a place is not the unit's
  pub not_if_strange : false ≡ list_all (known_in m) places → false ≡ is_legal_move o number unit places
  not_if_strange strange =
      by_this (λ o. false ≡ is_legal_move o number unit places)
      (λ u n same.
      let unknown : list_all (is_known u unit) places ≡ false = sym (all_alike (known_in m) (is_known u unit) same places) ∙ sym strange in
      sym (ap (λ b. is_told_of u.number number places && b) (not_if_unknown u unit places unknown) ∙ never (is_told_of u.number number places)))

  -- a granule has moved before
  pub not_if_done_before : length (to_move o (granules_at unit places)) < length (granules_at unit places) → false ≡ is_legal_move o number unit places
  not_if_done_before less =
      by_this (λ o. length (to_move o (granules_at unit places)) < length (granules_at unit places) → false ≡ is_legal_move o number unit places)
      (λ u n same less. sym (ap (λ b. is_told_of u.number number places && b) (not_if_moved u unit places (omega (arith, less, count places))) ∙ never (is_told_of u.number number places))) less

  -- and otherwise it is legal
  module _ (told : true ≡ is_told_of m.number number places) (known : true ≡ list_all (known_in m) places) where
    pub may_move : AreGranulesIfAny o (granules_at unit places)
    may_move =
        by_this (λ o. AreGranulesIfAny o (granules_at unit places))
        (λ u n same. record {
          each = list_all-map (has same_granule (granules_of u.old u.migrate)) (granule unit) places ∙ sym (all_alike (known_in m) (is_known u unit) same places) ∙ sym known;
          apart = granules_differ unit places (and_parts _ _ (sym told)).1;
        })

    pub legal : length (granules_at unit places) ≤ length (to_move o (granules_at unit places)) → true ≡ is_legal_move o number unit places
    legal all =
        by_this (λ o. length (granules_at unit places) ≤ length (to_move o (granules_at unit places)) → true ≡ is_legal_move o number unit places)
        (λ u n same all. sym (and_from _ _ (ap (λ k. is_told_of k number places) n ∙ sym told)
        (all_wait u unit places (sym (all_alike (known_in m) (is_known u unit) same places) ∙ sym known) (omega (arith, all, count places))))) all
