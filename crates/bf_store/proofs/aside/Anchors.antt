-- The first anchor of a migration is that of the first unit that has one.
use Rattle.std.proofs.Common.{◌≡◌, ℕ, ◌+◌, ◌<◌, ◌≤◌, List, [], ◌∷◌, ◌++◌, map, flat_map, find, drop, length, true, Option, Some, None, option_map, unwrap_or, refl, sym, ap, ◌∙◌, add-one, arith, zero, suc}
use Rattle.std.specs.Prelude.{slice_get}
use Rattle.std.specs.List.{enumerate_from}
use Rattle.bf_base.specs.declared.granule.Granule.{Granule}
use Rattle.bf_base.specs.declared.granule.Place.{Place}
use Rattle.bf_sql.specs.Database.{Database}
use Rattle.bf_sql.specs.migrations.Granules.{UnitForm, anchors_of, granule}
use Rattle.bf_store.specs.declared.anchor.Anchor.{Anchor}

-- the anchors of some units, the first of which has a number
abbrev pub anchors_from : Database → ℕ → List UnitForm → List (Granule × ℕ)
anchors_from old n us = flat_map (λ u. map (λ a. (granule u.0 a.1, a.0)) (enumerate_from 0 (anchors_of old u.1))) (enumerate_from n us)

abbrev pub first_of : List (Granule × ℕ) → Option Anchor
first_of anchors = option_map (λ (a : Granule × ℕ). record { unit = (a.0).unit; position = a.1 }) (find (λ a. true) anchors)

-- the unit at a number, and those behind it
pub record IsUnitAt (us : List UnitForm) (n : ℕ) : Type 0 where
  pub unit : UnitForm
  pub at : slice_get us n ≡ Some unit
  pub rest : drop n us ≡ unit ∷ drop (n + 1) us

pub unit_there : (us : List UnitForm) (n : ℕ) → n < length us → IsUnitAt us n
unit_there [] n less = absurd (omega arith)
unit_there (u ∷ us) zero less = record { unit = u; at = refl; rest = refl }
unit_there (u ∷ us) (suc n) less =
    let found = unit_there us n (omega arith) in
    record { unit = found.unit; at = found.at; rest = found.rest ∙ ap (λ rest. found.unit ∷ rest) (ap (λ k. drop k us) (add-one n) ∙ ap (λ k. drop k (u ∷ us)) (sym (add-one (suc n)))) }

abbrev pub count_at : Database → List UnitForm → ℕ → ℕ
count_at old us n = unwrap_or (option_map (λ u. length (anchors_of old u)) (slice_get us n)) 0

module _ (old : Database) (us : List UnitForm) (n : ℕ) (less : n < length us) where
  found : IsUnitAt us n
  found = unit_there us n less

  count_is : count_at old us n ≡ length (anchors_of old found.unit)
  count_is = ap (λ (o : Option UnitForm). unwrap_or (option_map (λ u. length (anchors_of old u)) o) 0) found.at

  -- a unit without anchors is passed over
  pub passed_over : count_at old us n ≤ 0 → first_of (anchors_from old n (drop n us)) ≡ first_of (anchors_from old (n + 1) (drop (n + 1) us))
  passed_over none = ap (λ us. first_of (anchors_from old n us)) found.rest ∙ of (anchors_of old found.unit) (sym count_is ∙ omega arith)
    where
      of : (places : List Place) → length places ≡ 0
          → first_of (map (λ a. (granule n a.1, a.0)) (enumerate_from 0 places) ++ anchors_from old (n + 1) (drop (n + 1) us)) ≡ first_of (anchors_from old (n + 1) (drop (n + 1) us))
      of [] e = refl
      of (p ∷ places) e = absurd (omega (arith, e))

  -- and the first anchor of another is the first
  pub here_first : 0 < count_at old us n → first_of (anchors_from old n (drop n us)) ≡ Some (record { unit = n; position = 0 })
  here_first some = ap (λ us. first_of (anchors_from old n us)) found.rest ∙ of (anchors_of old found.unit) (omega (arith, count_is, some))
    where
      of : (places : List Place) → 0 < length places
          → first_of (map (λ a. (granule n a.1, a.0)) (enumerate_from 0 places) ++ anchors_from old (n + 1) (drop (n + 1) us)) ≡ Some (record { unit = n; position = 0 })
      of [] e = absurd (omega (arith, e))
      of (p ∷ places) e = refl

-- behind all units there is none
pub none_behind : (old : Database) (us : List UnitForm) (n : ℕ) → length us ≤ n → first_of (anchors_from old n (drop n us)) ≡ None
none_behind old us n past = ap (λ us. first_of (anchors_from old n us)) (all_dropped us n past)
  where
    all_dropped : (us : List UnitForm) (n : ℕ) → length us ≤ n → drop n us ≡ []
    all_dropped [] zero past = refl
    all_dropped [] (suc n) past = refl
    all_dropped (u ∷ us) zero past = absurd (omega arith)
    all_dropped (u ∷ us) (suc n) past = all_dropped us n (omega arith)
