-- The rows of all parts, place by place and unit by unit.
use Rattle.std.proofs.Common.{◌≡◌, ℕ, zero, suc, ◌+◌, ◌≤◌, List, [], ◌∷◌, ◌++◌, Option, Some, None, length, flat_map, take, slice_get, unwrap_or, refl, sym, ap, subst, ◌∙◌, arith, append_assoc}
use Rattle.std.specs.List.{enumerate_from, range_with_len}
use Rattle.std.specs.Option.{option_and_then, option_map}
use Rattle.std.proofs.lemmas.List.{append-nil, length-map, map-append, take_all}
use Rattle.std.proofs.lemmas.List.FromFn.{length-enumerate_from, length-range_with_len, map-range_with_len_more}
use Rattle.std.proofs.lemmas.Option.{same_Some, slice_get-map}
use Rattle.bf_base.specs.declared.granule.Place.{Place}
use Rattle.bf_base.specs.declared.granule.Place.TheVariants.{Group, Row}
use Rattle.bf_sql.specs.Database.{table_rows}
use Rattle.bf_sql.specs.migrations.Granules.{UnitForm, anchors_of, granule, part_of, rows_unit, values_unit}
use Rattle.bf_sql.specs.migrations.Targets.{arm_kind}
use Rattle.bf_index.specs.ByValues.{Valued, by_value}
use Rattle.bf_eager.specs.Gathering.{gathered_at, gathered_of, parts_at, places_of_rows, places_of_values}
use Rattle.bf_image.specs.Migrations.{anchors_in, from_values, old_of, unit_at, unit_index, units_in, value_indexes}
use Rattle.bf_image.specs.declared.migration.Migration.{Migration}
use Rattle.bf_image.specs.declared.value_indexes.UnitIndex.{UnitIndex}

-- one block more
pub flat_more : {X Y : Type 0} (f : X → List Y) (xs : List X) (x : X) → flat_map f (xs ++ x ∷ []) ≡ flat_map f xs ++ f x
flat_more f [] x = append-nil (f x)
flat_more f (y ∷ xs) x = ap (λ ys. f y ++ ys) (flat_more f xs x) ∙ sym (append_assoc (f y) (flat_map f xs) (f x))

-- the first items and the next, if there is one
pub take_some : {X : Type 0} (xs : List X) (i : ℕ) (x : X) → Some x ≡ slice_get xs i → take (i + 1) xs ≡ take i xs ++ x ∷ []
take_some [] zero x is = absurd cc
take_some [] (suc i) x is = absurd cc
take_some (y ∷ xs) zero x is = ap (λ z. z ∷ []) (sym (same_Some x y is))
take_some (y ∷ xs) (suc i) x is =
    let next : suc i + 1 ≡ suc (i + 1) = omega arith in
    rw next (ap (λ zs. y ∷ zs) (take_some xs i x is))

pub take_none : {X : Type 0} (xs : List X) (i : ℕ) → None ≡ slice_get xs i → take (i + 1) xs ≡ take i xs
take_none [] zero is = refl
take_none [] (suc i) is = let next : suc i + 1 ≡ suc (i + 1) = omega arith in rw next refl
take_none (y ∷ xs) zero is = absurd cc
take_none (y ∷ xs) (suc i) is =
    let next : suc i + 1 ≡ suc (i + 1) = omega arith in
    rw next (ap (λ zs. y ∷ zs) (take_none xs i is))

numbered_at : {X : Type 0} (n : ℕ) (xs : List X) (i : ℕ) → slice_get (enumerate_from n xs) i ≡ option_map (λ x. (n + i, x)) (slice_get xs i)
numbered_at n [] zero = refl
numbered_at n [] (suc i) = refl
numbered_at n (x ∷ xs) zero = let same : n ≡ n + 0 = omega arith in ap (λ k. Some (k, x)) same
numbered_at n (x ∷ xs) (suc i) = let same : n + 1 + i ≡ n + suc i = omega arith in numbered_at (n + 1) xs i ∙ ap (λ k. option_map (λ x. (k, x)) (slice_get xs i)) same

module _ (m : Migration) (unit : ℕ) where
  -- one place more
  place_more : (places : List Place) (place : Place) → parts_at m unit (places ++ place ∷ []) ≡ parts_at m unit places ++ part_of (old_of m) m.plan.migrate (granule unit place)
  place_more = flat_more (λ place. part_of (old_of m) m.plan.migrate (granule unit place))

  pub row_more : (position : ℕ) → parts_at m unit (places_of_rows (position + 1)) ≡ parts_at m unit (places_of_rows position) ++ part_of (old_of m) m.plan.migrate (granule unit (Row position))
  row_more position =
      let same : 0 + position ≡ position = omega arith in
      ap (parts_at m unit) (map-range_with_len_more Row 0 position position same) ∙ place_more (places_of_rows position) (Row position)

  pub value_more : (values : List Valued) (at : ℕ) (entry : Valued) → Some entry ≡ slice_get values at
      → parts_at m unit (places_of_values (take (at + 1) values)) ≡ parts_at m unit (places_of_values (take at values)) ++ part_of (old_of m) m.plan.migrate (granule unit (Group entry.0))
  value_more values at entry is =
      ap (λ (vs : List Valued). parts_at m unit (places_of_values vs)) (take_some values at entry is)
      ∙ (ap (parts_at m unit) (map-append (λ (entry : Valued). Group entry.0) (take at values) (entry ∷ [])) ∙ place_more (places_of_values (take at values)) (Group entry.0))

  abbrev units : List (ℕ × UnitForm)
  units = enumerate_from 0 (units_in m)

  unit_numbered : (o : Option UnitForm) → unit_at m unit ≡ o → slice_get units unit ≡ option_map (λ (form : UnitForm). (unit, form)) o
  unit_numbered o is =
      let same : 0 + unit ≡ unit = omega arith in
      numbered_at 0 (units_in m) unit ∙ (ap (λ k. option_map (λ (form : UnitForm). (k, form)) (slice_get (units_in m) unit)) same ∙ ap (option_map (λ (form : UnitForm). (unit, form))) is)

  index_known : (o : Option UnitForm) → unit_at m unit ≡ o → slice_get (value_indexes m) unit ≡ option_map (unit_index (old_of m)) o
  index_known o is = slice_get-map (unit_index (old_of m)) (units_in m) unit ∙ ap (option_map (unit_index (old_of m))) is

  unit_more : (form : UnitForm) → unit_at m unit ≡ Some form → gathered_of m (take (unit + 1) units) ≡ gathered_of m (take unit units) ++ parts_at m unit (gathered_at (old_of m) form)
  unit_more form is =
      ap (gathered_of m) (take_some units unit (unit, form) (sym (unit_numbered (Some form) is)))
      ∙ flat_more (λ u. parts_at m u.0 (gathered_at (old_of m) u.1)) (take unit units) (unit, form)

  -- a unit that goes by rows
  pub rows_more : None ≡ option_and_then (λ index. index) (slice_get (value_indexes m) unit)
      → gathered_of m (take (unit + 1) units) ≡ gathered_of m (take unit units) ++ parts_at m unit (places_of_rows (anchors_in m unit))
  rows_more none = by_form (unit_at m unit) refl
    where
      by_form : (o : Option UnitForm) → unit_at m unit ≡ o → gathered_of m (take (unit + 1) units) ≡ gathered_of m (take unit units) ++ parts_at m unit (places_of_rows (anchors_in m unit))
      by_form None is =
          let nothing : 0 ≡ anchors_in m unit = sym (ap (λ (o : Option UnitForm). unwrap_or (option_map (λ u. length (anchors_of (old_of m) u)) o) 0) is) in
          ap (gathered_of m) (take_none units unit (sym (unit_numbered None is)))
          ∙ (sym (append-nil (gathered_of m (take unit units))) ∙ ap (λ n. gathered_of m (take unit units) ++ parts_at m unit (places_of_rows n)) nothing)
      by_form (Some (rows_unit driver)) is =
          let rows = table_rows (old_of m) driver in
          let many : length rows ≡ anchors_in m unit =
          sym (ap (λ (o : Option UnitForm). unwrap_or (option_map (λ u. length (anchors_of (old_of m) u)) o) 0) is
          ∙ (length-map (range_with_len 0 (length rows)) Row ∙ length-range_with_len 0 (length rows))) in
          unit_more (rows_unit driver) is ∙ ap (λ n. gathered_of m (take unit units) ++ parts_at m unit (places_of_rows n)) many
      by_form (Some (values_unit t arm)) is =
          let there = none ∙ ap (option_and_then (λ index. index)) (index_known (Some (values_unit t arm)) is) in
          absurd cc

  -- a unit that goes by values
  pub values_more : (index : UnitIndex) → Some index ≡ option_and_then (λ index. index) (slice_get (value_indexes m) unit)
      → gathered_of m (take (unit + 1) units) ≡ gathered_of m (take unit units) ++ parts_at m unit (places_of_values index.from)
  values_more index some = by_form (unit_at m unit) refl
    where
      by_form : (o : Option UnitForm) → unit_at m unit ≡ o → gathered_of m (take (unit + 1) units) ≡ gathered_of m (take unit units) ++ parts_at m unit (places_of_values index.from)
      by_form None is =
          let there = some ∙ ap (option_and_then (λ index. index)) (index_known None is) in
          absurd cc
      by_form (Some (rows_unit driver)) is =
          let there = some ∙ ap (option_and_then (λ index. index)) (index_known (Some (rows_unit driver)) is) in
          absurd cc
      by_form (Some (values_unit t arm)) is =
          let there = some ∙ ap (option_and_then (λ index. index)) (index_known (Some (values_unit t arm)) is) in
          let own : index.from ≡ by_value (from_values (old_of m) arm (arm_kind (old_of m) arm)) = ap (λ (i : UnitIndex). i.from) (same_Some index _ there) in
          unit_more (values_unit t arm) is ∙ ap (λ (vs : List Valued). gathered_of m (take unit units) ++ parts_at m unit (places_of_values vs)) (sym own)

pub all_units : (m : Migration) (n : ℕ) → length (units_in m) ≤ n → take n (enumerate_from 0 (units_in m)) ≡ enumerate_from 0 (units_in m)
all_units m n few = take_all n (enumerate_from 0 (units_in m)) (subst (λ k. k ≤ n) (sym (length-enumerate_from 0 (units_in m))) few)
