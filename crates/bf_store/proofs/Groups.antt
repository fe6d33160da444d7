-- The values of a unit that have moved are counted by the unit's marks.
use Rattle.std.proofs.Common.{◌≡◌, ℕ, zero, suc, ◌+◌, ◌<◌, ◌≤◌, false, ◌==◌, List, [], ◌∷◌, ◌++◌, filter, length, get_or, refl, sym, ap, ◌∙◌, arith}
use Rattle.std.specs.Map.{keys_of}
use Rattle.std.proofs.lemmas.Bool.{eq-eqb, ne_eqb}
use Rattle.std.proofs.lemmas.List.{append-nil}
use Rattle.std.proofs.lemmas.List.Elements.{filter-append}
use Rattle.bf_base.specs.declared.granule.Granule.{Granule}
use Rattle.bf_base.specs.declared.granule.Place.TheVariants.{Row, Group}
use Rattle.bf_base.specs.declared.value.Value.{Value}
use Rattle.bf_store.specs.ByUnit.{Numbered, at_place, from_unit, marks_of, named, of_rows, of_unit, of_values}
use Rattle.bf_store.specs.Marks.{granules_in, is_group_of}
use Rattle.bf_store.specs.declared.unit_marks.UnitMarks.{UnitMarks}
use Rattle.bf_store.proofs.ByUnit.{keys-append}
use Rattle.bf_store.proofs.Marking.{seen_keys}

module _ (unit : ℕ) where
  -- those of entries that stand for a value of the unit
  abbrev pub groups : List Numbered → List Granule
  groups es = filter (is_group_of unit) (keys_of es)

  groups-append : (es fs : List Numbered) → groups (es ++ fs) ≡ groups es ++ groups fs
  groups-append es fs = ap (filter (is_group_of unit)) (keys-append es fs) ∙ filter-append (is_group_of unit) (keys_of es) (keys_of fs)

  none_named : {K : Type 0} (name : K → Granule) → ((k : K) → is_group_of unit (name k) ≡ false) → (es : List (K × ℕ)) → groups (named name es) ≡ []
  none_named name none [] = refl
  none_named name none (e ∷ es) = rw (none e.0) (none_named name none es)

  all_values : (es : List (List Value × ℕ)) → length (groups (of_values unit es)) ≡ length es
  all_values [] = refl
  all_values (e ∷ es) = rw (eq-eqb unit unit refl) (ap suc (all_values es))

  -- a unit's marks have them all, and those of other units have none
  pub groups_here : (m : UnitMarks) → length (groups (of_unit unit m)) ≡ length m.values.entries
  groups_here m =
      let no_row : (n : ℕ) → is_group_of unit (at_place unit (Row n)) ≡ false = λ n. rw (eq-eqb unit unit refl) refl in
      ap length (groups-append (of_rows unit m.rows) (of_values unit m.values.entries) ∙ ap (λ gs. gs ++ groups (of_values unit m.values.entries)) (none_named (λ n. at_place unit (Row n)) no_row m.rows))
      ∙ all_values m.values.entries

  none_there : (other : ℕ) (m : UnitMarks) → (other == unit) ≡ false → groups (of_unit other m) ≡ []
  none_there other m apart =
      groups-append (of_rows other m.rows) (of_values other m.values.entries)
      ∙ ap (λ gs. gs ++ groups (of_values other m.values.entries)) (none_named (λ n. at_place other (Row n)) (λ n. rw apart refl) m.rows)
      ∙ none_named (λ v. at_place other (Group v)) (λ v. rw apart refl) m.values.entries

  passed : (s : ℕ) (m : UnitMarks) (ms : List UnitMarks) → (s == unit) ≡ false → groups (from_unit s (m ∷ ms)) ≡ groups (from_unit (suc s) ms)
  passed s m ms apart = groups-append (of_unit s m) (from_unit (suc s) ms) ∙ ap (λ gs. gs ++ groups (from_unit (suc s) ms)) (none_there s m apart)

  none_behind : (s : ℕ) (ms : List UnitMarks) → unit < s → groups (from_unit s ms) ≡ []
  none_behind s [] less = refl
  none_behind s (m ∷ ms) less = passed s m ms (ne_eqb s unit (omega arith)) ∙ none_behind (suc s) ms (omega arith)

  none_before : (s : ℕ) (ms : List UnitMarks) → s + length ms ≤ unit → groups (from_unit s ms) ≡ []
  none_before s [] beyond = refl
  none_before s (m ∷ ms) beyond = passed s m ms (ne_eqb s unit (omega arith)) ∙ none_before (suc s) ms (omega arith)

  in_unit : (s : ℕ) (ms : List UnitMarks) (i : ℕ) (x : UnitMarks) → unit ≡ s + i → i < length ms → x ≡ get_or ms i x → groups (of_unit unit x) ≡ groups (from_unit s ms)
  in_unit s [] i x at in_range is = absurd (omega arith)
  in_unit s (m ∷ ms) zero x at in_range is =
      let same : unit ≡ s = omega arith in
      sym (groups-append (of_unit s m) (from_unit (suc s) ms) ∙ ap (λ gs. groups (of_unit s m) ++ gs) (none_behind (suc s) ms (omega arith)) ∙ append-nil (groups (of_unit s m))
      ∙ ap (λ v. groups (of_unit v m)) (sym same) ∙ ap (λ (y : UnitMarks). groups (of_unit unit y)) (sym is))
  in_unit s (m ∷ ms) (suc i) x at in_range is = in_unit (suc s) ms i x (omega arith) (omega arith) is ∙ sym (passed s m ms (ne_eqb s unit (omega arith)))

  seen : (es : List Numbered) → filter (is_group_of unit) (granules_in (marks_of es)) ≡ groups es
  seen es = ap (filter (is_group_of unit)) (seen_keys es)

  -- so those of a unit are counted among all marks
  pub groups_kept : (ms : List UnitMarks) (x : UnitMarks) → unit < length ms → x ≡ get_or ms unit x
      → length (groups (of_unit unit x)) ≡ length (filter (is_group_of unit) (granules_in (marks_of (from_unit 0 ms))))
  groups_kept ms x in_range is = ap length (in_unit 0 ms unit x (omega arith) in_range is ∙ sym (seen (from_unit 0 ms)))

  pub groups_beyond : (ms : List UnitMarks) → length ms ≤ unit → 0 ≡ length (filter (is_group_of unit) (granules_in (marks_of (from_unit 0 ms))))
  groups_beyond ms beyond = ap length (sym (seen (from_unit 0 ms) ∙ none_before 0 ms (omega arith)))
