-- Rows of a driver whose keys are outside the range give nothing.
use Rattle.std.proofs.Common.{◌≡◌, ℕ, ◌<◌, ◌≤◌, Bool, true, false, not, ◌&&◌, List, [], drop, get_or, length, Option, Some, slice_get, take, unwrap_or, if◌then◌else◌, refl, sym, ap, ◌∙◌, inl, inr, arith}
use Rattle.std.specs.Prelude.{nat_lt}
use Rattle.std.specs.List.{list_all, range_with_len}
use Rattle.std.specs.Option.{option_map}
use Rattle.std.proofs.lemmas.Bool.{cases_Bool, false≢true}
use Rattle.std.proofs.lemmas.List.{drop-map, length-map}
use Rattle.std.proofs.lemmas.List.FromFn.{length-range_with_len}
use Rattle.std.proofs.lemmas.List.Quantifiers.{position-Some}
use Rattle.std.proofs.lemmas.Option.{get_or_from_slice_get, slice_get-get_or}
use Rattle.bf_base.specs.declared.granule.Place.TheVariants.{Row}
use Rattle.bf_base.specs.declared.table.Table.{Table}
use Rattle.bf_base.specs.declared.value.Value.{Value}
use Rattle.bf_base.specs.Lists.{same_key}
use Rattle.bf_base.specs.Tables.{cell, key_of}
use Rattle.bf_heap.specs.Heaps.{Entry}
use Rattle.bf_heap.specs.KeyRanges.{is_before, is_behind, is_within}
use Rattle.bf_tree.specs.Evaluation.{holds_on}
use Rattle.bf_tree.specs.Trees.{Cond}
use Rattle.bf_tree.specs.declared.migration.Target.{Target}
use Rattle.bf_sql.specs.Database.{Database, table_rows}
use Rattle.bf_sql.specs.migrations.Granules.{UnitForm, anchors_of, granule, part_in}
use Rattle.bf_sql.specs.migrations.Targets.{target_table}
use Rattle.bf_access.proofs.Within.{key_within}
use Rattle.bf_image.specs.Lookup.{behind_tag}
use Rattle.bf_image.specs.Migrations.{IsLawfulMigration, anchors_in, old_of, target_at}
use Rattle.bf_image.specs.declared.migration.Frozen.{Frozen}
use Rattle.bf_image.specs.declared.migration.Migration.{Migration}
use Rattle.bf_image.proofs.owning.Stored.{position_is, rows_are}
use Rattle.bf_transpose.specs.KeysBehind.{with_key_behind}
use Rattle.bf_transpose.specs.Scans.{IsDriverOf, gives, range_of}
use Rattle.bf_transpose.proofs.Bounded.{passed_above, passed_below}
use Rattle.bf_transpose.proofs.Driving.{driven_position, some_has}
use Rattle.bf_transpose.proofs.Rising.{equal, itself}

-- the key that is left behind the tag
pub key_behind : (b : Bool) (table : Table) (row : List Value) → key_of (with_key_behind b table) row ≡ (if b then drop 1 (key_of table row) else key_of table row)
key_behind true table row = sym (drop-map (cell row) 1 table.key)
key_behind false table row = refl

module _ (m : Migration) (lawful : IsLawfulMigration m) (target : ℕ) (there : target < length m.plan.migrate.targets) (wanted : Cond ℕ) (unit : ℕ) (frozen : Frozen) (driven : IsDriverOf m unit frozen) where
  abbrev old : Database
  old = old_of m

  abbrev t : Target
  t = target_at m target

  abbrev passes : List Value → Bool
  passes row = holds_on (cell row) wanted

  rows_counted : length (table_rows old driven.driver) ≡ length frozen.rows
  rows_counted = ap length (rows_are m driven.driver frozen driven.found) ∙ length-map frozen.rows (λ (e : Entry). e.1)

  -- a unit has as many anchors as its driver has rows
  pub anchors_of_rows : anchors_in m unit ≡ length (table_rows old driven.driver)
  anchors_of_rows =
      let count = length (table_rows old driven.driver) in
      ap (λ (o : Option UnitForm). unwrap_or (option_map (λ u. length (anchors_of old u)) o) 0) driven.form
      ∙ (length-map (range_with_len 0 count) Row ∙ length-range_with_len 0 count)

  pub anchors_counted : anchors_in m unit ≡ length frozen.rows
  anchors_counted = anchors_of_rows ∙ rows_counted

  -- the key of a row that gives what is sought is in the range
  within_range : (at : ℕ) (e : Entry) → at < length frozen.rows → slice_get frozen.rows at ≡ Some e → gives m target wanted (granule unit (Row at)) ≡ true → is_within (range_of m target wanted) e.0 ≡ true
  within_range at e below here given =
      let rows = part_in old m.plan.migrate t.name (granule unit (Row at)) in
      let table = target_table old t in
      let (row, holds, own) = some_has passes (key_of table) itself rows given in
      let key = behind_tag t (key_of table row) in
      let within : at < length (table_rows old driven.driver) = omega (arith, below, rows_counted) in
      let placed = position_is m driven.driver frozen driven.found lawful key ∙ driven_position m lawful target there unit at driven.driver (key_of table row) driven.form within own in
      let has_key = (position-Some (λ (e : Entry). same_key key e.0) frozen.rows at e placed).1 in
      let same : key ≡ e.0 = equal key e.0 (ap (λ (f : Entry). same_key key f.0) (sym (get_or_from_slice_get frozen.rows at e e here)) ∙ has_key) in
      let is_tagged = nat_lt 1 (length t.arms) in
      let kept = key_within (with_key_behind is_tagged table) wanted row holds in
      ap (is_within (range_of m target wanted)) (sym (key_behind is_tagged table row ∙ same)) ∙ kept

  entry_at : (at : ℕ) → at < length frozen.rows → slice_get frozen.rows at ≡ Some (get_or frozen.rows at ([], []))
  entry_at at below = slice_get-get_or frozen.rows at ([], []) below

  fails : (at : ℕ) → at < length frozen.rows → is_within (range_of m target wanted) (get_or frozen.rows at ([], [])).0 ≡ false → gives m target wanted (granule unit (Row at)) ≡ false
  fails at below outside = elim (cases_Bool (gives m target wanted (granule unit (Row at)))) [
    | inl given ↦ absurd (false≢true (sym outside ∙ within_range at (get_or frozen.rows at ([], [])) below (entry_at at below) given))
    | inr none ↦ none
  ]

  -- so the rows before it and behind it give nothing
  pub none_before : (n : ℕ) → n ≤ length frozen.rows → list_all (λ entry. is_before (range_of m target wanted).low entry.0) (take n frozen.rows) ≡ true → (at : ℕ) → at < n → gives m target wanted (granule unit (Row at)) ≡ false
  none_before n bound before at less =
      let below : at < length frozen.rows = omega (arith, bound, less) in
      let range = range_of m target wanted in
      let e = get_or frozen.rows at ([], []) in
      let is = passed_below (is_before range.low) frozen.rows n at e before (omega (arith, less)) (entry_at at below) in
      fails at below (ap (λ b. not b && not (is_behind range.high e.0)) is)

  pub none_behind : (n : ℕ) → list_all (λ entry. is_behind (range_of m target wanted).high entry.0) (drop n frozen.rows) ≡ true → (at : ℕ) → n ≤ at → at < length frozen.rows → gives m target wanted (granule unit (Row at)) ≡ false
  none_behind n behind at above below =
      let range = range_of m target wanted in
      let e = get_or frozen.rows at ([], []) in
      let is = passed_above (is_behind range.high) frozen.rows n at e behind above (entry_at at below) in
      fails at below (ap (λ b. not (is_before range.low e.0) && not b) is ∙ and_false (not (is_before range.low e.0)))
    where
      and_false : (b : Bool) → (b && false) ≡ false
      and_false true = refl
      and_false false = refl
