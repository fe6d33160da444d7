-- Whether a unit by values gives a row of a target under a value.
use Rattle.std.proofs.Common.{◌≡◌, ◌≢◌, ℕ, ◌+◌, ◌<◌, ◌≤◌, Bool, true, false, ◌&&◌, ◌||◌, eqb, Bor, List, [], ◌∷◌, map, length, get_or, take, Option, Some, None, sym, ap, ap₂, ◌∙◌, subst, arith}
use Rattle.std.specs.Prelude.{option_map, slice_get}
use Rattle.std.specs.List.{list_any}
use Rattle.std.specs.Option.{option_to_list}
use Rattle.std.proofs.lemmas.Bool.{eq-eqb}
use Rattle.std.proofs.lemmas.Bool.Decides.{nat_tests}
use Rattle.std.proofs.lemmas.List.{take_all}
use Rattle.std.proofs.lemmas.List.Folds.{list_any_at, list_any_more}
use Rattle.std.proofs.lemmas.Option.{slice_get_past}
use Rattle.bf_base.specs.declared.granule.Place.TheVariants.{Group}
use Rattle.bf_base.specs.declared.value.Value.{Value}
use Rattle.bf_base.specs.Lists.{same_name}
use Rattle.bf_base.proofs.Parts.{flat_map_none}
use Rattle.bf_heap.specs.Heaps.{Entry}
use Rattle.bf_tree.specs.declared.migration.Target.{Target}
use Rattle.bf_tree.specs.declared.plan.PlacedArm.{PlacedArm}
use Rattle.bf_sql.specs.Database.{Database}
use Rattle.bf_sql.specs.migrations.Granules.{granule, from_with, join_with, values_unit}
use Rattle.bf_sql.specs.migrations.Images.{arm_rows}
use Rattle.bf_sql.specs.migrations.Targets.{arm_kind}
use Rattle.bf_image.specs.BoundArms.{entries_of}
use Rattle.bf_image.specs.Giving.{gives_row, has_any, has_row_of, makes_any}
use Rattle.bf_image.specs.Migrations.{IsLawfulMigration, old_of, target_at}
use Rattle.bf_image.specs.declared.arms.FrozenArm.{FrozenArm}
use Rattle.bf_image.specs.declared.migration.Frozen.{Frozen}
use Rattle.bf_image.specs.declared.migration.Migration.{Migration}
use Rattle.bf_image.proofs.arm_gives.Any.{joined_in_turn, made_alone, made_in_turn}
use Rattle.bf_image.proofs.giving.DriverRows.{rows_of_one}
use Rattle.bf_image.proofs.owning.Armed.{IsArmed, armed_within, unit_armed}
use Rattle.bf_image.proofs.owning.Targets.{name_tells_number}
use Rattle.bf_image.proofs.parting.MetRows.{rows_of_bound}
use Rattle.bf_image.proofs.parting.UnitParts.{part_is}
use Rattle.bf_image.proofs.parting.ValueParts.{IsValued}
use Rattle.bf_image.proofs.parting.ValueRows.{rows_at}

module _ (m : Migration) (lawful : IsLawfulMigration m) (number : ℕ) (bound : FrozenArm) (is : IsValued m number bound) (target : ℕ) (there : target < length m.plan.migrate.targets) (value : List Value) where
  abbrev old : Database
  old = old_of m

  abbrev from : List (List Value)
  from = from_with old is.arm (arm_kind old is.arm) value

  abbrev join : List (List Value)
  join = join_with old is.arm value

  within : bound.target < length m.plan.migrate.targets
  within = armed_within m bound.target (subst IsArmed (sym is.named) (unit_armed old m.plan.migrate number (values_unit is.target is.arm) is.at))

  its_name : same_name is.target.name (target_at m target).name ≡ eqb bound.target target
  its_name = ap (λ (s : Target). same_name s.name (target_at m target).name) (sym is.named) ∙ name_tells_number m lawful bound.target target within there

  -- the unit's arm is of the target and makes a row of the rows with the value
  gives_of_value : gives_row m target (granule number (Group value)) ≡ (eqb bound.target target && makes_any bound.placed.now from join)
  gives_of_value =
      ap (has_row_of m target) (part_is m number (Group value) (Some (values_unit is.target is.arm)) is.at)
      ∙ rows_of_one m target is.target (arm_rows old is.arm from join)
      ∙ ap₂ (λ b rows. b && has_any rows) its_name (sym (rows_of_bound m bound.target is.arm bound is.frozen from join))

  pub gives_of_own : bound.target ≡ target → gives_row m target (granule number (Group value)) ≡ makes_any bound.placed.now from join
  gives_of_own own = gives_of_value ∙ ap (λ b. b && makes_any bound.placed.now from join) (eq-eqb bound.target target own)

  pub gives_of_other : bound.target ≢ target → gives_row m target (granule number (Group value)) ≡ false
  gives_of_other other =
      let apart : eqb bound.target target ≡ false = grind (arith, nat_tests) in
      gives_of_value ∙ ap (λ b. b && makes_any bound.placed.now from join) apart

none_there : (positions : List ℕ) → rows_at [] positions ≡ []
none_there positions = flat_map_none (λ at. option_to_list (slice_get {X = List Value} [] at)) (λ at. ap option_to_list (slice_get_past {X = List Value} [] at (omega arith))) positions

-- whether an arm makes a row of a row of FROM and of rows of JOIN at some positions
module _ (bound : FrozenArm) (row : List Value) (positions : List ℕ) where
  abbrev arm : PlacedArm
  arm = bound.placed.now

  abbrev joined_of : Option (Bor Frozen) → List (List Value)
  joined_of o = rows_at (map (λ (e : Entry). e.1) (entries_of (option_map (λ j. j.now) o))) positions

  -- alone where it has no JOIN or no table of it
  pub makes_alone : arm.on ≡ None → makes_any arm (row ∷ []) [] ≡ makes_any arm (row ∷ []) (joined_of bound.join)
  makes_alone alone = made_alone arm alone row [] ∙ sym (made_alone arm alone row (joined_of bound.join))

  pub makes_without : bound.join ≡ None → makes_any arm (row ∷ []) [] ≡ makes_any arm (row ∷ []) (joined_of bound.join)
  makes_without none = sym (ap (λ o. makes_any arm (row ∷ []) (joined_of o)) none ∙ ap (makes_any arm (row ∷ [])) (none_there positions))

  -- and position by position where it has one
  module _ (on : List (ℕ × ℕ)) (is_on : arm.on ≡ Some on) (table : Bor Frozen) (is_table : bound.join ≡ Some table) where
    abbrev at_position : ℕ → Bool
    at_position at = makes_any arm (row ∷ []) (option_to_list (slice_get (map (λ (e : Entry). e.1) table.now.rows) at))

    in_turn : makes_any arm (row ∷ []) (joined_of bound.join) ≡ list_any at_position positions
    in_turn =
        ap (λ o. makes_any arm (row ∷ []) (joined_of o)) is_table
        ∙ joined_in_turn arm (λ at. option_to_list (slice_get (map (λ (e : Entry). e.1) table.now.rows) at)) on is_on row positions

    pub makes_here : (i : ℕ) → i < length positions → at_position (get_or positions i 0) ≡ true → true ≡ makes_any arm (row ∷ []) (joined_of bound.join)
    makes_here i within here = sym (in_turn ∙ list_any_at at_position positions i 0 within here)

    pub makes_nowhere : (i : ℕ) → length positions ≤ i → list_any at_position (take i positions) ≡ false → false ≡ makes_any arm (row ∷ []) (joined_of bound.join)
    makes_nowhere i past none = sym (in_turn ∙ ap (list_any at_position) (sym (take_all i positions past)) ∙ none)

-- whether it makes one of rows of FROM at some positions
module _ (arm : PlacedArm) (rows join : List (List Value)) (positions : List ℕ) where
  abbrev from_position : ℕ → Bool
  from_position at = makes_any arm (option_to_list (slice_get rows at)) join

  from_in_turn : makes_any arm (rows_at rows positions) join ≡ list_any from_position positions
  from_in_turn = made_in_turn arm (λ at. option_to_list (slice_get rows at)) positions join

  pub makes_of_some : (i : ℕ) → i < length positions → from_position (get_or positions i 0) ≡ true → true ≡ makes_any arm (rows_at rows positions) join
  makes_of_some i within here = sym (from_in_turn ∙ list_any_at from_position positions i 0 within here)

  pub makes_of_more : (i : ℕ) → i < length positions → list_any from_position (take i positions) ≡ false → from_position (get_or positions i 0) ≡ false → list_any from_position (take (i + 1) positions) ≡ false
  makes_of_more i within none here = list_any_more from_position positions i 0 within ∙ ap₂ (λ b c. b || c) none here

  pub makes_of_none : (i : ℕ) → length positions ≤ i → list_any from_position (take i positions) ≡ false → false ≡ makes_any arm (rows_at rows positions) join
  makes_of_none i past none = sym (from_in_turn ∙ ap (list_any from_position) (sym (take_all i positions past)) ∙ none)
