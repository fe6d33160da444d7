-- The value of a group that gives what is sought is in the range: a group's row has its value for its key.
use Rattle.std.proofs.Common.{◌≡◌, ℕ, zero, suc, ◌<◌, ◌≤◌, Bool, true, false, not, ◌&&◌, ◌||◌, List, [], ◌∷◌, drop, length, map, Option, Some, None, is_some, slice_get, take, if◌then◌else◌, refl, sym, ap, subst, ◌∙◌, inl, inr, arith}
use Rattle.std.specs.Prelude.{nat_lt}
use Rattle.std.specs.List.{Contains, list_all}
use Rattle.std.specs.Option.{option_map}
use Rattle.std.proofs.lemmas.Bool.{and_parts, cases_Bool, eqb-true, false≢true, or_left, or_right}
use Rattle.std.proofs.lemmas.Bool.Decides.{nat_tests}
use Rattle.std.proofs.lemmas.List.{get_or_default}
use Rattle.bf_base.specs.declared.granule.Place.TheVariants.{Group}
use Rattle.bf_base.specs.declared.value.Value.{Value}
use Rattle.bf_base.specs.Lists.{has, same_key, same_name}
use Rattle.bf_base.specs.Tables.{cell, key_of}
use Rattle.bf_heap.specs.KeyRanges.{is_before, is_behind, is_within}
use Rattle.bf_tree.specs.Evaluation.{holds_on}
use Rattle.bf_tree.specs.Trees.{Cond}
use Rattle.bf_tree.specs.declared.migration.Arm.{Arm}
use Rattle.bf_tree.specs.declared.migration.Join.{Join}
use Rattle.bf_tree.specs.declared.migration.Migrate.{Migrate}
use Rattle.bf_tree.specs.declared.migration.Target.{Target}
use Rattle.bf_tree.specs.declared.plan.ArmKind.{ArmKind}
use Rattle.bf_tree.specs.declared.plan.ArmKind.TheVariants.{ByFrom, ByJoin, ByPair, ByGroup}
use Rattle.bf_sql.specs.Database.{Database, table_rows}
use Rattle.bf_sql.specs.migrations.Granules.{anchor_values, granule, part_in, places_in, right_value, same_place, values_unit}
use Rattle.bf_sql.specs.migrations.MigrationObjections.{is_by_row, keeps_apart, tag_of}
use Rattle.bf_sql.specs.migrations.Targets.{arm_kind, target_table}
use Rattle.bf_access.proofs.Within.{key_within}
use Rattle.bf_index.specs.ByValues.{Valued, by_value, value_of}
use Rattle.bf_image.specs.Lookup.{places_by, values_by}
use Rattle.bf_image.specs.Migrations.{IsLawfulMigration, old_of, target_at}
use Rattle.bf_image.specs.declared.migration.Migration.{Migration}
use Rattle.bf_image.specs.declared.value_indexes.UnitIndex.{UnitIndex}
use Rattle.bf_image.proofs.finding.Found.{alone_true}
use Rattle.bf_image.proofs.finding.Owned.{target_unobjected}
use Rattle.bf_image.proofs.items.Lists.{all_of_contained}
use Rattle.bf_image.proofs.making.Unobjected.{joins_by_pair, key_there}
use Rattle.bf_image.proofs.owning.Targets.{name_tells_number}
use Rattle.bf_image.proofs.planning.Units.{IsUnitOf, unit_among}
use Rattle.bf_transpose.specs.InOrder.{values_in}
use Rattle.bf_transpose.specs.KeysBehind.{with_key_behind}
use Rattle.bf_transpose.specs.Scans.{IsIndexOf, gives, range_of}
use Rattle.bf_transpose.proofs.Bounded.{passed_above, passed_below}
use Rattle.bf_transpose.proofs.Driving.{owned_place, some_has}
use Rattle.bf_transpose.proofs.Outside.{key_behind}
use Rattle.bf_transpose.proofs.Rising.{equal, itself}
use Rattle.bf_transpose.proofs.Units.{IsIndexed, anchored, from_is, its}

-- the places of values
has_placed : (vs : List (List Value)) (v : List Value) → has same_place (map Group vs) (Group v) ≡ has same_key vs v
has_placed [] v = refl
has_placed (w ∷ vs) v = ap (λ b. same_key v w || b) (has_placed vs v)

has_entry : (entries : List Valued) (at : ℕ) (entry : Valued) → slice_get entries at ≡ Some entry → has same_key (map value_of entries) (value_of entry) ≡ true
has_entry [] at entry is = absurd cc
has_entry (e ∷ entries) zero entry is =
    let same : e ≡ entry = cc in
    or_left _ _ (ap (λ (x : Valued). same_key (value_of entry) (value_of x)) same ∙ itself (value_of entry))
has_entry (e ∷ entries) (suc at) entry is = or_right _ _ (has_entry entries at entry is)

-- an arm that does not go by rows is alone
arm_alone : (old : Database) (arms : List Arm) (arm : Arm) → (nat_lt (length arms) 2 || keeps_apart old arms) ≡ true → Contains arms arm → is_by_row (arm_kind old arm) ≡ false → nat_lt 1 (length arms) ≡ false
arm_alone old arms arm apart within values = elim (cases_Bool (nat_lt (length arms) 2)) [
  | inl few ↦ grind (arith, nat_tests)
  | inr many ↦
      let parts = and_parts (list_all (λ arm. is_by_row (arm_kind old arm) && is_some (tag_of arm.items)) arms && _) _ (ap (λ b. b || keeps_apart old arms) (sym many) ∙ apart) in
      let tagged = and_parts (list_all (λ arm. is_by_row (arm_kind old arm) && is_some (tag_of arm.items)) arms) _ parts.0 in
      let by_row = and_parts (is_by_row (arm_kind old arm)) _ (all_of_contained (λ arm. is_by_row (arm_kind old arm) && is_some (tag_of arm.items)) arms arm tagged.0 within) in
      absurd (false≢true (sym values ∙ by_row.0))
]

module _ (m : Migration) (lawful : IsLawfulMigration m) (target : ℕ) (there : target < length m.plan.migrate.targets) (wanted : Cond ℕ) (unit : ℕ) (index : UnitIndex) (of_unit : IsIndexOf m unit index) (alone : index.join ≡ None) where
  abbrev old : Database
  old = old_of m

  abbrev q : Migrate
  q = m.plan.migrate

  abbrev t : Target
  t = target_at m target

  abbrev passes : List Value → Bool
  passes row = holds_on (cell row) wanted

  abbrev here : IsIndexed m unit index
  here = its m unit lawful index of_unit

  among : IsUnitOf m lawful here.target here.arm
  among = unit_among m lawful unit here.target here.arm here.at

  -- values of one table are those of groups
  not_joined : here.arm.join ≡ None
  not_joined = of here.arm.join (sym here.join ∙ alone)
    where
      of : (o : Option Join) → option_map (λ j. by_value (map (right_value old here.arm) (table_rows old j.table))) o ≡ None → o ≡ None
      of None is = refl
      of (Some j) is = absurd cc

  grouped : arm_kind old here.arm ≡ ByGroup
  grouped = of (arm_kind old here.arm) refl
    where
      of : (kind : ArmKind) → arm_kind old here.arm ≡ kind → kind ≡ ByGroup
      of ByFrom is = absurd (false≢true (sym among.by_values ∙ ap is_by_row is))
      of ByJoin is = absurd (false≢true (sym among.by_values ∙ ap is_by_row is))
      of ByPair is = absurd (false≢true (sym (ap (λ (o : Option Join). is_some o) not_joined) ∙ joins_by_pair _ (is_some here.arm.join) _ _ is))
      of ByGroup is = refl

  -- each is the value of a place
  value_placed : (at : ℕ) (entry : Valued) → slice_get index.from at ≡ Some entry → has same_place (places_in old (values_unit here.target here.arm)) (Group (value_of entry)) ≡ true
  value_placed at entry is =
      let v = value_of entry in
      has_placed (anchored m unit lawful index of_unit) v
      ∙ (ap (λ vs. has same_key vs v) (sym values_are) ∙ has_entry index.from at entry is)
    where
      values_are : map value_of index.from ≡ anchored m unit lawful index of_unit
      values_are = from_is m unit lawful index of_unit ByGroup grouped ∙ ap (λ kind. values_in (anchor_values old here.arm kind)) (sym grouped)

  -- by which alone a row with a key can come is the key, and the unit is the target's
  placed_by : (key v : List Value) → has same_place (places_by old t key (values_unit here.target here.arm)) (Group v) ≡ true → (same_name here.target.name t.name ≡ true) × (v ≡ key)
  placed_by key v found = of (same_name here.target.name t.name) refl found
    where
      of : (b : Bool) → same_name here.target.name t.name ≡ b → has same_place (if b then map Group (values_by old here.arm key (arm_kind old here.arm)) else []) (Group v) ≡ true → (same_name here.target.name t.name ≡ true) × (v ≡ key)
      of true is found = (is, equal v key (alone_true _ (ap (λ kind. has same_place (map Group (values_by old here.arm key kind)) (Group v)) (sym grouped) ∙ found)))
      of false is found = absurd (false≢true found)

  -- so the target has the one arm, and its key no tag
  untagged : same_name here.target.name t.name ≡ true → nat_lt 1 (length t.arms) ≡ false
  untagged named =
      let (i, less, at) = among.target_among in
      let is_it : target_at m i ≡ here.target = sym (get_or_default q.targets i here.target _ less) ∙ at in
      let number : i ≡ target = eqb-true i target (sym (name_tells_number m lawful i target less there) ∙ (ap (λ (x : Target). same_name x.name t.name) is_it ∙ named)) in
      let same : here.target ≡ t = sym is_it ∙ ap (target_at m) number in
      let within : Contains t.arms here.arm = subst (λ (x : Target). Contains x.arms here.arm) same among.arm_among in
      let contained : Contains q.targets t = (target, there, get_or_default q.targets target t _ there) in
      arm_alone old t.arms here.arm (and_parts _ _ (key_there old t (target_unobjected old q lawful.lawful t contained))).1 within among.by_values

  -- so the value of a group that gives what is sought is in the range
  pub value_within : (at : ℕ) (entry : Valued) → slice_get index.from at ≡ Some entry → gives m target wanted (granule unit (Group (value_of entry))) ≡ true → is_within (range_of m target wanted) (value_of entry) ≡ true
  value_within at entry is given =
      let v = value_of entry in
      let table = target_table old t in
      let is_tagged = nat_lt 1 (length t.arms) in
      let (row, holds, own) = some_has passes (key_of table) itself (part_in old q t.name (granule unit (Group v))) given in
      let found = placed_by (key_of table row) v (owned_place m lawful target there unit (values_unit here.target here.arm) (Group v) (key_of table row) here.at (value_placed at entry is) own) in
      let key_is : key_of (with_key_behind is_tagged table) row ≡ v =
      key_behind is_tagged table row
      ∙ (ap (λ (b : Bool). if b then drop 1 (key_of table row) else key_of table row) (untagged found.0) ∙ sym found.1) in
      ap (is_within (range_of m target wanted)) (sym key_is) ∙ key_within (with_key_behind is_tagged table) wanted row holds
