-- What the arms of a unit by rows make of a row of its driver.
use Rattle.std.proofs.Common.{◌≡◌, ℕ, zero, suc, ◌+◌, Bool, true, false, not, ◌&&◌, if◌then◌else◌, List, [], ◌∷◌, ◌++◌, map, filter, take, drop, slice_range, Some, None, is_some, refl, sym, ap, ap₂, ◌∙◌, cond}
use Rattle.std.specs.Prelude.{slice_get}
use Rattle.std.specs.List.{AllByRecursion, flat_map, list_all}
use Rattle.std.proofs.lemmas.Bool.{and_parts, false≢true}
use Rattle.std.proofs.lemmas.List.{append-nil}
use Rattle.bf_base.specs.declared.granule.Place.TheVariants.{Row}
use Rattle.bf_base.specs.declared.value.Value.{Value}
use Rattle.bf_base.specs.Lists.{has, same_name}
use Rattle.bf_tree.specs.declared.migration.Arm.{Arm}
use Rattle.bf_tree.specs.declared.migration.Item.{Item}
use Rattle.bf_tree.specs.declared.migration.Item.TheVariants as item
use Rattle.bf_tree.specs.declared.migration.Migrate.{Migrate}
use Rattle.bf_tree.specs.declared.migration.Target.{Target}
use Rattle.bf_tree.specs.declared.plan.ArmKind.{ArmKind}
use Rattle.bf_tree.specs.declared.plan.ArmKind.TheVariants.{ByFrom, ByJoin, ByPair, ByGroup}
use Rattle.bf_sql.specs.Database.{Database, table_rows}
use Rattle.bf_sql.specs.Scopes.{Scope}
use Rattle.bf_sql.specs.migrations.Granules.{part_at, rows_driven, rows_unit}
use Rattle.bf_sql.specs.migrations.Images.{arm_rows}
use Rattle.bf_sql.specs.migrations.MigrationObjections.{driver_by, inherits_key, is_by_group, is_by_row, is_grouped_item}
use Rattle.bf_sql.specs.migrations.Placed.{placed_arm, placed_item}
use Rattle.bf_sql.specs.migrations.Plans.{numbered_arms, rows_unit_of}
use Rattle.bf_sql.specs.migrations.Targets.{arm_kind, arm_scope, is_total, key_items, names_of_join}
use Rattle.bf_image.specs.ArmRows.{CanMake, IsUnobjected, item_objections}
use Rattle.bf_image.specs.Lawful.{IsLawful}
use Rattle.bf_image.specs.Lookup.{from_rows_met, join_rows_met, rows_met}
use Rattle.bf_image.specs.PlannedUnits.{arm_named, target_named}
use Rattle.bf_image.proofs.finding.Found.{alone_true}
use Rattle.bf_image.proofs.finding.Looked.{one_row}
use Rattle.bf_image.proofs.finding.Meets.{driven_met}
use Rattle.bf_image.proofs.finding.Owned.{target_unobjected}
use Rattle.bf_image.proofs.finding.Owner.{its_arm_two_sided}
use Rattle.bf_image.proofs.items.Lists.{all_of_contained}
use Rattle.bf_image.proofs.items.Names.{name-symmetric}
use Rattle.bf_image.proofs.making.Unobjected.{key_there}
use Rattle.bf_image.proofs.planning.Driven.{IsNamed, arm_among, named_from_numbered, part_by_numbers, rows_by_numbers, target_among}
use Rattle.bf_image.proofs.planning.Numbered.{IsNumbered, all_numbered, each_of_map, named_by_numbers}

-- those that pass a test pass it
each_passes : {X : Type 0} (P : X → Type 0) (test : X → Bool) (xs : List X) → AllByRecursion P xs → AllByRecursion (λ x. P x × (test x ≡ true)) (filter test xs)
each_passes P test [] all = tt
each_passes P test (x ∷ xs) all = of (test x) refl (each_passes P test xs all.1)
  where
    of : (b : Bool) → test x ≡ b → AllByRecursion (λ x. P x × (test x ≡ true)) (filter test xs) → AllByRecursion (λ x. P x × (test x ≡ true)) (cond b (x ∷ filter test xs) (filter test xs))
    of true at rest = ((all.0, at), rest)
    of false at rest = rest

-- the row at a position, alone
module _ {X : Type 0} where
  first_left : (xs : List X) (at : ℕ) (x : X) → slice_get xs at ≡ Some x → take 1 (drop at xs) ≡ x ∷ []
  first_left [] at x is = absurd cc
  first_left (y ∷ ys) zero x is = let same : y ≡ x = cc in ap (λ z. z ∷ []) same
  first_left (y ∷ ys) (suc at) x is = first_left ys at x is

  none_left : (xs : List X) (at : ℕ) → slice_get xs at ≡ None → take 1 (drop at xs) ≡ []
  none_left [] zero is = refl
  none_left [] (suc at) is = refl
  none_left (y ∷ ys) zero is = absurd cc
  none_left (y ∷ ys) (suc at) is = none_left ys at is

  alone_at : (xs : List X) (at : ℕ) (x : X) → slice_get xs at ≡ Some x → slice_range xs at (at + 1) ≡ x ∷ []
  alone_at xs at x is = one_row xs at ∙ first_left xs at x is

  none_at : (xs : List X) (at : ℕ) → slice_get xs at ≡ None → slice_range xs at (at + 1) ≡ []
  none_at xs at is = one_row xs at ∙ none_left xs at is

-- items without totals have no objection, whatever the rows
without_totals : (scope : Scope) (rows : List (List Value)) (items : List Item) → list_all (λ i. not (is_total i)) items ≡ true → flat_map (item_objections rows) (map (placed_item scope) items) ≡ []
without_totals scope rows [] all = refl
without_totals scope rows (item.Column ref ∷ items) all = without_totals scope rows items all
without_totals scope rows (item.Named e name ∷ items) all = without_totals scope rows items all
without_totals scope rows (item.Total total name ∷ items) all = absurd (false≢true all)

each_always : {X : Type 0} (P : X → Type 0) → ((x : X) → P x) → (xs : List X) → AllByRecursion P xs
each_always P one [] = tt
each_always P one (x ∷ xs) = (one x, each_always P one xs)

-- DRIVEN: numbers of an arm that a table drives
pub record IsDriven (old : Database) (m : Migrate) (driver : List ℕ) (pair : ℕ × ℕ) : Type 0 where
  pub named : IsNamed m pair
  pub driven : has same_name (driver_by (arm_kind old (arm_named m pair)) (arm_named m pair)) driver ≡ true

-- the arms of a unit by rows are driven
pub all_driven : (old : Database) (m : Migrate) (driver : List ℕ) → AllByRecursion (IsDriven old m driver) (rows_unit_of old m driver).arms
all_driven old m driver =
    let test : (ℕ × ℕ) × Arm → Bool = λ q. has same_name (driver_by (arm_kind old q.1) q.1) driver in
    each_of_map (IsDriven old m driver) (λ q. IsNumbered m q × (test q ≡ true)) (λ q. q.0)
    (λ q both. record { named = named_from_numbered m q both.0; driven = ap (λ arm. has same_name (driver_by (arm_kind old arm) arm) driver) (named_by_numbers m q both.0) ∙ both.1 })
    (filter test (numbered_arms m)) (each_passes (IsNumbered m) test (numbered_arms m) (all_numbered m))

module _ (old : Database) (m : Migrate) (lawful : IsLawful old m) (driver : List ℕ) (pair : ℕ × ℕ) (is : IsDriven old m driver pair) where
  abbrev arm : Arm
  arm = arm_named m pair

  abbrev target : Target
  target = target_named m pair.0

  pub by_row : is_by_row (arm_kind old arm) ≡ true
  by_row = of (arm_kind old arm) is.driven
    where
      of : (kind : ArmKind) → has same_name (driver_by kind arm) driver ≡ true → is_by_row kind ≡ true
      of ByFrom driven = refl
      of ByJoin driven = refl
      of ByPair driven = driven
      of ByGroup driven = driven

  -- nothing stands in the way of its rows
  pub makes_any : (from join : List (List Value)) → CanMake (placed_arm old arm) from join
  makes_any from join = each_always (IsUnobjected (placed_arm old arm)) (λ rows. without_totals (arm_scope old arm) rows arm.items plain) _
    where
      inherits : inherits_key old arm ≡ true
      inherits =
          all_of_contained (inherits_key old) target.arms arm
          (and_parts (list_all (inherits_key old) target.arms) _ (key_there old target (target_unobjected old m lawful target (target_among m pair is.named)))).0
          (arm_among m pair is.named)

      of : (kind : ArmKind) → is_by_row kind ≡ true → (if is_by_group kind then not (is_some arm.join) && list_all (is_grouped_item old arm) arm.items else list_all (λ i. not (is_total i)) arm.items) ≡ true → list_all (λ i. not (is_total i)) arm.items ≡ true
      of ByFrom row fine = fine
      of ByJoin row fine = fine
      of ByPair row fine = fine
      of ByGroup row fine = absurd (false≢true row)

      plain : list_all (λ i. not (is_total i)) arm.items ≡ true
      plain = of (arm_kind old arm) by_row (and_parts (list_all is_some (key_items old arm)) _ inherits).1

  module _ (at : ℕ) where
    met : rows_driven old arm (arm_kind old arm) driver at ≡ rows_met old arm (arm_kind old arm) driver at
    met = driven_met old lawful.database arm (its_arm_two_sided old m lawful target (target_among m pair is.named) arm (arm_among m pair is.named)) (arm_kind old arm) refl driver at

    -- what is made of a row of the driver and the row that it meets
    pub rows_of_row : (row : List Value) → slice_get (table_rows old driver) at ≡ Some row → (made : List (List Value))
        → (arm_kind old arm ≡ ByFrom → made ≡ arm_rows old arm (row ∷ []) (join_rows_met old arm row))
        → (arm_kind old arm ≡ ByJoin → made ≡ arm_rows old arm (from_rows_met old arm row) (row ∷ []))
        → made ≡ rows_driven old arm (arm_kind old arm) driver at
    rows_of_row row there made from join = of (arm_kind old arm) refl is.driven ∙ sym met
      where
        here : slice_range (table_rows old driver) at (at + 1) ≡ row ∷ []
        here = alone_at (table_rows old driver) at row there

        of : (kind : ArmKind) → arm_kind old arm ≡ kind → has same_name (driver_by kind arm) driver ≡ true → made ≡ rows_met old arm kind driver at
        of ByFrom e driven =
            let made_of : List Value → List (List Value) = λ r. arm_rows old arm (r ∷ []) (join_rows_met old arm r) in
            let own : same_name arm.from driver ≡ true = name-symmetric arm.from driver ∙ alone_true (same_name driver arm.from) driven in
            from e ∙ sym (append-nil (made_of row)) ∙ sym (ap₂ (λ (b : Bool) rows. if b then flat_map made_of rows else []) own here)
        of ByJoin e driven =
            let made_of : List Value → List (List Value) = λ s. arm_rows old arm (from_rows_met old arm s) (s ∷ []) in
            join e ∙ sym (append-nil (made_of row)) ∙ sym (ap₂ (λ (b : Bool) rows. if b then flat_map made_of rows else []) driven here)
        of ByPair e driven = absurd (false≢true driven)
        of ByGroup e driven = absurd (false≢true driven)

    -- past the driver's rows there are none
    pub none_past : slice_get (table_rows old driver) at ≡ None → rows_driven old arm (arm_kind old arm) driver at ≡ []
    none_past gap = met ∙ of (arm_kind old arm)
      where
        none : slice_range (table_rows old driver) at (at + 1) ≡ []
        none = none_at (table_rows old driver) at gap

        either : (b : Bool) (f : List Value → List (List Value)) → (if b then flat_map f (slice_range (table_rows old driver) at (at + 1)) else []) ≡ []
        either true f = ap (flat_map f) none
        either false f = refl

        of : (kind : ArmKind) → rows_met old arm kind driver at ≡ []
        of ByFrom = either (same_name arm.from driver) (λ r. arm_rows old arm (r ∷ []) (join_rows_met old arm r))
        of ByJoin = either (has same_name (names_of_join arm) driver) (λ s. arm_rows old arm (from_rows_met old arm s) (s ∷ []))
        of ByPair = refl
        of ByGroup = refl

-- a position past the driver's rows has no part
pub part_past : (old : Database) (m : Migrate) (driver : List ℕ) (at : ℕ) → IsLawful old m → slice_get (table_rows old driver) at ≡ None → part_at old m (rows_unit driver) (Row at) ≡ []
part_past old m driver at lawful gap = part_by_numbers old m driver at ∙ each (rows_unit_of old m driver).arms (all_driven old m driver)
  where
    each : (pairs : List (ℕ × ℕ)) → AllByRecursion (IsDriven old m driver) pairs → flat_map (rows_by_numbers old m driver at) pairs ≡ []
    each [] all = refl
    each (pair ∷ pairs) all = ap₂ (λ xs ys. xs ++ ys) (ap (map (λ row. (target_named m pair.0, row))) (none_past old m lawful driver pair all.0 at gap)) (each pairs all.1)
