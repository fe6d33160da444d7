-- The units of a plan, made of its arms one by one.
use Rattle.std.proofs.Common.{◌≡◌, ℕ, ◌+◌, ◌≤◌, ◌<◌, zero, suc, Bool, true, false, not, ◌&&◌, ◌||◌, cond, if◌then◌else◌, List, [], ◌∷◌, ◌++◌, map, filter, fold, length, get_or, Option, Some, None, is_some, refl, sym, ap, ap₂, ◌∙◌, arith, nat_eq, nat_lt}
use Rattle.std.specs.List.{flat_map, enumerate_from, list_all}
use Rattle.std.proofs.lemmas.List.{map-append, length-append, length-map}
use Rattle.std.proofs.lemmas.List.FromFn.{length-enumerate_from}
use Rattle.bf_base.specs.Distinct.{distinct, with_new}
use Rattle.bf_base.specs.Lists.{has, same_name, when}
use Rattle.std.proofs.lemmas.List.Concat.{flat_map-append}
use Rattle.bf_tree.specs.Trees.{Cond}
use Rattle.bf_tree.specs.declared.migration.Arm.{Arm}
use Rattle.bf_tree.specs.declared.migration.Item.{Item}
use Rattle.bf_tree.specs.declared.migration.Join.{Join}
use Rattle.bf_tree.specs.declared.migration.Migrate.{Migrate}
use Rattle.bf_tree.specs.declared.migration.Target.{Target}
use Rattle.bf_tree.specs.declared.raw.Ref.{Ref}
use Rattle.bf_tree.specs.declared.plan.ArmKind.{ArmKind}
use Rattle.bf_tree.specs.declared.plan.ArmKind.TheVariants.{ByFrom, ByJoin, ByPair, ByGroup}
use Rattle.bf_sql.specs.Database.{Database}
use Rattle.bf_sql.specs.migrations.MigrationObjections.{driver_by, drivers_of, is_by_row}
use Rattle.bf_sql.specs.migrations.Targets.{arm_kind, from_key, join_key, kind_by, on_places}
use Rattle.bf_plan.specs.Arms.{bound_arm, driver_of, unit_kind_of}
use Rattle.bf_sql.specs.migrations.Plans.{kind_by_values, numbered_arms, planned_units, rows_unit_of, values_unit_of}
use Rattle.bf_plan.specs.Targets.{is_rows}
use Rattle.bf_plan.specs.Units.{arm_unit, arms_driven, driving, is_driven, joined_units, rows_unit, units_by_values, units_of_target}
use Rattle.bf_plan.specs.declared.arm.BoundArm.{BoundArm}
use Rattle.bf_tree.specs.declared.plan.Unit.{Unit}

-- what is driven by which table, by the kind of an arm
driver-told : (items : List Item) (from : List ℕ) (join : Option Join) (condition : Option (Cond Ref)) (group : List Ref) (g x y : Bool)
    → let arm : Arm = record { items = items; from = from; join = join; cond = condition; group = group } in
    when (is_rows (unit_kind_of (kind_by g (is_some join) x y))) (driver_of (kind_by g (is_some join) x y) arm) ≡ driver_by (kind_by g (is_some join) x y) arm
driver-told items from None condition group true x y = refl
driver-told items from None condition group false x y = refl
driver-told items from (Some j) condition group true x y = refl
driver-told items from (Some j) condition group false true y = refl
driver-told items from (Some j) condition group false false true = refl
driver-told items from (Some j) condition group false false false = refl

-- a driver, if there is one, as a name among one or none
driven-named : (rows : Bool) (driver name : List ℕ) → (rows && same_name name driver) ≡ has same_name (when rows driver) name
driven-named true driver name = or_false (same_name name driver)
  where
    or_false : (b : Bool) → b ≡ (b || false)
    or_false true = refl
    or_false false = refl
driven-named false driver name = refl

-- an arm that goes by values, by its kind
valued_by : (k : ArmKind) (number : ℕ × ℕ) (arm : Arm) (units : List Unit)
    → units_by_values (record { kind = unit_kind_of k; driver = driver_of k arm; arms = number ∷ [] }) ++ units
    ≡ cond (not (is_by_row k)) (record { kind = kind_by_values k; driver = arm.from; arms = number ∷ [] } ∷ units) units
valued_by ByFrom number arm units = refl
valued_by ByJoin number arm units = refl
valued_by ByPair number arm units = refl
valued_by ByGroup number arm units = refl

map_either : {X Y : Type 0} (f : X → Y) (b : Bool) (x : X) (xs : List X) → map f (cond b (x ∷ xs) xs) ≡ cond b (f x ∷ map f xs) (map f xs)
map_either f true x xs = refl
map_either f false x xs = refl

module _ (db : Database) where
  abbrev unit_of : (ℕ × ℕ) × Arm → Unit
  unit_of p = arm_unit p.0 (bound_arm db p.1)

  abbrev driver_of_arm : (ℕ × ℕ) × Arm → List (List ℕ)
  driver_of_arm p = driver_by (arm_kind db p.1) p.1

  driving-arm : (p : (ℕ × ℕ) × Arm) → driving (unit_of p) ≡ driver_of_arm p
  driving-arm p =
      driver-told p.1.items p.1.from p.1.join p.1.cond p.1.group
      (nat_lt 0 (length p.1.group)) (list_all (has nat_eq (on_places db p.1)) (join_key db p.1)) (list_all (has nat_eq (on_places db p.1)) (from_key db p.1))

  -- the units are those of the numbered arms
  arm_units-numbered : (t k : ℕ) (arms : List Arm) → map (λ (p : ℕ × BoundArm). arm_unit (t, p.0) p.1) (enumerate_from k (map (bound_arm db) arms)) ≡ map unit_of (map (λ a. ((t, a.0), a.1)) (enumerate_from k arms))
  arm_units-numbered t k [] = refl
  arm_units-numbered t k (arm ∷ arms) = ap (λ us. unit_of ((t, k), arm) ∷ us) (arm_units-numbered t (k + 1) arms)

  units-numbered_from : (n : ℕ) (targets : List Target) → flat_map (units_of_target db) (enumerate_from n targets) ≡ map unit_of (flat_map (λ t. map (λ a. ((t.0, a.0), a.1)) (enumerate_from 0 t.1.arms)) (enumerate_from n targets))
  units-numbered_from n [] = refl
  units-numbered_from n (t ∷ ts) =
      ap₂ (λ us vs. us ++ vs) (arm_units-numbered n 0 t.arms) (units-numbered_from (n + 1) ts)
      ∙ sym (map-append unit_of (map (λ a. ((n, a.0), a.1)) (enumerate_from 0 t.arms)) (flat_map (λ t. map (λ a. ((t.0, a.0), a.1)) (enumerate_from 0 t.1.arms)) (enumerate_from (n + 1) ts)))

  -- without the numbers
  blocks-unnumbered : (f : Arm → List (List ℕ)) (t k : ℕ) (arms : List Arm) → flat_map (λ (p : (ℕ × ℕ) × Arm). f p.1) (map (λ a. ((t, a.0), a.1)) (enumerate_from k arms)) ≡ flat_map f arms
  blocks-unnumbered f t k [] = refl
  blocks-unnumbered f t k (arm ∷ arms) = ap (λ zs. f arm ++ zs) (blocks-unnumbered f t (k + 1) arms)

  drivers-unnumbered : (n : ℕ) (targets : List Target) → flat_map driver_of_arm (flat_map (λ t. map (λ a. ((t.0, a.0), a.1)) (enumerate_from 0 t.1.arms)) (enumerate_from n targets)) ≡ flat_map (λ t. flat_map (λ arm. driver_by (arm_kind db arm) arm) t.arms) targets
  drivers-unnumbered n [] = refl
  drivers-unnumbered n (t ∷ ts) =
      flat_map-append driver_of_arm (map (λ a. ((n, a.0), a.1)) (enumerate_from 0 t.arms)) (flat_map (λ t. map (λ a. ((t.0, a.0), a.1)) (enumerate_from 0 t.1.arms)) (enumerate_from (n + 1) ts))
      ∙ ap₂ (λ us vs. us ++ vs) (blocks-unnumbered (λ arm. driver_by (arm_kind db arm) arm) n 0 t.arms) (drivers-unnumbered (n + 1) ts)

  driving-numbered : (ps : List ((ℕ × ℕ) × Arm)) → flat_map driving (map unit_of ps) ≡ flat_map driver_of_arm ps
  driving-numbered [] = refl
  driving-numbered (p ∷ ps) = ap₂ (λ us vs. us ++ vs) (driving-arm p) (driving-numbered ps)

  arms-numbered : (name : List ℕ) (ps : List ((ℕ × ℕ) × Arm)) → flat_map (arms_driven name) (map unit_of ps) ≡ map (λ (p : (ℕ × ℕ) × Arm). p.0) (filter (λ p. has same_name (driver_of_arm p) name) ps)
  arms-numbered name [] = refl
  arms-numbered name (p ∷ ps) =
      let same : is_driven name (unit_of p) ≡ has same_name (driver_of_arm p) name =
      driven-named (is_rows (unit_of p).kind) (unit_of p).driver name ∙ ap (λ ds. has same_name ds name) (driving-arm p) in
      ap (λ (b : Bool). flat_map (λ (u : Unit). u.arms) (when b (unit_of p)) ++ flat_map (arms_driven name) (map unit_of ps)) same
      ∙ ap (λ (zs : List (ℕ × ℕ)). flat_map (λ (u : Unit). u.arms) (when (has same_name (driver_of_arm p) name) (unit_of p)) ++ zs) (arms-numbered name ps)
      ∙ either_way (has same_name (driver_of_arm p) name)
    where
      either_way : (b : Bool) → flat_map (λ (u : Unit). u.arms) (when b (unit_of p)) ++ map (λ (p : (ℕ × ℕ) × Arm). p.0) (filter (λ p. has same_name (driver_of_arm p) name) ps) ≡ map (λ (p : (ℕ × ℕ) × Arm). p.0) (cond b (p ∷ filter (λ p. has same_name (driver_of_arm p) name) ps) (filter (λ p. has same_name (driver_of_arm p) name) ps))
      either_way true = refl
      either_way false = refl

  valued : (m : Migrate) (p : (ℕ × ℕ) × Arm) (vs : List ((ℕ × ℕ) × Arm)) → units_by_values (unit_of p) ++ map (values_unit_of db m) vs ≡ map (values_unit_of db m) (cond (not (is_by_row (arm_kind db p.1))) (p ∷ vs) vs)
  valued m p vs = valued_by (arm_kind db p.1) p.0 p.1 (map (values_unit_of db m) vs) ∙ sym (map_either (values_unit_of db m) (not (is_by_row (arm_kind db p.1))) p vs)

  values-numbered : (m : Migrate) (ps : List ((ℕ × ℕ) × Arm)) → flat_map units_by_values (map unit_of ps) ≡ map (values_unit_of db m) (filter (λ p. not (is_by_row (arm_kind db p.1))) ps)
  values-numbered m [] = refl
  values-numbered m (p ∷ ps) = ap (λ us. units_by_values (unit_of p) ++ us) (values-numbered m ps) ∙ valued m p (filter (λ p. not (is_by_row (arm_kind db p.1))) ps)

  module _ (m : Migrate) where
    abbrev pub units_of : List Unit
    units_of = flat_map (units_of_target db) (enumerate_from 0 m.targets)

    units-numbered : units_of ≡ map unit_of (numbered_arms m)
    units-numbered = units-numbered_from 0 m.targets

    pub drivers-planned : distinct same_name (flat_map driving units_of) ≡ drivers_of db m
    drivers-planned = ap (distinct same_name) (ap (flat_map driving) units-numbered ∙ driving-numbered (numbered_arms m) ∙ drivers-unnumbered 0 m.targets)

    rows-planned : (name : List ℕ) → rows_unit units_of name ≡ rows_unit_of db m name
    rows-planned name =
        let arms : flat_map (arms_driven name) units_of ≡ map (λ (p : (ℕ × ℕ) × Arm). p.0) (filter (λ p. has same_name (driver_of_arm p) name) (numbered_arms m)) =
        ap (flat_map (arms_driven name)) units-numbered ∙ arms-numbered name (numbered_arms m) in
        ap (λ (ns : List (ℕ × ℕ)). record (rows_unit units_of name) { arms = ns }) arms

    pub units-planned : joined_units (drivers_of db m) units_of ≡ planned_units db m
    units-planned =
        ap₂ (λ (us vs : List Unit). us ++ vs) (λ i. map (λ name. rows-planned name i) (drivers_of db m)) (ap (flat_map units_by_values) units-numbered ∙ values-numbered m (numbered_arms m))

  -- counts
  unit_count : (t k : ℕ) (arms : List Arm) → length (map (λ (p : ℕ × BoundArm). arm_unit (t, p.0) p.1) (enumerate_from k (map (bound_arm db) arms))) ≡ length arms
  unit_count t k arms = length-map (enumerate_from k (map (bound_arm db) arms)) (λ (p : ℕ × BoundArm). arm_unit (t, p.0) p.1) ∙ length-enumerate_from k (map (bound_arm db) arms) ∙ length-map arms (bound_arm db)

  units_count : (n : ℕ) (targets : List Target) → length (flat_map (units_of_target db) (enumerate_from n targets)) ≡ length (flat_map (λ t. t.arms) targets)
  units_count n [] = refl
  units_count n (t ∷ ts) =
      length-append (units_of_target db (n, t)) (flat_map (units_of_target db) (enumerate_from (n + 1) ts))
      ∙ ap₂ (λ a b. a + b) (unit_count n 0 t.arms) (units_count (n + 1) ts)
      ∙ sym (length-append t.arms (flat_map (λ t. t.arms) ts))

  pub drivers_few : (m : Migrate) (most : ℕ) → length (flat_map (λ t. t.arms) m.targets) ≤ most → length (distinct same_name (flat_map driving (flat_map (units_of_target db) (enumerate_from 0 m.targets)))) ≤ most
  drivers_few m most few =
      let units = flat_map (units_of_target db) (enumerate_from 0 m.targets) in
      let a = distinct_few [] (flat_map driving (flat_map (units_of_target db) (enumerate_from 0 m.targets))) in
      let b = driving_few (flat_map (units_of_target db) (enumerate_from 0 m.targets)) in
      let c = units_count 0 m.targets in
      omega arith
    where
      one_more : (seen : List (List ℕ)) (x : List ℕ) (b : Bool) → length (if b then seen else seen ++ x ∷ []) ≤ length seen + 1
      one_more seen x true = omega arith
      one_more seen x false = omega (arith, length-append seen (x ∷ []))

      distinct_few : (seen xs : List (List ℕ)) → length (fold (with_new same_name) seen xs) ≤ length seen + length xs
      distinct_few seen [] = omega arith
      distinct_few seen (x ∷ xs) =
          let rest = distinct_few (with_new same_name seen x) xs in
          let here = one_more seen x (has same_name seen x) in
          omega arith

      driving_few : (units : List Unit) → length (flat_map driving units) ≤ length units
      driving_few [] = omega arith
      driving_few (u ∷ us) =
          let rest = driving_few us in
          let whole = length-append (driving u) (flat_map driving us) in
          let here = when_few (is_rows u.kind) u.driver in
          omega arith
        where
          when_few : (b : Bool) (x : List ℕ) → length (when b x) ≤ 1
          when_few true x = omega arith
          when_few false x = omega arith

-- a block is no longer than all blocks
pub block_within : (targets : List Target) (i : ℕ) (t : Target) → i < length targets → t ≡ get_or targets i t → length t.arms ≤ length (flat_map (λ t. t.arms) targets)
block_within [] i t lt is = absurd (omega arith)
block_within (u ∷ us) zero t lt is =
    let whole = length-append u.arms (flat_map (λ t. t.arms) us) in
    let same : length t.arms ≡ length u.arms = ap (λ (t : Target). length t.arms) is in
    omega arith
block_within (u ∷ us) (suc i) t lt is =
    let whole = length-append u.arms (flat_map (λ t. t.arms) us) in
    let rest = block_within us i t (omega arith) is in
    omega arith
