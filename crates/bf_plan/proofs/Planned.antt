-- A plan, by the parts that it is made of.
use Rattle.std.proofs.Common.{◌≡◌, ℕ, ◌+◌, ◌≤◌, ◌<◌, List, [], ◌∷◌, ◌++◌, map, length, get_or, take, Some, Ok, Err, nat_lt, refl, sym, ap, ap₂, ◌∙◌, arith}
use Rattle.std.specs.List.{flat_map, enumerate_from}
use Rattle.std.proofs.lemmas.List.{length-map}
use Rattle.bf_base.specs.Limits.{most_drivers}
use Rattle.bf_base.specs.Distinct.{distinct}
use Rattle.bf_base.specs.Lists.{same_name, when, with_before}
use Rattle.bf_tree.specs.Settling.{first_of}
use Rattle.bf_tree.specs.declared.migration.Arm.{Arm}
use Rattle.bf_tree.specs.declared.migration.Migrate.{Migrate}
use Rattle.bf_tree.specs.declared.migration.Target.{Target}
use Rattle.bf_tree.specs.declared.reply.Refusal.{Refusal}
use Rattle.bf_tree.specs.declared.reply.Refusal.TheVariants as refusal
use Rattle.bf_tree.proofs.Settling.{first_ahead}
use Rattle.bf_sql.specs.Database.{Database}
use Rattle.bf_sql.specs.migrations.MigrationObjections.{drivers_of, migrate_objections, sources_of, taken_name_objections, target_objections}
use Rattle.bf_plan.specs.Arms.{bound_arm}
use Rattle.bf_sql.specs.migrations.Placed.{placed_arm}
use Rattle.bf_sql.specs.migrations.Plans.{plan_made, plan_of, planned_units, planned_unless}
use Rattle.bf_plan.specs.Targets.{bound_target}
use Rattle.bf_plan.specs.Units.{arm_units, bound_targets, driving, joined_units, taken_objections, units_of_target}
use Rattle.bf_tree.specs.declared.plan.PlacedArm.{PlacedArm}
use Rattle.bf_tree.specs.declared.plan.Plan.{Plan}
use Rattle.bf_tree.specs.declared.plan.Unit.{Unit}
use Rattle.bf_plan.specs.declared.arm.BoundArm.{BoundArm}
use Rattle.bf_plan.specs.declared.planning.BoundTargets.{BoundTargets}
use Rattle.bf_plan.specs.declared.target.BoundTarget.{BoundTarget}
use Rattle.bf_plan.proofs.NumberedArms.{block_within, drivers-planned, drivers_few, units-planned}
use Rattle.bf_plan.proofs.Walked.{blocks_more}

abbrev pub limit : List (List ℕ) → List Refusal
limit drivers = when (nat_lt most_drivers (length drivers)) (refusal.UnitLimit (length drivers))

abbrev pub free : Database → List (List ℕ) → List Target → List Refusal
free db sources targets = flat_map (λ p. taken_objections db sources p.0 p.1.name) (with_before targets)

module _ (db : Database) (m : Migrate) where
  pub targets_first : (r : Refusal) → first_of (flat_map (target_objections db) m.targets) ≡ Some r → first_of (migrate_objections db m) ≡ Some r
  targets_first r first =
      first_ahead (flat_map (target_objections db) m.targets ++ taken_name_objections db m) (limit (drivers_of db m)) r (first_ahead (flat_map (target_objections db) m.targets) (taken_name_objections db m) r first)

  module _ (bound : BoundTargets) (are : (flat_map (target_objections db) m.targets ≡ []) × (bound ≡ bound_targets db m.targets)) where
    names_left : migrate_objections db m ≡ taken_name_objections db m ++ limit (drivers_of db m)
    names_left = ap (λ (rs : List Refusal). rs ++ taken_name_objections db m ++ limit (drivers_of db m)) are.0

    pub few_drivers : (drivers : List (List ℕ)) → drivers ≡ distinct same_name (flat_map driving bound.units) → (most : ℕ) → length (flat_map (λ t. t.arms) m.targets) ≤ most → length drivers ≤ most
    few_drivers drivers e most few =
        let same = ap (λ (ds : List (List ℕ)). length ds) e in
        let those = ap (λ (b : BoundTargets). length (distinct same_name (flat_map driving b.units))) are.1 in
        let count = drivers_few db m most few in
        omega arith

    module _ (sources : List (List ℕ)) (named : sources ≡ sources_of m) where
      pub taken_first : (r : Refusal) → first_of (free db sources m.targets) ≡ Some r → first_of (migrate_objections db m) ≡ Some r
      taken_first r first =
          ap first_of names_left
          ∙ first_ahead (taken_name_objections db m) (limit (drivers_of db m)) r (ap (λ (ss : List (List ℕ)). first_of (free db ss m.targets)) (sym named) ∙ first)

      module _ (untaken : free db sources m.targets ≡ []) (drivers : List (List ℕ)) (e : drivers ≡ distinct same_name (flat_map driving bound.units)) where
        drivers-are : drivers ≡ drivers_of db m
        drivers-are = e ∙ ap (λ (b : BoundTargets). distinct same_name (flat_map driving b.units)) are.1 ∙ drivers-planned db m

        pub limit_left : migrate_objections db m ≡ limit drivers
        limit_left =
            names_left ∙ ap (λ (rs : List Refusal). rs ++ limit (drivers_of db m)) (ap (λ (ss : List (List ℕ)). free db ss m.targets) (sym named) ∙ untaken)
            ∙ ap limit (sym drivers-are)

        units-are : (units : List Unit) → units ≡ joined_units drivers bound.units → units ≡ planned_units db m
        units-are units made =
            made ∙ ap (λ (ds : List (List ℕ)). joined_units ds bound.units) drivers-are ∙ ap (λ (b : BoundTargets). joined_units (drivers_of db m) b.units) are.1 ∙ units-planned db m

        pub plan-is : (units : List Unit) → units ≡ joined_units drivers bound.units → (copy : Migrate) → copy ≡ m → record { migrate = copy; tables = bound.tables; arms = bound.arms; units = units; sources = sources } ≡ plan_made db m
        plan-is units made copy same =
            let us = units-are units made in
            let ts = ap (λ (b : BoundTargets). b.tables) are.1 in
            let placed = ap (λ (b : BoundTargets). b.arms) are.1 in
            λ i. record { migrate = same i; tables = ts i; arms = placed i; units = us i; sources = named i }

  -- the plan, or the first objection
  pub planned : (plan : Plan) → migrate_objections db m ≡ [] → plan ≡ plan_made db m → Ok plan ≡ plan_of db m
  planned plan none is = ap Ok is ∙ ap (λ (rs : List Refusal). planned_unless rs (plan_made db m)) (sym none)

  first_told : (rs : List Refusal) (r : Refusal) (plan : Plan) → first_of rs ≡ Some r → Err r ≡ planned_unless rs plan
  first_told [] r plan e = absurd cc
  first_told (s ∷ rs) r plan e = let same : r ≡ s = cc in ap Err same

  pub refused : (r : Refusal) → first_of (migrate_objections db m) ≡ Some r → Err r ≡ plan_of db m
  refused r first = first_told (migrate_objections db m) r (plan_made db m) first

-- the arms of a target with places for names
placed_each : (db : Database) (arms : List Arm) → map (λ (a : BoundArm). a.placed) (map (bound_arm db) arms) ≡ map (placed_arm db) arms
placed_each db [] = refl
placed_each db (arm ∷ arms) = ap (λ (zs : List PlacedArm). placed_arm db arm ∷ zs) (placed_each db arms)

-- one more target
module _ (db : Database) (targets : List Target) (i : ℕ) (target : Target) (in_range : i < length targets) (is : target ≡ get_or targets i target) (bound : BoundTarget) (made : bound ≡ bound_target db target) where
  pub units_more : (so_far more all : List Unit) → so_far ≡ flat_map (units_of_target db) (enumerate_from 0 (take i targets)) → more ≡ arm_units i bound.arms → all ≡ so_far ++ more → all ≡ flat_map (units_of_target db) (enumerate_from 0 (take (i + 1) targets))
  units_more so_far more all e own joined =
      joined ∙ ap₂ (λ (us vs : List Unit). us ++ vs) e (own ∙ ap (λ (b : BoundTarget). arm_units i b.arms) made) ∙ sym (blocks_more (units_of_target db) targets i target in_range is)

  pub placed_more : (placed : List PlacedArm) → placed ≡ map (λ (a : BoundArm). a.placed) bound.arms → placed ≡ map (placed_arm db) target.arms
  placed_more placed e = e ∙ ap (λ (b : BoundTarget). map (λ (a : BoundArm). a.placed) b.arms) made ∙ placed_each db target.arms

  pub few_arms : (most : ℕ) → length (flat_map (λ t. t.arms) targets) ≤ most → length bound.arms ≤ most
  few_arms most few =
      let here = block_within targets i target in_range is in
      let same = ap (λ (b : BoundTarget). length b.arms) made in
      let count = length-map target.arms (bound_arm db) in
      omega arith
