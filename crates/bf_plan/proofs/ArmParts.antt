-- An arm by its parts.
use Rattle.std.proofs.Common.{◌≡◌, ℕ, false, List, [], ◌∷◌, ◌++◌, map, Option, Some, None, refl, sym, ap, subst, ◌∙◌, nat_eq, append_assoc}
use Rattle.std.specs.List.{flat_map, list_any}
use Rattle.std.specs.Option.{option_eq}
use Rattle.bf_base.specs.declared.table.Column.{Column}
use Rattle.bf_tree.specs.declared.migration.Arm.{Arm}
use Rattle.bf_tree.specs.declared.migration.Target.{Target}
use Rattle.bf_tree.specs.declared.reply.Refusal.{Refusal}
use Rattle.bf_sql.specs.Conditions.{condition_of}
use Rattle.bf_sql.specs.Database.{Database}
use Rattle.bf_sql.specs.Scopes.{cond_objections}
use Rattle.bf_sql.specs.migrations.MigrationObjections.{arm_objections, group_objections, item_objections, on_objections}
use Rattle.bf_sql.specs.migrations.Targets.{arm_scope, equalities, width}
use Rattle.bf_bind.specs.ArmTables.{arm_tables, tables_objections}
use Rattle.bf_bind.specs.declared.source.ArmTables.{ArmTables}
use Rattle.bf_plan.specs.Arms.{arm_of_parts, bound_arm, bound_parts, parts_objections}
use Rattle.bf_plan.specs.declared.arm.ArmParts.{ArmParts}
use Rattle.bf_plan.specs.declared.arm.BoundArm.{BoundArm}
use Rattle.bf_plan.proofs.BoundArms.{arm-bound}

-- a place that is none is not in a group
pub nowhere : (group : List ℕ) (place : Option ℕ) → place ≡ None → list_any (λ p. option_eq nat_eq (Some p) place) group ≡ false
nowhere [] place e = refl
nowhere (g ∷ gs) None e = nowhere gs None refl
nowhere (g ∷ gs) (Some place) e = absurd cc

regroup : (t i o c g : List Refusal) → (((t ++ i) ++ o) ++ c) ++ g ≡ t ++ (((i ++ o) ++ c) ++ g)
regroup t i o c g = simp append_assoc

module _ (db : Database) (target : Target) (arm : Arm) where
  pub arm-split : arm_objections db target arm ≡ tables_objections db arm ++ parts_objections (arm_scope db arm) (width db arm) target.name arm
  arm-split =
      regroup (tables_objections db arm) (flat_map (item_objections (arm_scope db arm)) arm.items) (flat_map (on_objections db target arm) (equalities arm))
      (cond_objections (arm_scope db arm) (condition_of arm.cond)) (group_objections (arm_scope db arm) arm.group)

  module _ (tables : ArmTables) (are : (tables_objections db arm ≡ []) × (tables ≡ arm_tables db arm)) where
    pub parts_left : arm_objections db target arm ≡ parts_objections tables.scope tables.width target.name arm
    parts_left =
        arm-split ∙ ap (λ (rs : List Refusal). rs ++ parts_objections (arm_scope db arm) (width db arm) target.name arm) are.0
        ∙ sym (ap (λ (t : ArmTables). parts_objections t.scope t.width target.name arm) are.1)

    pub columns_are : tables.columns ≡ map (λ (c : List ℕ × Column). c.1) tables.scope
    columns_are = subst (λ (t : ArmTables). t.columns ≡ map (λ (c : List ℕ × Column). c.1) t.scope) (sym are.1) refl

    pub arm_made : (parts : ArmParts) (bound : BoundArm) → parts ≡ bound_parts tables.scope arm → bound ≡ arm_of_parts tables arm parts → bound ≡ bound_arm db arm
    arm_made parts bound by made =
        made ∙ ap (arm_of_parts tables arm) by ∙ ap (λ (t : ArmTables). arm_of_parts t arm (bound_parts t.scope arm)) are.1 ∙ arm-bound db arm
