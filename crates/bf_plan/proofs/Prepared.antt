-- A statement made ready: bound, but for a MIGRATE outside a block, which is planned.
use Rattle.std.proofs.Common.{◌≡◌, Bool, true, false, List, [], ◌∷◌, Some, Result, refl, sym, ap, ◌∙◌}
use Rattle.std.specs.Option.{option_map}
use Rattle.bf_tree.specs.declared.bound.Action.{Action}
use Rattle.bf_tree.specs.declared.bound.Action.TheVariants as action
use Rattle.bf_tree.specs.declared.bound.Bound.{Bound}
use Rattle.bf_tree.specs.declared.migration.Migrate.{Migrate as MigrateTree}
use Rattle.bf_tree.specs.declared.plan.Plan.{Plan}
use Rattle.bf_tree.specs.declared.reply.Refusal.{Refusal}
use Rattle.bf_tree.specs.declared.statement.Statement.{Statement}
use Rattle.bf_tree.specs.declared.statement.Statement.TheVariants.{CreateTable, CreateIndex, Insert, Select, Update, Delete, Begin, Commit, Rollback, Migrate}
use Rattle.bf_sql.specs.Bound.{bound_of, is_planned}
use Rattle.bf_sql.specs.Bound as binding
use Rattle.bf_sql.specs.Database.{Database}
use Rattle.bf_sql.specs.migrations.MigrationObjections.{migrate_objections}
use Rattle.bf_sql.specs.migrations.Plans.{plan_made, plan_of, planned_unless, prepared_of}
use Rattle.bf_plan.specs.Prepared.{action_planned}

-- what is not planned is bound
pub prepared-bound : (db : Database) (b : Bool) (s : Statement) → is_planned b s ≡ false → prepared_of db b s ≡ bound_of db b s
prepared-bound db b (CreateTable name rules key) e = refl
prepared-bound db b (CreateIndex name table columns) e = refl
prepared-bound db b (Insert table tuples) e = refl
prepared-bound db b (Select list table cond) e = refl
prepared-bound db b (Update table sets cond) e = refl
prepared-bound db b (Delete table cond) e = refl
prepared-bound db b Begin e = refl
prepared-bound db b Commit e = refl
prepared-bound db b Rollback e = refl
prepared-bound db true (Migrate m) e = refl
prepared-bound db false (Migrate m) e = absurd cc

-- in a block nothing is planned, and nothing but a MIGRATE outside
pub unplanned_in_block : (b : Bool) (s : Statement) → b ≡ true → is_planned b s ≡ false
unplanned_in_block b s e = rw e refl

pub unplanned : (b : Bool) (s : Statement) → ((m : MigrateTree) → s ≡ Migrate m → ⊥) → is_planned b s ≡ false
unplanned true s other = refl
unplanned false (CreateTable name rules key) other = refl
unplanned false (CreateIndex name table columns) other = refl
unplanned false (Insert table tuples) other = refl
unplanned false (Select list table cond) other = refl
unplanned false (Update table sets cond) other = refl
unplanned false (Delete table cond) other = refl
unplanned false Begin other = refl
unplanned false Commit other = refl
unplanned false Rollback other = refl
unplanned false (Migrate m) other = absurd (other m refl)

-- the first objection, or the plan
action-planned : (rs : List Refusal) (plan : Plan) → binding.unless_objected rs (Some (action.Migrate plan)) ≡ Some (action_planned (planned_unless rs plan))
action-planned [] plan = refl
action-planned (r ∷ rs) plan = refl

pub prepared-planned : (db : Database) (m : MigrateTree) (planned : Result Plan Refusal) → planned ≡ plan_of db m
    → prepared_of db false (Migrate m) ≡ Some (record { catalog = db.number; schema_change = true; action = action_planned planned })
prepared-planned db m planned e =
    ap (option_map (λ (act : Action). let bound : Bound = record { catalog = db.number; schema_change = true; action = act } in bound)) (action-planned (migrate_objections db m) (plan_made db m))
    ∙ ap (λ (p : Result Plan Refusal). let bound : Bound = record { catalog = db.number; schema_change = true; action = action_planned p } in Some bound) (sym e)
