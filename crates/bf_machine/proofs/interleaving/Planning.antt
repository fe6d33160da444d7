-- What is prepared is bound alike, or is a MIGRATE that is planned.
use Rattle.std.proofs.Common.{◌≡◌, ◌⊎◌, ℕ, Bool, true, false, List, [], ◌∷◌, if◌then◌else◌, Option, Some, None, refl, sym, ap, ap₂, subst, ◌∙◌, option_map, inl, inr}
use Rattle.std.specs.Option.{option_map_or}
use Rattle.std.proofs.lemmas.Option.{same_Some}
use Rattle.bf_tree.specs.declared.bound.Action.{Action}
use Rattle.bf_tree.specs.declared.bound.Action.TheVariants as action
use Rattle.bf_tree.specs.declared.bound.Bound.{Bound}
use Rattle.bf_tree.specs.declared.migration.Migrate.{Migrate}
use Rattle.bf_tree.specs.declared.plan.Plan.{Plan}
use Rattle.bf_tree.specs.declared.reply.Refusal.{Refusal}
use Rattle.bf_tree.specs.declared.statement.Statement.{Statement}
use Rattle.bf_tree.specs.declared.statement.Statement.TheVariants as statement
use Rattle.bf_sql.specs.Bound.{action_of, bound_of, changes_schema, unless_objected}
use Rattle.bf_sql.specs.Database.{Database}
use Rattle.bf_sql.specs.Footprints.{action_locks, catalog_change, footprint_of}
use Rattle.bf_sql.specs.Objections.{objections}
use Rattle.bf_sql.specs.migrations.Lazy.{Migration, pending_of}
use Rattle.bf_sql.specs.migrations.MigrationObjections.{migrate_objections}
use Rattle.bf_sql.specs.migrations.Need.{needed_for}
use Rattle.bf_sql.specs.migrations.Plans.{plan_made, prepared_action, prepared_of}
use Rattle.bf_store.specs.States.{HaveMoved}
use Rattle.bf_store.proofs.moving.Needing.{none_left_if_done}
use Rattle.bf_machine.specs.interleaving.Groups.{footprint_in}

-- PLAIN: every action but a plan
abbrev pub IsPlain : Action → Type 0
IsPlain (action.Migrate plan) = ⊥
IsPlain other = Unit {0}

unplanned : (rs : List Refusal) (n : ℕ) (b : Bool) (plan : Plan) (bound : Bound)
    → option_map (λ act. record { catalog = n; schema_change = b; action = act }) (unless_objected rs (Some (action.Migrate plan))) ≡ Some bound → IsPlain bound.action
    → option_map (λ act. record { catalog = n; schema_change = b; action = act }) (unless_objected rs None) ≡ Some bound
unplanned [] n b plan bound is plain = absurd (subst IsPlain (sym (ap (λ (x : Bound). x.action) (same_Some _ bound is))) plain)
unplanned (r ∷ rs) n b plan bound is plain = is

-- each is bound as it is prepared
pub prepared_as_bound : (db : Database) (in_block : Bool) (s : Statement) (bound : Bound) → prepared_of db in_block s ≡ Some bound → IsPlain bound.action
    → bound_of db in_block s ≡ Some bound
prepared_as_bound db true (statement.Migrate m) bound is plain = is
prepared_as_bound db false (statement.Migrate m) bound is plain = unplanned (migrate_objections db m) db.number true (plan_made db m) bound is plain
prepared_as_bound db in_block other bound is plain = is

-- PLANNED: a MIGRATE outside a block, which the catalog allows
pub record IsPlanned (db : Database) (in_block : Bool) (s : Statement) (plan : Plan) : Type 0 where
  pub outside : in_block ≡ false
  pub statement_is : s ≡ statement.Migrate plan.migrate
  pub allowed : migrate_objections db plan.migrate ≡ []
  pub made : plan ≡ plan_made db plan.migrate

-- nothing objects to what is planned
allowed_so : (rs : List Refusal) (o : Option Action) (plan : Plan) → unless_objected rs o ≡ Some (action.Migrate plan) → (rs ≡ []) × (o ≡ Some (action.Migrate plan))
allowed_so [] o plan is = (refl, is)
allowed_so (r ∷ rs) o plan is =
    let clash : action.Refused r ≡ action.Migrate plan = same_Some _ (action.Migrate plan) is in
    absurd cc

-- and no other statement is bound to a plan
not_bound : (db : Database) (s : Statement) (plan : Plan) → action_of db s ≡ Some (action.Migrate plan) → ⊥
not_bound db (statement.CreateTable name rules key) plan is = cc
not_bound db (statement.CreateIndex name table columns) plan is = cc
not_bound db (statement.Insert table tuples) plan is = cc
not_bound db (statement.Select list table cond) plan is = cc
not_bound db (statement.Update table sets cond) plan is = cc
not_bound db (statement.Delete table cond) plan is = cc
not_bound db statement.Begin plan is = cc
not_bound db statement.Commit plan is = cc
not_bound db statement.Rollback plan is = cc
not_bound db (statement.Migrate migrate) plan is = cc

other_action : (db : Database) (s : Statement) → (prepared_action db s ≡ action_of db s) ⊎ ((m : Migrate) × (s ≡ statement.Migrate m))
other_action db (statement.Migrate migrate) = inr (migrate, refl)
other_action db (statement.CreateTable name rules key) = inl refl
other_action db (statement.CreateIndex name table columns) = inl refl
other_action db (statement.Insert table tuples) = inl refl
other_action db (statement.Select list table cond) = inl refl
other_action db (statement.Update table sets cond) = inl refl
other_action db (statement.Delete table cond) = inl refl
other_action db statement.Begin = inl refl
other_action db statement.Commit = inl refl
other_action db statement.Rollback = inl refl

of_migrate : (db : Database) (in_block : Bool) (m : Migrate) (plan : Plan) → unless_objected (objections db in_block (statement.Migrate m)) (Some (action.Migrate (plan_made db m))) ≡ Some (action.Migrate plan)
    → IsPlanned db in_block (statement.Migrate m) plan
of_migrate db true m plan is = absurd cc
of_migrate db false m plan is =
    let by = allowed_so (migrate_objections db m) (Some (action.Migrate (plan_made db m))) plan is in
    let acts : action.Migrate (plan_made db m) ≡ action.Migrate plan = same_Some _ (action.Migrate plan) by.1 in
    let one : plan_made db m ≡ plan = cc in
    let own : m ≡ plan.migrate = ap (λ (p : Plan). p.migrate) one in
    record {
      outside = refl;
      statement_is = ap statement.Migrate own;
      allowed = ap (migrate_objections db) (sym own) ∙ by.0;
      made = sym one ∙ ap (plan_made db) own;
    }

-- what is prepared is what the objections leave of the action
prepared_is : (n : ℕ) (b : Bool) (o : Option Action) (bound : Bound) → option_map (λ (act : Action). record { catalog = n; schema_change = b; action = act }) o ≡ Some bound
    → (bound.schema_change ≡ b) × (o ≡ Some bound.action)
prepared_is n b None bound is = absurd cc
prepared_is n b (Some a) bound is =
    let same = same_Some _ bound is in
    (ap (λ (x : Bound). x.schema_change) (sym same), ap (λ (x : Bound). Some x.action) same)

pub planned_so : (db : Database) (in_block : Bool) (s : Statement) (bound : Bound) (plan : Plan) → prepared_of db in_block s ≡ Some bound → bound.action ≡ action.Migrate plan
    → IsPlanned db in_block s plan
planned_so db in_block s bound plan is act =
    let acts : unless_objected (objections db in_block s) (prepared_action db s) ≡ Some (action.Migrate plan) =
    (prepared_is db.number (changes_schema in_block s) (unless_objected (objections db in_block s) (prepared_action db s)) bound is).1 ∙ ap Some act in
    elim (other_action db s) as (λ _. IsPlanned db in_block s plan) [
      | inl other ↦ absurd (not_bound db s plan (sym other ∙ (allowed_so (objections db in_block s) (prepared_action db s) plan acts).1))
      | inr migrate ↦
          subst (λ (s : Statement). IsPlanned db in_block s plan) (sym migrate.1)
          (of_migrate db in_block migrate.0 plan (subst (λ (s : Statement). unless_objected (objections db in_block s) (prepared_action db s) ≡ Some (action.Migrate plan)) migrate.1 acts))
    ]

-- a bound tells whether its statement changes the schema
pub schema_of : (db : Database) (in_block : Bool) (s : Statement) (bound : Bound) → prepared_of db in_block s ≡ Some bound → bound.schema_change ≡ changes_schema in_block s
schema_of db in_block s bound is =
    (prepared_is db.number (changes_schema in_block s) (unless_objected (objections db in_block s) (prepared_action db s)) bound is).0

-- where the need of a MIGRATE has moved, nothing is left to move
pub none_pending : (last : Option Migration) (act : Action) (plan : Plan) → act ≡ action.Migrate plan → HaveMoved last (λ last. needed_for last.old last.migrate act) → pending_of last ≡ []
none_pending None act plan is moved = refl
none_pending (Some last) act plan is moved =
    none_left_if_done last _ (subst (λ (act : Action). HaveMoved (Some last) (λ last. needed_for last.old last.migrate act)) is moved)

-- THE FOOTPRINT of a statement is that of what it is prepared to
unbound : (rs : List Refusal) (n : ℕ) (b : Bool) (plan : Plan) (bound : Bound) → bound.action ≡ action.Migrate plan
    → option_map (λ (act : Action). record { catalog = n; schema_change = b; action = act }) (unless_objected rs (Some (action.Migrate plan))) ≡ Some bound
    → ◌≡◌ {A = Option Bound} (option_map (λ (act : Action). record { catalog = n; schema_change = b; action = act }) (unless_objected rs None)) None
unbound [] n b plan bound e is = refl
unbound (r ∷ rs) n b plan bound e is =
    let clash : action.Refused r ≡ action.Migrate plan = ap (λ (x : Bound). x.action) (same_Some _ bound is) ∙ e in
    absurd cc

of_planned : (db : Database) (m : Migrate) (bound : Bound) → prepared_of db false (statement.Migrate m) ≡ Some bound → bound.action ≡ action.Migrate (plan_made db m)
    → footprint_in db false (statement.Migrate m) ≡ footprint_of bound
of_planned db m bound is e =
    ap (λ (o : Option Bound). option_map_or footprint_of o catalog_change) (unbound (migrate_objections db m) db.number true (plan_made db m) bound e is)
    ∙ sym (ap (λ (b : Bool). if b then catalog_change else action_locks bound.action) (schema_of db false (statement.Migrate m) bound is))

pub footprint_prepared : (db : Database) (in_block : Bool) (s : Statement) (bound : Bound) → prepared_of db in_block s ≡ Some bound → footprint_in db in_block s ≡ footprint_of bound
footprint_prepared db in_block s bound is = by bound.action refl
  where
    plain : IsPlain bound.action → footprint_in db in_block s ≡ footprint_of bound
    plain is_plain = ap (λ (o : Option Bound). option_map_or footprint_of o catalog_change) (prepared_as_bound db in_block s bound is is_plain)

    by : (act : Action) → bound.action ≡ act → footprint_in db in_block s ≡ footprint_of bound
    by (action.Migrate plan) e =
        let planned = planned_so db in_block s bound plan is e in
        let same : prepared_of db false (statement.Migrate plan.migrate) ≡ Some bound = ap₂ (prepared_of db) (sym planned.outside) (sym planned.statement_is) ∙ is in
        ap₂ (footprint_in db) planned.outside planned.statement_is
        ∙ of_planned db plan.migrate bound same (e ∙ ap action.Migrate planned.made)
    by other e = plain (subst IsPlain (sym e) tt)
