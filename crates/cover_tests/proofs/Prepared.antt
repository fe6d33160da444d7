-- A statement that is prepared, bound or planned: its key is the one that its condition fixes, and its tuples have values for the key.
use Rattle.std.proofs.Common.{◌≡◌, ℕ, Bool, List, [], ◌∷◌, Option, Some, None, Result, Ok, Err, option_map, refl, sym, ap, subst, ◌∙◌}
use Rattle.std.specs.Prelude.{IfOk}
use Rattle.std.proofs.lemmas.Option.{same_Some}
use Rattle.bf_tree.specs.Catalogs.{Catalog}
use Rattle.bf_tree.specs.declared.bound.Action.{Action}
use Rattle.bf_tree.specs.declared.bound.Action.TheVariants as action
use Rattle.bf_tree.specs.declared.bound.Bound.{Bound}
use Rattle.bf_tree.specs.declared.plan.Plan.{Plan}
use Rattle.bf_tree.specs.declared.reply.Refusal.{Refusal}
use Rattle.bf_tree.specs.declared.statement.Statement.{Statement}
use Rattle.bf_tree.specs.declared.statement.Statement.TheVariants.{Migrate}
use Rattle.bf_sql.specs.Bound.{catalog_of, changes_schema, unless_objected, without_rows}
use Rattle.bf_sql.specs.Database.{Database, IsDatabase}
use Rattle.bf_sql.specs.Objections.{objections}
use Rattle.bf_sql.specs.migrations.Plans.{plan_made, prepared_action, prepared_of}
use Rattle.bf_live.specs.Replies.{IsWellBound}
use Rattle.bf_live.proofs.locking.Writing.{is_well_bound}
use Rattle.bf_live.proofs.statements.Bare.{bare_is_database}

-- the action that a statement is prepared for
action_alone : (n : ℕ) (b : Bool) (o : Option Action)
    → option_map (λ (b : Bound). b.action) (option_map (λ act. record { catalog = n; schema_change = b; action = act }) o) ≡ o
action_alone n b None = refl
action_alone n b (Some act) = refl

planned_so : (rs : List Refusal) (plan : Plan) (act : Action) → unless_objected rs (Some (action.Migrate plan)) ≡ Some act → IsWellBound act
planned_so [] plan act is = subst IsWellBound (same_Some (action.Migrate plan) act is) tt
planned_so (r ∷ rs) plan act is = subst IsWellBound (same_Some (action.Refused r) act is) tt

action_so : (db : Database) (in_block : Bool) (s : Statement) (act : Action) → IsDatabase db
    → unless_objected (objections db in_block s) (prepared_action db s) ≡ Some act → IsWellBound act
action_so db in_block (Migrate m) act database is = planned_so (objections db in_block (Migrate m)) (plan_made db m) act is
action_so db in_block other act database is = is_well_bound db in_block other act database is

pub prepared_so : (db : Database) (in_block : Bool) (s : Statement) (bound : Bound) → IsDatabase db
    → prepared_of db in_block s ≡ Some bound → IsWellBound bound.action
prepared_so db in_block s bound database is =
    action_so db in_block s bound.action database
    (sym (action_alone db.number (changes_schema in_block s) (unless_objected (objections db in_block s) (prepared_action db s)))
    ∙ ap (option_map (λ (b : Bound). b.action)) is)

pub prepared_if_ok : {E : Type 0} (db : Database) (in_block : Bool) (s : Statement) (made : Result Bound E) → IsDatabase db
    → IfOk made (λ bound. prepared_of db in_block s ≡ Some bound) → IfOk made (λ bound. IsWellBound bound.action)
prepared_if_ok db in_block s (Ok bound) database is = prepared_so db in_block s bound database is
prepared_if_ok db in_block s (Err e) database is = tt

-- the catalog of a database is one without rows
pub is_bare : (db : Database) (catalog : Catalog) → catalog ≡ catalog_of db → IsDatabase db → IsDatabase (without_rows catalog)
is_bare db catalog same is = subst (λ (catalog : Catalog). IsDatabase (without_rows catalog)) (sym same) (bare_is_database db is)
