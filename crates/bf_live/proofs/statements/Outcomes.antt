-- What a statement is bound to says what it does: it is refused, or nothing stands in its way.
use Rattle.std.proofs.Common.{◌≡◌, ◌≢◌, ℕ, Bool, true, false, List, [], ◌∷◌, ◌++◌, Option, Some, None, option_map, unwrap_or, refl, sym, ap, ap₂, subst, ◌∙◌}
use Rattle.std.specs.Prelude.{option_and_then}
use Rattle.bf_base.specs.declared.table.Table.{Table}
use Rattle.bf_sql.specs.Bound.{is_planned, action_of, without_rows, bound_of, changes_schema, unless_objected, catalog_of}
use Rattle.bf_tree.specs.declared.bound.Action.{Action}
use Rattle.bf_tree.specs.declared.bound.Action.TheVariants as action
use Rattle.bf_tree.specs.declared.bound.Bound.{Bound}
use Rattle.bf_tree.specs.declared.catalog.Catalog.{Catalog}
use Rattle.bf_tree.specs.declared.reply.Refusal.{Refusal}
use Rattle.bf_tree.specs.declared.reply.Reply.TheVariants as reply
use Rattle.bf_tree.specs.declared.statement.Statement.{Statement}
use Rattle.bf_tree.specs.declared.statement.Statement.TheVariants.{CreateTable, CreateIndex, Insert, Select, Update, Delete, Begin, Commit, Rollback, Migrate}
use Rattle.bf_sql.specs.Database.{Database, IsDatabase}
use Rattle.bf_sql.specs.Meaning.{effect, executed, unless_refused}
use Rattle.bf_sql.specs.Objections.{objections}
use Rattle.bf_sql.specs.RowObjections.{row_objections}
use Rattle.bf_live.specs.Replies.{action_table}
use Rattle.bf_live.specs.Meanings.{IsBoundAs, writes_after}
use Rattle.bf_live.specs.Autocommit.{is_autocommit}
use Rattle.bf_txn.specs.declared.write.Write.{Write}
use Rattle.bf_live.specs.Open.{writes_behind}
use Rattle.bf_live.proofs.statements.Bare.{same_bound}

-- a plain statement is no MIGRATE
pub not_planned : (s : Statement) → is_autocommit s ≡ true → is_planned false s ≡ false
not_planned (Migrate migrate) plain = absurd cc
not_planned other plain = refl

action_alone : (n : ℕ) (b : Bool) (o : Option Action)
    → option_map (λ (b : Bound). b.action) (option_map (λ act. record { catalog = n; schema_change = b; action = act }) o) ≡ o
action_alone n b None = refl
action_alone n b (Some act) = refl

-- a statement that is bound in the catalog of a database
pub record IsBoundIn (db : Database) (in_block : Bool) (s : Statement) (bound : Bound) : Type 0 where
  pub database : IsDatabase db
  pub planned : is_planned in_block s ≡ false
  pub is : bound_of (without_rows (catalog_of db)) in_block s ≡ Some bound

pub bound_in : (db : Database) (in_block : Bool) (s : Statement) (bound : Bound) (catalog : Catalog) → catalog ≡ catalog_of db → IsDatabase db
    → is_planned in_block s ≡ false → bound_of (without_rows catalog) in_block s ≡ Some bound → IsBoundIn db in_block s bound
bound_in db in_block s bound catalog same database planned is = record {
  database = database;
  planned = planned;
  is = ap (λ (catalog : Catalog). bound_of (without_rows catalog) in_block s) (sym same) ∙ is;
}

-- the action that it is bound to
action_is : (db : Database) (in_block : Bool) (s : Statement) (bound : Bound) → IsBoundIn db in_block s bound
    → unless_objected (objections db in_block s) (action_of db s) ≡ Some bound.action
action_is db in_block s bound within =
    sym (action_alone db.number (changes_schema in_block s) (unless_objected (objections db in_block s) (action_of db s)))
    ∙ ap (option_map (λ (b : Bound). b.action)) (sym (same_bound db in_block s within.planned) ∙ within.is)

-- nothing that a statement is to do is a refusal
no_refusal : (db : Database) (s : Statement) (r : Refusal) → action_of db s ≡ Some (action.Refused r) → ⊥
no_refusal db (CreateTable name rules key) r is = cc
no_refusal db (CreateIndex name table columns) r is = cc
no_refusal db (Insert table tuples) r is = cc
no_refusal db (Select list table c) r is = cc
no_refusal db (Update table sets c) r is = cc
no_refusal db (Delete table c) r is = cc
no_refusal db Begin r is = cc
no_refusal db Commit r is = cc
no_refusal db Rollback r is = cc
no_refusal db (Migrate migrate) r is = cc

module _ (db : Database) (in_block : Bool) (s : Statement) where
  -- a refused statement leaves the database
  refused_by : (rs : List Refusal) (r : Refusal) (commit : ℕ) → unless_objected rs (action_of db s) ≡ Some (action.Refused r)
      → unless_refused (rs ++ row_objections db s) db (λ _. effect commit db s) ≡ (reply.Refused r, db)
  refused_by [] r commit is = absurd (no_refusal db s r is)
  refused_by (q ∷ rs) r commit is =
      let same : q ≡ r = cc in
      ap (λ (q : Refusal). (reply.Refused q, db)) same

  pub refused : (bound : Bound) (r : Refusal) → IsBoundIn db in_block s bound → bound.action ≡ action.Refused r
      → (commit : ℕ) → executed commit db in_block s ≡ (reply.Refused r, db)
  refused bound r within act commit = refused_by (objections db in_block s) r commit (action_is db in_block s bound within ∙ ap Some act)

  -- where it is to do something, nothing stands in its way
  bound_by : (rs : List Refusal) (act : Action) → ((r : Refusal) → act ≢ action.Refused r)
      → unless_objected rs (action_of db s) ≡ Some act → (rs ≡ []) × (action_of db s ≡ Some act)
  bound_by [] act not is = (refl, is)
  bound_by (r ∷ rs) act not is =
      let same : act ≡ action.Refused r = cc in
      absurd (not r same)

  pub as_bound : (bound : Bound) → IsBoundIn db in_block s bound → ((r : Refusal) → bound.action ≢ action.Refused r)
      → IsBoundAs db in_block s bound.action
  as_bound bound within not =
      let parts = bound_by (objections db in_block s) bound.action not (action_is db in_block s bound within) in
      record { database = within.database; admitted = parts.0; action = parts.1 }

  -- the writes behind a statement, by the action that it is bound to
  abbrev written_by : List Write → Option Action → List Write
  written_by before act =
      unwrap_or (option_and_then (λ (b : Bound). option_map (λ (t : Table). writes_after db t before b.action) (action_table b.action))
      (option_map (λ (a : Action). record { catalog = db.number; schema_change = changes_schema in_block s; action = a }) act)) before

  -- a refused statement writes nothing
  pub refused_writes : (bound : Bound) (r : Refusal) → IsBoundIn db in_block s bound → bound.action ≡ action.Refused r
      → (before : List Write) → before ≡ writes_behind db before in_block s
  refused_writes bound r within act before =
      sym (ap (written_by before) (action_is db in_block s bound within ∙ ap Some act))

  -- any other writes what its action does on its table
  pub writes_of_action : (act : Action) (table : Table) → IsBoundAs db in_block s act → action_table act ≡ Some table
      → (before : List Write) → writes_behind db before in_block s ≡ writes_after db table before act
  writes_of_action act table bound on before =
      ap₂ (λ (rs : List Refusal) (o : Option Action). written_by before (unless_objected rs o)) bound.admitted bound.action
      ∙ ap (λ (o : Option Table). unwrap_or (option_map (λ (t : Table). writes_after db t before act) o) before) on

  pub bound_to : (bound : Bound) (act : Action) → IsBoundIn db in_block s bound → ((r : Refusal) → act ≢ action.Refused r)
      → bound.action ≡ act → IsBoundAs db in_block s act
  bound_to bound act within not is =
      subst (IsBoundAs db in_block s) is (as_bound bound within (λ r same. not r (sym is ∙ same)))
