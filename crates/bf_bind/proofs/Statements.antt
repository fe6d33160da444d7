-- What binding a statement gives, by the parts of the statement.
use Rattle.std.proofs.Common.{◌≡◌, ℕ, Bool, true, false, not, ◌&&◌, List, [], ◌∷◌, ◌++◌, map, Result, Ok, Err, Option, Some, None, unwrap_or, refl, sym, ap, subst, ◌∙◌}
use Rattle.std.specs.List.{flat_map}
use Rattle.std.specs.Option.{option_map}
use Rattle.std.specs.Result.{IsErrAnd}
use Rattle.bf_base.specs.declared.table.Table.{Table}
use Rattle.bf_base.specs.declared.value.Value.{Value}
use Rattle.bf_base.specs.Lists.{when}
use Rattle.bf_tree.specs.Settling.{first_of, Settles}
use Rattle.bf_tree.specs.Trees.{Expr, Cond}
use Rattle.bf_tree.specs.declared.bound.Action.{Action}
use Rattle.bf_tree.specs.declared.bound.Action.TheVariants as action
use Rattle.bf_tree.specs.declared.bound.Bound.{Bound}
use Rattle.bf_tree.specs.declared.items.Items.{Items}
use Rattle.bf_tree.specs.declared.migration.Migrate.{Migrate as MigrateTree}
use Rattle.bf_tree.specs.declared.raw.Ref.{Ref}
use Rattle.bf_tree.specs.declared.reply.Refusal.{Refusal}
use Rattle.bf_tree.specs.declared.reply.Refusal.TheVariants.{InTransaction, MustBeAlone, NoTransaction}
use Rattle.bf_tree.specs.declared.statement.ColumnRule.{ColumnRule}
use Rattle.bf_tree.specs.declared.statement.Statement.{Statement}
use Rattle.bf_tree.specs.declared.statement.Statement.TheVariants.{CreateTable, CreateIndex, Insert, Select, Update, Delete, Begin, Commit, Rollback, Migrate}
use Rattle.bf_tree.specs.declared.statement_error.StatementError.{StatementError}
use Rattle.bf_tree.specs.declared.statement_error.StatementError.TheVariants as stop
use Rattle.bf_tree.proofs.Settling.{handed_on}
use Rattle.bf_sql.specs.Bound.{action_of, bound_of, changes_schema, cond_in, items_over, place_in, set_in, unless_objected, is_planned}
use Rattle.bf_sql.specs.Conditions.{condition_of, fixed_key}
use Rattle.bf_sql.specs.Database.{Database, Stored, no_table, stored_at, table_at}
use Rattle.bf_sql.specs.Meaning.{index_of}
use Rattle.bf_sql.specs.Objections.{items_objections, objections, new_index_objections, new_table_objections, sets_objections, table_objections, tuple_objections}
use Rattle.bf_sql.specs.Scopes.{cond_objections, scope_of}
use Rattle.bf_bind.specs.Actions.{Binds}
use Rattle.bf_bind.specs.Parts.{absence_objections, seen_as}

seen-some : (result : Result Action StatementError) (found : List Refusal) (meant : Action) → Settles result found meant → Settles (seen_as Some result) found (Some meant)
seen-some (Ok act) found meant h = (h.0, ap Some h.1)
seen-some (Err (stop.Refused r)) found meant h = h
seen-some (Err stop.Memory) found meant h = tt

-- the objections to a statement on a table that is there, and to one on a table that is not
on_stored : (o : Option Stored) (name : List ℕ) (on_table : Table → List Refusal) → table_objections o name (λ _. []) ≡ [] → table_objections o name on_table ≡ on_table (unwrap_or (option_map (λ s. s.table) o) no_table)
on_stored None name on_table there = absurd cc
on_stored (Some s) name on_table there = refl

absent_first : (o : Option Stored) (name : List ℕ) (on_table : Table → List Refusal) (r : Refusal) → first_of (table_objections o name (λ _. [])) ≡ Some r → first_of (table_objections o name on_table) ≡ Some r
absent_first None name on_table r e = e
absent_first (Some s) name on_table r e = absurd cc

module _ (db : Database) (b : Bool) (s : Statement) where
  -- an action that nothing stands in the way of
  pub ok_binds : (act : Action) → objections db b s ≡ [] → Some act ≡ action_of db s → Binds (Ok act) db b s
  unfolding Binds
  ok_binds act none is = (none, is)

  -- an error that is handed on
  pub error_binds : {A : Type 0} (result : Result Action StatementError) (e : StatementError) (meant : A) (found : List Refusal) → IsErrAnd result (λ given. given ≡ e) → Settles (Err e) found meant → ((r : Refusal) → first_of found ≡ Some r → first_of (objections db b s) ≡ Some r) → Binds result db b s
  unfolding Binds
  error_binds (Ok act) e meant found given here then = absurd given
  error_binds (Err given) e meant found same here then = handed_on (Err given) e found (objections db b s) meant (action_of db s) same here then

  -- a call that does the whole
  all_binds : (result : Result Action StatementError) (found : List Refusal) (meant : Action) → found ≡ objections db b s → Some meant ≡ action_of db s → Settles result found meant → Binds result db b s
  unfolding Binds
  all_binds result found meant same is h =
      subst (λ (o : Option Action). Settles (seen_as Some result) (objections db b s) o) is
      (subst (λ (rs : List Refusal). Settles (seen_as Some result) rs (Some meant)) same (seen-some result found meant h))

  module _ (name : List ℕ) (on_table : Table → List Refusal) (e : objections db b s ≡ table_objections (stored_at db name) name on_table) where
    absent : (result : Result Action StatementError) (error : StatementError) (meant : Table) → IsErrAnd result (λ given. given ≡ error) → Settles (Err error) (absence_objections db name) meant → Binds result db b s
    absent result error meant same here =
        error_binds result error meant (absence_objections db name) same here (λ r first. ap first_of e ∙ absent_first (stored_at db name) name on_table r first)

    present : (act : Table → Action) → Some (act (table_at db name)) ≡ action_of db s → (t : Table) → (absence_objections db name ≡ []) × (t ≡ table_at db name) → (result : Result Action StatementError) → Settles result (on_table t) (act t) → Binds result db b s
    present act is t there result h =
        all_binds result (on_table (table_at db name)) (act (table_at db name)) (sym (e ∙ on_stored (stored_at db name) name on_table there.0)) is
        (subst (λ (t : Table). Settles result (on_table t) (act t)) there.1 h)

module _ (db : Database) (b : Bool) (name : List ℕ) where
  module _ (tuples : List (List Value)) where
    on_insert : (b : Bool) → objections db b (Insert name tuples) ≡ table_objections (stored_at db name) name (λ t. flat_map (tuple_objections t) tuples)
    on_insert true = refl
    on_insert false = refl

    pub insert-absent : (result : Result Action StatementError) (error : StatementError) (meant : Table) → IsErrAnd result (λ given. given ≡ error) → Settles (Err error) (absence_objections db name) meant → Binds result db b (Insert name tuples)
    insert-absent = absent db b (Insert name tuples) name _ (on_insert b)

    pub insert-binds : (t : Table) → (absence_objections db name ≡ []) × (t ≡ table_at db name) → (result : Result Action StatementError) → Settles result (flat_map (tuple_objections t) tuples) (action.Insert t tuples) → Binds result db b (Insert name tuples)
    insert-binds = present db b (Insert name tuples) name (λ t. flat_map (tuple_objections t) tuples) (on_insert b) (λ t. action.Insert t tuples) refl

  module _ (cond : Option (Cond Ref)) where
    abbrev on_condition : Table → List Refusal
    on_condition t = cond_objections (scope_of t) (condition_of cond)

    abbrev fixed : Table → Option (List Value)
    fixed t = fixed_key t (cond_in t cond)

    module _ (list : Items (Expr Ref)) where
      abbrev on_items : Table → List Refusal
      on_items t = items_objections (scope_of t) list ++ on_condition t

      abbrev selects : Table → Action
      selects t = action.Select t (items_over (place_in t) list) (cond_in t cond) (fixed t)

      on_select : (b : Bool) → objections db b (Select list name cond) ≡ table_objections (stored_at db name) name on_items
      on_select true = refl
      on_select false = refl

      pub select-absent : (result : Result Action StatementError) (error : StatementError) (meant : Table) → IsErrAnd result (λ given. given ≡ error) → Settles (Err error) (absence_objections db name) meant → Binds result db b (Select list name cond)
      select-absent = absent db b (Select list name cond) name on_items (on_select b)

      pub select-binds : (t : Table) → (absence_objections db name ≡ []) × (t ≡ table_at db name) → (result : Result Action StatementError) → Settles result (on_items t) (selects t) → Binds result db b (Select list name cond)
      select-binds = present db b (Select list name cond) name on_items (on_select b) selects refl

    module _ (sets : List (List ℕ × Expr Ref)) where
      abbrev on_sets : Table → List Refusal
      on_sets t = sets_objections t sets ++ on_condition t

      abbrev updates : Table → Action
      updates t = action.Update t (map (set_in t) sets) (cond_in t cond) (fixed t)

      on_update : (b : Bool) → objections db b (Update name sets cond) ≡ table_objections (stored_at db name) name on_sets
      on_update true = refl
      on_update false = refl

      pub update-absent : (result : Result Action StatementError) (error : StatementError) (meant : Table) → IsErrAnd result (λ given. given ≡ error) → Settles (Err error) (absence_objections db name) meant → Binds result db b (Update name sets cond)
      update-absent = absent db b (Update name sets cond) name on_sets (on_update b)

      pub update-binds : (t : Table) → (absence_objections db name ≡ []) × (t ≡ table_at db name) → (result : Result Action StatementError) → Settles result (on_sets t) (updates t) → Binds result db b (Update name sets cond)
      update-binds = present db b (Update name sets cond) name on_sets (on_update b) updates refl

    abbrev deletes : Table → Action
    deletes t = action.Delete t (cond_in t cond) (fixed t)

    on_delete : (b : Bool) → objections db b (Delete name cond) ≡ table_objections (stored_at db name) name on_condition
    on_delete true = refl
    on_delete false = refl

    pub delete-absent : (result : Result Action StatementError) (error : StatementError) (meant : Table) → IsErrAnd result (λ given. given ≡ error) → Settles (Err error) (absence_objections db name) meant → Binds result db b (Delete name cond)
    delete-absent = absent db b (Delete name cond) name on_condition (on_delete b)

    pub delete-binds : (t : Table) → (absence_objections db name ≡ []) × (t ≡ table_at db name) → (result : Result Action StatementError) → Settles result (on_condition t) (deletes t) → Binds result db b (Delete name cond)
    delete-binds = present db b (Delete name cond) name on_condition (on_delete b) deletes refl

-- words of a block
module _ (db : Database) (result : Result Action StatementError) where
  pub begin-binds : (b : Bool) → Settles result (when b InTransaction) action.Begin → Binds result db b Begin
  begin-binds true h = all_binds db true Begin result _ _ refl refl h
  begin-binds false h = all_binds db false Begin result _ _ refl refl h

  pub commit-binds : (b : Bool) → Settles result (when (not b) NoTransaction) action.Commit → Binds result db b Commit
  commit-binds true h = all_binds db true Commit result _ _ refl refl h
  commit-binds false h = all_binds db false Commit result _ _ refl refl h

  pub rollback-binds : (b : Bool) → Settles result (when (not b) NoTransaction) action.Rollback → Binds result db b Rollback
  rollback-binds true h = all_binds db true Rollback result _ _ refl refl h
  rollback-binds false h = all_binds db false Rollback result _ _ refl refl h

-- CREATE, which stands alone
module _ (db : Database) (name : List ℕ) (rules : List ColumnRule) (key : List (List ℕ)) where
  pub table-inside : (b : Bool) (r : Refusal) → first_of (when b MustBeAlone) ≡ Some r → first_of (objections db b (CreateTable name rules key)) ≡ Some r
  table-inside true r e = e
  table-inside false r e = absurd cc

  pub table-alone : (b : Bool) → when b MustBeAlone ≡ [] → objections db b (CreateTable name rules key) ≡ new_table_objections db name rules key
  table-alone true e = absurd cc
  table-alone false e = refl

module _ (db : Database) (index : List ℕ) (name : List ℕ) (columns : List (List ℕ)) where
  pub index-inside : (b : Bool) (r : Refusal) → first_of (when b MustBeAlone) ≡ Some r → first_of (objections db b (CreateIndex index name columns)) ≡ Some r
  index-inside true r e = e
  index-inside false r e = absurd cc

  abbrev on_columns : Table → List Refusal
  on_columns t = new_index_objections db index t columns

  on_index : (b : Bool) → when b MustBeAlone ≡ [] → objections db b (CreateIndex index name columns) ≡ table_objections (stored_at db name) name on_columns
  on_index true e = absurd cc
  on_index false e = refl

  module _ (b : Bool) (alone : when b MustBeAlone ≡ []) where
    pub index-absent : (result : Result Action StatementError) (error : StatementError) (meant : Table) → IsErrAnd result (λ given. given ≡ error) → Settles (Err error) (absence_objections db name) meant → Binds result db b (CreateIndex index name columns)
    index-absent = absent db b (CreateIndex index name columns) name on_columns (on_index b alone)

    -- the objections to a new index on the table that is there
    pub index-alone : (t : Table) → (absence_objections db name ≡ []) × (t ≡ table_at db name) → objections db b (CreateIndex index name columns) ≡ new_index_objections db index t columns
    index-alone t there = on_index b alone ∙ on_stored (stored_at db name) name on_columns there.0 ∙ ap on_columns (sym there.1)

    pub index-action : (t : Table) → t ≡ table_at db name → Some (action.CreateIndex (index_of index t columns)) ≡ action_of db (CreateIndex index name columns)
    index-action t is = ap (λ (t : Table). Some (action.CreateIndex (index_of index t columns))) is

-- a MIGRATE that is not planned stands in a block
pub migrate-inside : (db : Database) (b : Bool) (m : MigrateTree) → is_planned b (Migrate m) ≡ false → Binds (Err (stop.Refused MustBeAlone)) db b (Migrate m)
unfolding Binds
migrate-inside db true m e = refl
migrate-inside db false m e = absurd cc

-- the first objection stands in the action
unless_objected-refused : (r : Refusal) (found : List Refusal) (act : Option Action) → first_of found ≡ Some r → unless_objected found act ≡ Some (action.Refused r)
unless_objected-refused r [] act e = absurd cc
unless_objected-refused r (x ∷ xs) act e = ap (λ (o : Option Refusal). option_map action.Refused o) e

changes_schema-alone : (b : Bool) (s : Statement) → changes_schema b s ≡ (changes_schema false s && not b)
changes_schema-alone true (CreateTable name rules key) = refl
changes_schema-alone false (CreateTable name rules key) = refl
changes_schema-alone true (CreateIndex name table columns) = refl
changes_schema-alone false (CreateIndex name table columns) = refl
changes_schema-alone true (Migrate migrate) = refl
changes_schema-alone false (Migrate migrate) = refl
changes_schema-alone b (Insert table tuples) = refl
changes_schema-alone b (Select list table cond) = refl
changes_schema-alone b (Update table sets cond) = refl
changes_schema-alone b (Delete table cond) = refl
changes_schema-alone b Begin = refl
changes_schema-alone b Commit = refl
changes_schema-alone b Rollback = refl

-- a statement bound to an action
abbrev pub bound_to : Database → Bool → Statement → Action → Bound
bound_to db b s act = record { catalog = db.number; schema_change = changes_schema false s && not b; action = act }

module _ (db : Database) (b : Bool) (s : Statement) where
  pub bound_of-unobjected : (act : Action) → Binds (Ok act) db b s → bound_of db b s ≡ Some (bound_to db b s act)
  unfolding Binds
  bound_of-unobjected act h = rw (h.0, ← h.1, changes_schema-alone b s)

  pub bound_of-refused : (r : Refusal) → Binds (Err (stop.Refused r)) db b s → bound_of db b s ≡ Some (bound_to db b s (action.Refused r))
  unfolding Binds
  bound_of-refused r first = rw (unless_objected-refused r (objections db b s) (action_of db s) first, changes_schema-alone b s)
