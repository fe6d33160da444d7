-- What a CREATE or a MIGRATE is to leave is put into a lazy state as one record makes it: the record stands for that statement.
use Rattle.std.proofs.Common.{◌≡◌, ℕ, Bool, true, false, List, [], ◌∷◌, Option, Some, None, refl, sym, ap, subst, ◌∙◌, option_map}
use Rattle.std.proofs.lemmas.Bool.{and_from, false≢true}
use Rattle.std.proofs.lemmas.Option.{same_Some}
use Rattle.bf_base.specs.declared.granule.Granule.{Granule}
use Rattle.bf_base.specs.declared.table.Table.{Table}
use Rattle.bf_tree.specs.declared.bound.Action.{Action}
use Rattle.bf_tree.specs.declared.bound.Action.TheVariants as action
use Rattle.bf_tree.specs.declared.bound.Bound.{Bound}
use Rattle.bf_tree.specs.declared.catalog.Catalog.{Catalog}
use Rattle.bf_tree.specs.declared.catalog.IndexRule.{IndexRule}
use Rattle.bf_tree.specs.declared.plan.Plan.{Plan}
use Rattle.bf_tree.specs.declared.reply.Refusal.{Refusal}
use Rattle.bf_tree.specs.declared.statement.Statement.{Statement}
use Rattle.bf_tree.specs.declared.statement.Statement.TheVariants as statement
use Rattle.bf_record.specs.declared.change.Change.TheVariants as record_of
use Rattle.bf_record.specs.declared.schema.SchemaChange.TheVariants as schema
use Rattle.bf_sql.specs.Bound.{changes_schema, unless_objected, without_rows}
use Rattle.bf_sql.specs.Database.{Database, table_at}
use Rattle.bf_sql.specs.Meaning.{created_table, index_of}
use Rattle.bf_sql.specs.Objections.{objections}
use Rattle.bf_sql.specs.RowObjections.{row_objections}
use Rattle.bf_sql.specs.migrations.Lazy.{LazyState, view_of}
use Rattle.bf_sql.specs.migrations.Plans.{prepared_action, prepared_of}
use Rattle.bf_store.specs.States.{IsLazy}
use Rattle.bf_store.proofs.seeing.Viewing.{same_catalog_seen}
use Rattle.bf_recover.specs.Schemas.{is_empty, is_legal_index, is_legal_table, is_refused}
use Rattle.bf_recover.proofs.Creating.{index_by_catalog, table_by_catalog}
use Rattle.bf_machine.specs.interleaving.Answering.{CanSettle}
use Rattle.bf_machine.specs.interleaving.Events.{put_into}
use Rattle.bf_machine.specs.interleaving.Groups.{Rows, NewTable, NewIndex, Flip, IsLeftBy, flip_unless, pending_behind}
use Rattle.bf_machine.proofs.interleaving.Planning.{planned_so}
use Rattle.bf_run.specs.Records.{IsRecordOf}
use Rattle.bf_run.specs.Sayable.{IsSayable}
use Rattle.bf_run.proofs.Created.{index_legal, table_legal}

-- nothing is objected to what is prepared to something else than a refusal
unobjected : (rs : List Refusal) (o : Option Action) (n : ℕ) (b : Bool) (bound : Bound) (act : Action)
    → option_map (λ (act : Action). record { catalog = n; schema_change = b; action = act }) (unless_objected rs o) ≡ Some bound → bound.action ≡ act → is_refused act ≡ false
    → (rs ≡ []) × (o ≡ Some act)
unobjected [] None n b bound act is acts plain = absurd cc
unobjected [] (Some a) n b bound act is acts plain = (refl, ap Some (ap (λ (x : Bound). x.action) (same_Some _ bound is) ∙ acts))
unobjected (r ∷ rs) o n b bound act is acts plain =
    let refused : action.Refused r ≡ act = ap (λ (x : Bound). x.action) (same_Some _ bound is) ∙ acts in
    absurd (false≢true (sym plain ∙ ap is_refused (sym refused)))

module _ (db : Database) where
  -- BEHIND a statement alone is a change of the schema where it is bound to that change
  table_behind : (s : Statement) (act : Action) (t : Table) → NewTable t ≡ pending_behind db (Rows []) false s act → act ≡ action.CreateTable t
  table_behind s (action.CreateTable table) t is = cc
  table_behind s (action.Migrate plan) t is = absurd (no_table (row_objections db (statement.Migrate plan.migrate)) is)
    where
      no_table : (rs : List Refusal) → NewTable t ≡ flip_unless rs plan → ⊥
      no_table [] is = cc
      no_table (r ∷ rs) is = cc
  table_behind s other t is = absurd cc

  index_behind : (s : Statement) (act : Action) (i : IndexRule) → NewIndex i ≡ pending_behind db (Rows []) false s act → act ≡ action.CreateIndex i
  index_behind s (action.CreateIndex index) i is = cc
  index_behind s (action.Migrate plan) i is = absurd (no_index (row_objections db (statement.Migrate plan.migrate)) is)
    where
      no_index : (rs : List Refusal) → NewIndex i ≡ flip_unless rs plan → ⊥
      no_index [] is = cc
      no_index (r ∷ rs) is = cc
  index_behind s other i is = absurd cc

  flip_behind : (s : Statement) (act : Action) (plan : Plan) → Flip plan ≡ pending_behind db (Rows []) false s act → act ≡ action.Migrate plan
  flip_behind s (action.Migrate made) plan is = of (row_objections db (statement.Migrate made.migrate)) is
    where
      of : (rs : List Refusal) → Flip plan ≡ flip_unless rs made → action.Migrate made ≡ action.Migrate plan
      of [] is = cc
      of (r ∷ rs) is = absurd cc
  flip_behind s other plan is = absurd cc

  -- SAID: what a statement makes that a script can have
  said_table : (s : Statement) (t : Table) → objections db false s ≡ [] → prepared_action db s ≡ Some (action.CreateTable t) → IsSayable s → is_legal_table db t ≡ true
  said_table (statement.CreateTable name rules key) t none is sayable =
      let same : created_table name rules key ≡ t = cc in
      subst (λ (t : Table). is_legal_table db t ≡ true) same (table_legal name rules key db none sayable)
  said_table (statement.CreateIndex name on columns) t none is sayable = absurd cc
  said_table (statement.Insert name tuples) t none is sayable = absurd cc
  said_table (statement.Select list name c) t none is sayable = absurd cc
  said_table (statement.Update name sets c) t none is sayable = absurd cc
  said_table (statement.Delete name c) t none is sayable = absurd cc
  said_table statement.Begin t none is sayable = absurd cc
  said_table statement.Commit t none is sayable = absurd cc
  said_table statement.Rollback t none is sayable = absurd cc
  said_table (statement.Migrate m) t none is sayable = absurd cc

  said_index : (s : Statement) (i : IndexRule) → objections db false s ≡ [] → prepared_action db s ≡ Some (action.CreateIndex i) → IsSayable s → is_legal_index db i ≡ true
  said_index (statement.CreateIndex name on columns) i none is sayable =
      let same : index_of name (table_at db on) columns ≡ i = cc in
      subst (λ (i : IndexRule). is_legal_index db i ≡ true) same (index_legal db name on columns none sayable)
  said_index (statement.CreateTable name rules key) i none is sayable = absurd cc
  said_index (statement.Insert name tuples) i none is sayable = absurd cc
  said_index (statement.Select list name c) i none is sayable = absurd cc
  said_index (statement.Update name sets c) i none is sayable = absurd cc
  said_index (statement.Delete name c) i none is sayable = absurd cc
  said_index statement.Begin i none is sayable = absurd cc
  said_index statement.Commit i none is sayable = absurd cc
  said_index statement.Rollback i none is sayable = absurd cc
  said_index (statement.Migrate m) i none is sayable = absurd cc

  module _ (s : Statement) (bound : Bound) (prepared : prepared_of db false s ≡ Some bound) where
    prepared_to : (act : Action) → bound.action ≡ act → is_refused act ≡ false → (objections db false s ≡ []) × (prepared_action db s ≡ Some act)
    prepared_to act acts plain = unobjected (objections db false s) (prepared_action db s) db.number (changes_schema false s) bound act prepared acts plain

    table_prepared : (t : Table) → bound.action ≡ action.CreateTable t → IsSayable s → is_legal_table db t ≡ true
    table_prepared t acts sayable = let free = prepared_to (action.CreateTable t) acts refl in said_table s t free.0 free.1 sayable

    index_prepared : (i : IndexRule) → bound.action ≡ action.CreateIndex i → IsSayable s → is_legal_index db i ≡ true
    index_prepared i acts sayable = let free = prepared_to (action.CreateIndex i) acts refl in said_index s i free.0 free.1 sayable

module _ (lazy : LazyState) where
  module _ (t : Table) where
    -- the live tables have the catalog of what is seen
    live_table : IsLazy lazy → is_legal_table (view_of lazy) t ≡ true → is_legal_table lazy.live t ≡ true
    live_table is legal =
        sym (table_by_catalog lazy.live t) ∙ ap (λ (c : Catalog). is_legal_table (without_rows c) t) (sym (same_catalog_seen lazy is))
        ∙ table_by_catalog (view_of lazy) t ∙ legal

    -- TABLE
    pub table_recorded : CanSettle lazy (NewTable t) → IsLazy lazy → (s : Statement) → IsSayable s → IsLeftBy (view_of lazy) s (NewTable t)
        → IsRecordOf lazy (record_of.Schema (schema.Table t)) (put_into lazy (NewTable t))
    table_recorded can is s sayable (bound, prepared, left) =
        let acts = table_behind (view_of lazy) s bound.action t left in
        record { shallow = tt; legal = live_table is (table_prepared (view_of lazy) s bound prepared t acts sayable); made = refl }

  module _ (i : IndexRule) where
    live_index : IsLazy lazy → is_legal_index (view_of lazy) i ≡ true → is_legal_index lazy.live i ≡ true
    live_index is legal =
        sym (index_by_catalog lazy.live i) ∙ ap (λ (c : Catalog). is_legal_index (without_rows c) i) (sym (same_catalog_seen lazy is))
        ∙ index_by_catalog (view_of lazy) i ∙ legal

    -- INDEX RULE
    pub index_recorded : CanSettle lazy (NewIndex i) → IsLazy lazy → (s : Statement) → IsSayable s → IsLeftBy (view_of lazy) s (NewIndex i)
        → IsRecordOf lazy (record_of.Schema (schema.Index i)) (put_into lazy (NewIndex i))
    index_recorded can is s sayable (bound, prepared, left) =
        let acts = index_behind (view_of lazy) s bound.action i left in
        record { shallow = tt; legal = live_index is (index_prepared (view_of lazy) s bound prepared i acts sayable); made = refl }

  -- FLIP: nothing is left to move, and nothing is objected
  pub flip_recorded : (plan : Plan) → CanSettle lazy (Flip plan) → IsLazy lazy → (s : Statement) → IsSayable s → IsLeftBy (view_of lazy) s (Flip plan)
      → IsRecordOf lazy (record_of.Flip plan.migrate) (put_into lazy (Flip plan))
  flip_recorded plan can is s sayable (bound, prepared, left) =
      let planned = planned_so (view_of lazy) false s bound plan prepared (flip_behind (view_of lazy) s bound.action plan left) in
      let said : IsSayable (statement.Migrate plan.migrate) = subst IsSayable planned.statement_is sayable in
      let may = can.puts.may in
      record {
        shallow = said.1;
        legal = and_from _ _ (and_from _ _ said.0 (ap (λ (gs : List Granule). is_empty gs) may.complete)) (ap (λ (rs : List Refusal). is_empty rs) may.unrefused);
        made = refl;
      }
