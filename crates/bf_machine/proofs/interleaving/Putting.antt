-- What a statement leaves, once its need has moved, can be put into the lazy state.
use Rattle.std.proofs.Common.{◌≡◌, Bool, true, false, List, [], ◌∷◌, ◌++◌, Option, Some, None, refl, sym, ap, subst, ◌∙◌, option_map, unwrap_or, inl, inr}
use Rattle.std.specs.Prelude.{option_and_then}
use Rattle.bf_base.specs.declared.table.Table.{Table}
use Rattle.bf_tree.specs.Limits.{IsNarrowIfMigrate}
use Rattle.bf_tree.specs.declared.bound.Action.{Action}
use Rattle.bf_tree.specs.declared.bound.Action.TheVariants as action
use Rattle.bf_tree.specs.declared.bound.Bound.{Bound}
use Rattle.bf_tree.specs.declared.plan.Plan.{Plan}
use Rattle.bf_tree.specs.declared.reply.Refusal.{Refusal}
use Rattle.bf_tree.specs.declared.statement.Statement.{Statement}
use Rattle.bf_tree.specs.declared.statement.Statement.TheVariants as statement
use Rattle.bf_sql.specs.Bound.{action_of, bound_of, catalog_of, changes_schema, is_planned, unless_objected}
use Rattle.bf_sql.specs.Database.{Database}
use Rattle.bf_sql.specs.Groups.{ends_block}
use Rattle.bf_sql.specs.Meaning.{executed}
use Rattle.bf_sql.specs.Objections.{objections}
use Rattle.bf_sql.specs.RowObjections.{row_objections}
use Rattle.bf_sql.specs.migrations.Lazy.{LazyState, view_of}
use Rattle.bf_sql.specs.migrations.MigrationObjections.{migrate_objections}
use Rattle.bf_sql.specs.migrations.Need.{needed_for}
use Rattle.bf_sql.specs.migrations.Plans.{plan_made, prepared_of}
use Rattle.bf_live.specs.Replies.{action_table}
use Rattle.bf_live.specs.Meanings.{IsBoundAs, writes_after}
use Rattle.bf_txn.specs.declared.write.Write.{Write}
use Rattle.bf_image.proofs.keeping.Prepared.{prepared_alike}
use Rattle.bf_live.specs.Live.{committed}
use Rattle.bf_live.specs.Open.{IsStep, writes_behind}
use Rattle.bf_live.proofs.locking.Reading.{parts_of}
use Rattle.bf_live.proofs.statements.Seeing.{same_catalog}
use Rattle.bf_store.specs.States.{HaveMoved, IsLazy, IsOpenLazily}
use Rattle.bf_store.proofs.changing.Flipping.{view_itself}
use Rattle.bf_store.proofs.seeing.Stepping.{step_is_seen, still_open}
use Rattle.bf_store.proofs.seeing.Viewing.{same_catalog_seen}
use Rattle.bf_machine.specs.interleaving.Groups.{Pending, Rows, NewTable, NewIndex, Flip, Nothing, flip_unless, pending_behind}
use Rattle.bf_machine.specs.interleaving.Kept.{CanBePutInto}
use Rattle.bf_machine.proofs.interleaving.Planning.{IsPlain, none_pending, planned_so, prepared_as_bound}
use Rattle.bf_machine.proofs.interleaving.Running.{IsCreate, from_objections, row_step}

-- what is bound on a table is not planned, and creates nothing
on_no_plan : (act : Action) (table : Table) → action_table act ≡ Some table → IsPlain act
on_no_plan (action.Migrate plan) table on = cc
on_no_plan other table on = tt

on_no_create : (act : Action) (table : Table) → action_table act ≡ Some table → IsCreate act → ⊥
on_no_create (action.CreateTable made) table on create = cc
on_no_create (action.CreateIndex index) table on create = cc
on_no_create other table on create = create

refused_on_none : (act : Action) (r : Refusal) (table : Table) → act ≡ action.Refused r → action_table act ≡ Some table → ⊥
refused_on_none act r table refused on =
    let none : None ≡ Some table = ap action_table (sym refused) ∙ on in
    cc

not_planned_on : (db : Database) (in_block : Bool) (s : Statement) (bound : Bound) (table : Table) → bound_of db in_block s ≡ Some bound → action_table bound.action ≡ Some table → is_planned in_block s ≡ false
not_planned_on db false (statement.Migrate m) bound table is on =
    absurd (elim (from_objections (objections db false (statement.Migrate m)) None bound.action
    (parts_of db.number true (unless_objected (objections db false (statement.Migrate m)) None) bound is).1) [
      | inl free ↦ let none : None ≡ Some bound.action = free.1 in cc
      | inr refused ↦ refused_on_none bound.action refused.0 table refused.3 on
    ])
not_planned_on db in_block s bound table is on = refl

-- what is bound on no table writes nothing
nothing_more : (seen : Database) (before : List Write) (in_block : Bool) (s : Statement) (bound : Bound) → bound_of seen in_block s ≡ Some bound → action_table bound.action ≡ None
    → writes_behind seen before in_block s ≡ before
nothing_more seen before in_block s bound is none =
    ap (λ (o : Option Bound). unwrap_or (option_and_then (λ bound. option_map (λ table. writes_after seen table before bound.action) (action_table bound.action)) o) before) is
    ∙ ap (λ (o : Option Table). unwrap_or (option_map (λ table. writes_after seen table before bound.action) o) before) none

module _ (lazy : LazyState) (is : IsLazy lazy) (in_block : Bool) (s : Statement) (goes_on : ends_block s ≡ false) (bound : Bound) (next : prepared_of (view_of lazy) in_block s ≡ Some bound)
    (moved : HaveMoved lazy.last (λ last. needed_for last.old last.migrate bound.action)) where
  -- it is bound in what each transaction sees, over the view and over the live tables
  bound_over : (db : Database) → catalog_of db ≡ catalog_of (view_of lazy) → IsPlain bound.action → bound_of db in_block s ≡ Some bound
  bound_over db same plain = prepared_as_bound db in_block s bound (prepared_alike db (view_of lazy) same in_block s ∙ next) plain

  -- A STATEMENT ON ROWS leaves its transaction open
  module _ (before : List Write) (opened : IsOpenLazily lazy before) (plain : IsPlain bound.action) where
    abbrev behind : Database → List Write
    behind db = writes_behind (committed db before) before in_block s

    bound_live : bound_of (committed lazy.live before) in_block s ≡ Some bound
    bound_live = bound_over (committed lazy.live before) (same_catalog lazy.live before ∙ sym (same_catalog_seen lazy is)) plain

    bound_seen : bound_of (committed (view_of lazy) before) in_block s ≡ Some bound
    bound_seen = bound_over (committed (view_of lazy) before) (same_catalog (view_of lazy) before) plain

    on_table : (table : Table) → action_table bound.action ≡ Some table → IsOpenLazily lazy (behind (view_of lazy))
    on_table table on =
        let live = committed lazy.live before in
        let parts = parts_of live.number (changes_schema in_block s) (unless_objected (objections live in_block s) (action_of live s)) bound bound_live in
        let free : (objections live in_block s ≡ []) × (action_of live s ≡ Some bound.action) = elim (from_objections (objections live in_block s) (action_of live s) bound.action parts.1) [
          | inl free ↦ free
          | inr refused ↦ absurd (refused_on_none bound.action refused.0 table refused.3 on)
        ] in
        let planned = not_planned_on live in_block s bound table bound_live on in
        let answer = (executed 0 live in_block s).0 in
        let step : IsStep lazy.live before (behind lazy.live) in_block s answer =
        row_step lazy.live is.live before opened.over_live in_block s goes_on bound bound_live (on_no_create bound.action table on) in
        let binds : IsBoundAs live in_block s bound.action = record { database = opened.over_live.database; admitted = free.0; action = free.1 } in
        let seen = step_is_seen lazy is before (behind lazy.live) opened in_block s planned bound.action table binds on moved answer step in
        subst (IsOpenLazily lazy) seen.writes
        (still_open lazy is before (behind lazy.live) opened in_block s planned bound.action table binds on moved answer step)

    pub rows_put : IsOpenLazily lazy (behind (view_of lazy))
    rows_put = elim (action_table bound.action) as (λ o. action_table bound.action ≡ o → IsOpenLazily lazy (behind (view_of lazy))) [
      | None ↦ λ none. subst (IsOpenLazily lazy) (sym (nothing_more (committed (view_of lazy) before) before in_block s bound bound_seen none)) opened
      | Some table ↦ λ on. on_table table on
    ] refl

  -- A MIGRATE that is planned can flip, unless the rows have something against it
  module _ (narrow : IsNarrowIfMigrate s) (plan : Plan) (e : bound.action ≡ action.Migrate plan) where
    flip_put : (rs : List Refusal) → row_objections (view_of lazy) (statement.Migrate plan.migrate) ≡ rs → CanBePutInto lazy (flip_unless rs plan)
    flip_put (r ∷ rs) rows = tt
    flip_put [] rows =
        let planned = planned_so (view_of lazy) in_block s bound plan next e in
        let none = none_pending lazy.last bound.action plan e moved in
        let live : view_of lazy ≡ lazy.live = view_itself lazy none in
        let m = statement.Migrate plan.migrate in
        let allowed : migrate_objections lazy.live plan.migrate ≡ [] = ap (λ (d : Database). migrate_objections d plan.migrate) (sym live) ∙ planned.allowed in
        let few : row_objections lazy.live m ≡ [] = ap (λ (d : Database). row_objections d m) (sym live) ∙ rows in
        record {
          may = record { complete = none; unrefused = ap (λ (rs : List Refusal). rs ++ row_objections lazy.live m) allowed ∙ few };
          planned = planned.made ∙ ap (λ (d : Database). plan_made d plan.migrate) live;
          narrow = subst IsNarrowIfMigrate planned.statement_is narrow;
        }

  -- WHAT IS PENDING behind it can be put
  module _ (narrow : IsNarrowIfMigrate s) where
    by_action : (before : List Write) → IsOpenLazily lazy before → (act : Action) → bound.action ≡ act → CanBePutInto lazy (pending_behind (view_of lazy) (Rows before) in_block s act)
    by_action before opened (action.CreateTable table) e = tt
    by_action before opened (action.CreateIndex index) e = tt
    by_action before opened (action.Migrate plan) e = flip_put narrow plan e (row_objections (view_of lazy) (statement.Migrate plan.migrate)) refl
    by_action before opened other e = rows_put before opened (subst IsPlain (sym e) tt)

    pub next_puts : (before : Pending) → CanBePutInto lazy before → CanBePutInto lazy (pending_behind (view_of lazy) before in_block s bound.action)
    next_puts (Rows before) puts = by_action before puts bound.action refl
    next_puts (NewTable table) puts = puts
    next_puts (NewIndex index) puts = puts
    next_puts (Flip plan) puts = puts
    next_puts Nothing puts = puts
