-- Databases that agree on a statement's footprint bind it alike, and what it leaves.
use Rattle.std.proofs.Common.{◌≡◌, ℕ, Bool, true, if◌then◌else◌, List, [], ◌∷◌, ◌++◌, Option, Some, None, option_map, unwrap_or, refl, sym, ap, ap₂, subst, ◌∙◌, inl, inr, arith}
use Rattle.std.specs.Prelude.{option_and_then}
use Rattle.std.specs.List.{list_all}
use Rattle.std.proofs.lemmas.Bool.{and_parts, cases_Bool}
use Rattle.std.proofs.lemmas.Option.{same_Some}
use Rattle.bf_base.specs.declared.value.Value.{Value}
use Rattle.bf_base.specs.declared.table.Table.{Table}
use Rattle.bf_tree.specs.declared.bound.Action.{Action}
use Rattle.bf_tree.specs.declared.bound.Action.TheVariants as action
use Rattle.bf_tree.specs.declared.bound.Bound.{Bound}
use Rattle.bf_tree.specs.declared.reply.Refusal.{Refusal}
use Rattle.bf_tree.specs.declared.statement.Statement.{Statement}
use Rattle.bf_sql.specs.Bound.{action_of, bound_of, changes_schema, unless_objected, catalog_of}
use Rattle.bf_sql.specs.Database.{Database, IsDatabase}
use Rattle.bf_sql.specs.Meaning.{effect, executed, unless_refused}
use Rattle.bf_sql.specs.Objections.{objections}
use Rattle.bf_sql.specs.RowObjections.{row_objections}
use Rattle.bf_live.specs.Live.{committed}
use Rattle.bf_txn.specs.declared.write.Write.{Write}
use Rattle.bf_live.specs.Replies.{IsChange, objections_on, action_table, writes_of, written}
use Rattle.bf_live.specs.Meanings.{IsBoundAs, writes_after}
use Rattle.bf_live.proofs.querying.AsWritten.{select_law}
use Rattle.bf_live.specs.Open.{IsOpen, writes_behind}
use Rattle.bf_live.proofs.statements.Committing.{committed_means, stays_open}
use Rattle.bf_sql.specs.Agreement.{AgreeOn}
use Rattle.bf_sql.specs.Footprints.{action_locks, catalog_change, catalog_read, footprint_of}
use Rattle.bf_live.specs.FootprintLaw.{BindsAs, rows_of, written_behind}
use Rattle.bf_live.proofs.locking.Alike.{action_alike, objections_alike}
use Rattle.bf_live.proofs.locking.Placing.{is_on_rows, not_by_place, objects_else, reads_catalog}
use Rattle.bf_live.proofs.locking.Reading.{by_place, not_planned, of_action, of_change, on_a_table, parts_of, rows_are, same_catalog}

-- with the same footprint then
pub same_footprint : (one other : Bound) → one.action ≡ other.action → one.schema_change ≡ other.schema_change → footprint_of one ≡ footprint_of other
same_footprint one other act schema = ap₂ (λ (b : Bool) (a : Action). if b then catalog_change else action_locks a) schema act

as_bound : (db : Database) (in_block : Bool) (s : Statement) (bound : Bound) → bound.schema_change ≡ changes_schema in_block s → unless_objected (objections db in_block s) (action_of db s) ≡ Some bound.action → BindsAs db in_block s bound
as_bound db in_block s bound schema is = record {
  here = record { catalog = db.number; schema_change = changes_schema in_block s; action = bound.action };
  is = ap (option_map (λ act. record { catalog = db.number; schema_change = changes_schema in_block s; action = act })) is;
  action = refl;
  schema = sym schema;
}

-- a statement on rows reads the catalog, refused or not
pub rows_catalog : (a b : Database) (in_block : Bool) (s : Statement) (act : Action) → is_on_rows s ≡ true → unless_objected (objections a in_block s) (action_of a s) ≡ Some act → AgreeOn a b (action_locks act) → catalog_of a ≡ catalog_of b
rows_catalog a b in_block s act on is agree =
    elim (objections a in_block s) as (λ rs. objections a in_block s ≡ rs → unless_objected rs (action_of a s) ≡ Some act → catalog_of a ≡ catalog_of b) [
      | [] ↦ λ none is.
          let (table, of) = on_a_table a s act on is in
          same_catalog a b act table of agree
      | r ∷ rs ↦ λ are is.
          let same : action.Refused r ≡ act = same_Some _ act is in
          let else_ : not_by_place r ≡ true = (and_parts _ _ (ap (list_all not_by_place) (sym are) ∙ objects_else a in_block s on)).0 in
          let agree_r : AgreeOn a b (action_locks (action.Refused r)) = subst (λ (x : Action). AgreeOn a b (action_locks x)) (sym same) agree in
          let agree_c : AgreeOn a b (catalog_read ∷ []) = subst (AgreeOn a b) (reads_catalog r else_) agree_r in
          agree_c 0 catalog_read (omega arith)
    ] refl is

-- the same action in the other database
there_too : (a b : Database) (in_block : Bool) (s : Statement) (act : Action) → is_on_rows s ≡ true → catalog_of a ≡ catalog_of b → unless_objected (objections a in_block s) (action_of a s) ≡ Some act
    → unless_objected (objections b in_block s) (action_of b s) ≡ Some act
there_too a b in_block s act on same is =
    sym (ap₂ (λ (rs : List Refusal) (o : Option Action). unless_objected rs o) (objections_alike a b same in_block s (not_planned in_block s on)) (action_alike a b same s)) ∙ is

pub binds_alike : (a b : Database) (in_block : Bool) (s : Statement) (bound : Bound) → bound_of a in_block s ≡ Some bound → AgreeOn a b (footprint_of bound) → BindsAs b in_block s bound
binds_alike a b in_block s bound is agree =
    let parts = parts_of a.number (changes_schema in_block s) (unless_objected (objections a in_block s) (action_of a s)) bound is in
    elim (cases_Bool (changes_schema in_block s)) [
      | inl schema ↦
          let whole : AgreeOn a b catalog_change = subst (AgreeOn a b) (of_change bound (parts.0 ∙ schema)) agree in
          let same : a ≡ b = whole 0 catalog_read (omega arith) in
          record { here = bound; is = ap (λ (db : Database). bound_of db in_block s) (sym same) ∙ is; action = refl; schema = refl }
      | inr plain ↦
          let on_action : AgreeOn a b (action_locks bound.action) = subst (AgreeOn a b) (of_action bound (parts.0 ∙ plain)) agree in
          elim (cases_Bool (is_on_rows s)) [
            | inl on ↦ as_bound b in_block s bound parts.0 (there_too a b in_block s bound.action on (rows_catalog a b in_block s bound.action on parts.1 on_action) parts.1)
            | inr off ↦ as_bound b in_block s bound parts.0 (by_place a b in_block s bound.action off plain parts.1).bound
          ]
    ]

-- an action on no table, and a SELECT, write nothing
leaves_writes : (act : Action) → action_table act ≡ None → (rows : List (List Value)) (before : List Write) → written (objections_on rows act) before (writes_of rows act) ≡ before
leaves_writes (action.Insert t tuples) none rows before = absurd cc
leaves_writes (action.Select t items c fixed) none rows before = absurd cc
leaves_writes (action.Update t sets c fixed) none rows before = absurd cc
leaves_writes (action.Delete t c fixed) none rows before = absurd cc
leaves_writes other none rows before = refl

-- the writes behind a statement are those behind its action
pub behind_is : (db : Database) (in_block : Bool) (s : Statement) (bound : Bound) → bound_of db in_block s ≡ Some bound → (before : List Write) → writes_behind db before in_block s ≡ written_behind db bound.action before
behind_is db in_block s bound is before =
    let act = bound.action in
    ap (λ (o : Option Bound). unwrap_or (option_and_then (λ bound. option_map (λ table. writes_after db table before bound.action) (action_table bound.action)) o) before) is
    ∙ elim (action_table act) as (λ o. action_table act ≡ o → unwrap_or (option_map (λ table. writes_after db table before act) o) before ≡ written_behind db act before) [
      | None ↦ λ none. sym (leaves_writes act none (rows_of db act) before)
      | Some table ↦ λ on. sym (ap (λ (rows : List (List Value)). written (objections_on rows act) before (writes_of rows act)) (rows_are db act (Some table) on))
    ] refl

-- WHAT A STATEMENT LEAVES, on the rows that an open transaction sees
module _ (db : Database) (before : List Write) (is : IsDatabase db) (opened : IsOpen db before) (in_block : Bool) (s : Statement) where
  abbrev seen : Database
  seen = committed db before

  -- the database that it means is what the transaction sees behind it, and the transaction stays open
  pub record Leaves (after : List Write) : Type 0 where
    pub means : (commit : ℕ) → (executed commit seen in_block s).1 ≡ committed db after
    pub is_open : IsOpen db after

  as_before : (after : List Write) → after ≡ before → ((commit : ℕ) → (executed commit seen in_block s).1 ≡ seen) → Leaves after
  as_before after same stays = record {
    means = λ commit. stays commit ∙ ap (committed db) (sym same);
    is_open = subst (IsOpen db) (sym same) opened;
  }

  select_writes : (rs : List Refusal) → written rs before [] ≡ before
  select_writes [] = refl
  select_writes (r ∷ rs) = refl

  change_leaves : (act : Action) (table : Table) → IsChange act → action_table act ≡ Some table → IsBoundAs seen in_block s act → (after : List Write) → after ≡ written_behind seen act before → Leaves after
  change_leaves act table change on bound after made =
      let same : writes_after seen table before act ≡ after =
      sym (made ∙ ap (λ (rows : List (List Value)). written (objections_on rows act) before (writes_of rows act)) (rows_are seen act (Some table) on)) in
      record {
        means = λ commit. sym (committed_means db before is opened in_block s act table bound change on commit) ∙ ap (committed db) same;
        is_open = subst (IsOpen db) same (stays_open db before is opened in_block s act table bound change on);
      }

  bound_leaves : (act : Action) (table : Table) → action_table act ≡ Some table → IsBoundAs seen in_block s act → (after : List Write) → after ≡ written_behind seen act before → Leaves after
  bound_leaves (action.Select t items c fixed) table on bound after made =
      let act = action.Select t items c fixed in
      as_before after (made ∙ select_writes (objections_on (rows_of seen act) act)) (λ commit. (select_law commit seen in_block s act table bound tt on).1)
  bound_leaves (action.Insert t tuples) table on bound after made = change_leaves (action.Insert t tuples) table tt on bound after made
  bound_leaves (action.Update t sets c fixed) table on bound after made = change_leaves (action.Update t sets c fixed) table tt on bound after made
  bound_leaves (action.Delete t c fixed) table on bound after made = change_leaves (action.Delete t c fixed) table tt on bound after made
  bound_leaves other table on bound after made = absurd cc

  pub rows_leave : (act : Action) → is_on_rows s ≡ true → unless_objected (objections seen in_block s) (action_of seen s) ≡ Some act → (after : List Write) → after ≡ written_behind seen act before → Leaves after
  rows_leave act on is_act after made =
      elim (objections seen in_block s) as (λ rs. objections seen in_block s ≡ rs → unless_objected rs (action_of seen s) ≡ Some act → Leaves after) [
        | [] ↦ λ none is_act.
            let (table, of) = on_a_table seen s act on is_act in
            bound_leaves act table of (record { database = opened.database; admitted = none; action = is_act }) after made
        | r ∷ rs ↦ λ are is_act.
            let none : action_table act ≡ None = ap action_table (sym (same_Some (action.Refused r) act is_act)) in
            as_before after (made ∙ leaves_writes act none (rows_of seen act) before)
            (λ commit. ap (λ (all : List Refusal). (unless_refused (all ++ row_objections seen s) seen (λ _. effect commit seen s)).1) are)
      ] refl is_act

  pub place_leaves : (act : Action) → action_table act ≡ None → ((commit : ℕ) → (executed commit seen in_block s).1 ≡ seen) → (after : List Write) → after ≡ written_behind seen act before → Leaves after
  place_leaves act none stays after made = as_before after (made ∙ leaves_writes act none (rows_of seen act) before) stays
