-- A statement writes what its footprint has in X.
use Rattle.std.proofs.Common.{◌≡◌, ℕ, Bool, true, false, cond, if◌then◌else◌, List, [], ◌∷◌, ◌++◌, map, filter, Option, Some, None, refl, sym, ap, subst, ◌∙◌, inl, inr, arith}
use Rattle.std.specs.Prelude.{Contains}
use Rattle.std.specs.List.{All, AllByRecursion}
use Rattle.std.proofs.lemmas.Bool.{cases_Bool}
use Rattle.std.proofs.lemmas.Option.{same_Some}
use Rattle.bf_base.specs.declared.value.Value.{Value}
use Rattle.bf_base.specs.declared.table.Table.{Table}
use Rattle.bf_base.specs.Lists.{same_name}
use Rattle.bf_base.specs.Tables.{cell, key_of}
use Rattle.bf_tree.specs.Evaluation.{holds_on}
use Rattle.bf_tree.specs.Trees.{Cond}
use Rattle.bf_locks.specs.declared.mode.Mode.TheVariants.{IX, X}
use Rattle.bf_locks.specs.declared.name.LockName.TheVariants.{Catalog, Whole, One}
use Rattle.bf_tree.specs.declared.bound.Action.{Action}
use Rattle.bf_tree.specs.declared.bound.Action.TheVariants as action
use Rattle.bf_tree.specs.declared.bound.Bound.{Bound}
use Rattle.bf_tree.specs.declared.reply.Refusal.{Refusal}
use Rattle.bf_tree.specs.declared.reply.Reply.{Reply}
use Rattle.bf_tree.specs.declared.statement.Statement.{Statement}
use Rattle.bf_tree.specs.declared.statement.Statement.TheVariants.{CreateTable, CreateIndex, Insert, Select, Update, Delete, Begin, Commit, Rollback, Migrate}
use Rattle.bf_sql.specs.Bound.{action_of, changes_schema, unless_objected, catalog_of}
use Rattle.bf_sql.specs.Conditions.{fixed_key}
use Rattle.bf_sql.specs.Database.{Database, Stored, IsDatabase, with_rows}
use Rattle.bf_sql.specs.Meaning.{effect, executed, unless_refused}
use Rattle.bf_sql.specs.Objections.{objections}
use Rattle.bf_sql.specs.Queries.{changed}
use Rattle.bf_sql.specs.RowObjections.{row_objections}
use Rattle.bf_txn.specs.declared.write.Write.{Write}
use Rattle.bf_live.specs.Replies.{IsWellBound, action_table, write_of, writes_of}
use Rattle.bf_live.proofs.querying.Binding.{well_bound}
use Rattle.bf_sql.proofs.FixedKey.{key_held}
use Rattle.bf_live.proofs.querying.OwnKeys.{each}
use Rattle.bf_sql.specs.Footprints.{HasKeys, Lock, action_locks, catalog_read, change_locks, footprint_of, in_key_order, insert_locks}
use Rattle.bf_live.specs.FootprintLaw.{IsBoundIn, IsLocked, IsLockedChange, rows_of}
use Rattle.bf_live.proofs.locking.Elements.{behind, here, in_order_has_each, mapped}
use Rattle.bf_live.proofs.locking.Reading.{of_action, of_change, parts_of}

module _ (P : Write → Type 0) (f : List Value → Write) where
  -- what is true of the write of each row that a test picks
  of_picked : (test : List Value → Bool) → ((row : List Value) → test row ≡ true → P (f row)) → (rows : List (List Value)) → AllByRecursion P (map f (filter test rows))
  of_picked test so [] = tt
  of_picked test so (row ∷ rows) = elim (test row) as (λ b. test row ≡ b → AllByRecursion P (map f (cond b (row ∷ filter test rows) (filter test rows)))) [
    | true ↦ λ e. (so row e, of_picked test so rows)
    | false ↦ λ e. of_picked test so rows
  ] refl

  of_keys : (Q : List Value → Type 0) (table : Table) → ((row : List Value) → Q (key_of table row) → P (f row)) → (rows : List (List Value)) → AllByRecursion Q (map (key_of table) rows) → AllByRecursion P (map f rows)
  of_keys Q table so [] all = tt
  of_keys Q table so (row ∷ rows) all = (so row all.0, of_keys Q table so rows all.1)

module _ (table : Table) where
  change_locked : (c : Cond ℕ) (fixed : Option (List Value)) → fixed ≡ fixed_key table c → (new : List Value → Option (List Value)) (row : List Value) → holds_on (cell row) c ≡ true
      → IsLocked (change_locks table fixed) (write_of table (key_of table row) (new row))
  change_locked c (Some key) is new row holds =
      let locks = change_locks table (Some key) in
      let held : key_of table row ≡ key = key_held row table c key (sym is) holds in
      let one : Contains locks (One table.name key, X) = (2, omega arith, refl) in
      record {
        catalog = (0, omega arith, refl);
        place = inr ((1, omega arith, refl), subst (λ (k : List Value). Contains locks (One table.name k, X)) (sym held) one);
      }
  change_locked c None is new row holds = record { catalog = (0, omega arith, refl); place = inl (1, omega arith, refl) }

  changes_locked : (c : Cond ℕ) (fixed : Option (List Value)) → fixed ≡ fixed_key table c → (new : List Value → Option (List Value)) (rows : List (List Value))
      → AllByRecursion (IsLocked (change_locks table fixed)) (map (λ row. write_of table (key_of table row) (new row)) (filter (λ row. holds_on (cell row) c) rows))
  changes_locked c fixed is new rows =
      of_picked (IsLocked (change_locks table fixed)) (λ row. write_of table (key_of table row) (new row)) (λ row. holds_on (cell row) c) (change_locked c fixed is new) rows

  inserts_locked : (tuples : List (List Value)) → AllByRecursion (IsLocked (insert_locks table tuples)) (map (λ tuple. write_of table (key_of table tuple) (Some tuple)) tuples)
  inserts_locked tuples =
      let keys = map (key_of table) tuples in
      let on_keys : List Lock = map (λ key. (One table.name key, X)) (in_key_order keys) in
      let locks = insert_locks table tuples in
      let HasKey : List Value → Type 0 = λ key. Contains locks (One table.name key, X) in
      of_keys (IsLocked locks) (λ tuple. write_of table (key_of table tuple) (Some tuple)) HasKey table
      (λ tuple has. record { catalog = here catalog_read ((Whole table.name, IX) ∷ on_keys); place = inr (behind catalog_read (Whole table.name, IX) ((Whole table.name, IX) ∷ on_keys) (here (Whole table.name, IX) on_keys), has) })
      tuples
      (in_order_has_each keys HasKey (λ key has.
      let lock : Lock = (One table.name key, X) in
      behind catalog_read lock ((Whole table.name, IX) ∷ on_keys) (behind (Whole table.name, IX) lock on_keys (mapped (λ (k : List Value). (One table.name k, X)) (in_key_order keys) key has))))

-- each write of an action is locked
writes_locked : (act : Action) → IsWellBound act → (rows : List (List Value)) → AllByRecursion (IsLocked (action_locks act)) (writes_of rows act)
writes_locked (action.Insert t tuples) bound rows = inserts_locked t tuples
writes_locked (action.Select t items c fixed) bound rows = tt
writes_locked (action.Update t sets c fixed) bound rows = changes_locked t c fixed bound (λ row. Some (changed cell (λ place. place) sets row)) rows
writes_locked (action.Delete t c fixed) bound rows = changes_locked t c fixed bound (λ row. None) rows
writes_locked other bound rows = tt

-- an action on no table writes no rows
pub no_writes : (act : Action) → action_table act ≡ None → (rows : List (List Value)) → writes_of rows act ≡ []
no_writes (action.Insert t tuples) none rows = absurd cc
no_writes (action.Update t sets c fixed) none rows = absurd cc
no_writes (action.Delete t c fixed) none rows = absurd cc
no_writes other none rows = refl

-- what a statement is bound to is well bound
pub is_well_bound : (db : Database) (in_block : Bool) (s : Statement) (act : Action) → IsDatabase db → unless_objected (objections db in_block s) (action_of db s) ≡ Some act → IsWellBound act
is_well_bound db in_block s act database is =
    elim (objections db in_block s) as (λ rs. objections db in_block s ≡ rs → unless_objected rs (action_of db s) ≡ Some act → IsWellBound act) [
      | [] ↦ λ none is. well_bound db in_block s act (record { database = database; admitted = none; action = is })
      | r ∷ rs ↦ λ are is. subst IsWellBound (same_Some (action.Refused r) act is) tt
    ] refl is

has_keys : (act : Action) → IsWellBound act → HasKeys act
has_keys (action.Insert t tuples) bound = bound
has_keys other bound = tt

pub bound_has_keys : (db : Database) (in_block : Bool) (s : Statement) (bound : Bound) → IsBoundIn db in_block s bound → HasKeys bound.action
bound_has_keys db in_block s bound within =
    let parts = parts_of db.number (changes_schema in_block s) (unless_objected (objections db in_block s) (action_of db s)) bound within.is in
    has_keys bound.action (is_well_bound db in_block s bound.action within.database parts.1)

-- a schema change is on no table's rows
no_table : (rs : List Refusal) (o : Option Action) (act : Action) → ((a : Action) → o ≡ Some a → action_table a ≡ None) → unless_objected rs o ≡ Some act → action_table act ≡ None
no_table [] o act so is = so act is
no_table (r ∷ rs) o act so is = ap action_table (sym (same_Some (action.Refused r) act is))

pub schema_has_no_table : (db : Database) (in_block : Bool) (s : Statement) (act : Action) → changes_schema in_block s ≡ true → unless_objected (objections db in_block s) (action_of db s) ≡ Some act → action_table act ≡ None
schema_has_no_table db in_block (CreateTable name rules key) act schema is = no_table _ _ act (λ a is_a. ap action_table (sym (same_Some _ a is_a))) is
schema_has_no_table db in_block (CreateIndex name table columns) act schema is = no_table _ _ act (λ a is_a. ap action_table (sym (same_Some _ a is_a))) is
schema_has_no_table db in_block (Migrate migrate) act schema is = no_table (objections db in_block (Migrate migrate)) None act (λ a is_a. absurd cc) is
schema_has_no_table db in_block other act schema is = absurd cc

-- other rows leave the catalog
same_catalog : (db : Database) (name : List ℕ) (rows : List (List Value)) → catalog_of (with_rows db name rows) ≡ catalog_of db
same_catalog db name rows = ap (λ (tables : List Table). record { number = db.number; tables = tables; indexes = db.indexes }) (tables_same db.tables)
  where
    tables_same : (tables : List Stored) → map (λ s. s.table) (map (λ (s : Stored). if same_name s.table.name name then record s { rows = rows } else s) tables) ≡ map (λ s. s.table) tables
    tables_same [] = refl
    tables_same (s ∷ tables) = elim (same_name s.table.name name) as (λ b. (if b then record s { rows = rows } else s).table ∷ map (λ s. s.table) (map (λ (s : Stored). if same_name s.table.name name then record s { rows = rows } else s) tables) ≡ s.table ∷ map (λ s. s.table) tables) [
      | true ↦ ap (λ (ts : List Table). s.table ∷ ts) (tables_same tables)
      | false ↦ ap (λ (ts : List Table). s.table ∷ ts) (tables_same tables)
    ]

unless : (rs : List Refusal) (db : Database) (out : Reply × Database) → catalog_of out.1 ≡ catalog_of db → catalog_of (unless_refused rs db (λ _. out)).1 ≡ catalog_of db
unless [] db out same = same
unless (r ∷ rs) db out same = refl

catalog_stays : (commit : ℕ) (db : Database) (in_block : Bool) (s : Statement) → changes_schema in_block s ≡ false → catalog_of (executed commit db in_block s).1 ≡ catalog_of db
catalog_stays commit db true (CreateTable name rules key) plain = refl
catalog_stays commit db true (CreateIndex name table columns) plain = refl
catalog_stays commit db true (Migrate migrate) plain = refl
catalog_stays commit db false (CreateTable name rules key) plain = absurd cc
catalog_stays commit db false (CreateIndex name table columns) plain = absurd cc
catalog_stays commit db false (Migrate migrate) plain = absurd cc
catalog_stays commit db in_block (Insert name tuples) plain = unless (objections db in_block (Insert name tuples) ++ row_objections db (Insert name tuples)) db (effect commit db (Insert name tuples)) (same_catalog db name _)
catalog_stays commit db in_block (Update name sets c) plain = unless (objections db in_block (Update name sets c) ++ row_objections db (Update name sets c)) db (effect commit db (Update name sets c)) (same_catalog db name _)
catalog_stays commit db in_block (Delete name c) plain = unless (objections db in_block (Delete name c) ++ row_objections db (Delete name c)) db (effect commit db (Delete name c)) (same_catalog db name _)
catalog_stays commit db in_block (Select list name c) plain = unless (objections db in_block (Select list name c) ++ row_objections db (Select list name c)) db (effect commit db (Select list name c)) refl
catalog_stays commit db in_block Begin plain = unless (objections db in_block Begin ++ row_objections db Begin) db (effect commit db Begin) refl
catalog_stays commit db in_block Commit plain = unless (objections db in_block Commit ++ row_objections db Commit) db (effect commit db Commit) refl
catalog_stays commit db in_block Rollback plain = unless (objections db in_block Rollback ++ row_objections db Rollback) db (effect commit db Rollback) refl

pub writes_footprint : (db : Database) (in_block : Bool) (s : Statement) (bound : Bound) → IsBoundIn db in_block s bound → IsLockedChange db in_block s bound
writes_footprint db in_block s bound within =
    let parts = parts_of db.number (changes_schema in_block s) (unless_objected (objections db in_block s) (action_of db s)) bound within.is in
    elim (cases_Bool (changes_schema in_block s)) [
      | inl schema ↦
          let locks = of_change bound (parts.0 ∙ schema) in
          let none = no_writes bound.action (schema_has_no_table db in_block s bound.action schema parts.1) (rows_of db bound.action) in
          record {
            rows = subst (λ (ws : List Write). All (IsLocked (footprint_of bound)) ws) (sym none) (λ k d below. absurd (omega arith));
            catalog = λ commit. inl (subst (λ (l : List Lock). Contains l (Catalog, X)) (sym locks) (here (Catalog, X) []));
          }
      | inr plain ↦
          let locks = of_action bound (parts.0 ∙ plain) in
          let all = writes_locked bound.action (is_well_bound db in_block s bound.action within.database parts.1) (rows_of db bound.action) in
          record {
            rows = subst (λ (l : List Lock). All (IsLocked l) (writes_of (rows_of db bound.action) bound.action)) (sym locks) (each (IsLocked (action_locks bound.action)) (writes_of (rows_of db bound.action) bound.action) all);
            catalog = λ commit. inr (catalog_stays commit db in_block s plain);
          }
    ]
