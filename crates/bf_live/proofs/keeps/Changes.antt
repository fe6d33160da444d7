-- A change of a table's rows: INSERT, UPDATE and DELETE, in a block or outside.
use Rattle.std.proofs.Common.{◌≡◌, ℕ, Bool, true, List, [], ◌∷◌, map, fold, Option, Some, None, refl, sym, ap, subst, ◌∙◌}
use Rattle.std.specs.List.{AllByRecursion}
use Rattle.std.proofs.lemmas.Option.{same_Some}
use Rattle.bf_base.specs.declared.value.Value.{Value}
use Rattle.bf_base.specs.declared.table.Table.{Table}
use Rattle.bf_base.specs.Lists.{rises, same_name}
use Rattle.bf_base.specs.Tables.{cell, key_of}
use Rattle.bf_base.specs.Values.{key_cmp}
use Rattle.bf_base.proofs.Parts.{list_all_each}
use Rattle.bf_tree.specs.declared.raw.Ref.{Ref}
use Rattle.bf_tree.specs.Evaluation.{holds_on}
use Rattle.bf_tree.specs.Trees.{Expr, Cond}
use Rattle.bf_heap.specs.Heaps.{Entry, key_of_entry}
use Rattle.bf_tree.specs.declared.bound.Action.{Action}
use Rattle.bf_tree.specs.declared.bound.Action.TheVariants as action
use Rattle.bf_tree.specs.declared.reply.Refusal.{Refusal}
use Rattle.bf_tree.specs.declared.statement.Statement.{Statement}
use Rattle.bf_tree.specs.declared.statement.Statement.TheVariants as statement
use Rattle.bf_sql.specs.Bound.{cond_in, set_in}
use Rattle.bf_sql.specs.Conditions.{fixed_key}
use Rattle.bf_sql.specs.Database.{Database, IsDatabase, is_admitted, is_keyed, stored_at, table_at, table_rows}
use Rattle.bf_sql.specs.Meaning.{executed}
use Rattle.bf_sql.specs.Objections.{objections}
use Rattle.bf_sql.specs.Queries.{changed, selected}
use Rattle.bf_txn.specs.declared.write.Write.{Write}
use Rattle.bf_txn.specs.Writes.{table_key_cmp, table_key_of, with_write, writes_to}
use Rattle.bf_live.specs.Replies.{IsChange, objections_on, action_table, write_of, writes_of, written}
use Rattle.bf_live.specs.Meanings.{HoldRowsOf, IsBoundAs, entries_of, rows_after, writes_after}
use Rattle.bf_live.specs.Merged.{entries_under}
use Rattle.bf_live.proofs.querying.AsWritten.{database_law}
use Rattle.bf_live.proofs.querying.Binding.{as_stored, insert_found, rows_admitted, stored_table}
use Rattle.bf_live.proofs.querying.Held.{own_held}
use Rattle.bf_live.proofs.querying.Keyed.{is_map-fold}
use Rattle.bf_live.proofs.querying.Merging.{rows_of}
use Rattle.bf_live.proofs.querying.OwnKeys.{OwnKeys, filtered, fold_keeps, own_keys, with_one_more}
use Rattle.bf_live.proofs.querying.RowsAsEntries.{hold_rows}
use Rattle.bf_live.proofs.keeps.Admitted.{IsAdmitted, changed_admitted, tuples_admitted}
use Rattle.bf_live.proofs.keeps.Items.{each_passes}
use Rattle.bf_live.proofs.keeps.Rows.{keeps_with_rows}

-- the row that is written, if one is
abbrev WritesAdmitted : Table → Write → Type 0
WritesAdmitted table write = (row : List Value) → write.row ≡ Some row → IsAdmitted table row

-- what is true of each write is true of each write of a transaction
kept_with : (P : Write → Type 0) (writes more : List Write) → AllByRecursion P writes → AllByRecursion P more
    → AllByRecursion P (fold with_write writes more)
kept_with P writes [] all new = all
kept_with P writes (w ∷ more) all new = kept_with P (with_write writes w) more (with_one_more table_key_cmp table_key_of P writes w all new.0) new.1

unless_objected : (P : Write → Type 0) (rs : List Refusal) (more : List Write) → (rs ≡ [] → AllByRecursion P more)
    → AllByRecursion P (written rs [] more)
unless_objected P [] more all = kept_with P [] more tt (all refl)
unless_objected P (r ∷ rs) more all = tt

module _ (table : Table) where
  -- rows that stand under their own keys have those keys
  keys_of_rows : (entries : List Entry) → OwnKeys table entries
      → map (key_of table) (rows_of entries) ≡ map key_of_entry entries
  keys_of_rows [] own = refl
  keys_of_rows (e ∷ entries) own =
      ap (λ (key : List Value). key ∷ map (key_of table) (rows_of entries)) own.0.1 ∙ ap (λ (keys : List (List Value)). e.0 ∷ keys) (keys_of_rows entries own.1)

  as_entries : (rows : List (List Value)) → AllByRecursion (IsAdmitted table) rows
      → AllByRecursion (λ e. IsAdmitted table e.1) (entries_of table rows)
  as_entries [] all = tt
  as_entries (row ∷ rows) all = (all.0, as_entries rows all.1)

  as_rows : (entries : List Entry) → AllByRecursion (λ e. IsAdmitted table e.1) entries
      → AllByRecursion (IsAdmitted table) (rows_of entries)
  as_rows [] all = tt
  as_rows (e ∷ entries) all = (all.0, as_rows entries all.1)

  -- the writes of new rows, each for a row
  writes_admitted : (new : List Value → List Value) (rows : List (List Value))
      → AllByRecursion (λ row. IsAdmitted table (new row)) rows
      → AllByRecursion (WritesAdmitted table) (map (λ row. write_of table (key_of table row) (Some (new row))) rows)
  writes_admitted new [] all = tt
  writes_admitted new (row ∷ rows) all = ((λ put is. subst (IsAdmitted table) (same_Some (new row) put is) all.0), writes_admitted new rows all.1)

  -- the writes that remove rows
  removals_admitted : (rows : List (List Value))
      → AllByRecursion (WritesAdmitted table) (map (λ row. write_of table (key_of table row) None) rows)
  removals_admitted [] = tt
  removals_admitted (row ∷ rows) = ((λ put is. absurd cc), removals_admitted rows)

-- where a table admits each row that a change writes, it leaves a database
module _ (commit : ℕ) (db : Database) (in_block : Bool) (s : Statement) (act : Action) (table : Table) (bound : IsBoundAs db in_block s act) (is : IsChange act) (on : action_table act ≡ Some table) where
  abbrev rows : List (List Value)
  rows = table_rows db table.name

  abbrev entries : List Entry
  entries = entries_of table rows

  abbrev writes : List Write
  writes = writes_after db table [] act

  stored : stored_at db table.name ≡ Some (as_stored table rows)
  stored = stored_table db in_block s act table bound on

  before : HoldRowsOf db table entries []
  before = hold_rows db table bound.database stored

  keyed : is_keyed (as_stored table (rows_after db table entries [] act)) ≡ true
  keyed =
      let after = own_held commit db in_block s act table bound is on entries [] before in
      let own = own_keys table entries writes after.under_own_keys in
      ap (rises key_cmp) (keys_of_rows table (entries_under entries writes table.name) own) ∙ is_map-fold (writes_to table.name writes) entries after.entries_by_key

  pub rows_admitted_before : AllByRecursion (IsAdmitted table) rows
  rows_admitted_before = each_passes (is_admitted table) rows (rows_admitted db bound.database table rows stored)

  pub keeps_change : (objections_on rows act ≡ [] → AllByRecursion (WritesAdmitted table) (writes_of rows act))
      → IsDatabase (executed commit db in_block s).1
  keeps_change fine =
      let written = unless_objected (WritesAdmitted table) (objections_on rows act) (writes_of rows act) fine in
      let to_table = filtered (WritesAdmitted table) (λ w. same_name w.table table.name) writes written in
      let all = fold_keeps (λ e. IsAdmitted table e.1) (writes_to table.name writes) entries (as_entries table rows rows_admitted_before) to_table in
      let admitted = list_all_each (IsAdmitted table) (is_admitted table) (λ row a. a) (rows_after db table entries [] act) (as_rows table (entries_under entries writes table.name) all) in
      let kept = keeps_with_rows db table.name (rows_after db table entries [] act) (as_stored table rows) bound.database stored keyed admitted in
      subst IsDatabase (sym (database_law commit db in_block s act table entries [] bound is on before)) kept

module _ (commit : ℕ) (db : Database) (in_block : Bool) (database : IsDatabase db) (name : List ℕ) where
  abbrev table : Table
  table = table_at db name

  abbrev held : List (List Value)
  held = table_rows db table.name

  -- INSERT
  pub keeps_insert : (tuples : List (List Value)) → objections db in_block (statement.Insert name tuples) ≡ []
      → IsDatabase (executed commit db in_block (statement.Insert name tuples)).1
  keeps_insert tuples none =
      let act = action.Insert table tuples in
      let bound : IsBoundAs db in_block (statement.Insert name tuples) act = record { database = database; admitted = none; action = refl } in
      let counted = (insert_found db in_block name tuples none).nothing in
      keeps_change commit db in_block (statement.Insert name tuples) act table bound tt refl
      (λ new. writes_admitted table (λ tuple. tuple) tuples (tuples_admitted table held [] tuples counted new))

  -- UPDATE
  pub keeps_update : (sets : List (List ℕ × Expr Ref)) (c : Option (Cond Ref))
      → objections db in_block (statement.Update name sets c) ≡ []
      → IsDatabase (executed commit db in_block (statement.Update name sets c)).1
  keeps_update sets c none =
      let s = statement.Update name sets c in
      let cond = cond_in (table_at db name) c in
      let places = map (set_in (table_at db name)) sets in
      let act = action.Update table places cond (fixed_key table cond) in
      let bound : IsBoundAs db in_block s act = record { database = database; admitted = none; action = refl } in
      let before = filtered (IsAdmitted table) (λ row. holds_on (cell row) cond) held (rows_admitted_before commit db in_block s act table bound tt refl) in
      keeps_change commit db in_block s act table bound tt refl
      (λ fine. writes_admitted table (changed cell (λ place. place) places) (selected cell cond held) (changed_admitted table places (selected cell cond held) fine before))

  -- DELETE
  pub keeps_delete : (c : Option (Cond Ref)) → objections db in_block (statement.Delete name c) ≡ []
      → IsDatabase (executed commit db in_block (statement.Delete name c)).1
  keeps_delete c none =
      let s = statement.Delete name c in
      let cond = cond_in (table_at db name) c in
      let act = action.Delete table cond (fixed_key table cond) in
      let bound : IsBoundAs db in_block s act = record { database = database; admitted = none; action = refl } in
      keeps_change commit db in_block s act table bound tt refl (λ fine. removals_admitted table (selected cell cond held))
