-- What an action replies and writes on two lists of rows that its locks don't tell apart.
use Rattle.std.proofs.Common.{◌≡◌, ℕ, Bool, ◌||◌, List, [], ◌∷◌, ◌++◌, map, find, length, Option, Some, None, is_some, refl, sym, ap, ap₂, subst, ◌∙◌, arith}
use Rattle.std.specs.Prelude.{flat_map}
use Rattle.std.specs.List.{AllByRecursion, list_any}
use Rattle.std.specs.Option.{option_to_list}
use Rattle.std.proofs.lemmas.Option.{same_Some}
use Rattle.std.proofs.lemmas.List.{map-append}
use Rattle.std.proofs.lemmas.List.Folds.{list_any-append}
use Rattle.bf_base.specs.declared.value.Value.{Value}
use Rattle.bf_base.specs.declared.table.Table.{Table}
use Rattle.bf_base.specs.Lists.{has, same_key, when, with_before_from}
use Rattle.bf_base.specs.Tables.{cell, key_of}
use Rattle.bf_base.specs.Values.{key_cmp_total}
use Rattle.bf_base.proofs.Order.{is_some-look_up}
use Rattle.bf_tree.specs.Trees.{Expr, Cond}
use Rattle.bf_locks.specs.declared.mode.Mode.TheVariants.{IX, X}
use Rattle.bf_locks.specs.declared.name.LockName.TheVariants.{Whole, One}
use Rattle.bf_tree.specs.declared.bound.Action.{Action}
use Rattle.bf_tree.specs.declared.bound.Action.TheVariants as action
use Rattle.bf_tree.specs.declared.reply.Refusal.{Refusal}
use Rattle.bf_tree.specs.declared.reply.Refusal.TheVariants.{DuplicateKey}
use Rattle.bf_tree.specs.declared.reply.Reply.TheVariants as reply
use Rattle.bf_sql.specs.Conditions.{fixed_key}
use Rattle.bf_sql.specs.Database.{Database, IsDatabase, stored_at, table_at, table_rows}
use Rattle.bf_sql.specs.Queries.{answer_of, changed, selected}
use Rattle.bf_tree.specs.declared.items.Items.{Items}
use Rattle.bf_sql.specs.RowObjections.{change_objections, taken_key_objections, unfit_row_objections}
use Rattle.bf_tree.specs.ValueObjections.{answer_objections}
use Rattle.bf_live.specs.Replies.{IsWellBound, admitted_at, change_reply, objections_on, select_reply, action_table, unless_refused, write_of, writes_of}
use Rattle.bf_live.proofs.querying.Binding.{as_stored}
use Rattle.bf_sql.specs.Agreement.{AgreeAt, AgreeOn, row_at}
use Rattle.bf_sql.specs.Footprints.{Lock, action_locks, catalog_read, change_locks, in_key_order, insert_locks, read_locks}
use Rattle.bf_live.proofs.locking.Alike.{own_table, selected_at}
use Rattle.bf_live.proofs.locking.Elements.{at_each, behind, in_order_has_each, mapped}

-- an action finds the same in two lists of rows
pub record FindsAlike (one other : List (List Value)) (act : Action) : Type 0 where
  pub objections : objections_on one act ≡ objections_on other act
  pub writes : writes_of one act ≡ writes_of other act
  pub selects : select_reply one act ≡ select_reply other act
  pub changes : change_reply one act ≡ change_reply other act

-- where it finds the same in all rows
pub same_rows : (one other : List (List Value)) (act : Action) → one ≡ other → FindsAlike one other act
same_rows one other act same = record {
  objections = ap (λ rows. objections_on rows act) same;
  writes = ap (λ rows. writes_of rows act) same;
  selects = ap (λ rows. select_reply rows act) same;
  changes = ap (λ rows. change_reply rows act) same;
}

-- a key is among the keys of rows where a row is at it
has_row_at : (db : Database) (table : Table) (key : List Value) → table_at db table.name ≡ table → has same_key (map (key_of table) (table_rows db table.name)) key ≡ is_some (row_at db table.name key)
has_row_at db table key own =
    sym (is_some-look_up key_cmp_total (key_of table) (table_rows db table.name) key)
    ∙ ap (λ (t : Table). is_some (find (λ row. same_key (key_of t row) key) (table_rows db table.name))) (sym own)

module _ (table : Table) (one other : List (List Value)) where
  -- rows take the same keys
  abbrev TakesAlike : List Value → Type 0
  TakesAlike key = has same_key (map (key_of table) one) key ≡ has same_key (map (key_of table) other) key

  has_both : (rows before : List (List Value)) (key : List Value) → has same_key (map (key_of table) (rows ++ before)) key ≡ (has same_key (map (key_of table) rows) key || has same_key (map (key_of table) before) key)
  has_both rows before key = ap (list_any (same_key key)) (map-append (key_of table) rows before) ∙ list_any-append (same_key key) (map (key_of table) rows) (map (key_of table) before)

  taken_alike : (before : List (List Value)) (tuple : List Value) → TakesAlike (key_of table tuple) → taken_key_objections table (one ++ before) tuple ≡ taken_key_objections table (other ++ before) tuple
  taken_alike before tuple same =
      let key = key_of table tuple in
      ap (λ (b : Bool). when b (DuplicateKey key))
      (has_both one before key ∙ ap (λ (b : Bool). b || has same_key (map (key_of table) before) key) same ∙ sym (has_both other before key))

  tuples_alike : (before tuples : List (List Value)) → AllByRecursion TakesAlike (map (key_of table) tuples)
      → flat_map (λ p. unfit_row_objections table p.1 ++ taken_key_objections table (one ++ p.0) p.1) (with_before_from before tuples)
      ≡ flat_map (λ p. unfit_row_objections table p.1 ++ taken_key_objections table (other ++ p.0) p.1) (with_before_from before tuples)
  tuples_alike before [] all = refl
  tuples_alike before (tuple ∷ tuples) all =
      ap₂ (λ (taken rest : List Refusal). (unfit_row_objections table tuple ++ taken) ++ rest)
      (taken_alike before tuple all.0) (tuples_alike (before ++ tuple ∷ []) tuples all.1)

  insert_alike : (tuples : List (List Value)) → AllByRecursion TakesAlike (map (key_of table) tuples) → FindsAlike one other (action.Insert table tuples)
  insert_alike tuples all =
      let same = tuples_alike [] tuples all in
      record {
        objections = same;
        writes = refl;
        selects = refl;
        changes = ap (λ (rs : List Refusal). Some (unless_refused rs (reply.Inserted (length tuples)))) same;
      }

module _ (a b : Database) (is_a : IsDatabase a) (is_b : IsDatabase b) where
  abbrev rows_a : Table → List (List Value)
  rows_a table = table_rows a table.name

  abbrev rows_b : Table → List (List Value)
  rows_b table = table_rows b table.name

  -- both have the table
  pub record HaveBoth (table : Table) : Type 0 where
    pub one : stored_at a table.name ≡ Some (as_stored table (table_rows a table.name))
    pub other : stored_at b table.name ≡ Some (as_stored table (table_rows b table.name))

  at_key : (table : Table) (c : Cond ℕ) (key : List Value) → HaveBoth table → fixed_key table c ≡ Some key → row_at a table.name key ≡ row_at b table.name key
      → selected cell c (rows_a table) ≡ selected cell c (rows_b table)
  at_key table c key there fixed same =
      selected_at a is_a table there.one c key fixed ∙ ap (λ (o : Option (List Value)). selected cell c (option_to_list o)) same ∙ sym (selected_at b is_b table there.other c key fixed)

  -- a condition selects the same, where the locks of a read or of a change agree
  read_selects : (table : Table) (c : Cond ℕ) (fixed : Option (List Value)) → HaveBoth table → fixed ≡ fixed_key table c → AgreeOn a b (read_locks table fixed) → selected cell c (rows_a table) ≡ selected cell c (rows_b table)
  read_selects table c (Some key) there is agree = at_key table c key there (sym is) (agree 2 catalog_read (omega arith))
  read_selects table c None there is agree = ap (selected cell c) (agree 1 catalog_read (omega arith) refl)

  change_selects : (table : Table) (c : Cond ℕ) (fixed : Option (List Value)) → HaveBoth table → fixed ≡ fixed_key table c → AgreeOn a b (change_locks table fixed) → selected cell c (rows_a table) ≡ selected cell c (rows_b table)
  change_selects table c (Some key) there is agree = at_key table c key there (sym is) (agree 2 catalog_read (omega arith))
  change_selects table c None there is agree = ap (selected cell c) (agree 1 catalog_read (omega arith) refl)

  -- and the keys of an INSERT are taken alike
  keys_alike : (table : Table) (tuples : List (List Value)) → HaveBoth table → AgreeOn a b (insert_locks table tuples) → AllByRecursion (TakesAlike table (rows_a table) (rows_b table)) (map (key_of table) tuples)
  keys_alike table tuples there agree =
      let keys = map (key_of table) tuples in
      let on_keys : List Lock = map (λ key. (One table.name key, X)) (in_key_order keys) in
      in_order_has_each keys (TakesAlike table (rows_a table) (rows_b table)) (λ key has.
      let lock : Lock = (One table.name key, X) in
      let locked = behind catalog_read lock ((Whole table.name, IX) ∷ on_keys) (behind (Whole table.name, IX) lock on_keys (mapped (λ (k : List Value). (One table.name k, X)) (in_key_order keys) key has)) in
      let same : row_at a table.name key ≡ row_at b table.name key = at_each (λ (l : Lock). AgreeAt a b l.0 l.1) (insert_locks table tuples) lock agree locked in
      has_row_at a table key (own_table a is_a table there.one) ∙ ap is_some same ∙ sym (has_row_at b table key (own_table b is_b table there.other)))

  abbrev FoundAlike : Action → Table → Type 0
  FoundAlike act table = HaveBoth table → FindsAlike (table_rows a table.name) (table_rows b table.name) act

  select_finds : (table : Table) (items : Items (Expr ℕ)) (c : Cond ℕ) (fixed : Option (List Value)) → fixed ≡ fixed_key table c → AgreeOn a b (read_locks table fixed) → FoundAlike (action.Select table items c fixed) table
  select_finds table items c fixed is agree there =
      let same = read_selects table c fixed there is agree in
      record {
        objections = ap (answer_objections cell items) same;
        writes = refl;
        selects = ap (λ (rows : List (List Value)). Some (unless_refused (answer_objections cell items rows) (reply.Rows (answer_of cell items rows)))) same;
        changes = refl;
      }

  update_finds : (table : Table) (sets : List (ℕ × Expr ℕ)) (c : Cond ℕ) (fixed : Option (List Value)) → fixed ≡ fixed_key table c → AgreeOn a b (change_locks table fixed) → FoundAlike (action.Update table sets c fixed) table
  update_finds table sets c fixed is agree there =
      let same = change_selects table c fixed there is agree in
      record {
        objections = ap (flat_map (change_objections cell (admitted_at table) sets)) same;
        writes = ap (map (λ row. write_of table (key_of table row) (Some (changed cell (λ place. place) sets row)))) same;
        selects = refl;
        changes = ap (λ (rows : List (List Value)). Some (unless_refused (flat_map (change_objections cell (admitted_at table) sets) rows) (reply.Updated (length rows)))) same;
      }

  delete_finds : (table : Table) (c : Cond ℕ) (fixed : Option (List Value)) → fixed ≡ fixed_key table c → AgreeOn a b (change_locks table fixed) → FoundAlike (action.Delete table c fixed) table
  delete_finds table c fixed is agree there =
      let same = change_selects table c fixed there is agree in
      record {
        objections = refl;
        writes = ap (map (λ row. write_of table (key_of table row) None)) same;
        selects = refl;
        changes = ap (λ (rows : List (List Value)). Some (reply.Deleted (length rows))) same;
      }

  -- an action finds the same where its locks agree
  pub finds_alike : (act : Action) (table : Table) → action_table act ≡ Some table → IsWellBound act → AgreeOn a b (action_locks act) → FoundAlike act table
  finds_alike (action.Insert t tuples) table on bound agree =
      subst (FoundAlike (action.Insert t tuples)) (same_Some t table on) (λ there. insert_alike t (rows_a t) (rows_b t) tuples (keys_alike t tuples there agree))
  finds_alike (action.Select t items c fixed) table on bound agree =
      subst (FoundAlike (action.Select t items c fixed)) (same_Some t table on) (select_finds t items c fixed bound agree)
  finds_alike (action.Update t sets c fixed) table on bound agree =
      subst (FoundAlike (action.Update t sets c fixed)) (same_Some t table on) (update_finds t sets c fixed bound agree)
  finds_alike (action.Delete t c fixed) table on bound agree =
      subst (FoundAlike (action.Delete t c fixed)) (same_Some t table on) (delete_finds t c fixed bound agree)
  finds_alike other table on bound agree = absurd cc
