-- Bound statements mean what is written.
use Rattle.std.proofs.Common.{◌≡◌, ℕ, Bool, true, false, not, cond, if◌then◌else◌, List, [], ◌∷◌, ◌++◌, map, filter, fold, length, find, Option, Some, None, refl, sym, ap, ap₂, subst, ◌∙◌, inl, inr, is_eq}
use Rattle.std.specs.Prelude.{flat_map, slice_index_or}
use Rattle.std.proofs.Math.Path.{fun_ext}
use Rattle.std.proofs.lemmas.Bool.{and_parts, cases_Bool}
use Rattle.std.proofs.lemmas.Option.{same_Some}
use Rattle.std.proofs.lemmas.Simd.{map-map}
use Rattle.bf_base.specs.declared.value.Value.{Value}
use Rattle.bf_base.specs.declared.table.Admit.{Admit}
use Rattle.bf_base.specs.declared.table.Admit.TheVariants as admits
use Rattle.bf_base.specs.declared.table.Column.{Column}
use Rattle.bf_base.specs.declared.table.Table.{Table}
use Rattle.bf_base.specs.Lists.{name_cmp, rises, same_name, with_placed}
use Rattle.bf_base.specs.Tables.{cell, key_of}
use Rattle.bf_base.specs.Values.{key_cmp}
use Rattle.bf_base.proofs.Names.{name_cmp_total, same_name-tie_back}
use Rattle.bf_base.proofs.Order.{less_from_test, rises_skip, rises_tail}
use Rattle.bf_tree.specs.declared.raw.Ref.{Ref}
use Rattle.bf_tree.specs.Evaluation.{holds_on}
use Rattle.bf_tree.specs.Trees.{Expr, Cond}
use Rattle.bf_tree.proofs.Renamed.{holds_on-cond_over}
use Rattle.bf_heap.specs.Heaps.{Entry}
use Rattle.bf_tree.specs.declared.bound.Action.{Action}
use Rattle.bf_tree.specs.declared.bound.Action.TheVariants as action
use Rattle.bf_tree.specs.declared.items.Items.{Items}
use Rattle.bf_tree.specs.declared.reply.Cell.{Cell}
use Rattle.bf_tree.specs.declared.reply.Refusal.{Refusal}
use Rattle.bf_tree.specs.declared.reply.Reply.{Reply}
use Rattle.bf_tree.specs.declared.reply.Reply.TheVariants as reply
use Rattle.bf_tree.specs.declared.statement.Statement.{Statement}
use Rattle.bf_tree.specs.declared.statement.Statement.TheVariants as statement
use Rattle.bf_sql.specs.Bound.{place_in, cond_in, set_in, items_over}
use Rattle.bf_sql.specs.Conditions.{condition_of, fixed_key}
use Rattle.bf_sql.specs.Database.{Database, Stored, IsDatabase, stored_at, table_at, table_rows, with_rows}
use Rattle.bf_sql.specs.Meaning.{executed, effect, unless_refused}
use Rattle.bf_sql.specs.Objections.{objections}
use Rattle.bf_sql.specs.Queries.{selected, answer_of, changed}
use Rattle.bf_sql.specs.RowObjections.{row_objections, insert_objections}
use Rattle.bf_tree.specs.ValueObjections.{answer_objections}
use Rattle.bf_sql.specs.Scopes.{scope_of, place_of, read_in, admitted_by, unqualified}
use Rattle.bf_txn.specs.declared.write.Write.{Write}
use Rattle.bf_txn.specs.Writes.{with_write}
use Rattle.bf_live.specs.Replies as actions
use Rattle.bf_live.specs.Replies.{IsChange, IsSelect, IsWellBound, admitted_at, change_reply, select_reply, objections_on, action_table, writes_of, written}
use Rattle.bf_live.specs.Meanings.{HoldRowsOf, IsBoundAs, rows_after}
use Rattle.bf_live.specs.Merged.{rows_under, entries_under}
use Rattle.bf_live.proofs.querying.Binding.{as_stored, one_name, insert_found, select_found, update_found, delete_found, well_bound}
use Rattle.bf_live.proofs.querying.Effects.{rows_placed, rows_remade, remade-changed, remade-removed}
use Rattle.bf_sql.proofs.Renaming.{selected-over, answer_objections-over, answer_of-over, changed-over, change_objections-over}

-- a bound SELECT replies what the statement means, and the statement leaves the database
abbrev pub SelectMeansWhatIsWritten : ℕ → Database → Bool → Statement → Action → Table → Type 0
SelectMeansWhatIsWritten commit db in_block s act table =
    (select_reply (table_rows db table.name) act ≡ Some (executed commit db in_block s).0) × ((executed commit db in_block s).1 ≡ db)

-- a bound change replies what the statement means
abbrev pub ChangeRepliesWhatIsWritten : ℕ → Database → Bool → Statement → Action → Table → Type 0
ChangeRepliesWhatIsWritten commit db in_block s act table = change_reply (table_rows db table.name) act ≡ Some (executed commit db in_block s).0

-- and its writes make the database that the statement means
abbrev pub ChangeMakesWhatIsWritten : ℕ → Database → Bool → Statement → Action → Table → List Entry → List Write → Type 0
ChangeMakesWhatIsWritten commit db in_block s act table entries writes = (executed commit db in_block s).1 ≡ with_rows db table.name (rows_after db table entries writes act)

-- the reply to a statement, and the database after it, by the objections of the rows
reply_is : (rs : List Refusal) (db : Database) (told : Reply) (new : Database) → (unless_refused rs db (λ _. (told, new))).0 ≡ actions.unless_refused rs told
reply_is [] db told new = refl
reply_is (r ∷ rs) db told new = refl

stays : (rs : List Refusal) (db : Database) (told : Reply) → (unless_refused rs db (λ _. (told, db))).1 ≡ db
stays [] db told = refl
stays (r ∷ rs) db told = refl

-- the rows of a table under its own name leave the database
none_named : (rows : List (List Value)) (name : List ℕ) (tables : List Stored) → rises name_cmp (name ∷ map (λ s. s.table.name) tables) ≡ true
    → map (λ (s : Stored). if same_name s.table.name name then record s { rows = rows } else s) tables ≡ tables
none_named rows name [] in_order = refl
none_named rows name (s ∷ tables) in_order =
    let less = less_from_test _ (and_parts _ _ in_order).0 in
    let other : same_name s.table.name name ≡ false = same_name-tie_back s.table.name name ∙ ap is_eq less in
    let rest = none_named rows name tables (rises_skip name_cmp_total name s.table.name (map (λ (s : Stored). s.table.name) tables) in_order) in
    rw other (ap (λ (ss : List Stored). s ∷ ss) rest)

own_rows : (name : List ℕ) (x : Stored) (tables : List Stored) → rises name_cmp (map (λ s. s.table.name) tables) ≡ true → find (λ s. same_name s.table.name name) tables ≡ Some x
    → map (λ (s : Stored). if same_name s.table.name name then record s { rows = x.rows } else s) tables ≡ tables
own_rows name x [] in_order is = refl
own_rows name x (s ∷ tables) in_order is = elim (cases_Bool (same_name s.table.name name)) [
  | inl same ↦
      let first : s ≡ x = same_Some s x (sym (ap (λ b. cond b (Some s) (find (λ (s : Stored). same_name s.table.name name) tables)) same) ∙ is) in
      let called : s.table.name ≡ name = one_name s.table.name name same in
      let rest = none_named x.rows name tables (subst (λ n. rises name_cmp (n ∷ map (λ (s : Stored). s.table.name) tables) ≡ true) called in_order) in
      rw same (ap₂ (λ (t : Stored) (ss : List Stored). t ∷ ss) (ap (λ (t : Stored). as_stored s.table t.rows) (sym first)) rest)
  | inr other ↦
      let rest = own_rows name x tables (rises_tail name_cmp_total s.table.name (map (λ (s : Stored). s.table.name) tables) in_order) (sym (ap (λ b. cond b (Some s) (find (λ (s : Stored). same_name s.table.name name) tables)) other) ∙ is) in
      rw other (ap (λ (ss : List Stored). s ∷ ss) rest)
]

pub with_own_rows : (db : Database) (name : List ℕ) (table : Table) (rows : List (List Value)) → IsDatabase db → stored_at db name ≡ Some (as_stored table rows) → with_rows db name rows ≡ db
with_own_rows db name table rows database stored = ap (λ (tables : List Stored). record db { tables = tables }) (own_rows name (as_stored table rows) db.tables database.tables_by_name stored)

-- the database after a change, by the objections of the rows
new_database : (rs : List Refusal) (db : Database) (name called : List ℕ) (told : Reply) (new : List (List Value)) (entries : List Entry) (writes more : List Write)
    → (rs ≡ [] → rows_under entries (fold with_write writes more) called ≡ new) → with_rows db name (rows_under entries writes called) ≡ db
    → (unless_refused rs db (λ _. (told, with_rows db name new))).1 ≡ with_rows db name (rows_under entries (written rs writes more) called)
new_database [] db name called told new entries writes more made kept = ap (with_rows db name) (sym (made refl))
new_database (r ∷ rs) db name called told new entries writes more made kept = sym kept

-- what the writes of a change make of the rows
module _ (table : Table) (rows : List (List Value)) (db : Database) (entries : List Entry) (writes : List Write) (hold : HoldRowsOf db table entries writes) (held : rows_under entries writes table.name ≡ rows) where
  inserted : (tuples : List (List Value)) → IsWellBound (action.Insert table tuples) → insert_objections table rows tuples ≡ []
      → rows_under entries (fold with_write writes (writes_of rows (action.Insert table tuples))) table.name ≡ with_placed key_cmp (key_of table) rows tuples
  inserted tuples within none =
      rows_placed table entries writes tuples hold.entries_by_key hold.writes_by_table_key hold.under_own_keys within (ap (λ (rs : List (List Value)). insert_objections table rs tuples) held ∙ none)
      ∙ ap (λ (rs : List (List Value)). with_placed key_cmp (key_of table) rs tuples) held

  updated : (sets : List (ℕ × Expr ℕ)) (c : Cond ℕ) (fixed : Option (List Value)) → rows_under entries (fold with_write writes (writes_of rows (action.Update table sets c fixed))) table.name
      ≡ map (λ row. if holds_on (cell row) c then changed cell (λ place. place) sets row else row) rows
  updated sets c fixed =
      subst (λ (rs : List (List Value)). rows_under entries (fold with_write writes (writes_of rs (action.Update table sets c fixed))) table.name ≡ map (λ row. if holds_on (cell row) c then changed cell (λ place. place) sets row else row) rs) held
      (rows_remade table (λ row. holds_on (cell row) c) (λ row. Some (changed cell (λ place. place) sets row)) entries writes hold.entries_by_key hold.writes_by_table_key hold.under_own_keys
      ∙ remade-changed table (λ row. holds_on (cell row) c) (changed cell (λ place. place) sets) (entries_under entries writes table.name))

  deleted : (c : Cond ℕ) (fixed : Option (List Value)) → rows_under entries (fold with_write writes (writes_of rows (action.Delete table c fixed))) table.name ≡ filter (λ row. not (holds_on (cell row) c)) rows
  deleted c fixed =
      subst (λ (rs : List (List Value)). rows_under entries (fold with_write writes (writes_of rs (action.Delete table c fixed))) table.name ≡ filter (λ row. not (holds_on (cell row) c)) rs) held
      (rows_remade table (λ row. holds_on (cell row) c) (λ row. None) entries writes hold.entries_by_key hold.writes_by_table_key hold.under_own_keys
      ∙ remade-removed table (λ row. holds_on (cell row) c) (entries_under entries writes table.name))

-- what holds of an action that a statement is bound to, and of its table
at_its_table : (P : Action → Table → Type 0) (a act : Action) (t table : Table) → Some a ≡ Some act → action_table a ≡ Some t → action_table act ≡ Some table → P a t → P act table
at_its_table P a act t table is of on p =
    let same : a ≡ act = same_Some a act is in
    subst (λ (b : Action). P b table) same (subst (P a) (same_Some t table (sym of ∙ ap action_table same ∙ on)) p)

module _ (commit : ℕ) (db : Database) (in_block : Bool) where
  -- a statement that the catalog does not refuse
  admitted : (s : Statement) → objections db in_block s ≡ [] → executed commit db in_block s ≡ unless_refused (row_objections db s) db (λ _. effect commit db s)
  admitted s none = ap (λ (rs : List Refusal). unless_refused (rs ++ row_objections db s) db (λ _. effect commit db s)) none

  replied : (s : Statement) → objections db in_block s ≡ [] → actions.unless_refused (row_objections db s) (effect commit db s).0 ≡ (executed commit db in_block s).0
  replied s none = sym (ap (λ (out : Reply × Database). out.0) (admitted s none) ∙ reply_is (row_objections db s) db (effect commit db s).0 (effect commit db s).1)

  module _ (name : List ℕ) where
    abbrev on_table : Table
    on_table = table_at db name

    abbrev rows : List (List Value)
    rows = table_rows db name

    -- the value of a column, and the place of a set's column
    abbrev read : List Value → Ref → Value
    read = read_in (scope_of on_table)

    abbrev set_place : List ℕ → ℕ
    set_place n = place_of (scope_of on_table) (unqualified n)

    abbrev fixed_by : Option (Cond Ref) → Option (List Value)
    fixed_by c = fixed_key on_table (cond_in on_table c)

    abbrev select_of : Items (Expr Ref) → Option (Cond Ref) → Action
    select_of list c = action.Select on_table (items_over (place_in on_table) list) (cond_in on_table c) (fixed_by c)

    abbrev update_of : List (List ℕ × Expr Ref) → Option (Cond Ref) → Action
    update_of sets c = action.Update on_table (map (set_in on_table) sets) (cond_in on_table c) (fixed_by c)

    abbrev delete_of : Option (Cond Ref) → Action
    delete_of c = action.Delete on_table (cond_in on_table c) (fixed_by c)

    seen : (c : Option (Cond Ref)) → selected cell (cond_in on_table c) rows ≡ selected read (condition_of c) rows
    seen c = selected-over (place_in on_table) (condition_of c) rows

    select_means : (list : Items (Expr Ref)) (c : Option (Cond Ref)) → objections db in_block (statement.Select list name c) ≡ [] → on_table.name ≡ name
        → SelectMeansWhatIsWritten commit db in_block (statement.Select list name c) (select_of list c) on_table
    select_means list c none named =
        let to = place_in on_table in
        let s = statement.Select list name c in
        let same : selected cell (cond_in on_table c) (table_rows db on_table.name) ≡ selected read (condition_of c) rows = ap (λ (n : List ℕ). selected cell (cond_in on_table c) (table_rows db n)) named ∙ seen c in (
          ap₂ (λ (rs : List Refusal) (told : List (List Cell)). Some (actions.unless_refused rs (reply.Rows told)))
              (ap (answer_objections cell (items_over to list)) same ∙ answer_objections-over to list (selected read (condition_of c) rows))
              (ap (answer_of cell (items_over to list)) same ∙ answer_of-over to list (selected read (condition_of c) rows))
              ∙ ap Some (replied s none),
          ap (λ (out : Reply × Database). out.1) (admitted s none) ∙ stays (row_objections db s) db (effect commit db s).0,
        )

    insert_replies : (tuples : List (List Value)) → objections db in_block (statement.Insert name tuples) ≡ [] → on_table.name ≡ name
        → ChangeRepliesWhatIsWritten commit db in_block (statement.Insert name tuples) (action.Insert on_table tuples) on_table
    insert_replies tuples none named =
        ap (λ (n : List ℕ). Some (actions.unless_refused (insert_objections on_table (table_rows db n) tuples) (reply.Inserted (length tuples)))) named
        ∙ ap Some (replied (statement.Insert name tuples) none)

    -- what the rows have against an UPDATE
    update_objects : (sets : List (List ℕ × Expr Ref)) (c : Option (Cond Ref)) → objections_on rows (update_of sets c) ≡ row_objections db (statement.Update name sets c)
    update_objects sets c =
        ap₂ (λ (f : List Value → List Refusal) (rs : List (List Value)). flat_map f rs)
        (fun_ext (change_objections-over (place_in on_table) set_place (admitted_at on_table) (λ n. admitted_by (scope_of on_table) (unqualified n)) same_admit sets))
        (seen c)
      where
        same_admit : (n : List ℕ) → admitted_at on_table (set_place n) ≡ admitted_by (scope_of on_table) (unqualified n)
        same_admit n = ap (λ (admitted : List Admit). slice_index_or admitted (set_place n) admits.Int) (sym (map-map (λ (c : List ℕ × Column). c.1.admits) (λ (c : Column). (on_table.name, c)) on_table.columns))

    update_replies : (sets : List (List ℕ × Expr Ref)) (c : Option (Cond Ref)) → objections db in_block (statement.Update name sets c) ≡ [] → on_table.name ≡ name
        → ChangeRepliesWhatIsWritten commit db in_block (statement.Update name sets c) (update_of sets c) on_table
    update_replies sets c none named =
        ap (λ (n : List ℕ). change_reply (table_rows db n) (update_of sets c)) named
        ∙ ap₂ (λ (rs : List Refusal) (found : List (List Value)). Some (actions.unless_refused rs (reply.Updated (length found)))) (update_objects sets c) (seen c)
        ∙ ap Some (replied (statement.Update name sets c) none)

    delete_replies : (c : Option (Cond Ref)) → objections db in_block (statement.Delete name c) ≡ [] → on_table.name ≡ name
        → ChangeRepliesWhatIsWritten commit db in_block (statement.Delete name c) (delete_of c) on_table
    delete_replies c none named =
        ap (λ (n : List ℕ). change_reply (table_rows db n) (delete_of c)) named
        ∙ ap (λ (found : List (List Value)). Some (reply.Deleted (length found))) (seen c)
        ∙ ap Some (replied (statement.Delete name c) none)

    -- the database after a change, over entries that hold the rows
    module _ (entries : List Entry) (writes : List Write) (database : IsDatabase db) (hold : HoldRowsOf db on_table entries writes) (named : on_table.name ≡ name) (stored : stored_at db name ≡ Some (as_stored on_table rows)) where
      held : rows_under entries writes on_table.name ≡ rows
      held = hold.rows ∙ ap (table_rows db) named

      makes : (s : Statement) (act : Action) (told : Reply) (new : List (List Value)) → objections db in_block s ≡ [] → effect commit db s ≡ (told, with_rows db name new) → objections_on rows act ≡ row_objections db s
          → (row_objections db s ≡ [] → rows_under entries (fold with_write writes (writes_of rows act)) on_table.name ≡ new)
          → ChangeMakesWhatIsWritten commit db in_block s act on_table entries writes
      makes s act told new none means objects made =
          let kept : with_rows db name (rows_under entries writes on_table.name) ≡ db = ap (with_rows db name) held ∙ with_own_rows db name on_table rows database stored in
          let is : executed commit db in_block s ≡ unless_refused (row_objections db s) db (λ _. (told, with_rows db name new)) = admitted s none ∙ ap (λ (out : Reply × Database). unless_refused (row_objections db s) db (λ _. out)) means in
          let at_name : (executed commit db in_block s).1 ≡ with_rows db name (rows_under entries (written (objections_on rows act) writes (writes_of rows act)) on_table.name) =
          ap (λ (out : Reply × Database). out.1) is
          ∙ new_database (row_objections db s) db name on_table.name told new entries writes (writes_of rows act) made kept
          ∙ ap (λ (rs : List Refusal). with_rows db name (rows_under entries (written rs writes (writes_of rows act)) on_table.name)) (sym objects) in
          subst (λ (n : List ℕ). (executed commit db in_block s).1 ≡ with_rows db n (rows_under entries (written (objections_on (table_rows db n) act) writes (writes_of (table_rows db n) act)) on_table.name)) (sym named) at_name

      insert_makes : (tuples : List (List Value)) → objections db in_block (statement.Insert name tuples) ≡ [] → IsWellBound (action.Insert on_table tuples)
          → ChangeMakesWhatIsWritten commit db in_block (statement.Insert name tuples) (action.Insert on_table tuples) on_table entries writes
      insert_makes tuples none within =
          makes (statement.Insert name tuples) (action.Insert on_table tuples) (reply.Inserted (length tuples)) (with_placed key_cmp (key_of on_table) rows tuples) none refl refl
          (inserted on_table rows db entries writes hold held tuples within)

      update_makes : (sets : List (List ℕ × Expr Ref)) (c : Option (Cond Ref)) → objections db in_block (statement.Update name sets c) ≡ []
          → ChangeMakesWhatIsWritten commit db in_block (statement.Update name sets c) (update_of sets c) on_table entries writes
      update_makes sets c none =
          let same : map (λ row. if holds_on (cell row) (cond_in on_table c) then changed cell (λ place. place) (map (set_in on_table) sets) row else row) rows
          ≡ map (λ row. if holds_on (read row) (condition_of c) then changed read set_place sets row else row) rows =
          ap (λ (f : List Value → List Value). map f rows) (fun_ext (λ row. ap₂ (λ (b : Bool) (new : List Value). if b then new else row) (holds_on-cond_over (cell row) (place_in on_table) (condition_of c)) (changed-over (place_in on_table) set_place sets row))) in
          makes (statement.Update name sets c) (update_of sets c) (reply.Updated (length (selected read (condition_of c) rows))) (map (λ row. if holds_on (read row) (condition_of c) then changed read set_place sets row else row) rows) none refl (update_objects sets c)
          (λ _. updated on_table rows db entries writes hold held (map (set_in on_table) sets) (cond_in on_table c) (fixed_by c) ∙ same)

      delete_makes : (c : Option (Cond Ref)) → objections db in_block (statement.Delete name c) ≡ []
          → ChangeMakesWhatIsWritten commit db in_block (statement.Delete name c) (delete_of c) on_table entries writes
      delete_makes c none =
          let same : filter (λ row. not (holds_on (cell row) (cond_in on_table c))) rows ≡ filter (λ row. not (holds_on (read row) (condition_of c))) rows =
          ap (λ (f : List Value → Bool). filter f rows) (fun_ext (λ row. ap not (holds_on-cond_over (cell row) (place_in on_table) (condition_of c)))) in
          makes (statement.Delete name c) (delete_of c) (reply.Deleted (length (selected read (condition_of c) rows))) (filter (λ row. not (holds_on (read row) (condition_of c))) rows) none refl refl
          (λ _. deleted on_table rows db entries writes hold held (cond_in on_table c) (fixed_by c) ∙ same)

  pub select_law : (s : Statement) (act : Action) (table : Table) → IsBoundAs db in_block s act → IsSelect act → action_table act ≡ Some table → SelectMeansWhatIsWritten commit db in_block s act table
  select_law (statement.Select list name c) act table bound is on =
      let there = select_found db in_block name list c bound.admitted in
      at_its_table (SelectMeansWhatIsWritten commit db in_block (statement.Select list name c)) (select_of name list c) act (table_at db name) table bound.action refl on (select_means name list c bound.admitted there.named)
  select_law (statement.Migrate migrate) act table bound is on = absurd cc
  select_law other act table bound is on = absurd (subst IsSelect (sym (same_Some _ act bound.action)) is)

  pub reply_law : (s : Statement) (act : Action) (table : Table) → IsBoundAs db in_block s act → IsChange act → action_table act ≡ Some table → ChangeRepliesWhatIsWritten commit db in_block s act table
  reply_law (statement.Insert name tuples) act table bound is on =
      let there = insert_found db in_block name tuples bound.admitted in
      at_its_table (ChangeRepliesWhatIsWritten commit db in_block (statement.Insert name tuples)) (action.Insert (table_at db name) tuples) act (table_at db name) table bound.action refl on (insert_replies name tuples bound.admitted there.named)
  reply_law (statement.Update name sets c) act table bound is on =
      let there = update_found db in_block name sets c bound.admitted in
      at_its_table (ChangeRepliesWhatIsWritten commit db in_block (statement.Update name sets c)) (update_of name sets c) act (table_at db name) table bound.action refl on (update_replies name sets c bound.admitted there.named)
  reply_law (statement.Delete name c) act table bound is on =
      let there = delete_found db in_block name c bound.admitted in
      at_its_table (ChangeRepliesWhatIsWritten commit db in_block (statement.Delete name c)) (delete_of name c) act (table_at db name) table bound.action refl on (delete_replies name c bound.admitted there.named)
  reply_law (statement.Migrate migrate) act table bound is on = absurd cc
  reply_law other act table bound is on = absurd (subst IsChange (sym (same_Some _ act bound.action)) is)

  pub database_law : (s : Statement) (act : Action) (table : Table) (entries : List Entry) (writes : List Write) → IsBoundAs db in_block s act → IsChange act → action_table act ≡ Some table → HoldRowsOf db table entries writes
      → ChangeMakesWhatIsWritten commit db in_block s act table entries writes
  database_law (statement.Insert name tuples) act table entries writes bound is on hold =
      let s = statement.Insert name tuples in
      let there = insert_found db in_block name tuples bound.admitted in
      let within = well_bound db in_block s (action.Insert (table_at db name) tuples) (record { database = bound.database; admitted = bound.admitted; action = refl }) in
      at_its_table (λ a t. HoldRowsOf db t entries writes → ChangeMakesWhatIsWritten commit db in_block s a t entries writes) (action.Insert (table_at db name) tuples) act (table_at db name) table bound.action refl on
      (λ h. insert_makes name entries writes bound.database h there.named there.stored tuples bound.admitted within) hold
  database_law (statement.Update name sets c) act table entries writes bound is on hold =
      let there = update_found db in_block name sets c bound.admitted in
      at_its_table (λ a t. HoldRowsOf db t entries writes → ChangeMakesWhatIsWritten commit db in_block (statement.Update name sets c) a t entries writes) (update_of name sets c) act (table_at db name) table bound.action refl on
      (λ h. update_makes name entries writes bound.database h there.named there.stored sets c bound.admitted) hold
  database_law (statement.Delete name c) act table entries writes bound is on hold =
      let there = delete_found db in_block name c bound.admitted in
      at_its_table (λ a t. HoldRowsOf db t entries writes → ChangeMakesWhatIsWritten commit db in_block (statement.Delete name c) a t entries writes) (delete_of name c) act (table_at db name) table bound.action refl on
      (λ h. delete_makes name entries writes bound.database h there.named there.stored c bound.admitted) hold
  database_law (statement.Migrate migrate) act table entries writes bound is on hold = absurd cc
  database_law other act table entries writes bound is on hold = absurd (subst IsChange (sym (same_Some _ act bound.action)) is)
