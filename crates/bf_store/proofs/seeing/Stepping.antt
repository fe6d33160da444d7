-- A statement of an open transaction on the live tables is, where its need has moved, the same statement on what is seen.
use Rattle.std.proofs.Common.{◌≡◌, ℕ, Bool, true, false, not, cond, List, [], ◌∷◌, map, fold, Option, Some, None, option_map, unwrap_or, refl, sym, ap, ap₂, subst, ◌∙◌, inl, inr}
use Rattle.std.specs.Prelude.{◌⊎◌, Ok}
use Rattle.std.specs.List.{list_any, list_all, AllByRecursion}
use Rattle.std.proofs.lemmas.Bool.{and_parts, and_from, or_parts, not_from_false}
use Rattle.std.proofs.lemmas.Option.{same_Some}
use Rattle.bf_base.specs.declared.table.Table.{Table}
use Rattle.bf_base.specs.declared.value.Value.{Value}
use Rattle.bf_base.specs.Lists.{same_key, has, with_placed}
use Rattle.bf_base.specs.Tables.{cell, key_of}
use Rattle.bf_base.specs.Values.{key_cmp}
use Rattle.bf_tree.specs.declared.bound.Action.{Action}
use Rattle.bf_tree.specs.declared.bound.Action.TheVariants as action
use Rattle.bf_tree.specs.declared.reply.Refusal.{Refusal}
use Rattle.bf_tree.specs.declared.reply.Reply.{Reply}
use Rattle.bf_tree.specs.declared.statement.Statement.{Statement}
use Rattle.bf_tree.specs.Evaluation.{holds_on}
use Rattle.bf_tree.specs.Trees.{Cond}
use Rattle.bf_heap.specs.Heaps.{Entry}
use Rattle.bf_txn.specs.declared.write.Write.{Write}
use Rattle.bf_txn.specs.Writes.{table_key_cmp, table_key_of, with_write}
use Rattle.bf_sql.specs.Bound.{is_planned, without_rows, action_of, catalog_of}
use Rattle.bf_sql.specs.Database.{Database, Stored, IsDatabase, stored_at, table_rows}
use Rattle.bf_sql.specs.Objections.{objections}
use Rattle.bf_sql.specs.Queries.{selected, changed}
use Rattle.bf_sql.specs.migrations.Lazy.{LazyState, due, is_early, seen, view_of}
use Rattle.bf_sql.specs.migrations.Need.{needed_for, has_key_of, giving, target_of}
use Rattle.bf_live.specs.Replies.{action_table, IsSelect, IsChange, objections_on, select_reply, change_reply, writes_of, written, rows_for, write_of}
use Rattle.bf_live.specs.Meanings.{IsBoundAs, entries_of}
use Rattle.bf_live.proofs.querying.AsWritten.{select_law, reply_law}
use Rattle.bf_live.proofs.querying.Binding.{as_stored, stored_table}
use Rattle.bf_live.proofs.querying.OwnKeys.{by_recursion, each, with_one_more, weakened}
use Rattle.bf_live.specs.Live.{committed, written_to}
use Rattle.bf_live.specs.Open.{IsOpen, IsStep}
use Rattle.bf_live.proofs.statements.Bare.{same_objections, same_action}
use Rattle.bf_live.proofs.statements.Named.{IsThere, all_there}
use Rattle.bf_live.proofs.statements.OnTables.{is_on, rows_there}
use Rattle.bf_live.proofs.statements.Outcomes.{writes_of_action}
use Rattle.bf_live.proofs.statements.Seeing.{Stands, same_catalog, seen_at, begun}
use Rattle.bf_live.proofs.statements.Steps.{select_steps, change_steps}
use Rattle.bf_store.specs.States.{IsLazy, IsOpenLazily, HaveMoved, AreFree, is_free, under}
use Rattle.bf_store.proofs.coming.Found.{each_at_table}
use Rattle.bf_store.proofs.seeing.Committing.{commit_is_seen, commit_keeps}
use Rattle.bf_store.proofs.seeing.Serving.{ActsAlike, acts_alike, none_inserted, none_taken}
use Rattle.bf_store.proofs.seeing.Viewing.{seen_there, same_catalog_seen, kept_on_time, rows_seen, view_is_database}

-- a transaction that is open over the live tables is open over what is seen
module _ (lazy : LazyState) (is : IsLazy lazy) (before : List Write) (opened : IsOpenLazily lazy before) where
  own_keys_seen : (s : Stored) → IsThere lazy.live s → Stands before (seen lazy.last s)
  own_keys_seen s there =
      let found : stored_at (view_of lazy) s.table.name ≡ Some (seen lazy.last s) = seen_there lazy is s.table.name ∙ ap (option_map (seen lazy.last)) there in
      let first = begun (view_of lazy) (view_is_database lazy is) in
      let heap = each_at_table (Stands []) (view_of lazy).tables (seen lazy.last s) found (by_recursion (Stands []) (view_of lazy).tables first.own_keys) in
      let own = each_at_table (Stands before) lazy.live.tables s there (by_recursion (Stands before) lazy.live.tables opened.over_live.own_keys) in
      record { heap = heap.heap; workspace = own.workspace }

  each_seen : (ss : List Stored) → AllByRecursion (IsThere lazy.live) ss → AllByRecursion (Stands before) (map (seen lazy.last) ss)
  each_seen [] all = tt
  each_seen (s ∷ ss) all = (own_keys_seen s all.0, each_seen ss all.1)

  pub open_over_view : IsOpen (view_of lazy) before
  open_over_view = record {
    database = subst IsDatabase (commit_is_seen lazy is before opened) (view_is_database (under lazy before) (commit_keeps lazy is before opened));
    by_table_key = opened.over_live.by_table_key;
    own_keys = each (Stands before) (view_of lazy).tables (each_seen lazy.live.tables (all_there lazy.live is.live));
  }

-- a statement is bound in one catalog as in the other
bound_alike : (a b : Database) → IsDatabase b → catalog_of a ≡ catalog_of b → (in_block : Bool) (s : Statement) (act : Action)
    → is_planned in_block s ≡ false → IsBoundAs a in_block s act → IsBoundAs b in_block s act
bound_alike a b is same in_block s act planned bound = record {
  database = is;
  admitted = sym (same_objections b in_block s planned) ∙ ap (λ c. objections (without_rows c) in_block s) (sym same) ∙ same_objections a in_block s planned ∙ bound.admitted;
  action = sym (same_action b s) ∙ ap (λ c. action_of (without_rows c) s) (sym same) ∙ same_action a s ∙ bound.action;
}

-- what all of some writes pass, writes with further ones pass
all_with_writes : (P : Write → Type 0) (more before : List Write) → AllByRecursion P before → AllByRecursion P more
    → AllByRecursion P (fold with_write before more)
all_with_writes P [] before all each_more = all
all_with_writes P (w ∷ more) before all each_more = all_with_writes P more (with_write before w) (with_one_more table_key_cmp table_key_of P before w all each_more.0) each_more.1

all_written : (P : Write → Type 0) (os : List Refusal) (more before : List Write) → AllByRecursion P before → AllByRecursion P more
    → AllByRecursion P (written os before more)
all_written P [] more before all each_more = all_with_writes P more before all each_more
all_written P (o ∷ os) more before all each_more = all

module _ (lazy : LazyState) (is : IsLazy lazy) (before after : List Write) (opened : IsOpenLazily lazy before)
    (in_block : Bool) (s : Statement) (planned : is_planned in_block s ≡ false) (act : Action) (table : Table)
    (bound : IsBoundAs (committed lazy.live before) in_block s act) (on_table : action_table act ≡ Some table)
    (moved : HaveMoved lazy.last (λ last. needed_for last.old last.migrate act))
    (answer : Reply) (step : IsStep lazy.live before after in_block s answer) where
  -- the lazy state that the transaction has made so far
  abbrev now : LazyState
  now = under lazy before

  now_lazy : IsLazy now
  now_lazy = commit_keeps lazy is before opened

  abbrev shown : Database
  shown = committed (view_of lazy) before

  same_view : view_of now ≡ shown
  same_view = commit_is_seen lazy is before opened

  open_shown : IsOpen (view_of lazy) before
  open_shown = open_over_view lazy is before opened

  bound_shown : IsBoundAs shown in_block s act
  bound_shown =
      let same : catalog_of now.live ≡ catalog_of shown = same_catalog lazy.live before ∙ sym (same_catalog_seen lazy is) ∙ sym (same_catalog (view_of lazy) before) in
      bound_alike now.live shown open_shown.database same in_block s act planned bound

  -- the rows of the table, as they are kept and as they are seen
  abbrev kept_rows : List (List Value)
  kept_rows = table_rows now.live table.name

  abbrev shown_rows : List (List Value)
  shown_rows = table_rows shown table.name

  abbrev here : Stored
  here = as_stored table kept_rows

  there : IsThere now.live here
  there = stored_table now.live in_block s act table bound on_table

  shown_there : stored_at shown table.name ≡ Some (seen lazy.last here)
  shown_there = ap (λ db. stored_at db table.name) (sym same_view) ∙ seen_there now now_lazy table.name ∙ ap (option_map (seen lazy.last)) there

  rows_are : shown_rows ≡ with_placed key_cmp (key_of table) kept_rows (due lazy.last table.name)
  rows_are = ap (λ o. unwrap_or (option_map (λ (u : Stored). u.rows) o) []) shown_there ∙ rows_seen now now_lazy here there

  alike : ActsAlike shown_rows kept_rows act
  alike = subst (λ rows. ActsAlike rows kept_rows act) (sym rows_are) (acts_alike now.live lazy.last now_lazy.last here there act on_table moved)

  -- what the step has replied and written
  written_kept : after ≡ written (objections_on kept_rows act) before (writes_of kept_rows act)
  written_kept = step.writes ∙ writes_of_action now.live in_block s act table bound on_table before

  written_shown : after ≡ written (objections_on shown_rows act) before (writes_of shown_rows act)
  written_shown = written_kept ∙ ap₂ (λ os ws. written os before ws) (sym alike.objections) (sym alike.writes)

  module _ (entries : List Entry) (found : Some entries ≡ option_map (λ s. entries_of s.table s.rows) (stored_at (view_of lazy) table.name)) where
    rows_for_shown : rows_for entries before act ≡ shown_rows
    rows_for_shown = rows_there (view_of lazy) before (view_is_database lazy is) open_shown table act (is_on shown in_block s act table bound_shown on_table) entries found

    select_step : IsSelect act → IsStep (view_of lazy) before before in_block s answer
    select_step select =
        let law = select_law 0 now.live in_block s act table bound select on_table in
        let told : select_reply (rows_for entries before act) act ≡ Some answer =
        ap (λ rows. select_reply rows act) rows_for_shown ∙ alike.select ∙ law.0 ∙ ap Some (ap (λ (d : Reply × Database). d.0) (step.meant 0)) in
        select_steps (view_of lazy) before (view_is_database lazy is) open_shown in_block s act table bound_shown on_table entries found {E = Unit {0}} select (Ok answer) told

    change_step : IsChange act → IsStep (view_of lazy) before after in_block s answer
    change_step change =
        let law = reply_law 0 now.live in_block s act table bound change on_table in
        let told : change_reply (rows_for entries before act) act ≡ Some answer =
        ap (λ rows. change_reply rows act) rows_for_shown ∙ alike.change ∙ law ∙ ap Some (ap (λ (d : Reply × Database). d.0) (step.meant 0)) in
        change_steps (view_of lazy) before (view_is_database lazy is) open_shown in_block s act table bound_shown on_table entries found {E = Unit {0}} change (Ok answer) after told
        (written_shown ∙ ap (λ rows. written (objections_on rows act) before (writes_of rows act)) (sym rows_for_shown))

  -- a SELECT writes nothing
  no_writes : (act : Action) → IsSelect act → (rows : List (List Value))
      → written (objections_on rows act) before (writes_of rows act) ≡ before
  no_writes (action.Select t items c fixed) select rows = unwritten (objections_on rows (action.Select t items c fixed))
    where
      unwritten : (os : List Refusal) → written os before [] ≡ before
      unwritten [] = refl
      unwritten (o ∷ os) = refl
  no_writes other select rows = absurd select

  select_or_change : (act : Action) → action_table act ≡ Some table → IsSelect act ⊎ IsChange act
  select_or_change (action.Insert t tuples) on = inr tt
  select_or_change (action.Select t items c fixed) on = inl tt
  select_or_change (action.Update t sets c fixed) on = inr tt
  select_or_change (action.Delete t c fixed) on = inr tt
  select_or_change other on = absurd cc

  -- the step on the live tables is a step on what is seen
  pub step_is_seen : IsStep (view_of lazy) before after in_block s answer
  step_is_seen = on (stored_at (view_of lazy) table.name) refl
    where
      on : (o : Option Stored) → stored_at (view_of lazy) table.name ≡ o → IsStep (view_of lazy) before after in_block s answer
      on None e =
          let none : Some (seen lazy.last here) ≡ None = sym shown_there ∙ seen_at (view_of lazy) before table.name ∙ ap (option_map (written_to before)) e in
          absurd cc
      on (Some u) e =
          let found : Some (entries_of u.table u.rows) ≡ option_map (λ s. entries_of s.table s.rows) (stored_at (view_of lazy) table.name) = ap (option_map (λ (s : Stored). entries_of s.table s.rows)) (sym e) in
          elim (select_or_change act on_table) [
            | inl select ↦ subst (λ ws. IsStep (view_of lazy) before ws in_block s answer) (sym (written_kept ∙ no_writes act select kept_rows)) (select_step (entries_of u.table u.rows) found select)
            | inr change ↦ change_step (entries_of u.table u.rows) found change
          ]

  -- what it writes of the table is to free keys
  abbrev ToFreeKey : Write → Type 0
  ToFreeKey w = (w.table ≡ table.name) × (is_free lazy.last table w.key ≡ true)

  rows_free : (new : List Value → Option (List Value)) (rows : List (List Value))
      → list_all (λ row. not (is_early lazy.last table row)) rows ≡ true
      → AllByRecursion ToFreeKey (map (λ row. write_of table (key_of table row) (new row)) rows)
  rows_free new [] all = tt
  rows_free new (row ∷ rows) all = ((refl, (and_parts _ _ all).0), rows_free new rows (and_parts _ _ all).1)

  selected_free : (c : Cond ℕ) (rows : List (List Value)) → list_all (λ row. not (is_early lazy.last table row)) rows ≡ true
      → list_all (λ row. not (is_early lazy.last table row)) (selected cell c rows) ≡ true
  selected_free c [] all = refl
  selected_free c (row ∷ rows) all = elim (holds_on (cell row) c) as (λ b. list_all (λ row. not (is_early lazy.last table row)) (cond b (row ∷ selected cell c rows) (selected cell c rows)) ≡ true) [
    | true ↦ and_from _ _ (and_parts _ _ all).0 (selected_free c rows (and_parts _ _ all).1)
    | false ↦ selected_free c rows (and_parts _ _ all).1
  ]

  tuples_free : (tuples : List (List Value))
      → list_any (has same_key (map (key_of table) (due lazy.last table.name))) (map (key_of table) tuples) ≡ false
      → AllByRecursion ToFreeKey (map (λ tuple. write_of table (key_of table tuple) (Some tuple)) tuples)
  tuples_free [] none = tt
  tuples_free (tuple ∷ tuples) none =
      let parts = or_parts _ _ none in
      ((refl, not_from_false _ parts.0), tuples_free tuples parts.1)

  rows_on_time : list_all (λ row. not (is_early lazy.last table row)) kept_rows ≡ true
  rows_on_time = kept_on_time now now_lazy here there

  writes_free : (act : Action) → action_table act ≡ Some table → HaveMoved lazy.last (λ last. needed_for last.old last.migrate act)
      → AllByRecursion ToFreeKey (writes_of kept_rows act)
  writes_free (action.Insert t tuples) on need =
      let same : t ≡ table = same_Some t table on in
      let need' = subst (λ t. HaveMoved lazy.last (λ last. giving last.old last.migrate (target_of last.old last.migrate t) (has_key_of t tuples))) same need in
      let none = none_taken table kept_rows (due lazy.last table.name) tuples (none_inserted now.live lazy.last now_lazy.last here there tuples need') in
      subst (λ t. AllByRecursion ToFreeKey (map (λ tuple. write_of t (key_of t tuple) (Some tuple)) tuples)) (sym same) (tuples_free tuples none)
  writes_free (action.Select t items c fixed) on need = tt
  writes_free (action.Update t sets c fixed) on need =
      let same : t ≡ table = same_Some t table on in
      subst (λ t. AllByRecursion ToFreeKey (map (λ row. write_of t (key_of t row) (Some (changed cell (λ place. place) sets row))) (selected cell c kept_rows))) (sym same) (rows_free (λ row. Some (changed cell (λ place. place) sets row)) (selected cell c kept_rows) (selected_free c kept_rows rows_on_time))
  writes_free (action.Delete t c fixed) on need =
      let same : t ≡ table = same_Some t table on in
      subst (λ t. AllByRecursion ToFreeKey (map (λ row. write_of t (key_of t row) None) (selected cell c kept_rows))) (sym same) (rows_free (λ row. None) (selected cell c kept_rows) (selected_free c kept_rows rows_on_time))
  writes_free other on need = absurd cc

  -- so each key of the transaction is free then
  free_then : (u : Stored) → IsThere lazy.live u → AreFree lazy.last before u.table → AreFree lazy.last after u.table
  free_then u there_u free =
      let P : Write → Type 0 = λ w. w.table ≡ u.table.name → is_free lazy.last u.table w.key ≡ true in
      let one : (w : Write) → ToFreeKey w → P w = λ w to same.
      let named : u.table.name ≡ table.name = sym same ∙ to.0 in
      let written : stored_at now.live table.name ≡ Some (written_to before u) = seen_at lazy.live before table.name ∙ ap (option_map (written_to before)) (ap (stored_at lazy.live) (sym named) ∙ there_u) in
      let table_is : table ≡ u.table = ap (λ (v : Stored). v.table) (same_Some here (written_to before u) (sym there ∙ written)) in
      ap (λ t. is_free lazy.last t w.key) (sym table_is) ∙ to.1 in
      subst (AllByRecursion P) (sym written_kept) (all_written P (objections_on kept_rows act) (writes_of kept_rows act) before free (weakened ToFreeKey P one (writes_of kept_rows act) (writes_free act on_table moved)))

  each_free : (us : List Stored) → AllByRecursion (IsThere lazy.live) us → AllByRecursion (λ u. AreFree lazy.last before u.table) us
      → AllByRecursion (λ u. AreFree lazy.last after u.table) us
  each_free [] each_there free = tt
  each_free (u ∷ us) each_there free = (free_then u each_there.0 free.0, each_free us each_there.1 free.1)

  pub still_open : IsOpenLazily lazy after
  still_open = record { over_live = step.is_open; free = each_free lazy.live.tables (all_there lazy.live is.live) opened.free }
