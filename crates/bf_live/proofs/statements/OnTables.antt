-- The action of a statement on its table, on the rows that its transaction sees.
use Rattle.std.proofs.Common.{◌≡◌, ◌≢◌, ℕ, Bool, ◌⊎◌, List, [], Option, Some, None, option_map, unwrap_or, refl, sym, ap, subst, ◌∙◌, inl, inr}
use Rattle.std.specs.Prelude.{IfSome}
use Rattle.std.proofs.lemmas.Option.{same_Some}
use Rattle.bf_base.specs.declared.value.Value.{Value}
use Rattle.bf_base.specs.declared.table.Table.{Table}
use Rattle.bf_tree.specs.Trees.{Cond, Expr}
use Rattle.bf_heap.specs.Heaps.{Entry}
use Rattle.bf_tree.specs.declared.bound.Action.{Action}
use Rattle.bf_tree.specs.declared.bound.Action.TheVariants as action
use Rattle.bf_tree.specs.declared.items.Items.{Items}
use Rattle.bf_tree.specs.declared.reply.Refusal.{Refusal}
use Rattle.bf_tree.specs.declared.statement.Statement.{Statement}
use Rattle.bf_sql.specs.Database.{Database, Stored, IsDatabase, stored_at, table_rows}
use Rattle.bf_txn.specs.declared.write.Write.{Write}
use Rattle.bf_live.specs.Replies.{HaveOwnKeys, IsChange, objections_on, rows_for, action_table, writes_of, written}
use Rattle.bf_live.specs.Meanings.{HoldRowsOf, IsBoundAs, entries_of, writes_after}
use Rattle.bf_live.specs.Merged.{StandUnderOwnKeys, rows_under}
use Rattle.bf_live.proofs.querying.Binding.{as_stored, leaves_keys, stored_table, well_bound}
use Rattle.bf_live.proofs.querying.OwnKeys.{by_recursion}
use Rattle.bf_live.proofs.querying.RowsAsEntries.{hold_rows}
use Rattle.bf_live.specs.Live.{committed, written_to}
use Rattle.bf_live.specs.Actions.{IsOn}
use Rattle.bf_live.specs.Open.{IsOpen}
use Rattle.bf_live.proofs.statements.Named.{found_among}
use Rattle.bf_live.proofs.statements.Seeing.{Stands, seen_at}

-- what a statement is bound to is well bound on its table
pub is_on : (db : Database) (in_block : Bool) (s : Statement) (act : Action) (table : Table) → IsBoundAs db in_block s act
    → action_table act ≡ Some table → IsOn db table act
is_on db in_block s act table bound on = record {
  database = bound.database;
  stored = stored_table db in_block s act table bound on;
  of_table = on;
  bound = well_bound db in_block s act bound;
  leaves = leaves_keys db in_block s act bound;
}

-- an action on a table is a SELECT or a change, and no refusal
pub is_change : (act : Action) (table : Table) → action_table act ≡ Some table
    → ((t : Table) (items : Items (Expr ℕ)) (c : Cond ℕ) (fixed : Option (List Value)) → act ≡ action.Select t items c fixed → ⊥) → IsChange act
is_change (action.Insert t tuples) table on no_select = tt
is_change (action.Select t items c fixed) table on no_select = absurd (no_select t items c fixed refl)
is_change (action.Update t sets c fixed) table on no_select = tt
is_change (action.Delete t c fixed) table on no_select = tt
is_change other table on no_select = absurd cc

pub no_refusal : (act : Action) (table : Table) → action_table act ≡ Some table → (r : Refusal) → act ≢ action.Refused r
no_refusal act table on r same =
    let none = ap action_table (sym same) ∙ on in
    absurd cc

pub of_table : (act : Action) (table : Table)
    → ((items : Items (Expr ℕ)) × (c : Cond ℕ) × (fixed : Option (List Value)) × (act ≡ action.Select table items c fixed))
    ⊎ (((tuples : List (List Value)) × (act ≡ action.Insert table tuples))
    ⊎ (((sets : List (ℕ × Expr ℕ)) × (c : Cond ℕ) × (fixed : Option (List Value)) × (act ≡ action.Update table sets c fixed))
    ⊎ ((c : Cond ℕ) × (fixed : Option (List Value)) × (act ≡ action.Delete table c fixed))))
    → action_table act ≡ Some table
of_table act table (inl (items, c, fixed, is)) = ap action_table is
of_table act table (inr (inl (tuples, is))) = ap action_table is
of_table act table (inr (inr (inl (sets, c, fixed, is)))) = ap action_table is
of_table act table (inr (inr (inr (c, fixed, is)))) = ap action_table is

-- a table that is found under writes is found without them
without_writes : (writes : List Write) (table : Table) (rows : List (List Value)) (o : Option Stored)
    → option_map (written_to writes) o ≡ Some (as_stored table rows)
    → o ≡ Some (as_stored table (unwrap_or (option_map (λ s. s.rows) o) []))
without_writes writes table rows None is = absurd cc
without_writes writes table rows (Some s) is =
    ap (λ (t : Table). Some (as_stored t s.rows)) (ap (λ (t : Stored). t.table) (same_Some (written_to writes s) (as_stored table rows) is))

-- an action on a table that an open transaction sees
module _ (db : Database) (writes : List Write) (is : IsDatabase db) (opened : IsOpen db writes) (table : Table) (act : Action) (on : IsOn (committed db writes) table act) where
  -- the rows of the table, as they are committed
  abbrev pub rows : List (List Value)
  rows = table_rows db table.name

  pub stored : stored_at db table.name ≡ Some (as_stored table rows)
  stored = without_writes writes table (table_rows (committed db writes) table.name) (stored_at db table.name) (sym (seen_at db writes table.name) ∙ on.stored)

  -- are under the writes those that it sees
  pub held : HoldRowsOf (committed db writes) table (entries_of table rows) writes
  held =
      let as_committed = hold_rows db table is stored in
      let found = seen_at db writes table.name ∙ ap (option_map (written_to writes)) stored in
      record {
        entries_by_key = as_committed.entries_by_key;
        writes_by_table_key = opened.by_table_key;
        under_own_keys = found_among (Stands writes) db.tables (as_stored table rows) (by_recursion (Stands writes) db.tables opened.own_keys) table.name stored;
        rows = sym (ap (λ (o : Option Stored). unwrap_or (option_map (λ (s : Stored). s.rows) o) []) found);
      }

  -- so the table has a heap
  pub has_heap : None ≡ option_map (λ s. entries_of s.table s.rows) (stored_at db table.name) → ⊥
  has_heap none =
      let found = none ∙ ap (option_map (λ (s : Stored). entries_of s.table s.rows)) stored in
      cc

  -- in which they are
  module _ (entries : List Entry) (found : Some entries ≡ option_map (λ s. entries_of s.table s.rows) (stored_at db table.name)) where
    are : entries ≡ entries_of table rows
    are = same_Some _ _ (found ∙ ap (option_map (λ (s : Stored). entries_of s.table s.rows)) stored)

    pub own_keys_there : HaveOwnKeys entries writes act
    own_keys_there =
        subst (λ (o : Option Table). IfSome o (λ t. StandUnderOwnKeys t entries writes)) (sym on.of_table)
        (subst (λ (es : List Entry). StandUnderOwnKeys table es writes) (sym are) held.under_own_keys)

    pub rows_there : rows_for entries writes act ≡ table_rows (committed db writes) table.name
    rows_there =
        ap (λ (o : Option Table). unwrap_or (option_map (λ t. rows_under entries writes t.name) o) []) on.of_table
        ∙ ap (λ (es : List Entry). rows_under es writes table.name) are ∙ held.rows

    pub writes_there : (after : List Write)
        → after ≡ written (objections_on (rows_for entries writes act) act) writes (writes_of (rows_for entries writes act) act)
        → after ≡ writes_after (committed db writes) table writes act
    writes_there after made =
        made ∙ ap (λ (rs : List (List Value)). written (objections_on rs act) writes (writes_of rs act)) rows_there
