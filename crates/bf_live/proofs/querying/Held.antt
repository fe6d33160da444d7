-- Entries under the writes of a change hold the rows of the database that it makes.
use Rattle.std.proofs.Common.{◌≡◌, ◌≢◌, ℕ, Bool, false, cond, if◌then◌else◌, List, [], ◌∷◌, map, find, Option, Some, option_map, unwrap_or, refl, sym, ap, subst, ◌∙◌, inl, inr}
use Rattle.std.proofs.lemmas.Bool.{cases_Bool}
use Rattle.std.proofs.lemmas.Option.{same_Some}
use Rattle.bf_base.specs.declared.value.Value.{Value}
use Rattle.bf_base.specs.declared.table.Table.{Table}
use Rattle.bf_base.specs.Lists.{same_name}
use Rattle.bf_heap.specs.Heaps.{Entry}
use Rattle.bf_tree.specs.declared.bound.Action.{Action}
use Rattle.bf_tree.specs.declared.reply.Refusal.{Refusal}
use Rattle.bf_tree.specs.declared.statement.Statement.{Statement}
use Rattle.bf_sql.specs.Database.{Database, Stored, stored_at, table_rows, with_rows}
use Rattle.bf_sql.specs.Meaning.{executed}
use Rattle.bf_txn.specs.declared.write.Write.{Write}
use Rattle.bf_txn.specs.Writes.{AreWrites}
use Rattle.bf_live.specs.Replies.{IsChange, objections_on, action_table, writes_of, written}
use Rattle.bf_live.specs.Meanings.{HoldRowsOf, IsBoundAs, entries_of, rows_after, writes_after}
use Rattle.bf_live.specs.Merged.{StandUnderOwnKeys, rows_under}
use Rattle.bf_live.proofs.querying.AsWritten.{database_law}
use Rattle.bf_live.proofs.querying.Binding.{as_stored, leaves_keys, one_name, stored_table, well_bound}
use Rattle.bf_live.proofs.querying.Effects.{sorted_with_all}
use Rattle.bf_live.proofs.querying.Keeping.{apart_names, other_tables_stay, others_keep, own_kept}
use Rattle.bf_live.proofs.querying.RowsAsEntries.{hold_rows}

-- tables with other rows in that of a name
module _ (name : List ℕ) (rows : List (List Value)) where
  abbrev with_new : Stored → Stored
  with_new s = if same_name s.table.name name then record s { rows = rows } else s

  found_new : (tables : List Stored) (x : Stored) → find (λ s. same_name s.table.name name) tables ≡ Some x → find (λ s. same_name s.table.name name) (map with_new tables) ≡ Some (as_stored x.table rows)
  found_new [] x is = absurd cc
  found_new (s ∷ tables) x is = elim (cases_Bool (same_name s.table.name name)) [
    | inl same ↦
        let first : s ≡ x = same_Some s x (sym (ap (λ b. cond b (Some s) (find (λ (s : Stored). same_name s.table.name name) tables)) same) ∙ is) in
        rw (same, same) (ap (λ (t : Stored). Some (as_stored t.table rows)) first)
    | inr other ↦
        let rest = found_new tables x (sym (ap (λ b. cond b (Some s) (find (λ (s : Stored). same_name s.table.name name) tables)) other) ∙ is) in
        rw (other, other) rest
  ]

  found_still : (other : List ℕ) → same_name name other ≡ false → (tables : List Stored) → find (λ s. same_name s.table.name other) (map with_new tables) ≡ find (λ s. same_name s.table.name other) tables
  found_still other apart [] = refl
  found_still other apart (s ∷ tables) =
      let rest = found_still other apart tables in
      elim (cases_Bool (same_name s.table.name name)) [
        | inl same ↦
            let unlike : same_name s.table.name other ≡ false = ap (λ (n : List ℕ). same_name n other) (one_name s.table.name name same) ∙ apart in
            rw (same, unlike) rest
        | inr unlike ↦ rw unlike (ap (λ (found : Option Stored). cond (same_name s.table.name other) (Some s) found) rest)
      ]

new_rows : (db : Database) (name : List ℕ) (rows : List (List Value)) (x : Stored) → stored_at db name ≡ Some x → table_rows (with_rows db name rows) name ≡ rows
new_rows db name rows x stored = ap (λ (found : Option Stored). unwrap_or (option_map (λ (s : Stored). s.rows) found) []) (found_new name rows db.tables x stored)

other_rows : (db : Database) (name other : List ℕ) (rows : List (List Value)) → same_name name other ≡ false → table_rows (with_rows db name rows) other ≡ table_rows db other
other_rows db name other rows apart = ap (λ (found : Option Stored). unwrap_or (option_map (λ (s : Stored). s.rows) found) []) (found_still name rows other apart db.tables)

-- the writes after a change are those before it, or those with more
after_some : (P : List Write → Type 0) (rs : List Refusal) (writes more : List Write) → P writes → P (written [] writes more) → P (written rs writes more)
after_some P [] writes more before after = after
after_some P (r ∷ rs) writes more before after = before

module _ (commit : ℕ) (db : Database) (in_block : Bool) (s : Statement) (act : Action) (table : Table) (bound : IsBoundAs db in_block s act) (is : IsChange act) (on : action_table act ≡ Some table) where
  abbrev rows : List (List Value)
  rows = table_rows db table.name

  sorted : (writes : List Write) → AreWrites writes → AreWrites (writes_after db table writes act)
  sorted writes before = after_some AreWrites (objections_on rows act) writes (writes_of rows act) before (sorted_with_all writes (writes_of rows act) before)

  stored : stored_at db table.name ≡ Some (as_stored table rows)
  stored = stored_table db in_block s act table bound on

  pub own_held : (entries : List Entry) (writes : List Write) → HoldRowsOf db table entries writes → HoldRowsOf (executed commit db in_block s).1 table entries (writes_after db table writes act)
  own_held entries writes hold =
      let new = rows_after db table entries writes act in
      let made = database_law commit db in_block s act table entries writes bound is on hold in
      let kept = own_kept act table entries writes on (well_bound db in_block s act bound) (leaves_keys db in_block s act bound) hold.under_own_keys in
      record {
        entries_by_key = hold.entries_by_key;
        writes_by_table_key = sorted writes hold.writes_by_table_key;
        under_own_keys =
            after_some (StandUnderOwnKeys table entries) (objections_on rows act) writes (writes_of rows act) hold.under_own_keys
            (subst (λ (rs : List (List Value)). StandUnderOwnKeys table entries (written [] writes (writes_of rs act))) hold.rows kept);
        rows = sym (ap (λ (after : Database). table_rows after table.name) made ∙ new_rows db table.name new (as_stored table rows) stored);
      }

  pub others_held : (other : Table) (entries : List Entry) (writes : List Write) → other.name ≢ table.name → HoldRowsOf db other entries writes → HoldRowsOf (executed commit db in_block s).1 other entries (writes_after db table writes act)
  others_held other entries writes apart hold =
      let new = rows_after db table (entries_of table rows) [] act in
      let made = database_law commit db in_block s act table (entries_of table rows) [] bound is on (hold_rows db table bound.database stored) in
      let stay = other_tables_stay act table other.name rows entries writes on apart in
      let as_before = after_some (λ (ws : List Write). rows_under entries ws other.name ≡ rows_under entries writes other.name) (objections_on rows act) writes (writes_of rows act) refl stay in
      record {
        entries_by_key = hold.entries_by_key;
        writes_by_table_key = sorted writes hold.writes_by_table_key;
        under_own_keys =
            after_some (StandUnderOwnKeys other entries) (objections_on rows act) writes (writes_of rows act) hold.under_own_keys
            (others_keep act table other rows entries writes on apart hold.under_own_keys);
        rows = as_before ∙ hold.rows ∙ sym (ap (λ (after : Database). table_rows after other.name) made ∙ other_rows db table.name other.name new (apart_names other.name table.name apart));
      }
