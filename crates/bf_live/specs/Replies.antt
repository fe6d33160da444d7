-- What bound statements reply and write, on the rows of their table in key order. Columns are places in a row.
use Rattle.std.specs.Prelude.{◌≡◌, ℕ, Bool, not, ◌||◌, is_some, nat_eq, IsTrue, List, [], ◌∷◌, map, flat_map, fold, length, Option, Some, None, IfSome, option_map, unwrap_or, slice_index_or}
use Rattle.std.specs.List.{All, list_all}
use Rattle.bf_base.specs.declared.value.Value.{Value}
use Rattle.bf_base.specs.declared.table.Admit.{Admit}
use Rattle.bf_base.specs.declared.table.Admit.TheVariants as admits
use Rattle.bf_base.specs.declared.table.Table.{Table}
use Rattle.bf_base.specs.Lists.{has}
use Rattle.bf_base.specs.Tables.{cell, key_of, IsKeyWithin}
use Rattle.bf_tree.specs.declared.bound.Action.{Action}
use Rattle.bf_tree.specs.declared.bound.Action.TheVariants as action
use Rattle.bf_tree.specs.declared.reply.Refusal.{Refusal}
use Rattle.bf_tree.specs.declared.reply.Reply.{Reply}
use Rattle.bf_tree.specs.declared.reply.Reply.TheVariants as reply
use Rattle.bf_sql.specs.Conditions.{fixed_key}
use Rattle.bf_sql.specs.Queries.{selected, answer_of, changed}
use Rattle.bf_sql.specs.RowObjections.{insert_objections, change_objections}
use Rattle.bf_tree.specs.ValueObjections.{answer_objections}
use Rattle.bf_heap.specs.Heaps.{Entry, has_row}
use Rattle.bf_txn.specs.declared.write.Write.{Write}
use Rattle.bf_txn.specs.Writes.{KeyWrite, row_written_at, with_write}
use Rattle.bf_live.specs.Merged.{entries_under, rows_under, StandUnderOwnKeys}

-- what the column at a place admits
abbrev pub admitted_at : Table → ℕ → Admit
admitted_at table place = slice_index_or (map (λ column. column.admits) table.columns) place admits.Int

-- the table that an action is on; none for an action that no rows are asked for
abbrev pub action_table : Action → Option Table
action_table (action.Insert table rows) = Some table
action_table (action.Select table items cond fixed) = Some table
action_table (action.Update table sets cond fixed) = Some table
action_table (action.Delete table cond fixed) = Some table
action_table other = None

-- the rows that an action is on, in the entries of its table's heap under the writes of a transaction
abbrev pub rows_for : List Entry → List Write → Action → List (List Value)
rows_for entries writes action = unwrap_or (option_map (λ table. rows_under entries writes table.name) (action_table action)) []

-- and they stand under their own keys
abbrev pub HaveOwnKeys : List Entry → List Write → Action → Type 0
HaveOwnKeys entries writes action = IfSome (action_table action) (λ table. StandUnderOwnKeys table entries writes)

abbrev pub IsSelect : Action → Type 0
IsSelect (action.Select table items cond fixed) = Unit {0}
IsSelect other = ⊥

abbrev pub IsChange : Action → Type 0
IsChange (action.Insert table rows) = Unit {0}
IsChange (action.Update table sets cond fixed) = Unit {0}
IsChange (action.Delete table cond fixed) = Unit {0}
IsChange other = ⊥

-- what the rows have against an action, in order
abbrev pub objections_on : List (List Value) → Action → List Refusal
objections_on rows (action.Insert table tuples) = insert_objections table rows tuples
objections_on rows (action.Select table items cond fixed) = answer_objections cell items (selected cell cond rows)
objections_on rows (action.Update table sets cond fixed) = flat_map (change_objections cell (admitted_at table) sets) (selected cell cond rows)
objections_on rows other = []

abbrev pub unless_refused : List Refusal → Reply → Reply
unless_refused [] told = told
unless_refused (r ∷ rs) told = reply.Refused r

-- REPLY of a SELECT: the first objection, or else its rows
abbrev pub select_reply : List (List Value) → Action → Option Reply
select_reply rows (action.Select table items cond fixed) =
    Some (unless_refused (objections_on rows (action.Select table items cond fixed)) (reply.Rows (answer_of cell items (selected cell cond rows))))
select_reply rows other = None

-- REPLY of a change: the first objection, or else the number of rows
abbrev pub change_reply : List (List Value) → Action → Option Reply
change_reply rows (action.Insert table tuples) = Some (unless_refused (objections_on rows (action.Insert table tuples)) (reply.Inserted (length tuples)))
change_reply rows (action.Update table sets cond fixed) =
    Some (unless_refused (objections_on rows (action.Update table sets cond fixed)) (reply.Updated (length (selected cell cond rows))))
change_reply rows (action.Delete table cond fixed) = Some (reply.Deleted (length (selected cell cond rows)))
change_reply rows other = None

abbrev pub write_of : Table → List Value → Option (List Value) → Write
write_of table key row = record { table = table.name; key = key; row = row }

-- WRITES of a change: each tuple; each selected row with its sets, all from the old row; each selected row's removal
abbrev pub writes_of : List (List Value) → Action → List Write
writes_of rows (action.Insert table tuples) = map (λ tuple. write_of table (key_of table tuple) (Some tuple)) tuples
writes_of rows (action.Update table sets cond fixed) =
    map (λ row. write_of table (key_of table row) (Some (changed cell (λ place. place) sets row))) (selected cell cond rows)
writes_of rows (action.Delete table cond fixed) = map (λ row. write_of table (key_of table row) None) (selected cell cond rows)
writes_of rows other = []

-- the workspace after a change: as it was where something stands in the way
abbrev pub written : List Refusal → List Write → List Write → List Write
written [] writes more = fold with_write writes more
written (r ∷ rs) writes more = writes

-- what a bound action has to be: its key is the one that its condition fixes, and each tuple has values for the key's columns
abbrev pub IsWellBound : Action → Type 0
IsWellBound (action.Insert table tuples) = All (IsKeyWithin table) tuples
IsWellBound (action.Select table items cond fixed) = fixed ≡ fixed_key table cond
IsWellBound (action.Update table sets cond fixed) = fixed ≡ fixed_key table cond
IsWellBound (action.Delete table cond fixed) = fixed ≡ fixed_key table cond
IsWellBound other = Unit {0}

-- an UPDATE sets no column of the key
abbrev pub LeavesKeys : Action → Type 0
LeavesKeys (action.Update table sets cond fixed) = IsTrue (list_all (λ set. not (has nat_eq table.key set.0)) sets)
LeavesKeys other = Unit {0}

-- whether a row has a key, or an earlier tuple, whose writes are gathered
abbrev pub is_taken : List Entry → List Write → List KeyWrite → List ℕ → List Value → Bool
is_taken entries writes earlier table key = has_row (entries_under entries writes table) key || is_some (row_written_at earlier key)
