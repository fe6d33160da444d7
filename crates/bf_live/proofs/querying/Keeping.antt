-- The writes of an action are to its table, and keep rows under their own keys.
use Rattle.std.proofs.Common.{◌≡◌, ◌≢◌, ℕ, true, false, not, List, [], ◌∷◌, map, filter, fold, length, Some, None, refl, sym, ap, ap₂, subst, ◌∙◌, inl, inr, arith, get_or-set_other}
use Rattle.std.specs.Prelude.{pos, slice_set, nat_eq, nat_lt}
use Rattle.std.specs.List.{AllByRecursion, list_all}
use Rattle.std.proofs.lemmas.Bool.{and_parts, and_from, or_parts, not-true, not_from_false, cases_Bool}
use Rattle.std.proofs.lemmas.Bool.Decides.{nat_tests}
use Rattle.std.proofs.lemmas.List.{length-set}
use Rattle.std.proofs.lemmas.Option.{same_Some}
use Rattle.bf_base.specs.declared.value.Value.{Value}
use Rattle.bf_base.specs.declared.value.Value.TheVariants.{Int}
use Rattle.bf_base.specs.declared.table.Table.{Table}
use Rattle.bf_base.specs.Lists.{has, same_name}
use Rattle.bf_base.specs.Tables.{cell, cells, key_of, IsKeyWithin}
use Rattle.bf_base.proofs.Names.{same_name-tie}
use Rattle.bf_base.proofs.Order.{equal_from_test}
use Rattle.bf_base.proofs.Ties.{name_ties}
use Rattle.bf_tree.specs.Evaluation.{holds_on, sure_value}
use Rattle.bf_tree.specs.Trees.{Expr}
use Rattle.bf_heap.specs.Heaps.{Entry}
use Rattle.bf_tree.specs.declared.bound.Action.{Action}
use Rattle.bf_tree.specs.declared.bound.Action.TheVariants as action
use Rattle.bf_sql.specs.Queries.{changed}
use Rattle.bf_txn.specs.declared.write.Write.{Write}
use Rattle.bf_txn.specs.Writes.{table_key_cmp, table_key_of, with_write}
use Rattle.bf_live.specs.Replies.{IsWellBound, action_table, write_of, writes_of, LeavesKeys}
use Rattle.bf_live.specs.Merged.{entries_under, rows_under, HasOwnKey, WritesOwnKey, StandUnderOwnKeys}
use Rattle.bf_live.proofs.querying.Effects.{AreTo, others_stay}
use Rattle.bf_live.proofs.querying.OwnKeys.{by_recursion, each, filtered, with_one_more, own_keys, rows_within}

module _ (name : List ℕ) (f : List Value → Write) (to : (row : List Value) → (f row).table ≡ name) where
  pub mapped_to : (rows : List (List Value)) → AreTo name (map f rows)
  mapped_to [] = tt
  mapped_to (row ∷ rows) = (to row, mapped_to rows)

-- the writes of an action are to its table
pub writes_are_to : (rows : List (List Value)) (act : Action) (table : Table) → action_table act ≡ Some table → AreTo table.name (writes_of rows act)
writes_are_to rows (action.Insert t tuples) table is = mapped_to table.name _ (λ tuple. ap (λ (t : Table). t.name) (same_Some t table is)) tuples
writes_are_to rows (action.Select t items cond fixed) table is = tt
writes_are_to rows (action.Update t sets cond fixed) table is = mapped_to table.name _ (λ row. ap (λ (t : Table). t.name) (same_Some t table is)) (filter (λ row. holds_on (cell row) cond) rows)
writes_are_to rows (action.Delete t cond fixed) table is = mapped_to table.name _ (λ row. ap (λ (t : Table). t.name) (same_Some t table is)) (filter (λ row. holds_on (cell row) cond) rows)
writes_are_to rows other table is = absurd cc

pub apart_names : (a b : List ℕ) → a ≢ b → same_name b a ≡ false
apart_names a b apart = elim (cases_Bool (same_name b a)) [
  | inl same ↦ absurd (apart (sym ((name_ties b a).0 (equal_from_test _ (sym (same_name-tie b a) ∙ same)))))
  | inr other ↦ other
]

pub other_tables_stay : (act : Action) (table : Table) (other : List ℕ) (rows : List (List Value)) (entries : List Entry) (writes : List Write) → action_table act ≡ Some table → other ≢ table.name
    → rows_under entries (fold with_write writes (writes_of rows act)) other ≡ rows_under entries writes other
other_tables_stay act table other rows entries writes is apart = others_stay entries writes (writes_of rows act) table.name other (writes_are_to rows act table is) (apart_names other table.name apart)

-- what is true of writes stays true with more writes of which it is true
kept_with : (P : Write → Type 0) (writes more : List Write) → AllByRecursion P writes → AllByRecursion P more → AllByRecursion P (fold with_write writes more)
kept_with P writes [] all new = all
kept_with P writes (w ∷ more) all new = kept_with P (with_write writes w) more (with_one_more table_key_cmp table_key_of P writes w all new.0) new.1

stand_with : (table : Table) (entries : List Entry) (writes more : List Write) → StandUnderOwnKeys table entries writes → AllByRecursion (WritesOwnKey table) more → StandUnderOwnKeys table entries (fold with_write writes more)
stand_with table entries writes more stand new = record {
  heap = stand.heap;
  workspace = each (WritesOwnKey table) _ (kept_with (WritesOwnKey table) writes more (by_recursion (WritesOwnKey table) writes stand.workspace) new);
}

-- writes to another table
of_other : (table : Table) (name : List ℕ) (writes : List Write) → AreTo name writes → table.name ≢ name → AllByRecursion (WritesOwnKey table) writes
of_other table name [] to apart = tt
of_other table name (w ∷ writes) to apart = ((λ row is some. absurd (apart (sym is ∙ to.0))), of_other table name writes to.1 apart)

pub others_keep : (act : Action) (table other : Table) (rows : List (List Value)) (entries : List Entry) (writes : List Write) → action_table act ≡ Some table → other.name ≢ table.name → StandUnderOwnKeys other entries writes
    → StandUnderOwnKeys other entries (fold with_write writes (writes_of rows act))
others_keep act table other rows entries writes is apart stand = stand_with other entries writes (writes_of rows act) stand (of_other other table.name (writes_of rows act) (writes_are_to rows act table is) apart)

-- a row with sets on other columns than the key's has its key
module _ (table : Table) (row : List Value) where
  same_length : (sets : List (ℕ × Expr ℕ)) (new : List Value) → length (fold (λ new set. slice_set new set.0 (sure_value (cell row) set.1)) new sets) ≡ length new
  same_length [] new = refl
  same_length (set ∷ sets) new = same_length sets (slice_set new set.0 (sure_value (cell row) set.1)) ∙ length-set new set.0 (sure_value (cell row) set.1)

  same_cell : (place : ℕ) (sets : List (ℕ × Expr ℕ)) (new : List Value) → list_all (λ set. not (nat_eq set.0 place)) sets ≡ true → cell (fold (λ new set. slice_set new set.0 (sure_value (cell row) set.1)) new sets) place ≡ cell new place
  same_cell place [] new all = refl
  same_cell place (set ∷ sets) new all =
      let parts = and_parts (not (nat_eq set.0 place)) (list_all (λ set. not (nat_eq set.0 place)) sets) all in
      let apart : place ≢ set.0 = not_same set.0 place (not-true _ parts.0) in
      same_cell place sets (slice_set new set.0 (sure_value (cell row) set.1)) parts.1 ∙ get_or-set_other new set.0 place (sure_value (cell row) set.1) (Int (pos 0)) apart
    where
      not_same : (m n : ℕ) → nat_eq m n ≡ false → n ≡ m → ⊥
      not_same m n other same = grind (arith, nat_tests)

  same_cells : (places : List ℕ) (sets : List (ℕ × Expr ℕ)) → AllByRecursion (λ place. list_all (λ set. not (nat_eq set.0 place)) sets ≡ true) places → cells places (changed cell (λ place. place) sets row) ≡ cells places row
  same_cells [] sets all = refl
  same_cells (place ∷ places) sets all = ap₂ (λ v vs. v ∷ vs) (same_cell place sets row all.0) (same_cells places sets all.1)

-- sets on none of some places are on none of each
on_none : (place : ℕ) (places : List ℕ) (sets : List (ℕ × Expr ℕ)) → list_all (λ set. not (has nat_eq (place ∷ places) set.0)) sets ≡ true
    → (list_all (λ set. not (nat_eq set.0 place)) sets ≡ true) × (list_all (λ set. not (has nat_eq places set.0)) sets ≡ true)
on_none place places [] all = (refl, refl)
on_none place places (set ∷ sets) all =
    let parts = and_parts (not (has nat_eq (place ∷ places) set.0)) (list_all (λ set. not (has nat_eq (place ∷ places) set.0)) sets) all in
    let here = or_parts (nat_eq set.0 place) (has nat_eq places set.0) (not-true _ parts.0) in
    let rest = on_none place places sets parts.1 in (
      and_from _ _ (not_from_false _ here.0) rest.0,
      and_from _ _ (not_from_false _ here.1) rest.1,
    )

on_no_place : (places : List ℕ) (sets : List (ℕ × Expr ℕ)) → list_all (λ set. not (has nat_eq places set.0)) sets ≡ true → AllByRecursion (λ place. list_all (λ set. not (nat_eq set.0 place)) sets ≡ true) places
on_no_place [] sets all = tt
on_no_place (place ∷ places) sets all = ((on_none place places sets all).0, on_no_place places sets (on_none place places sets all).1)

kept_by_update : (table : Table) (row : List Value) (sets : List (ℕ × Expr ℕ)) → list_all (λ set. not (has nat_eq table.key set.0)) sets ≡ true → IsKeyWithin table row → HasOwnKey table (key_of table row) (changed cell (λ place. place) sets row)
kept_by_update table row sets leaves within = (
  subst (λ count. list_all (λ place. nat_lt place count) table.key ≡ true) (sym (same_length table row sets row)) within,
  same_cells table row table.key sets (on_no_place table.key sets leaves),
)

module _ (table : Table) (f : List Value → Write) (P : List Value → Type 0) (own : (row : List Value) → P row → WritesOwnKey table (f row)) where
  mapped_own : (rows : List (List Value)) → AllByRecursion P rows → AllByRecursion (WritesOwnKey table) (map f rows)
  mapped_own [] all = tt
  mapped_own (row ∷ rows) all = (own row all.0, mapped_own rows all.1)

-- each write of an action puts a row under its own key
own_writes : (rows : List (List Value)) (act : Action) (table : Table) → action_table act ≡ Some table → AllByRecursion (IsKeyWithin table) rows → IsWellBound act → LeavesKeys act → AllByRecursion (WritesOwnKey table) (writes_of rows act)
own_writes rows (action.Insert t tuples) table is within bound leaves =
    subst (λ u. AllByRecursion (WritesOwnKey u) (map (λ tuple. write_of t (key_of t tuple) (Some tuple)) tuples)) (same_Some t table is)
    (mapped_own t (λ tuple. write_of t (key_of t tuple) (Some tuple)) (IsKeyWithin t) (λ tuple in_key row same some. subst (HasOwnKey t (key_of t tuple)) (same_Some tuple row some) (in_key, refl)) tuples (by_recursion (IsKeyWithin t) tuples bound))
own_writes rows (action.Select t items cond fixed) table is within bound leaves = tt
own_writes rows (action.Update t sets cond fixed) table is within bound leaves =
    let selected_rows = filter (λ row. holds_on (cell row) cond) rows in
    let within_t = subst (λ u. AllByRecursion (IsKeyWithin u) rows) (sym (same_Some t table is)) within in
    subst (λ u. AllByRecursion (WritesOwnKey u) (map (λ row. write_of t (key_of t row) (Some (changed cell (λ place. place) sets row))) selected_rows)) (same_Some t table is)
    (mapped_own t (λ row. write_of t (key_of t row) (Some (changed cell (λ place. place) sets row))) (IsKeyWithin t) (λ old in_key row same some. subst (HasOwnKey t (key_of t old)) (same_Some _ row some) (kept_by_update t old sets leaves in_key)) selected_rows
    (filtered (IsKeyWithin t) (λ row. holds_on (cell row) cond) rows within_t))
own_writes rows (action.Delete t cond fixed) table is within bound leaves =
    mapped_own table (λ row. write_of t (key_of t row) None) (IsKeyWithin table) (λ old in_key row same some. absurd cc) (filter (λ row. holds_on (cell row) cond) rows)
    (filtered (IsKeyWithin table) (λ row. holds_on (cell row) cond) rows within)
own_writes rows other table is within bound leaves = absurd cc

pub own_kept : (act : Action) (table : Table) (entries : List Entry) (writes : List Write) → action_table act ≡ Some table → IsWellBound act → LeavesKeys act → StandUnderOwnKeys table entries writes
    → StandUnderOwnKeys table entries (fold with_write writes (writes_of (rows_under entries writes table.name) act))
own_kept act table entries writes is bound leaves stand =
    let within = rows_within table (entries_under entries writes table.name) (own_keys table entries writes stand) in
    stand_with table entries writes (writes_of (rows_under entries writes table.name) act) stand (own_writes (rows_under entries writes table.name) act table is within bound leaves)
