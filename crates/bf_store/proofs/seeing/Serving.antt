-- A bound statement on the live tables, once what it needs has moved: it replies and writes what it does on what is seen.
use Rattle.std.proofs.Common.{◌≡◌, ℕ, Bool, true, false, ◌&&◌, ◌||◌, cond, List, [], ◌∷◌, ◌++◌, map, filter, flat_map, find, length, ℤ, Option, Some, None, refl, sym, ap, ap₂, subst, ◌∙◌, inl, inr, nat_eq, arith}
use Rattle.std.specs.List.{list_any, list_all}
use Rattle.std.specs.Ordering.{int_eq}
use lib.Pointwise.{pointwise}
use Rattle.std.proofs.lemmas.Bool.{and_parts, and_from, or_parts, or_from, false≢true, cases_Bool, eq-eqb}
use Rattle.std.proofs.lemmas.List.{map-append}
use Rattle.std.proofs.lemmas.List.Folds.{list_any-append, list_all-append}
use Rattle.bf_base.specs.declared.table.Admit.{Admit}
use Rattle.bf_base.specs.declared.table.Admit.TheVariants as admits
use Rattle.bf_base.specs.declared.table.Table.{Table}
use Rattle.bf_base.specs.declared.value.Value.{Value}
use Rattle.bf_base.specs.Lists.{same_name, same_key, has, with_placed, with_before_from, when}
use Rattle.bf_base.specs.Tables.{cell, key_of}
use Rattle.bf_base.specs.Values.{key_cmp, key_cmp_total}
use Rattle.bf_base.proofs.Apart.{filter-with_placed}
use Rattle.bf_base.proofs.Order.{same_from_some, symmetric, list_any-map, has-with_placed}
use Rattle.bf_base.proofs.Parts.{flat_map_none, nothing_left, has_either_way}
use Rattle.bf_tree.specs.declared.bound.Action.{Action}
use Rattle.bf_tree.specs.declared.bound.Action.TheVariants as action
use Rattle.bf_tree.specs.declared.items.Items.{Items}
use Rattle.bf_tree.specs.declared.migration.Target.{Target}
use Rattle.bf_tree.specs.declared.reply.Refusal.TheVariants as refusal
use Rattle.bf_tree.specs.declared.reply.Reply.TheVariants as reply
use Rattle.bf_tree.specs.Evaluation.{holds_on}
use Rattle.bf_tree.specs.Fixed.{conjuncts}
use Rattle.bf_tree.specs.Trees.{Expr, Cond, always, compared, between, opposite}
use Rattle.bf_tree.specs.Trees.{both, either}
use Rattle.bf_sql.specs.Database.{Database, Stored, same_admit, same_column, same_table}
use Rattle.bf_sql.specs.Queries.{selected, answer_of, changed}
use Rattle.bf_sql.specs.RowObjections.{unfit_row_objections, taken_key_objections, change_objections}
use Rattle.bf_tree.specs.ValueObjections.{answer_objections}
use Rattle.bf_sql.specs.migrations.Granules.{granules_of, part_in}
use Rattle.bf_sql.specs.migrations.Lazy.{Migration, is_done, pending, due}
use Rattle.bf_sql.specs.migrations.Need.{mentions_total, may_satisfy, has_key_of, target_of, giving, needed_for}
use Rattle.bf_sql.specs.migrations.Targets.{target_table}
use Rattle.bf_live.specs.Replies.{action_table, admitted_at, objections_on, select_reply, change_reply, writes_of, write_of, unless_refused}
use Rattle.bf_image.proofs.items.Names.{name-equal, name-itself}
use Rattle.bf_live.proofs.statements.Named.{IsThere}
use Rattle.bf_store.specs.States.{IsUnderWay, IsUnderWayIfAny, HaveMoved}
use Rattle.bf_store.proofs.coming.Due.{made_by}
use Rattle.bf_store.proofs.coming.Found.{passes_if_found, none_if_not_found}
use Rattle.bf_store.proofs.coming.Parts.{elsewhere}

counted : (mentions : Bool) (holds : Bool) → holds ≡ true → ((mentions || holds) && true) ≡ true
counted true holds e = refl
counted false holds e = ap (λ b. b && true) e

-- a row that satisfies a condition satisfies each of its conjuncts, those too that are counted as true
may_if_holds : (t : Target) (c : Cond ℕ) (row : List Value) → holds_on (cell row) c ≡ true → may_satisfy c t row ≡ true
may_if_holds t (both c d) row h =
    let parts = and_parts (holds_on (cell row) c) (holds_on (cell row) d) h in
    list_all-append (λ c. mentions_total t c || holds_on (cell row) c) (conjuncts c) (conjuncts d)
    ∙ and_from _ _ (may_if_holds t c row parts.0) (may_if_holds t d row parts.1)
may_if_holds t always row h = counted (mentions_total t always) _ h
may_if_holds t (compared op a b) row h = counted (mentions_total t (compared op a b)) _ h
may_if_holds t (between a b c) row h = counted (mentions_total t (between a b c)) _ h
may_if_holds t (opposite c) row h = counted (mentions_total t (opposite c)) _ h
may_if_holds t (either c d) row h = counted (mentions_total t (either c d)) _ h

none_holds : (t : Target) (c : Cond ℕ) (rows : List (List Value)) → list_any (may_satisfy c t) rows ≡ false
    → list_any (λ row. holds_on (cell row) c) rows ≡ false
none_holds t c [] none = refl
none_holds t c (row ∷ rows) none =
    let parts = or_parts _ _ none in
    elim (cases_Bool (holds_on (cell row) c)) [
      | inl holds ↦ absurd (false≢true (sym parts.0 ∙ may_if_holds t c row holds))
      | inr fails ↦ or_from _ _ fails (none_holds t c rows parts.1)
    ]

-- a table is the same as itself
same_number : (n : ℤ) → int_eq n n ≡ true
same_number n = grind arith

same_admit-itself : (a : Admit) → same_admit a a ≡ true
same_admit-itself admits.Int = refl
same_admit-itself (admits.Checked low high) = and_from _ _ (same_number low) (same_number high)
same_admit-itself (admits.Varchar most) = eq-eqb most most refl

pointwise-itself : {X : Type 0} (same : X → X → Bool) → ((x : X) → same x x ≡ true) → (xs : List X) → pointwise same xs xs ≡ true
pointwise-itself same itself [] = refl
pointwise-itself same itself (x ∷ xs) = and_from _ _ (itself x) (pointwise-itself same itself xs)

same_table-itself : (t : Table) → same_table t t ≡ true
same_table-itself t =
    and_from _ _ (and_from _ _ (name-itself t.name) (pointwise-itself same_column (λ c. and_from _ _ (name-itself c.name) (same_admit-itself c.admits)) t.columns))
    (pointwise-itself nat_eq (λ n. eq-eqb n n refl) t.key)

-- a narrower test finds what a wider one does, where that passes it
found_by_narrower : {X : Type 0} (wide narrow : X → Bool) → ((x : X) → narrow x ≡ true → wide x ≡ true) → (xs : List X) (x : X)
    → find wide xs ≡ Some x → narrow x ≡ true → find narrow xs ≡ Some x
found_by_narrower wide narrow within [] x e passes = absurd cc
found_by_narrower wide narrow within (y ∷ ys) x e passes = elim (cases_Bool (wide y)) [
  | inl is ↦
      let here : y ≡ x = same_from_some y x (sym (ap (λ b. cond b (Some y) (find wide ys)) is) ∙ e) in
      let passes' : narrow y ≡ true = ap narrow here ∙ passes in
      rw passes' (ap Some here)
  | inr other ↦
      let behind : find wide ys ≡ Some x = sym (ap (λ b. cond b (Some y) (find wide ys)) other) ∙ e in
      let rest = found_by_narrower wide narrow within ys x behind passes in
      elim (cases_Bool (narrow y)) [
        | inl n ↦ absurd (false≢true (sym other ∙ within y n))
        | inr n ↦ rw n rest
      ]
]

module _ (live : Database) (last : Migration) (way : IsUnderWay live last) (s : Stored) (there : IsThere live s) (test : Target → List Value → Bool)
    (moved : list_all (is_done last) (giving last.old last.migrate (target_of last.old last.migrate s.table) test) ≡ true) where
  abbrev with_name : Target → Bool
  with_name t = same_name t.name s.table.name

  -- no row to come passes the test of the target that the table is
  none_due : (t : Target) → find with_name last.migrate.targets ≡ Some t → list_any (test t) (due (Some last) s.table.name) ≡ false
  none_due t found =
      let made = made_by live last way s there t found in
      let same = name-equal t.name s.table.name (passes_if_found with_name last.migrate.targets t found) in
      let itself : same_table (target_table last.old t) s.table ≡ true = ap (same_table (target_table last.old t)) made ∙ same_table-itself (target_table last.old t) in
      let is_it : target_of last.old last.migrate s.table ≡ Some t = found_by_narrower with_name (λ t. same_table (target_table last.old t) s.table) (λ t e. (and_parts _ _ (and_parts _ _ e).0).0) last.migrate.targets t found itself in
      let here : list_all (is_done last) (giving last.old last.migrate (Some t) test) ≡ true = ap (λ o. list_all (is_done last) (giving last.old last.migrate o test)) (sym is_it) ∙ moved in
      let named_so : list_all (is_done last) (filter (λ g. list_any (test t) (part_in last.old last.migrate s.table.name g)) (granules_of last.old last.migrate)) ≡ true =
      ap (λ name. list_all (is_done last) (filter (λ g. list_any (test t) (part_in last.old last.migrate name g)) (granules_of last.old last.migrate))) (sym same) ∙ here in
      nothing_left (part_in last.old last.migrate s.table.name) (test t) (is_done last) (granules_of last.old last.migrate) named_so

  none_passes : (P : List Value → Bool) → ((t : Target) → s.table ≡ target_table last.old t → list_any (test t) (due (Some last) s.table.name) ≡ false → list_any P (due (Some last) s.table.name) ≡ false)
      → list_any P (due (Some last) s.table.name) ≡ false
  none_passes P so = on (find with_name last.migrate.targets) refl
    where
      on : (found : Option Target) → find with_name last.migrate.targets ≡ found → list_any P (due (Some last) s.table.name) ≡ false
      on None e = ap (list_any P) (flat_map_none (part_in last.old last.migrate s.table.name) (elsewhere last.old last.migrate s.table.name (none_if_not_found with_name last.migrate.targets e)) (pending last))
      on (Some t) e = so t (made_by live last way s there t e) (none_due t e)

-- what an action makes of rows as they are seen, and as they are kept
pub record ActsAlike (rows_seen rows_kept : List (List Value)) (act : Action) : Type 0 where
  pub select : select_reply rows_seen act ≡ select_reply rows_kept act
  pub change : change_reply rows_seen act ≡ change_reply rows_kept act
  pub objections : objections_on rows_seen act ≡ objections_on rows_kept act
  pub writes : writes_of rows_seen act ≡ writes_of rows_kept act

module _ (table : Table) (rows coming : List (List Value)) where
  abbrev keys : List (List Value) → List (List Value)
  keys = map (key_of table)

  abbrev seen_rows : List (List Value)
  seen_rows = with_placed key_cmp (key_of table) rows coming

  same_selected : (c : Cond ℕ) → list_any (λ row. holds_on (cell row) c) coming ≡ false → selected cell c seen_rows ≡ selected cell c rows
  same_selected c none = filter-with_placed key_cmp_total (key_of table) (λ row. holds_on (cell row) c) rows coming none

  taken_alike : (earlier : List (List Value)) (tuple : List Value) → has same_key (keys coming) (key_of table tuple) ≡ false
      → has same_key (keys (seen_rows ++ earlier)) (key_of table tuple) ≡ has same_key (keys (rows ++ earlier)) (key_of table tuple)
  taken_alike earlier tuple free =
      let k = key_of table tuple in
      let split : (rs : List (List Value)) → has same_key (keys (rs ++ earlier)) k ≡ (has same_key (keys rs) k || has same_key (keys earlier) k) = λ rs.
      ap (λ ks. has same_key ks k) (map-append (key_of table) rs earlier) ∙ list_any-append (same_key k) (keys rs) (keys earlier) in
      let shown : has same_key (keys seen_rows) k ≡ has same_key (keys rows) k =
      has-with_placed key_cmp_total (key_of table) rows coming k
      ∙ ap (λ ks. has same_key ks k) (map-append (key_of table) rows coming)
      ∙ list_any-append (same_key k) (keys rows) (keys coming)
      ∙ ap (λ b. has same_key (keys rows) k || b) free
      ∙ or_false (has same_key (keys rows) k) in
      split seen_rows ∙ ap (λ b. b || has same_key (keys earlier) k) shown ∙ sym (split rows)
    where
      or_false : (b : Bool) → (b || false) ≡ b
      or_false true = refl
      or_false false = refl

  inserts_alike : (earlier tuples : List (List Value)) → list_any (has same_key (keys coming)) (keys tuples) ≡ false
      → flat_map (λ p. unfit_row_objections table p.1 ++ taken_key_objections table (seen_rows ++ p.0) p.1) (with_before_from earlier tuples)
      ≡ flat_map (λ p. unfit_row_objections table p.1 ++ taken_key_objections table (rows ++ p.0) p.1) (with_before_from earlier tuples)
  inserts_alike earlier [] free = refl
  inserts_alike earlier (tuple ∷ tuples) free =
      let parts = or_parts (has same_key (keys coming) (key_of table tuple)) (list_any (has same_key (keys coming)) (keys tuples)) free in
      ap₂ (λ b rest. (unfit_row_objections table tuple ++ when b (refusal.DuplicateKey (key_of table tuple))) ++ rest) (taken_alike earlier tuple parts.0) (inserts_alike (earlier ++ tuple ∷ []) tuples parts.1)

  -- no row to come has the key of a tuple
  pub none_taken : (tuples : List (List Value)) → list_any (λ row. has same_key (keys tuples) (key_of table row)) coming ≡ false
      → list_any (has same_key (keys coming)) (keys tuples) ≡ false
  none_taken tuples none =
      has_either_way same_key (symmetric key_cmp_total) (keys coming) (keys tuples)
      ∙ list_any-map (has same_key (keys tuples)) (key_of table) coming ∙ none

  insert_alike : (tuples : List (List Value)) → list_any (λ row. has same_key (keys tuples) (key_of table row)) coming ≡ false
      → ActsAlike seen_rows rows (action.Insert table tuples)
  insert_alike tuples none =
      let objects = inserts_alike [] tuples (none_taken tuples none) in
      record {
        select = refl;
        change = ap (λ os. Some (unless_refused os (reply.Inserted (length tuples)))) objects;
        objections = objects;
        writes = refl;
      }

  select_alike : (items : Items (Expr ℕ)) (c : Cond ℕ) (fixed : Option (List Value))
      → list_any (λ row. holds_on (cell row) c) coming ≡ false → ActsAlike seen_rows rows (action.Select table items c fixed)
  select_alike items c fixed none =
      let same = same_selected c none in
      record {
        select = ap (λ rs. Some (unless_refused (answer_objections cell items rs) (reply.Rows (answer_of cell items rs)))) same;
        change = refl;
        objections = ap (answer_objections cell items) same;
        writes = refl;
      }

  update_alike : (sets : List (ℕ × Expr ℕ)) (c : Cond ℕ) (fixed : Option (List Value))
      → list_any (λ row. holds_on (cell row) c) coming ≡ false → ActsAlike seen_rows rows (action.Update table sets c fixed)
  update_alike sets c fixed none =
      let same = same_selected c none in
      record {
        select = refl;
        change = ap (λ rs. Some (unless_refused (flat_map (change_objections cell (admitted_at table) sets) rs) (reply.Updated (length rs)))) same;
        objections = ap (flat_map (change_objections cell (admitted_at table) sets)) same;
        writes = ap (map (λ row. write_of table (key_of table row) (Some (changed cell (λ place. place) sets row)))) same;
      }

  delete_alike : (c : Cond ℕ) (fixed : Option (List Value)) → list_any (λ row. holds_on (cell row) c) coming ≡ false
      → ActsAlike seen_rows rows (action.Delete table c fixed)
  delete_alike c fixed none =
      let same = same_selected c none in
      record {
        select = refl;
        change = ap (λ rs. Some (reply.Deleted (length rs))) same;
        objections = refl;
        writes = ap (map (λ row. write_of table (key_of table row) None)) same;
      }

module _ (live : Database) (last : Option Migration) (way : IsUnderWayIfAny live last) (s : Stored) (there : IsThere live s) where
  -- where all that gives a row that passes a test has moved
  no_such_row : (test : Target → List Value → Bool) (P : List Value → Bool) → ((t : Target) (rows : List (List Value)) (old : Database) → s.table ≡ target_table old t → list_any (test t) rows ≡ false → list_any P rows ≡ false)
      → HaveMoved last (λ last. giving last.old last.migrate (target_of last.old last.migrate s.table) test) → list_any P (due last s.table.name) ≡ false
  no_such_row test P so moved = on last way moved
    where
      on : (last : Option Migration) → IsUnderWayIfAny live last
          → HaveMoved last (λ last. giving last.old last.migrate (target_of last.old last.migrate s.table) test)
          → list_any P (due last s.table.name) ≡ false
      on None way moved = refl
      on (Some last) way moved = none_passes live last way s there test moved P (λ t made none. so t (due (Some last) s.table.name) last.old made none)

  none_selected : (c : Cond ℕ)
      → HaveMoved last (λ last. giving last.old last.migrate (target_of last.old last.migrate s.table) (may_satisfy c))
      → list_any (λ row. holds_on (cell row) c) (due last s.table.name) ≡ false
  none_selected c moved = no_such_row (may_satisfy c) (λ row. holds_on (cell row) c) (λ t rows old made none. none_holds t c rows none) moved

  pub none_inserted : (tuples : List (List Value)) → HaveMoved last (λ last. giving last.old last.migrate (target_of last.old last.migrate s.table) (has_key_of s.table tuples))
      → list_any (λ row. has same_key (map (key_of s.table) tuples) (key_of s.table row)) (due last s.table.name) ≡ false
  none_inserted tuples moved = no_such_row (has_key_of s.table tuples) (λ row. has same_key (map (key_of s.table) tuples) (key_of s.table row)) (λ t rows old made none. none) moved

  -- STATEMENT: where its need has moved, an action does on the rows that are kept what it does on those that are seen
  pub acts_alike : (act : Action) → action_table act ≡ Some s.table → HaveMoved last (λ last. needed_for last.old last.migrate act)
      → ActsAlike (with_placed key_cmp (key_of s.table) s.rows (due last s.table.name)) s.rows act
  acts_alike (action.Insert table tuples) of moved =
      let same : table ≡ s.table = same_from_some table s.table of in
      let moved' = subst (λ t. HaveMoved last (λ last. giving last.old last.migrate (target_of last.old last.migrate t) (has_key_of t tuples))) same moved in
      subst (λ t. ActsAlike (with_placed key_cmp (key_of s.table) s.rows (due last s.table.name)) s.rows (action.Insert t tuples)) (sym same) (insert_alike s.table s.rows (due last s.table.name) tuples (none_inserted tuples moved'))
  acts_alike (action.Select table items c fixed) of moved =
      let same : table ≡ s.table = same_from_some table s.table of in
      let moved' = subst (λ t. HaveMoved last (λ last. giving last.old last.migrate (target_of last.old last.migrate t) (may_satisfy c))) same moved in
      subst (λ t. ActsAlike (with_placed key_cmp (key_of s.table) s.rows (due last s.table.name)) s.rows (action.Select t items c fixed)) (sym same) (select_alike s.table s.rows (due last s.table.name) items c fixed (none_selected c moved'))
  acts_alike (action.Update table sets c fixed) of moved =
      let same : table ≡ s.table = same_from_some table s.table of in
      let moved' = subst (λ t. HaveMoved last (λ last. giving last.old last.migrate (target_of last.old last.migrate t) (may_satisfy c))) same moved in
      subst (λ t. ActsAlike (with_placed key_cmp (key_of s.table) s.rows (due last s.table.name)) s.rows (action.Update t sets c fixed)) (sym same) (update_alike s.table s.rows (due last s.table.name) sets c fixed (none_selected c moved'))
  acts_alike (action.Delete table c fixed) of moved =
      let same : table ≡ s.table = same_from_some table s.table of in
      let moved' = subst (λ t. HaveMoved last (λ last. giving last.old last.migrate (target_of last.old last.migrate t) (may_satisfy c))) same moved in
      subst (λ t. ActsAlike (with_placed key_cmp (key_of s.table) s.rows (due last s.table.name)) s.rows (action.Delete t c fixed)) (sym same) (delete_alike s.table s.rows (due last s.table.name) c fixed (none_selected c moved'))
  acts_alike other of moved = absurd cc
