-- What an action has of the statement and the database that it is bound in.
use Rattle.std.proofs.Common.{◌≡◌, ℕ, suc, ◌+◌, Bool, true, false, not, ◌&&◌, ◌||◌, cond, List, [], ◌∷◌, ◌++◌, map, filter, length, get_or, find, Option, Some, None, option_map, unwrap_or, refl, sym, ap, ap₂, subst, ◌∙◌, inl, inr, arith}
use Rattle.std.specs.Prelude.{flat_map, nat_eq, nat_lt, ◌==◌, slice_index_or, option_and_then}
use Rattle.std.specs.List.{AllByRecursion, list_all, enumerate_from}
use Rattle.std.proofs.lemmas.Bool.{and_parts, and_from, or_parts, not_from_false, cases_Bool}
use Rattle.std.proofs.lemmas.Bool.Decides.{nat_tests}
use Rattle.std.proofs.lemmas.List.Folds.{list_all-map}
use Rattle.std.proofs.lemmas.Option.{same_Some}
use Rattle.bf_base.specs.declared.value.Value.{Value}
use Rattle.bf_base.specs.declared.table.Column.{Column}
use Rattle.bf_base.specs.declared.table.Table.{Table}
use Rattle.bf_base.specs.Lists.{has, same_name, when, with_before_from}
use Rattle.bf_base.specs.Tables.{IsKeyWithin}
use Rattle.bf_base.proofs.Names.{same_name-tie}
use Rattle.bf_base.proofs.Order.{equal_from_test}
use Rattle.bf_base.proofs.Ties.{name_ties}
use Rattle.bf_tree.specs.declared.raw.Ref.{Ref}
use Rattle.bf_tree.specs.Trees.{Expr, Cond}
use Rattle.bf_tree.specs.declared.bound.Action.{Action}
use Rattle.bf_tree.specs.declared.items.Items.{Items}
use Rattle.bf_tree.specs.declared.reply.Refusal.{Refusal}
use Rattle.bf_tree.specs.declared.reply.Refusal.TheVariants as refusal
use Rattle.bf_tree.specs.declared.statement.Statement.{Statement}
use Rattle.bf_tree.specs.declared.statement.Statement.TheVariants as statement
use Rattle.bf_sql.specs.Bound.{set_in, action_of}
use Rattle.bf_sql.specs.Conditions.{condition_of}
use Rattle.bf_sql.specs.Database.{Database, Stored, IsDatabase, is_admitted, is_keyed, is_within, no_table, stored_at, table_at, table_rows}
use Rattle.bf_sql.specs.Objections.{objections, table_objections, column_names, key_names, items_objections, sets_objections, set_objections, tuple_objections}
use Rattle.bf_sql.specs.Scopes.{scope_of, place_of, unqualified, is_qualified_by, cond_objections}
use Rattle.bf_live.specs.Replies.{IsWellBound, action_table, LeavesKeys}
use Rattle.bf_live.specs.Meanings.{IsBoundAs}
use Rattle.bf_live.proofs.querying.OwnKeys.{each}
use Rattle.bf_live.proofs.querying.Effects.{nothing_before, not_when}

pub one_name : (a b : List ℕ) → same_name a b ≡ true → a ≡ b
one_name a b same = (name_ties a b).0 (equal_from_test _ (sym (same_name-tie a b) ∙ same))

not_false : (b : Bool) → not b ≡ false → b ≡ true
not_false true e = refl
not_false false e = absurd cc

second_of : (a b : Bool) → (a || b) ≡ true → a ≡ false → b ≡ true
second_of true b e f = absurd cc
second_of false b e f = e

-- what a search finds passes its test, and whatever all items pass
find_passes : {X : Type 0} (test : X → Bool) (xs : List X) (x : X) → find test xs ≡ Some x → test x ≡ true
find_passes test [] x e = absurd cc
find_passes test (y ∷ ys) x e = elim (cases_Bool (test y)) [
  | inl passes ↦
      let same : y ≡ x = same_Some y x (sym (ap (λ b. cond b (Some y) (find test ys)) passes) ∙ e) in
      ap test (sym same) ∙ passes
  | inr fails ↦ find_passes test ys x (sym (ap (λ b. cond b (Some y) (find test ys)) fails) ∙ e)
]

find_among : {X : Type 0} (test p : X → Bool) (xs : List X) (x : X) → list_all p xs ≡ true → find test xs ≡ Some x → p x ≡ true
find_among test p [] x all e = absurd cc
find_among test p (y ∷ ys) x all e = elim (cases_Bool (test y)) [
  | inl passes ↦
      let same : y ≡ x = same_Some y x (sym (ap (λ b. cond b (Some y) (find test ys)) passes) ∙ e) in
      ap p (sym same) ∙ (and_parts _ _ all).0
  | inr fails ↦ find_among test p ys x (and_parts _ _ all).1 (sym (ap (λ b. cond b (Some y) (find test ys)) fails) ∙ e)
]

-- a table that a database has under a name, with its rows
abbrev pub as_stored : Table → List (List Value) → Stored
as_stored table rows = record { table = table; rows = rows }

pub record IsFound (db : Database) (name : List ℕ) (on_table : Table → List Refusal) : Type 0 where
  pub named : (table_at db name).name ≡ name
  pub stored : stored_at db name ≡ Some (as_stored (table_at db name) (table_rows db name))
  pub nothing : on_table (table_at db name) ≡ []

-- a statement that is not refused is on a table that is there
pub found : (db : Database) (name : List ℕ) (on_table : Table → List Refusal) → table_objections (stored_at db name) name on_table ≡ [] → IsFound db name on_table
found db name on_table none =
    elim (stored_at db name) as (λ o. stored_at db name ≡ o → table_objections o name on_table ≡ [] → IsFound db name on_table) [
      | None ↦ λ is none. absurd cc
      | Some s ↦ λ is none.
          let table : table_at db name ≡ s.table = ap (λ o. unwrap_or (option_map (λ (s : Stored). s.table) o) no_table) is in
          let rows : table_rows db name ≡ s.rows = ap (λ o. unwrap_or (option_map (λ (s : Stored). s.rows) o) []) is in
          record {
            named = ap (λ (t : Table). t.name) table ∙ one_name s.table.name name (find_passes (λ (s : Stored). same_name s.table.name name) db.tables s is);
            stored = is ∙ ap₂ (λ (t : Table) (rs : List (List Value)). Some (as_stored t rs)) (sym table) (sym rows);
            nothing = ap on_table table ∙ none;
          }
    ] refl none

first_two : (a b c d e : List Refusal) → a ++ b ++ c ++ d ++ e ≡ [] → (a ≡ []) × (b ≡ [])
first_two a b c d e none =
    let four = (nothing_before (a ++ b ++ c ++ d) e none).0 in
    let three = (nothing_before (a ++ b ++ c) d four).0 in
    nothing_before a b (nothing_before (a ++ b) c three).0

-- the place of a column's name
module _ (table_name n : List ℕ) where
  abbrev means : ℕ × (List ℕ × Column) → Bool
  means c = same_name n c.1.1.name && is_qualified_by None c.1.0

  -- behind so many columns, that of one that has the name
  record IsPlaceOf (columns : List Column) (behind place : ℕ) : Type 0 where
    at : ℕ
    is : place ≡ behind + at
    named : same_name n (get_or (map (λ c. c.name) columns) at []) ≡ true

  place_from : (columns : List Column) (behind : ℕ) → has same_name (map (λ c. c.name) columns) n ≡ true
      → IsPlaceOf columns behind (get_or (map (λ c. c.0) (filter means (enumerate_from behind (map (λ c. (table_name, c)) columns)))) 0 0)
  place_from [] behind there = absurd cc
  place_from (c ∷ columns) behind there = elim (cases_Bool (same_name n c.name)) [
    | inl same ↦ rw same (record { at = 0; is = omega arith; named = same })
    | inr other ↦
        let rest = place_from columns (behind + 1) (second_of _ _ there other) in
        rw other (record { at = suc rest.at; is = rest.is ∙ omega arith; named = rest.named })
  ]

-- a column that is not named among those of some places has none of the places
apart_from : (n : List ℕ) (name_at : ℕ → List ℕ) (place : ℕ) (places : List ℕ) → same_name n (name_at place) ≡ true → has same_name (map name_at places) n ≡ false → has nat_eq places place ≡ false
apart_from n name_at place [] same apart = refl
apart_from n name_at place (p ∷ places) same apart =
    let parts = or_parts (same_name n (name_at p)) (has same_name (map name_at places) n) apart in
    let rest = apart_from n name_at place places same parts.1 in
    elim (cases_Bool (nat_eq place p)) [
      | inl e ↦
          let is : place ≡ p = grind (arith, nat_tests) in
          let also : same_name n (name_at p) ≡ true = ap (λ (q : ℕ). same_name n (name_at q)) (sym is) ∙ same in
          absurd cc
      | inr other ↦ rw (other, rest) refl
    ]

module _ (table : Table) where
  -- a set that nothing stands in the way of is on no key column
  set_apart : (before : List (List ℕ)) (n : List ℕ) (e : Expr Ref) → set_objections table before n e ≡ [] → has nat_eq table.key (place_of (scope_of table) (unqualified n)) ≡ false
  set_apart before n e none =
      let first = first_two (when (not (has same_name (column_names table) n)) (refusal.NoColumn n)) (when (has same_name (key_names table) n) (refusal.KeyColumn n)) _ _ _ none in
      let there = not_false (has same_name (column_names table) n) (not_when _ _ first.0) in
      let apart : has same_name (key_names table) n ≡ false = not_when _ _ first.1 in
      let at = place_from table.name n table.columns 0 there in
      let place : place_of (scope_of table) (unqualified n) ≡ at.at = at.is ∙ omega arith in
      apart_from n (λ place. slice_index_or (column_names table) place []) (place_of (scope_of table) (unqualified n)) table.key
      (ap (λ (p : ℕ). same_name n (get_or (column_names table) p [])) place ∙ at.named) apart

  sets_apart : (before sets : List (List ℕ × Expr Ref)) → flat_map (λ p. set_objections table (map (λ s. s.0) p.0) p.1.0 p.1.1) (with_before_from before sets) ≡ []
      → list_all (λ set. not (has nat_eq table.key (place_of (scope_of table) (unqualified set.0)))) sets ≡ true
  sets_apart before [] none = refl
  sets_apart before (set ∷ sets) none =
      let parts = nothing_before (set_objections table (map (λ s. s.0) before) set.0 set.1) _ none in
      and_from _ _ (not_from_false _ (set_apart (map (λ (s : List ℕ × Expr Ref). s.0) before) set.0 set.1 parts.0)) (sets_apart (before ++ set ∷ []) sets parts.1)

  -- a tuple that nothing stands in the way of has a value for each column of the key
  within : (places : List ℕ) (count : ℕ) (row : List Value) → list_all (λ place. nat_lt place count) places ≡ true → length row ≡ count → list_all (λ place. nat_lt place (length row)) places ≡ true
  within places count row all same = subst (λ n. list_all (λ place. nat_lt place n) places ≡ true) (sym same) all

  same_count : (m n : ℕ) → m == n ≡ true → m ≡ n
  same_count m n e = grind (arith, nat_tests)

  tuple_within : is_within table table.key ≡ true → (tuple : List Value) → tuple_objections table tuple ≡ [] → IsKeyWithin table tuple
  tuple_within all tuple none =
      let first = nothing_before (when (not (length tuple == length table.columns)) refusal.WrongCount) _ none in
      within table.key (length table.columns) tuple all (same_count _ _ (not_false _ (not_when _ _ first.0)))

  tuples_within : is_within table table.key ≡ true → (tuples : List (List Value)) → flat_map (tuple_objections table) tuples ≡ [] → AllByRecursion (IsKeyWithin table) tuples
  tuples_within all [] none = tt
  tuples_within all (tuple ∷ tuples) none =
      let parts = nothing_before (tuple_objections table tuple) _ none in
      (tuple_within all tuple parts.0, tuples_within all tuples parts.1)

  pub row_within : is_within table table.key ≡ true → (row : List Value) → is_admitted table row ≡ true → IsKeyWithin table row
  row_within all row admitted = within table.key (length table.columns) row all (same_count _ _ (counted (length row == length table.columns) _ admitted))
    where
      counted : (b c : Bool) → cond b c false ≡ true → b ≡ true
      counted true c e = refl
      counted false c e = absurd cc

module _ (db : Database) (in_block : Bool) (name : List ℕ) where
  pub insert_found : (tuples : List (List Value)) → objections db in_block (statement.Insert name tuples) ≡ [] → IsFound db name (λ t. flat_map (tuple_objections t) tuples)
  insert_found tuples none =
      found db name (λ t. flat_map (tuple_objections t) tuples)
      (elim in_block as (λ b. objections db b (statement.Insert name tuples) ≡ [] → table_objections (stored_at db name) name (λ t. flat_map (tuple_objections t) tuples) ≡ []) [ true ↦ λ e. e | false ↦ λ e. e ] none)

  pub select_found : (list : Items (Expr Ref)) (c : Option (Cond Ref)) → objections db in_block (statement.Select list name c) ≡ []
      → IsFound db name (λ t. items_objections (scope_of t) list ++ cond_objections (scope_of t) (condition_of c))
  select_found list c none =
      let on_table : Table → List Refusal = λ t. items_objections (scope_of t) list ++ cond_objections (scope_of t) (condition_of c) in
      found db name on_table
      (elim in_block as (λ b. objections db b (statement.Select list name c) ≡ [] → table_objections (stored_at db name) name on_table ≡ []) [ true ↦ λ e. e | false ↦ λ e. e ] none)

  pub update_found : (sets : List (List ℕ × Expr Ref)) (c : Option (Cond Ref)) → objections db in_block (statement.Update name sets c) ≡ []
      → IsFound db name (λ t. sets_objections t sets ++ cond_objections (scope_of t) (condition_of c))
  update_found sets c none =
      let on_table : Table → List Refusal = λ t. sets_objections t sets ++ cond_objections (scope_of t) (condition_of c) in
      found db name on_table
      (elim in_block as (λ b. objections db b (statement.Update name sets c) ≡ [] → table_objections (stored_at db name) name on_table ≡ []) [ true ↦ λ e. e | false ↦ λ e. e ] none)

  pub delete_found : (c : Option (Cond Ref)) → objections db in_block (statement.Delete name c) ≡ [] → IsFound db name (λ t. cond_objections (scope_of t) (condition_of c))
  delete_found c none =
      let on_table : Table → List Refusal = λ t. cond_objections (scope_of t) (condition_of c) in
      found db name on_table
      (elim in_block as (λ b. objections db b (statement.Delete name c) ≡ [] → table_objections (stored_at db name) name on_table ≡ []) [ true ↦ λ e. e | false ↦ λ e. e ] none)

-- what a database has a table with
module _ (db : Database) (database : IsDatabase db) (table : Table) (rows : List (List Value)) (stored : stored_at db table.name ≡ Some (as_stored table rows)) where
  pub key_within : is_within table table.key ≡ true
  key_within = find_among (λ (s : Stored). same_name s.table.name table.name) (λ (s : Stored). is_within s.table s.table.key) db.tables (as_stored table rows) database.keys_within stored

  pub rows_keyed : is_keyed (as_stored table rows) ≡ true
  rows_keyed = find_among (λ (s : Stored). same_name s.table.name table.name) is_keyed db.tables (as_stored table rows) database.rows_by_key stored

  pub rows_admitted : list_all (is_admitted table) rows ≡ true
  rows_admitted = find_among (λ (s : Stored). same_name s.table.name table.name) (λ (s : Stored). list_all (is_admitted s.table) s.rows) db.tables (as_stored table rows) database.rows_admitted stored

-- under its own name
pub by_own_name : (db : Database) (name : List ℕ) (on_table : Table → List Refusal) → IsFound db name on_table → stored_at db (table_at db name).name ≡ Some (as_stored (table_at db name) (table_rows db (table_at db name).name))
by_own_name db name on_table there =
    subst (λ n. stored_at db n ≡ Some (as_stored (table_at db name) (table_rows db n))) (sym there.named) there.stored

module _ (db : Database) (in_block : Bool) where
  pub well_bound : (s : Statement) (act : Action) → IsBoundAs db in_block s act → IsWellBound act
  well_bound (statement.Insert name tuples) act bound =
      let there = insert_found db in_block name tuples bound.admitted in
      let all = key_within db bound.database (table_at db name) _ (by_own_name db name _ there) in
      subst IsWellBound (same_Some _ act bound.action) (each (IsKeyWithin (table_at db name)) tuples (tuples_within (table_at db name) all tuples there.nothing))
  well_bound (statement.Select list name c) act bound = subst IsWellBound (same_Some _ act bound.action) refl
  well_bound (statement.Update name sets c) act bound = subst IsWellBound (same_Some _ act bound.action) refl
  well_bound (statement.Delete name c) act bound = subst IsWellBound (same_Some _ act bound.action) refl
  well_bound (statement.Migrate migrate) act bound = absurd cc
  well_bound other act bound = subst IsWellBound (same_Some _ act bound.action) tt

  pub leaves_keys : (s : Statement) (act : Action) → IsBoundAs db in_block s act → LeavesKeys act
  leaves_keys (statement.Update name sets c) act bound =
      let table = table_at db name in
      let there = update_found db in_block name sets c bound.admitted in
      let none = nothing_before (sets_objections table sets) _ there.nothing in
      let apart = sets_apart table [] sets none.0 in
      subst LeavesKeys (same_Some _ act bound.action) (list_all-map (λ (set : ℕ × Expr ℕ). not (has nat_eq table.key set.0)) (set_in (table_at db name)) sets ∙ apart)
  leaves_keys (statement.Migrate migrate) act bound = absurd cc
  leaves_keys other act bound = subst LeavesKeys (same_Some _ act bound.action) tt

  pub stored_table : (s : Statement) (act : Action) (table : Table) → IsBoundAs db in_block s act → action_table act ≡ Some table → stored_at db table.name ≡ Some (as_stored table (table_rows db table.name))
  stored_table s act table bound on = table_is s bound.admitted table (ap (λ (o : Option Action). option_and_then action_table o) bound.action ∙ on)
    where
      table_is : (s : Statement) → objections db in_block s ≡ [] → (table : Table) → option_and_then action_table (action_of db s) ≡ Some table → stored_at db table.name ≡ Some (as_stored table (table_rows db table.name))
      table_is (statement.Insert name tuples) none table on =
          subst (λ (t : Table). stored_at db t.name ≡ Some (as_stored t (table_rows db t.name))) (same_Some _ table on) (by_own_name db name _ (insert_found db in_block name tuples none))
      table_is (statement.Select list name c) none table on =
          subst (λ (t : Table). stored_at db t.name ≡ Some (as_stored t (table_rows db t.name))) (same_Some _ table on) (by_own_name db name _ (select_found db in_block name list c none))
      table_is (statement.Update name sets c) none table on =
          subst (λ (t : Table). stored_at db t.name ≡ Some (as_stored t (table_rows db t.name))) (same_Some _ table on) (by_own_name db name _ (update_found db in_block name sets c none))
      table_is (statement.Delete name c) none table on =
          subst (λ (t : Table). stored_at db t.name ≡ Some (as_stored t (table_rows db t.name))) (same_Some _ table on) (by_own_name db name _ (delete_found db in_block name c none))
      table_is other none table on = absurd cc
