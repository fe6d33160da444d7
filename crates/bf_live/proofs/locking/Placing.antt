-- What stands in the way of a statement on rows is told by the catalog, and not by the place in a block or outside.
use Rattle.std.proofs.Common.{◌≡◌, ℕ, Bool, true, false, not, List, [], ◌∷◌, ◌++◌, map, length, Option, Some, None, refl}
use Rattle.std.specs.Prelude.{flat_map, zip, ◌==◌, nat_lt}
use Rattle.std.specs.List.{list_all, list_any}
use Rattle.bf_base.specs.declared.value.Value.{Value}
use Rattle.bf_base.specs.declared.table.Kind.TheVariants as kinds
use Rattle.bf_base.specs.declared.table.Kind.{Kind}
use Rattle.bf_base.specs.declared.table.Table.{Table}
use Rattle.bf_base.specs.declared.table.Column.{Column}
use Rattle.bf_base.specs.Lists.{has, same_name, when, with_before}
use Rattle.bf_base.specs.Tables.{kind_admitted, kind_of, same_kind}
use Rattle.bf_tree.specs.declared.raw.Ref.{Ref}
use Rattle.bf_tree.specs.Trees.{Expr, literal, column, negated, plus, minus, times, joined, Cond, always, compared, between, opposite, both, either}
use Rattle.bf_tree.specs.declared.items.Aggregate.{Aggregate}
use Rattle.bf_tree.specs.declared.items.Aggregate.TheVariants.{Count, Sum, Min, Max}
use Rattle.bf_tree.specs.declared.items.Items.{Items}
use Rattle.bf_tree.specs.declared.items.Items.TheVariants.{All, Exprs, Aggregates}
use Rattle.bf_tree.specs.declared.reply.Refusal.{Refusal}
use Rattle.bf_tree.specs.declared.reply.Refusal.TheVariants.{NoTable, NoColumn, TypeMismatch, WrongCount, KeyColumn, NoTransaction, InTransaction, MustBeAlone, NameTwice}
use Rattle.bf_tree.specs.declared.statement.Statement.{Statement}
use Rattle.bf_tree.specs.declared.statement.Statement.TheVariants.{Insert, Select, Update, Delete}
use Rattle.bf_sql.specs.Conditions.{condition_of}
use Rattle.bf_sql.specs.Database.{Database, Stored, stored_at}
use Rattle.bf_sql.specs.Objections.{column_names, items_objections, key_names, literal_objections, objections, set_objections, sets_objections, table_objections, tuple_objections}
use Rattle.bf_sql.specs.Scopes.{Scope, scope_of, admitted_by, cond_objections, expr_objections, kind_in, kind_objections, places_of, qualifier_objections, ref_objections, total_objections, unqualified}
use Rattle.bf_sql.specs.Footprints.{catalog_read, refusal_locks}
use Rattle.bf_live.proofs.locking.Elements.{all_append, all_flat, all_when}

-- a refusal that is not by the place in a block or outside
abbrev pub not_by_place : Refusal → Bool
not_by_place NoTransaction = false
not_by_place InTransaction = false
not_by_place MustBeAlone = false
not_by_place other = true

pub reads_catalog : (r : Refusal) → not_by_place r ≡ true → refusal_locks r ≡ catalog_read ∷ []
reads_catalog NoTransaction e = absurd cc
reads_catalog InTransaction e = absurd cc
reads_catalog MustBeAlone e = absurd cc
reads_catalog other e = refl

-- a list of such
abbrev AreElse : List Refusal → Type 0
AreElse rs = list_all not_by_place rs ≡ true

both_else : (rs more : List Refusal) → AreElse rs → AreElse more → AreElse (rs ++ more)
both_else rs more one other = all_append not_by_place rs more one other

module _ (scope : Scope) where
  ref_else : (ref : Ref) → AreElse (ref_objections scope ref)
  ref_else ref =
      let found = length (places_of scope ref) in
      both_else (qualifier_objections scope ref.table ++ when (found == 0) (NoColumn ref.column)) (when (nat_lt 1 found) (NameTwice ref.column))
      (both_else (qualifier_objections scope ref.table) (when (found == 0) (NoColumn ref.column)) (qualifier_else ref.table) (all_when not_by_place (found == 0) (NoColumn ref.column) refl))
      (all_when not_by_place (nat_lt 1 found) (NameTwice ref.column) refl)
    where
      qualifier_else : (qualifier : Option (List ℕ)) → AreElse (qualifier_objections scope qualifier)
      qualifier_else None = refl
      qualifier_else (Some q) = all_when not_by_place (not (list_any (λ c. same_name q c.0) scope)) (NoTable q) refl

  kind_else : (e : Expr Ref) (kind : Kind) → AreElse (kind_objections scope e kind)
  kind_else e kind = all_when not_by_place (not (same_kind (kind_in scope e) kind)) TypeMismatch refl

  two_else : (a b : Expr Ref) (kind : Kind) → AreElse (expr_objections scope a) → AreElse (expr_objections scope b)
      → AreElse (expr_objections scope a ++ expr_objections scope b ++ kind_objections scope a kind ++ kind_objections scope b kind)
  two_else a b kind one other =
      both_else (expr_objections scope a ++ expr_objections scope b ++ kind_objections scope a kind) (kind_objections scope b kind)
      (both_else (expr_objections scope a ++ expr_objections scope b) (kind_objections scope a kind) (both_else (expr_objections scope a) (expr_objections scope b) one other) (kind_else a kind))
      (kind_else b kind)

  expr_else : (e : Expr Ref) → AreElse (expr_objections scope e)
  expr_else (literal v) = refl
  expr_else (column ref) = ref_else ref
  expr_else (negated a) = both_else (expr_objections scope a) (kind_objections scope a kinds.Int) (expr_else a) (kind_else a kinds.Int)
  expr_else (plus a b) = two_else a b kinds.Int (expr_else a) (expr_else b)
  expr_else (minus a b) = two_else a b kinds.Int (expr_else a) (expr_else b)
  expr_else (times a b) = two_else a b kinds.Int (expr_else a) (expr_else b)
  expr_else (joined a b) = two_else a b kinds.Text (expr_else a) (expr_else b)

  cond_else : (c : Cond Ref) → AreElse (cond_objections scope c)
  cond_else always = refl
  cond_else (compared op a b) =
      both_else (expr_objections scope a ++ expr_objections scope b) (kind_objections scope a (kind_in scope b))
      (both_else (expr_objections scope a) (expr_objections scope b) (expr_else a) (expr_else b)) (kind_else a (kind_in scope b))
  cond_else (between a low high) =
      let exprs = both_else (expr_objections scope a ++ expr_objections scope low) (expr_objections scope high) (both_else (expr_objections scope a) (expr_objections scope low) (expr_else a) (expr_else low)) (expr_else high) in
      let lows = both_else (expr_objections scope a ++ expr_objections scope low ++ expr_objections scope high) (kind_objections scope low (kind_in scope a)) exprs (kind_else low (kind_in scope a)) in
      both_else (expr_objections scope a ++ expr_objections scope low ++ expr_objections scope high ++ kind_objections scope low (kind_in scope a)) (kind_objections scope high (kind_in scope a)) lows (kind_else high (kind_in scope a))
  cond_else (opposite c) = cond_else c
  cond_else (both c d) = both_else (cond_objections scope c) (cond_objections scope d) (cond_else c) (cond_else d)
  cond_else (either c d) = both_else (cond_objections scope c) (cond_objections scope d) (cond_else c) (cond_else d)

  total_else : (total : Aggregate (Expr Ref)) → AreElse (total_objections scope total)
  total_else Count = refl
  total_else (Sum e) = both_else (expr_objections scope e) (kind_objections scope e kinds.Int) (expr_else e) (kind_else e kinds.Int)
  total_else (Min e) = expr_else e
  total_else (Max e) = expr_else e

  items_else : (items : Items (Expr Ref)) → AreElse (items_objections scope items)
  items_else All = refl
  items_else (Exprs exprs) = all_flat not_by_place (expr_objections scope) expr_else exprs
  items_else (Aggregates totals) = all_flat not_by_place (total_objections scope) total_else totals

tuple_else : (table : Table) (tuple : List Value) → AreElse (tuple_objections table tuple)
tuple_else table tuple =
    let literals : Column × Value → List Refusal = λ p. literal_objections p.0 p.1 in
    both_else (when (not (length tuple == length table.columns)) WrongCount) (flat_map literals (zip table.columns tuple))
    (all_when not_by_place (not (length tuple == length table.columns)) WrongCount refl)
    (all_flat not_by_place literals (λ p. all_when not_by_place (not (same_kind (kind_of p.1) (kind_admitted p.0.admits))) TypeMismatch refl) (zip table.columns tuple))

set_else : (table : Table) (before : List (List ℕ)) (name : List ℕ) (e : Expr Ref) → AreElse (set_objections table before name e)
set_else table before name e =
    let scope = scope_of table in
    let no_column = when (not (has same_name (column_names table) name)) (NoColumn name) in
    let key_column = when (has same_name (key_names table) name) (KeyColumn name) in
    let twice = when (has same_name before name) (NameTwice name) in
    let kind = kind_admitted (admitted_by scope (unqualified name)) in
    both_else (no_column ++ key_column ++ twice ++ expr_objections scope e) (kind_objections scope e kind)
    (both_else (no_column ++ key_column ++ twice) (expr_objections scope e)
    (both_else (no_column ++ key_column) twice
    (both_else no_column key_column
    (all_when not_by_place (not (has same_name (column_names table) name)) (NoColumn name) refl)
    (all_when not_by_place (has same_name (key_names table) name) (KeyColumn name) refl))
    (all_when not_by_place (has same_name before name) (NameTwice name) refl))
    (expr_else scope e))
    (kind_else scope e kind)

sets_else : (table : Table) (sets : List (List ℕ × Expr Ref)) → AreElse (sets_objections table sets)
sets_else table sets = all_flat not_by_place (λ p. set_objections table (map (λ s. s.0) p.0) p.1.0 p.1.1) (λ p. set_else table (map (λ s. s.0) p.0) p.1.0 p.1.1) (with_before sets)

table_else : (o : Option Stored) (name : List ℕ) (on_table : Table → List Refusal) → ((t : Table) → AreElse (on_table t)) → AreElse (table_objections o name on_table)
table_else None name on_table each = refl
table_else (Some s) name on_table each = each s.table

-- a statement on the rows of a table
abbrev pub is_on_rows : Statement → Bool
is_on_rows (Insert table tuples) = true
is_on_rows (Select list table cond) = true
is_on_rows (Update table sets cond) = true
is_on_rows (Delete table cond) = true
is_on_rows other = false

in_both : (P : Bool → Type 0) → P true → P false → (in_block : Bool) → P in_block
in_both P one other true = one
in_both P one other false = other

pub objects_else : (db : Database) (in_block : Bool) (s : Statement) → is_on_rows s ≡ true → list_all not_by_place (objections db in_block s) ≡ true
objects_else db in_block (Insert table tuples) on =
    let there = table_else (stored_at db table) table (λ t. flat_map (tuple_objections t) tuples) (λ t. all_flat not_by_place (tuple_objections t) (tuple_else t) tuples) in
    in_both (λ b. list_all not_by_place (objections db b (Insert table tuples)) ≡ true) there there in_block
objects_else db in_block (Select list table c) on =
    let there = table_else (stored_at db table) table (λ t. items_objections (scope_of t) list ++ cond_objections (scope_of t) (condition_of c)) (λ t. both_else (items_objections (scope_of t) list) (cond_objections (scope_of t) (condition_of c)) (items_else (scope_of t) list) (cond_else (scope_of t) (condition_of c))) in
    in_both (λ b. list_all not_by_place (objections db b (Select list table c)) ≡ true) there there in_block
objects_else db in_block (Update table sets c) on =
    let there = table_else (stored_at db table) table (λ t. sets_objections t sets ++ cond_objections (scope_of t) (condition_of c)) (λ t. both_else (sets_objections t sets) (cond_objections (scope_of t) (condition_of c)) (sets_else t sets) (cond_else (scope_of t) (condition_of c))) in
    in_both (λ b. list_all not_by_place (objections db b (Update table sets c)) ≡ true) there there in_block
objects_else db in_block (Delete table c) on =
    let there = table_else (stored_at db table) table (λ t. cond_objections (scope_of t) (condition_of c)) (λ t. cond_else (scope_of t) (condition_of c)) in
    in_both (λ b. list_all not_by_place (objections db b (Delete table c)) ≡ true) there there in_block
objects_else db in_block other on = absurd cc
