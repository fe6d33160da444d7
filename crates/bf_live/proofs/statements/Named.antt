-- Each table of a database is the one of its name.
use Rattle.std.proofs.Common.{◌≡◌, ℕ, true, false, cond, List, [], ◌∷◌, map, find, Option, Some, option_map, unwrap_or, refl, sym, ap, subst, ◌∙◌, inl, inr, is_eq}
use Rattle.std.specs.List.{AllByRecursion}
use Rattle.std.proofs.lemmas.Bool.{and_parts, cases_Bool}
use Rattle.std.proofs.lemmas.Cmp.{tied_itself}
use Rattle.std.proofs.lemmas.Option.{same_Some}
use Rattle.bf_base.specs.Lists.{name_cmp, rises, same_name}
use Rattle.bf_base.proofs.Names.{name_cmp_total, same_name-tie}
use Rattle.bf_base.proofs.Order.{less_from_test, rises_skip, rises_tail}
use Rattle.bf_sql.specs.Database.{Database, Stored, IsDatabase, stored_at, table_rows}

-- a table that comes before all others is none of them
named_apart : (x : Stored) (xs ys : List Stored) → rises name_cmp (x.table.name ∷ map (λ s. s.table.name) ys) ≡ true
    → AllByRecursion (λ s. find (λ t. same_name t.table.name s.table.name) xs ≡ Some s) ys
    → AllByRecursion (λ s. find (λ t. same_name t.table.name s.table.name) (x ∷ xs) ≡ Some s) ys
named_apart x xs [] h all = tt
named_apart x xs (y ∷ ys) h all =
    let less = less_from_test _ (and_parts _ _ h).0 in
    let apart : same_name x.table.name y.table.name ≡ false = same_name-tie x.table.name y.table.name ∙ ap is_eq less in
    let behind = rises_skip name_cmp_total x.table.name y.table.name (map (λ (s : Stored). s.table.name) ys) h in
    (rw apart all.0, named_apart x xs ys behind all.1)

-- a name is the same as itself
pub same_itself : (name : List ℕ) → same_name name name ≡ true
same_itself name = same_name-tie name name ∙ ap is_eq (tied_itself name_cmp_total name)

-- under the name of each of some tables in order it is found
found_by_name : (tables : List Stored) → rises name_cmp (map (λ s. s.table.name) tables) ≡ true
    → AllByRecursion (λ s. find (λ t. same_name t.table.name s.table.name) tables ≡ Some s) tables
found_by_name [] h = tt
found_by_name (x ∷ xs) h =
    let first : find (λ t. same_name t.table.name x.table.name) (x ∷ xs) ≡ Some x = rw (same_itself x.table.name) refl in
    let behind = rises_tail name_cmp_total x.table.name (map (λ (s : Stored). s.table.name) xs) h in
    (first, named_apart x xs xs h (found_by_name xs behind))

-- a table that a database has under its name
abbrev pub IsThere : Database → Stored → Type 0
IsThere db s = stored_at db s.table.name ≡ Some s

-- each table of a database is one
pub all_there : (db : Database) → IsDatabase db → AllByRecursion (IsThere db) db.tables
all_there db is = found_by_name db.tables is.tables_by_name

-- and its rows are those of its name
pub rows_there : (db : Database) (s : Stored) → IsThere db s → table_rows db s.table.name ≡ s.rows
rows_there db s there = ap (λ (o : Option Stored). unwrap_or (option_map (λ (t : Stored). t.rows) o) []) there

-- what is true of all tables is true of the one that is found
pub found_among : (P : Stored → Type 0) (tables : List Stored) (s : Stored) → AllByRecursion P tables → (name : List ℕ)
    → find (λ t. same_name t.table.name name) tables ≡ Some s → P s
found_among P [] s all name is = absurd cc
found_among P (t ∷ tables) s all name is = elim (cases_Bool (same_name t.table.name name)) [
  | inl same ↦ subst P (same_Some t s (sym (ap (λ b. cond b (Some t) (find (λ u. same_name u.table.name name) tables)) same) ∙ is)) all.0
  | inr other ↦ found_among P tables s all.1 name (sym (ap (λ b. cond b (Some t) (find (λ u. same_name u.table.name name) tables)) other) ∙ is)
]

-- where two facts are true of all tables, both are true of each
pub both_hold : (P Q : Stored → Type 0) (tables : List Stored) → AllByRecursion P tables → AllByRecursion Q tables
    → AllByRecursion (λ s. P s × Q s) tables
both_hold P Q [] one other = tt
both_hold P Q (s ∷ tables) one other = ((one.0, other.0), both_hold P Q tables one.1 other.1)
