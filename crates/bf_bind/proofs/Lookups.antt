-- Tables and indexes of a catalog, by their names.
use Rattle.std.proofs.Common.{◌≡◌, ℕ, ◌≤◌, Bool, true, false, cond, List, [], ◌∷◌, map, length, Option, Some, None, find, is_some, unwrap_or, refl, sym, ap, ◌∙◌, inl, inr}
use Rattle.std.proofs.lemmas.Bool.{cases_Bool, leb-true}
use Rattle.std.specs.List.{list_all, list_any}
use Rattle.std.specs.Option.{option_map}
use Rattle.bf_base.specs.Limits.{most_columns}
use Rattle.bf_base.specs.declared.table.Table.{Table}
use Rattle.bf_base.specs.Lists.{same_name}
use Rattle.bf_tree.specs.declared.catalog.Catalog.{Catalog}
use Rattle.bf_tree.specs.declared.catalog.IndexRule.{IndexRule}
use Rattle.bf_tree.specs.Limits.{HasNarrowTables, is_narrow}
use Rattle.bf_tree.specs.Places.{index_named, table_named}
use Rattle.bf_sql.specs.Bound.{without_rows, table_without_rows}
use Rattle.bf_sql.specs.Database.{Stored, no_table, stored_at, table_at}
use Rattle.bf_sql.specs.Objections.{table_objections}
use Rattle.bf_tree.specs.Settling.{first_of}
use Rattle.bf_tree.specs.declared.reply.Refusal.TheVariants.{NoTable}
use Rattle.bf_bind.specs.Parts.{absence_objections}

find-without_rows : (name : List ℕ) (tables : List Table) → find (λ (s : Stored). same_name s.table.name name) (map table_without_rows tables) ≡ option_map table_without_rows (find (λ (t : Table). same_name t.name name) tables)
find-without_rows name [] = refl
find-without_rows name (t ∷ ts) =
    elim (same_name t.name name) as (λ b. cond b (Some (table_without_rows t)) (find (λ (s : Stored). same_name s.table.name name) (map table_without_rows ts)) ≡ option_map table_without_rows (cond b (Some t) (find (λ (t : Table). same_name t.name name) ts))) [
      | true ↦ refl
      | false ↦ find-without_rows name ts
    ]

any-find : {X : Type 0} (test : X → Bool) (xs : List X) → list_any test xs ≡ is_some (find test xs)
any-find test [] = refl
any-find test (x ∷ xs) = elim (cases_Bool (test x)) [
  | inl passes ↦ rw passes
  | inr fails ↦ rw fails (any-find test xs)
]

found_passes : {X : Type 0} (every test : X → Bool) (xs : List X) (x : X) → list_all every xs ≡ true → find test xs ≡ Some x → every x ≡ true
found_passes every test [] x all e = absurd cc
found_passes every test (y ∷ ys) x all e = elim (cases_Bool (every y)) [
  | inl passes ↦
      let rest : list_all every ys ≡ true = rw passes at all in
      elim (cases_Bool (test y)) [
        | inl here ↦ let is : Some y ≡ Some x = rw here at e in cc
        | inr behind ↦ let is : find test ys ≡ Some x = rw behind at e in found_passes every test ys x rest is
      ]
  | inr fails ↦ let wrong : false ≡ true = rw fails at all in absurd cc
]

present_of : (o : Option Stored) (name : List ℕ) (table : Table) → o ≡ Some (table_without_rows table) → (table_objections o name (λ _. []) ≡ []) × (table ≡ unwrap_or (option_map (λ s. s.table) o) no_table)
present_of o name table e = rw e (refl, refl)

absent_of : (o : Option Stored) (name : List ℕ) → o ≡ None → first_of (table_objections o name (λ _. [])) ≡ Some (NoTable name)
absent_of o name e = rw e refl

module _ (catalog : Catalog) where
  pub stored-named : (name : List ℕ) → stored_at (without_rows catalog) name ≡ option_map table_without_rows (table_named catalog name)
  stored-named name = find-without_rows name catalog.tables

  pub index-named : (name : List ℕ) → list_any (λ (index : IndexRule). same_name name index.name) catalog.indexes ≡ is_some (index_named catalog name)
  index-named name = any-find (λ (index : IndexRule). same_name name index.name) catalog.indexes

  pub narrow_named : HasNarrowTables catalog → (name : List ℕ) (table : Table) → table_named catalog name ≡ Some table → length table.columns ≤ most_columns
  narrow_named narrow name table is = leb-true (length table.columns) most_columns (found_passes is_narrow (λ (t : Table). same_name t.name name) catalog.tables table narrow is)

  -- a table that is there, and one that is not
  pub there : (name : List ℕ) (table : Table) → Some table ≡ table_named catalog name → (absence_objections (without_rows catalog) name ≡ []) × (table ≡ table_at (without_rows catalog) name)
  there name table is = present_of (stored_at (without_rows catalog) name) name table (stored-named name ∙ ap (option_map table_without_rows) (sym is))

  pub not_there : (name : List ℕ) → None ≡ table_named catalog name → first_of (absence_objections (without_rows catalog) name) ≡ Some (NoTable name)
  not_there name is = absent_of (stored_at (without_rows catalog) name) name (stored-named name ∙ ap (option_map table_without_rows) (sym is))
