-- The old tables of a migration, looked up by name, and their rows by key.
use Rattle.std.proofs.Common.{◌≡◌, ℕ, Bool, true, false, cond, List, [], ◌∷◌, map, find, Option, Some, None, sym, refl, ap, ap₂, subst, ◌∙◌}
use Rattle.std.specs.Prelude.{option_map, slice_get, unwrap_or}
use Rattle.std.specs.List.{AllByRecursion}
use Rattle.std.proofs.lemmas.Option.{slice_get-map}
use Rattle.bf_base.specs.declared.table.Table.{Table}
use Rattle.bf_base.specs.declared.value.Value.{Value}
use Rattle.bf_base.specs.Lists.{same_name, same_key}
use Rattle.bf_base.specs.Tables.{key_of}
use Rattle.bf_base.proofs.Parts.{find-map}
use Rattle.bf_heap.specs.Heaps.{Entry, row_under}
use Rattle.bf_sql.specs.Database.{Stored, no_table, stored_at, table_at, table_rows}
use Rattle.bf_image.specs.Lookup.{row_with}
use Rattle.bf_image.specs.Migrations.{IsLawfulMigration, HasOwnKeys, old_of, stored_of, source_of}
use Rattle.bf_image.specs.declared.migration.Frozen.{Frozen}
use Rattle.bf_image.specs.declared.migration.Migration.{Migration}
use Rattle.bf_image.proofs.making.Arms.{key-symmetric}

module _ {X : Type 0} (P : X → Type 0) where
  -- what holds of all holds of the one that is found
  pub of_found : (test : X → Bool) (xs : List X) (x : X) → AllByRecursion P xs → find test xs ≡ Some x → P x
  of_found test [] x all found = absurd cc
  of_found test (y ∷ ys) x all found = of (test y) refl (of_found test ys x all.1)
    where
      of : (b : Bool) → test y ≡ b → (find test ys ≡ Some x → P x) → P x
      of true at rest =
          let here : Some y ≡ Some x = sym (ap (λ b. cond b (Some y) (find test ys)) at) ∙ found in
          let same : y ≡ x = cc in
          subst P same all.0
      of false at rest = rest (sym (ap (λ b. cond b (Some y) (find test ys)) at) ∙ found)

  find_alike : (p q : X → Bool) → ((x : X) → P x → p x ≡ q x) → (xs : List X) → AllByRecursion P xs → find p xs ≡ find q xs
  find_alike p q one [] all = refl
  find_alike p q one (x ∷ xs) all = ap₂ (λ b found. cond b (Some x) found) (one x all.0) (find_alike p q one xs all.1)

-- a row under its own key, by the key
pub row_under-own : (frozen : Frozen) → HasOwnKeys frozen → (key : List Value) → row_under frozen.rows key ≡ find (λ row. same_key key (key_of frozen.table row)) (map (λ (e : Entry). e.1) frozen.rows)
row_under-own frozen own key =
    ap (option_map (λ (e : Entry). e.1))
    (find_alike (λ (e : Entry). e.0 ≡ key_of frozen.table e.1) (λ e. same_key e.0 key) (λ e. same_key key (key_of frozen.table e.1)) (λ e is. key-symmetric e.0 key ∙ ap (same_key key) is) frozen.rows own)
    ∙ sym (find-map (λ row. same_key key (key_of frozen.table row)) (λ (e : Entry). e.1) frozen.rows)

module _ (m : Migration) (name : List ℕ) (frozen : Frozen) (found : source_of m name ≡ Some frozen) where
  pub stored_found : stored_at (old_of m) name ≡ Some (stored_of frozen)
  stored_found = find-map (λ (s : Stored). same_name s.table.name name) stored_of m.frozen ∙ ap (option_map stored_of) found

  pub table_found : table_at (old_of m) name ≡ frozen.table
  table_found = ap (λ (o : Option Stored). unwrap_or (option_map (λ s. s.table) o) no_table) stored_found

  pub rows_found : table_rows (old_of m) name ≡ map (λ (e : Entry). e.1) frozen.rows
  rows_found = ap (λ (o : Option Stored). unwrap_or (option_map (λ s. s.rows) o) []) stored_found

  pub row_found : IsLawfulMigration m → (key : List Value) → row_under frozen.rows key ≡ row_with (old_of m) name key
  row_found lawful key =
      row_under-own frozen (of_found HasOwnKeys (λ (f : Frozen). same_name f.table.name name) m.frozen frozen lawful.keys found) key
      ∙ sym (ap₂ (λ (t : Table) (rows : List (List Value)). find (λ row. same_key key (key_of t row)) rows) table_found rows_found)

  -- a row of an old table at a position
  pub row_at_found : (at : ℕ) (o : Option Entry) → slice_get frozen.rows at ≡ o → slice_get (table_rows (old_of m) name) at ≡ option_map (λ (e : Entry). e.1) o
  row_at_found at o is = ap (λ rows. slice_get rows at) rows_found ∙ slice_get-map (λ (e : Entry). e.1) frozen.rows at ∙ ap (option_map (λ (e : Entry). e.1)) is

-- where there is no old table, there are no rows
pub rows_missing : (m : Migration) (name : List ℕ) → source_of m name ≡ None → table_rows (old_of m) name ≡ []
rows_missing m name missing =
    ap (λ (o : Option Stored). unwrap_or (option_map (λ s. s.rows) o) []) (find-map (λ (s : Stored). same_name s.table.name name) stored_of m.frozen ∙ ap (option_map stored_of) missing)
