-- The rows of an old table, found by their keys and by their positions.
use Rattle.std.proofs.Common.{◌≡◌, ℕ, ◌+◌, Bool, true, false, not, cond, nat_lt, List, [], ◌∷◌, map, find, Option, Some, None, option_map, unwrap_or, refl, sym, ap, ap₂, subst, ◌∙◌}
use Rattle.std.specs.Prelude.{position}
use Rattle.std.specs.List.{AllByRecursion, position_or_len}
use Rattle.std.proofs.lemmas.List.{length-map}
use Rattle.bf_base.specs.declared.value.Value.{Value}
use Rattle.bf_base.specs.Lists.{same_key, same_name}
use Rattle.bf_base.specs.Tables.{key_of}
use Rattle.bf_base.specs.Values.{key_cmp}
use Rattle.bf_base.specs.Maps.{has_key}
use Rattle.bf_base.proofs.Parts.{find-map}
use Rattle.bf_heap.specs.Heaps.{Entry, key_of_entry, row_under}
use Rattle.bf_sql.specs.Database.{Stored, no_table, stored_at, table_at, table_rows}
use Rattle.bf_image.specs.Lookup.{has_the_key, row_with}
use Rattle.bf_image.specs.Migrations.{HasOwnKeys, IsLawfulMigration, old_of, source_of, stored_of}
use Rattle.bf_image.specs.declared.migration.Frozen.{Frozen}
use Rattle.bf_image.specs.declared.migration.Migration.{Migration}
use Rattle.bf_image.proofs.making.Arms.{key-symmetric}
use Rattle.bf_image.proofs.planning.Numbered.{each_so}

-- an item that is found is one of those of which something holds
pub each_found : {X : Type 0} (P : X → Type 0) (test : X → Bool) (xs : List X) (x : X) → AllByRecursion P xs → find test xs ≡ Some x → P x
each_found P test [] x all e = absurd cc
each_found P test (y ∷ ys) x all e = of (test y) (each_found P test ys x all.1) e
  where
    of : (b : Bool) → (find test ys ≡ Some x → P x) → cond b (Some y) (find test ys) ≡ Some x → P x
    of true rest e = let same : y ≡ x = cc in subst P same all.0
    of false rest e = rest e

-- tests that agree on each item find the same one, at the same place
module _ {X : Type 0} (p q : X → Bool) where
  find_each : (xs : List X) → AllByRecursion (λ x. p x ≡ q x) xs → find p xs ≡ find q xs
  find_each [] all = refl
  find_each (x ∷ xs) all = ap₂ (λ b found. cond b (Some x) found) all.0 (find_each xs all.1)

place_each : {X Y : Type 0} (p : X → Bool) (q : Y → Bool) (f : X → Y) (xs : List X) → AllByRecursion (λ x. p x ≡ q (f x)) xs → position_or_len p xs ≡ position_or_len q (map f xs)
place_each p q f [] all = refl
place_each p q f (x ∷ xs) all = ap₂ (λ b n. cond (not b) (1 + n) 0) all.0 (place_each p q f xs all.1)

module _ (m : Migration) (name : List ℕ) where
  stored_named : stored_at (old_of m) name ≡ option_map stored_of (source_of m name)
  stored_named = find-map (λ (s : Stored). same_name s.table.name name) stored_of m.frozen

  abbrev rows_in : Option Stored → List (List Value)
  rows_in o = unwrap_or (option_map (λ (s : Stored). s.rows) o) []

  pub no_rows : source_of m name ≡ None → table_rows (old_of m) name ≡ []
  no_rows missing = ap rows_in (stored_named ∙ ap (option_map stored_of) missing)

  module _ (f : Frozen) (found : source_of m name ≡ Some f) where
    pub table_is : table_at (old_of m) name ≡ f.table
    table_is = ap (λ o. unwrap_or (option_map (λ (s : Stored). s.table) o) no_table) (stored_named ∙ ap (option_map stored_of) found)

    pub rows_are : table_rows (old_of m) name ≡ map (λ e. e.1) f.rows
    rows_are = ap rows_in (stored_named ∙ ap (option_map stored_of) found)

    module _ (lawful : IsLawfulMigration m) (key : List Value) where
      abbrev has_it : List Value → Bool
      has_it row = same_key key (key_of f.table row)

      own_keys : HasOwnKeys f
      own_keys = each_found HasOwnKeys (λ (g : Frozen). same_name g.table.name name) m.frozen f lawful.keys found

      tests_agree : (λ row. has_the_key (old_of m) name key row) ≡ has_it
      tests_agree = ap (λ t row. same_key key (key_of t row)) table_is

      -- the position of a key is that of the row that has it
      pub position_is : position (λ (e : Entry). same_key key e.0) f.rows ≡ position (has_the_key (old_of m) name key) (table_rows (old_of m) name)
      position_is =
          let same = place_each (λ (e : Entry). same_key key e.0) has_it (λ e. e.1) f.rows
          (each_so (λ (e : Entry). e.0 ≡ key_of f.table e.1) (λ (e : Entry). same_key key e.0 ≡ has_it e.1) (λ e own. ap (same_key key) own) f.rows own_keys) in
          let many = length-map f.rows (λ (e : Entry). e.1) in
          ap₂ (λ n k. cond (nat_lt n k) (Some n) None) same (sym many)
          ∙ ap₂ (λ (test : List Value → Bool) rows. position test rows) (sym tests_agree) (sym rows_are)

      -- the row under a key is the one that has it
      pub row_is : row_under f.rows key ≡ row_with (old_of m) name key
      row_is =
          ap (option_map (λ (e : Entry). e.1))
          (find_each (has_key key_cmp key_of_entry key) (λ (e : Entry). has_it e.1) f.rows
          (each_so (λ (e : Entry). e.0 ≡ key_of f.table e.1) (λ (e : Entry). has_key key_cmp key_of_entry key e ≡ has_it e.1)
          (λ e own. key-symmetric e.0 key ∙ ap (same_key key) own) f.rows own_keys))
          ∙ sym (find-map has_it (λ e. e.1) f.rows)
          ∙ ap₂ (λ (test : List Value → Bool) rows. find test rows) (sym tests_agree) (sym rows_are)
