-- A key is free exactly where it has no owner, or its owner has moved.
use Rattle.std.proofs.Common.{◌≡◌, Bool, true, false, not, ◌||◌, List, [], ◌∷◌, map, filter, flat_map, find, Option, Some, None, refl, sym, ap, ap₂, ◌∙◌, inl, inr}
use Rattle.std.specs.List.{list_any}
use Rattle.std.specs.Option.{option_to_list}
use Rattle.std.proofs.lemmas.Bool.{cases_Bool}
use Rattle.std.proofs.lemmas.List.Folds.{list_any-append}
use Rattle.bf_base.specs.declared.granule.Granule.{Granule}
use Rattle.bf_base.specs.declared.value.Value.{Value}
use Rattle.bf_base.specs.Lists.{same_name, same_key, has}
use Rattle.bf_base.specs.Tables.{key_of}
use Rattle.bf_base.proofs.Order.{list_any-map}
use Rattle.bf_tree.specs.declared.migration.Target.{Target}
use Rattle.bf_sql.specs.Database.{Database, Stored}
use Rattle.bf_sql.specs.migrations.Granules.{granules_of, part_in, owner_of}
use Rattle.bf_sql.specs.migrations.Lazy.{Migration, is_done, pending, due}
use Rattle.bf_image.specs.Laws.{owns}
use Rattle.bf_image.proofs.finding.Owned.{one_owner}
use Rattle.bf_image.proofs.items.Names.{name-equal}
use Rattle.bf_live.proofs.statements.Named.{IsThere}
use Rattle.bf_store.specs.States.{IsUnderWay, is_free, settled_by}
use Rattle.bf_store.proofs.coming.Due.{made_by}
use Rattle.bf_store.proofs.coming.Found.{is_among, passes_if_found}

module _ {X : Type 0} where
  any_of_blocks : {Y : Type 0} (test : Y → Bool) (f : X → List Y) (xs : List X)
      → list_any test (flat_map f xs) ≡ list_any (λ x. list_any test (f x)) xs
  any_of_blocks test f [] = refl
  any_of_blocks test f (x ∷ xs) = list_any-append test (f x) (flat_map f xs) ∙ ap (λ b. list_any test (f x) || b) (any_of_blocks test f xs)

  -- of two tests either may come first
  either_first : (p q : X → Bool) (xs : List X) → list_any q (filter p xs) ≡ list_any p (filter q xs)
  either_first p q [] = refl
  either_first p q (x ∷ xs) =
      let rest = either_first p q xs in
      elim (cases_Bool (p x)) [
        | inl first ↦ elim (cases_Bool (q x)) [
          | inl too ↦ rw (first, too, first) refl
          | inr none ↦ rw (first, none) rest
        ]
        | inr not_first ↦ elim (cases_Bool (q x)) [
          | inl too ↦ rw (not_first, too, not_first) rest
          | inr none ↦ rw (not_first, none) rest
        ]
      ]

module _ (live : Database) (last : Migration) (way : IsUnderWay live last) (s : Stored) (there : IsThere live s) (t : Target)
    (found : find (λ t. same_name t.name s.table.name) last.migrate.targets ≡ Some t) (key : List Value) where
  abbrev owned : Granule → Bool
  owned = owns last.old last.migrate t key

  -- a row with the key is to come where a granule that has it is pending
  to_come : has same_key (map (key_of s.table) (due (Some last) s.table.name)) key ≡ list_any owned (pending last)
  to_come =
      let made = made_by live last way s there t found in
      let same = name-equal t.name s.table.name (passes_if_found (λ t. same_name t.name s.table.name) last.migrate.targets t found) in
      list_any-map (same_key key) (key_of s.table) (due (Some last) s.table.name)
      ∙ any_of_blocks (λ row. same_key key (key_of s.table row)) (part_in last.old last.migrate s.table.name) (pending last)
      ∙ ap₂ (λ table name. list_any (λ g. list_any (λ row. same_key key (key_of table row)) (part_in last.old last.migrate name g)) (pending last)) made (sym same)

  by_owner : (o : Option Granule) → not (list_any (λ g. not (is_done last g)) (option_to_list o)) ≡ settled_by last o
  by_owner None = refl
  by_owner (Some g) = elim (is_done last g) as (λ b. not (not b || false) ≡ b) [ true ↦ refl | false ↦ refl ]

  -- FREE: of the table that is a target, a key is free exactly where it has no owner or its owner has moved
  pub free_is_settled : is_free (Some last) s.table key ≡ settled_by last (owner_of last.old last.migrate t key)
  free_is_settled =
      let one = one_owner last.old last.migrate way.lawful t (is_among (λ t. same_name t.name s.table.name) last.migrate.targets t found) key in
      ap not (to_come ∙ either_first (λ g. not (is_done last g)) owned (granules_of last.old last.migrate) ∙ ap (list_any (λ g. not (is_done last g))) one)
      ∙ by_owner (owner_of last.old last.migrate t key)
