-- The targets of a migration by their numbers and by their names.
use Rattle.std.proofs.Common.{◌≡◌, ℕ, zero, suc, ◌<◌, true, false, eqb, List, [], ◌∷◌, map, length, Some, refl, sym, ap, ◌∙◌, inl, inr, arith}
use Rattle.std.specs.Prelude.{slice_get}
use Rattle.std.proofs.lemmas.Bool.{and_parts, cases_Bool, not-true, or_parts}
use Rattle.std.proofs.lemmas.Bool.Decides.{nat_tests}
use Rattle.std.proofs.lemmas.Option.{slice_get-get_or}
use Rattle.bf_base.specs.Lists.{same_name, has}
use Rattle.bf_base.proofs.Apart.{are_apart}
use Rattle.bf_base.proofs.Order.{same_from_some}
use Rattle.bf_tree.specs.declared.migration.Target.{Target}
use Rattle.bf_image.specs.Migrations.{IsLawfulMigration, old_of, target_at}
use Rattle.bf_image.specs.declared.migration.Migration.{Migration}
use Rattle.bf_image.proofs.items.Names.{name-itself, name-symmetric}
use Rattle.bf_image.proofs.cutting.Targets.{new_names}
use Rattle.bf_image.proofs.making.Unobjected.{names_new}

abbrev name_of : Target → List ℕ
name_of t = t.name

-- what no item passes, the item at a place does not
none_at : (name : List ℕ) (xs : List Target) (i : ℕ) (x : Target) → has same_name (map name_of xs) name ≡ false → slice_get xs i ≡ Some x → same_name name x.name ≡ false
none_at name [] i x none at = absurd cc
none_at name (y ∷ ys) zero x none at = ap (λ (t : Target). same_name name t.name) (sym (same_from_some y x at)) ∙ (or_parts _ _ none).0
none_at name (y ∷ ys) (suc i) x none at = none_at name ys i x (or_parts _ _ none).1 at

-- among different names, items at different places have different ones
named_apart : (xs : List Target) → are_apart same_name (map name_of xs) ≡ true → (i j : ℕ) (x y : Target) → slice_get xs i ≡ Some x → slice_get xs j ≡ Some y → (i ≡ j → ⊥) → same_name x.name y.name ≡ false
named_apart [] apart i j x y here at other = absurd cc
named_apart (t ∷ ts) apart zero zero x y here at other = absurd (other refl)
named_apart (t ∷ ts) apart zero (suc j) x y here at other =
    ap (λ (s : Target). same_name s.name y.name) (sym (same_from_some t x here)) ∙ none_at t.name ts j y (not-true _ (and_parts _ _ apart).0) at
named_apart (t ∷ ts) apart (suc i) zero x y here at other =
    name-symmetric x.name y.name ∙ ap (λ (s : Target). same_name s.name x.name) (sym (same_from_some t y at)) ∙ none_at t.name ts i x (not-true _ (and_parts _ _ apart).0) here
named_apart (t ∷ ts) apart (suc i) (suc j) x y here at other = named_apart ts (and_parts _ _ apart).1 i j x y here at (λ e. other (ap suc e))

module _ (m : Migration) (lawful : IsLawfulMigration m) where
  targets_apart : are_apart same_name (map name_of m.plan.migrate.targets) ≡ true
  targets_apart = (new_names [] m.plan.migrate.targets (names_new (old_of m) m.plan.migrate lawful.lawful.database lawful.lawful.unobjected)).0

  target_there : (number : ℕ) → number < length m.plan.migrate.targets → slice_get m.plan.migrate.targets number ≡ Some (target_at m number)
  target_there number within = slice_get-get_or m.plan.migrate.targets number _ within

  -- a target is its name's
  pub name_tells_number : (i j : ℕ) → i < length m.plan.migrate.targets → j < length m.plan.migrate.targets → same_name (target_at m i).name (target_at m j).name ≡ eqb i j
  name_tells_number i j here there = elim (cases_Bool (eqb i j)) [
    | inl same ↦
        let equal : i ≡ j = grind (arith, nat_tests) in
        ap (λ k. same_name (target_at m i).name (target_at m k).name) (sym equal) ∙ name-itself (target_at m i).name ∙ sym same
    | inr other ↦
        named_apart m.plan.migrate.targets targets_apart i j (target_at m i) (target_at m j) (target_there i here) (target_there j there) (λ e. grind (arith, nat_tests)) ∙ sym other
  ]
