-- The parts of a target are its image.
use Rattle.std.proofs.Common.{◌≡◌, ℕ, zero, suc, ◌<◌, Bool, true, false, not, cond, List, [], ◌∷◌, ◌++◌, map, filter, flat_map, length, slice_index_or, refl, sym, ap, ap₂, ◌∙◌, inl, inr, arith}
use Rattle.std.specs.List.{list_any, list_all, Contains}
use Rattle.std.proofs.lemmas.Bool.{and_parts, and_from, or_parts, or_from, or_left, or_right, not-true, not_from_false, cases_Bool, false≢true}
use Rattle.std.proofs.lemmas.List.{append-nil}
use Rattle.std.proofs.lemmas.List.Folds.{flat_map-map, list_any-append}
use Rattle.bf_base.specs.declared.value.Value.{Value}
use Rattle.bf_base.specs.Lists.{same_name, has, with_before_from, with_before}
use Rattle.bf_base.proofs.Apart.{are_apart}
use Rattle.bf_base.proofs.Items.{SameItems, through, same_items_if, mapped}
use Rattle.bf_base.proofs.Parts.{flat_map-flat_map}
use Rattle.bf_tree.specs.declared.migration.Target.{Target}
use Rattle.bf_tree.specs.declared.migration.Migrate.{Migrate}
use Rattle.bf_sql.specs.Database.{Database, table_rows}
use Rattle.bf_sql.specs.migrations.Images.{image_of, arm_rows, rows_of_join}
use Rattle.bf_sql.specs.migrations.Granules.{arms_of, granules_of, part_of, part_in}
use Rattle.bf_index.proofs.Bags.{blocks_equal, filter_same_items, filter_of_blocks, map_of_blocks}
use Rattle.bf_image.proofs.items.Names.{name-equal, name-itself, name-symmetric}
use Rattle.bf_image.proofs.cutting.Parts.{labelled, whole, is_fine_arm, all_parts}

-- the rows of the table of a name
abbrev pub named : List ℕ → List (Target × List Value) → List (List Value)
named name rows = map (λ p. p.1) (filter (λ p. same_name p.0.name name) rows)

pub named_labelled : (name : List ℕ) (t : Target) (b : Bool) → same_name t.name name ≡ b → (rows : List (List Value)) → named name (labelled t rows) ≡ cond b rows []
named_labelled name t true e [] = refl
named_labelled name t false e [] = refl
named_labelled name t true e (row ∷ rows) = rw e (ap (λ zs. row ∷ zs) (named_labelled name t true e rows))
named_labelled name t false e (row ∷ rows) = rw e (named_labelled name t false e rows)

pub named_blocks : {X : Type 0} (name : List ℕ) (f : X → List (Target × List Value)) (xs : List X) → named name (flat_map f xs) ≡ flat_map (λ x. named name (f x)) xs
named_blocks name f xs =
    ap (map (λ p. p.1)) (filter_of_blocks (λ p. same_name p.0.name name) f xs) ∙ map_of_blocks (λ p. p.1) (λ x. filter (λ p. same_name p.0.name name) (f x)) xs

-- a target's name is among the names
pub has_at_place : (t : Target) (xs : List Target) (k : ℕ) → k < length xs → slice_index_or xs k t ≡ t → has same_name (map (λ x. x.name) xs) t.name ≡ true
has_at_place t [] k less e = absurd (omega arith)
has_at_place t (x ∷ xs) zero less e = or_left _ _ (ap (λ (y : Target). same_name t.name y.name) e ∙ name-itself t.name)
has_at_place t (x ∷ xs) (suc k) less e = or_right _ _ (has_at_place t xs k (omega arith) e)

-- what comes of the one target of a name
module _ (f : Target → List (List Value)) (t : Target) where
  abbrev pub of_name : Target → List (List Value)
  of_name x = cond (same_name x.name t.name) (f x) []

  none_of_name : (xs : List Target) → has same_name (map (λ x. x.name) xs) t.name ≡ false → flat_map of_name xs ≡ []
  none_of_name [] none = refl
  none_of_name (x ∷ xs) none =
      let parts = or_parts (same_name t.name x.name) (has same_name (map (λ x. x.name) xs) t.name) none in
      ap₂ (λ ys zs. ys ++ zs) (ap (λ b. cond b (f x) []) (name-symmetric x.name t.name ∙ parts.0)) (none_of_name xs parts.1)

  pub one_of_name : (xs : List Target) (k : ℕ) → k < length xs → slice_index_or xs k t ≡ t → are_apart same_name (map (λ x. x.name) xs) ≡ true → flat_map of_name xs ≡ f t
  one_of_name [] k less e apart = absurd (omega arith)
  one_of_name (x ∷ xs) zero less e apart =
      let none : has same_name (map (λ x. x.name) xs) t.name ≡ false = ap (λ (y : Target). has same_name (map (λ x. x.name) xs) y.name) (sym e) ∙ not-true _ (and_parts _ _ apart).0 in
      ap₂ (λ ys zs. ys ++ zs) (ap of_name e ∙ ap (λ b. cond b (f t) []) (name-itself t.name)) (none_of_name xs none) ∙ append-nil (f t)
  one_of_name (x ∷ xs) (suc k) less e apart = elim (cases_Bool (same_name x.name t.name)) [
    | inl is ↦
        let there = has_at_place t xs k (omega arith) e in
        absurd (false≢true (sym (not-true _ (and_parts _ _ apart).0) ∙ ap (has same_name (map (λ x. x.name) xs)) (name-equal x.name t.name is) ∙ there))
    | inr other ↦ ap (λ b. cond b (f x) [] ++ flat_map of_name xs) other ∙ one_of_name xs k (omega arith) e (and_parts _ _ apart).1
  ]

-- names that no earlier target has are apart
abbrev pub is_new : List Target → Target → Bool
is_new before x = not (list_any (λ t. same_name t.name x.name) before)

pub new_names : (seen xs : List Target) → list_all (λ p. is_new p.0 p.1) (with_before_from seen xs) ≡ true
    → (are_apart same_name (map (λ x. x.name) xs) ≡ true) × (list_all (is_new seen) xs ≡ true)
new_names seen [] all = (refl, refl)
new_names seen (x ∷ xs) all =
    let rest = new_names (seen ++ x ∷ []) xs (and_parts _ _ all).1 in
    let both = apart_of xs rest.1 in
    (and_from _ _ (not_from_false _ both.0) rest.0, and_from _ _ (and_parts _ _ all).0 both.1)
  where
    apart_of : (ys : List Target) → list_all (is_new (seen ++ x ∷ [])) ys ≡ true → (has same_name (map (λ y. y.name) ys) x.name ≡ false) × (list_all (is_new seen) ys ≡ true)
    apart_of [] all = (refl, refl)
    apart_of (y ∷ ys) all =
        let rest = apart_of ys (and_parts _ _ all).1 in
        let none = or_parts _ _ (sym (list_any-append (λ t. same_name t.name y.name) seen (x ∷ [])) ∙ not-true _ (and_parts _ _ all).0) in
        (or_from _ _ (or_parts _ _ none.1).0 rest.0, and_from _ _ (not_from_false _ none.0) rest.1)

module _ (old : Database) (m : Migrate) where
  images_named : (name : List ℕ) → named name (flat_map (whole old m) (arms_of m)) ≡ flat_map (λ t. cond (same_name t.name name) (image_of old t) []) m.targets
  images_named name =
      ap (named name) (flat_map-flat_map (whole old m) (λ t. map (λ arm. (t, arm)) t.arms) m.targets
      ∙ blocks_equal (λ t. flat_map (whole old m) (map (λ arm. (t, arm)) t.arms)) (λ t. labelled t (image_of old t))
      (λ t. flat_map-map (whole old m) (λ arm. (t, arm)) t.arms ∙ sym (map_of_blocks (λ row. (t, row)) (λ arm. arm_rows old arm (table_rows old arm.from) (rows_of_join old arm.join)) t.arms)) m.targets)
      ∙ named_blocks name (λ t. labelled t (image_of old t)) m.targets
      ∙ blocks_equal (λ t. named name (labelled t (image_of old t))) (λ t. cond (same_name t.name name) (image_of old t) []) (λ t. named_labelled name t (same_name t.name name) refl (image_of old t)) m.targets

  -- the parts of a target, one after the other, have the rows of its image, each as often
  pub parts_of_target : (t : Target) → Contains m.targets t → list_all (is_fine_arm old m) (arms_of m) ≡ true → list_all (λ p. is_new p.0 p.1) (with_before m.targets) ≡ true
      → SameItems (flat_map (part_in old m t.name) (granules_of old m)) (image_of old t)
  parts_of_target t (k, less, at) fine new =
      through (same_items_if _ _ (sym (named_blocks t.name (part_of old m) (granules_of old m))))
      (through (mapped (λ p. p.1) (filter_same_items (λ p. same_name p.0.name t.name) (all_parts old m fine)))
      (same_items_if _ _ (images_named t.name ∙ one_of_name (image_of old) t m.targets k less at (new_names [] m.targets new).0)))
