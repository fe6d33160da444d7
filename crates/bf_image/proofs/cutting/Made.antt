-- The parts of a lawful migration make the images.
use Rattle.std.proofs.Common.{◌≡◌, ℕ, ◌+◌, Bool, true, false, cond, List, refl, sym, ◌∙◌, arith}
use Rattle.std.specs.List.{Contains, count_by}
use Rattle.std.proofs.lemmas.List.Recursion.{is_count_by}
use Rattle.bf_base.specs.declared.value.Value.{Value}
use Rattle.bf_base.proofs.Items.{SameItems}
use Rattle.bf_tree.specs.declared.migration.Target.{Target}
use Rattle.bf_tree.specs.declared.migration.Migrate.{Migrate}
use Rattle.bf_sql.specs.Database.{Database}
use Rattle.bf_sql.specs.migrations.Images.{image_of}
use Rattle.bf_image.specs.Laws.{rows_of_parts}
use Rattle.bf_image.specs.Lawful.{IsLawful}
use Rattle.bf_index.proofs.Bags.{tally, tally-same_items}
use Rattle.bf_image.proofs.making.Unobjected.{arms_fine, names_new}
use Rattle.bf_image.proofs.cutting.Targets.{parts_of_target}

counted : {X : Type 0} (p : X → Bool) (xs : List X) → tally p xs ≡ count_by p xs
counted p xs = is_count_by (tally p) p refl (λ x ys. one (p x) (tally p ys)) xs
  where
    one : (b : Bool) (n : ℕ) → cond b 1 0 + n ≡ cond b (1 + n) n
    one true n = refl
    one false n = omega arith

module _ (old : Database) (m : Migrate) (lawful : IsLawful old m) (t : Target) (among : Contains m.targets t) where
  pub same_rows : SameItems (rows_of_parts old m t) (image_of old t)
  same_rows = parts_of_target old m t among (arms_fine old m lawful.database lawful.unobjected) (names_new old m lawful.database lawful.unobjected)

  pub as_often : (test : List Value → Bool) → count_by test (rows_of_parts old m t) ≡ count_by test (image_of old t)
  as_often test = sym (counted test (rows_of_parts old m t)) ∙ tally-same_items test same_rows ∙ counted test (image_of old t)
