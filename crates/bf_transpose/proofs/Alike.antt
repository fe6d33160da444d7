-- A condition that holds of the same rows picks the same granules.
use Rattle.std.proofs.Common.{◌≡◌, ℕ, Bool, true, ◌||◌, cond, List, [], ◌∷◌, filter, refl, sym, ap₂}
use Rattle.std.specs.List.{list_any}
use Rattle.bf_base.specs.declared.granule.Granule.{Granule}
use Rattle.bf_base.specs.declared.value.Value.{Value}
use Rattle.bf_base.specs.Tables.{cell}
use Rattle.bf_tree.specs.Evaluation.{holds_on}
use Rattle.bf_tree.specs.Trees.{Cond, always}
use Rattle.bf_sql.specs.migrations.Granules.{granules_of, part_in}
use Rattle.bf_sql.specs.migrations.Need.{may_satisfy}
use Rattle.bf_image.specs.Migrations.{old_of, target_at}
use Rattle.bf_image.specs.declared.migration.Migration.{Migration}
use Rattle.bf_transpose.specs.Scans.{gives}
use Rattle.bf_transpose.specs.Transposed.{is_always}
use Rattle.bf_transpose.proofs.Each.{always_holds}

any_alike : {X : Type 0} (p q : X → Bool) → ((x : X) → p x ≡ q x) → (xs : List X) → list_any p xs ≡ list_any q xs
any_alike p q same [] = refl
any_alike p q same (x ∷ xs) = ap₂ (λ b c. b || c) (same x) (any_alike p q same xs)

filter_alike : {X : Type 0} (p q : X → Bool) → ((x : X) → p x ≡ q x) → (xs : List X) → filter p xs ≡ filter q xs
filter_alike p q same [] = refl
filter_alike p q same (x ∷ xs) = ap₂ (λ b zs. cond b (x ∷ zs) zs) (same x) (filter_alike p q same xs)

pub given_alike : (m : Migration) (target : ℕ) (part whole : Cond ℕ) → ((row : List Value) → holds_on (cell row) part ≡ may_satisfy whole (target_at m target) row)
    → filter (gives m target part) (granules_of (old_of m) m.plan.migrate)
    ≡ filter (λ g. list_any (may_satisfy whole (target_at m target)) (part_in (old_of m) m.plan.migrate (target_at m target).name g)) (granules_of (old_of m) m.plan.migrate)
given_alike m target part whole same =
    let test : Granule → Bool = λ g. list_any (may_satisfy whole (target_at m target)) (part_in (old_of m) m.plan.migrate (target_at m target).name g) in
    filter_alike (gives m target part) test
    (λ g. any_alike (λ row. holds_on (cell row) part) (may_satisfy whole (target_at m target)) same (part_in (old_of m) m.plan.migrate (target_at m target).name g))
    (granules_of (old_of m) m.plan.migrate)

-- one that is true of each row picks any
pub given_any : (m : Migration) (target : ℕ) (wanted : Cond ℕ) → is_always wanted ≡ true → (g : Granule) → gives m target always g ≡ gives m target wanted g
given_any m target wanted is g =
    any_alike (λ row. holds_on (cell row) always) (λ row. holds_on (cell row) wanted) (λ row. sym (always_holds (cell row) wanted is)) (part_in (old_of m) m.plan.migrate (target_at m target).name g)
