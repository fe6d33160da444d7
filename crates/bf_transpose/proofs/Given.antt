-- Whether a granule gives a row at all.
use Rattle.std.proofs.Common.{◌≡◌, ℕ, Bool, true, false, ◌||◌, cond, List, [], ◌∷◌, map, filter, refl}
use Rattle.std.specs.List.{list_any}
use Rattle.bf_base.specs.declared.granule.Granule.{Granule}
use Rattle.bf_base.specs.declared.value.Value.{Value}
use Rattle.bf_base.specs.Lists.{same_name}
use Rattle.bf_tree.specs.Trees.{always}
use Rattle.bf_tree.specs.declared.migration.Target.{Target}
use Rattle.bf_sql.specs.migrations.Granules.{part_of}
use Rattle.bf_image.specs.Giving.{gives_row}
use Rattle.bf_image.specs.Migrations.{old_of, target_at}
use Rattle.bf_image.specs.declared.migration.Migration.{Migration}
use Rattle.bf_transpose.specs.Scans.{gives}

any_left : {X Y : Type 0} (f : X → Y) (test : X → Bool) (xs : List X) → list_any test xs ≡ list_any (λ y. true) (map f (filter test xs))
any_left f test [] = refl
any_left f test (x ∷ xs) = of (test x) (any_left f test xs)
  where
    of : (b : Bool) → list_any test xs ≡ list_any (λ y. true) (map f (filter test xs)) → (b || list_any test xs) ≡ list_any (λ y. true) (map f (cond b (x ∷ filter test xs) (filter test xs)))
    of true e = refl
    of false e = e

-- one that a condition which is always true picks
pub gives_always : (m : Migration) (target : ℕ) (g : Granule) → gives_row m target g ≡ gives m target always g
gives_always m target g = any_left (λ (p : Target × List Value). p.1) (λ p. same_name p.0.name (target_at m target).name) (part_of (old_of m) m.plan.migrate g)
