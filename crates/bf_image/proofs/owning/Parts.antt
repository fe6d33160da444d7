-- Whether a part has a row of a target with a key, told by the numbers of its rows' targets.
use Rattle.std.proofs.Common.{◌≡◌, ℕ, ◌<◌, Bool, true, false, ◌&&◌, ◌||◌, cond, eqb, List, [], ◌∷◌, map, filter, length, refl, sym, ap, ap₂, subst, ◌∙◌}
use Rattle.std.specs.List.{AllByRecursion, list_any}
use Rattle.bf_base.specs.declared.granule.Granule.{Granule}
use Rattle.bf_base.specs.declared.value.Value.{Value}
use Rattle.bf_base.specs.Lists.{same_key, same_name}
use Rattle.bf_base.specs.Tables.{key_of}
use Rattle.bf_tree.specs.declared.migration.Target.{Target}
use Rattle.bf_sql.specs.migrations.Targets.{target_table}
use Rattle.bf_image.specs.Laws.{owns}
use Rattle.bf_image.specs.Migrations.{ArePart, IsLawfulMigration, old_of, target_at}
use Rattle.bf_image.specs.Owners.{is_row_with}
use Rattle.bf_image.specs.declared.migration.Migration.{Migration}
use Rattle.bf_image.proofs.owning.Armed.{IsArmed, HasArmedTarget, armed_within, part_armed}
use Rattle.bf_image.proofs.owning.Targets.{name_tells_number}

each_of_mapped : {X Y : Type 0} (P : Y → Type 0) (Q : X → Type 0) (f : X → Y) → ((x : X) → P (f x) → Q x) → (xs : List X) → AllByRecursion P (map f xs) → AllByRecursion Q xs
each_of_mapped P Q f one [] all = tt
each_of_mapped P Q f one (x ∷ xs) all = (one x all.0, each_of_mapped P Q f one xs all.1)

module _ (m : Migration) (lawful : IsLawfulMigration m) (target : ℕ) (there : target < length m.plan.migrate.targets) where
  abbrev named : ℕ × List Value → Target × List Value
  named p = (target_at m p.0, p.1)

  abbrev is_of_target : Target × List Value → Bool
  is_of_target p = same_name p.0.name (target_at m target).name

  abbrev IsTold : ℕ × List Value → Type 0
  IsTold p = is_of_target (named p) ≡ eqb p.0 target

  told_by_number : (p : ℕ × List Value) → IsArmed (target_at m p.0) → IsTold p
  told_by_number p armed = name_tells_number m lawful p.0 target (armed_within m p.0 armed) there

  any_named : (test : List Value → Bool) (rows : List (ℕ × List Value)) → AllByRecursion IsTold rows
      → list_any test (map (λ p. p.1) (filter is_of_target (map named rows))) ≡ list_any (λ p. eqb p.0 target && test p.1) rows
  any_named test [] told = refl
  any_named test (p ∷ rows) told =
      of (is_of_target (named p)) ∙ ap₂ (λ b rest. (b && test p.1) || rest) told.0 (any_named test rows told.1)
    where
      of : (b : Bool) → list_any test (map (λ p. p.1) (cond b (named p ∷ filter is_of_target (map named rows)) (filter is_of_target (map named rows))))
          ≡ ((b && test p.1) || list_any test (map (λ p. p.1) (filter is_of_target (map named rows))))
      of true = refl
      of false = refl

  -- a granule owns a key where its rows have it
  pub owns_by_number : (g : Granule) (key : List Value) (rows : List (ℕ × List Value)) → ArePart m g rows
      → owns (old_of m) m.plan.migrate (target_at m target) key g ≡ list_any (is_row_with (target_table (old_of m) (target_at m target)) key target) rows
  owns_by_number g key rows part =
      let old = old_of m in
      let test : List Value → Bool = λ row. same_key key (key_of (target_table old (target_at m target)) row) in
      let armed : AllByRecursion (HasArmedTarget old m.plan.migrate) (map named rows) = subst (λ ps. AllByRecursion (HasArmedTarget old m.plan.migrate) ps) (sym part) (part_armed old m.plan.migrate g) in
      ap (λ ps. list_any test (map (λ p. p.1) (filter is_of_target ps))) (sym part)
      ∙ any_named test rows (each_of_mapped (HasArmedTarget old m.plan.migrate) IsTold named told_by_number rows armed)
