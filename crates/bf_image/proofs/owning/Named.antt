-- The target of a name, found by where it stands.
use Rattle.std.proofs.Common.{◌≡◌, ℕ, ◌≤◌, Bool, cond, nat_lt, List, find, length, Option, Some, None, sym, ap, ◌∙◌, inl, inr, arith}
use Rattle.std.specs.Prelude.{position, slice_get}
use Rattle.std.specs.List.{position_or_len}
use Rattle.std.specs.Option.{option_and_then}
use Rattle.std.proofs.lemmas.Bool.{cases_Bool}
use Rattle.std.proofs.lemmas.Bool.Decides.{nat_tests}
use Rattle.std.proofs.lemmas.List.Folds.{find_at}
use Rattle.std.proofs.lemmas.List.Quantifiers.{position-Some}
use Rattle.std.proofs.lemmas.Option.{slice_get-get_or, slice_get_past}
use Rattle.bf_base.specs.declared.value.Value.{Value}
use Rattle.bf_base.specs.Lists.{same_name}
use Rattle.bf_tree.specs.declared.migration.Target.{Target}
use Rattle.bf_sql.specs.migrations.Granules.{owner_of}
use Rattle.bf_image.specs.Migrations.{old_of, owner_in, target_at}
use Rattle.bf_image.specs.declared.migration.Migration.{Migration}
use Rattle.bf_image.proofs.finding.Owned.{find_alike}
use Rattle.bf_image.proofs.items.Names.{name-symmetric}

module _ (name : List ℕ) (ts : List Target) where
  abbrev has_name : Target → Bool
  has_name t = same_name name t.name

  found_by_place : find (λ (t : Target). same_name t.name name) ts ≡ option_and_then (slice_get ts) (position has_name ts)
  found_by_place =
      find_alike (λ (t : Target). same_name t.name name) has_name (λ t. name-symmetric t.name name) ts
      ∙ find_at has_name ts
      ∙ elim (cases_Bool (nat_lt (position_or_len has_name ts) (length ts))) [
        | inl within ↦ ap (λ b. option_and_then (slice_get ts) (cond b (Some (position_or_len has_name ts)) None)) (sym within)
        | inr past ↦
            let beyond : length ts ≤ position_or_len has_name ts = grind (arith, nat_tests) in
            slice_get_past ts (position_or_len has_name ts) beyond
            ∙ ap (λ b. option_and_then (slice_get ts) (cond b (Some (position_or_len has_name ts)) None)) (sym past)
      ]

module _ (m : Migration) (name : List ℕ) where
  abbrev sought : Option ℕ → Option Target
  sought o = option_and_then (slice_get m.plan.migrate.targets) o

  module _ (key : List Value) where
    -- no target has the name
    pub no_owner : position (has_name name m.plan.migrate.targets) m.plan.migrate.targets ≡ None → None ≡ owner_in m name key
    no_owner none = sym (ap (option_and_then (λ t. owner_of (old_of m) m.plan.migrate t key)) (found_by_place name m.plan.migrate.targets ∙ ap sought none))

    -- the target at a place has it
    pub owner_by_place : (place : ℕ) → position (has_name name m.plan.migrate.targets) m.plan.migrate.targets ≡ Some place → owner_of (old_of m) m.plan.migrate (target_at m place) key ≡ owner_in m name key
    owner_by_place place is =
        let within = (position-Some (has_name name m.plan.migrate.targets) m.plan.migrate.targets place (target_at m place) is).0 in
        sym (ap (option_and_then (λ t. owner_of (old_of m) m.plan.migrate t key))
        (found_by_place name m.plan.migrate.targets ∙ ap sought is ∙ slice_get-get_or m.plan.migrate.targets place _ within))
