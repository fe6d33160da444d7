-- The owner of a key among the candidates that are left, once those of one unit have been looked at.
use Rattle.std.proofs.Common.{◌≡◌, ℕ, ◌+◌, ◌<◌, ◌≤◌, Bool, cond, List, map, find, length, Option, Some, None, sym, ap, ◌∙◌, arith}
use Rattle.std.specs.Option.{option_or, option_to_list}
use Rattle.std.proofs.lemmas.List.{get_or_default, length-map}
use Rattle.std.proofs.lemmas.List.Folds.{find-append}
use Rattle.bf_base.specs.declared.granule.Granule.{Granule}
use Rattle.bf_base.specs.declared.granule.Place.{Place}
use Rattle.bf_base.specs.declared.value.Value.{Value}
use Rattle.bf_tree.specs.declared.migration.Target.{Target}
use Rattle.bf_sql.specs.migrations.Granules.{granule, owner_of}
use Rattle.bf_image.specs.Laws.{owns}
use Rattle.bf_image.specs.Migrations.{IsLawfulMigration, old_of, target_at, units_in}
use Rattle.bf_image.specs.Owners.{candidates_at}
use Rattle.bf_image.specs.PlannedUnits.{unit_form}
use Rattle.bf_image.specs.declared.migration.Migration.{Migration}
use Rattle.bf_image.proofs.finding.Owner.{looked_up}
use Rattle.bf_image.proofs.owning.Candidates.{candidates_from, candidates_more, no_more_candidates}
use Rattle.bf_image.proofs.planning.Units.{units_stand_for}

module _ (m : Migration) (lawful : IsLawfulMigration m) (target : ℕ) (there : target < length m.plan.migrate.targets) (key : List Value) where
  abbrev t : Target
  t = target_at m target

  abbrev is_owner : Granule → Bool
  is_owner g = owns (old_of m) m.plan.migrate t key g

  -- OWNED: what the candidates from a unit on give is the owner
  abbrev pub AreLeft : ℕ → Type 0
  AreLeft number = find is_owner (candidates_from m t key number) ≡ owner_of (old_of m) m.plan.migrate t key

  pub all_left : AreLeft 0
  all_left = sym (looked_up (old_of m) m.plan.migrate lawful.lawful t (target, there, get_or_default m.plan.migrate.targets target t _ there) key)

  pub units_many : length m.plan.units ≡ length (units_in m)
  units_many = sym (length-map m.plan.units (unit_form m.plan.migrate)) ∙ ap length (units_stand_for m lawful)

  pub none_left : (number : ℕ) → length m.plan.units ≤ number → AreLeft number → None ≡ owner_of (old_of m) m.plan.migrate t key
  none_left number past left =
      let many = units_many in
      ap (find is_owner) (sym (no_more_candidates m t key number (omega (arith, past, many)))) ∙ left

  module _ (number : ℕ) (within : number < length m.plan.units) where
    abbrev here : Option Granule
    here = find is_owner (candidates_at m t key number)

    next_left : AreLeft number → option_or here (find is_owner (candidates_from m t key (number + 1))) ≡ owner_of (old_of m) m.plan.migrate t key
    next_left left =
        let many = units_many in
        sym (find-append is_owner (candidates_at m t key number) (candidates_from m t key (number + 1)))
        ∙ ap (find is_owner) (sym (candidates_more m t key number (omega (arith, within, many)))) ∙ left

    -- a unit without the owner
    pub left_past : None ≡ here → AreLeft number → AreLeft (number + 1)
    left_past none left = ap (λ o. option_or o (find is_owner (candidates_from m t key (number + 1)))) none ∙ next_left left

    -- the unit that has it
    pub found_here : (g : Granule) → Some g ≡ here → AreLeft number → Some g ≡ owner_of (old_of m) m.plan.migrate t key
    found_here g is left = ap (λ o. option_or o (find is_owner (candidates_from m t key (number + 1)))) is ∙ next_left left

  module _ (number : ℕ) (place : Option Place) (is : map (granule number) (option_to_list place) ≡ candidates_at m t key number) where
    -- a unit without a candidate
    pub none_in_unit : place ≡ None → None ≡ find is_owner (candidates_at m t key number)
    none_in_unit none = ap (λ o. find is_owner (map (granule number) (option_to_list o))) (sym none) ∙ ap (find is_owner) is

    module _ (at : Place) (some : place ≡ Some at) where
      -- what a unit has is its candidate, if that is the owner
      pub one_in_unit : (found : Bool) → is_owner (granule number at) ≡ found → cond found (Some (granule number at)) None ≡ find is_owner (candidates_at m t key number)
      one_in_unit found own =
          ap (λ b. cond b (Some (granule number at)) None) (sym own)
          ∙ ap (λ o. find is_owner (map (granule number) (option_to_list o))) (sym some) ∙ ap (find is_owner) is
