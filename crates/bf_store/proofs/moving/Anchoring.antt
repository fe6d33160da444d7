-- A search by unit and position meets the anchors that are ahead.
use Rattle.std.proofs.Common.{◌≡◌, ℕ, ◌+◌, ◌<◌, ◌≤◌, get_or, true, false, not, cond, List, [], ◌∷◌, ◌++◌, find, drop, length, Option, Some, None, option_map, unwrap_or, refl, sym, ap, ◌∙◌, arith}
use Rattle.std.specs.Prelude.{slice_get}
use Rattle.std.specs.Option.{option_and_then}
use Rattle.std.proofs.lemmas.Bool.{not-false}
use Rattle.std.proofs.lemmas.List.{length-map}
use Rattle.std.proofs.lemmas.Option.{same_Some, slice_get-get_or, slice_get_past}
use Rattle.bf_base.specs.declared.granule.Granule.{Granule}
use Rattle.bf_base.specs.declared.granule.Place.{Place}
use Rattle.bf_sql.specs.migrations.Granules.{UnitForm, anchors_of, granule, rows_unit}
use Rattle.bf_sql.specs.migrations.Lazy.{DoneGranule, Migration, anchored, is_done}
use Rattle.bf_image.specs.Migrations.{IsLawfulMigration, anchored_at, anchors_in, old_of, unit_at, units_in}
use Rattle.bf_image.specs.PlannedUnits.{unit_form}
use Rattle.bf_image.specs.declared.migration.Migration.{Migration as Kept}
use Rattle.bf_image.proofs.planning.Units.{units_stand_for}
use Rattle.bf_store.specs.Anchors.{anchor_of, anchors_ahead, anchors_left, is_open, next_from, unit_anchors}
use Rattle.bf_store.specs.Stores.{migration_of, next_anchor}
use Rattle.bf_store.specs.declared.anchor.Anchor.{Anchor}
use Rattle.bf_store.proofs.moving.Ahead.{Anchored, find-append, find-first, found_in_rest, goes_on_in, next_in_unit, none_ahead, none_in_unit, none_later, unit_ahead}

-- a plan has as many units as its migration, and few
pub units_counted : (m : Kept) → IsLawfulMigration m → length (units_in m) ≡ length m.plan.units
units_counted m lawful = ap length (sym (units_stand_for m lawful)) ∙ length-map m.plan.units (unit_form m.plan.migrate)

module _ (m : Kept) (done : List DoneGranule) where
  abbrev last : Migration
  last = migration_of m done

  abbrev first : List Anchored → Option Anchored
  first = find (is_open last)

  module _ (unit position : ℕ) where
    -- by the unit that is there
    found_place : (form : UnitForm) (g : Granule) → unit_at m unit ≡ Some form → anchored_at m unit position ≡ Some g
        → drop position (unit_anchors (old_of m) (unit, form)) ≡ (g, position) ∷ drop (position + 1) (unit_anchors (old_of m) (unit, form))
    found_place form g there at = on (slice_get (anchors_of (old_of m) form) position) refl (ap (λ (o : Option UnitForm). option_and_then (λ u. option_map (granule unit) (slice_get (anchors_of (old_of m) u) position)) o) (sym there) ∙ at)
      where
        on : (o : Option Place) → slice_get (anchors_of (old_of m) form) position ≡ o → option_map (granule unit) o ≡ Some g
            → drop position (unit_anchors (old_of m) (unit, form)) ≡ (g, position) ∷ drop (position + 1) (unit_anchors (old_of m) (unit, form))
        on None e is = absurd cc
        on (Some p) e is = next_in_unit (old_of m) unit position form p e ∙ ap (λ (h : Granule). (h, position) ∷ drop (position + 1) (unit_anchors (old_of m) (unit, form))) (same_Some (granule unit p) g is)

    left_place : (g : Granule) → anchored_at m unit position ≡ Some g → anchors_left m unit position ≡ (g, position) ∷ anchors_left m unit (position + 1)
    left_place g at = on (unit_at m unit) refl
      where
        on : (o : Option UnitForm) → unit_at m unit ≡ o
            → unwrap_or (option_map (λ form. drop position (unit_anchors (old_of m) (unit, form))) o) [] ≡ (g, position) ∷ unwrap_or (option_map (λ form. drop (position + 1) (unit_anchors (old_of m) (unit, form))) o) []
        on None e =
            let nothing : None ≡ Some g = ap (λ (o : Option UnitForm). option_and_then (λ u. option_map (granule unit) (slice_get (anchors_of (old_of m) u) position)) o) (sym e) ∙ at in
            absurd cc
        on (Some form) e = found_place form g e at

    -- an anchor whose granule has moved is passed over
    pub passed_over : (g : Granule) → anchored_at m unit position ≡ Some g → is_done last g ≡ true → first (anchors_left m unit position) ≡ first (anchors_left m unit (position + 1))
    passed_over g at moved = ap first (left_place g at) ∙ ap (λ b. cond (not b) (Some (g, position)) (first (anchors_left m unit (position + 1)))) moved

    -- and another is the first
    pub first_here : (g : Granule) → anchored_at m unit position ≡ Some g → is_done last g ≡ false → first (anchors_left m unit position) ≡ Some (g, position)
    first_here g at waits = ap first (left_place g at) ∙ ap (λ b. cond (not b) (Some (g, position)) (first (anchors_left m unit (position + 1)))) waits

    none_if : (o : Option UnitForm) → unit_at m unit ≡ o → option_and_then (λ u. option_map (granule unit) (slice_get (anchors_of (old_of m) u) position)) o ≡ None
        → unwrap_or (option_map (λ form. drop position (unit_anchors (old_of m) (unit, form))) o) [] ≡ []
    none_if None e none = refl
    none_if (Some form) e none = none_in_unit (old_of m) unit position form (on (slice_get (anchors_of (old_of m) form) position) none)
      where
        on : (o : Option Place) → option_map (granule unit) o ≡ None → o ≡ None
        on None e = refl
        on (Some p) e = absurd cc

    pub none_left : anchored_at m unit position ≡ None → first (anchors_left m unit position) ≡ None
    none_left none = ap first (none_if (unit_at m unit) refl none)

    -- none is past the last
    pub none_past : anchors_in m unit ≤ position → first (anchors_left m unit position) ≡ None
    none_past past = none_left (on (unit_at m unit) refl)
      where
        on : (o : Option UnitForm) → unit_at m unit ≡ o → option_and_then (λ u. option_map (granule unit) (slice_get (anchors_of (old_of m) u) position)) o ≡ None
        on None e = refl
        on (Some form) e =
            let few : length (anchors_of (old_of m) form) ≤ position = omega (arith, past, ap (λ (o : Option UnitForm). unwrap_or (option_map (λ u. length (anchors_of (old_of m) u)) o) 0) e) in
            ap (option_map (granule unit)) (slice_get_past (anchors_of (old_of m) form) position few)

    -- those ahead are those left of the unit, and those of the units behind it
    module _ (there : unit + 1 ≤ length (units_in m)) where
      split : anchors_ahead m unit position ≡ anchors_left m unit position ++ anchors_ahead m (unit + 1) 0
      split = on (unit_at m unit) refl
        where
          on : (o : Option UnitForm) → unit_at m unit ≡ o
              → anchors_ahead m unit position ≡ unwrap_or (option_map (λ form. drop position (unit_anchors (old_of m) (unit, form))) o) [] ++ anchors_ahead m (unit + 1) 0
          on None e =
              let within : unit < length (units_in m) = omega (arith, there) in
              let some : unit_at m unit ≡ Some (get_or (units_in m) unit (rows_unit [])) = slice_get-get_or (units_in m) unit (rows_unit []) within in
              absurd cc
          on (Some form) e = unit_ahead (old_of m) unit position (units_in m) form e

      pub next_unit : first (anchors_left m unit position) ≡ None → first (anchors_ahead m unit position) ≡ first (anchors_ahead m (unit + 1) 0)
      next_unit none = ap first split ∙ find-append (is_open last) (anchors_left m unit position) (anchors_ahead m (unit + 1) 0) none

      pub in_this_unit : (x : Anchored) → first (anchors_left m unit position) ≡ Some x → first (anchors_ahead m unit position) ≡ Some x
      in_this_unit x found = ap first split ∙ find-first (is_open last) (anchors_left m unit position) (anchors_ahead m (unit + 1) 0) x found

    pub none_behind : length (units_in m) ≤ unit → first (anchors_ahead m unit position) ≡ None
    none_behind past = ap first (none_ahead (old_of m) unit position (units_in m) (slice_get_past (units_in m) unit past))

    -- an anchor of a unit is the unit's
    pub of_this_unit : (x : Anchored) → first (anchors_left m unit position) ≡ Some x → (x.0).unit ≡ unit
    of_this_unit x = on (unit_at m unit)
      where
        on : (o : Option UnitForm) → first (unwrap_or (option_map (λ form. drop position (unit_anchors (old_of m) (unit, form))) o) []) ≡ Some x → (x.0).unit ≡ unit
        on None e = absurd cc
        on (Some form) e = found_in_rest (is_open last) unit 0 position (anchors_of (old_of m) form) x e

    -- so the anchor is the first of all ahead
    pub found_here : (there : unit + 1 ≤ length (units_in m)) (n : ℕ) → option_map (λ (a : Anchored). a.1) (first (anchors_left m unit position)) ≡ Some n
        → Some (record { unit = unit; position = n }) ≡ option_map anchor_of (first (anchors_ahead m unit position))
    found_here there n = on (first (anchors_left m unit position)) refl
      where
        on : (o : Option Anchored) → first (anchors_left m unit position) ≡ o → option_map (λ (a : Anchored). a.1) o ≡ Some n
            → Some (record { unit = unit; position = n }) ≡ option_map anchor_of (first (anchors_ahead m unit position))
        on None e is = absurd cc
        on (Some x) e is =
            let here : anchor_of x ≡ record { unit = unit; position = n } = λ i. record { unit = of_this_unit x e i; position = same_Some x.1 n is i } in
            sym (ap (option_map anchor_of) (in_this_unit there x e) ∙ ap Some here)

    pub none_here : None ≡ option_map (λ (a : Anchored). a.1) (first (anchors_left m unit position)) → first (anchors_left m unit position) ≡ None
    none_here = on (first (anchors_left m unit position))
      where
        on : (o : Option Anchored) → None ≡ option_map (λ (a : Anchored). a.1) o → o ≡ None
        on None e = refl
        on (Some x) e = absurd cc

-- NEXT: where more granules have moved, the next anchor is ahead of the one before
module _ (m : Kept) (done later : List DoneGranule) (more : (g : Granule) → is_done (migration_of m done) g ≡ true → is_done (migration_of m later) g ≡ true) where
  fewer : (a : Anchored) → is_open (migration_of m done) a ≡ false → is_open (migration_of m later) a ≡ false
  fewer a closed = ap not (more a.0 (not-false _ closed))

  pub goes_on : (next : Option Anchor) → next ≡ next_anchor (migration_of m done) → next_from m later next ≡ next_anchor (migration_of m later)
  goes_on next is = ap (next_from m later) is ∙ on (find (is_open (migration_of m done)) (anchored (migration_of m done))) refl
    where
      on : (found : Option Anchored) → find (is_open (migration_of m done)) (anchored (migration_of m done)) ≡ found
          → next_from m later (option_map anchor_of found) ≡ next_anchor (migration_of m later)
      on None e = ap (option_map anchor_of) (sym (none_later (old_of m) (is_open (migration_of m done)) (is_open (migration_of m later)) fewer (anchored (migration_of m done)) e))
      on (Some x) e = ap (option_map anchor_of) (goes_on_in (old_of m) (is_open (migration_of m done)) (is_open (migration_of m later)) fewer 0 (units_in m) x e)
