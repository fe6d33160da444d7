-- The old tables of a lawful migration.
use Rattle.std.proofs.Common.{◌≡◌, ℕ, ◌<◌, Bool, true, false, not, cond, List, [], ◌∷◌, map, find, length, get_or, Equal, Less, Greater, Some, None, refl, sym, ap, ap₂, ◌∙◌, is_eq, is_some}
use Rattle.std.specs.Prelude.{Option, option_map, slice_get, unwrap_or}
use Rattle.std.specs.List.{list_all}
use Rattle.std.specs.Option.{option_and_then}
use Rattle.std.specs.List.Sorted.{IsPartitionPoint, IsNonDecreasingBy}
use Rattle.std.specs.Ordering.{ordering_index}
use Rattle.std.proofs.lemmas.Bool.{and_parts, false≢true}
use Rattle.std.proofs.lemmas.Option.{slice_get_within, slice_get-map, get_or_from_slice_get}
use Rattle.std.proofs.lemmas.Simd.{map-map}
use Rattle.bf_base.specs.Lists.{name_cmp, rises, same_name}
use Rattle.bf_base.specs.Maps.{entry_at, is_map}
use Rattle.bf_base.proofs.Maps.{entry_at-found, entry_at-gap}
use Rattle.bf_base.proofs.Names.{name_cmp_total, same_name-tie}
use Rattle.bf_base.proofs.Order.{searchable_from_rises}
use Rattle.bf_base.proofs.Parts.{find-map}
use Rattle.bf_tree.specs.declared.migration.Arm.{Arm}
use Rattle.bf_tree.specs.declared.migration.Join.{Join}
use Rattle.bf_tree.specs.declared.migration.Target.{Target}
use Rattle.bf_tree.specs.declared.plan.Plan.{Plan}
use Rattle.bf_sql.specs.Database.{Database, Stored, stored_at}
use Rattle.bf_sql.specs.migrations.MigrationObjections.{arm_objections, source_objections, target_objections}
use Rattle.bf_sql.specs.migrations.Placed.{placed_arm}
use Rattle.bf_sql.specs.migrations.Targets.{arm_sources}
use Rattle.bf_image.specs.BoundArms.{IsJoined, arm_at}
use Rattle.bf_image.specs.Migrations.{IsLawfulMigration, old_of, source_of, stored_of}
use Rattle.bf_image.specs.declared.migration.Frozen.{Frozen}
use Rattle.bf_image.specs.declared.migration.Migration.{Migration}
use Rattle.bf_image.proofs.items.Lists.{all_of_contained, none_left, none_of_each, none_when}
use Rattle.bf_image.proofs.making.Unobjected.{arms_unobjected}

find_alike : {X : Type 0} (p q : X → Bool) → ((x : X) → p x ≡ q x) → (xs : List X) → find p xs ≡ find q xs
find_alike p q one [] = refl
find_alike p q one (x ∷ xs) = ap₂ (λ b found. cond b (Some x) found) (one x) (find_alike p q one xs)

abbrev pub name_of : Frozen → List ℕ
name_of frozen = frozen.table.name

module _ (m : Migration) (name : List ℕ) where
  source_entry : source_of m name ≡ entry_at name_cmp name_of m.frozen name
  source_entry = find_alike (λ frozen. same_name frozen.table.name name) (λ frozen. is_eq (name_cmp (name_of frozen) name)) (λ frozen. same_name-tie (name_of frozen) name) m.frozen

  module _ (lawful : IsLawfulMigration m) where
    by_name : is_map name_cmp name_of m.frozen ≡ true
    by_name = ap (rises name_cmp) (sym (map-map (λ (s : Stored). s.table.name) stored_of m.frozen)) ∙ lawful.lawful.database.tables_by_name

    pub source_found : (place : ℕ) (d : Frozen) → place < length m.frozen → name_cmp (name_of (get_or m.frozen place d)) name ≡ Equal → source_of m name ≡ Some (get_or m.frozen place d)
    source_found place d within tied = source_entry ∙ entry_at-found name_cmp_total name_of m.frozen place name d by_name within tied

    pub source_missing : (place : ℕ)
        → (IsNonDecreasingBy (λ (f : Frozen). ordering_index (name_cmp (name_of f) name)) m.frozen → IsPartitionPoint (λ (f : Frozen). name_cmp (name_of f) name ≡ Less) (λ (f : Frozen). name_cmp (name_of f) name ≡ Greater) m.frozen place)
        → source_of m name ≡ None
    source_missing place parted =
        source_entry ∙ entry_at-gap name_cmp_total name_of m.frozen place name (parted (searchable_from_rises name_cmp_total name_of m.frozen name by_name))

-- the tables that an arm of a lawful migration names are there
all_at : {X : Type 0} (test : X → Bool) (xs : List X) (k : ℕ) (x : X) → list_all test xs ≡ true → slice_get xs k ≡ Some x → test x ≡ true
all_at test xs k x all at = all_of_contained test xs x all (k, slice_get_within xs k x at, get_or_from_slice_get xs k x x at)

abbrev is_sourced : Database → Arm → Bool
is_sourced old arm = list_all (λ name. is_some (stored_at old name)) (arm_sources arm)

some_from_map : {X Y : Type 0} (f : X → Y) (o : Option X) → is_some (option_map f o) ≡ true → (x : X) × (o ≡ Some x)
some_from_map f None e = absurd (false≢true e)
some_from_map f (Some x) e = (x, refl)

module _ (m : Migration) where
  pub stored_source : (name : List ℕ) → stored_at (old_of m) name ≡ option_map stored_of (source_of m name)
  stored_source name = find-map (λ (s : Stored). same_name s.table.name name) stored_of m.frozen

  -- an arm stands in the plan, with places for names, at its own numbers
  pub placed_at : IsLawfulMigration m → (target number : ℕ) → option_and_then (λ arms. slice_get arms number) (slice_get m.plan.arms target) ≡ option_map (placed_arm (old_of m)) (arm_at m target number)
  placed_at lawful target number =
      ap (λ (p : Plan). option_and_then (λ arms. slice_get arms number) (slice_get p.arms target)) lawful.planned
      ∙ ap (option_and_then (λ arms. slice_get arms number)) (slice_get-map (λ (t : Target). map (placed_arm (old_of m)) t.arms) m.plan.migrate.targets target)
      ∙ of (slice_get m.plan.migrate.targets target)
    where
      of : (o : Option Target) → option_and_then (λ arms. slice_get arms number) (option_map (λ (t : Target). map (placed_arm (old_of m)) t.arms) o)
          ≡ option_map (placed_arm (old_of m)) (option_and_then (λ (t : Target). slice_get t.arms number) o)
      of None = refl
      of (Some t) = slice_get-map (placed_arm (old_of m)) t.arms number

  -- an arm that is at its numbers
  pub record IsAt (target number : ℕ) (arm : Arm) : Type 0 where
    pub target_is : Target
    pub of : slice_get m.plan.migrate.targets target ≡ Some target_is
    pub at : slice_get target_is.arms number ≡ Some arm

  pub at_numbers : (target number : ℕ) (arm : Arm) → arm_at m target number ≡ Some arm → IsAt target number arm
  at_numbers target number arm = of (slice_get m.plan.migrate.targets target) refl
    where
      of : (o : Option Target) → slice_get m.plan.migrate.targets target ≡ o → option_and_then (λ (t : Target). slice_get t.arms number) o ≡ Some arm → IsAt target number arm
      of None e none = absurd cc
      of (Some t) e there = record { target_is = t; of = e; at = there }

  module _ (lawful : IsLawfulMigration m) where
    arms_sourced : list_all (λ t. list_all (is_sourced (old_of m)) t.arms) m.plan.migrate.targets ≡ true
    arms_sourced =
        none_of_each (target_objections (old_of m)) (λ t. list_all (is_sourced (old_of m)) t.arms)
        (λ t none. none_of_each (arm_objections (old_of m) t) (is_sourced (old_of m))
        (λ arm e. none_of_each (source_objections (old_of m)) (λ name. is_some (stored_at (old_of m) name)) (λ name e. not_not _ (none_when _ _ e)) (arm_sources arm) (none_left _ _ (none_left _ _ (none_left _ _ (none_left _ _ (none_left _ _ e))))))
        t.arms (arms_unobjected (old_of m) t none)) m.plan.migrate.targets (none_left _ _ (none_left _ _ lawful.lawful.unobjected))
      where
        not_not : (b : Bool) → not b ≡ false → b ≡ true
        not_not true e = refl
        not_not false e = absurd (false≢true (sym e))

    pub tables_there : (target number : ℕ) (arm : Arm) → arm_at m target number ≡ Some arm → list_all (λ name. is_some (stored_at (old_of m) name)) (arm_sources arm) ≡ true
    tables_there target number arm e =
        let is = at_numbers target number arm e in
        all_at (is_sourced (old_of m)) is.target_is.arms number arm
        (all_at (λ t. list_all (is_sourced (old_of m)) t.arms) m.plan.migrate.targets target is.target_is arms_sourced is.of) is.at

    there : (name : List ℕ) → is_some (stored_at (old_of m) name) ≡ true → (f : Frozen) × (source_of m name ≡ Some f)
    there name e = some_from_map stored_of (source_of m name) (ap is_some (sym (stored_source name)) ∙ e)

    pub from_there : (target number : ℕ) (arm : Arm) → arm_at m target number ≡ Some arm → (f : Frozen) × (source_of m arm.from ≡ Some f)
    from_there target number arm e = there arm.from (and_parts _ _ (tables_there target number arm e)).0

    -- the old table of JOIN is found where there is a JOIN
    pub joined_there : (target number : ℕ) (arm : Arm) (found : Option Frozen) → arm_at m target number ≡ Some arm → found ≡ option_and_then (λ (j : Join). source_of m j.table) arm.join → IsJoined m arm.join found
    joined_there target number arm found e is = of arm.join (and_parts _ _ (tables_there target number arm e)).1 found is
      where
        of : (o : Option Join) → list_all (λ name. is_some (stored_at (old_of m) name)) (unwrap_or (option_map (λ (j : Join). j.table ∷ []) o) []) ≡ true
            → (found : Option Frozen) → found ≡ option_and_then (λ (j : Join). source_of m j.table) o → IsJoined m o found
        of None all None is = tt
        of None all (Some f) is = absurd cc
        of (Some j) all None is = let f = there j.table (and_parts _ _ all).0 in let no = f.1 in absurd cc
        of (Some j) all (Some f) is = sym is
