-- The places by whose values an arm goes are those of columns, so each row has a value there.
use Rattle.std.proofs.Common.{◌≡◌, ℕ, zero, suc, ◌+◌, ◌-◌, Bool, true, false, not, ◌&&◌, ◌==◌, cond, nat_le, nat_lt, List, [], ◌∷◌, ◌++◌, map, filter, flat_map, length, Some, None, is_some, refl, sym, ap, ap₂, ◌∙◌, append-nil, subst, arith, length-append}
use Rattle.std.specs.Prelude.{Option, option_map, slice_get, unwrap_or}
use Rattle.std.specs.List.{Contains, list_all, list_any}
use Rattle.std.proofs.lemmas.Bool.{and_from, and_parts, eqb-true, false≢true}
use Rattle.std.proofs.lemmas.Bool.Decides.{nat_tests}
use Rattle.std.proofs.lemmas.List.Folds.{list_all-map}
use Rattle.std.proofs.lemmas.Option.{slice_get-get_or}
use Rattle.bf_base.specs.declared.value.Value.{Value}
use Rattle.bf_base.specs.Lists.{when, with_before}
use Rattle.bf_heap.specs.Heaps.{Entry}
use Rattle.bf_tree.specs.declared.migration.Arm.{Arm}
use Rattle.bf_tree.specs.declared.migration.Join.{Join}
use Rattle.bf_tree.specs.declared.migration.Migrate.{Migrate}
use Rattle.bf_tree.specs.declared.migration.Target.{Target}
use Rattle.bf_tree.specs.declared.plan.ArmKind.{ArmKind}
use Rattle.bf_tree.specs.declared.plan.ArmKind.TheVariants.{ByFrom, ByJoin, ByPair, ByGroup}
use Rattle.bf_tree.specs.declared.reply.Refusal.TheVariants as refusal
use Rattle.bf_sql.specs.Database.{Database, table_at}
use Rattle.bf_sql.specs.Scopes.{Scope, place_of, ref_objections, scope_of}
use Rattle.bf_sql.specs.migrations.Granules.{right_places}
use Rattle.bf_sql.specs.migrations.MigrationObjections.{arm_objections, group_objections, is_by_group, is_by_row, on_objections, target_objections}
use Rattle.bf_sql.specs.migrations.Targets.{arm_kind, arm_scope, equalities, on_places, width}
use Rattle.bf_image.specs.BoundArms.{IsFrozenArm, IsJoined, places_in_from, places_in_join}
use Rattle.bf_index.specs.ByValues.{are_within}
use Rattle.bf_image.specs.Lawful.{IsLawful}
use Rattle.bf_image.specs.Migrations.{IsLawfulMigration, old_of}
use Rattle.bf_image.specs.declared.arms.FrozenArm.{FrozenArm}
use Rattle.bf_image.specs.declared.migration.Frozen.{Frozen}
use Rattle.bf_image.specs.declared.migration.Migration.{Migration}
use Rattle.bf_image.proofs.items.Lists.{all_both, all_kept, all_of_blocks, all_of_contained, all_of_map, all_so, none_left, none_of_each, none_right}
use Rattle.bf_image.proofs.making.Unobjected.{alone_in_groups, arms_ok, arms_unobjected, as_wide, two_sided}
use Rattle.bf_image.proofs.planning.Bound.{from_rows, group_places, join_places_are, joined_of, pair_places, rows_found, rows_in}
use Rattle.bf_image.proofs.planning.Places.{all_behind, place_within, scope_width}

none_at : {X Y : Type 0} (f : Y → List X) (ys : List Y) (k : ℕ) (y : Y) → flat_map f ys ≡ [] → slice_get ys k ≡ Some y → f y ≡ []
none_at f [] k y none at = absurd cc
none_at f (z ∷ zs) zero y none at = let same : z ≡ y = cc in ap f (sym same) ∙ none_left (f z) (flat_map f zs) none
none_at f (z ∷ zs) (suc k) y none at = none_at f zs k y (none_right (f z) (flat_map f zs) none) at

none_of_contained : {X Y : Type 0} (f : Y → List X) (ys : List Y) (y : Y) → flat_map f ys ≡ [] → Contains ys y → f y ≡ []
none_of_contained f ys y none (k, less, at) = none_at f ys k y none (slice_get-get_or ys k y less ∙ ap Some at)

all_pass : {X : Type 0} (test : X → Bool) (xs : List X) → list_all test (filter test xs) ≡ true
all_pass test [] = refl
all_pass test (x ∷ xs) = of (test x) refl (all_pass test xs)
  where
    of : (b : Bool) → test x ≡ b → list_all test (filter test xs) ≡ true → list_all test (cond b (x ∷ filter test xs) (filter test xs)) ≡ true
    of true at rest = and_from _ _ at rest
    of false at rest = rest

-- ALLOWED: there is no objection to an arm of a target
pub record IsAllowed (old : Database) (t : Target) (arm : Arm) : Type 0 where
  pub none : arm_objections old t arm ≡ []
  pub alone : alone_in_groups old arm ≡ true

pub allowed : (old : Database) (m : Migrate) (t : Target) (arm : Arm) → IsLawful old m → Contains m.targets t → Contains t.arms arm → IsAllowed old t arm
allowed old m t arm lawful among within =
    let none : target_objections old t ≡ [] = none_of_contained (target_objections old) m.targets t (none_left _ _ (none_left _ _ lawful.unobjected)) among in
    record {
      none = none_of_contained (arm_objections old t) t.arms arm (arms_unobjected old t none) within;
      alone = (and_parts (two_sided old arm) (alone_in_groups old arm) (all_of_contained (λ a. two_sided old a && alone_in_groups old a) t.arms arm (arms_ok old t none) within)).1;
    }

pub alone_by_group : (old : Database) (arm : Arm) → alone_in_groups old arm ≡ true → arm_kind old arm ≡ ByGroup → arm.join ≡ None
alone_by_group old arm alone kind = of arm.join (sym (ap (λ k. cond (is_by_group k) (not (is_some arm.join)) true) kind) ∙ alone)
  where
    of : (j : Option Join) → not (is_some j) ≡ true → j ≡ None
    of None e = refl
    of (Some j) e = absurd (false≢true e)

module _ (old : Database) (t : Target) (arm : Arm) (ok : IsAllowed old t arm) where
  abbrev scope : Scope
  scope = arm_scope old arm

  group_within : list_all (λ ref. nat_lt (place_of scope ref) (length scope)) arm.group ≡ true
  group_within =
      let none : group_objections scope arm.group ≡ [] = none_right _ _ ok.none in
      all_behind (λ ref. nat_lt (place_of scope ref) (length scope)) [] arm.group
      (none_of_each (λ p. ref_objections scope p.1 ++ when (list_any (λ g. place_of scope g == place_of scope p.1) p.0) (refusal.NameTwice p.1.column)) (λ p. nat_lt (place_of scope p.1) (length scope)) (λ p e. place_within scope p.1 (none_left _ _ e)) (with_before arm.group) none)

  on_within : list_all (λ p. nat_lt p (length scope)) (on_places old arm) ≡ true
  on_within =
      let none : flat_map (on_objections old t arm) (equalities arm) ≡ [] = none_right _ _ (none_left _ _ (none_left _ _ ok.none)) in
      all_of_blocks (λ p. nat_lt p (length scope)) (λ e. place_of scope e.0 ∷ place_of scope e.1 ∷ []) (equalities arm)
      (none_of_each (on_objections old t arm) (λ e. list_all (λ p. nat_lt p (length scope)) (place_of scope e.0 ∷ place_of scope e.1 ∷ []))
      (λ e none. let refs = none_left _ _ (none_left _ _ none) in and_from _ _ (place_within scope e.0 (none_left _ _ refs)) (and_from _ _ (place_within scope e.1 (none_right _ _ refs)) refl))
      (equalities arm) none)

-- rows that are as wide as the places ask
rows_within : (places : List ℕ) (w : ℕ) (rows : List Entry) → list_all (λ p. nat_lt p w) places ≡ true → list_all (λ r. length r == w) (rows_in rows) ≡ true → are_within places rows ≡ true
rows_within places w rows below wide =
    all_so (λ (row : Entry). length row.1 == w) (λ (row : Entry). list_all (λ place. nat_lt place (length row.1)) places)
    (λ row e. ap (λ n. list_all (λ place. nat_lt place n) places) (eqb-true (length row.1) w e) ∙ below) rows
    (sym (list_all-map (λ (r : List Value). length r == w) (λ (row : Entry). row.1) rows) ∙ wide)

module _ (m : Migration) (lawful : IsLawfulMigration m) (number : ℕ) (t : Target) (arm : Arm) (ok : IsAllowed (old_of m) t arm) (bound : FrozenArm) (is : IsFrozenArm m number arm bound) where
  abbrev old : Database
  old = old_of m

  abbrev w : ℕ
  w = width old arm

  alone_scope : arm.join ≡ None → length (arm_scope old arm) ≡ w
  alone_scope e =
      ap (λ (j : Option Join). length (flat_map (λ name. scope_of (table_at old name)) (arm.from ∷ unwrap_or (option_map (λ (j : Join). j.table ∷ []) j) []))) e
      ∙ ap length (append-nil (scope_of (table_at old arm.from))) ∙ scope_width (table_at old arm.from)

  joined_scope : (j : Join) → arm.join ≡ Some j → length (arm_scope old arm) ≡ w + length (table_at old j.table).columns
  joined_scope j e =
      ap (λ (j : Option Join). length (flat_map (λ name. scope_of (table_at old name)) (arm.from ∷ unwrap_or (option_map (λ (j : Join). j.table ∷ []) j) []))) e
      ∙ length-append (scope_of (table_at old arm.from)) (scope_of (table_at old j.table) ++ [])
      ∙ ap₂ (λ a b. a + b) (scope_width (table_at old arm.from)) (ap length (append-nil (scope_of (table_at old j.table))) ∙ scope_width (table_at old j.table))

  from_below : (kind : ArmKind) → arm_kind old arm ≡ kind → is_by_row kind ≡ false → list_all (λ p. nat_lt p w) (places_in_from bound) ≡ true
  from_below ByFrom e values = absurd (false≢true (sym values))
  from_below ByJoin e values = absurd (false≢true (sym values))
  from_below ByPair e values = ap (list_all (λ p. nat_lt p w)) (pair_places m number arm bound is e) ∙ all_pass (λ p. nat_lt p w) (on_places old arm)
  from_below ByGroup e values =
      let alone = alone_by_group old arm ok.alone e in
      ap (list_all (λ p. nat_lt p w)) (group_places m number arm bound is alone)
      ∙ all_of_map (λ p. nat_lt p w) (place_of (arm_scope old arm)) arm.group
      (ap (λ n. list_all (λ ref. nat_lt (place_of (arm_scope old arm) ref) n) arm.group) (sym (alone_scope alone)) ∙ group_within old t arm ok)

  -- each row of FROM has a value at each place of an arm that goes by values
  pub from_within : is_by_row (arm_kind old arm) ≡ false → are_within (places_in_from bound) bound.from.now.rows ≡ true
  from_within values =
      rows_within (places_in_from bound) w bound.from.now.rows (from_below (arm_kind old arm) refl values)
      (ap (list_all (λ r. length r == w)) (sym (from_rows m number arm bound is)) ∙ as_wide old lawful.lawful.database arm arm.from)

  right_below : (n : ℕ) → length (arm_scope old arm) ≡ w + n → list_all (λ p. nat_lt p n) (map (λ p. p - w) (right_places old arm)) ≡ true
  right_below n long =
      let kept = filter (λ p. nat_le w p) (on_places old arm) in
      all_of_map (λ p. nat_lt p n) (λ p. p - w) kept
      (all_both (λ p. nat_le w p) (λ p. nat_lt p (length (arm_scope old arm))) (λ p. nat_lt (p - w) n) (λ p above below. less w n p (length (arm_scope old arm)) long above below) kept
      (all_pass (λ p. nat_le w p) (on_places old arm))
      (all_kept (λ p. nat_lt p (length (arm_scope old arm))) (λ p. nat_le w p) (on_places old arm) (on_within old t arm ok)))
    where
      less : (w n p top : ℕ) → top ≡ w + n → nat_le w p ≡ true → nat_lt p top ≡ true → nat_lt (p - w) n ≡ true
      less w n p top long above below = grind (arith, nat_tests)

  -- each row of JOIN has one at each place there
  pub join_within : (f : Frozen) → joined_of bound ≡ Some f → are_within (places_in_join bound) f.rows ≡ true
  join_within f e = of arm.join refl (subst (IsJoined m arm.join) e is.join)
    where
      of : (j : Option Join) → arm.join ≡ j → IsJoined m j (Some f) → are_within (places_in_join bound) f.rows ≡ true
      of None at none = absurd none
      of (Some j) at there =
          let n : ℕ = length (table_at old j.table).columns in
          rows_within (places_in_join bound) n f.rows
          (ap (list_all (λ p. nat_lt p n)) (join_places_are m number arm bound is) ∙ right_below n (joined_scope j at))
          (ap (list_all (λ r. length r == n)) (sym (rows_found m j.table f there)) ∙ as_wide old lawful.lawful.database arm j.table)
