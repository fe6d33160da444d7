-- A unit of groups of which all have moved has no anchor left.
use Rattle.std.proofs.Common.{◌≡◌, ℕ, zero, suc, ◌+◌, ◌<◌, ◌≤◌, Bool, true, false, not, ◌||◌, cond, List, [], ◌∷◌, ◌++◌, map, flat_map, filter, find, drop, length, Option, Some, None, option_map, unwrap_or, is_none, refl, sym, ap, ap₂, ◌∙◌, arith}
use Rattle.std.specs.Prelude.{slice_get}
use Rattle.std.specs.List.{enumerate_from, list_all}
use Rattle.std.specs.Option.{option_and_then}
use Rattle.std.proofs.lemmas.Bool.{and_parts, and_from, eqb-true, false≢true, ne_eqb, or_from}
use Rattle.std.proofs.lemmas.List.{append-nil, length-map}
use Rattle.std.proofs.lemmas.List.Folds.{list_any-append}
use Rattle.std.proofs.lemmas.Option.{same_Some}
use Rattle.bf_base.specs.declared.granule.Granule.{Granule}
use Rattle.bf_base.specs.declared.granule.Place.{Place}
use Rattle.bf_base.specs.declared.granule.Place.TheVariants.{Group}
use Rattle.bf_base.specs.declared.value.Value.{Value}
use Rattle.bf_base.specs.Distinct.{distinct}
use Rattle.bf_base.specs.Lists.{has, in_order, same_key}
use Rattle.bf_base.specs.Values.{key_cmp, key_cmp_total, key_cmp-IsAntisymmetric}
use Rattle.bf_base.proofs.Apart.{are_apart, apart-filter, apart_from_rises}
use Rattle.bf_tree.specs.declared.migration.Arm.{Arm}
use Rattle.bf_tree.specs.declared.migration.Join.{Join}
use Rattle.bf_tree.specs.declared.migration.Target.{Target}
use Rattle.bf_tree.specs.declared.plan.ArmKind.{ArmKind}
use Rattle.bf_tree.specs.declared.plan.ArmKind.TheVariants.{ByFrom, ByJoin, ByPair, ByGroup}
use Rattle.bf_sql.specs.Database.{Database, table_rows}
use Rattle.bf_sql.specs.migrations.Granules.{UnitForm, rows_unit, values_unit, anchor_values, granule, left_value, places_in, right_value, same_granule, same_place}
use Rattle.bf_sql.specs.migrations.Images.{rows_of_join}
use Rattle.bf_sql.specs.migrations.Lazy.{DoneGranule, Migration, is_done}
use Rattle.bf_sql.specs.migrations.Targets.{arm_kind}
use Rattle.bf_index.specs.ByValues.{Valued, by_value, positions_of}
use Rattle.bf_image.specs.Migrations.{from_values, old_of, unit_at, unit_index, units_in, value_indexes}
use Rattle.bf_image.specs.declared.migration.Migration.{Migration as Kept}
use Rattle.bf_image.specs.declared.value_indexes.UnitIndex.{UnitIndex}
use Rattle.bf_image.proofs.finding.Found.{same_granule-itself}
use Rattle.bf_image.proofs.items.Lists.{all_kept, has_own}
use Rattle.bf_index.proofs.Values.{same-itself, values_in_order-has}
use Rattle.bf_image.proofs.parting.ValueParts.{index_at}
use Rattle.bf_store.specs.Anchors.{AreOf, anchors_left, has_all_groups, is_open, unit_anchors}
use Rattle.bf_store.specs.Marks.{AreInOrder, granules_in, is_group_of}
use Rattle.bf_store.specs.Stores.{migration_of}
use Rattle.bf_store.proofs.Granules.{granule_cmp_total}
use Rattle.bf_store.proofs.coming.Parts.{has_group, in_unit, not_in_unit}
use Rattle.bf_store.proofs.moving.Ahead.{Anchored, numbered}
use Rattle.bf_store.proofs.moving.Completing.{all_there, has_if_within}
use Rattle.bf_store.proofs.moving.Ordered.{ties}

-- ---- a granule of numbered units is one of its own unit
module _ (old : Database) where
  abbrev block : ℕ × UnitForm → List Granule
  block u = map (granule u.0) (places_in old u.1)

  abbrev blocks : ℕ → List UnitForm → List Granule
  blocks n us = flat_map block (enumerate_from n us)

  behind : (n : ℕ) (us : List UnitForm) (g : Granule) → g.unit < n → has same_granule (blocks n us) g ≡ false
  behind n [] g less = refl
  behind n (u ∷ us) g less =
      list_any-append (same_granule g) (block (n, u)) (blocks (n + 1) us)
      ∙ or_from _ _ (not_in_unit g.unit n (places_in old u) g.place (ne_eqb g.unit n (omega arith))) (behind (n + 1) us g (omega arith))

  own_unit : (n i : ℕ) (us : List UnitForm) (form : UnitForm) (g : Granule) → g.unit ≡ n + i → slice_get us i ≡ Some form → has same_granule (blocks n us) g ≡ has same_granule (block (g.unit, form)) g
  own_unit n i [] form g at is = absurd cc
  own_unit n zero (u ∷ us) form g at is =
      let number : n ≡ g.unit = omega (arith, at) in
      let none : has same_granule (blocks (n + 1) us) g ≡ false = behind (n + 1) us g (omega arith) in
      list_any-append (same_granule g) (block (n, u)) (blocks (n + 1) us)
      ∙ ap (λ b. has same_granule (block (n, u)) g || b) none ∙ alone (has same_granule (block (n, u)) g)
      ∙ ap₂ (λ k f. has same_granule (block (k, f)) g) number (same_Some u form is)
    where
      alone : (b : Bool) → (b || false) ≡ b
      alone true = refl
      alone false = refl
  own_unit n (suc i) (u ∷ us) form g at is =
      list_any-append (same_granule g) (block (n, u)) (blocks (n + 1) us)
      ∙ ap (λ b. b || has same_granule (blocks (n + 1) us) g) (not_in_unit g.unit n (places_in old u) g.place (ne_eqb g.unit n (omega (arith, at))))
      ∙ own_unit (n + 1) i us form g (omega (arith, at)) is

-- ---- an arm without a join goes by the values of FROM
module _ (old : Database) (arm : Arm) where
  no_rows : (f : Join → List Valued) (j : Option Join) → is_none (option_map f j) ≡ true → rows_of_join old j ≡ []
  no_rows f None alone = refl
  no_rows f (Some j) alone = absurd (false≢true alone)

  from_alone : (kind : ArmKind) → rows_of_join old arm.join ≡ [] → anchor_values old arm kind ≡ from_values old arm kind
  from_alone ByFrom none = refl
  from_alone ByJoin none = refl
  from_alone ByGroup none = refl
  from_alone ByPair none = ap (λ rows. map (left_value old arm) (table_rows old arm.from) ++ map (right_value old arm) rows) none ∙ append-nil (map (left_value old arm) (table_rows old arm.from))

-- ---- where each of some anchors is closed, none is found
module _ (test : Anchored → Bool) where
  none_dropped : (i : ℕ) (xs : List Anchored) → find test xs ≡ None → find test (drop i xs) ≡ None
  none_dropped zero xs none = none
  none_dropped (suc i) [] none = none
  none_dropped (suc i) (x ∷ xs) none = elim (test x) as (λ b. cond b (Some x) (find test xs) ≡ None → find test (drop i xs) ≡ None) [
    | true ↦ λ e. absurd cc
    | false ↦ λ e. none_dropped i xs e
  ] none

  none_numbered : (closed : List Value → Bool) (n : ℕ) → ((v : List Value) (j : ℕ) → closed v ≡ true → test (granule n (Group v), j) ≡ false) → (j : ℕ) (vs : List (List Value)) → list_all closed vs ≡ true → find test (numbered n j (map Group vs)) ≡ None
  none_numbered closed n so j [] all = refl
  none_numbered closed n so j (v ∷ vs) all =
      ap (λ b. cond b (Some (granule n (Group v), j)) (find test (numbered n (j + 1) (map Group vs)))) (so v j (and_parts _ _ all).0)
      ∙ none_numbered closed n so (j + 1) vs (and_parts _ _ all).1

module _ (m : Kept) (done : List DoneGranule) (ordered : AreInOrder done) (of : AreOf m (granules_in done)) (unit : ℕ) where
  abbrev old : Database
  old = old_of m

  abbrev last : Migration
  last = migration_of m done

  abbrev groups : List Granule
  groups = filter (is_group_of unit) (granules_in done)

  groups_apart : are_apart same_granule groups ≡ true
  groups_apart = apart-filter same_granule (is_group_of unit) (granules_in done) (ap (λ same. are_apart same (granules_in done)) ties ∙ apart_from_rises granule_cmp_total (granules_in done) ordered)

  groups_done : (g : Granule) → has same_granule groups g ≡ true → is_done last g ≡ true
  groups_done g there = has_if_within groups (granules_in done) g (all_kept _ (is_group_of unit) (granules_in done) (has_own same_granule same_granule-itself (granules_in done))) there

  module _ (form : UnitForm) (at : unit_at m unit ≡ Some form) where
    abbrev its : List Granule
    its = map (granule unit) (places_in old form)

    within : (gs : List Granule) → AreOf m gs → list_all (has same_granule its) (filter (is_group_of unit) gs) ≡ true
    within [] all = refl
    within (g ∷ gs) all =
        let counted : g.unit ≡ 0 + g.unit = omega arith in
        let rest = within gs (and_parts _ _ all).1 in
        elim (is_group_of unit g) as (λ b. is_group_of unit g ≡ b → list_all (has same_granule its) (cond b (g ∷ filter (is_group_of unit) gs) (filter (is_group_of unit) gs)) ≡ true) [
          | true ↦ λ is.
              let number : g.unit ≡ unit = eqb-true _ _ (and_parts _ _ is).0 in
              let here : slice_get (units_in m) g.unit ≡ Some form = ap (unit_at m) number ∙ at in
              let own : has same_granule (map (granule g.unit) (places_in old form)) g ≡ true = sym (own_unit old 0 g.unit (units_in m) form g counted here) ∙ (and_parts _ _ all).0 in
              and_from _ _ (ap (λ k. has same_granule (map (granule k) (places_in old form)) g) (sym number) ∙ own) rest
          | false ↦ λ other. rest
        ] refl

    -- where as many have moved as there are, each has
    each_done : length (places_in old form) ≤ length groups → (p : Place) → has same_place (places_in old form) p ≡ true → is_done last (granule unit p) ≡ true
    each_done enough p there =
        let few : length its ≤ length groups = omega (arith, enough, length-map (places_in old form) (granule unit)) in
        groups_done (granule unit p) (all_there groups its groups_apart (within (granules_in done) of) few (granule unit p) (in_unit unit (places_in old form) p ∙ there))

  module _ (target : Target) (arm : Arm) (at : unit_at m unit ≡ Some (values_unit target arm)) (all : has_all_groups (unit_index old (values_unit target arm)) (length groups) ≡ true) where
    abbrev values : List (List Value)
    values = anchor_values old arm (arm_kind old arm)

    abbrev places : List Place
    places = places_in old (values_unit target arm)

    enough : length places ≤ length groups
    enough =
        let parts = and_parts _ _ all in
        let from : List (List Value) = from_values old arm (arm_kind old arm) in
        let sorted : List (List Value) → List (List Value) = λ vs. in_order key_cmp (λ v. v) (distinct same_key vs) in
        let same : values ≡ from = from_alone old arm (arm_kind old arm) (no_rows old arm _ arm.join parts.0) in
        let count : length groups ≡ length (by_value from) = eqb-true _ _ parts.1 in
        let entries : length (by_value from) ≡ length (sorted from) = length-map (sorted from) (λ value. (value, positions_of value from)) in
        let its : length places ≡ length (sorted values) = length-map (sorted values) Group in
        let alike : length (sorted values) ≡ length (sorted from) = ap (λ vs. length (sorted vs)) same in
        omega (arith, count, entries, its, alike)

    closed : (v : List Value) (j : ℕ) → has same_key values v ≡ true → is_open last (granule unit (Group v), j) ≡ false
    closed v j there =
        let place : has same_place places (Group v) ≡ true = has_group (in_order key_cmp (λ v. v) (distinct same_key values)) v ∙ values_in_order-has key_cmp_total key_cmp-IsAntisymmetric values v ∙ there in
        ap not (each_done (values_unit target arm) at enough (Group v) place)

    none_in_values : (position : ℕ) → find (is_open last) (drop position (unit_anchors old (unit, values_unit target arm))) ≡ None
    none_in_values position =
        none_dropped (is_open last) position (unit_anchors old (unit, values_unit target arm))
        (none_numbered (is_open last) (has same_key values) unit closed 0 values (has_own same_key (same-itself key_cmp_total key_cmp-IsAntisymmetric) values))

  -- PASSED OVER
  pub none_of_unit : has_all_groups (option_and_then (λ index. index) (slice_get (value_indexes m) unit)) (length groups) ≡ true → (position : ℕ) → find (is_open last) (anchors_left m unit position) ≡ None
  none_of_unit all position = on (unit_at m unit) refl
    where
      by_index : (form : UnitForm) → unit_at m unit ≡ Some form → has_all_groups (unit_index old form) (length groups) ≡ true
      by_index form at = ap (λ (o : Option UnitIndex). has_all_groups o (length groups)) (sym (index_at m unit form at)) ∙ all

      on : (o : Option UnitForm) → unit_at m unit ≡ o → find (is_open last) (unwrap_or (option_map (λ form. drop position (unit_anchors old (unit, form))) o) []) ≡ None
      on None at = refl
      on (Some (rows_unit driver)) at = absurd (false≢true (by_index (rows_unit driver) at))
      on (Some (values_unit target arm)) at = none_in_values target arm at (by_index (values_unit target arm) at) position
