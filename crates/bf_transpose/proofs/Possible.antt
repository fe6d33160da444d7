-- Each granule that has a row with a key is a candidate of the key.
use Rattle.std.proofs.Common.{◌≡◌, ℕ, zero, suc, get_or, take, map-id, ◌+◌, ◌<◌, ◌≤◌, Bool, true, false, ◌||◌, ◌==◌, cond, if◌then◌else◌, List, [], ◌∷◌, ◌++◌, map, filter, flat_map, length, Option, Some, None, option_map, unwrap_or, refl, sym, ap, ◌∙◌, inl, inr, arith}
use Rattle.std.specs.Prelude.{IfSome, IsTrue}
use Rattle.std.specs.List.{list_all, list_any, range_with_len}
use Rattle.std.proofs.lemmas.Bool.{and_from, and_parts, cases_Bool, cases_lt, eq-eqb, false≢true, or_left, or_right}
use Rattle.std.proofs.lemmas.List.{flat_map_more, take_more}
use Rattle.std.proofs.lemmas.List.Folds.{list_any-append}
use Rattle.std.proofs.lemmas.List.FromFn.{map-range_with_len_more}
use Rattle.std.proofs.lemmas.Option.{slice_get_past}
use Rattle.bf_base.specs.declared.granule.Granule.{Granule}
use Rattle.bf_base.specs.declared.granule.Place.{Place}
use Rattle.bf_base.specs.declared.value.Value.{Value}
use Rattle.bf_base.specs.Lists.{has, same_key, same_name}
use Rattle.bf_base.specs.Tables.{cell, key_of}
use Rattle.bf_base.specs.Values.{key_cmp_total}
use Rattle.bf_base.proofs.Order.{symmetric}
use Rattle.bf_tree.specs.Trees.{always}
use Rattle.bf_tree.specs.Evaluation.{holds_on}
use Rattle.bf_tree.specs.declared.migration.Migrate.{Migrate}
use Rattle.bf_tree.specs.declared.migration.Target.{Target}
use Rattle.bf_tree.specs.declared.plan.Unit.{Unit as Planned}
use Rattle.bf_sql.specs.Database.{Database}
use Rattle.bf_sql.specs.migrations.Granules.{UnitForm, granule, granules_of, owner_of, part_at, part_in, places_in, same_granule, same_place, units_of}
use Rattle.bf_sql.specs.migrations.Targets.{target_table}
use Rattle.bf_image.specs.Laws.{owns}
use Rattle.bf_image.specs.Lookup.{places_by}
use Rattle.bf_image.specs.Migrations.{IsLawfulMigration, old_of, target_at, unit_at}
use Rattle.bf_image.specs.Owners.{candidates_at}
use Rattle.bf_image.specs.declared.migration.Migration.{Migration}
use Rattle.bf_image.proofs.finding.Found.{same_granule-itself}
use Rattle.bf_transpose.specs.Candidates.{candidate_in, candidates_in}
use Rattle.bf_transpose.specs.Scans.{gives, has_arm}
use Rattle.bf_transpose.proofs.Driving.{at_unit, found_has, of_number, owned_place}
use Rattle.bf_transpose.proofs.Finding.{found_passes}
use Rattle.bf_transpose.proofs.Keyed.{any_of_both, any_so}
use Rattle.bf_transpose.proofs.Sought.{none_at_place}

-- what stands in a block stands among all
in_blocks : (f : ℕ → List Granule) (g : Granule) (first count at : ℕ) → first ≤ at → at < first + count → has same_granule (f at) g ≡ true → has same_granule (flat_map f (range_with_len first count)) g ≡ true
in_blocks f g first zero at low high there = absurd (omega arith)
in_blocks f g first (suc count) at low high there =
    list_any-append (same_granule g) (f first) (flat_map f (range_with_len (first + 1) count))
    ∙ elim (cases_lt first at) [
      | inl behind ↦ or_right _ _ (in_blocks f g (first + 1) count at (omega arith) (omega arith) there)
      | inr here ↦ let same : at ≡ first = omega arith in or_left _ _ (ap (λ n. has same_granule (f n) g) (sym same) ∙ there)
    ]

module _ (m : Migration) (lawful : IsLawfulMigration m) (target : ℕ) (there : target < length m.plan.migrate.targets) where
  abbrev old : Database
  old = old_of m

  abbrev q : Migrate
  q = m.plan.migrate

  abbrev t : Target
  t = target_at m target

  module _ (key : List Value) (unit : ℕ) (place : Place) (own : owns old q t key (granule unit place) ≡ true) where
    abbrev g : Granule
    g = granule unit place

    -- its unit has an arm of the target
    armed : has_arm m target unit ≡ true
    armed = elim (cases_Bool (has_arm m target unit)) [
      | inl is ↦ is
      | inr none ↦
          let given : gives m target always g ≡ true = any_so (λ row. same_key key (key_of (target_table old t) row)) (λ row. holds_on (cell row) always) (λ row is. refl) (part_in old q t.name g) own in
          absurd (false≢true (sym (none_at_place m lawful target there always unit none place) ∙ given))
    ]

    planned : unit < length m.plan.units
    planned = elim (cases_lt unit (length m.plan.units)) [
      | inl within ↦ within
      | inr past ↦
          absurd (false≢true (sym (ap (λ (o : Option Planned). unwrap_or (option_map (λ (u : Planned). list_any (λ arm. arm.0 == target) u.arms) o) false) (slice_get_past m.plan.units unit past)) ∙ armed))
    ]

    -- a row with the key stands at the place that is looked up
    at_place : has same_granule (granules_of old q) g ≡ true → (o : Option UnitForm) → unit_at m unit ≡ o → has same_granule (candidates_at m t key unit) g ≡ true
    at_place among None e =
        absurd (false≢true (sym (ap (λ o. list_any (λ row. same_key key (key_of (target_table old t) row)) (map (λ p. p.1) (filter (λ p. same_name p.0.name t.name) (unwrap_or (option_map (λ form. part_at old q form place) o) [])))) e) ∙ own))
    at_place among (Some form) e =
        let places = places_by old t key form in
        let stands : has same_place (places_in old form) place ≡ true = sym (at_unit (places_in old) (units_of old q) 0 unit unit form place e (omega arith)) ∙ among in
        ap (λ o. has same_granule (unwrap_or (option_map (λ form. map (granule unit) (places_by old t key form)) o) []) g) e
        ∙ of_number unit unit place places
        ∙ and_from _ _ (eq-eqb unit unit refl) (owned_place m lawful target there unit form place key e stands own)

    is_candidate : has same_granule (granules_of old q) g ≡ true → has same_granule (candidates_in m target key) g ≡ true
    is_candidate among =
        let here : has same_granule (candidate_in m target key unit) g ≡ true =
        ap (λ b. has same_granule (if b then candidates_at m t key unit else []) g) armed ∙ at_place among (unit_at m unit) refl in
        in_blocks (candidate_in m target key) g 0 (length m.plan.units) unit (omega arith) (omega (arith, planned)) here

  -- a granule that has a row with a key is a candidate of it
  pub owner_is_candidate : (key : List Value) (g : Granule) → has same_granule (granules_of old q) g ≡ true → owns old q t key g ≡ true → has same_granule (candidates_in m target key) g ≡ true
  owner_is_candidate key g among own = is_candidate key g.unit g.place own among

  -- so is the owner of a key, if it has one
  pub owner_among : (key : List Value) (o : Option Granule) → o ≡ owner_of old q t key → IfSome o (λ g. IsTrue (has same_granule (candidates_in m target key) g))
  owner_among key None is = tt
  owner_among key (Some g) is =
      owner_is_candidate key g (found_has (owns old q t key) (granules_of old q) g (sym is)) (found_passes (owns old q t key) (granules_of old q) g (sym is))

  -- and one with a row that has one of some keys a candidate of them
  pub one_is_candidate : (keys : List (List Value)) (g : Granule) → has same_granule (granules_of old q) g ≡ true
      → list_any (λ row. has same_key keys (key_of (target_table old t) row)) (part_in old q t.name g) ≡ true → has same_granule (flat_map (candidates_in m target) keys) g ≡ true
  one_is_candidate [] g among some = absurd (false≢true (sym (nothing (part_in old q t.name g)) ∙ some))
    where
      nothing : (rows : List (List Value)) → list_any (λ row. has same_key [] (key_of (target_table old t) row)) rows ≡ false
      nothing [] = refl
      nothing (row ∷ rows) = nothing rows
  one_is_candidate (key ∷ keys) g among some =
      let own : List Value → List Value = key_of (target_table old t) in
      let either = sym (any_of_both (λ row. same_key (own row) key) (λ row. has same_key keys (own row)) (part_in old q t.name g)) ∙ some in
      list_any-append (same_granule g) (candidates_in m target key) (flat_map (candidates_in m target) keys)
      ∙ elim (cases_Bool (list_any (λ row. same_key (own row) key) (part_in old q t.name g))) [
        | inl has_it ↦
            or_left _ _ (owner_is_candidate key g among
            (any_so (λ row. same_key (own row) key) (λ row. same_key key (own row)) (λ row is. symmetric key_cmp_total key (own row) ∙ is) (part_in old q t.name g) has_it))
        | inr other ↦ or_right _ _ (one_is_candidate keys g among (sym (ap (λ b. b || list_any (λ row. has same_key keys (own row)) (part_in old q t.name g)) other) ∙ either))
      ]

-- what each of a list that passes a test satisfies, all that pass it do
module _ (p test : Granule → Bool) where
  each_among : (all gs : List Granule) → ((g : Granule) → has same_granule all g ≡ true → p g ≡ true → test g ≡ true)
      → list_all (has same_granule all) gs ≡ true → list_all test (filter p gs) ≡ true
  each_among all [] each there = refl
  each_among all (g ∷ gs) each there =
      let both = and_parts (has same_granule all g) _ there in
      of (p g) refl (each_among all gs each both.1) both.0
    where
      of : (b : Bool) → p g ≡ b → list_all test (filter p gs) ≡ true → has same_granule all g ≡ true → list_all test (cond (p g) (g ∷ filter p gs) (filter p gs)) ≡ true
      of true e rest here = ap (λ b. list_all test (cond b (g ∷ filter p gs) (filter p gs))) e ∙ and_from _ _ (each g here e) rest
      of false e rest here = ap (λ b. list_all test (cond b (g ∷ filter p gs) (filter p gs))) e ∙ rest

had_behind : (xs : List Granule) (x : Granule) (ys : List Granule) → list_all (has same_granule xs) ys ≡ true → list_all (has same_granule (x ∷ xs)) ys ≡ true
had_behind xs x [] all = refl
had_behind xs x (y ∷ ys) all = let both = and_parts _ _ all in and_from _ _ (or_right _ _ both.0) (had_behind xs x ys both.1)

all_had : (xs : List Granule) → list_all (has same_granule xs) xs ≡ true
all_had [] = refl
all_had (x ∷ xs) = and_from _ _ (or_left _ _ (same_granule-itself x)) (had_behind xs x xs (all_had xs))

-- a list's items that pass a test
pub all_picked : (p test : Granule → Bool) (gs : List Granule) → ((g : Granule) → has same_granule gs g ≡ true → p g ≡ true → test g ≡ true) → list_all test (filter p gs) ≡ true
all_picked p test gs each = each_among p test gs gs each (all_had gs)

-- the numbers of units so far, and one more
pub range_more : (n : ℕ) → range_with_len 0 n ++ n ∷ [] ≡ range_with_len 0 (n + 1)
range_more n =
    let sum : 0 + n ≡ n = omega arith in
    ap (λ ns. ns ++ n ∷ []) (sym (map-id (range_with_len 0 n))) ∙ (sym (map-range_with_len_more (λ k. k) 0 n n sum) ∙ map-id (range_with_len 0 (n + 1)))

-- and the items of each, behind others
pub blocks_more : {X : Type 0} (f : ℕ → List X) (first so_far next : List X) (n : ℕ) → so_far ≡ first ++ flat_map f (range_with_len 0 n) → next ≡ so_far ++ f n
    → next ≡ first ++ flat_map f (range_with_len 0 (n + 1))
blocks_more f first so_far next n before pushed =
    pushed ∙ (ap (λ xs. xs ++ f n) before ∙ (flat_map_more f first (range_with_len 0 n) n ∙ ap (λ ns. first ++ flat_map f ns) (range_more n)))

-- the items of the first of a list, and of the next
pub blocks_next : {X Y : Type 0} (f : X → List Y) (xs : List X) (i : ℕ) (d : X) → i < length xs → flat_map f (take i xs) ++ f (get_or xs i d) ≡ flat_map f (take (i + 1) xs)
blocks_next f xs i d less = flat_map_more f [] (take i xs) (get_or xs i d) ∙ ap (flat_map f) (sym (take_more xs i d less))
