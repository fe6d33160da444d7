-- What a statement needs stands among the candidates of the keys that it fixes.
use Rattle.std.proofs.Common.{◌≡◌, ℕ, ◌<◌, Bool, true, not, nat_eq, List, [], ◌∷◌, map, flat_map, length, Option, Some, None, refl, sym, ap, subst, ◌∙◌}
use Rattle.std.specs.Prelude.{IfSome, position}
use Rattle.std.specs.Global.{Vec}
use Rattle.std.specs.List.{Contains, list_all, list_any}
use Rattle.std.specs.Option.{option_map, option_map_or}
use Rattle.std.proofs.lemmas.Bool.{or_left}
use Rattle.std.proofs.lemmas.List.Quantifiers.{position-Some}
use Rattle.bf_base.specs.declared.granule.Granule.{Granule}
use Rattle.bf_base.specs.declared.table.Table.{Table}
use Rattle.bf_base.specs.declared.value.Value.{Value}
use Rattle.bf_base.specs.Lists.{has, same_key}
use Rattle.bf_base.specs.Tables.{cells, key_of}
use Rattle.bf_tree.specs.Trees.{Cond}
use Rattle.bf_tree.specs.declared.bound.Action.{Action}
use Rattle.bf_tree.specs.declared.bound.Action.TheVariants as action
use Rattle.bf_tree.specs.declared.migration.Migrate.{Migrate}
use Rattle.bf_tree.specs.declared.migration.Target.{Target}
use Rattle.bf_sql.specs.Conditions.{fixed_key}
use Rattle.bf_sql.specs.Database.{Database, same_table}
use Rattle.bf_sql.specs.migrations.Granules.{granules_of, part_in, same_granule}
use Rattle.bf_sql.specs.migrations.Need.{giving, has_key_of, may_satisfy, target_of, total_places}
use Rattle.bf_sql.specs.migrations.Targets.{target_table}
use Rattle.bf_live.specs.Replies.{IsWellBound}
use Rattle.bf_image.specs.Migrations.{IsLawfulMigration, old_of, target_at}
use Rattle.bf_image.specs.declared.migration.Migration.{Migration}
use Rattle.bf_image.proofs.finding.Owned.{target_unobjected}
use Rattle.bf_image.proofs.making.Arms.{key-itself}
use Rattle.bf_transpose.specs.Candidates.{HasNeed, candidates_for, candidates_in, keys_of}
use Rattle.bf_transpose.proofs.Possible.{all_picked, one_is_candidate}
use Rattle.bf_transpose.proofs.Finding.{found_among, found_passes}
use Rattle.bf_transpose.proofs.Fixed.{key_fixed}
use Rattle.bf_transpose.proofs.Keyed.{any_so}
use Rattle.bf_transpose.proofs.Named.{is_it, keyed_so}
use Rattle.bf_transpose.proofs.Numbered.{its_number, no_target, own_place}
use Rattle.bf_transpose.proofs.Unfilled.{key_unfilled}

module _ (m : Migration) (lawful : IsLawfulMigration m) where
  abbrev old : Database
  old = old_of m

  abbrev q : Migrate
  q = m.plan.migrate

  module _ (table : Table) where
    abbrev at_place : Option ℕ
    at_place = position (λ made. same_table made table) m.plan.tables

    module _ (place : ℕ) (at : at_place ≡ Some place) where
      abbrev t : Target
      t = target_at m place

      is : target_of old q table ≡ Some t
      is = sym (its_number m lawful table place (sym at))

      pub there : place < length q.targets
      there = (position-Some (is_it old table) q.targets place t (sym (own_place m lawful table) ∙ at)).0

      among : Contains q.targets t
      among = found_among (is_it old table) q.targets t is

      alike : (target_table old t).key ≡ table.key
      alike = keyed_so old table t (found_passes (is_it old table) q.targets t is)

      same_keys : (row : List Value) → key_of table row ≡ key_of (target_table old t) row
      same_keys row = ap (λ places. cells places row) (sym alike)

      picked_among : (test : List Value → Bool) (keys : List (List Value)) → ((row : List Value) → test row ≡ true → has same_key keys (key_of table row) ≡ true)
          → list_all (has same_granule (flat_map (candidates_in m place) keys)) (giving old q (Some t) (λ target. test)) ≡ true
      picked_among test keys follows =
          let part : Granule → List (List Value) = part_in old q t.name in
          all_picked (λ g. list_any test (part g)) (has same_granule (flat_map (candidates_in m place) keys)) (granules_of old q)
          (λ g here some. one_is_candidate m lawful place there keys g here
          (any_so test (λ row. has same_key keys (key_of (target_table old t) row)) (λ row passes. ap (has same_key keys) (sym (same_keys row)) ∙ follows row passes) (part g) some))

      -- a row that a condition may pick has the key that it fixes
      keyed_by : (cond : Cond ℕ) (key : List Value) → fixed_key table cond ≡ Some key → (row : List Value) → may_satisfy cond t row ≡ true → has same_key (key ∷ []) (key_of table row) ≡ true
      keyed_by cond key fixed row may =
          let unfilled : list_all (λ place. not (has nat_eq (total_places t) place)) table.key ≡ true =
          ap (list_all (λ place. not (has nat_eq (total_places t) place))) (sym alike) ∙ key_unfilled old t (target_unobjected old q lawful.lawful t among) in
          or_left _ _ (ap (λ k. same_key k key) (key_fixed t row cond may table key unfilled fixed) ∙ key-itself key)

    -- none where the table is no target
    nowhere : at_place ≡ None → (test : Target → List Value → Bool) (granules : List Granule) → list_all (has same_granule granules) (giving old q (target_of old q table) test) ≡ true
    nowhere none test granules = ap (λ o. list_all (has same_granule granules) (giving old q o test)) (sym (no_target m lawful table (sym none)))

    inserted : (tuples : List (List Value)) (o : Option ℕ) → at_place ≡ o
        → list_all (has same_granule (option_map_or (λ target. flat_map (candidates_in m target) (map (key_of table) tuples)) o [])) (giving old q (target_of old q table) (has_key_of table tuples)) ≡ true
    inserted tuples None at = nowhere at (has_key_of table tuples) []
    inserted tuples (Some place) at =
        let keys = map (key_of table) tuples in
        ap (λ o. list_all (has same_granule (flat_map (candidates_in m place) keys)) (giving old q o (has_key_of table tuples))) (is place at)
        ∙ picked_among place at (λ row. has same_key keys (key_of table row)) keys (λ row passes. passes)

    picked : (cond : Cond ℕ) (key : List Value) → fixed_key table cond ≡ Some key → (o : Option ℕ) → at_place ≡ o
        → list_all (has same_granule (option_map_or (λ target. flat_map (candidates_in m target) (key ∷ [])) o [])) (giving old q (target_of old q table) (may_satisfy cond)) ≡ true
    picked cond key fixed None at = nowhere at (may_satisfy cond) []
    picked cond key fixed (Some place) at =
        ap (λ o. list_all (has same_granule (flat_map (candidates_in m place) (key ∷ []))) (giving old q o (may_satisfy cond))) (is place at)
        ∙ picked_among place at (may_satisfy cond (t place at)) (key ∷ []) (keyed_by place at cond key fixed)

    by_fixed : (cond : Cond ℕ) (fixed : Option (List Value)) → fixed ≡ fixed_key table cond → (key : List Value) → fixed ≡ Some key
        → list_all (has same_granule (candidates_for m (table, key ∷ []))) (giving old q (target_of old q table) (may_satisfy cond)) ≡ true
    by_fixed cond fixed own key some = picked cond key (sym own ∙ some) at_place refl

  pub need_is_among : (act : Action) → IsWellBound act → (pair : Table × List (List Value)) → keys_of act ≡ Some pair → HasNeed m act (candidates_for m pair)
  need_is_among (action.Insert table tuples) bound pair is =
      let same : (table, map (key_of table) tuples) ≡ pair = cc in
      subst (λ p. HasNeed m (action.Insert table tuples) (candidates_for m p)) same (inserted table tuples (at_place table) refl)
  need_is_among (action.Select table items cond (Some key)) bound pair is =
      let same : (table, key ∷ []) ≡ pair = cc in
      subst (λ p. HasNeed m (action.Select table items cond (Some key)) (candidates_for m p)) same (by_fixed table cond (Some key) bound key refl)
  need_is_among (action.Update table sets cond (Some key)) bound pair is =
      let same : (table, key ∷ []) ≡ pair = cc in
      subst (λ p. HasNeed m (action.Update table sets cond (Some key)) (candidates_for m p)) same (by_fixed table cond (Some key) bound key refl)
  need_is_among (action.Delete table cond (Some key)) bound pair is =
      let same : (table, key ∷ []) ≡ pair = cc in
      subst (λ p. HasNeed m (action.Delete table cond (Some key)) (candidates_for m p)) same (by_fixed table cond (Some key) bound key refl)
  need_is_among other bound pair is = absurd cc

  -- so it is of candidates that are told
  pub all_told : (act : Action) → IsWellBound act → (found : Option (Vec Granule)) → option_map (λ (granules : Vec Granule). granules.items) found ≡ option_map (candidates_for m) (keys_of act)
      → IfSome found (λ granules. HasNeed m act granules.items)
  all_told act bound None told = tt
  all_told act bound (Some granules) told = each (keys_of act) refl told
    where
      each : (pairs : Option (Table × List (List Value))) → keys_of act ≡ pairs → Some granules.items ≡ option_map (candidates_for m) pairs → HasNeed m act granules.items
      each None is told = absurd cc
      each (Some pair) is told = let e : granules.items ≡ candidates_for m pair = cc in subst (HasNeed m act) (sym e) (need_is_among act bound pair is)
