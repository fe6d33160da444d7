-- A row that may satisfy a condition has the key that the condition fixes, since no total fills a column of the key.
use Rattle.std.proofs.Common.{◌≡◌, ℕ, Bool, true, false, not, ◌||◌, nat_eq, List, [], ◌∷◌, map, Option, Some, None, option_map, refl, ap, ap₂, ◌∙◌}
use Rattle.std.specs.Prelude.{option_and_then, slice_get, ◌==◌, if◌then◌else◌}
use Rattle.std.specs.List.{list_all, filter_map, cons_option}
use Rattle.std.proofs.lemmas.Bool.{and_parts, and_from, not-true, or_from}
use Rattle.std.proofs.lemmas.Option.{cond_some, same_Some}
use Rattle.bf_base.specs.declared.table.Table.{Table}
use Rattle.bf_base.specs.declared.value.Value.{Value}
use Rattle.bf_base.specs.Lists.{has}
use Rattle.bf_base.specs.Tables.{cell, cells, key_of}
use Rattle.bf_tree.specs.declared.compare.Compare.TheVariants as compare
use Rattle.bf_tree.specs.declared.migration.Target.{Target}
use Rattle.bf_tree.specs.Evaluation.{holds_on}
use Rattle.bf_tree.specs.Fixed.{conjuncts, value_fixed}
use Rattle.bf_tree.specs.Trees.{literal, column, Cond, compared}
use Rattle.bf_sql.specs.Conditions.{all_there, fixed_key}
use Rattle.bf_sql.specs.migrations.Need.{may_satisfy, mentions_total, total_places}
use Rattle.bf_sql.proofs.FixedKey.{first_held, same_place}

module _ (t : Target) (row : List Value) where
  abbrev is_unfilled : ℕ → Bool
  is_unfilled place = not (has nat_eq (total_places t) place)

  abbrev may_hold : Cond ℕ → Bool
  may_hold c = mentions_total t c || holds_on (cell row) c

  unfilled_alone : (at place : ℕ) (w v : Value) → (if at == place then Some w else None) ≡ Some v → has nat_eq (total_places t) place ≡ false → has nat_eq (total_places t) at ≡ false
  unfilled_alone at place w v fixed none = ap (has nat_eq (total_places t)) (same_place at place (cond_some (at == place) w v fixed).0) ∙ none

  -- a conjunct that fixes a column mentions that one alone
  mentions_none : (place : ℕ) (c : Cond ℕ) (v : Value) → value_fixed place c ≡ Some v → has nat_eq (total_places t) place ≡ false → mentions_total t c ≡ false
  mentions_none place (compared compare.Equal (column at) (literal w)) v fixed none = or_from _ _ (unfilled_alone at place w v fixed none) refl
  mentions_none place (compared compare.Equal (literal w) (column at)) v fixed none = or_from _ _ (unfilled_alone at place w v fixed none) refl
  mentions_none place c v fixed none = absurd cc

  -- and gives it the value
  value_held : (place : ℕ) (c : Cond ℕ) (v : Value) → value_fixed place c ≡ Some v → is_unfilled place ≡ true → may_hold c ≡ true → cell row place ≡ v
  value_held place c v fixed unfilled may =
      let none = mentions_none place c v fixed (not-true _ unfilled) in
      let holds : holds_on (cell row) c ≡ true = rw none at may in
      let first : slice_get (filter_map (value_fixed place) (c ∷ [])) 0 ≡ Some v = rw fixed refl in
      first_held row place (c ∷ []) v first (and_from _ _ holds refl)

  first_fixed : (place : ℕ) (cs : List (Cond ℕ)) (v : Value) → slice_get (filter_map (value_fixed place) cs) 0 ≡ Some v → is_unfilled place ≡ true → list_all may_hold cs ≡ true → cell row place ≡ v
  first_fixed place [] v first unfilled all = absurd cc
  first_fixed place (c ∷ cs) v first unfilled all =
      elim (value_fixed place c) as (λ o. value_fixed place c ≡ o → slice_get (cons_option o (filter_map (value_fixed place) cs)) 0 ≡ Some v → cell row place ≡ v) [
        | None ↦ λ e is. first_fixed place cs v is unfilled (and_parts _ _ all).1
        | Some w ↦ λ e is. value_held place c v (e ∙ is) unfilled (and_parts _ _ all).0
      ] refl first

  module _ (cond : Cond ℕ) (may : may_satisfy cond t row ≡ true) where
    abbrev fixed : ℕ → Option Value
    fixed place = slice_get (filter_map (value_fixed place) (conjuncts cond)) 0

    all_fixed : (places : List ℕ) (key : List Value) → list_all is_unfilled places ≡ true → all_there (map fixed places) ≡ Some key → cells places row ≡ key
    all_fixed [] key unfilled is = same_Some _ _ is
    all_fixed (place ∷ places) key unfilled is =
        elim (fixed place) as (λ o. fixed place ≡ o → option_and_then (λ v. option_map (λ vs. v ∷ vs) (all_there (map fixed places))) o ≡ Some key → cells (place ∷ places) row ≡ key) [
          | None ↦ λ e there. absurd cc
          | Some v ↦ λ e there.
              elim (all_there (map fixed places)) as (λ rest. all_there (map fixed places) ≡ rest → option_map (λ vs. v ∷ vs) rest ≡ Some key → cells (place ∷ places) row ≡ key) [
                | None ↦ λ none is. absurd cc
                | Some vs ↦ λ some is.
                    ap₂ (λ w ws. w ∷ ws) (first_fixed place (conjuncts cond) v e (and_parts _ _ unfilled).0 may) (all_fixed places vs (and_parts _ _ unfilled).1 some) ∙ same_Some _ _ is
              ] refl there
        ] refl is

    pub key_fixed : (table : Table) (key : List Value) → list_all is_unfilled table.key ≡ true → fixed_key table cond ≡ Some key → key_of table row ≡ key
    key_fixed table key unfilled is = all_fixed table.key key unfilled is
