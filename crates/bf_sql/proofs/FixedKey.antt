-- A row that satisfies a condition has the key that the condition fixes.
use Rattle.std.proofs.Common.{◌≡◌, ℕ, Bool, true, List, [], ◌∷◌, ◌++◌, map, Option, Some, None, option_map, refl, sym, ap, ap₂, ◌∙◌, is_eq, arith}
use Rattle.std.specs.Prelude.{option_and_then, slice_get, ◌==◌, if◌then◌else◌}
use Rattle.std.specs.List.{list_all, filter_map, cons_option}
use Rattle.std.proofs.lemmas.Bool.{and_parts, and_from}
use Rattle.std.proofs.lemmas.Bool.Decides.{nat_tests}
use Rattle.std.proofs.lemmas.Option.{cond_some, same_Some}
use Rattle.bf_base.specs.declared.value.Value.{Value}
use Rattle.bf_base.specs.declared.table.Table.{Table}
use Rattle.bf_base.specs.Tables.{cell, cells, key_of}
use Rattle.bf_base.specs.Values.{value_cmp, value_cmp-IsAntisymmetric}
use Rattle.bf_base.proofs.Order.{equal_from_test}
use Rattle.bf_tree.specs.declared.compare.Compare.TheVariants as compare
use Rattle.bf_tree.specs.Trees.{literal, column, Cond, always, compared, between, opposite, both, either}
use Rattle.bf_tree.specs.Evaluation.{holds_on}
use Rattle.bf_tree.specs.Fixed.{conjuncts, value_fixed}
use Rattle.bf_sql.specs.Conditions.{all_there, fixed_key}

pub same_place : (m n : ℕ) → m == n ≡ true → m ≡ n
same_place m n e = grind (arith, nat_tests)

all_append : {X : Type 0} (test : X → Bool) (xs ys : List X) → list_all test xs ≡ true → list_all test ys ≡ true → list_all test (xs ++ ys) ≡ true
all_append test [] ys h g = g
all_append test (x ∷ xs) ys h g = and_from _ _ (and_parts _ _ h).0 (all_append test xs ys (and_parts _ _ h).1 g)

module _ (row : List Value) where
  -- a condition that is true has true conjuncts
  pub conjuncts_hold : (c : Cond ℕ) → holds_on (cell row) c ≡ true → list_all (holds_on (cell row)) (conjuncts c) ≡ true
  conjuncts_hold (both c d) h = all_append (holds_on (cell row)) (conjuncts c) (conjuncts d) (conjuncts_hold c (and_parts _ _ h).0) (conjuncts_hold d (and_parts _ _ h).1)
  conjuncts_hold always h = refl
  conjuncts_hold (compared op a b) h = and_from _ _ h refl
  conjuncts_hold (between a b c) h = and_from _ _ h refl
  conjuncts_hold (opposite c) h = and_from _ _ h refl
  conjuncts_hold (either c d) h = and_from _ _ h refl

  at_place : (at place : ℕ) (w v : Value) → (if at == place then Some w else None) ≡ Some v → is_eq (value_cmp (cell row at) w) ≡ true → cell row place ≡ v
  at_place at place w v fixed h =
      let parts = cond_some (at == place) w v fixed in
      ap (cell row) (sym (same_place at place parts.0)) ∙ value_cmp-IsAntisymmetric (cell row at) w (equal_from_test _ h) ∙ parts.1

  at_place_back : (at place : ℕ) (w v : Value) → (if at == place then Some w else None) ≡ Some v → is_eq (value_cmp w (cell row at)) ≡ true → cell row place ≡ v
  at_place_back at place w v fixed h =
      let parts = cond_some (at == place) w v fixed in
      ap (cell row) (sym (same_place at place parts.0)) ∙ sym (value_cmp-IsAntisymmetric w (cell row at) (equal_from_test _ h)) ∙ parts.1

  -- a conjunct that is true gives its column the value that it fixes
  value_held : (place : ℕ) (c : Cond ℕ) (v : Value) → value_fixed place c ≡ Some v → holds_on (cell row) c ≡ true → cell row place ≡ v
  value_held place (compared compare.Equal (column at) (literal w)) v fixed h = at_place at place w v fixed h
  value_held place (compared compare.Equal (literal w) (column at)) v fixed h = at_place_back at place w v fixed h
  value_held place c v fixed h = absurd cc

  pub first_held : (place : ℕ) (cs : List (Cond ℕ)) (v : Value) → slice_get (filter_map (value_fixed place) cs) 0 ≡ Some v → list_all (holds_on (cell row)) cs ≡ true → cell row place ≡ v
  first_held place [] v first all = absurd cc
  first_held place (c ∷ cs) v first all =
      elim (value_fixed place c) as (λ o. value_fixed place c ≡ o → slice_get (cons_option o (filter_map (value_fixed place) cs)) 0 ≡ Some v → cell row place ≡ v) [
        | None ↦ λ e is. first_held place cs v is (and_parts _ _ all).1
        | Some w ↦ λ e is. value_held place c v (e ∙ is) (and_parts _ _ all).0
      ] refl first

  -- and so each value of a key that is fixed
  all_held : (fixed : ℕ → Option Value) → ((place : ℕ) (v : Value) → fixed place ≡ Some v → cell row place ≡ v) → (places : List ℕ) (key : List Value) → all_there (map fixed places) ≡ Some key → cells places row ≡ key
  all_held fixed held [] key is = same_Some _ _ is
  all_held fixed held (place ∷ places) key is =
      elim (fixed place) as (λ o. fixed place ≡ o → option_and_then (λ v. option_map (λ vs. v ∷ vs) (all_there (map fixed places))) o ≡ Some key → cells (place ∷ places) row ≡ key) [
        | None ↦ λ e there. absurd cc
        | Some v ↦ λ e there.
            elim (all_there (map fixed places)) as (λ rest. all_there (map fixed places) ≡ rest → option_map (λ vs. v ∷ vs) rest ≡ Some key → cells (place ∷ places) row ≡ key) [
              | None ↦ λ none is. absurd cc
              | Some vs ↦ λ some is. ap₂ (λ w ws. w ∷ ws) (held place v e) (all_held fixed held places vs some) ∙ same_Some _ _ is
            ] refl there
      ] refl is

  pub key_held : (table : Table) (c : Cond ℕ) (key : List Value) → fixed_key table c ≡ Some key → holds_on (cell row) c ≡ true → key_of table row ≡ key
  key_held table c key fixed h = all_held (λ place. slice_get (filter_map (value_fixed place) (conjuncts c)) 0) (λ place v is. first_held place (conjuncts c) v is (conjuncts_hold c h)) table.key key fixed
