-- GROUP BY, ref by ref.
use Rattle.std.proofs.Common.{◌≡◌, ℕ, Bool, true, false, List, [], ◌∷◌, ◌++◌, map, refl, sym, ap, ◌∙◌, nat_eq, eq-eqb, eqb-true, inl, inr, ◌==◌}
use Rattle.std.specs.List.{list_any}
use Rattle.std.proofs.lemmas.Bool.{cases_Bool}
use Rattle.bf_base.specs.Lists.{has, when}
use Rattle.bf_tree.specs.declared.raw.Ref.{Ref}
use Rattle.bf_tree.specs.declared.reply.Refusal.{Refusal}
use Rattle.bf_tree.specs.declared.reply.Refusal.TheVariants as refusal
use Rattle.bf_sql.specs.Scopes.{Scope, place_of, ref_objections}
use Rattle.bf_bind.specs.ArmTables.{group_ref_objections}

nat_eq-turned : (m n : ℕ) → nat_eq m n ≡ nat_eq n m
nat_eq-turned m n = elim (cases_Bool (nat_eq m n)) [
  | inl same ↦ same ∙ sym (eq-eqb n m (sym (eqb-true m n same)))
  | inr other ↦ elim (cases_Bool (nat_eq n m)) [
    | inl same ↦ let wrong : true ≡ false = sym (eq-eqb m n (sym (eqb-true n m same))) ∙ other in absurd cc
    | inr other' ↦ other ∙ sym other'
  ]
]

module _ (scope : Scope) where
  has-turned : (refs : List Ref) (place : ℕ) → has nat_eq (map (place_of scope) refs) place ≡ list_any (λ g. place_of scope g == place) refs
  has-turned [] place = refl
  has-turned (g ∷ gs) place = rw (nat_eq-turned place (place_of scope g), has-turned gs place) refl

  -- a ref of GROUP BY, behind those before
  abbrev pub group_step : List Ref × Ref → List Refusal
  group_step p = ref_objections scope p.1 ++ when (list_any (λ g. place_of scope g == place_of scope p.1) p.0) (refusal.NameTwice p.1.column)

  pub step-is : (before : List Ref) (places : List ℕ) (ref : Ref) → places ≡ map (place_of scope) before → group_ref_objections scope places ref ≡ group_step (before, ref)
  step-is before places ref e =
      ap (λ (ps : List ℕ). group_ref_objections scope ps ref) e ∙ ap (λ (b : Bool). ref_objections scope ref ++ when b (refusal.NameTwice ref.column)) (has-turned before (place_of scope ref))
