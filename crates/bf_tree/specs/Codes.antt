-- Trees as lists and back, by which proofs tell trees apart. No contract cites this.
use Rattle.std.specs.Prelude.{◌≡◌, refl, ℕ, zero, suc, Option, List, [], ◌∷◌, ◌⊎◌}
use Rattle.std.specs.Coded.{Coded, code_by, coded×, coded⊎, coded_list, coded_ℕ, coded_option}
use mathlib.Core.Logic.{inl, inr}
use mathlib.Core.Path.{◌∙◌}
use Rattle.bf_base.specs.declared.value.Value.{Value}
use Rattle.bf_base.specs.contracts.value.Value as value_row
use Rattle.bf_tree.specs.contracts.compare.Compare as compare_row
use Rattle.bf_tree.specs.declared.compare.Compare.{Compare}
use Rattle.bf_tree.specs.declared.raw.Ref.{Ref}
use Rattle.bf_tree.specs.Trees.{Expr, literal, column, negated, plus, minus, times, joined, Cond, always, compared, between, opposite, both, either}
use Rattle.bf_base.specs.declared.value.Value.TheVariants.{Int}
use Rattle.std.specs.Prelude.{pos}

abbrev pub ref_code : Coded Ref
ref_code = code_by (Option (List ℕ) × List ℕ) (coded× (coded_option (coded_list coded_ℕ)) (coded_list coded_ℕ)) (λ r. (r.table, r.column)) (λ p. record { table = p.0; column = p.1 }) (λ _. refl)

abbrev pub Step : Type 0 → Type 0
Step R = Value ⊎ (R ⊎ ℕ)

abbrev pub CondStep : Type 0 → Type 0
CondStep R = (Compare × Expr R × Expr R) ⊎ ((Expr R × Expr R × Expr R) ⊎ ℕ)

module _ {R : Type 0} where
  abbrev steps : Expr R → List (Step R) → List (Step R)
  steps (literal v) rest = inl v ∷ rest
  steps (column r) rest = inr (inl r) ∷ rest
  steps (negated a) rest = steps a (inr (inr 0) ∷ rest)
  steps (plus a b) rest = steps a (steps b (inr (inr 1) ∷ rest))
  steps (minus a b) rest = steps a (steps b (inr (inr 2) ∷ rest))
  steps (times a b) rest = steps a (steps b (inr (inr 3) ∷ rest))
  steps (joined a b) rest = steps a (steps b (inr (inr 4) ∷ rest))

  abbrev apply : ℕ → List (Expr R) → List (Expr R)
  apply zero (a ∷ es) = negated a ∷ es
  apply (suc zero) (b ∷ a ∷ es) = plus a b ∷ es
  apply (suc (suc zero)) (b ∷ a ∷ es) = minus a b ∷ es
  apply (suc (suc (suc zero))) (b ∷ a ∷ es) = times a b ∷ es
  apply (suc (suc (suc (suc n)))) (b ∷ a ∷ es) = joined a b ∷ es
  apply n es = es

  abbrev run : List (Step R) → List (Expr R) → List (Expr R)
  run [] es = es
  run (inl v ∷ rest) es = run rest (literal v ∷ es)
  run (inr (inl r) ∷ rest) es = run rest (column r ∷ es)
  run (inr (inr n) ∷ rest) es = run rest (apply n es)

  run-steps : (e : Expr R) (rest : List (Step R)) (es : List (Expr R)) → run (steps e rest) es ≡ run rest (e ∷ es)
  run-steps (literal v) rest es = refl
  run-steps (column r) rest es = refl
  run-steps (negated a) rest es = run-steps a (inr (inr 0) ∷ rest) es
  run-steps (plus a b) rest es = run-steps a (steps b (inr (inr 1) ∷ rest)) es ∙ run-steps b (inr (inr 1) ∷ rest) (a ∷ es)
  run-steps (minus a b) rest es = run-steps a (steps b (inr (inr 2) ∷ rest)) es ∙ run-steps b (inr (inr 2) ∷ rest) (a ∷ es)
  run-steps (times a b) rest es = run-steps a (steps b (inr (inr 3) ∷ rest)) es ∙ run-steps b (inr (inr 3) ∷ rest) (a ∷ es)
  run-steps (joined a b) rest es = run-steps a (steps b (inr (inr 4) ∷ rest)) es ∙ run-steps b (inr (inr 4) ∷ rest) (a ∷ es)

  abbrev first : List (Expr R) → Expr R
  first [] = literal (Int (pos 0))
  first (e ∷ es) = e

  pub back : (e : Expr R) → first (run (steps e []) []) ≡ e
  back e = λ i. first (run-steps e [] [] i)

  abbrev pub expr_code : Coded R → Coded (Expr R)
  expr_code r = code_by (List (Step R)) (coded_list (coded⊎ (value_row.the_row).coded (coded⊎ r coded_ℕ))) (λ e. steps e []) (λ ss. first (run ss [])) back

  abbrev cond_steps : Cond R → List (CondStep R) → List (CondStep R)
  cond_steps always rest = inr (inr 0) ∷ rest
  cond_steps (compared op a b) rest = inl (op, a, b) ∷ rest
  cond_steps (between a b c) rest = inr (inl (a, b, c)) ∷ rest
  cond_steps (opposite c) rest = cond_steps c (inr (inr 1) ∷ rest)
  cond_steps (both c d) rest = cond_steps c (cond_steps d (inr (inr 2) ∷ rest))
  cond_steps (either c d) rest = cond_steps c (cond_steps d (inr (inr 3) ∷ rest))

  abbrev cond_apply : ℕ → List (Cond R) → List (Cond R)
  cond_apply zero cs = always ∷ cs
  cond_apply (suc zero) (c ∷ cs) = opposite c ∷ cs
  cond_apply (suc (suc zero)) (d ∷ c ∷ cs) = both c d ∷ cs
  cond_apply (suc (suc (suc n))) (d ∷ c ∷ cs) = either c d ∷ cs
  cond_apply n cs = cs

  abbrev cond_run : List (CondStep R) → List (Cond R) → List (Cond R)
  cond_run [] cs = cs
  cond_run (inl p ∷ rest) cs = cond_run rest (compared p.0 p.1 p.2 ∷ cs)
  cond_run (inr (inl p) ∷ rest) cs = cond_run rest (between p.0 p.1 p.2 ∷ cs)
  cond_run (inr (inr n) ∷ rest) cs = cond_run rest (cond_apply n cs)

  cond_run-steps : (c : Cond R) (rest : List (CondStep R)) (cs : List (Cond R)) → cond_run (cond_steps c rest) cs ≡ cond_run rest (c ∷ cs)
  cond_run-steps always rest cs = refl
  cond_run-steps (compared op a b) rest cs = refl
  cond_run-steps (between a b c) rest cs = refl
  cond_run-steps (opposite c) rest cs = cond_run-steps c (inr (inr 1) ∷ rest) cs
  cond_run-steps (both c d) rest cs = cond_run-steps c (cond_steps d (inr (inr 2) ∷ rest)) cs ∙ cond_run-steps d (inr (inr 2) ∷ rest) (c ∷ cs)
  cond_run-steps (either c d) rest cs = cond_run-steps c (cond_steps d (inr (inr 3) ∷ rest)) cs ∙ cond_run-steps d (inr (inr 3) ∷ rest) (c ∷ cs)

  abbrev cond_first : List (Cond R) → Cond R
  cond_first [] = always
  cond_first (c ∷ cs) = c

  pub cond_back : (c : Cond R) → cond_first (cond_run (cond_steps c []) []) ≡ c
  cond_back c = λ i. cond_first (cond_run-steps c [] [] i)

  abbrev pub cond_code : Coded R → Coded (Cond R)
  cond_code r = code_by (List (CondStep R)) (coded_list (coded⊎ (code_by (Compare × (Expr R × Expr R)) (coded× (compare_row.the_row).coded (coded× (expr_code r) (expr_code r))) (λ p. (p.0, (p.1, p.2))) (λ p. (p.0, (p.1).0, (p.1).1)) (λ _. refl)) (coded⊎ (code_by (Expr R × (Expr R × Expr R)) (coded× (expr_code r) (coded× (expr_code r) (expr_code r))) (λ p. (p.0, (p.1, p.2))) (λ p. (p.0, (p.1).0, (p.1).1)) (λ _. refl)) coded_ℕ))) (λ c. cond_steps c []) (λ ss. cond_first (cond_run ss [])) cond_back
