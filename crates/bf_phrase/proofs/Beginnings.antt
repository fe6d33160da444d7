-- Words with which a rule begins.
use Rattle.std.proofs.Common.{◌≡◌, ℕ, Bool, true, false, List, [], ◌∷◌, ◌++◌, length, sym, ap, subst, ◌∙◌}
use Rattle.bf_phrase.specs.Words.{Word}
use Rattle.bf_phrase.specs.Steps.{Step, said}
use Rattle.bf_phrase.specs.Reading.{first, Stuck, Fits}
use Rattle.bf_phrase.specs.First.{begins}
use Rattle.bf_phrase.proofs.Fitting.{stuck_here}
use Rattle.bf_phrase.proofs.Moves.{Can, NotHere}

-- all that a rule spells begins with such a word
pub record Begun {A : Type 0} (test : Word → Bool) (G : List Step → A → Type 0) : Type 0 where
  pub it : (s : List Step) (b : A) → G s b → begins test (said s) ≡ true

pub not_begun : (test : Word → Bool) (x back ws : List Word) → begins test ws ≡ false → begins test x ≡ true → first (x ++ back) ≡ first ws → ⊥
not_begun test [] back ws absent stands same = cc
not_begun test (w ∷ x) back [] absent stands same = cc
not_begun test (w ∷ x) back (u ∷ us) absent stands same = let d : w ≡ u = cc in let e : true ≡ false = sym stands ∙ ap test d ∙ absent in cc

pub other_not_here : {A : Type 0} {w test : Word → Bool} {G : List Step → A → Type 0} {ws : List Word} → Begun test G → begins test ws ≡ false → NotHere w G ws
other_not_here {test = test} {ws = ws} begun absent = record { it = λ s b back g ends same. not_begun test (said s) back ws absent (begun.it s b g) same }

-- where no such word stands, the rule stops at once
pub other_stop : {A : Type 0} {w test : Word → Bool} {G : List Step → A → Type 0} {ws : List Word} (k : ℕ) → length ws ≡ k → Begun test G → Can G → begins test ws ≡ false → Fits w G ws (Stuck k)
other_stop {w = w} {test = test} {G = G} {ws = ws} k e begun can absent =
    subst (λ (n : ℕ). Fits w G ws (Stuck n)) e (record { it = stuck_here w G ws can.it (λ s b back g ends same. not_begun test (said s) back ws absent (begun.it s b g) same) })
