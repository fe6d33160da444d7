-- Rules that spell nothing, or begin with a word by which another rule can't go on.
use Rattle.std.proofs.Common.{◌≡◌, Bool, true, false, List, [], ◌∷◌, ◌++◌, refl, sym, ap, subst, ◌∙◌, inl, inr, append_assoc}
use Rattle.std.specs.Prelude.{◌||◌}
use Rattle.bf_phrase.specs.Words.{Word}
use Rattle.bf_phrase.specs.Steps.{Step, said}
use Rattle.bf_phrase.specs.Rules.{Return, After, Then, Either}
use Rattle.bf_phrase.specs.Reading.{Ends, Reading, Fits}
use Rattle.bf_phrase.proofs.Fitting.{said-append}
use Rattle.bf_phrase.proofs.Lists.{weaker_ends}
use Rattle.bf_phrase.proofs.Maps.{same_rule}
use Rattle.bf_phrase.proofs.Moves.{Passed}

pub or_right : (a b : Bool) → (a || b) ≡ false → b ≡ false
or_right true b e = absurd cc
or_right false b e = e

pub record Clear {A : Type 0} (v : Word → Bool) (G : List Step → A → Type 0) : Type 0 where
  pub it : (s : List Step) (b : A) → G s b → Ends v (said s)

pub ends_append : (v : Word → Bool) (xs back : List Word) → Ends v xs → Ends v back → Ends v (xs ++ back)
ends_append v [] back p q = q
ends_append v (t ∷ xs) back p q = p

pub clear_passed : {A B : Type 0} {v w : Word → Bool} {H : A → List Step → B → Type 0} → ((a : A) → Clear v (H a)) → ((t : Word) → w t ≡ false → v t ≡ false) → Passed v w H
clear_passed {v = v} {w = w} clear weaker = record { it = λ a s b back h ends. ends_append v (said s) back ((clear a).it s b h) (weaker_ends v w weaker back ends) }

pub clear_return : {A : Type 0} {v : Word → Bool} {x : A} → Clear v (Return x)
clear_return {v = v} = record { it = λ s b h. subst (λ (z : List Step). Ends v (said z)) (sym h.0) tt }

pub clear_after : {A : Type 0} {v : Word → Bool} {t : Word} {G : List Step → A → Type 0} → v t ≡ false → Clear v (After t G)
clear_after {v = v} e = record { it = λ s b h. subst (λ (z : List Step). Ends v (said z)) (sym h.1) e }

pub clear_either : {A : Type 0} {v : Word → Bool} {G H : List Step → A → Type 0} → Clear v G → Clear v H → Clear v (Either G H)
clear_either {A = A} {v = v} {G = G} {H = H} g h = record { it = λ s b k. by s b k }
  where
    by : (s : List Step) (b : A) → Either G H s b → Ends v (said s)
    by s b (inl k) = g.it s b k
    by s b (inr k) = h.it s b k

pub clear_then : {A B : Type 0} {v : Word → Bool} {G : List Step → A → Type 0} {H : A → List Step → B → Type 0} → Clear v G → ((a : A) → Clear v (H a)) → Clear v (Then G H)
clear_then {v = v} g k = record {
  it = λ s b h.
      subst (λ (z : List Word). Ends v z) (sym (ap said h.3 ∙ said-append h.0 h.1)) (ends_append v (said h.0) (said h.1) (g.it h.0 h.2 h.4) ((k h.2).it h.1 b h.5));
}

-- ---- a rule behind a rule behind a rule

assoc_to : {A B C : Type 0} (G : List Step → A → Type 0) (H : A → List Step → B → Type 0) (K : B → List Step → C → Type 0) (s : List Step) (c : C) → Then (Then G H) K s c → Then G (λ a. Then (H a) K) s c
assoc_to G H K s c h =
    let t = h.4 in
    (t.0, t.1 ++ h.1, t.2, h.3 ∙ ap (λ (z : List Step). z ++ h.1) t.3 ∙ append_assoc t.0 t.1 h.1, t.4, (t.1, h.1, h.2, refl, t.5, h.5))

assoc_from : {A B C : Type 0} (G : List Step → A → Type 0) (H : A → List Step → B → Type 0) (K : B → List Step → C → Type 0) (s : List Step) (c : C) → Then G (λ a. Then (H a) K) s c → Then (Then G H) K s c
assoc_from G H K s c h =
    let t = h.5 in
    (h.0 ++ t.0, t.1, t.2, h.3 ∙ ap (λ (z : List Step). h.0 ++ z) t.3 ∙ sym (append_assoc h.0 t.0 t.1), (h.0, t.0, h.2, refl, h.4, t.4), t.5)

pub then_assoc : {A B C : Type 0} {w : Word → Bool} {G : List Step → A → Type 0} {H : A → List Step → B → Type 0} {K : B → List Step → C → Type 0} {ws : List Word} {r : Reading C} → Fits w (Then (Then G H) K) ws r → Fits w (Then G (λ a. Then (H a) K)) ws r
then_assoc {G = G} {H = H} {K = K} f = same_rule (assoc_to G H K) (assoc_from G H K) f
