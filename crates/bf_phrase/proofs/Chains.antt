-- Chains of counted operators, grouped to the left.
use Rattle.std.proofs.Common.{◌≡◌, ℕ, ◌+◌, ◌<◌, ◌≤◌, Bool, true, false, List, [], ◌∷◌, ◌++◌, length, Some, None, refl, sym, ap, subst, ◌∙◌, inl, inr, arith}
use Rattle.std.proofs.lemmas.Bool.{lt-ltb, le-ltb}
use Rattle.std.proofs.lemmas.List.{append-nil}
use Rattle.std.specs.Prelude.{◌||◌}
use Rattle.bf_base.specs.declared.value.Value.TheVariants as value
use Rattle.bf_tree.specs.Trees as tree
use Rattle.bf_lex.specs.declared.fault.ScriptKind.TheVariants.{TooDeep}
use Rattle.bf_lex.specs.declared.sign.Sign.TheVariants as sign
use Rattle.bf_phrase.specs.Words.{Word, Sign}
use Rattle.bf_phrase.specs.Words as word
use Rattle.bf_phrase.specs.Steps.{Step, Say, Limit, Mark, Node, said, fault_at}
use Rattle.bf_phrase.specs.Rules.{Return, After, Marked, Then, Either}
use Rattle.bf_phrase.specs.Reading.{Ends, Reading, Read, Over, Fits, first}
use Rattle.bf_tree.specs.declared.raw.Ref.{Ref}
use Rattle.bf_phrase.specs.declared.error.ReadStop.{ReadStop}
use Rattle.bf_phrase.specs.Outcome.{IsBehind, stopped}
use Rattle.bf_phrase.specs.Follow.{follow_product, follow_sum, is_point}
use Rattle.bf_phrase.specs.Expressions.{Counted, Factor, text, Product, product, Factors, no_factor, other_factor, Sum, sum, Products, no_product}
use Rattle.bf_phrase.proofs.Fitting.{fits_by}
use Rattle.bf_phrase.proofs.Lists.{weaker_ends}
use Rattle.bf_phrase.proofs.Moves.{Can, NotHere, Passed, left_here, right_here, return_not_here, return_fits, after_not_here, behind_go, marked_go, counted_over, then_go, then_stop}

-- ---- the limit of counted words

pub shallow : (n : ℕ) → n < 256 → fault_at (Node (n + 1)) ≡ None
shallow n low = rw (le-ltb 256 (n + 1) (omega arith)) refl

pub deep : (n : ℕ) → 256 ≤ n → fault_at (Node (n + 1)) ≡ Some TooDeep
deep n high = rw (lt-ltb 256 (n + 1) (omega arith)) refl

-- a counted word that stands there, within the limit and beyond it
pub node_go : {A : Type 0} {w : Word → Bool} {n : ℕ} {t : Word} {G : List Step → A → Type 0} {ws rest : List Word} {r : Reading A} → n < 256 → IsBehind t ws (Some rest) → Fits w G rest r → Fits w (Marked (Node (n + 1)) (After t G)) ws r
node_go {n = n} low h f = marked_go (shallow n low) (behind_go h f)

pub node_deep : {A : Type 0} {w : Word → Bool} {n : ℕ} {t : Word} {G : List Step → A → Type 0} {ws rest : List Word} (k : ℕ) → length ws ≡ k → 256 ≤ n → IsBehind t ws (Some rest) → Can G → Fits w (Marked (Node (n + 1)) (After t G)) ws (Over TooDeep k)
node_deep {w = w} {n = n} {t = t} {G = G} {ws = ws} k e high h can = subst (λ (z : ℕ). Fits w (Marked (Node (n + 1)) (After t G)) ws (Over TooDeep z)) e (counted_over (deep n high) h.it can)

pub marked_not_here : {A : Type 0} {w : Word → Bool} {m : Mark} {G : List Step → A → Type 0} {ws : List Word} → NotHere w G ws → NotHere w (Marked m G) ws
marked_not_here h = record { it = λ s b back g ends same. h.it g.0 b back g.2 ends (ap (λ (z : List Step). first (said z ++ back)) (sym g.1) ∙ same) }

-- ---- what can be spelled

pub factor_can : {n : ℕ} → Can (Factor n)
factor_can {n = n} = record { it = (Say (word.Text []) ∷ [], (tree.literal (value.Text []), n), text [] refl refl) }

pub factors_can : {a : Counted} → Can (Factors a)
factors_can {a = a} = record { it = ([], a, no_factor refl refl) }

pub product_can : {n : ℕ} → Can (Product n)
product_can {n = n} = record { it = (Say (word.Text []) ∷ [], (tree.literal (value.Text []), n), product (Say (word.Text []) ∷ []) [] (tree.literal (value.Text []), n) (text [] refl refl) (no_factor refl refl) refl) }

pub products_can : {a : Counted} → Can (Products a)
products_can {a = a} = record { it = ([], a, no_product refl refl) }

pub sum_can : {n : ℕ} → Can (Sum n)
sum_can {n = n} = let p = product_can {n = n} in record { it = (p.it.0, p.it.1, sum p.it.0 [] p.it.1 p.it.2 (no_product refl refl) (sym (append-nil p.it.0))) }

-- ---- products

pub product_as : {n : ℕ} {ws : List Word} {r : Reading Counted} → Fits follow_product (Then (Factor n) Factors) ws r → Fits follow_product (Product n) ws r
product_as {n = n} {ws = ws} {r = r} f = record { it = fits_by follow_product (Then (Factor n) Factors) (Product n) ws r f.it (λ s b h. product h.0 h.1 h.2 h.4 h.5 h.3) (λ s b back g ends same. from s b g) }
  where
    from : (s : List Step) (b : Counted) → Product n s b → Then (Factor n) Factors s b
    from s b (product front rest a g m p) = (front, rest, a, p, g, m)

abbrev pub BehindStar : Counted → List Step → Counted → Type 0
BehindStar a = Then (Factor (a.1 + 1)) (λ b. Factors (tree.times a.0 b.0, b.1))

abbrev pub Starred : Counted → List Step → Counted → Type 0
Starred a = Marked (Node (a.1 + 1)) (After (Sign sign.Star) (BehindStar a))

factors_as : {a : Counted} {ws : List Word} {r : Reading Counted} → Fits follow_product (Either (Starred a) (Return a)) ws r → Fits follow_product (Factors a) ws r
factors_as {a = a} {ws = ws} {r = r} f = record { it = fits_by follow_product (Either (Starred a) (Return a)) (Factors a) ws r f.it to (λ s b back g ends same. from s b g) }
  where
    to : (s : List Step) (b : Counted) → Either (Starred a) (Return a) s b → Factors a s b
    to s b (inr h) = no_factor h.0 h.1
    to s b (inl h) =
        let t = h.2.2 in
        other_factor t.0 t.1 t.2 t.4 t.5 (h.1 ∙ ap (λ (z : List Step). Limit (Node (a.1 + 1)) ∷ z) (h.2.1 ∙ ap (λ (z : List Step). Say (Sign sign.Star) ∷ z) t.3))

    from : (s : List Step) (b : Counted) → Factors a s b → Either (Starred a) (Return a) s b
    from s b (no_factor p q) = inr (p, q)
    from s b (other_factor front rest c g m p) = inl (Say (Sign sign.Star) ∷ (front ++ rest), p, (front ++ rest, refl, (front, rest, c, refl, g, m)))

pub star_go : {a : Counted} {ws rest : List Word} {r : Reading Counted} → a.1 < 256 → IsBehind (Sign sign.Star) ws (Some rest) → Fits follow_product (BehindStar a) rest r → Fits follow_product (Factors a) ws r
star_go low h f = factors_as (left_here (return_not_here h refl) (node_go low h f))

pub star_deep : {a : Counted} {ws rest : List Word} (k : ℕ) → length ws ≡ k → 256 ≤ a.1 → IsBehind (Sign sign.Star) ws (Some rest) → Fits follow_product (Factors a) ws (Over TooDeep k)
star_deep {a = a} k e high h = factors_as (left_here (return_not_here h refl) (node_deep k e high h (behind_can a)))
  where
    behind_can : (a : Counted) → Can (BehindStar a)
    behind_can a = record { it = (Say (word.Text []) ∷ [], (tree.times a.0 (tree.literal (value.Text [])), a.1 + 1), (Say (word.Text []) ∷ [], [], (tree.literal (value.Text []), a.1 + 1), refl, text [] refl refl, no_factor refl refl)) }

pub star_end : {a : Counted} {ws : List Word} → IsBehind (Sign sign.Star) ws None → Fits follow_product (Factors a) ws (Read a ws)
star_end h = factors_as (right_here (marked_not_here (after_not_here h)) return_fits)

-- ---- what may follow

pub or_left : (a b : Bool) → (a || b) ≡ false → a ≡ false
or_left true b e = absurd cc
or_left false b e = refl

pub factor_ends : (t : Word) → follow_product t ≡ false → is_point t ≡ false
factor_ends t e = or_left _ _ e

pub product_ends : (t : Word) → follow_sum t ≡ false → follow_product t ≡ false
product_ends t e = or_left _ _ e

factors_pass : (a : Counted) (s : List Step) (b : Counted) (back : List Word) → Factors a s b → Ends follow_product back → Ends is_point (said s ++ back)
factors_pass a s b back (no_factor p q) ends = subst (λ (z : List Step). Ends is_point (said z ++ back)) (sym p) (weaker_ends is_point follow_product factor_ends back ends)
factors_pass a s b back (other_factor front rest c g m p) ends = subst (λ (z : List Step). Ends is_point (said z ++ back)) (sym p) refl

pub factors_passed : {f : Counted → Counted} → Passed is_point follow_product (λ b. Factors (f b))
factors_passed {f = f} = record { it = λ a s b back h ends. factors_pass (f a) s b back h ends }

-- ---- a loop's step, where the count behind the star is known by an equation

pub star_stop : {a : Counted} {m : ℕ} {ws rest : List Word} (e : ReadStop) → m ≡ a.1 + 1 → a.1 < 256 → IsBehind (Sign sign.Star) ws (Some rest) → Fits is_point (Factor m) rest (stopped e) → Fits follow_product (Factors a) ws (stopped e)
star_stop {a = a} {m = m} {ws = ws} {rest = rest} e same low h f = star_go low h (then_stop e (factors_passed {f = λ (b : Counted). (tree.times a.0 b.0, b.1)}) (λ b. factors_can) (subst (λ (k : ℕ). Fits is_point (Factor k) rest (stopped e)) same f))

pub star_more : {a : Counted} {m k : ℕ} {ws rest mid : List Word} {b t : tree.Expr Ref} {r : Reading Counted} → m ≡ a.1 + 1 → a.1 < 256 → IsBehind (Sign sign.Star) ws (Some rest) → Fits is_point (Factor m) rest (Read (b, k) mid) → t ≡ tree.times a.0 b
    → Fits follow_product (Factors (t, k)) mid r → Fits follow_product (Factors a) ws r
star_more {a = a} {k = k} {rest = rest} {mid = mid} {b = b} {r = r} same low h f value g =
    star_go low h (then_go (factors_passed {f = λ (b : Counted). (tree.times a.0 b.0, b.1)}) (subst (λ (n : ℕ). Fits is_point (Factor n) rest (Read (b, k) mid)) same f) (subst (λ (x : tree.Expr Ref). Fits follow_product (Factors (x, k)) mid r) value g))
