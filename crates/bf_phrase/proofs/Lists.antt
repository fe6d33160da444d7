-- What holds of lists and choices of any rule.
use Rattle.std.proofs.Common.{◌≡◌, ℕ, suc, Bool, true, false, List, [], ◌∷◌, ◌++◌, length, Some, None, refl, sym, ap, subst, ◌∙◌, inl, inr}
use Rattle.bf_lex.specs.declared.fault.ScriptKind.{ScriptKind}
use Rattle.bf_lex.specs.declared.sign.Sign.TheVariants.{Comma}
use Rattle.bf_phrase.specs.Words.{Word, Sign}
use Rattle.bf_phrase.specs.Steps.{Step, Say, Limit, Mark, Part, said, fault_at}
use Rattle.bf_phrase.specs.Rules.{Return, After, Then, Marked, Either, Others, no_other, other}
use Rattle.bf_phrase.specs.Reading.{CanGoOn, first, Ends, Reading, FitsStuck, FitsOver, FitsAs}
use Rattle.bf_phrase.proofs.Fitting.{fits_by, after_read, ends_not, Passes, mark_over, mark_stuck, mark_read, after_can}

-- the rule spells nothing from here
abbrev pub NotHere : {A : Type 0} → (Word → Bool) → (List Step → A → Type 0) → List Word → Type 0
NotHere {A = A} w G ws = (s : List Step) (b : A) (back : List Word) → G s b → Ends w back → first (said s ++ back) ≡ first ws → ⊥

pub left_here : {A : Type 0} (w : Word → Bool) (G H : List Step → A → Type 0) (ws : List Word) (r : Reading A) → NotHere w H ws → FitsAs w G ws r → FitsAs w (Either G H) ws r
left_here w G H ws r not f = fits_by w G (Either G H) ws r f (λ s b g. inl g) (λ s b back g ends same. from s b back g ends same)
  where
    from : (s : List Step) (b : _) (back : List Word) → Either G H s b → Ends w back → first (said s ++ back) ≡ first ws → G s b
    from s b back (inl g) ends same = g
    from s b back (inr h) ends same = absurd (not s b back h ends same)

pub right_here : {A : Type 0} (w : Word → Bool) (G H : List Step → A → Type 0) (ws : List Word) (r : Reading A) → NotHere w G ws → FitsAs w H ws r → FitsAs w (Either G H) ws r
right_here w G H ws r not f = fits_by w H (Either G H) ws r f (λ s b g. inr g) (λ s b back g ends same. from s b back g ends same)
  where
    from : (s : List Step) (b : _) (back : List Word) → Either G H s b → Ends w back → first (said s ++ back) ≡ first ws → H s b
    from s b back (inl g) ends same = absurd (not s b back g ends same)
    from s b back (inr h) ends same = h

-- a rule that begins with a token spells nothing where another stands
pub after_not_here : {A : Type 0} (w : Word → Bool) (t : Word) (G : List Step → A → Type 0) (ws : List Word) → (first ws ≡ Some t → ⊥) → NotHere w (After t G) ws
after_not_here w t G ws not s b back g ends same = not (sym same ∙ ap (λ (z : List Step). first (said z ++ back)) g.1)

pub either_not_here : {A : Type 0} (w : Word → Bool) (G H : List Step → A → Type 0) (ws : List Word) → NotHere w G ws → NotHere w H ws → NotHere w (Either G H) ws
either_not_here w G H ws p q s b back (inl g) ends same = p s b back g ends same
either_not_here w G H ws p q s b back (inr h) ends same = q s b back h ends same

-- nothing, where what may follow begins otherwise
pub return_not_here : {A : Type 0} (w : Word → Bool) (x : A) (t : Word) (ws rest : List Word) → ws ≡ t ∷ rest → w t ≡ true → NotHere w (Return x) ws
return_not_here w x t ws rest e goes s b back g ends same = ends_not w t back ends goes (ap (λ (z : List Step). first (said z ++ back)) (sym g.0) ∙ same ∙ ap first e)

abbrev pub CommaOthers : {A : Type 0} → (List Step → A → Type 0) → ℕ → List A → List Step → List A → Type 0
CommaOthers G n acc = Then (Marked (Part n) G) (λ e. Others G (suc n) (acc ++ e ∷ []))

pub others_as : {A : Type 0} (w : Word → Bool) (G : List Step → A → Type 0) (n : ℕ) (acc : List A) (ws : List Word) (r : Reading (List A)) → FitsAs w (Either (After (Sign Comma) (CommaOthers G n acc)) (Return acc)) ws r → FitsAs w (Others G n acc) ws r
others_as {A = A} w G n acc ws r f = fits_by w (Either (After (Sign Comma) (CommaOthers G n acc)) (Return acc)) (Others G n acc) ws r f to (λ s b back g ends same. from s b g)
  where
    to : (s : List Step) (b : List A) → Either (After (Sign Comma) (CommaOthers G n acc)) (Return acc) s b → Others G n acc s b
    to s b (inr h) = no_other h.0 h.1
    to s b (inl h) =
        let m = h.2.4 in
        other m.0 h.2.1 h.2.2 m.2 h.2.5 (h.1 ∙ ap (λ (z : List Step). Say (Sign Comma) ∷ z) (h.2.3 ∙ ap (λ (z : List Step). z ++ h.2.1) m.1))

    from : (s : List Step) (b : List A) → Others G n acc s b → Either (After (Sign Comma) (CommaOthers G n acc)) (Return acc) s b
    from s b (no_other p q) = inr (p, q)
    from s b (other front rest c f m p) = inl (Limit (Part n) ∷ (front ++ rest), p, (Limit (Part n) ∷ front, rest, c, refl, (front, refl, f), m))

-- what ends a list ends its last part
pub others_pass : {A : Type 0} (v w : Word → Bool) (G : List Step → A → Type 0) (n : ℕ) (acc : List A) → v (Sign Comma) ≡ false → ((t : Word) → w t ≡ false → v t ≡ false) → Passes v w (λ e. Others G (suc n) (acc ++ e ∷ []))
others_pass {A = A} v w G n acc comma weaker e s b back h ends = pass (suc n) (acc ++ e ∷ []) s b h
  where
    weak : (ws : List Word) → Ends w ws → Ends v ws
    weak [] p = tt
    weak (t ∷ ws) p = weaker t p

    pass : (n : ℕ) (acc : List A) (s : List Step) (b : List A) → Others G n acc s b → Ends v (said s ++ back)
    pass n acc s b (no_other p q) = subst (λ (z : List Step). Ends v (said z ++ back)) (sym p) (weak back ends)
    pass n acc s b (other front rest c f m p) = subst (λ (z : List Step). Ends v (said z ++ back)) (sym p) comma

-- ---- a word that is counted

pub counted_over : {A : Type 0} (w : Word → Bool) (m : Mark) (t : Word) (G : List Step → A → Type 0) (ws rest : List Word) (kind : ScriptKind) → fault_at m ≡ Some kind → ws ≡ t ∷ rest → CanGoOn G [] → FitsOver w (Marked m (After t G)) ws kind (length ws)
counted_over w m t G ws rest kind high e can = mark_over w m (After t G) (Say t ∷ []) t ws rest kind high e refl (can.0, can.1, (can.0, refl, can.2))

pub counted_stuck : {A : Type 0} (w : Word → Bool) (m : Mark) (t : Word) (G : List Step → A → Type 0) (ws : List Word) → CanGoOn G [] → (first ws ≡ Some t → ⊥) → FitsStuck w (Marked m (After t G)) ws (length ws)
counted_stuck w m t G ws some not = mark_stuck w m (After t G) ws (after_can t G some) (after_not_here w t G ws not)

pub counted_read : {A : Type 0} (w : Word → Bool) (m : Mark) (t : Word) (G : List Step → A → Type 0) (ws rest : List Word) (r : Reading A) → fault_at m ≡ None → ws ≡ t ∷ rest → FitsAs w G rest r → FitsAs w (Marked m (After t G)) ws r
counted_read w m t G ws rest r low e f = mark_read w m (After t G) ws r low (after_read w t G ws rest r e f)

-- ---- what a choice or a list can be, and what may follow

pub left_can : {A : Type 0} (G H : List Step → A → Type 0) → CanGoOn G [] → CanGoOn (Either G H) []
left_can G H h = (h.0, h.1, inl h.2)

pub others_can : {A : Type 0} (G : List Step → A → Type 0) (n : ℕ) (acc : List A) → CanGoOn (Others G n acc) []
others_can G n acc = ([], acc, no_other refl refl)

pub weaker_ends : (v w : Word → Bool) → ((t : Word) → w t ≡ false → v t ≡ false) → (ws : List Word) → Ends w ws → Ends v ws
weaker_ends v w weaker [] e = tt
weaker_ends v w weaker (t ∷ ws) e = weaker t e

pub return_passes : {A B : Type 0} (v w : Word → Bool) (f : A → B) → ((t : Word) → w t ≡ false → v t ≡ false) → Passes v w (λ a. Return (f a))
return_passes v w f weaker a s b back h ends = subst (λ (z : List Step). Ends v (said z ++ back)) (sym h.0) (weaker_ends v w weaker back ends)
