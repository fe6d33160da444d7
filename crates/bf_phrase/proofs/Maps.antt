-- Readings of a rule whose values are made of those of another, and of rules that spell the same.
use Rattle.std.proofs.Common.{◌≡◌, Bool, false, List, [], ◌∷◌, ◌++◌, Some, refl, sym, ap, subst, ◌∙◌, append_assoc}
use Rattle.bf_phrase.specs.declared.error.ReadStop.{ReadStop}
use Rattle.bf_phrase.specs.declared.error.ReadStop.TheVariants as stop
use Rattle.bf_lex.specs.declared.sign.Sign.TheVariants as sign
use Rattle.bf_phrase.specs.Words.{Word, Sign}
use Rattle.bf_phrase.specs.Steps.{Step, Say, said}
use Rattle.bf_phrase.specs.Rules.{Return, After, Then, Either}
use Rattle.bf_phrase.specs.Reading.{Ends, Reading, Read, Stuck, Over, Lost, FitsAs, FitsRead, Fits, first}
use Rattle.bf_phrase.specs.Outcome.{stopped}
use Rattle.bf_phrase.specs.Phrases.{Enclosed}
use Rattle.bf_phrase.specs.Follow.{nothing}
use Rattle.bf_phrase.proofs.Fitting.{fits_by}
use Rattle.bf_phrase.proofs.Lists.{weaker_ends}
use Rattle.bf_phrase.proofs.Lists as lists
use Rattle.bf_phrase.proofs.Moves.{Can, NotHere, Passed, then_go, then_stop}

-- ---- values made of values

-- what the one rule spells, the other spells with the value made of it, and nothing else
pub record Maps {A B : Type 0} (f : A → B) (G : List Step → A → Type 0) (H : List Step → B → Type 0) : Type 0 where
  pub to : (s : List Step) (a : A) → G s a → H s (f a)
  pub from : (s : List Step) (b : B) → H s b → (a : A) × G s a × (b ≡ f a)

map_read : {A B : Type 0} (w : Word → Bool) (f : A → B) (G : List Step → A → Type 0) (H : List Step → B → Type 0) (ws : List Word) (a : A) (rest : List Word) → Maps f G H → FitsRead w G ws a rest → FitsRead w H ws (f a) rest
map_read w f G H ws a rest m h = record {
  used = h.used;
  split = h.split;
  inside = h.inside;
  spells = m.to h.used a h.spells;
  only = λ front b back more g ends same eq.
      let k = m.from front b g in
      let o = h.only front k.0 back more k.1 ends same eq in
      (o.0, k.2 ∙ ap f o.1);
}

map_stuck : {A B : Type 0} (w : Word → Bool) (f : A → B) (G : List Step → A → Type 0) (H : List Step → B → Type 0) (ws : List Word) (e : ReadStop) → Maps f G H → FitsAs w G ws (stopped e) → FitsAs w H ws (stopped e)
map_stuck w f G H ws (stop.Syntax left) m h = record {
  used = h.used;
  rest = h.rest;
  split = h.split;
  place = h.place;
  inside = h.inside;
  viable = (h.viable.0, f h.viable.1, m.to _ h.viable.1 h.viable.2);
  only = λ front b back more g ends same eq. let k = m.from front b g in h.only front k.0 back more k.1 ends same eq;
}
map_stuck w f G H ws (stop.Limit kind left) m h = record {
  used = h.used;
  mark = h.mark;
  next = h.next;
  word = h.word;
  rest = h.rest;
  split = h.split;
  here = h.here;
  place = h.place;
  inside = h.inside;
  high = h.high;
  viable = (h.viable.0, f h.viable.1, m.to _ h.viable.1 h.viable.2);
  only = λ any front b back more g ends same eq. let k = m.from front b g in h.only any front k.0 back more k.1 ends same eq;
}
map_stuck w f G H ws stop.Memory m h = tt

pub map_go : {A B : Type 0} {w : Word → Bool} {f : A → B} {G : List Step → A → Type 0} {H : List Step → B → Type 0} {ws rest : List Word} {a : A} → Maps f G H → Fits w G ws (Read a rest) → Fits w H ws (Read (f a) rest)
map_go {w = w} {f = f} {G = G} {H = H} {ws = ws} {rest = rest} {a = a} m h = record { it = map_read w f G H ws a rest m h.it }

pub map_stop : {A B : Type 0} {w : Word → Bool} {f : A → B} {G : List Step → A → Type 0} {H : List Step → B → Type 0} {ws : List Word} (e : ReadStop) → Maps f G H → Fits w G ws (stopped e) → Fits w H ws (stopped e)
map_stop {w = w} {f = f} {G = G} {H = H} {ws = ws} e m h = record { it = map_stuck w f G H ws e m h.it }

-- ---- rules that spell the same

pub same_rule : {A : Type 0} {w : Word → Bool} {G H : List Step → A → Type 0} {ws : List Word} {r : Reading A} → ((s : List Step) (b : A) → G s b → H s b) → ((s : List Step) (b : A) → H s b → G s b) → Fits w G ws r → Fits w H ws r
same_rule {w = w} {G = G} {H = H} {ws = ws} {r = r} to from f = record { it = fits_by w G H ws r f.it to (λ s b back g ends same. from s b g) }

-- ---- more words by which a rule may go on

wider_as : {A : Type 0} (v w : Word → Bool) (G : List Step → A → Type 0) (ws : List Word) (r : Reading A) → ((t : Word) → w t ≡ false → v t ≡ false) → FitsAs v G ws r → FitsAs w G ws r
wider_as v w G ws (Read a rest) weaker f = record {
  used = f.used;
  split = f.split;
  inside = f.inside;
  spells = f.spells;
  only = λ front b back more g ends same eq. f.only front b back more g (weaker_ends v w weaker back ends) same eq;
}
wider_as v w G ws (Stuck left) weaker f = record {
  used = f.used;
  rest = f.rest;
  split = f.split;
  place = f.place;
  inside = f.inside;
  viable = f.viable;
  only = λ front b back more g ends same eq. f.only front b back more g (weaker_ends v w weaker back ends) same eq;
}
wider_as v w G ws (Over kind left) weaker f = record {
  used = f.used;
  mark = f.mark;
  next = f.next;
  word = f.word;
  rest = f.rest;
  split = f.split;
  here = f.here;
  place = f.place;
  inside = f.inside;
  high = f.high;
  viable = f.viable;
  only = λ any front b back more g ends same eq. f.only any front b back more g (weaker_ends v w weaker back ends) same eq;
}
wider_as v w G ws Lost weaker f = tt

pub wider : {A : Type 0} {v w : Word → Bool} {G : List Step → A → Type 0} {ws : List Word} {r : Reading A} → ((t : Word) → w t ≡ false → v t ≡ false) → Fits v G ws r → Fits w G ws r
wider {v = v} {w = w} {G = G} {ws = ws} {r = r} weaker f = record { it = wider_as v w G ws r weaker f.it }

-- ---- what any words may follow

ends_nothing : (ws : List Word) → Ends nothing ws
ends_nothing [] = tt
ends_nothing (t ∷ ws) = refl

pub any_passed : {A B : Type 0} {w : Word → Bool} {H : A → List Step → B → Type 0} → Passed nothing w H
any_passed = record { it = λ a s b back h ends. ends_nothing (said s ++ back) }

-- ---- a choice of rules that begin with different words

pub other_word : {A : Type 0} {w : Word → Bool} {t u : Word} {G : List Step → A → Type 0} {ws rest : List Word} → ws ≡ u ∷ rest → (Some u ≡ Some t → ⊥) → NotHere w (After t G) ws
other_word {w = w} {t = t} {G = G} {ws = ws} e other = record { it = lists.after_not_here w t G ws (λ same. other (sym (ap first e) ∙ same)) }

pub either_not_here : {A : Type 0} {w : Word → Bool} {G H : List Step → A → Type 0} {ws : List Word} → NotHere w G ws → NotHere w H ws → NotHere w (Either G H) ws
either_not_here {w = w} {G = G} {H = H} {ws = ws} p q = record { it = lists.either_not_here w G H ws p.it q.it }

-- ---- parentheses

-- what stands between parentheses, and then another rule
enclosed_to : {A B : Type 0} (G : List Step → A → Type 0) (H : A → List Step → B → Type 0) (s : List Step) (b : B) → Then (Enclosed G (λ a. Return a)) H s b → Enclosed G H s b
enclosed_to {B = B} G H s b h =
    let inner = h.4.2 in
    let closed : h.0 ≡ Say (Sign sign.OpeningParenthesis) ∷ (inner.0 ++ Say (Sign sign.ClosingParenthesis) ∷ []) =
    h.4.1 ∙ ap (λ (z : List Step). Say (Sign sign.OpeningParenthesis) ∷ z) (inner.3 ∙ ap (λ (z : List Step). inner.0 ++ z) (inner.5.1 ∙ ap (λ (z : List Step). Say (Sign sign.ClosingParenthesis) ∷ z) inner.5.2.0)) in
    let split : s ≡ Say (Sign sign.OpeningParenthesis) ∷ (inner.0 ++ Say (Sign sign.ClosingParenthesis) ∷ h.1) =
    h.3 ∙ ap (λ (z : List Step). z ++ h.1) closed ∙ ap (λ (z : List Step). Say (Sign sign.OpeningParenthesis) ∷ z) (append_assoc inner.0 (Say (Sign sign.ClosingParenthesis) ∷ []) h.1) in
    (inner.0 ++ Say (Sign sign.ClosingParenthesis) ∷ h.1, split, (inner.0, Say (Sign sign.ClosingParenthesis) ∷ h.1, inner.2, refl, inner.4, (h.1, refl, subst (λ a. H a h.1 b) inner.5.2.1 h.5)))

enclosed_from : {A B : Type 0} (G : List Step → A → Type 0) (H : A → List Step → B → Type 0) (s : List Step) (b : B) → Enclosed G H s b → Then (Enclosed G (λ a. Return a)) H s b
enclosed_from G H s b h =
    let inner = h.2 in
    let closed = inner.0 ++ Say (Sign sign.ClosingParenthesis) ∷ [] in
    let split : s ≡ (Say (Sign sign.OpeningParenthesis) ∷ (inner.0 ++ Say (Sign sign.ClosingParenthesis) ∷ [])) ++ inner.5.0 =
    h.1 ∙ ap (λ (z : List Step). Say (Sign sign.OpeningParenthesis) ∷ z) (inner.3 ∙ ap (λ (z : List Step). inner.0 ++ z) inner.5.1 ∙ sym (append_assoc inner.0 (Say (Sign sign.ClosingParenthesis) ∷ []) inner.5.0)) in
    (Say (Sign sign.OpeningParenthesis) ∷ closed, inner.5.0, inner.2, split, (closed, refl, (inner.0, Say (Sign sign.ClosingParenthesis) ∷ [], inner.2, refl, inner.4, ([], refl, (refl, refl)))), inner.5.2)

pub enclosed_go : {A B : Type 0} {w : Word → Bool} {G : List Step → A → Type 0} {H : A → List Step → B → Type 0} {ws mid : List Word} {a : A} {r : Reading B} → Fits nothing (Enclosed G (λ x. Return x)) ws (Read a mid) → Fits w (H a) mid r → Fits w (Enclosed G H) ws r
enclosed_go {G = G} {H = H} f h = same_rule (enclosed_to G H) (enclosed_from G H) (then_go any_passed f h)

pub enclosed_stop : {A B : Type 0} {w : Word → Bool} {G : List Step → A → Type 0} {H : A → List Step → B → Type 0} {ws : List Word} (e : ReadStop) → ((a : A) → Can (H a)) → Fits nothing (Enclosed G (λ x. Return x)) ws (stopped e) → Fits w (Enclosed G H) ws (stopped e)
enclosed_stop {G = G} {H = H} e can f = same_rule (enclosed_to G H) (enclosed_from G H) (then_stop e any_passed can f)
