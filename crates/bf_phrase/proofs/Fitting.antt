-- Readings that follow one another.
use Rattle.std.proofs.Common.{◌≡◌, ℕ, Bool, true, false, List, [], ◌∷◌, ◌++◌, length, Some, None, Err, refl, sym, ap, subst, ◌∙◌, append_assoc}
use Rattle.std.proofs.lemmas.List.{append_cancel_left}
use Rattle.std.specs.Prelude.{◌&&◌, is_none}
use Rattle.bf_lex.specs.declared.fault.ScriptKind.{ScriptKind}
use Rattle.bf_phrase.specs.declared.error.ReadStop.{ReadStop}
use Rattle.bf_phrase.specs.declared.error.ReadStop.TheVariants as stop
use Rattle.bf_phrase.specs.Words.{Word, Name}
use Rattle.bf_phrase.specs.Steps.{Step, Say, Limit, Mark, said, within, fault_at}
use Rattle.bf_phrase.specs.Rules.{Return, After, Named, Then, Marked}
use Rattle.bf_phrase.specs.Reading.{CanGoOn, first, Ends, Only, Reading, Read, Stuck, Over, Lost, FitsRead, FitsStuck, FitsOver, FitsAs}
use Rattle.bf_phrase.specs.Outcome.{stopped, HasWord, HasName}

pub said-append : (s t : List Step) → said (s ++ t) ≡ said s ++ said t
said-append [] t = refl
said-append (Say x ∷ s) t = ap (λ z. x ∷ z) (said-append s t)
said-append (Limit m ∷ s) t = said-append s t

pub within-append : (s t : List Step) → within s ≡ true → within t ≡ true → within (s ++ t) ≡ true
within-append [] t p q = q
within-append (Say x ∷ s) t p q = within-append s t p q
within-append (Limit m ∷ s) t p q = both (is_none (fault_at m)) (within s) (within (s ++ t)) p (λ h. within-append s t h q)
  where
    both : (a b c : Bool) → (a && b) ≡ true → (b ≡ true → c ≡ true) → (a && c) ≡ true
    both true b c p f = f p
    both false b c p f = absurd cc

-- what begins alike behind a common front begins alike
pub first_behind : (s a b : List Word) → first a ≡ first b → first (s ++ a) ≡ first (s ++ b)
first_behind [] a b e = e
first_behind (t ∷ s) a b e = refl

pub first_token : (s : List Word) (t : Word) (a b : List Word) → first ((s ++ t ∷ []) ++ a) ≡ first (s ++ t ∷ b)
first_token [] t a b = refl
first_token (u ∷ s) t a b = refl

-- ---- one rule, then another

-- what the second rule spells, and what may follow, ends the first
abbrev pub Passes : {A B : Type 0} → (Word → Bool) → (Word → Bool) → (A → List Step → B → Type 0) → Type 0
Passes {A = A} {B = B} v w H = (a : A) (s : List Step) (b : B) (back : List Word) → H a s b → Ends w back → Ends v (said s ++ back)

pub then_can_left : {A B : Type 0} (G : List Step → A → Type 0) (H : A → List Step → B → Type 0) (used : List Step) → CanGoOn G used → ((a : A) → CanGoOn (H a) []) → CanGoOn (Then G H) used
then_can_left G H used h k =
    let d = k h.1 in
    (h.0 ++ d.0, d.1, (used ++ h.0, d.0, h.1, sym (append_assoc used h.0 d.0), h.2, d.2))

pub then_can_right : {A B : Type 0} (G : List Step → A → Type 0) (H : A → List Step → B → Type 0) (a : A) (used used' : List Step) → G used a → CanGoOn (H a) used' → CanGoOn (Then G H) (used ++ used')
then_can_right G H a used used' g h = (h.0, h.1, (used, used' ++ h.0, a, append_assoc used used' h.0, g, h.2))

-- what the whole spells, the second rule spells behind what the first one read
then_only : {A B : Type 0} (v w : Word → Bool) (G : List Step → A → Type 0) (H : A → List Step → B → Type 0) (P : List Step → B → Type 0) (ws mid : List Word) (a : A) (f : FitsRead v G ws a mid) (seen rest : List Word)
    → ((more : List Word) → first more ≡ first rest → first (seen ++ more) ≡ first mid) → Passes v w H → Only w (H a) seen rest P
    → Only w (Then G H) (said f.used ++ seen) rest (λ front b. (tail : List Step) × (front ≡ f.used ++ tail) × P tail b)
then_only v w G H P ws mid a f seen rest e pass only front b back more h ends same eq =
    let split : said front ≡ said h.0 ++ said h.1 = ap said h.3 ∙ said-append h.0 h.1 in
    let eq1 : said h.0 ++ (said h.1 ++ back) ≡ said f.used ++ (seen ++ more) =
    sym (append_assoc (said h.0) (said h.1) back) ∙ ap (λ (z : List Word). z ++ back) (sym split) ∙ eq ∙ append_assoc (said f.used) seen more in
    let one = f.only h.0 h.2 (said h.1 ++ back) (seen ++ more) h.4 (pass h.2 h.1 b back h.5 ends) (e more same) eq1 in
    let eq2 : said h.1 ++ back ≡ seen ++ more = append_cancel_left (said f.used) _ _ (ap (λ (z : List Step). said z ++ (said h.1 ++ back)) (sym one.0) ∙ eq1) in
    let two = only h.1 b back more (subst (λ x. H x h.1 b) one.1 h.5) ends same eq2 in
    (h.1, h.3 ∙ ap (λ (z : List Step). z ++ h.1) one.0, two)

pub then_right : {A B : Type 0} (v w : Word → Bool) (G : List Step → A → Type 0) (H : A → List Step → B → Type 0) (ws mid : List Word) (a : A) (r : Reading B)
    → Passes v w H → FitsRead v G ws a mid → FitsAs w (H a) mid r → FitsAs w (Then G H) ws r
then_right v w G H ws mid a (Read b rest) pass f h = record {
  used = f.used ++ h.used;
  split = f.split ∙ ap (λ (z : List Word). said f.used ++ z) h.split ∙ sym (append_assoc (said f.used) (said h.used) rest) ∙ ap (λ (z : List Word). z ++ rest) (sym (said-append f.used h.used));
  inside = within-append f.used h.used f.inside h.inside;
  spells = (f.used, h.used, a, refl, f.spells, h.spells);
  only = λ front c back more g ends same eq.
      let o = then_only v w G H (λ x y. (x ≡ h.used) × (y ≡ b)) ws mid a f (said h.used) rest (λ more same. first_behind (said h.used) more rest same ∙ ap first (sym h.split)) pass h.only front c back more g ends same (eq ∙ ap (λ (z : List Word). z ++ more) (said-append f.used h.used)) in
      (o.1 ∙ ap (λ (z : List Step). f.used ++ z) o.2.0, o.2.1);
}
then_right v w G H ws mid a (Stuck left) pass f h = record {
  used = f.used ++ h.used;
  rest = h.rest;
  split = f.split ∙ ap (λ (z : List Word). said f.used ++ z) h.split ∙ sym (append_assoc (said f.used) (said h.used) h.rest) ∙ ap (λ (z : List Word). z ++ h.rest) (sym (said-append f.used h.used));
  place = h.place;
  inside = within-append f.used h.used f.inside h.inside;
  viable = then_can_right G H a f.used h.used f.spells h.viable;
  only = λ front c back more g ends same eq.
      (then_only v w G H (λ x y. ⊥) ws mid a f (said h.used) h.rest (λ more same. first_behind (said h.used) more h.rest same ∙ ap first (sym h.split)) pass h.only front c back more g ends same (eq ∙ ap (λ (z : List Word). z ++ more) (said-append f.used h.used))).2;
}
then_right v w G H ws mid a (Over kind left) pass f h = record {
  used = f.used ++ h.used;
  mark = h.mark;
  next = h.next;
  here = h.here;
  word = h.word;
  rest = h.rest;
  split = f.split ∙ ap (λ (z : List Word). said f.used ++ z) h.split ∙ sym (append_assoc (said f.used) (said h.used) (h.word ∷ h.rest)) ∙ ap (λ (z : List Word). z ++ h.word ∷ h.rest) (sym (said-append f.used h.used));
  place = h.place;
  inside = within-append f.used h.used f.inside h.inside;
  high = h.high;
  viable = subst (λ (z : List Step). CanGoOn (Then G H) z) (sym (append_assoc f.used h.used (Limit h.mark ∷ h.next))) (then_can_right G H a f.used (h.used ++ Limit h.mark ∷ h.next) f.spells h.viable);
  only = λ any front c back more g ends same eq.
      let e : said (f.used ++ h.used) ++ h.word ∷ [] ≡ said f.used ++ (said h.used ++ h.word ∷ []) = ap (λ (z : List Word). z ++ h.word ∷ []) (said-append f.used h.used) ∙ append_assoc (said f.used) (said h.used) (h.word ∷ []) in
      let o = then_only v w G H (λ x y. (tail : List Step) × (x ≡ h.used ++ Limit h.mark ∷ tail)) ws mid a f (said h.used ++ h.word ∷ []) any (λ more same. first_token (said h.used) h.word more h.rest ∙ ap first (sym h.split)) pass (h.only any) front c back more g ends same (eq ∙ ap (λ (z : List Word). z ++ more) e) in
      (o.2.0, o.1 ∙ ap (λ (z : List Step). f.used ++ z) o.2.1 ∙ sym (append_assoc f.used h.used (Limit h.mark ∷ o.2.0)));
}
then_right v w G H ws mid a Lost pass f h = tt

pub then_stuck : {A B : Type 0} (v w : Word → Bool) (G : List Step → A → Type 0) (H : A → List Step → B → Type 0) (ws : List Word) (left : ℕ)
    → Passes v w H → ((a : A) → CanGoOn (H a) []) → FitsStuck v G ws left → FitsStuck w (Then G H) ws left
then_stuck v w G H ws left pass some f = record {
  used = f.used;
  rest = f.rest;
  split = f.split;
  place = f.place;
  inside = f.inside;
  viable = then_can_left G H f.used f.viable some;
  only = λ front c back more g ends same eq.
      f.only g.0 g.2 (said g.1 ++ back) more g.4 (pass g.2 g.1 c back g.5 ends) same
      (sym (append_assoc (said g.0) (said g.1) back) ∙ ap (λ (z : List Word). z ++ back) (sym (said-append g.0 g.1) ∙ ap said (sym g.3)) ∙ eq);
}

pub then_over : {A B : Type 0} (v w : Word → Bool) (G : List Step → A → Type 0) (H : A → List Step → B → Type 0) (ws : List Word) (kind : ScriptKind) (left : ℕ)
    → Passes v w H → ((a : A) → CanGoOn (H a) []) → FitsOver v G ws kind left → FitsOver w (Then G H) ws kind left
then_over v w G H ws kind left pass some f = record {
  used = f.used;
  mark = f.mark;
  next = f.next;
  here = f.here;
  word = f.word;
  rest = f.rest;
  split = f.split;
  place = f.place;
  inside = f.inside;
  high = f.high;
  viable = then_can_left G H (f.used ++ Limit f.mark ∷ f.next) f.viable some;
  only = λ any front c back more g ends same eq.
      let o = f.only any g.0 g.2 (said g.1 ++ back) more g.4 (pass g.2 g.1 c back g.5 ends) same
      (sym (append_assoc (said g.0) (said g.1) back) ∙ ap (λ (z : List Word). z ++ back) (sym (said-append g.0 g.1) ∙ ap said (sym g.3)) ∙ eq) in
      (o.0 ++ g.1, g.3 ∙ ap (λ (z : List Step). z ++ g.1) o.1 ∙ append_assoc f.used (Limit f.mark ∷ o.0) g.1);
}

-- ---- a choice that the first token makes

-- all that the whole rule spells from here, this part of it spells
pub fits_by : {A : Type 0} (w : Word → Bool) (G H : List Step → A → Type 0) (ws : List Word) (r : Reading A) → FitsAs w G ws r
    → ((s : List Step) (b : A) → G s b → H s b)
    → ((s : List Step) (b : A) (back : List Word) → H s b → Ends w back → first (said s ++ back) ≡ first ws → G s b)
    → FitsAs w H ws r
fits_by w G H ws (Read a rest) f to from = record {
  used = f.used;
  split = f.split;
  inside = f.inside;
  spells = to f.used a f.spells;
  only = λ front b back more g ends same eq. f.only front b back more (from front b back g ends (ap first eq ∙ first_behind (said f.used) more rest same ∙ ap first (sym f.split))) ends same eq;
}
fits_by w G H ws (Stuck left) f to from = record {
  used = f.used;
  rest = f.rest;
  split = f.split;
  place = f.place;
  inside = f.inside;
  viable = (f.viable.0, f.viable.1, to _ _ f.viable.2);
  only = λ front b back more g ends same eq. f.only front b back more (from front b back g ends (ap first eq ∙ first_behind (said f.used) more f.rest same ∙ ap first (sym f.split))) ends same eq;
}
fits_by w G H ws (Over kind left) f to from = record { used = f.used; mark = f.mark; next = f.next; here = f.here; word = f.word; rest = f.rest; split = f.split; place = f.place; inside = f.inside; high = f.high; viable = (f.viable.0, f.viable.1, to _ _ f.viable.2); only = λ any front b back more g ends same eq. f.only any front b back more (from front b back g ends (ap first eq ∙ first_token (said f.used) f.word more f.rest ∙ ap first (sym f.split))) ends same eq }
fits_by w G H ws Lost f to from = tt

-- ---- leaves

pub fits_return : {A : Type 0} (w : Word → Bool) (x : A) (ws : List Word) → FitsRead w (Return x) ws x ws
fits_return w x ws = record {
  used = [];
  split = refl;
  inside = refl;
  spells = (refl, refl);
  only = λ front b back more g ends same eq. g;
}

head_is : (t u : Word) (ws us : List Word) → t ∷ ws ≡ u ∷ us → t ≡ u
head_is t u ws us e = cc

tail_is : (t u : Word) (ws us : List Word) → t ∷ ws ≡ u ∷ us → ws ≡ us
tail_is t u ws us e = cc

first_is : (t : Word) (ws us rest : List Word) → first us ≡ first rest → t ∷ ws ≡ us → first rest ≡ Some t
first_is t ws us rest same e = sym same ∙ ap first (sym e)

-- a rule that begins with a token, where the token stands
pub after_read : {A : Type 0} (w : Word → Bool) (t : Word) (G : List Step → A → Type 0) (ws rest : List Word) (r : Reading A) → ws ≡ t ∷ rest → FitsAs w G rest r → FitsAs w (After t G) ws r
after_read w t G ws rest (Read b left) e f = record {
  used = Say t ∷ f.used;
  split = e ∙ ap (λ (z : List Word). t ∷ z) f.split;
  inside = f.inside;
  spells = (f.used, refl, f.spells);
  only = λ front c back more g ends same eq.
      let eq1 : t ∷ (said g.0 ++ back) ≡ t ∷ (said f.used ++ more) = ap (λ (z : List Step). said z ++ back) (sym g.1) ∙ eq in
      let o = f.only g.0 c back more g.2 ends same (tail_is _ _ _ _ eq1) in
      (g.1 ∙ ap (λ (z : List Step). Say t ∷ z) o.0, o.1);
}
after_read w t G ws rest (Stuck left) e f = record {
  used = Say t ∷ f.used;
  rest = f.rest;
  split = e ∙ ap (λ (z : List Word). t ∷ z) f.split;
  place = f.place;
  inside = f.inside;
  viable = (f.viable.0, f.viable.1, (f.used ++ f.viable.0, refl, f.viable.2));
  only = λ front c back more g ends same eq.
      let eq1 : t ∷ (said g.0 ++ back) ≡ t ∷ (said f.used ++ more) = ap (λ (z : List Step). said z ++ back) (sym g.1) ∙ eq in
      f.only g.0 c back more g.2 ends same (tail_is _ _ _ _ eq1);
}
after_read w t G ws rest (Over kind left) e f = record {
  used = Say t ∷ f.used;
  mark = f.mark;
  next = f.next;
  here = f.here;
  word = f.word;
  rest = f.rest;
  split = e ∙ ap (λ (z : List Word). t ∷ z) f.split;
  place = f.place;
  inside = f.inside;
  high = f.high;
  viable = (f.viable.0, f.viable.1, ((f.used ++ Limit f.mark ∷ f.next) ++ f.viable.0, refl, f.viable.2));
  only = λ any front c back more g ends same eq.
      let eq1 : t ∷ (said g.0 ++ back) ≡ t ∷ ((said f.used ++ f.word ∷ []) ++ more) = ap (λ (z : List Step). said z ++ back) (sym g.1) ∙ eq in
      let o = f.only any g.0 c back more g.2 ends same (tail_is _ _ _ _ eq1) in
      (o.0, g.1 ∙ ap (λ (z : List Step). Say t ∷ z) o.1);
}
after_read w t G ws rest Lost e f = tt

-- where nothing of the rule can stand
pub stuck_here : {A : Type 0} (w : Word → Bool) (G : List Step → A → Type 0) (ws : List Word) → CanGoOn G []
    → ((front : List Step) (b : A) (back : List Word) → G front b → Ends w back → first (said front ++ back) ≡ first ws → ⊥) → FitsStuck w G ws (length ws)
stuck_here w G ws some not = record {
  used = [];
  rest = ws;
  split = refl;
  place = refl;
  inside = refl;
  viable = some;
  only = λ front b back more g ends same eq. not front b back g ends (ap first eq ∙ same);
}

pub after_can : {A : Type 0} (t : Word) (G : List Step → A → Type 0) → CanGoOn G [] → CanGoOn (After t G) []
after_can t G h = (Say t ∷ h.0, h.1, (h.0, refl, h.2))

pub named_can : {A : Type 0} (G : List ℕ → List Step → A → Type 0) → CanGoOn (G []) [] → CanGoOn (Named G) []
named_can G h = (Say (Name []) ∷ h.0, h.1, ([], h.0, refl, h.2))

pub return_can : {A : Type 0} (x : A) → CanGoOn (Return x) []
return_can x = ([], x, (refl, refl))

-- a rule that begins with a token, where another stands
pub after_stuck : {A : Type 0} (w : Word → Bool) (t : Word) (G : List Step → A → Type 0) (ws : List Word) → CanGoOn G [] → (first ws ≡ Some t → ⊥) → FitsStuck w (After t G) ws (length ws)
after_stuck w t G ws some not = stuck_here w (After t G) ws (after_can t G some)
    (λ front b back g ends e. not (sym e ∙ ap (λ (z : List Step). first (said z ++ back)) g.1))

pub named_read : {A : Type 0} (w : Word → Bool) (n : List ℕ) (G : List ℕ → List Step → A → Type 0) (ws rest : List Word) (r : Reading A) → ws ≡ Name n ∷ rest → FitsAs w (G n) rest r → FitsAs w (Named G) ws r
named_read w n G ws rest r e f = fits_by w (After (Name n) (G n)) (Named G) ws r (after_read w (Name n) (G n) ws rest r e f) (λ s b g. (n, g.0, g.1, g.2))
    (λ s b back g ends same.
    let e1 : Some (Name g.0) ≡ Some (Name n) = ap (λ (z : List Step). first (said z ++ back)) (sym g.2) ∙ same ∙ ap first e in
    let e2 : g.0 ≡ n = cc in
    (g.1, g.2 ∙ ap (λ (k : List ℕ). Say (Name k) ∷ g.1) e2, subst (λ (k : List ℕ). G k g.1 b) e2 g.3))

pub named_stuck : {A : Type 0} (w : Word → Bool) (G : List ℕ → List Step → A → Type 0) (ws : List Word) → CanGoOn (G []) [] → ((n : List ℕ) → first ws ≡ Some (Name n) → ⊥) → FitsStuck w (Named G) ws (length ws)
named_stuck w G ws some not = stuck_here w (Named G) ws (named_can G some)
    (λ front b back g ends e. not g.0 (sym e ∙ ap (λ (z : List Step). first (said z ++ back)) g.2))

-- ---- what a `?` passes on

pub then_err : {A B : Type 0} (v w : Word → Bool) (G : List Step → A → Type 0) (H : A → List Step → B → Type 0) (ws : List Word) (e : ReadStop)
    → Passes v w H → ((a : A) → CanGoOn (H a) []) → FitsAs v G ws (stopped e) → FitsAs w (Then G H) ws (stopped e)
then_err v w G H ws (stop.Syntax left) pass some h = then_stuck v w G H ws left pass some h
then_err v w G H ws (stop.Limit kind left) pass some h = then_over v w G H ws kind left pass some h
then_err v w G H ws stop.Memory pass some h = tt

pub after_err : {B : Type 0} (w : Word → Bool) (t : Word) (G : List Step → B → Type 0) (ws : List Word) (e : ReadStop)
    → CanGoOn G [] → HasWord t ws (Err e) → FitsAs w (After t G) ws (stopped e)
after_err w t G ws (stop.Syntax left) some h = subst (λ (n : ℕ). FitsStuck w (After t G) ws n) (sym h.0) (after_stuck w t G ws some h.1)
after_err w t G ws (stop.Limit kind left) some h = absurd h
after_err w t G ws stop.Memory some h = tt

-- ---- what may follow

pub passes_after : {A B : Type 0} (v w : Word → Bool) (t : Word) (H : A → List Step → B → Type 0) → v t ≡ false → Passes v w (λ a. After t (H a))
passes_after v w t H e a s b back h ends = subst (λ (z : List Step). Ends v (said z ++ back)) (sym h.1) e

pub ends_not : (w : Word → Bool) (t : Word) (ws : List Word) → Ends w ws → w t ≡ true → first ws ≡ Some t → ⊥
ends_not w t [] ends e same = cc
ends_not w t (u ∷ us) ends e same = let d : u ≡ t = cc in let b : false ≡ true = sym ends ∙ ap w d ∙ e in cc

-- ---- parts of a list

pub mark_can : {A : Type 0} (m : Mark) (G : List Step → A → Type 0) → CanGoOn G [] → CanGoOn (Marked m G) []
mark_can m G h = (Limit m ∷ h.0, h.1, (h.0, refl, h.2))

low_within : (m : Mark) (s : List Step) → fault_at m ≡ None → within s ≡ true → within (Limit m ∷ s) ≡ true
low_within m s low h = rw low h

pub mark_read : {A : Type 0} (w : Word → Bool) (m : Mark) (G : List Step → A → Type 0) (ws : List Word) (r : Reading A) → fault_at m ≡ None → FitsAs w G ws r → FitsAs w (Marked m G) ws r
mark_read w m G ws (Read a rest) low f = record {
  used = Limit m ∷ f.used;
  split = f.split;
  inside = low_within m f.used low f.inside;
  spells = (f.used, refl, f.spells);
  only = λ front b back more g ends same eq.
      let o = f.only g.0 b back more g.2 ends same (ap (λ (z : List Step). said z ++ back) (sym g.1) ∙ eq) in
      (g.1 ∙ ap (λ (z : List Step). Limit m ∷ z) o.0, o.1);
}
mark_read w m G ws (Stuck left) low f = record {
  used = Limit m ∷ f.used;
  rest = f.rest;
  split = f.split;
  place = f.place;
  inside = low_within m f.used low f.inside;
  viable = (f.viable.0, f.viable.1, (f.used ++ f.viable.0, refl, f.viable.2));
  only = λ front b back more g ends same eq. f.only g.0 b back more g.2 ends same (ap (λ (z : List Step). said z ++ back) (sym g.1) ∙ eq);
}
mark_read w m G ws (Over kind left) low f = record {
  used = Limit m ∷ f.used;
  mark = f.mark;
  next = f.next;
  here = f.here;
  word = f.word;
  rest = f.rest;
  split = f.split;
  place = f.place;
  inside = low_within m f.used low f.inside;
  high = f.high;
  viable = (f.viable.0, f.viable.1, ((f.used ++ Limit f.mark ∷ f.next) ++ f.viable.0, refl, f.viable.2));
  only = λ any front b back more g ends same eq.
      let o = f.only any g.0 b back more g.2 ends same (ap (λ (z : List Step). said z ++ back) (sym g.1) ∙ eq) in
      (o.0, g.1 ∙ ap (λ (z : List Step). Limit m ∷ z) o.1);
}
mark_read w m G ws Lost low f = tt

pub mark_over : {A : Type 0} (w : Word → Bool) (m : Mark) (G : List Step → A → Type 0) (next : List Step) (t : Word) (ws rest : List Word) (kind : ScriptKind) → fault_at m ≡ Some kind → ws ≡ t ∷ rest → said next ≡ t ∷ [] → CanGoOn G next → FitsOver w (Marked m G) ws kind (length ws)
mark_over w m G next t ws rest kind high e here can = record {
  used = [];
  mark = m;
  next = next;
  word = t;
  rest = rest;
  split = e;
  here = here;
  place = ap length (sym e);
  inside = refl;
  high = high;
  viable = (can.0, can.1, (next ++ can.0, refl, can.2));
  only = λ any front b back more g ends same eq. (g.0, g.1);
}

pub mark_stuck : {A : Type 0} (w : Word → Bool) (m : Mark) (G : List Step → A → Type 0) (ws : List Word) → CanGoOn G []
    → ((front : List Step) (b : A) (back : List Word) → G front b → Ends w back → first (said front ++ back) ≡ first ws → ⊥) → FitsStuck w (Marked m G) ws (length ws)
mark_stuck w m G ws some not = stuck_here w (Marked m G) ws (mark_can m G some)
    (λ front b back g ends e. not g.0 b back g.2 ends (ap (λ (z : List Step). first (said z ++ back)) (sym g.1) ∙ e))

pub named_err : {B : Type 0} (w : Word → Bool) (G : List ℕ → List Step → B → Type 0) (ws : List Word) (e : ReadStop)
    → CanGoOn (G []) [] → HasName ws (Err e) → FitsAs w (Named G) ws (stopped e)
named_err w G ws (stop.Syntax left) some h = subst (λ (n : ℕ). FitsStuck w (Named G) ws n) (sym h.0) (named_stuck w G ws some h.1)
named_err w G ws (stop.Limit kind left) some h = absurd h
named_err w G ws stop.Memory some h = tt
