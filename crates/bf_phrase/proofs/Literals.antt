-- Literals at the front of words.
use Rattle.std.proofs.Common.{◌≡◌, ℕ, ◌+◌, ◌≤◌, ◌^◌, pos, neg_ℤ, Bool, true, false, List, [], ◌∷◌, ◌++◌, length, Some, refl, sym, ap, ◌∙◌, arith, Bor}
use Rattle.std.proofs.lemmas.List.{append-nil}
use Rattle.bf_base.specs.declared.value.Value.{Value}
use Rattle.bf_base.specs.declared.value.Value.TheVariants.{Int, Text}
use Rattle.bf_lex.specs.declared.fault.ScriptKind.TheVariants.{NumberTooWide}
use Rattle.bf_phrase.specs.declared.cursor.Cursor.{Cursor}
use Rattle.bf_phrase.specs.declared.start.Front.{Front}
use Rattle.bf_phrase.specs.declared.start.Front.TheVariants as front
use Rattle.bf_phrase.specs.Words as word
use Rattle.bf_phrase.specs.Words.{Word}
use Rattle.bf_phrase.specs.Steps.{Step, Say, Limit, Mark, Widest, said}
use Rattle.bf_phrase.specs.Reading.{CanGoOn, first, Reading, Read, Over, Stuck, Lost, FitsAs, Fits}
use Rattle.bf_phrase.specs.First.{begins, first_literal, is_opposite}
use Rattle.bf_phrase.specs.Follow.{nothing}
use Rattle.bf_phrase.specs.Starts.{IsFront}
use Rattle.bf_phrase.specs.Expressions.{NumberRule, narrow, widest, begins_with_number}
use Rattle.bf_phrase.specs.Conditions.{SignedRule, number, negative, LiteralRule, signed, text}
use Rattle.bf_phrase.proofs.Fitting.{fits_by, said-append, first_token}
use Rattle.bf_phrase.proofs.Moves.{Can}
use Rattle.bf_phrase.proofs.Beginnings.{Begun, not_begun, other_stop}

-- ---- numbers, with a minus or without

number_only : (n : ℕ) (front : List Step) (b : Value) (back more : List Word) → n + 1 ≤ 2 ^ 63 → SignedRule front b → said front ++ back ≡ word.Number n ∷ more
    → (front ≡ Say (word.Number n) ∷ []) × (b ≡ Int (pos n))
number_only n front b back more low (number v (narrow k p) q) eq =
    let d : word.Number v ∷ back ≡ word.Number n ∷ more = ap (λ (z : List Step). said z ++ back) (sym p) ∙ eq in
    let same : v ≡ n = cc in
    (p ∙ ap (λ (k : ℕ). Say (word.Number k) ∷ []) same, q ∙ ap (λ (k : ℕ). Int (pos k)) same)
number_only n front b back more low (number v (widest k p) q) eq =
    let d : word.Number v ∷ back ≡ word.Number n ∷ more = ap (λ (z : List Step). said z ++ back) (sym p) ∙ eq in
    let same : v ≡ n = cc in
    absurd (omega arith)
number_only n front b back more low (negative v flag k p q) eq =
    let d : word.Minus flag ∷ word.Number v ∷ back ≡ word.Number n ∷ more = ap (λ (z : List Step). said z ++ back) (sym p) ∙ eq in absurd cc

widest_only : (n : ℕ) (front : List Step) (b : Value) (back more : List Word) → n ≡ 2 ^ 63 → SignedRule front b → said front ++ back ≡ word.Number n ∷ more
    → (tail : List Step) × (front ≡ Limit Widest ∷ tail)
widest_only n front b back more wide (number v (narrow k p) q) eq =
    let d : word.Number v ∷ back ≡ word.Number n ∷ more = ap (λ (z : List Step). said z ++ back) (sym p) ∙ eq in
    let same : v ≡ n = cc in
    absurd (omega arith)
widest_only n front b back more wide (number v (widest k p) q) eq = (Say (word.Number v) ∷ [], p)
widest_only n front b back more wide (negative v flag k p q) eq =
    let d : word.Minus flag ∷ word.Number v ∷ back ≡ word.Number n ∷ more = ap (λ (z : List Step). said z ++ back) (sym p) ∙ eq in absurd cc

pub number_said : (front : List Step) (v : ℕ) → NumberRule front v → said front ≡ word.Number v ∷ []
number_said front v (narrow k p) = ap said p
number_said front v (widest k p) = ap said p

negative_only : (n : ℕ) (front : List Step) (b : Value) (back more : List Word) → SignedRule front b → said front ++ back ≡ word.Minus true ∷ word.Number n ∷ more
    → (front ≡ Say (word.Minus true) ∷ Say (word.Number n) ∷ []) × (b ≡ Int (neg_ℤ (pos n)))
negative_only n front b back more (number v h q) eq =
    let d : word.Number v ∷ back ≡ word.Minus true ∷ word.Number n ∷ more = ap (λ (z : List Word). z ++ back) (sym (number_said front v h)) ∙ eq in absurd cc
negative_only n front b back more (negative v flag k p q) eq =
    let d : word.Minus flag ∷ word.Number v ∷ back ≡ word.Minus true ∷ word.Number n ∷ more = ap (λ (z : List Step). said z ++ back) (sym p) ∙ eq in
    let behind : flag ≡ true = cc in
    let same : v ≡ n = cc in
    (p ∙ ap (λ (f : Bool). Say (word.Minus f) ∷ Say (word.Number v) ∷ []) behind ∙ ap (λ (k : ℕ). Say (word.Minus true) ∷ Say (word.Number k) ∷ []) same, q ∙ ap (λ (k : ℕ). Int (neg_ℤ (pos k))) same)

number_first : (v : ℕ) (ws : List Word) → Some (word.Number v) ≡ first ws → begins_with_number ws ≡ true
number_first v [] e = absurd cc
number_first v (w ∷ ws) e = let d : w ≡ word.Number v = cc in rw d refl

minus_only : (front : List Step) (b : Value) (back more rest : List Word) → SignedRule front b → first more ≡ first rest → begins_with_number rest ≡ false → said front ++ back ≡ word.Minus false ∷ more → ⊥
minus_only front b back more rest (number v h q) same alone eq =
    let d : word.Number v ∷ back ≡ word.Minus false ∷ more = ap (λ (z : List Word). z ++ back) (sym (number_said front v h)) ∙ eq in cc
minus_only front b back more rest (negative v flag k p q) same alone eq =
    let d : word.Minus flag ∷ word.Number v ∷ back ≡ word.Minus false ∷ more = ap (λ (z : List Step). said z ++ back) (sym p) ∙ eq in
    let tail : word.Number v ∷ back ≡ more = cc in
    let e : true ≡ false = sym (number_first v rest (ap first tail ∙ same)) ∙ alone in
    cc

pub signed_number : (n : ℕ) (ws rest : List Word) → ws ≡ word.Number n ∷ rest → n + 1 ≤ 2 ^ 63 → Fits nothing SignedRule ws (Read (Int (pos n)) rest)
signed_number n ws rest e low = record {
  it = record {
    used = Say (word.Number n) ∷ [];
    split = e;
    inside = refl;
    spells = number n (narrow low refl) refl;
    only = λ front b back more g ends same eq. number_only n front b back more low g eq;
  };
}

pub signed_widest : (n : ℕ) (ws rest : List Word) (k : ℕ) → length ws ≡ k → ws ≡ word.Number n ∷ rest → n ≡ 2 ^ 63 → Fits nothing SignedRule ws (Over NumberTooWide k)
signed_widest n ws rest k counted e wide = record {
  it = record {
    used = [];
    mark = Widest;
    next = Say (word.Number n) ∷ [];
    word = word.Number n;
    rest = rest;
    split = e;
    here = refl;
    place = ap length (sym e) ∙ counted;
    inside = refl;
    high = refl;
    viable = ([], Int (pos n), number n (widest wide refl) refl);
    only = λ any front b back more g ends same eq. widest_only n front b back more wide g eq;
  };
}

pub signed_negative : (n : ℕ) (ws rest : List Word) → ws ≡ word.Minus true ∷ word.Number n ∷ rest → n ≤ 2 ^ 63 → Fits nothing SignedRule ws (Read (Int (neg_ℤ (pos n))) rest)
signed_negative n ws rest e low = record {
  it = record {
    used = Say (word.Minus true) ∷ Say (word.Number n) ∷ [];
    split = e;
    inside = refl;
    spells = negative n true low refl refl;
    only = λ front b back more g ends same eq. negative_only n front b back more g eq;
  };
}

-- a minus alone: what is behind it is refused
pub signed_alone : (ws rest : List Word) (k : ℕ) → length rest ≡ k → ws ≡ word.Minus false ∷ rest → begins_with_number rest ≡ false → Fits nothing SignedRule ws (Stuck k)
signed_alone ws rest k counted e alone = record {
  it = record {
    used = Say (word.Minus false) ∷ [];
    rest = rest;
    split = e;
    place = counted;
    inside = refl;
    viable = (Say (word.Number 0) ∷ [], Int (neg_ℤ (pos 0)), negative 0 false (omega arith) refl refl);
    only = λ front b back more g ends same eq. minus_only front b back more rest g same alone eq;
  };
}

-- a number or a minus
abbrev pub begins_signed : Word → Bool
begins_signed (word.Keyword k) = false
begins_signed (word.Name k) = false
begins_signed (word.Number k) = true
begins_signed (word.Text k) = false
begins_signed (word.Minus k) = true
begins_signed (word.Sign k) = false

signed_begins : (s : List Step) (b : Value) → SignedRule s b → begins begins_signed (said s) ≡ true
signed_begins s b (number v h q) = ap (λ (z : List Word). begins begins_signed z) (number_said s v h)
signed_begins s b (negative v flag k p q) = ap (λ (z : List Step). begins begins_signed (said z)) p

signed_can : Can SignedRule
signed_can = record { it = (Say (word.Number 0) ∷ [], Int (pos 0), number 0 (narrow (omega arith) refl) refl) }

signed_begun : Begun begins_signed SignedRule
signed_begun = record { it = signed_begins }

signed_stop : (ws : List Word) (k : ℕ) → length ws ≡ k → begins begins_signed ws ≡ false → Fits nothing SignedRule ws (Stuck k)
signed_stop ws k e absent = other_stop k e signed_begun signed_can absent

not_signed : (ws : List Word) → begins first_literal ws ≡ false → begins is_opposite ws ≡ false → begins begins_signed ws ≡ false
not_signed [] p q = refl
not_signed (word.Keyword k ∷ ws) p q = refl
not_signed (word.Name k ∷ ws) p q = refl
not_signed (word.Number k ∷ ws) p q = absurd cc
not_signed (word.Text k ∷ ws) p q = absurd cc
not_signed (word.Minus true ∷ ws) p q = absurd cc
not_signed (word.Minus false ∷ ws) p q = absurd cc
not_signed (word.Sign k ∷ ws) p q = refl

pub signed_text : (t : List ℕ) (ws rest : List Word) (k : ℕ) → length ws ≡ k → ws ≡ word.Text t ∷ rest → Fits nothing SignedRule ws (Stuck k)
signed_text t ws rest k e there = signed_stop ws k e (ap (λ (z : List Word). begins begins_signed z) there)

pub signed_else : (ws : List Word) (k : ℕ) → length ws ≡ k → begins first_literal ws ≡ false → begins is_opposite ws ≡ false → Fits nothing SignedRule ws (Stuck k)
signed_else ws k e no_literal no_minus = signed_stop ws k e (not_signed ws no_literal no_minus)

-- ---- literals

text_only : (t : List ℕ) (front : List Step) (b : Value) (back more : List Word) → LiteralRule front b → said front ++ back ≡ word.Text t ∷ more
    → (front ≡ Say (word.Text t) ∷ []) × (b ≡ Text t)
text_only t front b back more (signed h) eq = absurd (not_begun begins_signed (said front) back (word.Text t ∷ more) refl (signed_begins front b h) (ap first eq))
text_only t front b back more (text u p q) eq =
    let d : word.Text u ∷ back ≡ word.Text t ∷ more = ap (λ (z : List Step). said z ++ back) (sym p) ∙ eq in
    let same : u ≡ t = cc in
    (p ∙ ap (λ (k : List ℕ). Say (word.Text k) ∷ []) same, q ∙ ap Text same)

pub literal_text : (t : List ℕ) (ws rest : List Word) → ws ≡ word.Text t ∷ rest → Fits nothing LiteralRule ws (Read (Text t) rest)
literal_text t ws rest e = record {
  it = record {
    used = Say (word.Text t) ∷ [];
    split = e;
    inside = refl;
    spells = text t refl refl;
    only = λ front b back more g ends same eq. text_only t front b back more g eq;
  };
}

begins_first : (test : Word → Bool) (ws : List Word) (w : Word) → Some w ≡ first ws → begins test ws ≡ test w
begins_first test [] w e = absurd cc
begins_first test (u ∷ ws) w e = let d : u ≡ w = cc in ap test d

no_text : (ws : List Word) (f : Front) → IsFront ws f → ((bytes : Bor (List ℕ)) (rest : Cursor) → f ≡ front.Text bytes rest → ⊥) → (t : List ℕ) → first ws ≡ Some (word.Text t) → ⊥
no_text ws (front.Number n rest) h not t e = let d : Some (word.Number n) ≡ Some (word.Text t) = ap first (sym h.it.0) ∙ e in cc
no_text ws (front.Negative n rest) h not t e = let d : Some (word.Minus true) ≡ Some (word.Text t) = ap first (sym h.it.0) ∙ e in cc
no_text ws (front.Minus rest) h not t e = let d : Some (word.Minus false) ≡ Some (word.Text t) = ap first (sym h.it.0) ∙ e in cc
no_text ws (front.Text bytes rest) h not t e = not bytes rest refl
no_text ws front.Other h not t e = let d : true ≡ false = sym (begins_first first_literal ws (word.Text t) (sym e)) ∙ h.it.0 in cc

-- where no text stands, a literal is a number
pub literal_signed : {ws : List Word} {f : Front} {r : Reading Value} → IsFront ws f → ((bytes : Bor (List ℕ)) (rest : Cursor) → f ≡ front.Text bytes rest → ⊥) → Fits nothing SignedRule ws r → Fits nothing LiteralRule ws r
literal_signed {ws = ws} {f = f} {r = r} h not g = record { it = fits_by nothing SignedRule LiteralRule ws r g.it (λ s b k. signed k) (λ s b back k ends same. from s b back k same) }
  where
    from : (s : List Step) (b : Value) (back : List Word) → LiteralRule s b → first (said s ++ back) ≡ first ws → SignedRule s b
    from s b back (signed k) same = k
    from s b back (text t p q) same = absurd (no_text ws f h not t (sym same ∙ ap (λ (z : List Step). first (said z ++ back)) p))

-- a number, a text or a minus
abbrev pub begins_value : Word → Bool
begins_value (word.Keyword k) = false
begins_value (word.Name k) = false
begins_value (word.Number k) = true
begins_value (word.Text k) = true
begins_value (word.Minus k) = true
begins_value (word.Sign k) = false

literal_begins : (s : List Step) (b : Value) → LiteralRule s b → begins begins_value (said s) ≡ true
literal_begins s b (signed (number v h q)) = ap (λ (z : List Word). begins begins_value z) (number_said s v h)
literal_begins s b (signed (negative v flag k p q)) = ap (λ (z : List Step). begins begins_value (said z)) p
literal_begins s b (text t p q) = ap (λ (z : List Step). begins begins_value (said z)) p

pub literal_begun : Begun begins_value LiteralRule
literal_begun = record { it = literal_begins }

pub not_value : (ws : List Word) → begins first_literal ws ≡ false → begins is_opposite ws ≡ false → begins begins_value ws ≡ false
not_value [] p q = refl
not_value (word.Keyword k ∷ ws) p q = refl
not_value (word.Name k ∷ ws) p q = refl
not_value (word.Number k ∷ ws) p q = absurd cc
not_value (word.Text k ∷ ws) p q = absurd cc
not_value (word.Minus true ∷ ws) p q = absurd cc
not_value (word.Minus false ∷ ws) p q = absurd cc
not_value (word.Sign k ∷ ws) p q = refl

-- ---- literals whose minus has its number behind it, as expressions have them

abbrev pub Tight : List Step → Value → Type 0
Tight s v = LiteralRule s v × (begins first_literal (said s) ≡ true)

tight_first : (s : List Step) (b : Value) (back ws : List Word) → LiteralRule s b → first (said s ++ back) ≡ first ws → begins first_literal ws ≡ true → begins first_literal (said s) ≡ true
tight_first s b back ws (signed (number v h q)) same is = ap (λ (z : List Word). begins first_literal z) (number_said s v h)
tight_first s b back ws (signed (negative v flag k p q)) same is =
    ap (λ (z : List Step). begins first_literal (said z)) p ∙ sym (begins_first first_literal ws (word.Minus flag) (ap (λ (z : List Step). first (said z ++ back)) (sym p) ∙ same)) ∙ is
tight_first s b back ws (text t p q) same is = ap (λ (z : List Step). begins first_literal (said z)) p

behind_limit : (m : Mark) (s : List Step) (b : Value) → LiteralRule (Limit m ∷ s) b → begins first_literal (said s) ≡ true
behind_limit m s b (signed (number v h q)) = ap (λ (z : List Word). begins first_literal z) (number_said (Limit m ∷ s) v h)
behind_limit m s b (signed (negative v flag k p q)) = absurd cc
behind_limit m s b (text t p q) = absurd cc

tight_can : (used : List Step) (ws rest : List Word) → ws ≡ said used ++ rest → begins first_literal ws ≡ true → CanGoOn LiteralRule used → CanGoOn Tight used
tight_can [] ws rest e is can = (Say (word.Text []) ∷ [], Text [], (text [] refl refl, refl))
tight_can (Say w ∷ used) ws rest e is can = (can.0, can.1, (can.2, tight_first (Say w ∷ (used ++ can.0)) can.1 [] ws can.2 (ap first (sym e)) is))
tight_can (Limit m ∷ used) ws rest e is can = (can.0, can.1, (can.2, behind_limit m (used ++ can.0) can.1 can.2))

first_over : (used : List Step) (m : Mark) (next : List Step) (v : Word) (rest : List Word) (more : List Step) (ws : List Word) → ws ≡ said used ++ v ∷ rest → said next ≡ v ∷ [] → first (said ((used ++ Limit m ∷ next) ++ more) ++ []) ≡ first ws
first_over used m next v rest more ws split here =
    ap first (append-nil (said ((used ++ Limit m ∷ next) ++ more)) ∙ said-append (used ++ Limit m ∷ next) more ∙ ap (λ (z : List Word). z ++ said more) (said-append used (Limit m ∷ next) ∙ ap (λ (z : List Word). said used ++ z) here))
    ∙ first_token (said used) v (said more) rest ∙ ap first (sym split)

tight_as : (ws : List Word) (r : Reading Value) → begins first_literal ws ≡ true → FitsAs nothing LiteralRule ws r → FitsAs nothing Tight ws r
tight_as ws (Read a rest) is f = record {
  used = f.used;
  split = f.split;
  inside = f.inside;
  spells = (f.spells, tight_first f.used a rest ws f.spells (ap first (sym f.split)) is);
  only = λ front b back more g ends same eq. f.only front b back more g.0 ends same eq;
}
tight_as ws (Stuck left) is f = record {
  used = f.used;
  rest = f.rest;
  split = f.split;
  place = f.place;
  inside = f.inside;
  viable = tight_can f.used ws f.rest f.split is f.viable;
  only = λ front b back more g ends same eq. f.only front b back more g.0 ends same eq;
}
tight_as ws (Over kind left) is f = record {
  used = f.used;
  mark = f.mark;
  next = f.next;
  word = f.word;
  rest = f.rest;
  split = f.split;
  here = f.here;
  place = f.place;
  inside = f.inside;
  high = f.high;
  viable = (f.viable.0, f.viable.1, (f.viable.2, tight_first _ f.viable.1 [] ws f.viable.2 (first_over f.used f.mark f.next f.word f.rest f.viable.0 ws f.split f.here) is));
  only = λ any front b back more g ends same eq. f.only any front b back more g.0 ends same eq;
}
tight_as ws Lost is f = tt

pub tight : {ws : List Word} {r : Reading Value} → begins first_literal ws ≡ true → Fits nothing LiteralRule ws r → Fits nothing Tight ws r
tight {ws = ws} {r = r} is f = record { it = tight_as ws r is f.it }
