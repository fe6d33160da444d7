-- What joins the products of a sum.
use Rattle.std.proofs.Common.{◌≡◌, ℕ, ◌+◌, ◌<◌, ◌≤◌, ◌^◌, pos, Bool, true, false, List, [], ◌∷◌, ◌++◌, length, Some, None, refl, sym, ap, subst, ◌∙◌, inl, inr, arith}
use Rattle.std.specs.Prelude.{slice_range}
use Rattle.std.proofs.lemmas.Bool.{cases_lt}
use Rattle.std.proofs.lemmas.List.{append-nil}
use Rattle.bf_base.specs.declared.value.Value.TheVariants as value
use Rattle.bf_tree.specs.declared.raw.Ref.{Ref}
use Rattle.bf_tree.specs.Trees as tree
use Rattle.bf_lex.specs.declared.fault.ScriptKind.TheVariants.{TooDeep}
use Rattle.bf_lex.specs.declared.sign.Sign.{Sign as SignCase}
use Rattle.bf_lex.specs.declared.sign.Sign.TheVariants as sign
use Rattle.bf_lex.specs.declared.token.Token.{Token}
use Rattle.bf_lex.specs.declared.token.TokenKind.{TokenKind}
use Rattle.bf_lex.specs.declared.token.TokenKind.TheVariants as token
use Rattle.bf_phrase.specs.declared.cursor.Cursor.{Cursor}
use Rattle.bf_phrase.specs.declared.error.ReadStop.{ReadStop}
use Rattle.bf_phrase.specs.declared.sum_operator.SumOperator.{SumOperator}
use Rattle.bf_phrase.specs.Words.{Word, Minus, Sign, sign_word, word_of, words_of}
use Rattle.bf_phrase.specs.Words as word
use Rattle.bf_phrase.specs.Steps.{Step, Say, Limit, Mark, Node, Widest, said}
use Rattle.bf_phrase.specs.Rules.{Return, After, Marked, Then}
use Rattle.bf_phrase.specs.Reading.{CanGoOn, Ends, Reading, Read, Over, Fits, first}
use Rattle.bf_phrase.specs.Outcome.{stopped}
use Rattle.bf_phrase.specs.Cursors.{IsPlace, words}
use Rattle.bf_phrase.specs.Tokens.{IsSpelling, AreTokensAs}
use Rattle.bf_phrase.specs.First.{begins}
use Rattle.bf_phrase.specs.Follow.{follow_product, follow_sum, is_sum_operator}
use Rattle.bf_phrase.specs.Sums.{IsNextOperator, word_before}
use Rattle.bf_phrase.specs.Expressions.{Counted, NumberRule, narrow, widest, number, text, Product, product, no_factor, Products, no_product, other_product, sum_of, sum_word, is_number, begins_with_number}
use Rattle.bf_phrase.specs.declared.sum_operator.SumOperator.TheVariants as operator
use Rattle.bf_phrase.proofs.Fitting.{fits_by, fits_return, ends_not}
use Rattle.bf_phrase.proofs.Moves.{Can, then_go, then_stop}
use Rattle.bf_phrase.proofs.Chains.{node_go, node_deep, products_can}
use Rattle.bf_phrase.proofs.Additions.{headed-append, product_headed, same_number, products_passed}
use Rattle.bf_phrase.proofs.Beginnings.{Begun, not_begun}
use Rattle.bf_phrase.proofs.Numbered.{Numbered, Headed, plain, wide, marked, unnumbered, numbered}

-- what stands behind an operator
abbrev pub Behind : SumOperator → Counted → List Step → Counted → Type 0
Behind o a = Then (Product (a.1 + 1)) (λ b. Products (sum_of o a.0 b.0, b.1))

abbrev pub Added : Word → SumOperator → Counted → List Step → Counted → Type 0
Added t o a = Marked (Node (a.1 + 1)) (After t (Behind o a))

abbrev pub Subtracted : Bool → Counted → List Step → Counted → Type 0
Subtracted flag a = Marked (Node (a.1 + 1)) (After (Minus flag) (Numbered flag (Behind operator.Difference a)))

stands_not : {A : Type 0} (t u : Word) (s : List Step) (back ws rest : List Word) (m : Mark) (more : List Step) → ws ≡ t ∷ rest → s ≡ Limit m ∷ Say u ∷ more → (u ≡ t → ⊥) → first (said s ++ back) ≡ first ws → A
stands_not t u s back ws rest m more e p not same =
    let d : Some u ≡ Some t = ap (λ (z : List Step). first (said z ++ back)) (sym p) ∙ same ∙ ap first e in
    absurd (not cc)

ended_not : {A : Type 0} (t : Word) (s : List Step) (back ws rest : List Word) → ws ≡ t ∷ rest → follow_sum t ≡ true → s ≡ [] → Ends follow_sum back → first (said s ++ back) ≡ first ws → A
ended_not t s back ws rest e goes p ends same = absurd (ends_not follow_sum t back ends goes (ap (λ (z : List Step). first (said z ++ back)) (sym p) ∙ same ∙ ap first e))

-- ---- the two operators of one word

added_to : (t : Word) (o : SumOperator) (a : Counted) → ((front : List Step) → t ≡ sum_word o front) → (s : List Step) (b : Counted) → Added t o a s b → Products a s b
added_to t o a is s b h =
    let k = h.2.2 in
    other_product o k.0 k.1 k.2 k.4 k.5 (h.1 ∙ ap (λ (z : List Step). Limit (Node (a.1 + 1)) ∷ z) (h.2.1 ∙ ap (λ (z : List Step). Say t ∷ z) k.3 ∙ ap (λ (z : Word). Say z ∷ (k.0 ++ k.1)) (is k.0)))

plus_from : (a : Counted) (ws rest : List Word) → ws ≡ Sign sign.Plus ∷ rest → (s : List Step) (b : Counted) (back : List Word) → Products a s b → Ends follow_sum back → first (said s ++ back) ≡ first ws → Added (Sign sign.Plus) operator.Plus a s b
plus_from a ws rest e s b back (no_product p q) ends same = ended_not (Sign sign.Plus) s back ws rest e refl p ends same
plus_from a ws rest e s b back (other_product operator.Plus front more c g m p) ends same = (Say (Sign sign.Plus) ∷ (front ++ more), p, (front ++ more, refl, (front, more, c, refl, g, m)))
plus_from a ws rest e s b back (other_product operator.Difference front more c g m p) ends same = stands_not (Sign sign.Plus) _ s back ws rest _ _ e p (λ d. cc) same
plus_from a ws rest e s b back (other_product operator.Concatenation front more c g m p) ends same = stands_not (Sign sign.Plus) (Sign sign.Bars) s back ws rest _ _ e p (λ d. cc) same

bars_from : (a : Counted) (ws rest : List Word) → ws ≡ Sign sign.Bars ∷ rest → (s : List Step) (b : Counted) (back : List Word) → Products a s b → Ends follow_sum back → first (said s ++ back) ≡ first ws → Added (Sign sign.Bars) operator.Concatenation a s b
bars_from a ws rest e s b back (no_product p q) ends same = ended_not (Sign sign.Bars) s back ws rest e refl p ends same
bars_from a ws rest e s b back (other_product operator.Plus front more c g m p) ends same = stands_not (Sign sign.Bars) (Sign sign.Plus) s back ws rest _ _ e p (λ d. cc) same
bars_from a ws rest e s b back (other_product operator.Difference front more c g m p) ends same = stands_not (Sign sign.Bars) _ s back ws rest _ _ e p (λ d. cc) same
bars_from a ws rest e s b back (other_product operator.Concatenation front more c g m p) ends same = (Say (Sign sign.Bars) ∷ (front ++ more), p, (front ++ more, refl, (front, more, c, refl, g, m)))

-- ---- a minus

minus_to : (flag : Bool) (a : Counted) (s : List Step) (b : Counted) → Subtracted flag a s b → Products a s b
minus_to flag a s b h =
    let k = h.2.2.0 in
    let same : begins_with_number (said k.0) ≡ flag = sym (same_number k.0 k.1 (product_headed (a.1 + 1) k.0 k.2 k.4)) ∙ ap (λ (z : List Step). begins_with_number (said z)) (sym k.3) ∙ h.2.2.1 in
    other_product operator.Difference k.0 k.1 k.2 k.4 k.5
    (h.1 ∙ ap (λ (z : List Step). Limit (Node (a.1 + 1)) ∷ z) (h.2.1 ∙ ap (λ (z : List Step). Say (Minus flag) ∷ z) k.3 ∙ ap (λ (z : Bool). Say (Minus z) ∷ (k.0 ++ k.1)) (sym same)))

minus_from : (flag : Bool) (a : Counted) (ws rest : List Word) → ws ≡ Minus flag ∷ rest → (s : List Step) (b : Counted) (back : List Word) → Products a s b → Ends follow_sum back → first (said s ++ back) ≡ first ws → Subtracted flag a s b
minus_from flag a ws rest e s b back (no_product p q) ends same = ended_not (Minus flag) s back ws rest e refl p ends same
minus_from flag a ws rest e s b back (other_product operator.Plus front more c g m p) ends same = stands_not (Minus flag) (Sign sign.Plus) s back ws rest _ _ e p (λ d. cc) same
minus_from flag a ws rest e s b back (other_product operator.Concatenation front more c g m p) ends same = stands_not (Minus flag) (Sign sign.Bars) s back ws rest _ _ e p (λ d. cc) same
minus_from flag a ws rest e s b back (other_product operator.Difference front more c g m p) ends same =
    let d : Some (Minus (begins_with_number (said front))) ≡ Some (Minus flag) = ap (λ (z : List Step). first (said z ++ back)) (sym p) ∙ same ∙ ap first e in
    let is : begins_with_number (said front) ≡ flag = cc in (
      Say (Minus flag) ∷ (front ++ more),
      p ∙ ap (λ (z : Bool). Limit (Node (a.1 + 1)) ∷ Say (Minus z) ∷ (front ++ more)) is,
      (front ++ more, refl, ((front, more, c, refl, g, m), same_number front more (product_headed (a.1 + 1) front c g) ∙ is)),
    )

-- ---- what may stand behind a minus

behind_headed : (o : SumOperator) (a : Counted) (s : List Step) (b : Counted) → Behind o a s b → Headed s
behind_headed o a s b h = headed-append h.0 h.1 s h.3 (product_headed (a.1 + 1) h.0 h.2 h.4)

behind_begun : (o : SumOperator) (a : Counted) → Begun (λ w. true) (Behind o a)
behind_begun o a = record { it = λ s b h. by_head s (behind_headed o a s b h) }
  where
    by_head : (s : List Step) → Headed s → begins (λ w. true) (said s) ≡ true
    by_head s (plain w r e) = ap (λ (z : List Step). begins (λ w. true) (said z)) e
    by_head s (wide v r e) = ap (λ (z : List Step). begins (λ w. true) (said z)) e
    by_head s (marked m w r n e) = ap (λ (z : List Step). begins (λ w. true) (said z)) e

abbrev behind_text : (o : SumOperator) (a : Counted) → CanGoOn (Behind o a) []
behind_text o a = (Say (word.Text []) ∷ [], (sum_of o a.0 (tree.literal (value.Text [])), a.1 + 1), (Say (word.Text []) ∷ [], [], (tree.literal (value.Text []), a.1 + 1), refl, product (Say (word.Text []) ∷ []) [] (tree.literal (value.Text []), a.1 + 1) (text [] refl refl) (no_factor refl refl) refl, no_product refl refl))

number_steps : (v : ℕ) → v ≤ 2 ^ 63 → (s : List Step) × NumberRule s v × (said s ≡ word.Number v ∷ [])
number_steps v low = elim (cases_lt v (2 ^ 63)) [
  | inl less ↦ (Say (word.Number v) ∷ [], narrow (omega arith) refl, refl)
  | inr more ↦ (Limit Widest ∷ Say (word.Number v) ∷ [], widest (omega arith) refl, refl)
]

behind_number : (o : SumOperator) (a : Counted) (v : ℕ) → v ≤ 2 ^ 63 → (s : List Step) × (b : Counted) × Behind o a s b × (said s ≡ word.Number v ∷ [])
behind_number o a v low =
    let k = number_steps v low in
    let x : Counted = (tree.literal (value.Int (pos v)), a.1 + 1) in
    (k.0, (sum_of o a.0 x.0, a.1 + 1), (k.0, [], x, sym (append-nil k.0), product k.0 [] x (number v k.1 refl) (no_factor refl refl) (sym (append-nil k.0)), no_product refl refl), k.2)

sign_no_number : (s : SignCase) (b : Bool) → is_number (sign_word s b) ≡ true → ⊥
sign_no_number sign.Minus b e = cc
sign_no_number other b e = cc

kind_number : (k : TokenKind) (bytes : List ℕ) (b : Bool) → IsSpelling k bytes → is_number (word_of k bytes b) ≡ true → (v : ℕ) × (word_of k bytes b ≡ word.Number v) × (v ≤ 2 ^ 63)
kind_number (token.Keyword k) bytes b h e = absurd cc
kind_number token.Name bytes b h e = absurd cc
kind_number (token.Number n) bytes b h e = (n, refl, h)
kind_number token.Text bytes b h e = absurd cc
kind_number (token.Sign s) bytes b h e = absurd (sign_no_number s b e)

-- the number that stands first
number_first : (content : List ℕ) (ts : List Token) → AreTokensAs content ts → begins_with_number (words_of content ts) ≡ true → (v : ℕ) × (rest : List Word) × (words_of content ts ≡ word.Number v ∷ rest) × (v ≤ 2 ^ 63)
number_first content [] h e = absurd cc
number_first content (t ∷ ts) h e =
    let flag = word.begins_with_number ts in
    let k = kind_number t.kind (slice_range content t.at t.end) flag h.0.spelled e in
    (k.0, words_of content ts, ap (λ (w : Word). w ∷ words_of content ts) k.1, k.2)

-- a number that stands first is an INT behind a minus alone
abbrev pub NumberFits : List Word → Type 0
NumberFits ws = begins_with_number ws ≡ true → (v : ℕ) × (rest : List Word) × (ws ≡ word.Number v ∷ rest) × (v ≤ 2 ^ 63)

numbered_behind : (flag : Bool) (a : Counted) (ws : List Word) (r : Reading Counted) → NumberFits ws → begins_with_number ws ≡ flag → Fits follow_sum (Behind operator.Difference a) ws r → Fits follow_sum (Numbered flag (Behind operator.Difference a)) ws r
numbered_behind false a ws r low e f = let k = behind_text operator.Difference a in record { it = unnumbered follow_sum (Behind operator.Difference a) (behind_headed operator.Difference a) (k.0, k.1, (k.2, refl)) ws r e f.it }
numbered_behind true a ws r low e f =
    let k = low e in
    record { it = numbered follow_sum (Behind operator.Difference a) (λ w. true) (behind_begun operator.Difference a) k.0 (behind_number operator.Difference a k.0 k.3) ws k.1 r k.2 f.it }

numbered_can : (flag : Bool) (a : Counted) → Can (Numbered flag (Behind operator.Difference a))
numbered_can false a = let k = behind_text operator.Difference a in record { it = (k.0, k.1, (k.2, refl)) }
numbered_can true a = let k = behind_number operator.Difference a 0 (omega arith) in record { it = (k.0, k.1, (k.2, ap begins_with_number k.3)) }

-- ---- a loop's step

pub operator_word : {a : Counted} {ws rest : List Word} {r : Reading Counted} (by : SumOperator) → a.1 < 256 → NumberFits rest → ws ≡ word_before by rest ∷ rest → Fits follow_sum (Behind by a) rest r → Fits follow_sum (Products a) ws r
operator_word {a = a} {ws = ws} {rest = rest} {r = r} operator.Plus low int e f =
    record { it = fits_by follow_sum (Added (Sign sign.Plus) operator.Plus a) (Products a) ws r (node_go low (record { it = e }) f).it (added_to (Sign sign.Plus) operator.Plus a (λ z. refl)) (plus_from a ws rest e) }
operator_word {a = a} {ws = ws} {rest = rest} {r = r} operator.Concatenation low int e f =
    record { it = fits_by follow_sum (Added (Sign sign.Bars) operator.Concatenation a) (Products a) ws r (node_go low (record { it = e }) f).it (added_to (Sign sign.Bars) operator.Concatenation a (λ z. refl)) (bars_from a ws rest e) }
operator_word {a = a} {ws = ws} {rest = rest} {r = r} operator.Difference low int e f =
    let flag = begins_with_number rest in
    record { it = fits_by follow_sum (Subtracted flag a) (Products a) ws r (node_go low (record { it = e }) (numbered_behind flag a rest r int refl f)).it (minus_to flag a) (minus_from flag a ws rest e) }

pub operator_go : {a : Counted} {ws : List Word} {behind : Cursor} {r : Reading Counted} (by : SumOperator) → a.1 < 256 → IsPlace behind → IsNextOperator ws (Some (by, behind)) → Fits follow_sum (Behind by a) (words behind) r → Fits follow_sum (Products a) ws r
operator_go {behind = behind} by low place h f = operator_word by low (number_first behind.text.now behind.tokens.now place.it) h.it f

pub operator_deep : {a : Counted} {ws : List Word} {behind : Cursor} (k : ℕ) (by : SumOperator) → length ws ≡ k → 256 ≤ a.1 → IsNextOperator ws (Some (by, behind)) → Fits follow_sum (Products a) ws (Over TooDeep k)
operator_deep {a = a} {ws = ws} {behind = behind} k operator.Plus e high h =
    record { it = fits_by follow_sum (Added (Sign sign.Plus) operator.Plus a) (Products a) ws (Over TooDeep k) (node_deep k e high (record { it = h.it }) (record { it = behind_text operator.Plus a })).it (added_to (Sign sign.Plus) operator.Plus a (λ z. refl)) (plus_from a ws (words behind) h.it) }
operator_deep {a = a} {ws = ws} {behind = behind} k operator.Concatenation e high h =
    record { it = fits_by follow_sum (Added (Sign sign.Bars) operator.Concatenation a) (Products a) ws (Over TooDeep k) (node_deep k e high (record { it = h.it }) (record { it = behind_text operator.Concatenation a })).it (added_to (Sign sign.Bars) operator.Concatenation a (λ z. refl)) (bars_from a ws (words behind) h.it) }
operator_deep {a = a} {ws = ws} {behind = behind} k operator.Difference e high h =
    let flag = begins_with_number (words behind) in
    record { it = fits_by follow_sum (Subtracted flag a) (Products a) ws (Over TooDeep k) (node_deep k e high (record { it = h.it }) (numbered_can flag a)).it (minus_to flag a) (minus_from flag a ws (words behind) h.it) }

pub operator_stop : {a : Counted} {m : ℕ} {ws : List Word} {behind : Cursor} (e : ReadStop) (by : SumOperator) → m ≡ a.1 + 1 → a.1 < 256 → IsPlace behind → IsNextOperator ws (Some (by, behind)) → Fits follow_product (Product m) (words behind) (stopped e) → Fits follow_sum (Products a) ws (stopped e)
operator_stop {a = a} {behind = behind} e by same low place h f =
    operator_go by low place h (then_stop e (products_passed {f = λ (b : Counted). (sum_of by a.0 b.0, b.1)}) (λ b. products_can) (subst (λ (k : ℕ). Fits follow_product (Product k) (words behind) (stopped e)) same f))

pub operator_more : {a : Counted} {m k : ℕ} {ws mid : List Word} {behind : Cursor} {b t : tree.Expr Ref} {r : Reading Counted} (by : SumOperator) → m ≡ a.1 + 1 → a.1 < 256 → IsPlace behind → IsNextOperator ws (Some (by, behind)) → Fits follow_product (Product m) (words behind) (Read (b, k) mid)
    → t ≡ sum_of by a.0 b → Fits follow_sum (Products (t, k)) mid r → Fits follow_sum (Products a) ws r
operator_more {a = a} {k = k} {mid = mid} {behind = behind} {b = b} {r = r} by same low place h f value g =
    operator_go by low place h (then_go (products_passed {f = λ (b : Counted). (sum_of by a.0 b.0, b.1)}) (subst (λ (n : ℕ). Fits follow_product (Product n) (words behind) (Read (b, k) mid)) same f) (subst (λ (x : tree.Expr Ref). Fits follow_sum (Products (x, k)) mid r) value g))

pub operator_end : {a : Counted} {ws : List Word} → IsNextOperator ws None → Fits follow_sum (Products a) ws (Read a ws)
operator_end {a = a} {ws = ws} h = record { it = fits_by follow_sum (Return a) (Products a) ws (Read a ws) (fits_return follow_sum a ws) (λ s b k. no_product k.0 k.1) (λ s b back g ends same. from s b back g same) }
  where
    operator_stands : (o : SumOperator) (front : List Step) → is_sum_operator (sum_word o front) ≡ true
    operator_stands operator.Plus front = refl
    operator_stands operator.Difference front = refl
    operator_stands operator.Concatenation front = refl

    from : (s : List Step) (b : Counted) (back : List Word) → Products a s b → first (said s ++ back) ≡ first ws → Return a s b
    from s b back (no_product p q) same = (p, q)
    from s b back (other_product o front more c g m p) same = absurd (not_begun is_sum_operator (said s) back ws h.it (ap (λ (z : List Step). begins is_sum_operator (said z)) p ∙ operator_stands o front) same)
