-- A text has one list of tokens, or one first fault.
use Rattle.std.proofs.Common.{◌≡◌, ℕ, ◌+◌, List, [], ◌∷◌, ◌++◌, length, Result, Ok, Err, refl, sym, subst, ap, ◌∙◌, inl, inr}
use Rattle.bf_lex.specs.declared.fault.ScriptFault.{ScriptFault}
use Rattle.bf_lex.specs.declared.fault.ScriptKind.{ScriptKind}
use Rattle.bf_lex.specs.declared.token.Token.{Token}
use Rattle.bf_lex.specs.declared.token.TokenKind.{TokenKind}
use Rattle.bf_lex.specs.Bytes.{IsGap, IsLastGap}
use Rattle.bf_lex.specs.Lexemes.{Lexeme, Misfit, StandsIn, token_of}
use Rattle.bf_lex.specs.Lexing.{IsNext, Front, IsWrong, IsFirstFault, IsAllTokens, IsLexed}
use Rattle.bf_lex.specs.Reading.{begins_gap}
use Rattle.bf_lex.proofs.OneGap.{NoGap, none_begins, one_gap, ending}
use Rattle.bf_lex.proofs.OneLexeme.{one_lexeme, lexeme_no_gap}

ok_is_no_err : {A E : Type 0} (a : A) (e : E) → Ok a ≡ Err e → ⊥
ok_is_no_err a e p = cc

same_ok : {A E : Type 0} (a b : A) → ◌≡◌ {A = Result A E} (Ok a) (Ok b) → a ≡ b
same_ok a b p = cc

same_misfit : (k l : ScriptKind) (m n : ℕ) → ◌≡◌ {A = Result TokenKind Misfit} (Err (k, m)) (Err (l, n)) → (k ≡ l) × (m ≡ n)
same_misfit k l m n p =
    let pair : ◌≡◌ {A = Misfit} (k, m) (l, n) = cc in
    (ap (λ (q : Misfit). q.0) pair, ap (λ (q : Misfit). q.1) pair)

-- what stands behind a gap, of which no longer one is a front
lexeme_behind : (l : Lexeme) (text bytes behind : List ℕ) → text ≡ bytes ++ behind → StandsIn l bytes behind → NoGap text
lexeme_behind l text bytes behind e s = none_begins text (ap begins_gap e ∙ lexeme_no_gap l bytes behind s)

same_token : (t u : Token) → t.kind ≡ u.kind → t.at ≡ u.at → t.end ≡ u.end → t ≡ u
same_token t u kinds ats ends = λ i. record { kind = kinds i; at = ats i; end = ends i }

same_fault : (f g : ScriptFault) → f.at ≡ g.at → f.kind ≡ g.kind → f ≡ g
same_fault f g ats kinds = λ i. record { at = ats i; kind = kinds i }

record SameNext (t u : Token) (x y : List ℕ) : Type 0 where
  token : t ≡ u
  behind : x ≡ y

one_next : (at : ℕ) (text : List ℕ) (t u : Token) (x y : List ℕ) → IsNext at text t x → IsNext at text u y → SameNext t u x y
one_next at text t u x y n m =
    let gaps = one_gap n.is_gap m.is_gap (n.bytes ++ x) (m.bytes ++ y) (sym n.split ∙ m.split)
    (lexeme_behind n.lexeme (n.bytes ++ x) n.bytes x refl n.stands) (lexeme_behind m.lexeme (m.bytes ++ y) m.bytes y refl m.stands) in
    let same = one_lexeme n.lexeme m.lexeme n.bytes m.bytes x y n.stands m.stands gaps.1 in
    let tokens : token_of n.lexeme n.bytes ≡ token_of m.lexeme m.bytes = λ i. token_of (same.lexeme i) (same.bytes i) in
    let kinds : t.kind ≡ u.kind = same_ok t.kind u.kind (sym n.is_token ∙ tokens ∙ m.is_token) in
    let ats : t.at ≡ u.at = n.begins_at ∙ ap (λ (g : List ℕ). at + length g) gaps.0 ∙ sym m.begins_at in
    let ends : t.end ≡ u.end = n.ends_at ∙ (λ i. ats i + length (same.bytes i)) ∙ sym m.ends_at in
    record { token = same_token t u kinds ats ends; behind = same.behind }

-- behind a gap, no token stands at the front
record Ended (text : List ℕ) : Type 0 where
  gap : List ℕ
  rest : List ℕ
  split : text ≡ gap ++ rest
  is_gap : IsGap gap
  no_gap : NoGap rest
  no_token : (l : Lexeme) (bytes behind : List ℕ) (kind : TokenKind) → rest ≡ bytes ++ behind → StandsIn l bytes behind → token_of l bytes ≡ Ok kind → ⊥

ended_last : {text : List ℕ} → IsLastGap text → Ended text
ended_last k =
    let e = ending k in
    record { gap = e.gap; rest = e.rest; split = e.split; is_gap = e.is_gap; no_gap = e.no_gap; no_token = λ l bytes behind kind p s is. e.none_stands l bytes behind p s }

wrong_no_gap : (text : List ℕ) (kind : ScriptKind) (offset : ℕ) → IsWrong text kind offset → NoGap text
wrong_no_gap text kind offset w = elim w [
  | inl m ↦ lexeme_behind m.lexeme text m.bytes m.behind m.split m.stands
  | inr s ↦ record { none = s.0.no_gap }
]

wrong_no_token : (text : List ℕ) (kind : ScriptKind) (offset : ℕ) → IsWrong text kind offset
    → (l : Lexeme) (bytes behind : List ℕ) (token : TokenKind) → text ≡ bytes ++ behind → StandsIn l bytes behind → token_of l bytes ≡ Ok token → ⊥
wrong_no_token text kind offset w l bytes behind token e s is = elim w [
  | inl m ↦
      let same = one_lexeme l m.lexeme bytes m.bytes behind m.behind s m.stands (sym e ∙ m.split) in
      let tokens : token_of l bytes ≡ token_of m.lexeme m.bytes = λ i. token_of (same.lexeme i) (same.bytes i) in
      ok_is_no_err token (kind, offset) (sym is ∙ tokens ∙ m.no_token)
  | inr stray ↦ stray.0.none_stands l bytes behind e s
]

ended_wrong : (text : List ℕ) (fault : ScriptFault) → (f : IsFirstFault text fault) → Ended f.rest
ended_wrong text fault f = record {
  gap = f.gap;
  rest = f.wrong;
  split = f.split;
  is_gap = f.is_gap;
  no_gap = wrong_no_gap f.wrong fault.kind f.offset f.is_wrong;
  no_token = wrong_no_token f.wrong fault.kind f.offset f.is_wrong;
}

stops : (at : ℕ) (text : List ℕ) (t : Token) (behind : List ℕ) → Ended text → IsNext at text t behind → ⊥
stops at text t behind e n =
    let gaps = one_gap e.is_gap n.is_gap e.rest (n.bytes ++ behind) (sym e.split ∙ n.split) e.no_gap (lexeme_behind n.lexeme (n.bytes ++ behind) n.bytes behind refl n.stands) in
    e.no_token n.lexeme n.bytes behind t.kind gaps.1 n.stands n.is_token

record SameFront (ts us : List Token) (place spot : ℕ) (x y : List ℕ) : Type 0 where
  tokens : ts ≡ us
  place_is : place ≡ spot
  rest : x ≡ y

one_front : (at : ℕ) (text : List ℕ) (ts us : List Token) (place spot : ℕ) (x y : List ℕ) → Front at text ts place x → Front at text us spot y → Ended x → Ended y
    → SameFront ts us place spot x y
one_front at text [] [] place spot x y f g e d = record { tokens = refl; place_is = f.0 ∙ sym g.0; rest = f.1 ∙ sym g.1 }
one_front at text [] (u ∷ us) place spot x y f g e d = absurd (stops at text u g.0 (subst Ended f.1 e) g.1)
one_front at text (t ∷ ts) [] place spot x y f g e d = absurd (stops at text t f.0 (subst Ended g.1 d) f.1)
one_front at text (t ∷ ts) (u ∷ us) place spot x y f g e d =
    let same = one_next at text t u f.0 g.0 f.1 g.1 in
    let moved : Front t.end f.0 us spot y = subst (λ (v : Token). Front v.end f.0 us spot y) (sym same.token) (subst (λ (bs : List ℕ). Front u.end bs us spot y) (sym same.behind) g.2) in
    let rest = one_front t.end f.0 ts us place spot x y f.2 moved e d in
    record { tokens = λ i. same.token i ∷ rest.tokens i; place_is = rest.place_is; rest = rest.rest }

-- one thing is wrong at a front
same_wrong : (text : List ℕ) (k l : ScriptKind) (m n : ℕ) → IsWrong text k m → IsWrong text l n → (k ≡ l) × (m ≡ n)
same_wrong text k l m n (inl p) (inl q) =
    let same = one_lexeme p.lexeme q.lexeme p.bytes q.bytes p.behind q.behind p.stands q.stands (sym p.split ∙ q.split) in
    let tokens : token_of p.lexeme p.bytes ≡ token_of q.lexeme q.bytes = λ i. token_of (same.lexeme i) (same.bytes i) in
    same_misfit k l m n (sym p.no_token ∙ tokens ∙ q.no_token)
same_wrong text k l m n (inl p) (inr q) = absurd (q.0.none_stands p.lexeme p.bytes p.behind p.split p.stands)
same_wrong text k l m n (inr p) (inl q) = absurd (p.0.none_stands q.lexeme q.bytes q.behind q.split q.stands)
same_wrong text k l m n (inr p) (inr q) = (p.2 ∙ sym q.2, p.1 ∙ sym q.1)

-- nothing is wrong in a last gap
last_is_right : (text gap wrong : List ℕ) (kind : ScriptKind) (offset : ℕ) → IsLastGap text → text ≡ gap ++ wrong → IsGap gap → IsWrong wrong kind offset → ⊥
last_is_right text gap wrong kind offset k split is w =
    let e = ending k in
    let gaps = one_gap e.is_gap is e.rest wrong (sym e.split ∙ split) e.no_gap (wrong_no_gap wrong kind offset w) in
    elim w [
      | inl m ↦ e.none_stands m.lexeme m.bytes m.behind (gaps.1 ∙ m.split) m.stands
      | inr s ↦ s.0.no_last_gap (subst IsLastGap gaps.1 e.last)
    ]

no_fault : (text : List ℕ) (ts : List Token) (fault : ScriptFault) → IsAllTokens text ts → IsFirstFault text fault → ⊥
no_fault text ts fault a f =
    let same = one_front 0 text ts f.before a.place f.place a.rest f.rest a.front f.front (ended_last a.last_gap) (ended_wrong text fault f) in
    last_is_right a.rest f.gap f.wrong fault.kind f.offset a.last_gap (same.rest ∙ f.split) f.is_gap f.is_wrong

one_fault : (text : List ℕ) (one other : ScriptFault) → IsFirstFault text one → IsFirstFault text other → one ≡ other
one_fault text one other f g =
    let same = one_front 0 text f.before g.before f.place g.place f.rest g.rest f.front g.front (ended_wrong text one f) (ended_wrong text other g) in
    let gaps = one_gap f.is_gap g.is_gap f.wrong g.wrong (sym f.split ∙ same.rest ∙ g.split)
    (wrong_no_gap f.wrong one.kind f.offset f.is_wrong) (wrong_no_gap g.wrong other.kind g.offset g.is_wrong) in
    let there : IsWrong f.wrong other.kind g.offset = subst (λ (bs : List ℕ). IsWrong bs other.kind g.offset) (sym gaps.1) g.is_wrong in
    let wrong = same_wrong f.wrong one.kind other.kind f.offset g.offset f.is_wrong there in
    let ats : one.at ≡ other.at = f.at ∙ (λ i. same.place_is i + length (gaps.0 i) + wrong.1 i) ∙ sym g.at in
    same_fault one other ats wrong.0

pub one_lexing : (text : List ℕ) (one other : Result (List Token) ScriptFault) → IsLexed text one → IsLexed text other → one ≡ other
one_lexing text (Ok ts) (Ok us) p q =
    ap Ok (one_front 0 text ts us p.place q.place p.rest q.rest p.front q.front (ended_last p.last_gap) (ended_last q.last_gap)).tokens
one_lexing text (Ok ts) (Err f) p q = absurd (no_fault text ts f p q)
one_lexing text (Err f) (Ok ts) p q = absurd (no_fault text ts f q p)
one_lexing text (Err f) (Err g) p q = ap Err (one_fault text f g p q)
