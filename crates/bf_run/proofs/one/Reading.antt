-- A text is one script, or has one first fault.
use Rattle.std.proofs.Common.{◌≡◌, ℕ, List, Result, Ok, Err, sym, ap, subst, ◌∙◌, inl, inr, arith}
use Rattle.bf_lex.specs.declared.fault.ScriptFault.{ScriptFault}
use Rattle.bf_lex.specs.declared.token.Token.{Token}
use Rattle.bf_lex.specs.Lexing.{IsLexed}
use Rattle.bf_lex.proofs.OneLexing.{one_lexing}
use Rattle.bf_tree.specs.declared.script.Script.{Script}
use Rattle.bf_phrase.specs.Words.{words_of}
use Rattle.bf_parse.specs.Faults.{IsRead}
use Rattle.bf_parse.specs.Scripts.{ScriptRule, place_of, IsRefused, IsScriptText}
use Rattle.bf_run.proofs.one.Grammar.{one_read, read_not_stuck, read_not_over, one_stuck, stuck_not_over, one_over}

same_ok : {A E : Type 0} (a b : A) → ◌≡◌ {A = Result A E} (Ok a) (Ok b) → a ≡ b
same_ok a b e = cc

ok_is_no_err : {A E : Type 0} (a : A) (e : E) → Ok a ≡ Err e → ⊥
ok_is_no_err a e same = cc

same_err : {A E : Type 0} (a b : E) → ◌≡◌ {A = Result A E} (Err a) (Err b) → a ≡ b
same_err a b e = cc

same_fault : (f g : ScriptFault) → f.at ≡ g.at → f.kind ≡ g.kind → f ≡ g
same_fault f g ats kinds = λ i. record { at = ats i; kind = kinds i }

module _ (text : List ℕ) where
  same_tokens : (ts us : List Token) → IsLexed text (Ok ts) → IsLexed text (Ok us) → us ≡ ts
  same_tokens ts us p q = same_ok us ts (one_lexing text (Ok us) (Ok ts) q p)

  no_lexing_fault : (ts : List Token) (f : ScriptFault) → IsLexed text (Ok ts) → IsLexed text (Err f) → ⊥
  no_lexing_fault ts f p q = ok_is_no_err ts f (one_lexing text (Ok ts) (Err f) p q)

  not_refused : (ts : List Token) (s : Script) (f : ScriptFault) → IsRead ScriptRule (words_of text ts) s
      → IsRefused text ts f → ⊥
  not_refused ts s f r k = elim k.2 [
    | inl stuck ↦ read_not_stuck ScriptRule (words_of text ts) r stuck.1
    | inr over ↦ read_not_over ScriptRule (words_of text ts) r over
  ]

  one_refusal : (ts : List Token) (f g : ScriptFault) → IsRefused text ts f → IsRefused text ts g → f ≡ g
  one_refusal ts f g k l =
      let words = words_of text ts in
      let at : k.0 ≡ l.0 → f.at ≡ g.at = λ left. k.1 ∙ ap (place_of text ts) left ∙ sym l.1 in
      elim k.2 [
        | inl stuck ↦ elim l.2 [
          | inl stuck_too ↦
              same_fault f g (at (one_stuck ScriptRule words stuck.1 stuck_too.1)) (stuck.0 ∙ sym stuck_too.0)
          | inr over ↦ absurd (stuck_not_over ScriptRule words stuck.1 over)
        ]
        | inr over ↦ elim l.2 [
          | inl stuck ↦ absurd (stuck_not_over ScriptRule words stuck.1 over)
          | inr over_too ↦ let same = one_over ScriptRule words over over_too in same_fault f g (at same.0) same.1
        ]
      ]

  -- what is refused of tokens of the text is refused of others of it, since it has one list of them
  same_refusal : (ts us : List Token) (f : ScriptFault) → IsLexed text (Ok ts) → IsLexed text (Ok us)
      → IsRefused text us f → IsRefused text ts f
  same_refusal ts us f p q = subst (λ (vs : List Token). IsRefused text vs f) (same_tokens ts us p q)

  pub one_script : (s t : Script) → IsScriptText text (Ok s) → IsScriptText text (Ok t) → s ≡ t
  one_script s t p q =
      let same = same_tokens p.1 q.1 p.2 q.2 in
      let read = subst (λ (ts : List Token). IsRead ScriptRule (words_of text ts) t) same q.3 in
      one_read ScriptRule (words_of text p.1) p.3 read

  pub not_both : (s : Script) (f : ScriptFault) → IsScriptText text (Ok s) → IsScriptText text (Err f) → ⊥
  not_both s f p q = elim q [
    | inl long ↦ omega (arith, p.0, long.0)
    | inr short ↦ elim short.1 [
      | inl lexing ↦ no_lexing_fault p.1 f p.2 lexing
      | inr parsing ↦ not_refused p.1 s f p.3 (same_refusal p.1 parsing.0 f p.2 parsing.1 parsing.2)
    ]
  ]

  pub one_fault : (f g : ScriptFault) → IsScriptText text (Err f) → IsScriptText text (Err g) → f ≡ g
  one_fault f g (inl p) (inl q) = p.1 ∙ sym q.1
  one_fault f g (inl p) (inr q) = absurd (omega (arith, p.0, q.0))
  one_fault f g (inr p) (inl q) = absurd (omega (arith, p.0, q.0))
  one_fault f g (inr p) (inr q) = elim p.1 [
    | inl lexing ↦ elim q.1 [
      | inl lexing_too ↦ same_err f g (one_lexing text (Err f) (Err g) lexing lexing_too)
      | inr parsing ↦ absurd (no_lexing_fault parsing.0 f parsing.1 lexing)
    ]
    | inr parsing ↦ elim q.1 [
      | inl lexing ↦ absurd (no_lexing_fault parsing.0 g parsing.1 lexing)
      | inr other ↦ one_refusal parsing.0 f g parsing.2 (same_refusal parsing.0 other.0 g parsing.1 other.1 other.2)
    ]
  ]

pub one_reading : (text : List ℕ) (one other : Result Script ScriptFault) → IsScriptText text one
    → IsScriptText text other → one ≡ other
one_reading text (Ok s) (Ok t) p q = ap Ok (one_script text s t p q)
one_reading text (Ok s) (Err f) p q = absurd (not_both text s f p q)
one_reading text (Err f) (Ok s) p q = absurd (not_both text s f q p)
one_reading text (Err f) (Err g) p q = ap Err (one_fault text f g p q)
