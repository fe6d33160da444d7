-- What a text is, by what its tokens are.
use Rattle.std.proofs.Common.{◌≡◌, ℕ, ◌<◌, ◌≤◌, List, Result, Ok, Err, sym, ap, subst, ◌∙◌, inl, inr}
use Rattle.std.specs.Prelude.{IfOk, length, []}
use Rattle.std.specs.Result.{IsErr, IsErrAnd}
use Rattle.bf_lex.specs.declared.fault.ScriptError.{ScriptError}
use Rattle.bf_lex.specs.declared.fault.ScriptError.TheVariants.{Fault}
use Rattle.bf_lex.specs.declared.fault.ScriptFault.{ScriptFault}
use Rattle.bf_lex.specs.declared.fault.ScriptKind.{ScriptKind}
use Rattle.bf_lex.specs.declared.fault.ScriptKind.TheVariants as kind
use Rattle.bf_lex.specs.declared.token.Token.{Token}
use Rattle.bf_lex.specs.Lexing.{IsLexed}
use Rattle.bf_tree.specs.declared.script.Script.{Script}
use Rattle.bf_phrase.specs.Words.{Word, words_of}
use Rattle.bf_phrase.specs.declared.cursor.Cursor.{Cursor}
use Rattle.bf_phrase.specs.Cursors.{words}
use Rattle.bf_phrase.specs.Reading.{Reading, Read, Stuck, Over}
use Rattle.bf_parse.specs.Faults.{Answers}
use Rattle.bf_base.specs.Limits.{longest_script}
use Rattle.bf_parse.specs.Scripts.{IsScriptText, ScriptRule, place_of}

abbrev fault_at_place : ℕ → ScriptKind → ScriptFault
fault_at_place at kind = record { at = at; kind = kind }

abbrev refused : ScriptFault → Result Script ScriptError
refused fault = Err (Fault fault)

same_fault : (one other : ScriptFault) → refused one ≡ refused other → one ≡ other
same_fault one other e = cc

pub is_script : (text : List ℕ) (ts : List Token) (s : Script) → length text ≤ longest_script → IsLexed text (Ok ts) → Answers ScriptRule (words_of text ts) (Read s []) → IsScriptText text (Ok s)
is_script text ts s short lexed a = (short, ts, lexed, a.1)

pub is_stuck : (text : List ℕ) (ts : List Token) (left at : ℕ) (fault : ScriptFault) → length text ≤ longest_script → IsLexed text (Ok ts) → at ≡ place_of text ts left → Answers ScriptRule (words_of text ts) (Stuck left)
    → refused (fault_at_place at kind.Syntax) ≡ refused fault → IsScriptText text (Err fault)
is_stuck text ts left at fault short lexed place a e =
    let same = same_fault (fault_at_place at kind.Syntax) fault e in
    inr (short, inr (ts, lexed, (left, sym (ap (λ (f : ScriptFault). f.at) same) ∙ place, inl (sym (ap (λ (f : ScriptFault). f.kind) same), a))))

pub is_over : (text : List ℕ) (ts : List Token) (k : ScriptKind) (left at : ℕ) (fault : ScriptFault) → length text ≤ longest_script → IsLexed text (Ok ts) → at ≡ place_of text ts left → Answers ScriptRule (words_of text ts) (Over k left)
    → refused (fault_at_place at k) ≡ refused fault → IsScriptText text (Err fault)
is_over text ts k left at fault short lexed place a e =
    let same = same_fault (fault_at_place at k) fault e in
    let kind_is : k ≡ fault.kind = ap (λ (f : ScriptFault). f.kind) same in
    inr (short, inr (ts, lexed, (left, sym (ap (λ (f : ScriptFault). f.at) same) ∙ place, inr (rw (← kind_is) a))))

pub is_long : (text : List ℕ) (fault : ScriptFault) → longest_script < length text → refused (fault_at_place longest_script kind.ScriptTooLong) ≡ refused fault → IsScriptText text (Err fault)
is_long text fault long e = inl (long, sym (same_fault (fault_at_place longest_script kind.ScriptTooLong) fault e))

-- ---- what a `?` passes on

pub no_script : (P : Script → Type 0) (res : Result Script ScriptError) → IsErr res → IfOk res P
no_script P (Ok s) e = absurd cc
no_script P (Err x) e = tt

pub is_fault : (res : Result Script ScriptError) (e : ScriptError) (fault : ScriptFault) → IsErrAnd res (λ x. x ≡ e) → res ≡ Err (Fault fault) → e ≡ Fault fault
is_fault (Ok s) e fault h same = absurd h
is_fault (Err x) e fault h same = let d : x ≡ Fault fault = cc in sym h ∙ d

-- what a place of tokens of a text answers, the words of these tokens answer
pub answers_of : (r : Reading Script) (c : Cursor) (text : List ℕ) (ts : List Token) → c.text.now ≡ text → c.tokens.now ≡ ts → Answers ScriptRule (words c) r → Answers ScriptRule (words_of text ts) r
answers_of r c text ts e f h =
    subst (λ (ws : List Word). Answers ScriptRule ws r) (ap (λ (t : List ℕ). words_of t c.tokens.now) e ∙ ap (λ (us : List Token). words_of text us) f) h
