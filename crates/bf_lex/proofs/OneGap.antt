-- One gap stands at the front of a text, as long as possible.
use Rattle.std.proofs.Common.{◌≡◌, ℕ, true, false, not, ◌==◌, List, [], ◌∷◌, ◌++◌, length, IsTrue, refl, sym, subst, ap, ◌∙◌, append_assoc, length-append, arith}
use Rattle.std.proofs.lemmas.Bool.{and_right, both_ways, false≢true, true≢false}
use Rattle.std.proofs.lemmas.List.{append-nil}
use Rattle.bf_lex.specs.Bytes.{is_blank, is_line, line_feed, IsGap, nothing, blank, comment, IsLastGap, closed, open_comment}
use Rattle.bf_lex.specs.Lexing.{NoneStands}
use Rattle.bf_lex.specs.Reading.{begins_gap}
use Rattle.bf_lex.proofs.Firsts.{some_bytes}
use Rattle.bf_lex.proofs.Gaps.{no_gap}
use Rattle.bf_lex.proofs.OneLexeme.{one_longest, lexeme_no_gap}

-- no gap that ends stands at the front
pub record NoGap (text : List ℕ) : Type 0 where
  pub none : (gap behind : List ℕ) → text ≡ gap ++ behind → IsGap gap → gap ≡ []

-- a line that a line feed ends, and what stands behind it
one_line : (a b x y : List ℕ) → (a ++ line_feed ∷ x) ≡ (b ++ line_feed ∷ y) → IsTrue (is_line a) → IsTrue (is_line b) → (a ≡ b) × (x ≡ y)
one_line a b x y e is others =
    let same = one_longest (λ byte. not (byte == line_feed)) a b (line_feed ∷ x) (line_feed ∷ y) e is others refl refl in
    let feed = same.1 in
    (same.0, cc)

pub one_gap : {g h : List ℕ} → IsGap g → IsGap h → (x y : List ℕ) → g ++ x ≡ h ++ y → NoGap x → NoGap y → (g ≡ h) × (x ≡ y)
one_gap {h = h} nothing k x y e no_x no_y =
    let none : h ≡ [] = no_x.none h y e k in
    (sym none, e ∙ ap (λ (bs : List ℕ). bs ++ y) none)
one_gap (blank {rest = g} byte is k) nothing x y e no_x no_y =
    let none : byte ∷ g ≡ [] = no_y.none (byte ∷ g) x (sym e) (blank byte is k) in
    absurd cc
one_gap (blank {rest = g} byte is k) (blank {rest = h} other are l) x y e no_x no_y =
    let first : byte ≡ other = cc in
    let behind : g ++ x ≡ h ++ y = cc in
    let rest = one_gap k l x y behind no_x no_y in
    (ap (λ (b : ℕ). b ∷ g) first ∙ ap (λ (bs : List ℕ). other ∷ bs) rest.0, rest.1)
one_gap (blank byte is k) (comment line are l) x y e no_x no_y =
    let dash : byte ≡ 45 = cc in
    let blank_dash : is_blank 45 ≡ true = subst (λ (b : ℕ). is_blank b ≡ true) dash is in
    absurd (false≢true blank_dash)
one_gap (comment {rest = g} line is k) nothing x y e no_x no_y =
    let none : 45 ∷ 45 ∷ (line ++ line_feed ∷ g) ≡ [] = no_y.none (45 ∷ 45 ∷ (line ++ line_feed ∷ g)) x (sym e) (comment line is k) in
    absurd cc
one_gap (comment line is k) (blank byte are l) x y e no_x no_y =
    let dash : byte ≡ 45 = cc in
    let blank_dash : is_blank 45 ≡ true = subst (λ (b : ℕ). is_blank b ≡ true) dash are in
    absurd (false≢true blank_dash)
one_gap (comment {rest = g} line is k) (comment {rest = h} other are l) x y e no_x no_y =
    let inner : (line ++ line_feed ∷ g) ++ x ≡ (other ++ line_feed ∷ h) ++ y = cc in
    let regrouped = sym (append_assoc line (line_feed ∷ g) x) ∙ inner ∙ append_assoc other (line_feed ∷ h) y in
    let lines = one_line line other (g ++ x) (h ++ y) regrouped is are in
    let rest = one_gap k l x y lines.1 no_x no_y in
    (ap (λ (bs : List ℕ). 45 ∷ 45 ∷ (bs ++ line_feed ∷ g)) lines.0 ∙ ap (λ (bs : List ℕ). 45 ∷ 45 ∷ (other ++ line_feed ∷ bs)) rest.0, rest.1)

pub none_begins : (text : List ℕ) → begins_gap text ≡ false → NoGap text
none_begins text e = record { none = no_gap text e }

no_feed : (line rest : List ℕ) → is_line (line ++ line_feed ∷ rest) ≡ false
no_feed [] rest = refl
no_feed (b ∷ bs) rest = and_right _ _ (no_feed bs rest)

open_line : (line gap behind : List ℕ) → IsTrue (is_line line) → 45 ∷ 45 ∷ line ≡ gap ++ behind → IsGap gap → gap ≡ []
open_line line gap behind is e nothing = refl
open_line line gap behind is e (blank byte are k) =
    let dash : byte ≡ 45 = cc in
    let blank_dash : is_blank 45 ≡ true = subst (λ (b : ℕ). is_blank b ≡ true) dash are in
    absurd (false≢true blank_dash)
open_line line gap behind is e (comment {rest = g} other are k) =
    let inner : line ≡ (other ++ line_feed ∷ g) ++ behind = cc in
    let no_line : is_line line ≡ false = ap is_line (inner ∙ append_assoc other (line_feed ∷ g) behind) ∙ no_feed other (g ++ behind) in
    absurd (both_ways (is_line line) no_line is)

-- what a last gap is: a gap, and nothing or an open comment
pub record Ending (text : List ℕ) : Type 0 where
  pub gap : List ℕ
  pub rest : List ℕ
  pub split : text ≡ gap ++ rest
  pub is_gap : IsGap gap
  pub no_gap : NoGap rest
  pub none_stands : NoneStands rest
  pub last : IsLastGap rest

nothing_stands : NoneStands []
nothing_stands l bytes behind e s =
    let some = some_bytes l bytes behind s in
    absurd (omega (arith, ap length e, length-append bytes behind))

no_comment_stands : (line : List ℕ) → NoneStands (45 ∷ 45 ∷ line)
no_comment_stands line l bytes behind e s = true≢false (ap begins_gap e ∙ lexeme_no_gap l bytes behind s)

pub ending : {text : List ℕ} → IsLastGap text → Ending text
ending (closed {gap = gap} k) = record {
  gap = gap;
  rest = [];
  split = sym (append-nil gap);
  is_gap = k;
  no_gap = none_begins [] refl;
  none_stands = nothing_stands;
  last = closed nothing;
}
ending (open_comment {gap = gap} line is k) = record {
  gap = gap;
  rest = 45 ∷ 45 ∷ line;
  split = refl;
  is_gap = k;
  no_gap = record { none = λ g behind e l. open_line line g behind is e l };
  none_stands = no_comment_stands line;
  last = open_comment line is nothing;
}
