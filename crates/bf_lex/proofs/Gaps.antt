-- Gaps.
use Rattle.std.proofs.Common.{◌≡◌, ℕ, ◌<◌, length, get_or, drop, arith, true, false, List, [], ◌∷◌, ◌++◌, IsTrue, refl, sym, subst, ap, ◌∙◌, append_assoc}
use Rattle.std.proofs.lemmas.Bool.{both_ways, or_parts, true≢false}
use Rattle.std.proofs.lemmas.List.{append-nil, nil_from_length}
use Rattle.bf_lex.specs.Bytes.{is_blank, is_line, line_feed, IsGap, nothing, blank, comment, IsLastGap, closed, open_comment}
use Rattle.bf_lex.specs.Reading.{begins_gap, EndsLine}

pub gap-append : {g h : List ℕ} → IsGap g → IsGap h → IsGap (g ++ h)
gap-append nothing k = k
gap-append (blank byte is rest) k = blank byte is (gap-append rest k)
gap-append {h = h} (comment {rest = rest} line is g) k =
    subst (λ (bytes : List ℕ). IsGap (45 ∷ 45 ∷ bytes)) (sym (append_assoc line (line_feed ∷ rest) h)) (comment line is (gap-append g k))

-- a gap has been passed, and this is left
pub record Passed (text rest : List ℕ) : Type 0 where
  pub gap : List ℕ
  pub split : text ≡ gap ++ rest
  pub is_gap : IsGap gap

pub passed_nothing : (text : List ℕ) → Passed text text
passed_nothing text = record { gap = []; split = refl; is_gap = nothing }

pub passed_blank : (text : List ℕ) (byte : ℕ) (rest : List ℕ) → Passed text (byte ∷ rest) → IsTrue (is_blank byte) → Passed text rest
passed_blank text byte rest p is = record {
  gap = p.gap ++ byte ∷ [];
  split = p.split ∙ sym (append_assoc p.gap (byte ∷ []) rest);
  is_gap = gap-append p.is_gap (blank byte is nothing);
}

pub passed_comment : (text line behind : List ℕ) → Passed text (45 ∷ 45 ∷ line) → EndsLine line behind → Passed text behind
passed_comment text line behind p e =
    let comment_bytes : List ℕ = 45 ∷ 45 ∷ (e.line ++ line_feed ∷ []) in
    let shape : 45 ∷ 45 ∷ line ≡ comment_bytes ++ behind = ap (λ (bs : List ℕ). 45 ∷ 45 ∷ bs) (e.split ∙ sym (append_assoc e.line (line_feed ∷ []) behind)) in
    record {
      gap = p.gap ++ comment_bytes;
      split = p.split ∙ ap (λ (bs : List ℕ). p.gap ++ bs) shape ∙ sym (append_assoc p.gap comment_bytes behind);
      is_gap = gap-append p.is_gap (comment e.line e.is_line nothing);
    }

pub passed_all : (text : List ℕ) → Passed text [] → IsLastGap text
passed_all text p = closed (subst IsGap (sym (p.split ∙ append-nil p.gap)) p.is_gap)

pub passed_open : (text line : List ℕ) → Passed text (45 ∷ 45 ∷ line) → IsTrue (is_line line) → IsLastGap text
passed_open text line p is = subst IsLastGap (sym p.split) (open_comment line is p.is_gap)

-- the first bytes of a text
pub first_byte : (text : List ℕ) → 0 < length text → text ≡ get_or text 0 0 ∷ drop 1 text
first_byte [] h = absurd (omega arith)
first_byte (b ∷ bs) h = refl

pub first_two : (text : List ℕ) → 1 < length text → text ≡ get_or text 0 0 ∷ get_or text 1 0 ∷ drop 2 text
first_two [] h = absurd (omega arith)
first_two (b ∷ []) h = absurd (omega arith)
first_two (b ∷ c ∷ bs) h = refl

two_dashes : (text : List ℕ) → 1 < length text → get_or text 0 0 ≡ 45 → get_or text 1 0 ≡ 45 → text ≡ 45 ∷ 45 ∷ drop 2 text
two_dashes text h first second = first_two text h ∙ ap (λ (b : ℕ). b ∷ get_or text 1 0 ∷ drop 2 text) first ∙ ap (λ (b : ℕ). 45 ∷ b ∷ drop 2 text) second

pub passes_blank : (text rest : List ℕ) → Passed text rest → 0 < length rest → is_blank (get_or rest 0 0) ≡ true → Passed text (drop 1 rest)
passes_blank text rest p h is = passed_blank text (get_or rest 0 0) (drop 1 rest) (subst (Passed text) (first_byte rest h) p) is

pub passes_comment : (text rest behind : List ℕ) → Passed text rest → 1 < length rest → get_or rest 0 0 ≡ 45 → get_or rest 1 0 ≡ 45 → EndsLine (drop 2 rest) behind → Passed text behind
passes_comment text rest behind p h first second e = passed_comment text (drop 2 rest) behind (subst (Passed text) (two_dashes rest h first second) p) e

pub all_passed : (text rest : List ℕ) → Passed text rest → length rest ≡ 0 → IsLastGap text
all_passed text rest p h = passed_all text (subst (Passed text) (nil_from_length rest h) p)

pub ends_in_comment : (text rest : List ℕ) → Passed text rest → 1 < length rest → get_or rest 0 0 ≡ 45 → get_or rest 1 0 ≡ 45 → IsTrue (is_line (drop 2 rest)) → IsLastGap text
ends_in_comment text rest p h first second is = passed_open text (drop 2 rest) (subst (Passed text) (two_dashes rest h first second) p) is

-- a gap that is no part of a longer one is nothing
pub gap_begins : {g : List ℕ} → IsGap g → (rest : List ℕ) → begins_gap (g ++ rest) ≡ false → g ≡ []
gap_begins nothing rest e = refl
gap_begins (blank byte is k) rest e = absurd (both_ways (is_blank byte) (or_parts _ _ e).0 is)
gap_begins (comment line is k) rest e = absurd (true≢false e)

last_gap_begins : {g : List ℕ} → IsLastGap g → begins_gap g ≡ false → g ≡ []
last_gap_begins (closed {gap = gap} k) e = gap_begins k [] (ap begins_gap (append-nil gap) ∙ e)
last_gap_begins (open_comment {gap = gap} line is k) e =
    let none : gap ≡ [] = gap_begins k (45 ∷ 45 ∷ line) e in
    let shown : begins_gap ([] ++ 45 ∷ 45 ∷ line) ≡ false = subst (λ (g : List ℕ). begins_gap (g ++ 45 ∷ 45 ∷ line) ≡ false) none e in
    absurd (true≢false shown)

pub no_gap : (text : List ℕ) → begins_gap text ≡ false → (gap behind : List ℕ) → text ≡ gap ++ behind → IsGap gap → gap ≡ []
no_gap text e gap behind split k = gap_begins k behind (ap begins_gap (sym split) ∙ e)

pub no_last_gap : (text : List ℕ) → 0 < length text → begins_gap text ≡ false → IsLastGap text → ⊥
no_last_gap text some e k = let none = ap length (last_gap_begins k e) in omega arith
