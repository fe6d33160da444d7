-- The content of a quoted text, read byte after byte.
use Rattle.std.proofs.Common.{◌≡◌, ◌≢◌, ℕ, ◌+◌, ◌<◌, ◌≤◌, List, [], ◌∷◌, ◌++◌, length, take, drop, get_or, set, flat_map, refl, sym, subst, ap, ◌∙◌, inl, inr, arith, append_assoc, length-append, length-set}
use Rattle.std.proofs.lemmas.Bool.{cases_eq}
use Rattle.std.proofs.lemmas.List.{append-nil, length-take-le, take_more_set}
use Rattle.bf_base.specs.Texts.{IsText}
use Rattle.bf_lex.specs.Lexemes.{doubled, quoted}
use Rattle.bf_lex.proofs.Quotes.{length-doubled, plain}

-- so many bytes of the content are in a buffer, and this is left
pub record Copied (bytes buffer rest : List ℕ) (count : ℕ) : Type 0 where
  pub left : List ℕ
  pub whole : bytes ≡ quoted (take count buffer ++ left)
  pub is_text : IsText (take count buffer ++ left)
  pub rest_is : rest ≡ flat_map doubled left
  pub size : length buffer ≡ 255
  pub inside : count ≤ 255

-- the next byte of the content, and the others
record Split (left rest : List ℕ) : Type 0 where
  byte : ℕ
  others : List ℕ
  left_is : left ≡ byte ∷ others
  rest_is : rest ≡ doubled byte ++ flat_map doubled others

split : (left rest : List ℕ) → rest ≡ flat_map doubled left → 0 < length rest → Split left rest
split [] rest e some = absurd (omega (arith, ap length e))
split (b ∷ bs) rest e some = record { byte = b; others = bs; left_is = refl; rest_is = e }

first_doubled : (b : ℕ) (more : List ℕ) → get_or (doubled b ++ more) 0 0 ≡ b
first_doubled b more = elim (cases_eq b 39) [
  | inl at_quote ↦ rw at_quote refl
  | inr other ↦ rw (plain b other) refl
]

first_is : (left rest : List ℕ) (s : Split left rest) → get_or rest 0 0 ≡ s.byte
first_is left rest s = rw s.rest_is (first_doubled s.byte (flat_map doubled s.others))

copied_more : (bytes buffer rest behind : List ℕ) (count : ℕ) (k : Copied bytes buffer rest count) (s : Split k.left rest) → behind ≡ flat_map doubled s.others
    → Copied bytes (set buffer count (get_or rest 0 0)) behind (count + 1)
copied_more bytes buffer rest behind count k s behind_is =
    let counted : length (take count buffer) ≡ count = length-take-le count buffer (omega (arith, k.size, k.inside)) in
    let old_is : IsText (take count buffer ++ s.byte ∷ s.others) = subst (λ (bs : List ℕ). IsText (take count buffer ++ bs)) s.left_is k.is_text in
    let room : count < 255 = omega (arith, old_is.short, counted, length-append (take count buffer) (s.byte ∷ s.others)) in
    let new : List ℕ = set buffer count (get_or rest 0 0) in
    let copied : take (count + 1) new ≡ take count buffer ++ s.byte ∷ [] =
    take_more_set buffer count (get_or rest 0 0) (omega (arith, k.size, room)) ∙ ap (λ (b : ℕ). take count buffer ++ b ∷ []) (first_is k.left rest s) in
    let content : take (count + 1) new ++ s.others ≡ take count buffer ++ k.left =
    ap (λ (bs : List ℕ). bs ++ s.others) copied ∙ append_assoc (take count buffer) (s.byte ∷ []) s.others ∙ ap (λ (bs : List ℕ). take count buffer ++ bs) (sym s.left_is) in
    record {
      left = s.others;
      whole = k.whole ∙ ap quoted (sym content);
      is_text = subst IsText (sym content) k.is_text;
      rest_is = behind_is;
      size = length-set buffer count (get_or rest 0 0) ∙ k.size;
      inside = omega (arith, room);
    }

pub copied_plain : (bytes buffer rest : List ℕ) (count : ℕ) → Copied bytes buffer rest count → 0 < length rest → get_or rest 0 0 ≢ 39
    → Copied bytes (set buffer count (get_or rest 0 0)) (drop 1 rest) (count + 1)
copied_plain bytes buffer rest count k some other =
    let s = split k.left rest k.rest_is some in
    let unquoted : s.byte ≢ 39 = λ e. other (first_is k.left rest s ∙ e) in
    copied_more bytes buffer rest (drop 1 rest) count k s (ap (drop 1) s.rest_is ∙ rw (plain s.byte unquoted) refl)

doubled_quote : (left rest : List ℕ) (s : Split left rest) → get_or rest 0 0 ≡ 39 → rest ≡ 39 ∷ 39 ∷ flat_map doubled s.others
doubled_quote left rest s e =
    let at_quote : s.byte ≡ 39 = sym (first_is left rest s) ∙ e in
    s.rest_is ∙ rw at_quote refl

pub copied_quote : (bytes buffer rest : List ℕ) (count : ℕ) → Copied bytes buffer rest count → 0 < length rest → get_or rest 0 0 ≡ 39
    → Copied bytes (set buffer count (get_or rest 0 0)) (drop 2 rest) (count + 1)
copied_quote bytes buffer rest count k some at_quote =
    let s = split k.left rest k.rest_is some in
    copied_more bytes buffer rest (drop 2 rest) count k s (ap (drop 2) (doubled_quote k.left rest s at_quote))

pub quote_is_double : (bytes buffer rest : List ℕ) (count : ℕ) → Copied bytes buffer rest count → 0 < length rest → get_or rest 0 0 ≡ 39 → 2 ≤ length rest
quote_is_double bytes buffer rest count k some at_quote =
    let s = split k.left rest k.rest_is some in
    omega (arith, ap length (doubled_quote k.left rest s at_quote))

none_left : (left rest : List ℕ) → rest ≡ flat_map doubled left → length rest < 1 → left ≡ []
none_left [] rest e none = refl
none_left (b ∷ bs) rest e none = absurd (omega (arith, ap length e, length-append (doubled b) (flat_map doubled bs), length-doubled b))

pub all_copied : (bytes buffer rest : List ℕ) (count : ℕ) → Copied bytes buffer rest count → length rest < 1 → IsText (take count buffer)
all_copied bytes buffer rest count k none =
    let whole : take count buffer ++ k.left ≡ take count buffer = ap (λ (bs : List ℕ). take count buffer ++ bs) (none_left k.left rest k.rest_is none) ∙ append-nil (take count buffer) in
    subst IsText whole k.is_text
