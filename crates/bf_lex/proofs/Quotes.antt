-- Quoted texts.
use Rattle.std.proofs.Common.{◌≡◌, ◌≢◌, ℕ, ◌+◌, ◌-◌, ◌<◌, ◌≤◌, true, false, if◌then◌else◌, List, [], ◌∷◌, ◌++◌, length, take, drop, get_or, flat_map, refl, sym, subst, ap, ◌∙◌, inl, inr, arith, append_assoc, length-append}
use Rattle.std.proofs.lemmas.Bool.{cases_eq, eqb-true, ne_eqb, true≢false}
use Rattle.std.proofs.lemmas.List.{take_at, drop_at, flat_map_more, length_push}
use Rattle.bf_lex.specs.Bytes.{quote, is_quote, begins}
use Rattle.bf_lex.specs.Lexemes.{doubled, quoted}
use Rattle.bf_lex.specs.Reading.{IsClosed, IsOpen}
use Rattle.bf_lex.proofs.Gaps.{first_byte, first_two}

-- so many bytes of content have been read, and this is left
pub record Written (text rest : List ℕ) (count : ℕ) : Type 0 where
  pub content : List ℕ
  pub split : text ≡ flat_map doubled content ++ rest
  pub counted : count ≡ length content
  pub room : count + length rest ≤ length text

-- a byte takes one byte or two
pub length-doubled : (byte : ℕ) → 1 ≤ length (doubled byte)
length-doubled byte = elim (is_quote byte) as (λ b. 1 ≤ length (if b then quote ∷ quote ∷ [] else byte ∷ [])) [ true ↦ omega arith | false ↦ omega arith ]

one_more : (text : List ℕ) (byte : ℕ) (rest behind : List ℕ) (count : ℕ) → Written text rest count → rest ≡ doubled byte ++ behind → Written text behind (count + 1)
one_more text byte rest behind count w e =
    let longer : length rest ≡ length (doubled byte) + length behind = ap length e ∙ length-append (doubled byte) behind in
    record {
      content = w.content ++ byte ∷ [];
      split = w.split ∙ ap (λ (bs : List ℕ). flat_map doubled w.content ++ bs) e ∙ sym (append_assoc (flat_map doubled w.content) (doubled byte) behind)
          ∙ ap (λ (bs : List ℕ). bs ++ behind) (flat_map_more doubled [] w.content byte);
      counted = ap (λ (n : ℕ). n + 1) w.counted ∙ sym (length_push w.content byte);
      room = omega (arith, longer, length-doubled byte, w.room);
    }

pub another_byte : (text rest : List ℕ) (count : ℕ) → Written text rest count → 0 < length rest → get_or rest 0 0 ≢ 39 → Written text (drop 1 rest) (count + 1)
another_byte text rest count w some other =
    let no_quote : is_quote (get_or rest 0 0) ≡ false = ne_eqb (get_or rest 0 0) 39 other in
    one_more text (get_or rest 0 0) rest (drop 1 rest) count w (first_byte rest some ∙ rw no_quote refl)

pub another_quote : (text rest : List ℕ) (count : ℕ) → Written text rest count → 1 < length rest → get_or rest 0 0 ≡ 39 → get_or rest 1 0 ≡ 39 → Written text (drop 2 rest) (count + 1)
another_quote text rest count w some first second =
    one_more text 39 rest (drop 2 rest) count w (first_two rest some ∙ rw (first, second) refl)

pub closes : (text rest : List ℕ) (count : ℕ) → Written text rest count → 0 < length rest → get_or rest 0 0 ≡ 39 → begins is_quote (drop 1 rest) ≡ false
    → IsClosed text (length text - length (drop 1 rest)) count
closes text rest count w some first ends =
    let front : List ℕ = flat_map doubled w.content ++ quote ∷ [] in
    let split : text ≡ front ++ drop 1 rest = w.split ∙ ap (λ (bs : List ℕ). flat_map doubled w.content ++ bs) (first_byte rest some ∙ ap (λ (b : ℕ). b ∷ drop 1 rest) first)
    ∙ sym (append_assoc (flat_map doubled w.content) (quote ∷ []) (drop 1 rest)) in
    let whole : length text ≡ length front + length (drop 1 rest) = ap length split ∙ length-append front (drop 1 rest) in
    let size : length front ≡ length text - length (drop 1 rest) = omega arith in
    record {
      content = w.content;
      counted = w.counted;
      inside = omega arith;
      closed = ap (take (length text - length (drop 1 rest))) split ∙ take_at front (drop 1 rest) (length text - length (drop 1 rest)) size;
      ends = subst (λ (bs : List ℕ). begins is_quote bs ≡ false) (sym (ap (drop (length text - length (drop 1 rest))) split ∙ drop_at front (drop 1 rest) (length text - length (drop 1 rest)) size)) ends;
    }

pub second_quote : (text : List ℕ) → begins is_quote (drop 1 text) ≡ true → (1 < length text) × (get_or text 1 0 ≡ 39)
second_quote [] e = absurd cc
second_quote (b ∷ []) e = absurd cc
second_quote (b ∷ c ∷ bs) e = (omega arith, eqb-true c 39 e)

-- doubled bytes can be told apart
pub plain : (b : ℕ) → b ≢ 39 → doubled b ≡ b ∷ []
plain b other = rw (ne_eqb b 39 other) refl

same_doubled : (b d : ℕ) (x y : List ℕ) → doubled b ++ x ≡ doubled d ++ y → (b ≡ d) × (x ≡ y)
same_doubled b d x y e = elim (cases_eq b 39) [
  | inl at_quote ↦ elim (cases_eq d 39) [
    | inl other_quote ↦ let same : 39 ∷ 39 ∷ x ≡ 39 ∷ 39 ∷ y = rw (at_quote, other_quote) at e in (at_quote ∙ sym other_quote, cc)
    | inr other ↦ let apart : 39 ∷ 39 ∷ x ≡ d ∷ y = rw (at_quote, plain d other) at e in absurd (other cc)
  ]
  | inr other ↦ elim (cases_eq d 39) [
    | inl at_quote ↦ let apart : b ∷ x ≡ 39 ∷ 39 ∷ y = rw (at_quote, plain b other) at e in absurd (other cc)
    | inr another ↦ let same : b ∷ x ≡ d ∷ y = rw (plain b other, plain d another) at e in (cc, cc)
  ]
]

-- a quote that no quote follows is no doubled byte
closes_alone : (d : ℕ) (x y : List ℕ) → quote ∷ x ≡ doubled d ++ y → begins is_quote x ≡ false → ⊥
closes_alone d x y e ends = elim (cases_eq d 39) [
  | inl at_quote ↦
      let doubled_quote : 39 ∷ x ≡ 39 ∷ 39 ∷ y = rw at_quote at e in
      let next : x ≡ 39 ∷ y = cc in
      let begun : begins is_quote (39 ∷ y) ≡ false = subst (λ (bs : List ℕ). begins is_quote bs ≡ false) next ends in
      true≢false begun
  | inr other ↦ let apart : 39 ∷ x ≡ d ∷ y = rw (plain d other) at e in other cc
]

-- one text closes in one place
pub same_content : (c d x y : List ℕ) → flat_map doubled c ++ quote ∷ x ≡ flat_map doubled d ++ quote ∷ y → begins is_quote x ≡ false → begins is_quote y ≡ false
    → (c ≡ d) × (x ≡ y)
same_content [] [] x y e ends others = (refl, cc)
same_content [] (d ∷ ds) x y e ends others =
    absurd (closes_alone d x (flat_map doubled ds ++ quote ∷ y) (e ∙ append_assoc (doubled d) (flat_map doubled ds) (quote ∷ y)) ends)
same_content (c ∷ cs) [] x y e ends others =
    absurd (closes_alone c y (flat_map doubled cs ++ quote ∷ x) (sym e ∙ append_assoc (doubled c) (flat_map doubled cs) (quote ∷ x)) others)
same_content (c ∷ cs) (d ∷ ds) x y e ends others =
    let regrouped = sym (append_assoc (doubled c) (flat_map doubled cs) (quote ∷ x)) ∙ e ∙ append_assoc (doubled d) (flat_map doubled ds) (quote ∷ y) in
    let first = same_doubled c d (flat_map doubled cs ++ quote ∷ x) (flat_map doubled ds ++ quote ∷ y) regrouped in
    let rest = same_content cs ds x y first.1 ends others in
    (ap (λ (b : ℕ). b ∷ cs) first.0 ∙ ap (λ (bs : List ℕ). d ∷ bs) rest.0, rest.1)

-- and an open one in none
never_closes : (c d y : List ℕ) → flat_map doubled c ≡ flat_map doubled d ++ quote ∷ y → begins is_quote y ≡ false → ⊥
never_closes [] [] y e ends = cc
never_closes [] (d ∷ ds) y e ends = let longer = length-doubled d in absurd (omega (arith, ap length e, length-append (doubled d) (flat_map doubled ds), length-append (doubled d ++ flat_map doubled ds) (quote ∷ y)))
never_closes (c ∷ cs) [] y e ends = closes_alone c y (flat_map doubled cs) (sym e) ends
never_closes (c ∷ cs) (d ∷ ds) y e ends =
    let first = same_doubled c d (flat_map doubled cs) (flat_map doubled ds ++ quote ∷ y) (e ∙ append_assoc (doubled d) (flat_map doubled ds) (quote ∷ y)) in
    never_closes cs ds y first.1 ends

pub is_never_closed : (rest content behind : List ℕ) → IsOpen rest → quote ∷ rest ≡ quoted content ++ behind → begins is_quote behind ≡ false → ⊥
is_never_closed rest content behind o e ends =
    let inner : rest ≡ (flat_map doubled content ++ quote ∷ []) ++ behind = cc in
    never_closes o.content content behind (sym o.unclosed ∙ inner ∙ append_assoc (flat_map doubled content) (quote ∷ []) behind) ends

pub same_quoted : (c d x y : List ℕ) → quoted c ++ x ≡ quoted d ++ y → begins is_quote x ≡ false → begins is_quote y ≡ false → (c ≡ d) × (x ≡ y)
same_quoted c d x y e ends others =
    let inner : (flat_map doubled c ++ quote ∷ []) ++ x ≡ (flat_map doubled d ++ quote ∷ []) ++ y = cc in
    same_content c d x y (sym (append_assoc (flat_map doubled c) (quote ∷ []) x) ∙ inner ∙ append_assoc (flat_map doubled d) (quote ∷ []) y) ends others
