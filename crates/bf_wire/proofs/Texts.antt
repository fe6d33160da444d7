-- Bytes behind a byte with their number.
use Rattle.std.proofs.Common.{◌≡◌, ◌≢◌, ℕ, true, not, eqb, List, [], ◌∷◌, ◌++◌, length, refl, sym, ap, ap₂, subst, ◌∙◌, arith}
use Rattle.std.specs.Cmp.Lexicographic.{pointwise}
use Rattle.std.specs.List.{list_all}
use Rattle.std.proofs.lemmas.Bool.{and_from, and_parts, eq-eqb, false≢true}
use Rattle.std.proofs.lemmas.Bool.Decides.{nat_tests}
use Rattle.bf_base.specs.Names.{is_lower, is_name_byte, lower_of, folded}
use Rattle.bf_wire.specs.Apart.{counted_apart}
use Rattle.bf_wire.specs.Spellings.{IsName}

-- where the counted bytes are no name or text, none stands there
pub none_there : (Is : List ℕ → Type 0) (bytes front after : List ℕ) → bytes ≡ length front ∷ front ++ after → ¬ Is front
    → (a rest : List ℕ) → Is a → bytes ≢ length a ∷ a ++ rest
none_there Is bytes front after there fails a rest is same = fails (subst Is (counted_apart a front rest after (sym same ∙ there)) is)

bytes_equal : (bytes : List ℕ) → pointwise eqb bytes bytes ≡ true
bytes_equal [] = refl
bytes_equal (b ∷ bytes) = and_from _ _ (eq-eqb b b refl) (bytes_equal bytes)

-- a test of different bytes tells that they differ
pub differ : (name bytes : List ℕ) → true ≡ not (pointwise eqb name bytes) → name ≢ bytes
differ name bytes told same =
    let equal : pointwise eqb name bytes ≡ true = rw same (bytes_equal bytes) in
    false≢true (sym (told ∙ ap not equal))

lower_kept : (byte : ℕ) → is_name_byte byte ≡ true → lower_of byte ≡ byte
lower_kept byte is = grind (arith, nat_tests)

all_kept : (bytes : List ℕ) → list_all is_name_byte bytes ≡ true → folded bytes ≡ bytes
all_kept [] all = refl
all_kept (b ∷ bytes) all =
    let each = and_parts _ _ all in
    ap₂ (λ c cs. c ∷ cs) (lower_kept b each.0) (all_kept bytes each.1)

-- a name has no upper-case letters
pub folded_name : (bytes : List ℕ) → IsName bytes → folded bytes ≡ bytes
folded_name [] is = refl
folded_name (b ∷ bytes) is =
    let all : list_all is_name_byte bytes ≡ true = (and_parts _ _ is).1 in
    let lower : is_lower b ≡ true = (and_parts _ _ (and_parts _ _ is).0).0 in
    ap₂ (λ c cs. c ∷ cs) (lower_kept b (rw lower refl)) (all_kept bytes all)
