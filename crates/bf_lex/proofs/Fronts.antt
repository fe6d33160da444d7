-- The longest front of a list whose items pass a test.
use Rattle.std.proofs.Common.{◌≡◌, ℕ, ◌+◌, ◌<◌, ◌≤◌, Bool, true, false, not, ◌==◌, ltb, List, [], ◌∷◌, ◌++◌, length, take, drop, get_or, Some, None, refl, sym, ap, ◌∙◌, inl, inr, arith}
use Rattle.std.specs.List.{list_all, position, prefix_len}
use Rattle.std.proofs.Math.Numerals.{one-add}
use Rattle.std.proofs.lemmas.Bool.{and_from, cases_Bool}
use Rattle.std.proofs.lemmas.List.{take-append-drop, take_all, drop_more}
use Rattle.std.proofs.lemmas.List.Sums.{prefix_len_stops}
use Rattle.std.proofs.lemmas.Option.{cond_some}
use Rattle.std.proofs.lemmas.Bool.Decides.{nat_tests}
use Rattle.bf_lex.specs.Bytes.{begins, is_line, line_feed}
use Rattle.bf_lex.specs.Reading.{EndsLine}

pub passes : {X : Type 0} (test : X → Bool) (xs : List X) → list_all test (take (prefix_len test xs) xs) ≡ true
passes test [] = refl
passes test (x ∷ xs) = elim (cases_Bool (test x)) [
  | inl passed ↦ rw (passed, one-add) (and_from _ _ passed (passes test xs))
  | inr stopped ↦ rw stopped refl
]

pub stops : (test : ℕ → Bool) (xs : List ℕ) → begins test (drop (prefix_len test xs) xs) ≡ false
stops test [] = refl
stops test (x ∷ xs) = elim (cases_Bool (test x)) [
  | inl passed ↦ rw (passed, one-add) (stops test xs)
  | inr stopped ↦ rw (stopped, stopped) refl
]

-- a position is the length of the front before it
position_is : (test : ℕ → Bool) (xs : List ℕ) (n : ℕ) → position test xs ≡ Some n → (n ≡ prefix_len (λ x. not (test x)) xs) × (n < length xs)
position_is test xs n e =
    let found = cond_some (ltb (prefix_len (λ x. not (test x)) xs) (length xs)) (prefix_len (λ x. not (test x)) xs) n e in
    grind (arith, nat_tests)

pub position_inside : (test : ℕ → Bool) (xs : List ℕ) (n : ℕ) → position test xs ≡ Some n → n < length xs
position_inside test xs n e = (position_is test xs n e).1

no_position : (test : ℕ → Bool) (xs : List ℕ) → position test xs ≡ None → length xs ≤ prefix_len (λ x. not (test x)) xs
no_position test xs e = grind (arith, nat_tests)

pub ends_line : (text : List ℕ) (n : ℕ) → position (λ byte. byte == line_feed) text ≡ Some n → EndsLine text (drop (n + 1) text)
ends_line text n e =
    let at = position_is (λ byte. byte == line_feed) text n e in
    let line = take n text in
    let passed : list_all (λ byte. not (byte == line_feed)) line ≡ true = rw at.0 (passes (λ byte. not (byte == line_feed)) text) in
    let ended : not (get_or text n 0 == line_feed) ≡ false = rw at.0 (prefix_len_stops (λ byte. not (byte == line_feed)) text 0 (omega arith)) in
    let feed : get_or text n 0 ≡ line_feed = grind (arith, nat_tests) in
    let rest : drop n text ≡ line_feed ∷ drop (n + 1) text = drop_more text n 0 at.1 ∙ ap (λ (b : ℕ). b ∷ drop (n + 1) text) feed in
    record { line = line; is_line = passed; split = sym (take-append-drop n text) ∙ ap (λ (bs : List ℕ). line ++ bs) rest }

pub is_open_line : (text : List ℕ) → position (λ byte. byte == line_feed) text ≡ None → is_line text ≡ true
is_open_line text e =
    let all = no_position (λ byte. byte == line_feed) text e in
    rw (sym (take_all (prefix_len (λ byte. not (byte == line_feed)) text) text all)) (passes (λ byte. not (byte == line_feed)) text)
