-- Numbered cases: each has a number and a word.
use Rattle.std.specs.Prelude.{ℕ, Bool, true, not, ◌&&◌, ◌||◌, ◌==◌, List, [], ◌∷◌, map, find, Option, IsTrue, IsSomeAnd}
use Rattle.std.specs.List.{list_any}
use Rattle.std.specs.Option.{option_map}
use Rattle.std.specs.Str.{str_eq_ignore_ascii_case}

-- a number and the word that goes with it
abbrev pub Case : Type 0
Case = ℕ × List ℕ

-- the cases of some pairs, where `text` gives the bytes of a word
abbrev pub cases_by : {W : Type 0} → (W → List ℕ) → List (ℕ × W) → List Case
cases_by text pairs = map (λ pair. (pair.0, text pair.1)) pairs

-- whether two words are the same but for the case of their ASCII letters
abbrev pub same_word : List ℕ → List ℕ → Bool
same_word = str_eq_ignore_ascii_case

-- whether two cases share the number or the word
abbrev pub share : Case → Case → Bool
share a b = a.0 == b.0 || same_word a.1 b.1

-- whether no two cases share a number or a word
abbrev pub are_apart : List Case → Bool
are_apart [] = true
are_apart (c ∷ cs) = not (list_any (share c) cs) && are_apart cs

-- the number of the case that has the word
abbrev pub number_at : List Case → List ℕ → Option ℕ
number_at cases word = option_map (λ c. c.0) (find (λ c. same_word c.1 word) cases)

-- the word of the case that has the number
abbrev pub word_at : List Case → ℕ → Option (List ℕ)
word_at cases number = option_map (λ c. c.1) (find (λ c. c.0 == number) cases)

-- the case that has the number has the word
abbrev pub HasWord : List Case → ℕ → List ℕ → Type 0
HasWord cases number word = IsSomeAnd (word_at cases number) (λ found. IsTrue (same_word found word))
