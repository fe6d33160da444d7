-- What the words behind the first one give, read one by one.
use Rattle.std.specs.Prelude.{ℕ, ◌==◌, Bool, true, false, not, nat_lt, if◌then◌else◌, List, [], ◌∷◌, length, codes, Option, None, Some, is_some, option_and_then, option_map}
use Rattle.std.specs.List.{position_or_len, before_first, after_first}
use Rattle.std.specs.Str.{bytes_eq}
use Rattle.bf_words.specs.Numbers.{number_within}
use Rattle.bf_words.specs.declared.verb.Verb.{Verb}
use Rattle.bf_words.specs.declared.verb.Verb.TheVariants.{Create, Run, Try, Demo}
use Rattle.bf_words.specs.declared.line.Limit.{Limit}
use Rattle.bf_words.specs.declared.line.Limit.TheVariants.{Workers, Retries}
use Rattle.bf_words.specs.declared.line.Place.{Place}
use Rattle.bf_words.specs.declared.line.Place.TheVariants.{Free, NumberOf, Behind}

-- the first word names what is to be done, exactly
abbrev pub verb_of : List ℕ → Option Verb
verb_of word =
    if bytes_eq word (codes "create") then Some Create
    else if bytes_eq word (codes "run") then Some Run
    else if bytes_eq word (codes "try") then Some Try
    else if bytes_eq word (codes "demo") then Some Demo
    else None

-- what has been read, and what the next word is: an option or a word that is none (`Free`), the number of an option
-- whose name stands before it, or, behind `--`, a word that is no option, whatever it begins with
pub record Line : Type 0 where
  pub place : Place
  pub count : Option ℕ
  pub path : Option (List ℕ)
  pub workers : Option ℕ
  pub retries : Option ℕ
  pub finish : Bool
  pub audit : Bool

abbrev pub nothing_read : Line
nothing_read = record {
  place = Free;
  count = None;
  path = None;
  workers = None;
  retries = None;
  finish = false;
  audit = false;
}

-- a path is not empty and not the one word `-`
abbrev pub is_path : List ℕ → Bool
is_path [] = false
is_path (only ∷ []) = not (only == 45)
is_path (first ∷ second ∷ rest) = true

-- one path
abbrev pub with_path : List ℕ → Line → Option Line
with_path word line =
    if is_some line.path then None else if is_path word then Some (record line { path = Some word }) else None

-- the size of an example, from 1 to 1000
abbrev pub with_count : List ℕ → Line → Option Line
with_count word line =
    option_map (λ (number : ℕ). record line { count = Some number }) (number_within 1 1000 word)

-- a word that is no option: `demo` has a count and a path, `create` and `run` have a path, `try` has none
abbrev pub with_plain : Verb → List ℕ → Line → Option Line
with_plain Create word line = with_path word line
with_plain Run word line = with_path word line
with_plain Try word line = None
with_plain Demo word line = if is_some line.count then with_path word line else with_count word line

-- the number of workers, from 0 to 8, and how often is tried again, from 0 to 1000; each is given once
abbrev pub with_workers : List ℕ → Line → Option Line
with_workers word line =
    if is_some line.workers then None
    else option_map (λ (number : ℕ). record line { place = Free; workers = Some number }) (number_within 0 8 word)

abbrev pub with_retries : List ℕ → Line → Option Line
with_retries word line =
    if is_some line.retries then None
    else option_map (λ (number : ℕ). record line { place = Free; retries = Some number }) (number_within 0 1000 word)

abbrev pub with_number : Limit → List ℕ → Line → Option Line
with_number Workers word line = with_workers word line
with_number Retries word line = with_retries word line

-- what has no number is given once too
abbrev pub with_finish : Line → Option Line
with_finish line = if line.finish then None else Some (record line { finish = true })

abbrev pub with_audit : Line → Option Line
with_audit line = if line.audit then None else Some (record line { audit = true })

-- an option alone, by its whole name: the number of the first two is the next word
abbrev pub with_name : List ℕ → Line → Option Line
with_name name line =
    if bytes_eq name (codes "--workers") then Some (record line { place = NumberOf Workers })
    else if bytes_eq name (codes "--retries") then Some (record line { place = NumberOf Retries })
    else if bytes_eq name (codes "--finish") then with_finish line
    else if bytes_eq name (codes "--audit") then with_audit line
    else None

-- an option with its value behind `=`, as only those that have a number can have it
abbrev pub with_value : List ℕ → List ℕ → Line → Option Line
with_value name value line =
    if bytes_eq name (codes "--workers") then with_number Workers value line
    else if bytes_eq name (codes "--retries") then with_number Retries value line
    else None

-- where the first `=` stands, or the length of a word that has none
abbrev pub equals_at : List ℕ → ℕ
equals_at word = position_or_len (λ byte. byte == 61) word

abbrev pub with_option : List ℕ → Line → Option Line
with_option word line =
    if nat_lt (equals_at word) (length word)
    then with_value (before_first (λ byte. byte == 61) word) (after_first (λ byte. byte == 61) word) line
    else with_name word line

abbrev pub begins_with_dash : List ℕ → Bool
begins_with_dash [] = false
begins_with_dash (first ∷ rest) = first == 45

-- options are read by `run` alone
abbrev pub with_dashed : Verb → List ℕ → Line → Option Line
with_dashed Run word line = with_option word line
with_dashed Create word line = None
with_dashed Try word line = None
with_dashed Demo word line = None

abbrev pub with_free : Verb → List ℕ → Line → Option Line
with_free verb word line =
    if bytes_eq word (codes "--") then Some (record line { place = Behind })
    else if begins_with_dash word then with_dashed verb word line
    else with_plain verb word line

abbrev pub with_word_at : Place → Verb → List ℕ → Line → Option Line
with_word_at Free verb word line = with_free verb word line
with_word_at (NumberOf option) verb word line = with_number option word line
with_word_at Behind verb word line = with_plain verb word line

-- the line with one more word, where it may stand there
abbrev pub with_word : Verb → Line → List ℕ → Option Line
with_word verb line word = with_word_at line.place verb word line

-- the line with more words
abbrev pub with_words : Verb → List (List ℕ) → Line → Option Line
with_words verb [] line = Some line
with_words verb (word ∷ rest) line = option_and_then (with_words verb rest) (with_word verb line word)

-- an option still lacks its number
abbrev pub is_waiting : Place → Bool
is_waiting (NumberOf option) = true
is_waiting Free = false
is_waiting Behind = false
