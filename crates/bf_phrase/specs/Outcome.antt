-- What private functions promise of the words that they read.
use Rattle.std.specs.Prelude.{◌≡◌, ℕ, List, ◌∷◌, length, Option, Some, None, Result, Ok, Err}
use Rattle.bf_phrase.specs.declared.error.ReadStop.{ReadStop}
use Rattle.bf_phrase.specs.declared.error.ReadStop.TheVariants as stop
use Rattle.bf_phrase.specs.Words.{Word, Name}
use Rattle.bf_phrase.specs.Reading.{Reading, Stuck, Over, Lost, first}

abbrev pub stopped : {A : Type 0} → ReadStop → Reading A
stopped (stop.Syntax left) = Stuck left
stopped (stop.Limit kind left) = Over kind left
stopped stop.Memory = Lost

-- what a function returned, as a reading
abbrev pub outcome : {X A : Type 0} → (X → Reading A) → Result X ReadStop → Reading A
outcome view (Ok x) = view x
outcome view (Err e) = stopped e

abbrev pub HasFirst : Word → List Word → Option (List Word) → Type 0
HasFirst word words (Some rest) = words ≡ word ∷ rest
HasFirst word words None = first words ≡ Some word → ⊥

-- the words behind a word, where that stands first
pub record IsBehind (word : Word) (words : List Word) (found : Option (List Word)) : Type 0 where
  pub it : HasFirst word words found

abbrev pub HasWord : Word → List Word → Result (List Word) ReadStop → Type 0
HasWord word words (Ok rest) = words ≡ word ∷ rest
HasWord word words (Err (stop.Syntax left)) = (left ≡ length words) × (first words ≡ Some word → ⊥)
HasWord word words (Err (stop.Limit kind left)) = ⊥
HasWord word words (Err stop.Memory) = ⊥

-- the words behind a word that has to stand first
pub record IsExpected (word : Word) (words : List Word) (found : Result (List Word) ReadStop) : Type 0 where
  pub it : HasWord word words found

abbrev pub HasName : List Word → Result (List ℕ × List Word) ReadStop → Type 0
HasName words (Ok found) = words ≡ Name found.0 ∷ found.1
HasName words (Err (stop.Syntax left)) = (left ≡ length words) × ((name : List ℕ) → first words ≡ Some (Name name) → ⊥)
HasName words (Err (stop.Limit kind left)) = ⊥
HasName words (Err stop.Memory) = Unit {0}

-- a name that has to stand first, and the words behind it
pub record IsNamed (words : List Word) (found : Result (List ℕ × List Word) ReadStop) : Type 0 where
  pub it : HasName words found

-- what a `Some` or an `Ok` holds, as words see it
abbrev pub some_seen : {X Y : Type 0} → (X → Y) → Option X → Option Y
some_seen view (Some x) = Some (view x)
some_seen view None = None

abbrev pub seen : {X Y E : Type 0} → (X → Y) → Result X E → Result Y E
seen view (Ok x) = Ok (view x)
seen view (Err e) = Err e
