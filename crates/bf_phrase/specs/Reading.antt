-- READINGS: what it means that a reading of words is right for a rule, and stops at the first word that can't go on.
use Rattle.std.specs.Prelude.{◌≡◌, ℕ, Bool, true, false, List, [], ◌∷◌, ◌++◌, length, Option, Some, None}
use Rattle.bf_lex.specs.declared.fault.ScriptKind.{ScriptKind}
use Rattle.bf_phrase.specs.Words.{Word}
use Rattle.bf_phrase.specs.Steps.{Step, Mark, Limit, said, within, fault_at}
use Rattle.bf_phrase.specs.Rules.{Rule}

-- a value and the words behind it; the first word that can't go on, or that stands behind a mark that is a fault, each by
-- the number of words that are left there; or memory ran out
pub data Reading (A : Type 0) : Type 0 where
  Read : A → List Word → Reading A
  Stuck : ℕ → Reading A
  Over : ScriptKind → ℕ → Reading A
  Lost : Reading A

-- these steps may be gone on with
abbrev pub CanGoOn : {A : Type 0} → Rule A → List Step → Type 0
CanGoOn {A = A} rule used = (more : List Step) × (b : A) × rule (used ++ more) b

abbrev pub first : List Word → Option Word
first [] = None
first (w ∷ ws) = Some w

-- words that don't begin with one by which a rule goes on
abbrev pub Ends : (Word → Bool) → List Word → Type 0
Ends follow [] = Unit {0}
Ends follow (w ∷ ws) = follow w ≡ false

-- What a rule can spell at the front of any words that begin with those seen and the next one, or end where these end, if
-- what follows doesn't begin with a word by which the rule goes on.
abbrev pub Only : {A : Type 0} → (Word → Bool) → Rule A → List Word → List Word → Rule A → Type 0
Only {A = A} follow rule seen rest what =
    (front : List Step) (b : A) (back more : List Word) → rule front b → Ends follow back → first more ≡ first rest → said front ++ back ≡ seen ++ more → what front b

-- the value is spelled by the words before the rest, and by no others
pub record FitsRead {A : Type 0} (follow : Word → Bool) (rule : Rule A) (words : List Word) (a : A) (rest : List Word) : Type 0 where
  pub used : List Step
  pub split : words ≡ said used ++ rest
  pub inside : within used ≡ true
  pub spells : rule used a
  pub only : Only follow rule (said used) rest (λ front b. (front ≡ used) × (b ≡ a))

-- the words before the place can be gone on with, and with the one at the place they can't
pub record FitsStuck {A : Type 0} (follow : Word → Bool) (rule : Rule A) (words : List Word) (left : ℕ) : Type 0 where
  pub used : List Step
  pub rest : List Word
  pub split : words ≡ said used ++ rest
  pub place : length rest ≡ left
  pub inside : within used ≡ true
  pub viable : CanGoOn rule used
  pub only : Only follow rule (said used) rest (λ front b. ⊥)

-- the word at the place stands behind a mark that is a fault, and can be gone on with; whatever the rule spells that begins
-- with the words up to it has this mark there
pub record FitsOver {A : Type 0} (follow : Word → Bool) (rule : Rule A) (words : List Word) (kind : ScriptKind) (left : ℕ) : Type 0 where
  pub used : List Step
  pub mark : Mark
  pub next : List Step
  pub word : Word
  pub rest : List Word
  pub split : words ≡ said used ++ word ∷ rest
  pub here : said next ≡ word ∷ []
  pub place : length (word ∷ rest) ≡ left
  pub inside : within used ≡ true
  pub high : fault_at mark ≡ Some kind
  pub viable : CanGoOn rule (used ++ Limit mark ∷ next)
  pub only : (any : List Word) → Only follow rule (said used ++ word ∷ []) any (λ front b. (tail : List Step) × (front ≡ used ++ Limit mark ∷ tail))

abbrev pub FitsAs : {A : Type 0} → (Word → Bool) → Rule A → List Word → Reading A → Type 0
FitsAs follow rule words (Read a rest) = FitsRead follow rule words a rest
FitsAs follow rule words (Stuck left) = FitsStuck follow rule words left
FitsAs follow rule words (Over kind left) = FitsOver follow rule words kind left
FitsAs follow rule words Lost = Unit {0}

-- a reading of the words that is right for the rule
pub record Fits {A : Type 0} (follow : Word → Bool) (rule : Rule A) (words : List Word) (reading : Reading A) : Type 0 where
  pub it : FitsAs follow rule words reading
