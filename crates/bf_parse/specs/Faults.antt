-- FAULTS: what words spell by a rule, or the first word that is refused, and why.
use Rattle.std.specs.Prelude.{◌≡◌, ℕ, true, List, [], ◌∷◌, ◌++◌, length, Some}
use Rattle.bf_lex.specs.declared.fault.ScriptKind.{ScriptKind}
use Rattle.bf_phrase.specs.Words.{Word}
use Rattle.bf_phrase.specs.Steps.{Step, Mark, Limit, said, within, fault_at}
use Rattle.bf_phrase.specs.Rules.{Rule}
use Rattle.bf_phrase.specs.Reading.{Reading, Read, Stuck, Over, Lost}

module _ {A : Type 0} (rule : Rule A) where
  -- the words are spelled by the rule, whatever the limits say
  abbrev pub IsSpelled : List Word → A → Type 0
  IsSpelled words a = (steps : List Step) × (words ≡ said steps) × rule steps a

  -- nothing that is spelled begins with these words
  abbrev pub NoneBegins : List Word → Type 0
  NoneBegins front = (more : List Word) (a : A) → IsSpelled (front ++ more) a → ⊥

  -- nothing goes on from behind those seen with the first of the rest; or ends there
  abbrev pub CantGoOn : List Word → List Word → Type 0
  CantGoOn seen [] = (a : A) → IsSpelled seen a → ⊥
  CantGoOn seen (w ∷ rest) = NoneBegins (seen ++ w ∷ [])

  -- all that is spelled and begins with these words begins with these steps
  abbrev pub MustHave : List Word → List Step → Type 0
  MustHave shown seen = (steps : List Step) (b : A) (more : List Word) → rule steps b → said steps ≡ shown ++ more → (tail : List Step) × (steps ≡ seen ++ tail)

  -- the words are spelled within the limits, as this and nothing else
  pub record IsRead (words : List Word) (a : A) : Type 0 where
    pub steps : List Step
    pub split : words ≡ said steps
    pub spells : rule steps a
    pub inside : within steps ≡ true
    pub only : (b : A) → IsSpelled words b → b ≡ a

  -- with the words before the place something goes on, and nothing goes on with the word at the place
  pub record IsStuck (words : List Word) (left : ℕ) : Type 0 where
    pub steps : List Step
    pub rest : List Word
    pub split : words ≡ said steps ++ rest
    pub place : length rest ≡ left
    pub inside : within steps ≡ true
    pub more : List Step
    pub value : A
    pub spells : rule (steps ++ more) value
    pub cant : CantGoOn (said steps) rest

  -- something goes on with the word at the place, and all that does has the mark of a limit before it that is a fault
  pub record IsOver (words : List Word) (kind : ScriptKind) (left : ℕ) : Type 0 where
    pub steps : List Step
    pub mark : Mark
    pub next : List Step
    pub word : Word
    pub rest : List Word
    pub split : words ≡ said steps ++ word ∷ rest
    pub here : said next ≡ word ∷ []
    pub place : length (word ∷ rest) ≡ left
    pub inside : within steps ≡ true
    pub high : fault_at mark ≡ Some kind
    pub more : List Step
    pub value : A
    pub spells : rule ((steps ++ Limit mark ∷ next) ++ more) value
    pub must : MustHave (said steps ++ word ∷ []) (steps ++ Limit mark ∷ [])

  -- what all of the words are by the rule
  abbrev pub Answers : List Word → Reading A → Type 0
  Answers words (Read a rest) = (rest ≡ []) × IsRead words a
  Answers words (Stuck left) = IsStuck words left
  Answers words (Over kind left) = IsOver words kind left
  Answers words Lost = Unit {0}
