-- RULES: a rule of the grammar is a relation between steps and what they spell. Words to make rules of rules.
use Rattle.std.specs.Prelude.{◌≡◌, ℕ, suc, ◌⊎◌, List, [], ◌∷◌, ◌++◌}
use Rattle.bf_lex.specs.declared.sign.Sign.TheVariants.{Comma}
use Rattle.bf_phrase.specs.Words.{Word, Name, Sign}
use Rattle.bf_phrase.specs.Steps.{Step, Say, Limit, Mark, Part}

abbrev pub Rule : Type 0 → Type 1
Rule A = List Step → A → Type 0

-- nothing, with this value
abbrev pub Return : {A : Type 0} → A → Rule A
Return a steps b = (steps ≡ []) × (b ≡ a)

-- a word, then the rule
abbrev pub After : {A : Type 0} → Word → Rule A → Rule A
After word rule steps a = (rest : List Step) × (steps ≡ Say word ∷ rest) × rule rest a

-- a name, then the rule that it gives
abbrev pub Named : {A : Type 0} → (List ℕ → Rule A) → Rule A
Named rule steps a = (name : List ℕ) × (rest : List Step) × (steps ≡ Say (Name name) ∷ rest) × rule name rest a

-- a mark, then the rule
abbrev pub Marked : {A : Type 0} → Mark → Rule A → Rule A
Marked mark rule steps a = (rest : List Step) × (steps ≡ Limit mark ∷ rest) × rule rest a

-- the one rule or the other
abbrev pub Either : {A : Type 0} → Rule A → Rule A → Rule A
Either one other steps a = one steps a ⊎ other steps a

-- the first rule, then the one that its value gives
abbrev pub Then : {A B : Type 0} → Rule A → (A → Rule B) → Rule B
Then {A = A} first second steps b = (front back : List Step) × (a : A) × (steps ≡ front ++ back) × first front a × second a back b

-- ( , part )* from the n-th part on, behind those before
pub data Others {A : Type 0} (rule : Rule A) : ℕ → List A → List Step → List A → Type 0 where
  no_other : {n : ℕ} {before : List A} {steps : List Step} {all : List A} → steps ≡ [] → all ≡ before → Others rule n before steps all
  other : {n : ℕ} {before : List A} {steps : List Step} {all : List A} (front back : List Step) (a : A) → rule front a
      → Others rule (suc n) (before ++ a ∷ []) back all → steps ≡ Say (Sign Comma) ∷ Limit (Part n) ∷ (front ++ back) → Others rule n before steps all

-- part ( , part )*
abbrev pub Listed : {A : Type 0} → Rule A → Rule (List A)
Listed rule = Then (Marked (Part 1) rule) (λ a. Others rule 2 (a ∷ []))
