-- STEPS: words, and between them marks of no width at which a limit looks.
use Rattle.std.specs.Prelude.{ℕ, Bool, true, ◌&&◌, ◌||◌, nat_lt, List, [], ◌∷◌, Option, Some, None, is_none, if◌then◌else◌}
use Rattle.bf_lex.specs.declared.fault.ScriptKind.{ScriptKind}
use Rattle.bf_lex.specs.declared.fault.ScriptKind.TheVariants as kind
use Rattle.bf_tree.specs.Limits.{most_targets}
use Rattle.bf_phrase.specs.Limits.{most_parts, most_counted, most_migrations, most_sessions, most_of_phase}
use Rattle.bf_phrase.specs.Words.{Word}

pub data Mark : Type 0 where
  -- before the n-th part of a list
  Part : ℕ → Mark
  -- before the n-th counted word of an expression or a condition
  Node : ℕ → Mark
  -- before the n-th target of a MIGRATE
  Target : ℕ → Mark
  -- before the n-th MIGRATE
  Migration : ℕ → Mark
  -- before the n-th SESSION, which is the k-th of its phase
  Session : ℕ → ℕ → Mark
  -- before the end of the INTs where no minus makes it an INT
  Widest : Mark

abbrev pub above : ℕ → ℕ → ScriptKind → Option ScriptKind
above most n kind = if nat_lt most n then Some kind else None

-- LIMITS: the fault that a mark is, where it is one
abbrev pub fault_at : Mark → Option ScriptKind
fault_at (Part n) = above most_parts n kind.TooManyColumns
fault_at (Node n) = above most_counted n kind.TooDeep
fault_at (Target n) = above most_targets n kind.TooManyTargets
fault_at (Migration n) = above most_migrations n kind.TooManyMigrations
fault_at (Session n k) = if nat_lt most_sessions n || nat_lt most_of_phase k then Some kind.TooManySessions else None
fault_at Widest = Some kind.NumberTooWide

pub data Step : Type 0 where
  Say : Word → Step
  Limit : Mark → Step

-- the words of steps
abbrev pub said : List Step → List Word
said [] = []
said (Say word ∷ steps) = word ∷ said steps
said (Limit mark ∷ steps) = said steps

-- no mark is a fault
abbrev pub within : List Step → Bool
within [] = true
within (Say word ∷ steps) = within steps
within (Limit mark ∷ steps) = is_none (fault_at mark) && within steps
