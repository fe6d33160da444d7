-- SCRIPTS: phases of sessions of statements; and what a text is: a script, or its first fault.
use Rattle.std.specs.Prelude.{◌≡◌, ℕ, ◌+◌, ◌-◌, ◌<◌, ◌≤◌, ◌⊎◌, List, [], ◌∷◌, ◌++◌, length, drop, Result, Ok, Err}
use Rattle.bf_base.specs.Limits.{longest_script}
use Rattle.bf_lex.specs.declared.keyword.Keyword.TheVariants as keyword
use Rattle.bf_lex.specs.declared.sign.Sign.TheVariants as sign
use Rattle.bf_lex.specs.declared.fault.ScriptKind.TheVariants as kind
use Rattle.bf_lex.specs.declared.fault.ScriptFault.{ScriptFault}
use Rattle.bf_lex.specs.declared.token.Token.{Token}
use Rattle.bf_lex.specs.Lexing.{IsLexed}
use Rattle.bf_tree.specs.declared.statement.Statement.{Statement}
use Rattle.bf_tree.specs.declared.statement.Statement.TheVariants.{Migrate}
use Rattle.bf_tree.specs.declared.migration.Migrate.{Migrate as MigrateTree}
use Rattle.bf_tree.specs.declared.script.Session.{Session}
use Rattle.bf_tree.specs.declared.script.Script.{Script}
use Rattle.bf_phrase.specs.Words as word
use Rattle.bf_phrase.specs.Words.{words_of}
use Rattle.bf_phrase.specs.Steps.{Step, Say, Limit, Migration, Session as SessionMark}
use Rattle.bf_parse.specs.Statements.{OrdinaryRule}
use Rattle.bf_parse.specs.Migrations.{MigrateRule}
use Rattle.bf_parse.specs.Faults.{IsRead, IsStuck, IsOver}

-- ( statement ; )* behind those before; `m` counts the MIGRATEs of the script so far
pub data Statements : ℕ → List Statement → List Step → List Statement × ℕ → Type 0 where
  no_statement : {m : ℕ} {before : List Statement} {steps : List Step} {x : List Statement × ℕ} → steps ≡ [] → x ≡ (before, m) → Statements m before steps x
  ordinary : {m : ℕ} {before : List Statement} {steps : List Step} {x : List Statement × ℕ} (front back : List Step) (s : Statement) → OrdinaryRule front s
      → Statements m (before ++ s ∷ []) back x → steps ≡ front ++ Say (word.Sign sign.Semicolon) ∷ back → Statements m before steps x
  migrate : {m : ℕ} {before : List Statement} {steps : List Step} {x : List Statement × ℕ} (front back : List Step) (t : MigrateTree) → MigrateRule front t
      → Statements (m + 1) (before ++ Migrate t ∷ []) back x → steps ≡ Limit (Migration (m + 1)) ∷ (front ++ Say (word.Sign sign.Semicolon) ∷ back) → Statements m before steps x

-- how far a script has come: its phases and sessions, how many of these are of the present phase, and its MIGRATEs
pub record Progress : Type 0 where
  pub phases : ℕ
  pub sessions : List Session
  pub of_phase : ℕ
  pub migrations : ℕ

abbrev pub with_session : Progress → List Statement × ℕ → Progress
with_session p x = record {
  phases = p.phases;
  sessions = p.sessions ++ record { phase = p.phases; statements = x.0 } ∷ [];
  of_phase = p.of_phase + 1;
  migrations = x.1;
}

-- ( SESSION ; ( statement ; )* )*
pub data Sessions : Progress → List Step → Progress → Type 0 where
  no_session : {p : Progress} {steps : List Step} {q : Progress} → steps ≡ [] → q ≡ p → Sessions p steps q
  session : {p : Progress} {steps : List Step} {q : Progress} (front back : List Step) (x : List Statement × ℕ) → Statements p.migrations [] front x
      → Sessions (with_session p x) back q
      → steps ≡ Limit (SessionMark (length p.sessions + 1) (p.of_phase + 1)) ∷ Say (word.Keyword keyword.Session) ∷ Say (word.Sign sign.Semicolon) ∷ (front ++ back)
      → Sessions p steps q

abbrev pub with_phase : Progress → Progress
with_phase p = record { phases = p.phases + 1; sessions = p.sessions; of_phase = 0; migrations = p.migrations }

-- ( PHASE ; ( SESSION .. )* )*
pub data Phases : Progress → List Step → Progress → Type 0 where
  no_phase : {p : Progress} {steps : List Step} {q : Progress} → steps ≡ [] → q ≡ p → Phases p steps q
  phase : {p : Progress} {steps : List Step} {q : Progress} (front back : List Step) (r : Progress) → Sessions (with_phase p) front r → Phases r back q
      → steps ≡ Say (word.Keyword keyword.Phase) ∷ Say (word.Sign sign.Semicolon) ∷ (front ++ back) → Phases p steps q

abbrev pub nothing_yet : Progress
nothing_yet = record { phases = 0; sessions = []; of_phase = 0; migrations = 0 }

-- SCRIPT
abbrev pub ScriptRule : List Step → Script → Type 0
ScriptRule steps script = (p : Progress) × Phases nothing_yet steps p × (script ≡ record { phases = p.phases; sessions = p.sessions })

abbrev pub place_behind : ℕ → List Token → ℕ
place_behind length [] = length
place_behind length (t ∷ ts) = t.at

-- the byte at which so many tokens are left: where the first of them stands, or the text's length
abbrev pub place_of : List ℕ → List Token → ℕ → ℕ
place_of text tokens left = place_behind (length text) (drop (length tokens - left) tokens)

-- READS: the script of a text within the limits; else the first fault. The length comes before all others, and faults of
-- tokens before those of the grammar
abbrev pub IsRefused : List ℕ → List Token → ScriptFault → Type 0
IsRefused text tokens fault = (left : ℕ) × (fault.at ≡ place_of text tokens left)
    × (((fault.kind ≡ kind.Syntax) × IsStuck ScriptRule (words_of text tokens) left) ⊎ IsOver ScriptRule (words_of text tokens) fault.kind left)

abbrev pub IsScriptText : List ℕ → Result Script ScriptFault → Type 0
IsScriptText text (Ok script) = (length text ≤ longest_script) × (tokens : List Token) × IsLexed text (Ok tokens) × IsRead ScriptRule (words_of text tokens) script
IsScriptText text (Err fault) =
    ((longest_script < length text) × (fault ≡ record { at = longest_script; kind = kind.ScriptTooLong }))
    ⊎ ((length text ≤ longest_script) × (IsLexed text (Err fault) ⊎ ((tokens : List Token) × IsLexed text (Ok tokens) × IsRefused text tokens fault)))
