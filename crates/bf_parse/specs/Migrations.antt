-- MIGRATE: targets, each of one arm or several.
use Rattle.std.specs.Prelude.{◌≡◌, ℕ, suc, List, [], ◌∷◌, ◌++◌, Option, None, Some}
use Rattle.bf_lex.specs.declared.keyword.Keyword.TheVariants as keyword
use Rattle.bf_lex.specs.declared.sign.Sign.TheVariants as sign
use Rattle.bf_tree.specs.declared.raw.Ref.{Ref}
use Rattle.bf_tree.specs.declared.migration.Join.{Join}
use Rattle.bf_tree.specs.declared.migration.Arm.{Arm}
use Rattle.bf_tree.specs.declared.migration.Target.{Target}
use Rattle.bf_tree.specs.declared.migration.Migrate.{Migrate}
use Rattle.bf_phrase.specs.Words as word
use Rattle.bf_phrase.specs.Steps.{Step, Say, Limit, Part, Target as TargetMark}
use Rattle.bf_phrase.specs.Rules.{Rule, Return, Named, Marked, Either, Then, Listed}
use Rattle.bf_phrase.specs.Expressions.{RefRule}
use Rattle.bf_phrase.specs.Phrases.{AfterKeyword, AfterSign, Enclosed, WhereRule}
use Rattle.bf_phrase.specs.Items.{ItemRule}

-- ref = ref
abbrev pub EqualityRule : Rule (Ref × Ref)
EqualityRule = Then RefRule (λ a. AfterSign sign.Equal (Then RefRule (λ b. Return (a, b))))

-- ( AND equality )* from the n-th on, behind those before
pub data Equalities : ℕ → List (Ref × Ref) → List Step → List (Ref × Ref) → Type 0 where
  no_other : {n : ℕ} {before : List (Ref × Ref)} {steps : List Step} {all : List (Ref × Ref)} → steps ≡ [] → all ≡ before → Equalities n before steps all
  other : {n : ℕ} {before : List (Ref × Ref)} {steps : List Step} {all : List (Ref × Ref)} (front back : List Step) (e : Ref × Ref) → EqualityRule front e
      → Equalities (suc n) (before ++ e ∷ []) back all → steps ≡ Say (word.Keyword keyword.And) ∷ Limit (Part n) ∷ (front ++ back) → Equalities n before steps all

abbrev pub join_of : List ℕ → List (Ref × Ref) → Join
join_of table on = record { table = table; on = on }

-- [JOIN name ON equality ( AND equality )*]
abbrev pub JoinRule : Rule (Option Join)
JoinRule = Either (Return None) (AfterKeyword keyword.Join (Named (λ table. AfterKeyword keyword.On (Then (Marked (Part 1) EqualityRule) (λ e. Then (Equalities 2 (e ∷ [])) (λ on. Return (Some (join_of table on))))))))

-- [GROUP BY ref,+]
abbrev pub GroupRule : Rule (List Ref)
GroupRule = Either (Return []) (AfterKeyword keyword.Group (AfterKeyword keyword.By (Listed RefRule)))

-- SELECT item,+ FROM name [JOIN ..] [WHERE ..] [GROUP BY ..]
abbrev pub ArmRule : Rule Arm
ArmRule = AfterKeyword keyword.Select (Then (Listed ItemRule) (λ items. AfterKeyword keyword.From (Named (λ from. Then JoinRule (λ join. Then WhereRule (λ cond. Then GroupRule (λ group.
    Return (record { items = items; from = from; join = join; cond = cond; group = group }))))))))

-- ( UNION ALL arm )* behind the arms before
pub data Arms : List Arm → List Step → List Arm → Type 0 where
  no_arm : {before : List Arm} {steps : List Step} {all : List Arm} → steps ≡ [] → all ≡ before → Arms before steps all
  arm : {before : List Arm} {steps : List Step} {all : List Arm} (front back : List Step) (a : Arm) → ArmRule front a → Arms (before ++ a ∷ []) back all
      → steps ≡ Say (word.Keyword keyword.Union) ∷ Say (word.Keyword keyword.All) ∷ (front ++ back) → Arms before steps all

abbrev pub target_of : List ℕ → List Arm → Target
target_of name arms = record { name = name; arms = arms }

-- CREATE TABLE name AS arm ( UNION ALL arm )*
abbrev pub TargetRule : Rule Target
TargetRule = AfterKeyword keyword.Create (AfterKeyword keyword.Table (Named (λ name. AfterKeyword keyword.As (Then ArmRule (λ a. Then (Arms (a ∷ [])) (λ arms. Return (target_of name arms)))))))

-- ( ; target )* from the n-th on, behind those before
pub data Targets : ℕ → List Target → List Step → List Target → Type 0 where
  no_target : {n : ℕ} {before : List Target} {steps : List Step} {all : List Target} → steps ≡ [] → all ≡ before → Targets n before steps all
  target : {n : ℕ} {before : List Target} {steps : List Step} {all : List Target} (front back : List Step) (t : Target) → TargetRule front t
      → Targets (suc n) (before ++ t ∷ []) back all → steps ≡ Say (word.Sign sign.Semicolon) ∷ Limit (TargetMark n) ∷ (front ++ back) → Targets n before steps all

-- MIGRATE ( target ( ; target )* )
abbrev pub MigrateRule : Rule Migrate
MigrateRule = AfterKeyword keyword.Migrate (Enclosed (Then (Marked (TargetMark 1) TargetRule) (λ t. Targets 2 (t ∷ []))) (λ targets. Return (record { targets = targets })))
