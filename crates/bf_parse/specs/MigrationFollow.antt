-- FOLLOW of the parts of a MIGRATE, and rules of parts.
use Rattle.std.specs.Prelude.{Bool, true, false, ◌||◌, List, [], ◌∷◌, Option}
use Rattle.bf_tree.specs.declared.raw.Ref.{Ref}
use Rattle.bf_tree.specs.Trees.{Cond}
use Rattle.bf_lex.specs.declared.keyword.Keyword.TheVariants.{Group, Join, Union}
use Rattle.bf_lex.specs.declared.sign.Sign.TheVariants.{Semicolon}
use Rattle.bf_tree.specs.declared.migration.Arm.{Arm}
use Rattle.bf_tree.specs.declared.migration.Join.{Join as JoinTree}
use Rattle.bf_tree.specs.declared.migration.Target.{Target}
use Rattle.bf_phrase.specs.Words.{Word, Keyword, Sign}
use Rattle.bf_phrase.specs.Steps.{Part, Target as TargetMark}
use Rattle.bf_phrase.specs.Rules.{Rule, Return, Marked, Then}
use Rattle.bf_phrase.specs.Follow.{is_point, is_and, follow_list, follow_where}
use Rattle.bf_phrase.specs.Phrases.{WhereRule}
use Rattle.bf_parse.specs.Migrations.{EqualityRule, Equalities, JoinRule, GroupRule, ArmRule, Arms, TargetRule, Targets}

abbrev pub is_join : Word → Bool
is_join (Keyword Join) = true
is_join other = false

abbrev pub is_group : Word → Bool
is_group (Keyword Group) = true
is_group other = false

abbrev pub is_union : Word → Bool
is_union (Keyword Union) = true
is_union other = false

abbrev pub is_semicolon : Word → Bool
is_semicolon (Sign Semicolon) = true
is_semicolon other = false

-- equalities, and a JOIN, a GROUP BY and an arm with what may be missing, go on
abbrev pub follow_equalities : Word → Bool
follow_equalities word = is_point word || is_and word

abbrev pub follow_join : Word → Bool
follow_join word = follow_equalities word || is_join word

abbrev pub follow_group : Word → Bool
follow_group word = follow_list is_point word || is_group word

abbrev pub follow_clauses : Word → Bool
follow_clauses word = follow_where word || follow_group word

abbrev pub follow_arm : Word → Bool
follow_arm word = follow_join word || follow_clauses word

abbrev pub follow_arms : Word → Bool
follow_arms word = follow_arm word || is_union word

abbrev pub follow_targets : Word → Bool
follow_targets word = follow_arms word || is_semicolon word

abbrev pub EqualitiesRule : Rule (List (Ref × Ref))
EqualitiesRule = Then (Marked (Part 1) EqualityRule) (λ e. Equalities 2 (e ∷ []))

abbrev pub ArmsRule : Rule (List Arm)
ArmsRule = Then ArmRule (λ a. Arms (a ∷ []))

abbrev pub TargetsRule : Rule (List Target)
TargetsRule = Then (Marked (TargetMark 1) TargetRule) (λ t. Targets 2 (t ∷ []))

-- [JOIN ..] [WHERE ..] [GROUP BY ..]
abbrev pub ClausesRule : Rule (Option JoinTree × Option (Cond Ref) × List Ref)
ClausesRule = Then JoinRule (λ join. Then WhereRule (λ cond. Then GroupRule (λ group. Return (join, cond, group))))
