-- Worked examples of how operators group. Words stand for a text; the tree is what they spell.
use Rattle.std.specs.Prelude.{◌≡◌, ℕ, pos, true, List, None}
use Rattle.bf_base.specs.declared.value.Value.TheVariants as value
use Rattle.bf_tree.specs.declared.compare.Compare.TheVariants.{Equal}
use Rattle.bf_tree.specs.declared.raw.Ref.{Ref}
use Rattle.bf_tree.specs.Trees.{Expr, literal, column, Cond, compared}
use Rattle.bf_phrase.specs.Words.{Word}
use Rattle.bf_phrase.specs.Steps.{Step, said, within}
use Rattle.bf_phrase.specs.Rules.{Rule}
use Rattle.bf_phrase.specs.Expressions.{Sum, ref_to}
use Rattle.bf_phrase.specs.Conditions.{Disjunction}

-- steps with these words spell the tree, no limit among them is reached, and no steps with these words spell another tree
pub record Spell {A : Type 0} (rule : Rule (A × ℕ)) (words : List Word) (tree : A) : Type 0 where
  pub steps : List Step
  pub count : ℕ
  pub say : said steps ≡ words
  pub inside : within steps ≡ true
  pub spells : rule steps (tree, count)
  pub only : (others : List Step) (x : A × ℕ) → rule others x → said others ≡ words → x.0 ≡ tree

abbrev pub SpellExpr : List Word → Expr Ref → Type 0
SpellExpr = Spell (Sum 0)

abbrev pub SpellCond : List Word → Cond Ref → Type 0
SpellCond = Spell (Disjunction 0)

abbrev pub int : ℕ → Expr Ref
int k = literal (value.Int (pos k))

abbrev pub text : List ℕ → Expr Ref
text t = literal (value.Text t)

abbrev pub named : List ℕ → Expr Ref
named name = column (ref_to None name)

-- name = k
abbrev pub is : List ℕ → ℕ → Cond Ref
is name k = compared Equal (named name) (int k)
