-- Rules of pieces of phrases, as the functions that read them have them.
use Rattle.std.specs.Prelude.{◌≡◌, Option, Some, None}
use Rattle.bf_lex.specs.declared.keyword.Keyword.TheVariants as keyword
use Rattle.bf_lex.specs.declared.sign.Sign.TheVariants as sign
use Rattle.bf_tree.specs.declared.items.Aggregate.{Aggregate}
use Rattle.bf_tree.specs.declared.items.Aggregate.TheVariants as aggregate
use Rattle.bf_tree.specs.declared.migration.Item.{Item}
use Rattle.bf_tree.specs.declared.migration.Item.TheVariants as item
use Rattle.bf_tree.specs.declared.raw.Ref.{Ref}
use Rattle.bf_tree.specs.declared.statement.ColumnForm.{ColumnForm}
use Rattle.bf_tree.specs.declared.statement.ColumnForm.TheVariants as form
use Rattle.bf_tree.specs.Trees.{Expr, column}
use Rattle.bf_phrase.specs.Rules.{Rule, Return, Named, Either, Then}
use Rattle.bf_phrase.specs.Expressions.{Counted}
use Rattle.bf_phrase.specs.Phrases.{AfterKeyword, AfterSign}
use Rattle.bf_phrase.specs.Columns.{IntRule}
use Rattle.bf_phrase.specs.Items.{AsRule, BareRule}

-- name BETWEEN signed AND signed
abbrev pub RangeRule : Rule ColumnForm
RangeRule = Named (λ checked. AfterKeyword keyword.Between (Then IntRule (λ low. AfterKeyword keyword.And (Then IntRule (λ high. Return (form.Checked checked low high))))))

-- ( * ), which is the number of rows
abbrev pub count : Aggregate (Expr Ref)
count = aggregate.Count

abbrev pub StarRule : Rule (Aggregate (Expr Ref))
StarRule = AfterSign sign.OpeningParenthesis (AfterSign sign.Star (AfterSign sign.ClosingParenthesis (Return count)))

-- what may stand behind an expression that is an item
abbrev pub ItemEnd : Counted → Rule Item
ItemEnd x = Either (Then AsRule (λ name. Return (item.Named x.0 name))) (BareRule x)

-- the ref that an expression is, where it is nothing else
abbrev pub HasBare : Counted → Option Ref → Type 0
HasBare x (Some ref) = x ≡ (column ref, 0)
HasBare x None = (ref : Ref) → x ≡ (column ref, 0) → ⊥

pub record IsBare (x : Counted) (found : Option Ref) : Type 0 where
  pub it : HasBare x found
