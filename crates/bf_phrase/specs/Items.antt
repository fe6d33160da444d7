-- ITEMS of a MIGRATE.
use Rattle.std.specs.Prelude.{◌≡◌, ℕ, List}
use Rattle.bf_tree.specs.declared.raw.Ref.{Ref}
use Rattle.bf_tree.specs.Trees.{column}
use Rattle.bf_tree.specs.declared.migration.Item.{Item}
use Rattle.bf_tree.specs.declared.migration.Item.TheVariants as item
use Rattle.bf_phrase.specs.Rules.{Rule, Return, Either, Then, Named}
use Rattle.bf_phrase.specs.Expressions.{Counted, Sum}
use Rattle.bf_lex.specs.declared.keyword.Keyword.TheVariants as keyword
use Rattle.bf_phrase.specs.Phrases.{AfterKeyword, AggregateRule}

-- AS name
abbrev pub AsRule : Rule (List ℕ)
AsRule = AfterKeyword keyword.As (Named (λ name. Return name))

-- an expression that is a ref and nothing else: no parenthesis was counted
abbrev pub BareRule : Counted → Rule Item
BareRule x steps i = (ref : Ref) × (x ≡ (column ref, 0)) × Return (item.Column ref) steps i

-- ref | expr AS name | aggregate AS name
abbrev pub ItemRule : Rule Item
ItemRule = Either (Then (Sum 0) (λ x. Either (Then AsRule (λ name. Return (item.Named x.0 name))) (BareRule x)))
    (Then AggregateRule (λ total. Then AsRule (λ name. Return (item.Total total name))))
