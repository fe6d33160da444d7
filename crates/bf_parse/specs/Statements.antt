-- STATEMENTS, but for MIGRATE.
use Rattle.std.specs.Prelude.{◌≡◌, List, [], ◌∷◌, ◌++◌}
use Rattle.bf_base.specs.declared.value.Value.{Value}
use Rattle.bf_lex.specs.declared.keyword.Keyword.TheVariants as keyword
use Rattle.bf_lex.specs.declared.sign.Sign.TheVariants as sign
use Rattle.bf_tree.specs.declared.raw.Ref.{Ref}
use Rattle.bf_tree.specs.Trees.{Expr}
use Rattle.bf_tree.specs.declared.items.Items.{Items}
use Rattle.bf_tree.specs.declared.items.Items.TheVariants as items
use Rattle.bf_tree.specs.declared.statement.Statement.{Statement}
use Rattle.bf_tree.specs.declared.statement.Statement.TheVariants as statement
use Rattle.bf_phrase.specs.Words as word
use Rattle.bf_phrase.specs.Steps.{Step, Say}
use Rattle.bf_phrase.specs.Rules.{Rule, Return, Named, Either, Then, Listed}
use Rattle.bf_phrase.specs.Conditions.{LiteralRule}
use Rattle.bf_phrase.specs.Phrases.{AfterKeyword, AfterSign, NameRule, Enclosed, ExprRule, WhereRule, AggregateRule, SetRule}
use Rattle.bf_phrase.specs.Columns.{ColumnRuleRule}

-- part ( , part )* of any number
pub data Further {A : Type 0} (rule : Rule A) : List A → List Step → List A → Type 0 where
  no_more : {before : List A} {steps : List Step} {all : List A} → steps ≡ [] → all ≡ before → Further rule before steps all
  more : {before : List A} {steps : List Step} {all : List A} (front back : List Step) (a : A) → rule front a → Further rule (before ++ a ∷ []) back all
      → steps ≡ Say (word.Sign sign.Comma) ∷ (front ++ back) → Further rule before steps all

abbrev pub Several : {A : Type 0} → Rule A → Rule (List A)
Several rule = Then rule (λ a. Further rule (a ∷ []))

-- TABLE name ( column,+ , PRIMARY KEY ( name,+ ) )
abbrev pub TableRule : Rule Statement
TableRule = AfterKeyword keyword.Table (Named (λ name. AfterSign sign.OpeningParenthesis (Then (Listed ColumnRuleRule) (λ columns.
    AfterSign sign.Comma (AfterKeyword keyword.Primary (AfterKeyword keyword.Key (Enclosed (Listed NameRule) (λ key.
    AfterSign sign.ClosingParenthesis (Return (statement.CreateTable name columns key))))))))))

-- INDEX name ON name ( name,+ )
abbrev pub IndexRuleRule : Rule Statement
IndexRuleRule = AfterKeyword keyword.Index (Named (λ name. AfterKeyword keyword.On (Named (λ table. Enclosed (Listed NameRule) (λ columns. Return (statement.CreateIndex name table columns))))))

-- ( literal,+ )
abbrev pub TupleRule : Rule (List Value)
TupleRule = Enclosed (Listed LiteralRule) (λ tuple. Return tuple)

-- INSERT INTO name VALUES tuple,+
abbrev pub InsertRule : Rule Statement
InsertRule = AfterKeyword keyword.Insert (AfterKeyword keyword.Into (Named (λ table. AfterKeyword keyword.Values (Then (Several TupleRule) (λ tuples. Return (statement.Insert table tuples))))))

-- * | expr,+ | aggregate,+
abbrev pub ListRule : Rule (Items (Expr Ref))
ListRule = Either (AfterSign sign.Star (Return items.All))
    (Either (Then (Listed ExprRule) (λ es. Return (items.Exprs es)))
    (Then (Listed AggregateRule) (λ totals. Return (items.Aggregates totals))))

-- SELECT list FROM name [WHERE cond]
abbrev pub SelectRule : Rule Statement
SelectRule = AfterKeyword keyword.Select (Then ListRule (λ list. AfterKeyword keyword.From (Named (λ table. Then WhereRule (λ cond. Return (statement.Select list table cond))))))

-- UPDATE name SET set,+ [WHERE cond]
abbrev pub UpdateRule : Rule Statement
UpdateRule = AfterKeyword keyword.Update (Named (λ table. AfterKeyword keyword.Set (Then (Listed SetRule) (λ sets. Then WhereRule (λ cond. Return (statement.Update table sets cond))))))

-- DELETE FROM name [WHERE cond]
abbrev pub DeleteRule : Rule Statement
DeleteRule = AfterKeyword keyword.Delete (AfterKeyword keyword.From (Named (λ table. Then WhereRule (λ cond. Return (statement.Delete table cond)))))

-- any statement but MIGRATE
abbrev pub OrdinaryRule : Rule Statement
OrdinaryRule = Either (AfterKeyword keyword.Create (Either TableRule IndexRuleRule))
    (Either InsertRule (Either SelectRule (Either UpdateRule (Either DeleteRule
    (Either (AfterKeyword keyword.Begin (Return statement.Begin))
    (Either (AfterKeyword keyword.Commit (Return statement.Commit))
    (AfterKeyword keyword.Rollback (Return statement.Rollback))))))))
