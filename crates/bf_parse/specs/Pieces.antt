-- Rules of pieces of statements, as the functions that read them have them.
use Rattle.std.specs.Prelude.{List}
use Rattle.bf_lex.specs.declared.keyword.Keyword.TheVariants as keyword
use Rattle.bf_lex.specs.declared.sign.Sign.TheVariants as sign
use Rattle.bf_tree.specs.declared.statement.ColumnRule.{ColumnRule}
use Rattle.bf_tree.specs.declared.statement.Statement.{Statement}
use Rattle.bf_phrase.specs.Rules.{Rule, Return, Either, Then, Listed}
use Rattle.bf_phrase.specs.Phrases.{AfterKeyword, AfterSign}
use Rattle.bf_phrase.specs.Columns.{ColumnRuleRule}
use Rattle.bf_parse.specs.Statements.{TableRule, IndexRuleRule}

-- column,+ , PRIMARY
abbrev pub ColumnsRule : Rule (List ColumnRule)
ColumnsRule = Then (Listed ColumnRuleRule) (λ columns. AfterSign sign.Comma (AfterKeyword keyword.Primary (Return columns)))

abbrev pub CreateRule : Rule Statement
CreateRule = AfterKeyword keyword.Create (Either TableRule IndexRuleRule)
