-- COLUMNS as CREATE TABLE declares them.
use Rattle.std.specs.Prelude.{ℕ, ℤ, List}
use Rattle.bf_base.specs.declared.value.Value.TheVariants as value
use Rattle.bf_lex.specs.declared.keyword.Keyword.TheVariants as keyword
use Rattle.bf_tree.specs.declared.statement.ColumnForm.{ColumnForm}
use Rattle.bf_tree.specs.declared.statement.ColumnForm.TheVariants as form
use Rattle.bf_tree.specs.declared.statement.ColumnRule.{ColumnRule}
use Rattle.bf_phrase.specs.Rules.{Rule, Return, Named, Either, Then}
use Rattle.bf_phrase.specs.Expressions.{NumberRule}
use Rattle.bf_phrase.specs.Conditions.{SignedRule}
use Rattle.bf_phrase.specs.Phrases.{AfterKeyword, Enclosed}

abbrev pub rule_of : List ℕ → ColumnForm → ColumnRule
rule_of name form = record { name = name; form = form }

-- signed, as the number that it is
abbrev pub IntRule : Rule ℤ
IntRule steps number = SignedRule steps (value.Int number)

-- CHECK ( name BETWEEN signed AND signed )
abbrev pub CheckRule : Rule ColumnForm
CheckRule = AfterKeyword keyword.Check (Enclosed
    (Named (λ checked. AfterKeyword keyword.Between (Then IntRule (λ low. AfterKeyword keyword.And (Then IntRule (λ high. Return (form.Checked checked low high)))))))
    (λ form. Return form))

-- INT [CHECK ..] | VARCHAR ( number )
abbrev pub FormRule : Rule ColumnForm
FormRule = Either
    (AfterKeyword keyword.Int (Either (Return form.Int) CheckRule))
    (AfterKeyword keyword.Varchar (Enclosed NumberRule (λ n. Return (form.Varchar n))))

abbrev pub ColumnRuleRule : Rule ColumnRule
ColumnRuleRule = Named (λ name. Then FormRule (λ form. Return (rule_of name form)))
