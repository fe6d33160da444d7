-- What columns are declared to admit.
use Rattle.std.proofs.Common.{List, Some, None, refl}
use Rattle.bf_lex.specs.declared.keyword.Keyword.TheVariants as keyword
use Rattle.bf_tree.specs.declared.statement.ColumnForm.{ColumnForm}
use Rattle.bf_tree.specs.declared.statement.ColumnForm.TheVariants as form
use Rattle.bf_phrase.specs.Words.{Word, Keyword}
use Rattle.bf_phrase.specs.Rules.{Return, After}
use Rattle.bf_phrase.specs.Reading.{Reading, Read, Fits}
use Rattle.bf_phrase.specs.Outcome.{IsBehind}
use Rattle.bf_phrase.specs.Follow.{nothing, is_check}
use Rattle.bf_phrase.specs.Expressions.{NumberRule}
use Rattle.bf_phrase.specs.Columns.{CheckRule, FormRule}
use Rattle.bf_phrase.specs.Pieces.{RangeRule}
use Rattle.bf_phrase.specs.Phrases.{Enclosed}
use Rattle.bf_phrase.proofs.Maps.{wider, other_word}
use Rattle.bf_phrase.proofs.Moves.{Can, left_here, right_here, left_can, return_not_here, after_not_here, behind_go, return_fits, return_can, after_can, named_can, then_can}
use Rattle.bf_phrase.proofs.Numbers.{int_can}

pub range_can : Can RangeRule
range_can = named_can (λ n. after_can (then_can int_can (λ a. after_can (then_can int_can (λ b. return_can)))))

pub form_can : Can FormRule
form_can = left_can (after_can (left_can return_can))

pub int_plain : {ws rest : List Word} → IsBehind (Keyword keyword.Int) ws (Some rest) → IsBehind (Keyword keyword.Check) rest None → Fits is_check FormRule ws (Read form.Int rest)
int_plain h none = left_here (other_word h.it (λ d. cc)) (behind_go h (left_here (after_not_here none) return_fits))

pub int_checked : {ws rest behind : List Word} {r : Reading ColumnForm} → IsBehind (Keyword keyword.Int) ws (Some rest) → IsBehind (Keyword keyword.Check) rest (Some behind) → Fits nothing CheckRule rest r → Fits is_check FormRule ws r
int_checked h check f = left_here (other_word h.it (λ d. cc)) (behind_go h (right_here (return_not_here check refl) (wider (λ t e. refl) f)))

pub varchar_here : {ws : List Word} {r : Reading ColumnForm} → IsBehind (Keyword keyword.Int) ws None → Fits is_check (After (Keyword keyword.Varchar) (Enclosed NumberRule (λ n. Return (form.Varchar n)))) ws r → Fits is_check FormRule ws r
varchar_here h f = right_here (after_not_here h) f
