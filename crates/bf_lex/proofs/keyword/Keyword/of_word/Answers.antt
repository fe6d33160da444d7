use Rattle.std.proofs.Common.{◌∙◌}
use Rattle.bf_base.specs.Names.{folded}
use Rattle.bf_lex.proofs.Keywords.{found, not_found}
use Rattle.bf_lex.proofs.keyword.Keyword.of_word.Goals as goal

pub returns-in_err-number_of_word : goal.returns-in_err-number_of_word
returns-in_err-number_of_word c = c.from_residual.ensures ∙ not_found (folded c.args.word.now) c.in_err-number_of_word.ensures.none

pub returns : goal.returns
returns c = found (folded c.args.word.now) c.in_ok-number_of_word.field-0 c.of_number.result c.in_ok-number_of_word.ensures.found (λ k. (c.of_number.ensures k).1)
