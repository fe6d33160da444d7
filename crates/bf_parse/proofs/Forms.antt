-- Names and tuples between parentheses.
use Rattle.bf_phrase.specs.Rules.{Listed}
use Rattle.bf_phrase.specs.Phrases.{NameRule}
use Rattle.bf_parse.specs.Statements.{TupleRule, Several}
use Rattle.bf_phrase.proofs.Listings.{name_part, constant_part}
use Rattle.bf_phrase.proofs.Moves.{Can, return_can, after_can, then_can}
use Rattle.bf_phrase.proofs.Parts.{list_can}
use Rattle.bf_parse.proofs.Tuples.{further_can}

pub names_can : Can (Listed NameRule)
names_can = list_can name_part

tuple_can : Can TupleRule
tuple_can = after_can (then_can (list_can constant_part) (λ a. after_can return_can))

pub tuples_can : Can (Several TupleRule)
tuples_can = then_can tuple_can (λ a. further_can)
