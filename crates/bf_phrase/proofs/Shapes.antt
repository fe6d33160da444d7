-- What columns and items can be.
use Rattle.bf_phrase.specs.Expressions.{RefRule}
use Rattle.bf_phrase.specs.Items.{AsRule, ItemRule}
use Rattle.bf_phrase.proofs.Chains.{sum_can}
use Rattle.bf_phrase.proofs.Moves.{Can, return_can, after_can, named_can, then_can, left_can}

pub ref_can : Can RefRule
ref_can = named_can (λ n. left_can return_can)

pub as_can : Can AsRule
as_can = after_can (named_can (λ n. return_can))

pub item_can : Can ItemRule
item_can = left_can (then_can (sum_can {n = 0}) (λ x. left_can (then_can as_can (λ n. return_can))))
