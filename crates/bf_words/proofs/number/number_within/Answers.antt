use Rattle.std.specs.Str.Parse.{without_leading_plus}
use Rattle.std.proofs.Common.{arith}
use Rattle.bf_words.proofs.Numbers.{is_limited, none_limited}
use Rattle.bf_words.proofs.number.number_within.Goals as goal

pub returns-in-Ok-clause-exact : goal.returns-in-Ok-clause-exact
returns-in-Ok-clause-exact c =
    let parsed = c.in-Ok.ensures.value.0 in
    is_limited c.args.least c.args.most (without_leading_plus c.args.word.now) c.in-Ok.number parsed.0.0 parsed.1 c.if-least-number.true c.if-number-most.true

pub returns-in_default-3-clause-exact : goal.returns-in_default-3-clause-exact
returns-in_default-3-clause-exact c =
    none_limited c.args.least c.args.most (without_leading_plus c.args.word.now)
    (λ numeral low high. c.in_default.ensures.value.0 (numeral, omega (arith, c.ranges.most.fits)))
