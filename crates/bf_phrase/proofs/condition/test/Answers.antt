use Rattle.bf_phrase.proofs.Moves.{exit, told}
use Rattle.bf_phrase.proofs.Places.{length-words}
use Rattle.bf_phrase.proofs.Comparisons.{first_stop, first_read, sign_deep, sign_stop, sign_read, between_deep, between_go, low_stop, low_read, and_missing, high_stop, high_read, no_test}
use Rattle.bf_phrase.proofs.condition.test.Goals as goal

pub returns-in_err-first-clause-fits : goal.returns-in_err-first-clause-fits
returns-in_err-first-clause-fits c = exit _ c.from_residual.result _ c.from_residual.ensures.1 (first_stop c.args.count _ c.in_err-first.ensures.fits)

pub returns-in_err-next-in-Some-clause-fits : goal.returns-in_err-next-in-Some-clause-fits
returns-in_err-next-in-Some-clause-fits c =
    exit _ c.from_residual-in_err-next-in-Some.result _ c.from_residual-in_err-next-in-Some.ensures.1
    (told _ _ c.in_err-next-in-Some.ensures.fault (first_read c.args.count c.in_ok-first.ensures.fits
    (sign_deep c.in-Some.op _ (length-words c.in_ok-first.rest.text.now c.in_ok-first.rest.tokens.now) c.in_err-next-in-Some.ensures.deep c.in-Some.ensures.found)))

pub returns-in_err-second-in-Some-clause-fits : goal.returns-in_err-second-in-Some-clause-fits
returns-in_err-second-in-Some-clause-fits c =
    exit _ c.from_residual-in_err-second-in-Some.result _ c.from_residual-in_err-second-in-Some.ensures.1
    (first_read c.args.count c.in_ok-first.ensures.fits (sign_stop c.in-Some.op _ c.in_ok-next-in-Some.ensures.shallow c.in-Some.ensures.found c.in_err-second-in-Some.ensures.fits))

pub returns-in_err-next-in-Some-keyword-clause-fits : goal.returns-in_err-next-in-Some-keyword-clause-fits
returns-in_err-next-in-Some-keyword-clause-fits c =
    exit _ c.from_residual-in_err-next-in-Some-keyword.result _ c.from_residual-in_err-next-in-Some-keyword.ensures.1
    (told _ _ c.in_err-next-in-Some-keyword.ensures.fault (first_read c.args.count c.in_ok-first.ensures.fits
    (between_deep _ (length-words c.in_ok-first.rest.text.now c.in_ok-first.rest.tokens.now) c.in_err-next-in-Some-keyword.ensures.deep c.in-Some-keyword.ensures.found)))

pub returns-in_err-low-in-Some-keyword-clause-fits : goal.returns-in_err-low-in-Some-keyword-clause-fits
returns-in_err-low-in-Some-keyword-clause-fits c =
    exit _ c.from_residual-in_err-low-in-Some-keyword.result _ c.from_residual-in_err-low-in-Some-keyword.ensures.1
    (first_read c.args.count c.in_ok-first.ensures.fits
    (between_go c.in_ok-next-in-Some-keyword.ensures.shallow c.in-Some-keyword.ensures.found (low_stop c.args.count _ c.in_err-low-in-Some-keyword.ensures.fits)))

pub returns-in_err-behind-in-Some-keyword-clause-fits : goal.returns-in_err-behind-in-Some-keyword-clause-fits
returns-in_err-behind-in-Some-keyword-clause-fits c =
    exit _ c.from_residual-in_err-behind-in-Some-keyword.result _ c.from_residual-in_err-behind-in-Some-keyword.ensures.1
    (first_read c.args.count c.in_ok-first.ensures.fits
    (between_go c.in_ok-next-in-Some-keyword.ensures.shallow c.in-Some-keyword.ensures.found
    (low_read c.args.count c.in_ok-low-in-Some-keyword.ensures.fits (and_missing c.args.count c.in_err-behind-in-Some-keyword.ensures.found))))

pub returns-in_err-high-in-Some-keyword-clause-fits : goal.returns-in_err-high-in-Some-keyword-clause-fits
returns-in_err-high-in-Some-keyword-clause-fits c =
    exit _ c.from_residual-in_err-high-in-Some-keyword.result _ c.from_residual-in_err-high-in-Some-keyword.ensures.1
    (first_read c.args.count c.in_ok-first.ensures.fits
    (between_go c.in_ok-next-in-Some-keyword.ensures.shallow c.in-Some-keyword.ensures.found
    (low_read c.args.count c.in_ok-low-in-Some-keyword.ensures.fits
    (high_stop c.args.count _ c.in_ok-behind-in-Some-keyword.ensures.found c.in_err-high-in-Some-keyword.ensures.fits))))

pub returns-in_ok-second-in-Some-clause-fits : goal.returns-in_ok-second-in-Some-clause-fits
returns-in_ok-second-in-Some-clause-fits c =
    rw c.of.ensures (first_read c.args.count c.in_ok-first.ensures.fits
    (sign_read c.in-Some.op c.in_ok-next-in-Some.ensures.one_more c.in_ok-next-in-Some.ensures.shallow c.in-Some.ensures.found c.in_ok-second-in-Some.ensures.fits))

pub returns-in_ok-high-in-Some-keyword-clause-fits : goal.returns-in_ok-high-in-Some-keyword-clause-fits
returns-in_ok-high-in-Some-keyword-clause-fits c =
    rw c.of-in-Some-keyword.ensures (first_read c.args.count c.in_ok-first.ensures.fits
    (between_go c.in_ok-next-in-Some-keyword.ensures.shallow c.in-Some-keyword.ensures.found
    (low_read c.args.count c.in_ok-low-in-Some-keyword.ensures.fits
    (high_read c.args.count c.in_ok-next-in-Some-keyword.ensures.one_more c.in_ok-behind-in-Some-keyword.ensures.found c.in_ok-high-in-Some-keyword.ensures.fits))))

pub returns-in-None-keyword-clause-fits : goal.returns-in-None-keyword-clause-fits
returns-in-None-keyword-clause-fits c =
    first_read c.args.count c.in_ok-first.ensures.fits
    (no_test c.args.count _ (length-words c.in_ok-first.rest.text.now c.in_ok-first.rest.tokens.now) c.in-None.ensures.found c.in-None-keyword.ensures.found)
