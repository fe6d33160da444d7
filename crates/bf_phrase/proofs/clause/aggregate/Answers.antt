use Rattle.bf_phrase.proofs.Moves.{exit}
use Rattle.bf_phrase.proofs.Places.{length-words}
use Rattle.bf_phrase.proofs.Phrases.{aggregate_none, count_first, enclosed_fault, enclosed_value, keyword_behind, max_first, min_first, no_aggregate, no_aggregate_keyword, sum_first}
use Rattle.bf_phrase.proofs.clause.aggregate.Goals as goal

pub returns-in-None-clause-fits : goal.returns-in-None-clause-fits
returns-in-None-clause-fits c = aggregate_none _ (length-words c.args.cursor.text.now c.args.cursor.tokens.now) (no_aggregate_keyword _ c.in-None.ensures.found)

pub returns-in_err-rest-in-Count-clause-fits : goal.returns-in_err-rest-in-Count-clause-fits
returns-in_err-rest-in-Count-clause-fits c = exit _ c.from_residual.result _ c.from_residual.ensures.1 (count_first (keyword_behind c.in-Some.ensures.found c.in-Count.is) c.in_err-rest-in-Count.ensures.fits)

pub returns-in_err-expr-in-Sum-clause-fits : goal.returns-in_err-expr-in-Sum-clause-fits
returns-in_err-expr-in-Sum-clause-fits c = exit _ c.from_residual-in_err-expr-in-Sum.result _ c.from_residual-in_err-expr-in-Sum.ensures.1 (sum_first (keyword_behind c.in-Some.ensures.found c.in-Sum.is) (enclosed_fault _ c.in_err-expr-in-Sum.ensures.fits))

pub returns-in_err-expr-in-Min-clause-fits : goal.returns-in_err-expr-in-Min-clause-fits
returns-in_err-expr-in-Min-clause-fits c = exit _ c.from_residual-in_err-expr-in-Min.result _ c.from_residual-in_err-expr-in-Min.ensures.1 (min_first (keyword_behind c.in-Some.ensures.found c.in-Min.is) (enclosed_fault _ c.in_err-expr-in-Min.ensures.fits))

pub returns-in_err-expr-in-Max-clause-fits : goal.returns-in_err-expr-in-Max-clause-fits
returns-in_err-expr-in-Max-clause-fits c = exit _ c.from_residual-in_err-expr-in-Max.result _ c.from_residual-in_err-expr-in-Max.ensures.1 (max_first (keyword_behind c.in-Some.ensures.found c.in-Max.is) (enclosed_fault _ c.in_err-expr-in-Max.ensures.fits))

pub returns-in_default-clause-fits : goal.returns-in_default-clause-fits
returns-in_default-clause-fits c = aggregate_none _ (length-words c.args.cursor.text.now c.args.cursor.tokens.now) (no_aggregate c.in-Some.ensures.found c.in_default.not-Count c.in_default.not-Sum c.in_default.not-Min c.in_default.not-Max)

pub returns-in_ok-rest-in-Count-clause-fits : goal.returns-in_ok-rest-in-Count-clause-fits
returns-in_ok-rest-in-Count-clause-fits c = count_first (keyword_behind c.in-Some.ensures.found c.in-Count.is) c.in_ok-rest-in-Count.ensures.fits

pub returns-in_ok-expr-in-Sum-clause-fits : goal.returns-in_ok-expr-in-Sum-clause-fits
returns-in_ok-expr-in-Sum-clause-fits c = sum_first (keyword_behind c.in-Some.ensures.found c.in-Sum.is) (enclosed_value c.in_ok-expr-in-Sum.ensures.fits)

pub returns-in_ok-expr-in-Min-clause-fits : goal.returns-in_ok-expr-in-Min-clause-fits
returns-in_ok-expr-in-Min-clause-fits c = min_first (keyword_behind c.in-Some.ensures.found c.in-Min.is) (enclosed_value c.in_ok-expr-in-Min.ensures.fits)

pub returns-in_ok-expr-in-Max-clause-fits : goal.returns-in_ok-expr-in-Max-clause-fits
returns-in_ok-expr-in-Max-clause-fits c = max_first (keyword_behind c.in-Some.ensures.found c.in-Max.is) (enclosed_value c.in_ok-expr-in-Max.ensures.fits)
