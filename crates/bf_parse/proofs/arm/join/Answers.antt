use Rattle.bf_parse.proofs.ArmParts.{join_open, join_read, join_stop, join_unnamed, no_join}
use Rattle.bf_phrase.proofs.Moves.{exit}
use Rattle.bf_parse.proofs.arm.join.Goals as goal

pub returns-in-None-clause-fits : goal.returns-in-None-clause-fits
returns-in-None-clause-fits c = no_join c.in-None.ensures.found

pub returns-in_err-table-in-Some-clause-fits : goal.returns-in_err-table-in-Some-clause-fits
returns-in_err-table-in-Some-clause-fits c = exit _ c.from_residual.result _ c.from_residual.ensures.1 (join_unnamed c.in-Some.ensures.found c.in_err-table-in-Some.ensures.found)

pub returns-in_err-rest-in-Some-clause-fits : goal.returns-in_err-rest-in-Some-clause-fits
returns-in_err-rest-in-Some-clause-fits c =
    exit _ c.from_residual-in_err-rest-in-Some.result _ c.from_residual-in_err-rest-in-Some.ensures.1 (join_open c.in-Some.ensures.found c.in_ok-table-in-Some.ensures.found c.in_err-rest-in-Some.ensures.found)

pub returns-in_err-found-in-Some-clause-fits : goal.returns-in_err-found-in-Some-clause-fits
returns-in_err-found-in-Some-clause-fits c =
    exit _ c.from_residual-in_err-found-in-Some.result _ c.from_residual-in_err-found-in-Some.ensures.1
    (join_stop _ c.in-Some.ensures.found c.in_ok-table-in-Some.ensures.found c.in_ok-rest-in-Some.ensures.found c.in_err-found-in-Some.ensures.fits)

pub returns-in_ok-found-in-Some-clause-fits : goal.returns-in_ok-found-in-Some-clause-fits
returns-in_ok-found-in-Some-clause-fits c =
    rw c.of-on.ensures (join_read c.in-Some.ensures.found c.in_ok-table-in-Some.ensures.found c.in_ok-rest-in-Some.ensures.found c.in_ok-found-in-Some.ensures.fits)
