use Rattle.bf_parse.proofs.ArmParts.{group_open, group_read, no_group}
use Rattle.bf_phrase.proofs.Listings.{ref_part}
use Rattle.bf_phrase.proofs.Moves.{exit}
use Rattle.bf_parse.proofs.arm.group.Goals as goal

pub list-requires-clause-part : goal.list-requires-clause-part
list-requires-clause-part c = ref_part

pub returns-in-None-clause-fits : goal.returns-in-None-clause-fits
returns-in-None-clause-fits c = no_group c.in-None.ensures.found c.new.ensures.items

pub returns-in_err-rest-in-Some-clause-fits : goal.returns-in_err-rest-in-Some-clause-fits
returns-in_err-rest-in-Some-clause-fits c = exit _ c.from_residual.result _ c.from_residual.ensures.1 (group_open c.in-Some.ensures.found c.in_err-rest-in-Some.ensures.found)

pub returns-in_ok-rest-in-Some-clause-fits : goal.returns-in_ok-rest-in-Some-clause-fits
returns-in_ok-rest-in-Some-clause-fits c = group_read c.in-Some.ensures.found c.in_ok-rest-in-Some.ensures.found c.list.ensures.fits
