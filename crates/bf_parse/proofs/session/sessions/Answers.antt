use Rattle.std.proofs.Common.{◌∙◌, refl, ap, arith}
use Rattle.bf_parse.specs.Scripts.{Progress}
use Rattle.bf_phrase.proofs.Moves.{exit, lost, told}
use Rattle.bf_phrase.proofs.Places.{length-words}
use Rattle.bf_parse.proofs.SessionLists.{session_over, session_open, session_stop, session_more, sessions_end}
use Rattle.bf_parse.proofs.session.sessions.Goals as goal

pub sessions-init : goal.sessions-init
sessions-init c = record { place = c.requires; shorter = omega arith; phases = refl; fits = λ r f. f }

pub returns-in_err-expect_room-clause-fits : goal.returns-in_err-expect_room-clause-fits
returns-in_err-expect_room-clause-fits c =
    exit _ c.from_residual.result _ c.from_residual.ensures.1
    (told _ _ c.in_err-expect_room.ensures.fault
    (c.sessions.invariant.fits _ (session_over _ (length-words c.sessions.rest.text.now c.sessions.rest.tokens.now) c.in_err-expect_room.ensures.over c.in-Some.ensures.found)))

pub returns-in_err-behind-clause-fits : goal.returns-in_err-behind-clause-fits
returns-in_err-behind-clause-fits c =
    exit _ c.from_residual-in_err-behind.result _ c.from_residual-in_err-behind.ensures.1
    (c.sessions.invariant.fits _ (session_open c.in_ok-expect_room.ensures.room c.in-Some.ensures.found c.in_err-behind.ensures.found))

pub returns-in_err-found-clause-fits : goal.returns-in_err-found-clause-fits
returns-in_err-found-clause-fits c =
    exit _ c.from_residual-in_err-found.result _ c.from_residual-in_err-found.ensures.1
    (c.sessions.invariant.fits _ (session_stop _ c.in_ok-expect_room.ensures.room c.in-Some.ensures.found c.in_ok-behind.ensures.found c.in_err-found.ensures.fits))

pub returns-in_err-so_far-clause-fits : goal.returns-in_err-so_far-clause-fits
returns-in_err-so_far-clause-fits c = exit _ c.from_residual-in_err-so_far.result _ c.from_residual-in_err-so_far.ensures.1 (lost _ c.in_err-so_far.ensures.memory)

pub sessions-preserved : goal.sessions-preserved
sessions-preserved c = record {
  place = c.in_ok-found.ensures.place;
  shorter = omega (arith, c.in-Some.ensures.shorter, c.in_ok-behind.ensures.shorter, c.in_ok-found.ensures.shorter, c.sessions.invariant.shorter);
  phases = ap (λ (p : Progress). p.phases) c.in_ok-so_far.ensures.value ∙ c.sessions.invariant.phases;
  fits = λ r f. c.sessions.invariant.fits r (session_more c.in_ok-expect_room.ensures.room c.in-Some.ensures.found c.in_ok-behind.ensures.found c.in_ok-found.ensures.fits c.in_ok-so_far.ensures.value f);
}

pub sessions-smaller : goal.sessions-smaller
sessions-smaller c = omega (arith, c.in-Some.ensures.shorter, c.in_ok-behind.ensures.shorter, c.in_ok-found.ensures.shorter)

pub returns-clause-fits : goal.returns-clause-fits
returns-clause-fits c = c.sessions.invariant.fits _ (sessions_end c.in_default.ensures.found)

pub returns-clause-place : goal.returns-clause-place
returns-clause-place c = c.sessions.invariant.place

pub returns-clause-shorter : goal.returns-clause-shorter
returns-clause-shorter c = c.sessions.invariant.shorter

pub returns-clause-phases : goal.returns-clause-phases
returns-clause-phases c = c.sessions.invariant.phases
