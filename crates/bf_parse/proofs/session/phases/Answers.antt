use Rattle.std.proofs.Common.{◌≡◌, ◌+◌, ap, subst, arith}
use Rattle.bf_phrase.specs.Cursors.{words}
use Rattle.bf_phrase.specs.Reading.{Fits}
use Rattle.bf_parse.specs.StatementFollow.{follow_phases}
use Rattle.bf_parse.specs.Scripts.{Progress, Phases}
use Rattle.bf_phrase.proofs.Moves.{exit}
use Rattle.bf_parse.proofs.SessionLists.{phase_open, phase_stop, phase_more, phases_end}
use Rattle.bf_parse.proofs.session.phases.Goals as goal

pub phases-init : goal.phases-init
phases-init c =
    let none : c.new-so_far.result.phases ≡ 0 = ap (λ (p : Progress). p.phases) c.new-so_far.ensures in record {
      place = c.requires.place;
      few = omega arith;
      fits = λ r f. subst (λ (p : Progress). Fits follow_phases (Phases p) (words c.args.cursor) r) c.new-so_far.ensures f;
    }

pub returns-in_err-behind-clause-fits : goal.returns-in_err-behind-clause-fits
returns-in_err-behind-clause-fits c =
    exit _ c.from_residual.result _ c.from_residual.ensures.1 (c.phases.invariant.fits _ (phase_open c.in-Some.ensures.found c.in_err-behind.ensures.found))

pub with_phase-requires : goal.with_phase-requires
with_phase-requires c = omega (arith, c.in-Some.ensures.shorter, c.phases.invariant.few, c.requires.few)

pub returns-in_err-progress-clause-fits : goal.returns-in_err-progress-clause-fits
returns-in_err-progress-clause-fits c =
    exit _ c.from_residual-in_err-progress.result _ c.from_residual-in_err-progress.ensures.1
    (c.phases.invariant.fits _ (phase_stop _ c.in-Some.ensures.found c.in_ok-behind.ensures.found c.with_phase.ensures c.in_err-progress.ensures.fits))

pub phases-preserved : goal.phases-preserved
phases-preserved c =
    let next : c.with_phase.result.phases ≡ c.phases.so_far.phases + 1 = ap (λ (p : Progress). p.phases) c.with_phase.ensures in record {
      place = c.in_ok-progress.ensures.place;
      few = omega (arith, next, c.in_ok-progress.ensures.phases, c.in-Some.ensures.shorter, c.in_ok-behind.ensures.shorter, c.in_ok-progress.ensures.shorter, c.phases.invariant.few);
      fits = λ r f. c.phases.invariant.fits r (phase_more c.in-Some.ensures.found c.in_ok-behind.ensures.found c.with_phase.ensures c.in_ok-progress.ensures.fits f);
    }

pub phases-smaller : goal.phases-smaller
phases-smaller c = omega (arith, c.in-Some.ensures.shorter, c.in_ok-behind.ensures.shorter, c.in_ok-progress.ensures.shorter)

pub returns-clause-fits : goal.returns-clause-fits
returns-clause-fits c = c.phases.invariant.fits _ (phases_end c.in_default.ensures.found)

pub returns-clause-place : goal.returns-clause-place
returns-clause-place c = c.phases.invariant.place
