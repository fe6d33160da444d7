use Rattle.std.proofs.Common.{◌∷◌, ◌++◌, List, [], ap, ◌∙◌, arith}
use Rattle.bf_tree.specs.declared.migration.Target.{Target}
use Rattle.bf_phrase.specs.declared.error.ReadStop.TheVariants.{Memory}
use Rattle.bf_parse.proofs.TargetParts.{targets_end, targets_first, targets_full_at, targets_next, targets_next_stop_at, targets_stop}
use Rattle.bf_phrase.proofs.Moves.{exit}
use Rattle.bf_parse.proofs.migrate.targets.Goals as goal

pub returns-in_err-first-clause-fits : goal.returns-in_err-first-clause-fits
returns-in_err-first-clause-fits c = exit _ c.from_residual.result _ c.from_residual.ensures.1 (targets_stop _ c.in_err-first.ensures.fits)

pub returns-in_err-push-clause-fits : goal.returns-in_err-push-clause-fits
returns-in_err-push-clause-fits c = exit _ c.from_residual-in_err-push.result Memory c.from_residual-in_err-push.ensures.1 (record { it = tt })

pub targets-init : goal.targets-init
targets-init c = record {
  place = c.in_ok-first.ensures.place;
  shorter = c.in_ok-first.ensures.shorter;
  fits = λ r f. targets_first c.in_ok-first.ensures.fits (c.in_ok-push.ensures.items ∙ ap (λ (z : List Target). z ++ c.in_ok-first.first ∷ []) c.new-found.ensures.items) f;
}

pub returns-in_err-expect_room-clause-fits : goal.returns-in_err-expect_room-clause-fits
returns-in_err-expect_room-clause-fits c =
    exit _ c.from_residual-in_err-expect_room.result _ c.from_residual-in_err-expect_room.ensures.1
    (c.targets.invariant.fits _ (targets_full_at c.targets.found.items _ (omega (arith, c.len.ensures, c.targets.found.ok)) c.in-Some.ensures.found c.in_err-expect_room.ensures.full))

pub returns-in_err-next-clause-fits : goal.returns-in_err-next-clause-fits
returns-in_err-next-clause-fits c =
    exit _ c.from_residual-in_err-next.result _ c.from_residual-in_err-next.ensures.1
    (c.targets.invariant.fits _ (targets_next_stop_at c.targets.found.items _ (omega (arith, c.len.ensures, c.targets.found.ok)) c.in_ok-expect_room.ensures.room c.in-Some.ensures.found c.in_err-next.ensures.fits))

pub returns-in_err-push-2-clause-fits : goal.returns-in_err-push-2-clause-fits
returns-in_err-push-2-clause-fits c = exit _ c.from_residual-in_err-push-2.result Memory c.from_residual-in_err-push-2.ensures.1 (record { it = tt })

pub targets-preserved : goal.targets-preserved
targets-preserved c = record {
  place = c.in_ok-next.ensures.place;
  shorter = omega (arith, c.in-Some.ensures.shorter, c.in_ok-next.ensures.shorter, c.targets.invariant.shorter);
  fits = λ r f.
      c.targets.invariant.fits r
      (targets_next c.targets.found.items (omega (arith, c.len.ensures, c.targets.found.ok)) c.in_ok-expect_room.ensures.room c.in-Some.ensures.found c.in_ok-next.ensures.fits c.in_ok-push-2.ensures.items f);
}

pub targets-smaller : goal.targets-smaller
targets-smaller c = omega (arith, c.in-Some.ensures.shorter, c.in_ok-next.ensures.shorter)

pub returns-clause-fits : goal.returns-clause-fits
returns-clause-fits c = c.targets.invariant.fits _ (targets_end c.in_default.ensures.found)

pub returns-clause-place : goal.returns-clause-place
returns-clause-place c = c.targets.invariant.place

pub returns-clause-shorter : goal.returns-clause-shorter
returns-clause-shorter c = c.targets.invariant.shorter
