use Rattle.std.proofs.Common.{◌∷◌, ◌++◌, List, [], ap, ◌∙◌, arith}
use Rattle.bf_tree.specs.declared.raw.Ref.{Ref}
use Rattle.bf_parse.proofs.ArmParts.{equalities_end, equalities_first, equalities_full, equalities_next, equalities_next_stop, equalities_stop}
use Rattle.bf_phrase.proofs.Moves.{exit}
use Rattle.bf_parse.proofs.arm.equalities.Goals as goal

pub returns-in_err-first-clause-fits : goal.returns-in_err-first-clause-fits
returns-in_err-first-clause-fits c = exit _ c.from_residual.result _ c.from_residual.ensures.1 (equalities_stop _ c.in_err-first.ensures.fits)

pub equalities-init : goal.equalities-init
equalities-init c = record {
  place = c.in_ok-first.ensures.place;
  shorter = c.in_ok-first.ensures.shorter;
  fits = λ r f. equalities_first c.in_ok-first.ensures.fits (c.in_ok-push.ensures.items ∙ ap (λ (z : List (Ref × Ref)). z ++ c.in_ok-first.first ∷ []) c.new-found.ensures.items) f;
}

pub returns-in_err-room-clause-fits : goal.returns-in_err-room-clause-fits
returns-in_err-room-clause-fits c =
    exit _ c.from_residual-in_err-room.result _ c.from_residual-in_err-room.ensures.1
    (c.equalities.invariant.fits _ (equalities_full c.in-Some.behind _ _ c.in-Some.ensures.place c.in-Some.ensures.found c.begins_name.ensures (omega (arith, c.len.ensures, c.equalities.found.ok, c.in_err-room.ensures.full)) c.in_err-room.ensures.fault))

pub returns-in_err-next-clause-fits : goal.returns-in_err-next-clause-fits
returns-in_err-next-clause-fits c =
    exit _ c.from_residual-in_err-next.result _ c.from_residual-in_err-next.ensures.1
    (c.equalities.invariant.fits _ (equalities_next_stop _ (omega (arith, c.len.ensures, c.equalities.found.ok, c.in_ok-room.ensures.room)) c.in-Some.ensures.found c.in_err-next.ensures.fits))

pub equalities-preserved : goal.equalities-preserved
equalities-preserved c = record {
  place = c.in_ok-next.ensures.place;
  shorter = omega (arith, c.in-Some.ensures.shorter, c.in_ok-next.ensures.shorter, c.equalities.invariant.shorter);
  fits = λ r f. c.equalities.invariant.fits r (equalities_next c.equalities.found.items (omega (arith, c.len.ensures, c.equalities.found.ok, c.in_ok-room.ensures.room)) c.in-Some.ensures.found c.in_ok-next.ensures.fits c.in_ok-push-2.ensures.items f);
}

pub returns-clause-fits : goal.returns-clause-fits
returns-clause-fits c = c.equalities.invariant.fits _ (equalities_end c.in_default.ensures.found)
