use Rattle.std.proofs.Common.{◌∙◌, List, [], ◌∷◌, ◌++◌, ap, subst, sym, append_assoc}
use Rattle.bf_drive.specs.Lists.{Entry}
use Rattle.bf_trackers.specs.Holding.{AreFinished, HoldClaims}
use Rattle.bf_trackers.proofs.Holding.{finished_more}
use Rattle.bf_trackers.proofs.Lists.{none_left, none_popped, popped}
use Rattle.bf_trackers.proofs.units.UnitTrackers.end_all.Goals as goal

pub end-requires : goal.end-requires
end-requires g c =
    let same = popped c.loop-granule.wip c.pop.new.self (c.in-Some.granule, c.in-Some.claim) c.in-Some.ensures.last c.pop.ensures.rest in
    record { holds = (c.pop.new.self, subst (λ (es : List Entry). HoldClaims c.args.self.now c.loop-granule.seats es) (sym same) c.loop-granule.invariant.holds) }

pub loop-granule-preserved-in-Some : goal.loop-granule-preserved-in-Some
loop-granule-preserved-in-Some g c =
    let same = popped c.loop-granule.wip c.pop.new.self (c.in-Some.granule, c.in-Some.claim) c.in-Some.ensures.last c.pop.ensures.rest in
    let inv = c.loop-granule.invariant in
    record {
      holds = c.end.ensures.holds c.pop.new.self (subst (λ (es : List Entry). HoldClaims c.args.self.now c.loop-granule.seats es) (sym same) inv.holds);
      finished = (
        (c.in-Some.granule, c.in-Some.claim) ∷ inv.finished.0,
        sym (append_assoc c.pop.new.self ((c.in-Some.granule, c.in-Some.claim) ∷ []) inv.finished.0) ∙ ap (λ (es : List Entry). es ++ inv.finished.0) same ∙ inv.finished.1,
        finished_more c.args.ending (c.in-Some.granule, c.in-Some.claim) inv.finished.0 c.args.seats.now c.loop-granule.seats c.end.new.seats inv.finished.2 c.end.ensures.finished,
      );
    }

pub loop-granule-preserved : goal.loop-granule-preserved
loop-granule-preserved g c =
    let same = popped c.loop-granule.wip c.pop.new.self (c.in-Some.granule, c.in-Some.claim) c.in-Some.ensures.last c.pop.ensures.rest in
    let inv = c.loop-granule.invariant in
    record {
      holds = c.end.ensures.holds c.pop.new.self (subst (λ (es : List Entry). HoldClaims c.args.self.now c.loop-granule.seats es) (sym same) inv.holds);
      finished = (
        (c.in-Some.granule, c.in-Some.claim) ∷ inv.finished.0,
        sym (append_assoc c.pop.new.self ((c.in-Some.granule, c.in-Some.claim) ∷ []) inv.finished.0) ∙ ap (λ (es : List Entry). es ++ inv.finished.0) same ∙ inv.finished.1,
        finished_more c.args.ending (c.in-Some.granule, c.in-Some.claim) inv.finished.0 c.args.seats.now c.loop-granule.seats c.end.new.seats inv.finished.2 c.end.ensures.finished,
      );
    }

pub end-requires-2 : goal.end-requires-2
end-requires-2 g c = none_left c.loop-granule.wip c.pop.new.self c.in_default.ensures.last c.pop.ensures.rest

pub returns-clause-spent : goal.returns-clause-spent
returns-clause-spent g c =
    subst (λ (es : List Entry). HoldClaims c.args.self.now c.loop-granule.seats es) (none_popped c.loop-granule.wip c.in_default.ensures.last) c.loop-granule.invariant.holds

pub returns-clause-finished : goal.returns-clause-finished
returns-clause-finished g c = λ unit.
    let spent = c.loop-granule.invariant.finished in
    let all = sym (ap (λ (es : List Entry). es ++ spent.0) (none_popped c.loop-granule.wip c.in_default.ensures.last)) ∙ spent.1 in
    subst (λ (es : List Entry). AreFinished c.args.ending es c.args.seats.now c.loop-granule.seats) all spent.2 unit
