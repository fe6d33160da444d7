-- One session more was looked at.
use Rattle.std.proofs.Common.{◌+◌, sym, subst, ◌∙◌, arith, inl, inr}
use Rattle.std.proofs.lemmas.Bool.{cases_eq}
use Rattle.bf_machine.specs.interleaving.Serving.{CannotGo}
use Rattle.bf_machine.proofs.serving.first_to_go.Goals as goal

pub loop-place-preserved : goal.loop-place-preserved
loop-place-preserved g c =
    let m = c.args.machine.now in
    let next = c.loop-place.place + 1 in
    λ s low high. elim (cases_eq s next) as (λ _. CannotGo m s) [
      | inl same ↦ subst (CannotGo m) (sym same) (c.stand.result, c.stand.ensures, sym c.can_go.ensures ∙ c.if-can_go.false)
      | inr apart ↦ c.loop-place.invariant s low (omega (arith, high, apart))
    ]
