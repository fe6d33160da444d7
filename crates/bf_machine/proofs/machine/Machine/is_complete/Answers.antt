-- The sweep tells it, as the store is a lazy state.
use Rattle.std.proofs.Common.{refl, subst, sym, ◌∙◌}
use Rattle.std.specs.Prelude.{IsSomeAnd}
use Rattle.bf_store.specs.States.{IsComplete}
use Rattle.bf_machine.specs.interleaving.Machines.{Machine}
use Rattle.bf_machine.proofs.served.Enough.{complete_if_swept, swept_if_complete}
use Rattle.bf_machine.proofs.machine.Machine.is_complete.Goals as goal

pub returns-in-Complete : goal.returns-in-Complete
returns-in-Complete g c = (
  λ _.
      let lazy = c.self.inside.store.lazy in
      let complete = complete_if_swept lazy.live lazy.last c.self.invariant.0.kept.store_valid.seen_as.lazy_state.last c.in-Complete.migration c.in-Complete.moved (sym c.in-Complete.is ∙ c.sweep.ensures) in
      subst (λ (m : Machine). IsSomeAnd m.lazy.last IsComplete) c.self.view_is complete,
  λ _. refl,
)

pub returns-in_default : goal.returns-in_default
returns-in_default g c = (
  λ e. absurd cc,
  λ complete.
      let lazy = c.self.inside.store.lazy in
      let own = subst (λ (m : Machine). IsSomeAnd m.lazy.last IsComplete) (sym c.self.view_is) complete in
      let swept = swept_if_complete lazy.live lazy.last c.self.invariant.0.kept.store_valid.seen_as.lazy_state.last own in
      absurd (c.in_default.not-Complete swept.0 swept.1 (c.sweep.ensures ∙ swept.2)),
)
