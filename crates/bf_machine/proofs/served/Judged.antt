-- How requests in a turn are answered: the youngest open group does not wait, and one that is alone is granted.
use Rattle.std.proofs.Common.{◌≡◌, ◌≢◌, ◌⊎◌, ℕ, ◌≤◌, List, Some, None, sym, ap, ◌∙◌, arith, inl, inr}
use Rattle.std.proofs.lemmas.Bool.{cases_eq}
use Rattle.std.proofs.lemmas.Option.{same_Some}
use Rattle.bf_locks.specs.declared.answer.LockAnswer.{LockAnswer}
use Rattle.bf_locks.specs.declared.answer.LockAnswer.TheVariants.{Die, Granted, Wait}
use Rattle.bf_sql.specs.Database.{Database}
use Rattle.bf_machine.specs.interleaving.Kept.{IsKept}
use Rattle.bf_machine.specs.interleaving.Machines.{Machine, Open, open_at}
use Rattle.bf_machine.specs.interleaving.Serving.{IsAlone, IsAsked, IsYoungest}
use Rattle.bf_machine.proofs.interleaving.Progress.{alone_is_granted, youngest_never_waits}
use Rattle.bf_machine.proofs.interleaving.Reaching.{reached_keeps_all}

module _ {start : Database} (m : Machine) (kept : IsKept start m) (s : ℕ) where
  module _ (answer : LockAnswer) (asked : IsAsked m s start answer) where
    kept_now : IsKept start asked.now
    kept_now = reached_keeps_all start m asked.now kept asked.reached

    -- the session's own group, or one that was open
    own_or_was : (t : ℕ) (p : Open) → open_at asked.now t ≡ Some p → (p ≡ asked.o) ⊎ ((t ≢ s) × (open_at m t ≡ Some p))
    own_or_was t p is = elim (cases_eq t s) as (λ _. (p ≡ asked.o) ⊎ ((t ≢ s) × (open_at m t ≡ Some p))) [
      | inl same ↦ inl (same_Some p asked.o (sym is ∙ (ap (open_at asked.now) same ∙ asked.is)))
      | inr apart ↦ inr (apart, sym (asked.serves.beside t apart).0 ∙ is)
    ]

    pub alone_granted : IsAlone m s → answer ≡ Granted
    alone_granted alone =
        alone_is_granted start asked.now kept_now s asked.o asked.is asked.name asked.mode
        (λ t p is. elim (own_or_was t p is) as (λ _. p.start ≡ asked.o.start) [
          | inl same ↦ ap (λ (o : Open). o.start) same
          | inr other ↦
              let clash : None ≡ Some p = sym (alone t other.0) ∙ other.1 in
              absurd cc
        ])
        answer asked.judged

  pub youngest_goes_on : IsYoungest m s → (others : List ℕ) → IsAsked m s start (Wait others) → ⊥
  youngest_goes_on youngest others asked =
      let own : youngest.0.start ≡ asked.o.start = asked.same youngest.0 youngest.1 in
      youngest_never_waits start asked.now (kept_now (Wait others) asked) s asked.o asked.is asked.name asked.mode
      (λ t p is. elim (own_or_was (Wait others) asked t p is) as (λ _. p.start ≤ asked.o.start) [
        | inl same ↦ let e : p.start ≡ asked.o.start = ap (λ (o : Open). o.start) same in omega (arith, e)
        | inr other ↦ omega (arith, youngest.2 t p other.1, own)
      ])
      others asked.judged

  pub alone_waits_not : IsAlone m s → (others : List ℕ) → IsAsked m s start (Wait others) → ⊥
  alone_waits_not alone others asked = let e : Wait others ≡ Granted = alone_granted (Wait others) asked alone in cc

  pub alone_dies_not : IsAlone m s → (older : ℕ) → IsAsked m s start (Die older) → ⊥
  alone_dies_not alone older asked = let e : Die older ≡ Granted = alone_granted (Die older) asked alone in cc
