-- A file reopens in one way.
use Rattle.std.proofs.Common.{◌≡◌, ◌⊎◌, inl, inr, ℕ, List, [], ◌∷◌, ◌++◌, Option, None, Some, refl, sym, ◌∙◌, ap, subst}
use Rattle.bf_log.specs.Append.{BeforeOrAfter}
use Rattle.bf_log.specs.Format.{IsLog}
use Rattle.bf_log.proofs.OneReading.{one_log, not_both}
use Rattle.bf_journal.specs.Reopening.{After, ReopensTo}

module _ {L : Type 0} (Steps : L → List ℕ → L → Type 0) where
  -- the records from before give a state, and one more gives the next
  pub after_change : (payloads : List (List ℕ)) (payload : List ℕ) (start state next : L) → After Steps start payloads state → Steps state payload next
      → After Steps start (payloads ++ payload ∷ []) next
  after_change [] payload start state next is change = (next, subst (λ (from : L). Steps from payload next) (sym is) change, refl)
  after_change (before ∷ payloads) payload start state next is change = (is.0, is.1, after_change payloads payload is.0 state next is.2 change)

module _ {L : Type 0} (Steps : L → List ℕ → L → Type 0)
    (once : (state : L) (payload : List ℕ) (a b : L) → Steps state payload a → Steps state payload b → a ≡ b) where
  -- the same records give one state
  pub after_once : (payloads : List (List ℕ)) (start a b : L) → After Steps start payloads a → After Steps start payloads b → a ≡ b
  after_once [] start a b one two = sym one ∙ two
  after_once (payload ∷ payloads) start a b one two =
      after_once payloads one.0 a b one.2 (subst (λ (next : L). After Steps next payloads b) (once start payload two.0 one.0 two.1 one.1) two.2)

module _ {L : Type 0} (first : L) (Steps : L → List ℕ → L → Type 0)
    (once : (state : L) (payload : List ℕ) (a b : L) → Steps state payload a → Steps state payload b → a ≡ b) where
  -- a log of legal records reopens to the state that they give, and to nothing else
  pub reopens_so : (file : List ℕ) (payloads : List (List ℕ)) (state : L) (left : Option L) → IsLog payloads file → After Steps first payloads state
      → ReopensTo first Steps file left → left ≡ Some state
  reopens_so file payloads state None is gives (inl broken) = absurd (not_both file payloads broken.0 is broken.1)
  reopens_so file payloads state None is gives (inr refused) =
      absurd (refused.2 state (subst (λ (all : List (List ℕ)). After Steps first all state) (sym (one_log file refused.0 payloads refused.1 is)) gives))
  reopens_so file payloads state (Some other) is gives reopens =
      ap Some (after_once Steps once payloads first other state
      (subst (λ (all : List (List ℕ)). After Steps first all other) (one_log file reopens.0 payloads reopens.1 is) reopens.2) gives)

  -- a log of the records from before, or of these with one more
  pub reopens_either : (file : List ℕ) (payloads : List (List ℕ)) (payload : List ℕ) (state next : L) (left : Option L)
      → After Steps first payloads state → Steps state payload next → BeforeOrAfter payloads (payloads ++ payload ∷ []) file
      → ReopensTo first Steps file left → (left ≡ Some state) ⊎ (left ≡ Some next)
  reopens_either file payloads payload state next left gives change (inl before) reopens = inl (reopens_so file payloads state left before gives reopens)
  reopens_either file payloads payload state next left gives change (inr with_it) reopens =
      inr (reopens_so file (payloads ++ payload ∷ []) next left with_it (after_change Steps payloads payload first state next gives change) reopens)
