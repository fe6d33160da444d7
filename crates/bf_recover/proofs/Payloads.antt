-- What applying the one change that a payload spells says of the payload.
use Rattle.std.proofs.Common.{◌≡◌, ℕ, Bool, true, false, List, sym, ap, subst, ◌∙◌}
use Rattle.std.specs.Prelude.{IfOk, Result, Ok, Err}
use Rattle.std.proofs.lemmas.Bool.{false≢true}
use Rattle.bf_record.specs.Changes.{HasRecord, record_bytes}
use Rattle.bf_record.specs.declared.change.Change.{Change}
use Rattle.bf_sql.specs.migrations.Lazy.{LazyState}
use Rattle.bf_journal.specs.Reopening.{IsIllegal}
use Rattle.bf_recover.specs.Legal.{changed, is_legal}
use Rattle.bf_recover.specs.Once.{one_change}
use Rattle.bf_recover.specs.Steps.{IsNoStep, StepsTo}

-- where it spells none that is legal it makes none
pub is_illegal : (lazy : LazyState) (payload : List ℕ) → IsNoStep lazy payload → IsIllegal StepsTo lazy payload
is_illegal lazy payload none next made = false≢true (sym (none made.change made.has_record made.spelled) ∙ made.legal)

pub no_step : (lazy : LazyState) (payload : List ℕ) (c : Change) → HasRecord c → payload ≡ record_bytes c → is_legal lazy c ≡ false → IsNoStep lazy payload
no_step lazy payload c has spelled illegal d has_d spelled_d =
    ap (is_legal lazy) (one_change d c payload has_d has spelled_d spelled) ∙ illegal

-- what applying a change says of the payload that spells it
module _ {E : Type 0} (lazy after : LazyState) (payload : List ℕ) (c : Change) (spelled : HasRecord c × (payload ≡ record_bytes c)) (r : Result Bool E)
    (told : IfOk r (λ legal. legal ≡ is_legal lazy c)) where
  abbrev Tells : Result Bool E → Type 0
  Tells r = IfOk r (λ legal. legal ≡ is_legal lazy c)

  pub steps_if : (r ≡ Ok true → after ≡ changed lazy c) → r ≡ Ok true → StepsTo lazy payload after
  steps_if made ok = record { change = c; has_record = spelled.0; spelled = spelled.1; legal = sym (subst Tells ok told); made = made ok }

  pub none_if : r ≡ Ok false → IsNoStep lazy payload
  none_if ok = no_step lazy payload c spelled.0 spelled.1 (sym (subst Tells ok told))

-- an answer, by what each of its values says
module _ {E : Type 0} (P : Type 0) where
  pub if_legal : (r : Result Bool E) → (r ≡ Ok true → P) → IfOk r (λ legal. legal ≡ true → P)
  if_legal (Ok legal) told = λ is. told (ap Ok is)
  if_legal (Err e) told = tt

  pub if_illegal : (r : Result Bool E) → (r ≡ Ok false → P) → IfOk r (λ legal. legal ≡ false → P)
  if_illegal (Ok legal) told = λ is. told (ap Ok is)
  if_illegal (Err e) told = tt
