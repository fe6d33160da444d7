-- A stripe's changes are a tracker's steps.
use Rattle.std.proofs.Common.{◌≡◌, ◌≢◌, ℕ, true, false, Some, None, refl, sym, ap, ◌∙◌, subst, arith, eqb}
use Rattle.std.specs.Ordering.{eq_by_cmp}
use Rattle.std.specs.Cmp.{eq_by_cmp_equiv}
use Rattle.std.specs.FinMap as finite
use Rattle.std.specs.FinMap.{get-insert, get-remove}
use Rattle.std.proofs.lemmas.Bool.{cond-true, cond-false, eqb-true, false_from_ne_true}
use Rattle.std.proofs.lemmas.Bool.Decides.{nat_tests}
use Rattle.std.proofs.lemmas.Map.Views.{tells_apart}
use Rattle.bf_base.specs.Values.{key_cmp, key_cmp_total, key_cmp-IsAntisymmetric}
use Rattle.bf_hash.specs.declared.state.Mark.{Mark}
use Rattle.bf_hash.specs.declared.state.Mark.TheVariants.{Held, Done}
use Rattle.bf_hash.specs.declared.state.HashState.{HashState}
use Rattle.bf_hash.specs.declared.state.HashState.TheVariants.{Free, Held as IsHeld, Done as IsDone}
use Rattle.bf_hash.specs.declared.state.HashClaim.{HashClaim}
use Rattle.bf_hash.specs.declared.state.HashAnswer.TheVariants.{Claimed}
use Rattle.bf_hash.specs.States.{state_by, is_held_under}
use Rattle.bf_hash.specs.Stripes.{Cells, Marks, IsGranted, mark_of, state_of, after_answer, after_finish, after_give_back}
use Rattle.bf_base.specs.Trackers.{TrackerState, free, held, done, TrackerStep, StepsAt}
use Rattle.bf_hash.specs.AsTracker.{tracked_as, tracker_of}

-- ---- one key of a map, and the others, after a change
apart : (q key : Cells) → q ≢ key → eq_by_cmp key_cmp q key ≡ false
apart q key ne = false_from_ne_true _ (λ tied. ne (tells_apart key_cmp-IsAntisymmetric q key tied))

module _ (stripe : Marks) (key : Cells) where
  insert_here : (mark : Mark) → mark_of (finite.insert stripe key mark) key ≡ Some mark
  insert_here mark = get-insert key_cmp_total stripe key mark key ∙ cond-true _ _ _ ((eq_by_cmp_equiv key_cmp_total).refl key)

  insert_others : (mark : Mark) (q : Cells) → q ≢ key → mark_of (finite.insert stripe key mark) q ≡ mark_of stripe q
  insert_others mark q ne = get-insert key_cmp_total stripe key mark q ∙ cond-false _ _ _ (apart q key ne)

  remove_here : mark_of (finite.remove stripe key) key ≡ None
  remove_here = get-remove key_cmp_total stripe key key ∙ cond-true _ _ _ ((eq_by_cmp_equiv key_cmp_total).refl key)

  remove_others : (q : Cells) → q ≢ key → mark_of (finite.remove stripe key) q ≡ mark_of stripe q
  remove_others q ne = get-remove key_cmp_total stripe key q ∙ cond-false _ _ _ (apart q key ne)

-- a step between states that are known
stepped : (actor : ℕ) (old new a b : TrackerState) → old ≡ a → new ≡ b → TrackerStep actor a b → TrackerStep actor old new
stepped actor old new a b x y s = subst (λ (z : TrackerState × TrackerState). TrackerStep actor z.0 z.1) (λ i. (sym x i, sym y i)) s

-- ---- whether a state is held under a ticket
held_under : (ticket : ℕ) (state : HashState) → is_held_under ticket state ≡ true → state ≡ IsHeld ticket
held_under ticket Free e = absurd cc
held_under ticket (IsHeld other) e = ap IsHeld (eqb-true other ticket e)
held_under ticket IsDone e = absurd cc

itself : (n : ℕ) → eqb n n ≡ true
itself n = grind (arith, nat_tests)

is_held : (ticket : ℕ) (state : HashState) → state ≡ IsHeld ticket → is_held_under ticket state ≡ true
is_held ticket state e = ap (is_held_under ticket) e ∙ itself ticket

-- ---- the changes
pub grant : (stripe : Marks) (key : Cells) (claim : HashClaim) → IsGranted stripe key claim → StepsAt (tracker_of stripe) (tracker_of (after_answer stripe key (Claimed claim))) key claim.ticket
grant stripe key claim is = record {
  step = stepped claim.ticket _ _ free (held claim.ticket) (ap tracked_as is.free) (ap (λ mark. tracked_as (state_by mark)) (insert_here stripe key (Held claim.ticket))) refl;
  others = λ q ne. ap (λ mark. tracked_as (state_by mark)) (insert_others stripe key (Held claim.ticket) q ne);
}

module _ (stripe : Marks) (claim : HashClaim) (is : state_of stripe claim.key ≡ IsHeld claim.ticket) where
  finished : after_finish stripe claim ≡ finite.insert stripe claim.key Done
  finished = cond-true _ _ _ (is_held claim.ticket _ is)

  given : after_give_back stripe claim ≡ finite.remove stripe claim.key
  given = cond-true _ _ _ (is_held claim.ticket _ is)

  pub finish : StepsAt (tracker_of stripe) (tracker_of (after_finish stripe claim)) claim.key claim.ticket
  finish = record {
    step = stepped claim.ticket _ _ (held claim.ticket) done (ap tracked_as is) (ap (λ s. tracker_of s claim.key) finished ∙ ap (λ mark. tracked_as (state_by mark)) (insert_here stripe claim.key Done)) refl;
    others = λ q ne. ap (λ s. tracker_of s q) finished ∙ ap (λ mark. tracked_as (state_by mark)) (insert_others stripe claim.key Done q ne);
  }

  pub give_back : StepsAt (tracker_of stripe) (tracker_of (after_give_back stripe claim)) claim.key claim.ticket
  give_back = record {
    step = stepped claim.ticket _ _ (held claim.ticket) free (ap tracked_as is) (ap (λ s. tracker_of s claim.key) given ∙ ap (λ mark. tracked_as (state_by mark)) (remove_here stripe claim.key)) refl;
    others = λ q ne. ap (λ s. tracker_of s q) given ∙ ap (λ mark. tracked_as (state_by mark)) (remove_others stripe claim.key q ne);
  }

pub not_held : (stripe : Marks) (claim : HashClaim) → ¬ (state_of stripe claim.key ≡ IsHeld claim.ticket) → (after_finish stripe claim ≡ stripe) × (after_give_back stripe claim ≡ stripe)
not_held stripe claim differs =
    let so : is_held_under claim.ticket (state_of stripe claim.key) ≡ false = false_from_ne_true _ (λ is. differs (held_under claim.ticket _ is)) in
    (cond-false _ _ _ so, cond-false _ _ _ so)
