-- The steps on a word of a bitmap are a tracker's steps.
use Rattle.std.proofs.Common.{◌≡◌, ◌≢◌, ℕ, zero, suc, ◌+◌, ◌<◌, ◌≤◌, List, [], ◌∷◌, set, refl, sym, ap, ◌∙◌, subst, arith}
use lib.ListN.{get_elem?}
use mathlib.Core.Option.{some, some-injective, some-ne-none}
use mathlib.Core.Logic.{dite}
use native.Mathlib.Decide.{ℕ_discrete}
use Rattle.bf_bits.specs.declared.rule.View.{View}
use Rattle.bf_bits.specs.Positions.{times, Has, without}
use Rattle.bf_bits.specs.Tracker.{holders, finishers}
use Rattle.bf_bits.specs.Steps.{next}
use Rattle.bf_bits.proofs.Counting.{times-here, times-other, times-without, times-without_other, total-set, total-at}
use Rattle.bf_base.specs.Trackers.{TrackerState, free, held, done}
use Rattle.bf_bits.specs.AsTracker.{IsTrackedAs, StepsTo}

set_here : (l : List View) (i : ℕ) (v w : View) → get_elem? l i ≡ some v → get_elem? (set l i w) i ≡ some w
set_here [] i v w e = absurd (some-ne-none v (sym e))
set_here (x ∷ xs) zero v w e = refl
set_here (x ∷ xs) (suc i) v w e = set_here xs i v w e

set_there : (l : List View) (i j : ℕ) (w : View) → j ≢ i → get_elem? (set l i w) j ≡ get_elem? l j
set_there [] i j w ne = refl
set_there (x ∷ xs) zero zero w ne = absurd (ne refl)
set_there (x ∷ xs) zero (suc j) w ne = refl
set_there (x ∷ xs) (suc i) zero w ne = refl
set_there (x ∷ xs) (suc i) (suc j) w ne = set_there xs i j w (λ e. ne (ap suc e))

module _ (views : List View) (id : ℕ) (v w : View) (at : get_elem? views id ≡ some v) where
  held_counts : (q : ℕ) → holders q (set views id w) + times q v.held ≡ holders q views + times q w.held
  held_counts q = total-set (λ u. times q u.held) views id v w at

  finished_counts : (q : ℕ) → finishers q (set views id w) + times q v.finished ≡ finishers q views + times q w.finished
  finished_counts q = total-set (λ u. times q u.finished) views id v w at

  -- what a step at p leaves of the others
  still : (p : ℕ) → ((q : ℕ) → q ≢ p → (times q w.held ≡ times q v.held) × (times q w.finished ≡ times q v.finished))
      → (q : ℕ) → q ≢ p → (state : TrackerState) → IsTrackedAs views q state → IsTrackedAs (set views id w) q state
  still p same q ne free is = let s = same q ne in let s0 = s.0 in let s1 = s.1 in let a = held_counts q in let b = finished_counts q in let i0 = is.0 in let i1 = is.1 in (omega arith, omega arith)
  still p same q ne (held seat) is = dite (ℕ_discrete seat id)
      (λ e.
      let u : is.0 ≡ v = some-injective is.0 v (sym is.1 ∙ (ap (get_elem? views) e ∙ at)) in
      let has : 0 < times q v.held = subst (λ (x : View). 0 < times q x.held) u is.2 in
      let s0 = (same q ne).0 in
      (w, ap (get_elem? (set views id w)) e ∙ set_here views id v w at, omega arith))
      (λ ne'. (is.0, set_there views id seat w ne' ∙ is.1, is.2))
  still p same q ne done is = let s = same q ne in let s1 = s.1 in let b = finished_counts q in omega arith

module _ (views : List View) (id p found : ℕ) (v : View) (at : get_elem? views id ≡ some v) where
  pub claim : IsTrackedAs views p free → StepsTo views (set views id (next v found (p ∷ v.held) v.finished)) p id free (held id)
  claim is = let w = next v found (p ∷ v.held) v.finished in record {
    before = is;
    after = (w, set_here views id v w at, (let h = times-here p v.held in omega arith));
    step = refl;
    others = still views id v w at p (λ q ne. (times-other q p v.held ne, refl));
  }

  pub finish : Has v.held p → StepsTo views (set views id (next v found (without p v.held) (p ∷ v.finished))) p id (held id) done
  finish has = let w = next v found (without p v.held) (p ∷ v.finished) in record {
    before = (v, at, has);
    after = (let h = times-here p v.finished in let b = finished_counts views id v w at p in omega arith);
    step = refl;
    others = still views id v w at p (λ q ne. (times-without_other q p v.held ne, times-other q p v.finished ne));
  }

  pub give_back : Has v.held p → holders p views + finishers p views ≤ 1 → StepsTo views (set views id (next v found (without p v.held) v.finished)) p id (held id) free
  give_back has once = let w = next v found (without p v.held) v.finished in record {
    before = (v, at, has);
    after = (let t = times-without p v.held has in let a = held_counts views id v w at p in let b = finished_counts views id v w at p in let top = total-at (λ u. times p u.held) views id v at in (omega arith, omega arith));
    step = refl;
    others = still views id v w at p (λ q ne. (times-without_other q p v.held ne, refl));
  }
