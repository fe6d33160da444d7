-- Each step on a word keeps the rule, and tells what it is said to tell.
use Rattle.std.proofs.Common.{◌≡◌, ◌≢◌, ℕ, ◌/◌, ◌%◌, ◌<◌, inl, inr, ◌∷◌, get_or, set, sym, refl, ap, ◌∙◌, subst, arith, length-set, get_or-set_same, bit_and, bit_or}
use Rattle.std.specs.Int.{bit_not}
use Rattle.std.proofs.lemmas.List.{get_or-set_other}
use Rattle.std.proofs.lemmas.Nat.Bits.{bit_at_set_same, bit_at_set_other, bit_at_clear_same, bit_at_clear_other, bit_at-lt}
use mir.Syntax.{w64}
use mathlib.Core.Logic.{dite}
use mathlib.Core.Option.{none, some}
use native.Mathlib.Decide.{ℕ_discrete}
use lib.ListN.{get_elem?}
use Rattle.atomic_table.specs.Table.{State, Me, step, keeps, stepped, Allows}
use Rattle.bf_bits.specs.declared.rule.View.{View}
use Rattle.bf_bits.specs.declared.answer.Look.{Look}
use Rattle.bf_bits.specs.Positions.{times, without}
use Rattle.bf_bits.specs.Words.{lock_place, migrate_place, mask, lock_in, migrate_in, state_in}
use Rattle.bf_bits.specs.Tracker.{holders, finishers, Orderly, Tracks}
use Rattle.bf_bits.specs.Steps.{next, held_after, Tells, looked, claimed, finished_one, given_back}
use Rattle.bf_bits.proofs.Counting.{times-here, times-other, times-without, times-without_other, total-set, total-at}
use Rattle.bf_bits.proofs.Places.{apart, lock_within, migrate_within, not_one, set_others, clear_others, state_free, state_held, state_done}

abbrev pub St : Type 0
St = State (Unit {0}) View

-- a step on one word, which changes the bits of q alone, and how often q stands in the view
module _ (count granules : ℕ) (s : St) (id : ℕ) (me : Me (Unit {0}) View) (w : View) (q n : ℕ) (r : Tracks count granules s) (at : get_elem? s.views id ≡ some me.0) (within : q / 32 < count) (low : q < granules)
    (others : (p : ℕ) → p % 32 ≢ q % 32 → (lock_in n p ≡ lock_in (get_or s.words (q / 32) 0) p) × (migrate_in n p ≡ migrate_in (get_or s.words (q / 32) 0) p))
    (same : (p : ℕ) → p ≢ q → (times p w.held ≡ times p me.0.held) × (times p w.finished ≡ times p me.0.finished))
    (here : Orderly (lock_in (get_or s.words (q / 32) 0) q) (migrate_in (get_or s.words (q / 32) 0) q) (holders q s.views) (finishers q s.views) → Orderly (lock_in n q) (migrate_in n q) (holders q (set s.views id w)) (finishers q (set s.views id w))) where
  there : get_or (set s.words (q / 32) n) (q / 32) 0 ≡ n
  there = get_or-set_same s.words (q / 32) n 0 (omega (arith, r.0))

  counts : (p : ℕ) → p ≢ q → (holders p s.views ≡ holders p (set s.views id w)) × (finishers p s.views ≡ finishers p (set s.views id w))
  counts p ne =
      let a = total-set (λ v. times p v.held) s.views id me.0 w at in
      let b = total-set (λ v. times p v.finished) s.views id me.0 w at in
      let c = same p ne in
      (omega (arith, a, c.0), omega (arith, b, c.1))

  bits : (p : ℕ) → p ≢ q → (lock_in (get_or s.words (p / 32) 0) p ≡ lock_in (get_or (set s.words (q / 32) n) (p / 32) 0) p) × (migrate_in (get_or s.words (p / 32) 0) p ≡ migrate_in (get_or (set s.words (q / 32) n) (p / 32) 0) p)
  bits p ne = dite (ℕ_discrete (p / 32) (q / 32))
      (λ e.
      let o = others p (apart p q e ne) in
      let back : get_or s.words (q / 32) 0 ≡ get_or s.words (p / 32) 0 = ap (λ (i : ℕ). get_or s.words i 0) (sym e) in
      let new : n ≡ get_or (set s.words (q / 32) n) (p / 32) 0 = sym there ∙ ap (λ (i : ℕ). get_or (set s.words (q / 32) n) i 0) (sym e) in
      (ap (λ (m : ℕ). lock_in m p) (sym back) ∙ (sym o.0 ∙ ap (λ (m : ℕ). lock_in m p) new), ap (λ (m : ℕ). migrate_in m p) (sym back) ∙ (sym o.1 ∙ ap (λ (m : ℕ). migrate_in m p) new)))
      (λ far.
      let k : get_or s.words (p / 32) 0 ≡ get_or (set s.words (q / 32) n) (p / 32) 0 = sym (get_or-set_other s.words (q / 32) (p / 32) n 0 far) in
      (ap (λ (m : ℕ). lock_in m p) k, ap (λ (m : ℕ). migrate_in m p) k))

  pub moved : Tracks count granules (stepped s (q / 32) n id me.1 w keeps)
  moved = (
    length-set s.words (q / 32) n ∙ r.0,
    λ p. dite (ℕ_discrete p q)
        (λ e. subst (λ (p : ℕ). Orderly (lock_in (get_or (set s.words (q / 32) n) (p / 32) 0) p) (migrate_in (get_or (set s.words (q / 32) n) (p / 32) 0) p) (holders p (set s.views id w)) (finishers p (set s.views id w))) (sym e)
        (subst (λ (m : ℕ). Orderly (lock_in m q) (migrate_in m q) (holders q (set s.views id w)) (finishers q (set s.views id w))) (sym there) (here (r.1 q))))
        (λ ne. let b = bits p ne in let c = counts p ne in
        subst (λ (z : ℕ × ℕ × ℕ × ℕ). Orderly z.0 z.1 z.2 z.3) (λ i. (b.0 i, b.1 i, c.0 i, c.1 i)) (r.1 p)),
    λ p some_there. dite (ℕ_discrete p q)
        (λ e. let l = low in omega arith)
        (λ ne. let c = counts p ne in r.2 p (omega arith)),
  )

-- the numbers of a position that is free, and of one that is held
free_numbers : {l m h f : ℕ} → Orderly l m h f → l ≡ 0 → (m ≡ 0) × (h ≡ 0) × (f ≡ 0)
free_numbers o e = let a = o.locked in let b = o.migrated in (omega arith, omega arith, omega arith)

held_numbers : {l m h f : ℕ} → Orderly l m h f → l < 2 → 0 < h → (l ≡ 1) × (m ≡ 0) × (h ≡ 1) × (f ≡ 0)
held_numbers o lt e = let a = o.locked in let b = o.migrated in (omega arith, omega arith, omega arith, omega arith)

pub done_numbers : {l m h f : ℕ} → Orderly l m h f → l < 2 → 0 < f → (l ≡ 1) × (m ≡ 1)
done_numbers o lt e = let a = o.locked in let b = o.migrated in (omega arith, omega arith)

-- what the word of a position says to the seat that has it in a list
tells : (count granules : ℕ) (s : St) (id : ℕ) (v : View) → Tracks count granules s → get_elem? s.views id ≡ some v → (p : ℕ) → Tells (get_or s.words (p / 32) 0) p v
tells count granules s id v r at p =
    let n = get_or s.words (p / 32) 0 in
    let o = r.1 p in
    let x = total-at (λ v. times p v.held) s.views id v at in
    let y = total-at (λ v. times p v.finished) s.views id v at in
    let lt = bit_at-lt n (lock_place p) in
    record {
      held = λ h. let k = held_numbers o lt (omega arith) in state_held k.0 k.1;
      finished = λ h. let k = done_numbers o lt (omega arith) in state_done _ _ k.1;
    }

pub claims : (count granules slots id : ℕ) (me : Me (Unit {0}) View) (q : ℕ) → q / 32 < count → q < granules → Allows (Tracks count granules) slots id me (q / 32) (λ n. bit_or n (mask (lock_place q))) (claimed (step slots (q / 32) (mask (lock_place q)) 0 none) me)
claims count granules slots id me q within low s r homes at small =
    let n = get_or s.words (q / 32) 0 in
    let v = me.0 in
    let new : ℕ = bit_or n (mask (lock_place q)) in
    let locked : lock_in new q ≡ 1 = bit_at_set_same w64 n (lock_place q) (lock_within q) in
    let still : migrate_in new q ≡ migrate_in n q = bit_at_set_other w64 n (lock_place q) (lock_within q) (migrate_place q) (λ e. omega arith) in
    let told = tells count granules s id v r at q in
    dite (ℕ_discrete (lock_in n q) 0)
    (λ free.
    let w = next v n (q ∷ v.held) v.finished in
    let o = free_numbers (r.1 q) free in
    let a = total-set (λ v. times q v.held) s.views id v w at in
    let b = total-set (λ v. times q v.finished) s.views id v w at in
    let t = times-here q v.held in
    let p0 = o.0 in let p1 = o.1 in let p2 = o.2 in
    let is : state_in n q ≡ Look.Free = state_free free p0 in (
      w,
      keeps,
      tt,
      moved count granules s id me w q new r at within low (set_others q (lock_place q) n (inl refl)) (λ p ne. (times-other p q v.held ne, refl))
          (λ _. record { locked = omega arith; migrated = omega arith }),
      (q, (refl, refl), ap (λ (state : Look). (next v n (held_after q state v.held) v.finished, me.1)) (sym is), told),
    ))
    (λ taken.
    let w = next v n v.held v.finished in
    let was : lock_in n q ≡ 1 = not_one n (lock_place q) taken in
    let o1 = (r.1 q).locked in let o2 = (r.1 q).migrated in
    let a = total-set (λ v. times q v.held) s.views id v w at in
    let b = total-set (λ v. times q v.finished) s.views id v w at in
    let same : w ≡ next v n (held_after q (state_in n q) v.held) v.finished = dite (ℕ_discrete (migrate_in n q) 0)
    (λ z. ap (λ (state : Look). next v n (held_after q state v.held) v.finished) (sym (state_held was z)))
    (λ ne. ap (λ (state : Look). next v n (held_after q state v.held) v.finished) (sym (state_done _ _ (not_one n (migrate_place q) ne)))) in (
      w,
      keeps,
      tt,
      moved count granules s id me w q new r at within low (set_others q (lock_place q) n (inl refl)) (λ p ne. (refl, refl))
          (λ _. record { locked = omega arith; migrated = omega arith }),
      (q, (refl, refl), ap (λ (x : View). (x, me.1)) same, told),
    ))

pub finishes : (count granules slots id : ℕ) (me : Me (Unit {0}) View) (q : ℕ) → q / 32 < count → 0 < times q me.0.held → Allows (Tracks count granules) slots id me (q / 32) (λ n. bit_or n (mask (migrate_place q))) (finished_one (step slots (q / 32) (mask (migrate_place q)) 0 none) me)
finishes count granules slots id me q within has s r homes at small =
    let low : q < granules = (let top = total-at (λ v. times q v.held) s.views id me.0 at in r.2 q (omega arith)) in
    let n = get_or s.words (q / 32) 0 in
    let v = me.0 in
    let new : ℕ = bit_or n (mask (migrate_place q)) in
    let migrated : migrate_in new q ≡ 1 = bit_at_set_same w64 n (migrate_place q) (migrate_within q) in
    let still : lock_in new q ≡ lock_in n q = bit_at_set_other w64 n (migrate_place q) (migrate_within q) (lock_place q) (λ e. omega arith) in
    let top = total-at (λ v. times q v.held) s.views id v at in
    let o = held_numbers (r.1 q) (bit_at-lt n (lock_place q)) (omega arith) in
    let w = next v n (without q v.held) (q ∷ v.finished) in
    let a = total-set (λ v. times q v.held) s.views id v w at in
    let b = total-set (λ v. times q v.finished) s.views id v w at in
    let t = times-without q v.held has in
    let u = times-here q v.finished in
    let p0 = o.0 in let p2 = o.2 in let p3 = o.3 in (
      w,
      keeps,
      tt,
      moved count granules s id me w q new r at within low (set_others q (migrate_place q) n (inr refl)) (λ p ne. (times-without_other p q v.held ne, times-other p q v.finished ne))
          (λ _. record { locked = omega arith; migrated = omega arith }),
      (q, (refl, refl), refl, state_held o.0 o.1),
    )

pub gives : (count granules slots id : ℕ) (me : Me (Unit {0}) View) (q : ℕ) → q / 32 < count → 0 < times q me.0.held → Allows (Tracks count granules) slots id me (q / 32) (λ n. bit_and n (bit_not w64 (mask (lock_place q)))) (given_back (step slots (q / 32) (bit_not w64 (mask (lock_place q))) 0 none) me)
gives count granules slots id me q within has s r homes at small =
    let low : q < granules = (let top = total-at (λ v. times q v.held) s.views id me.0 at in r.2 q (omega arith)) in
    let n = get_or s.words (q / 32) 0 in
    let v = me.0 in
    let new : ℕ = bit_and n (bit_not w64 (mask (lock_place q))) in
    let freed : lock_in new q ≡ 0 = bit_at_clear_same w64 n (lock_place q) (lock_within q) in
    let still : migrate_in new q ≡ migrate_in n q = bit_at_clear_other w64 n (lock_place q) (lock_within q) (migrate_place q) (migrate_within q) (λ e. omega arith) in
    let top = total-at (λ v. times q v.held) s.views id v at in
    let o = held_numbers (r.1 q) (bit_at-lt n (lock_place q)) (omega arith) in
    let w = next v n (without q v.held) v.finished in
    let a = total-set (λ v. times q v.held) s.views id v w at in
    let b = total-set (λ v. times q v.finished) s.views id v w at in
    let t = times-without q v.held has in
    let p1 = o.1 in let p2 = o.2 in let p3 = o.3 in (
      w,
      keeps,
      tt,
      moved count granules s id me w q new r at within low (clear_others q n) (λ p ne. (times-without_other p q v.held ne, refl))
          (λ _. record { locked = omega arith; migrated = omega arith }),
      (q, (refl, refl), refl, state_held o.0 o.1),
    )

pub looks : (count granules slots id : ℕ) (me : Me (Unit {0}) View) (q : ℕ) → q / 32 < count → q < granules → Allows (Tracks count granules) slots id me (q / 32) (λ n. n) (looked (step slots (q / 32) 0 0 none) me)
looks count granules slots id me q within low s r homes at small =
    let n = get_or s.words (q / 32) 0 in
    let v = me.0 in
    let w = next v n v.held v.finished in
    let a = total-set (λ v. times q v.held) s.views id v w at in
    let b = total-set (λ v. times q v.finished) s.views id v w at in
    let o1 = (r.1 q).locked in let o2 = (r.1 q).migrated in (
      w,
      keeps,
      tt,
      moved count granules s id me w q n r at within low (λ p ne. (refl, refl)) (λ p ne. (refl, refl)) (λ _. record { locked = omega arith; migrated = omega arith }),
      (refl, λ p e. subst (λ (i : ℕ). Tells (get_or s.words i 0) p v) (sym e) (tells count granules s id v r at p)),
    )
