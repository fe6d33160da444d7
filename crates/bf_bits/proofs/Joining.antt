-- A seat that is made, and one that another takes in, leave the rule as it is.
use Rattle.std.proofs.Common.{◌≡◌, ℕ, ◌/◌, List, [], ◌∷◌, ◌++◌, get_or, set, ap, subst, arith}
use Rattle.atomic_table.specs.Table.{Splits, Joins}
use Rattle.atomic_table.proofs.Lists.{set_again}
use Rattle.bf_bits.specs.declared.rule.View.{View}
use Rattle.bf_bits.specs.Positions.{times}
use Rattle.bf_bits.specs.Words.{lock_in, migrate_in}
use Rattle.bf_bits.specs.Tracker.{nobody, both_of, holders, finishers, Orderly, Keeps, Tracks}
use Rattle.bf_bits.proofs.Counting.{times-append, total-set, total-append}

-- the same bits, and the same counts
recounted : (words : List ℕ) (old new : List View) → Keeps words old → ((p : ℕ) → (holders p old ≡ holders p new) × (finishers p old ≡ finishers p new)) → Keeps words new
recounted words old new r same p = let c = same p in subst (λ (z : ℕ × ℕ). Orderly (lock_in (get_or words (p / 32) 0) p) (migrate_in (get_or words (p / 32) 0) p) z.0 z.1) (λ i. (c.0 i, c.1 i)) (r p)

pub splits : (count granules id : ℕ) (v : View) → Splits (Tracks count granules) id v v nobody
splits count granules id v s r at =
    let again = set_again s.views id v at in
    let same : (p : ℕ) → (holders p s.views ≡ holders p (set s.views id v ++ nobody ∷ [])) × (finishers p s.views ≡ finishers p (set s.views id v ++ nobody ∷ [])) = λ p.
    let a = total-append (λ v. times p v.held) (set s.views id v) (nobody ∷ []) in
    let b = total-append (λ v. times p v.finished) (set s.views id v) (nobody ∷ []) in
    let c = ap (holders p) again in
    let d = ap (finishers p) again in
    (omega arith, omega arith) in
    (r.0, recounted s.words s.views (set s.views id v ++ nobody ∷ []) r.1 same, λ p some_there. let c = same p in r.2 p (omega arith))

pub joins : (count granules id : ℕ) (v : View) (other : ℕ) (w : View) → Joins (Tracks count granules) id v other w (both_of v w) nobody
joins count granules id v other w s r at ne there =
    let both = both_of v w in
    let one = set s.views id both in
    let same : (p : ℕ) → (holders p s.views ≡ holders p (set one other nobody)) × (finishers p s.views ≡ finishers p (set one other nobody)) = λ p.
    let a = total-set (λ v. times p v.held) s.views id v both at in
    let b = total-set (λ v. times p v.held) one other w nobody there in
    let c = times-append p v.held w.held in
    let a' = total-set (λ v. times p v.finished) s.views id v both at in
    let b' = total-set (λ v. times p v.finished) one other w nobody there in
    let c' = times-append p v.finished w.finished in
    (omega arith, omega arith) in
    (r.0, recounted s.words s.views (set one other nobody) r.1 same, λ p some_there. let c = same p in r.2 p (omega arith))
