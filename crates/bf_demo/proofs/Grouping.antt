-- The groups of the demonstration, and their statements.
use Rattle.std.proofs.Common.{◌≡◌, ℕ, suc, zero, ◌+◌, ◌-◌, ◌*◌, ◌<◌, ◌==◌, Bool, false, true, ◌&&◌, List, [], ◌∷◌, ◌++◌, map, flat_map, take, drop, None, refl, ap, ◌∙◌, arith}
use Rattle.std.proofs.lemmas.Bool.{eqb-true, false≢true, and_parts}
use Rattle.std.specs.List.{list_any, range_with_len}
use Rattle.bf_base.specs.Lists.{part}
use Rattle.bf_tree.specs.declared.statement.Statement.{Statement}
use Rattle.bf_sql.specs.Groups.{groups_from}
use Rattle.bf_demo.specs.Script.{credit, opening, openings}

-- groups of one statement, and of three
abbrev pub lone : ℕ → ℕ → List (ℕ × ℕ)
lone k zero = []
lone k (suc m) = (k, k) ∷ lone (k + 1) m

abbrev pub triples : ℕ → ℕ → List (ℕ × ℕ)
triples k zero = []
triples k (suc m) = (k, k + 1 + 1) ∷ triples (k + 1 + 1 + 1) m

pub groups_of_openings : (m k b : ℕ) → groups_from k None (map opening (range_with_len b m)) ≡ lone k m
groups_of_openings zero k b = refl
groups_of_openings (suc m) k b = ap (λ (gs : List (ℕ × ℕ)). (k, k) ∷ gs) (groups_of_openings m (k + 1) (b + 1))

pub groups_of_credits : (s base m k b : ℕ) → groups_from k None (flat_map (λ j. credit s (base + j)) (range_with_len b m)) ≡ triples k m
groups_of_credits s base zero k b = refl
groups_of_credits s base (suc m) k b = ap (λ (gs : List (ℕ × ℕ)). (k, k + 1 + 1) ∷ gs) (groups_of_credits s base m (k + 1 + 1 + 1) (b + 1))

one_of : {X : Type 0} (f : ℕ → X) (b m a : ℕ) → b < m → take 1 (drop b (map f (range_with_len a m))) ≡ f (a + b) ∷ []
one_of f b zero a h = absurd (omega arith)
one_of f zero (suc m) a h = let e : a ≡ a + zero = omega arith in ap (λ i. f i ∷ []) e
one_of f (suc b) (suc m) a h =
    let e : (a + 1) + b ≡ a + suc b = omega arith in
    one_of f b m (a + 1) (omega arith) ∙ ap (λ i. f i ∷ []) e

-- the statement behind the one that makes the table and b more
pub an_opening : (n b : ℕ) → b < n → part (b + 2) (b + 2) (openings n) ≡ opening (b + 1) ∷ []
an_opening n b h =
    let from : b + 2 - 1 ≡ suc b = omega arith in
    let many : b + 2 - suc b ≡ 1 = omega arith in
    let e : 1 + b ≡ b + 1 = omega arith in
    ap (λ i. take (b + 2 - i) (drop i (openings n))) from
    ∙ (ap (λ k. take k (drop b (map opening (range_with_len 1 n)))) many ∙ (one_of opening b n 1 h ∙ ap (λ i. opening i ∷ []) e))

three_of : (s base i m b : ℕ) → i < m → take 3 (drop (3 * i) (flat_map (λ j. credit s (base + j)) (range_with_len b m))) ≡ credit s (base + (b + i))
three_of s base i zero b h = absurd (omega arith)
three_of s base zero (suc m) b h = let e : b ≡ b + zero = omega arith in ap (λ j. credit s (base + j)) e
three_of s base (suc i) (suc m) b h =
    let from : 3 * suc i ≡ suc (suc (suc (3 * i))) = omega arith in
    let e : (b + 1) + i ≡ b + suc i = omega arith in
    ap (λ k. take 3 (drop k (credit s (base + b) ++ flat_map (λ j. credit s (base + j)) (range_with_len (b + 1) m)))) from
    ∙ (three_of s base i m (b + 1) (omega arith) ∙ ap (λ j. credit s (base + j)) e)

pub a_credit : (s base i m first last : ℕ) → i < m → first ≡ 3 * i + 1 → last ≡ first + 2
    → part first last (flat_map (λ j. credit s (base + j)) (range_with_len 1 m)) ≡ credit s (base + (1 + i))
a_credit s base i m first last h f l =
    let from : first - 1 ≡ 3 * i = omega arith in
    let many : last - 3 * i ≡ 3 = omega arith in
    let all : List Statement = flat_map (λ j. credit s (base + j)) (range_with_len 1 m) in
    ap (λ k. take (last - k) (drop k all)) from ∙ (ap (λ k. take k (drop (3 * i) all)) many ∙ three_of s base i m 1 h)

-- the place of a group among those of three statements
pub a_triple : (m k first last : ℕ) → list_any (λ (g : ℕ × ℕ). first == g.0 && last == g.1) (triples k m) ≡ true → (i : ℕ) × (i < m) × (first ≡ k + 3 * i) × (last ≡ first + 2)
a_triple zero k first last h = absurd (false≢true h)
a_triple (suc m) k first last h = go (first == k && last == k + 1 + 1) refl h (a_triple m (k + 1 + 1 + 1) first last)
  where
    go : (t : Bool) → (first == k && last == k + 1 + 1) ≡ t → list_any (λ (g : ℕ × ℕ). first == g.0 && last == g.1) (triples k (suc m)) ≡ true
        → (list_any (λ (g : ℕ × ℕ). first == g.0 && last == g.1) (triples (k + 1 + 1 + 1) m) ≡ true → (i : ℕ) × (i < m) × (first ≡ (k + 1 + 1 + 1) + 3 * i) × (last ≡ first + 2))
        → (i : ℕ) × (i < suc m) × (first ≡ k + 3 * i) × (last ≡ first + 2)
    go true t h more =
        let both = and_parts (first == k) (last == k + 1 + 1) t in
        let one = eqb-true first k both.0 in
        let other = eqb-true last (k + 1 + 1) both.1 in
        (0, omega arith, omega arith, omega arith)
    go false t h more =
        let found = more (rw t at h) in
        let before = found.2 in
        (suc found.0, omega (arith, found.1), omega (arith, found.2), found.3)
