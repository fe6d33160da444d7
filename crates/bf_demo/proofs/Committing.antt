-- Each entry of the demonstration's history has committed.
use Rattle.std.proofs.Common.{◌≡◌, ℕ, suc, zero, ◌+◌, ◌-◌, ◌*◌, ◌<◌, ◌≤◌, ◌==◌, Bool, false, true, ◌&&◌, List, [], ◌∷◌, ◌++◌, map, refl, sym, ap, ◌∙◌, arith}
use Rattle.std.proofs.lemmas.Bool.{eqb-true, false≢true, and_parts}
use Rattle.std.specs.List.{list_all, list_any}
use Rattle.bf_base.specs.Lists.{part}
use Rattle.bf_tree.specs.declared.history.Entry.{Entry}
use Rattle.bf_tree.specs.declared.history.Outcome.{Outcome}
use Rattle.bf_tree.specs.declared.history.Outcome.TheVariants.{Committed}
use Rattle.bf_tree.specs.declared.statement.Statement.{Statement}
use Rattle.bf_sql.specs.Groups.{commits, groups_in, groups_of, outcomes_from, statements_in, statements_of}
use Rattle.bf_sql.specs.History.{is_whole_group}
use Rattle.bf_demo.specs.Script.{acct, bal, credit, credits, demonstration, openings, owner, split, sum_up, who}
use Rattle.bf_demo.proofs.Grouping.{a_credit, a_triple, an_opening, groups_of_credits, groups_of_openings, lone, triples}
use Rattle.bf_demo.proofs.Phasing.{phase_of}

abbrev pub is_group : ℕ → ℕ → ℕ × ℕ → Bool
is_group first last g = first == g.0 && last == g.1

-- a group of one statement by its place
a_lone : (m k first last : ℕ) → list_any (is_group first last) (lone k m) ≡ true → (i : ℕ) × (i < m) × (first ≡ k + i) × (last ≡ first)
a_lone zero k first last h = absurd (false≢true h)
a_lone (suc m) k first last h = go (is_group first last (k, k)) refl h (a_lone m (k + 1) first last)
  where
    go : (t : Bool) → is_group first last (k, k) ≡ t → list_any (is_group first last) (lone k (suc m)) ≡ true
        → (list_any (is_group first last) (lone (k + 1) m) ≡ true → (i : ℕ) × (i < m) × (first ≡ (k + 1) + i) × (last ≡ first))
        → (i : ℕ) × (i < suc m) × (first ≡ k + i) × (last ≡ first)
    go true t h more =
        let both = and_parts (first == k) (last == k) t in
        let one = eqb-true first k both.0 in
        let other = eqb-true last k both.1 in
        (0, omega arith, omega arith, omega arith)
    go false t h more =
        let found = more (rw t at h) in
        (suc found.0, omega (arith, found.1), omega (arith, found.2), found.3)

-- what a session of four credits by a group
pub record Credits (n s first last : ℕ) : Type 0 where
  pub at : ℕ
  pub low : 1 ≤ at
  pub high : at ≤ 16 * n
  pub is : part first last (credits n s) ≡ credit s at

credits_by : (n s base first last : ℕ) → 4 * n * (s - 1) ≡ base → base ≤ 12 * n → list_any (is_group first last) (groups_of (credits n s)) ≡ true → Credits n s first last
credits_by n s base first last at low h =
    let groups : groups_of (credits n s) ≡ triples 1 n = groups_of_credits s (4 * n * (s - 1)) n 1 1 in
    let found = a_triple n 1 first last (ap (λ (gs : List (ℕ × ℕ)). list_any (is_group first last) gs) (sym groups) ∙ h) in
    let here = found.1 in
    record {
      at = 4 * n * (s - 1) + (1 + found.0);
      low = omega arith;
      high = omega (arith, at, here);
      is = a_credit s (4 * n * (s - 1)) found.0 n first last here (omega (arith, found.2)) found.3;
    }

pub credits_of : (n k first last : ℕ) → list_any (is_group first last) (groups_in (demonstration n) k) ≡ true → (phase_of n k == 3) ≡ true
    → (at : ℕ) × (1 ≤ at) × (at ≤ 16 * n) × (statements_in (demonstration n) k (first, last) ≡ credit (k - 2) at)
credits_of n zero first last h p = absurd (false≢true p)
credits_of n (suc zero) first last h p = absurd (false≢true p)
credits_of n (suc (suc zero)) first last h p = absurd (false≢true p)
credits_of n (suc (suc (suc zero))) first last h p = let c = credits_by n 1 (4 * n * 0) first last refl (omega arith) h in (c.at, c.low, c.high, c.is)
credits_of n (suc (suc (suc (suc zero)))) first last h p = let c = credits_by n 2 (4 * n * 1) first last refl (omega arith) h in (c.at, c.low, c.high, c.is)
credits_of n (suc (suc (suc (suc (suc zero))))) first last h p = let c = credits_by n 3 (4 * n * 2) first last refl (omega arith) h in (c.at, c.low, c.high, c.is)
credits_of n (suc (suc (suc (suc (suc (suc zero)))))) first last h p = let c = credits_by n 4 (4 * n * 3) first last refl (omega arith) h in (c.at, c.low, c.high, c.is)
credits_of n (suc (suc (suc (suc (suc (suc (suc zero))))))) first last h p = absurd (false≢true p)
credits_of n (suc (suc (suc (suc (suc (suc (suc (suc s)))))))) first last h p = absurd (false≢true h)

-- each group commits
opening_commits : (n i first last : ℕ) → i < suc n → first ≡ 1 + i → last ≡ first → commits (part first last (openings n)) ≡ true
opening_commits n zero first last h f l =
    let one : first ≡ 1 = omega arith in
    let other : last ≡ 1 = omega arith in
    rw (other, one) refl
opening_commits n (suc b) first last h f l =
    let one : first ≡ b + 2 = omega arith in
    let other : last ≡ b + 2 = omega arith in
    let is = an_opening n b (omega arith) in
    rw (other, one) (ap commits is)

credit_commits : (amount at : ℕ) (ss : List Statement) → ss ≡ credit amount at → commits ss ≡ true
credit_commits amount at ss e = ap commits e

one_commits : (s : Statement) (first last : ℕ) → first ≡ 1 → last ≡ 1 → commits (s ∷ []) ≡ true → commits (part first last (s ∷ [])) ≡ true
one_commits s first last f l h = rw (f, l) h

sums_commit : (i first last : ℕ) → i < 2 → first ≡ 1 + i → last ≡ first → commits (part first last (sum_up acct bal ∷ sum_up who owner ∷ [])) ≡ true
sums_commit zero first last h f l =
    let one : first ≡ 1 = omega arith in
    let other : last ≡ 1 = omega arith in
    rw (other, one) refl
sums_commit (suc zero) first last h f l =
    let one : first ≡ 2 = omega arith in
    let other : last ≡ 2 = omega arith in
    rw (other, one) refl
sums_commit (suc (suc i)) first last h f l = absurd (omega arith)

group_commits : (n k first last : ℕ) → list_any (is_group first last) (groups_in (demonstration n) k) ≡ true → commits (statements_in (demonstration n) k (first, last)) ≡ true
group_commits n zero first last h = absurd (false≢true h)
group_commits n (suc zero) first last h =
    let groups : groups_of (openings n) ≡ lone 1 (suc n) = ap (λ (gs : List (ℕ × ℕ)). (1, 1) ∷ gs) (groups_of_openings n 2 1) in
    let found = a_lone (suc n) 1 first last (ap (λ (gs : List (ℕ × ℕ)). list_any (is_group first last) gs) (sym groups) ∙ h) in
    opening_commits n found.0 first last found.1 found.2 found.3
group_commits n (suc (suc zero)) first last h =
    let found = a_lone 1 1 first last h in
    one_commits split first last (omega (arith, found.1, found.2)) (omega (arith, found.1, found.2, found.3)) refl
group_commits n (suc (suc (suc zero))) first last h = let c = credits_of n 3 first last h refl in credit_commits 1 c.0 _ c.3
group_commits n (suc (suc (suc (suc zero)))) first last h = let c = credits_of n 4 first last h refl in credit_commits 2 c.0 _ c.3
group_commits n (suc (suc (suc (suc (suc zero))))) first last h = let c = credits_of n 5 first last h refl in credit_commits 3 c.0 _ c.3
group_commits n (suc (suc (suc (suc (suc (suc zero)))))) first last h = let c = credits_of n 6 first last h refl in credit_commits 4 c.0 _ c.3
group_commits n (suc (suc (suc (suc (suc (suc (suc zero))))))) first last h =
    let found = a_lone 2 1 first last h in
    sums_commit found.0 first last found.1 found.2 found.3
group_commits n (suc (suc (suc (suc (suc (suc (suc (suc s)))))))) first last h = absurd (false≢true h)

-- an entry that has committed, and each of some
pub record IsCommitted (e : Entry) : Type 0 where
  pub number : ℕ
  pub is : e.outcome ≡ Committed number

abbrev pub AreCommitted : List Entry → Type 0
AreCommitted [] = Unit {0}
AreCommitted (e ∷ es) = IsCommitted e × AreCommitted es

first_outcome : (e : Entry) (o : Outcome) (es : List Outcome) (os : List Outcome) → e.outcome ∷ es ≡ o ∷ os → (e.outcome ≡ o) × (es ≡ os)
first_outcome e o es os h = (cc, cc)

pub all_committed : (n k : ℕ) (h : List Entry) → list_all (is_whole_group (demonstration n)) h ≡ true
    → map (λ e. e.outcome) h ≡ outcomes_from k (map (statements_of (demonstration n)) h) → AreCommitted h
all_committed n k [] whole outcomes = tt
all_committed n k (e ∷ es) whole outcomes =
    let wholes = and_parts (is_whole_group (demonstration n) e) (list_all (is_whole_group (demonstration n)) es) whole in
    let here = group_commits n e.session e.first e.last wholes.0 in
    let both = first_outcome e (Committed k) (map (λ x. x.outcome) es) (outcomes_from (k + 1) (map (statements_of (demonstration n)) es)) (rw here at outcomes) in
    (record { number = k; is = both.0 }, all_committed n (k + 1) es wholes.1 both.1)

pub front_committed : (xs ys : List Entry) → AreCommitted (xs ++ ys) → AreCommitted xs
front_committed [] ys h = tt
front_committed (x ∷ xs) ys h = (h.0, front_committed xs ys h.1)

pub back_committed : (xs ys : List Entry) → AreCommitted (xs ++ ys) → AreCommitted ys
back_committed [] ys h = h
back_committed (x ∷ xs) ys h = back_committed xs ys h.1
