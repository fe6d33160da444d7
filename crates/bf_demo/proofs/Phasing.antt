-- The history of the demonstration, cut into its phases.
use Rattle.std.proofs.Common.{◌≡◌, ℕ, suc, zero, ◌+◌, ◌-◌, ◌*◌, ◌<◌, ◌≤◌, ◌==◌, nat_le, nat_lt, Bool, false, true, not, ◌&&◌, ◌||◌, List, [], ◌∷◌, ◌++◌, map, filter, length, refl, sym, ap, subst, ◌∙◌, arith}
use Rattle.std.proofs.lemmas.Bool.{eqb-true, false≢true, leb-true, and_parts}
use Rattle.std.proofs.lemmas.Bool.Decides.{nat_tests}
use Rattle.std.proofs.lemmas.List.Folds.{list_all-append}
use Rattle.std.specs.List.{list_all}
use Rattle.bf_base.specs.Lists.{with_before_from}
use Rattle.bf_tree.specs.declared.history.Entry.{Entry}
use Rattle.bf_tree.specs.declared.history.Outcome.TheVariants.{RolledBack}
use Rattle.bf_sql.specs.Groups.{session_at}
use Rattle.bf_sql.specs.History.{is_whole_group, may_precede}
use Rattle.bf_demo.specs.Script.{demonstration}
use Rattle.bf_demo.proofs.Crediting.{total}

abbrev pub phase_of : ℕ → ℕ → ℕ
phase_of n s = (session_at (demonstration n) s).phase

abbrev pub phase : ℕ → Entry → ℕ
phase n e = phase_of n e.session

-- phases do not fall, from c on
abbrev pub Rises : ℕ → ℕ → List Entry → Type 0
Rises n c [] = Unit {0}
Rises n c (e ∷ es) = (c ≤ phase n e) × Rises n (phase n e) es

abbrev pub are_before : ℕ → List Entry × Entry → Bool
are_before n p = list_all (λ d. may_precede (demonstration n) d p.1) p.0

rises : (n : ℕ) (before : List Entry) (d : Entry) (h : List Entry) → list_all (are_before n) (with_before_from (before ++ d ∷ []) h) ≡ true → Rises n (phase n d) h
rises n before d [] ok = tt
rises n before d (e ∷ es) ok =
    let precedes : Entry → Bool = λ x. may_precede (demonstration n) x e in
    let parts = and_parts (list_all precedes (before ++ d ∷ [])) (list_all (are_before n) (with_before_from ((before ++ d ∷ []) ++ e ∷ []) es)) ok in
    let joined : (list_all precedes before && list_all precedes (d ∷ [])) ≡ true = sym (list_all-append precedes before (d ∷ [])) ∙ parts.0 in
    let last = (and_parts (list_all precedes before) (list_all precedes (d ∷ [])) joined).1 in
    let here = (and_parts (precedes d) true last).0 in
    let phases = (and_parts (not (d.session == e.session) || nat_lt d.last e.first) (nat_le (phase n d) (phase n e)) here).1 in
    (leb-true (phase n d) (phase n e) phases, rises n (before ++ d ∷ []) e es parts.1)

-- a session out of the script has no groups
phase_there : (n s first last : ℕ) → is_whole_group (demonstration n) (record { session = s; first = first; last = last; outcome = RolledBack }) ≡ true → 1 ≤ phase_of n s
phase_there n zero first last h = absurd (false≢true h)
phase_there n (suc zero) first last h = omega arith
phase_there n (suc (suc zero)) first last h = omega arith
phase_there n (suc (suc (suc zero))) first last h = omega arith
phase_there n (suc (suc (suc (suc zero)))) first last h = omega arith
phase_there n (suc (suc (suc (suc (suc zero))))) first last h = omega arith
phase_there n (suc (suc (suc (suc (suc (suc zero)))))) first last h = omega arith
phase_there n (suc (suc (suc (suc (suc (suc (suc zero))))))) first last h = omega arith
phase_there n (suc (suc (suc (suc (suc (suc (suc (suc s)))))))) first last h = absurd (false≢true h)

pub rises_from_one : (n : ℕ) (h : List Entry) → list_all (is_whole_group (demonstration n)) h ≡ true → list_all (are_before n) (with_before_from [] h) ≡ true → Rises n 1 h
rises_from_one n [] whole ok = tt
rises_from_one n (e ∷ es) whole ok =
    let here = (and_parts (is_whole_group (demonstration n) e) (list_all (is_whole_group (demonstration n)) es) whole).0 in
    (phase_there n e.session e.first e.last here, rises n [] e es (and_parts true (list_all (are_before n) (with_before_from (e ∷ []) es)) ok).1)

-- the entries of a phase, and those behind them
pub record Cut (n c : ℕ) (h : List Entry) : Type 0 where
  pub front : List Entry
  pub back : List Entry
  pub whole : h ≡ front ++ back
  pub here : list_all (λ e. phase n e == c) front ≡ true
  pub later : Rises n (c + 1) back

above : (c p : ℕ) → c ≤ p → (p == c) ≡ false → c + 1 ≤ p
above c p low t = grind (arith, nat_tests)

pub cut : (n c : ℕ) (h : List Entry) → Rises n c h → Cut n c h
cut n c [] r = record { front = []; back = []; whole = refl; here = refl; later = tt }
cut n c (e ∷ es) r = go (phase n e == c) refl (λ same. cut n c es (subst (λ (p : ℕ). Rises n p es) same r.1))
  where
    go : (t : Bool) → (phase n e == c) ≡ t → (phase n e ≡ c → Cut n c es) → Cut n c (e ∷ es)
    go true t more =
        let rest = more (eqb-true (phase n e) c t) in
        record { front = e ∷ rest.front; back = rest.back; whole = ap (λ (xs : List Entry). e ∷ xs) rest.whole; here = rw t rest.here; later = rest.later }
    go false t more = record { front = []; back = e ∷ es; whole = refl; here = refl; later = (above c (phase n e) r.0 t, r.1) }

-- the first and the last statement of an entry
abbrev pub group_of : Entry → ℕ × ℕ
group_of e = (e.first, e.last)

-- THE ENTRIES OF A SESSION in a phase
abbrev pub of_session : ℕ → List Entry → List Entry
of_session s es = filter (λ e. e.session == s) es

pub none_of_phase : (n c s : ℕ) (es : List Entry) → list_all (λ e. phase n e == c) es ≡ true → (phase_of n s == c) ≡ false → of_session s es ≡ []
none_of_phase n c s [] here other = refl
none_of_phase n c s (e ∷ es) here other = go (e.session == s) refl (and_parts (phase n e == c) (list_all (λ x. phase n x == c) es) here) (λ more. none_of_phase n c s es more other)
  where
    go : (t : Bool) → (e.session == s) ≡ t → (phase n e == c) ≡ true × (list_all (λ x. phase n x == c) es ≡ true) → (list_all (λ x. phase n x == c) es ≡ true → of_session s es ≡ []) → of_session s (e ∷ es) ≡ []
    go true t both more = absurd (false≢true (sym other ∙ (sym (ap (λ k. phase_of n k == c) (eqb-true e.session s t)) ∙ both.0)))
    go false t both more = rw t (more both.1)

pub none_later : (n d s : ℕ) (es : List Entry) → Rises n d es → phase_of n s < d → of_session s es ≡ []
none_later n d s [] r low = refl
none_later n d s (e ∷ es) r low = go (e.session == s) refl (none_later n (phase n e) s es r.1 (omega (arith, r.0)))
  where
    go : (t : Bool) → (e.session == s) ≡ t → of_session s es ≡ [] → of_session s (e ∷ es) ≡ []
    go true t more =
        let same = ap (phase_of n) (eqb-true e.session s t) in
        let low_there = r.0 in
        absurd (omega arith)
    go false t more = rw t more

-- all of a phase are of one session
pub all_of_phase : (n c s : ℕ) → ((k : ℕ) → (phase_of n k == c) ≡ true → (k == s) ≡ true) → (es : List Entry) → list_all (λ e. phase n e == c) es ≡ true → of_session s es ≡ es
all_of_phase n c s only [] here = refl
all_of_phase n c s only (e ∷ es) here =
    let both = and_parts (phase n e == c) (list_all (λ x. phase n x == c) es) here in
    rw (only e.session both.0) (ap (λ (xs : List Entry). e ∷ xs) (all_of_phase n c s only es both.1))

pub all_later : (n d s : ℕ) → ((k : ℕ) → d ≤ phase_of n k → (k == s) ≡ true) → (p : ℕ) → d ≤ p → (es : List Entry) → Rises n p es → of_session s es ≡ es
all_later n d s only p low [] r = refl
all_later n d s only p low (e ∷ es) r =
    let here : d ≤ phase n e = omega (arith, r.0) in
    rw (only e.session here) (ap (λ (xs : List Entry). e ∷ xs) (all_later n d s only (phase n e) here es r.1))

pub only_first : (n k : ℕ) → (phase_of n k == 1) ≡ true → (k == 1) ≡ true
only_first n zero h = absurd (false≢true h)
only_first n (suc zero) h = refl
only_first n (suc (suc zero)) h = absurd (false≢true h)
only_first n (suc (suc (suc zero))) h = absurd (false≢true h)
only_first n (suc (suc (suc (suc zero)))) h = absurd (false≢true h)
only_first n (suc (suc (suc (suc (suc zero))))) h = absurd (false≢true h)
only_first n (suc (suc (suc (suc (suc (suc zero)))))) h = absurd (false≢true h)
only_first n (suc (suc (suc (suc (suc (suc (suc zero))))))) h = absurd (false≢true h)
only_first n (suc (suc (suc (suc (suc (suc (suc (suc s)))))))) h = absurd (false≢true h)

pub only_second : (n k : ℕ) → (phase_of n k == 2) ≡ true → (k == 2) ≡ true
only_second n zero h = absurd (false≢true h)
only_second n (suc zero) h = absurd (false≢true h)
only_second n (suc (suc zero)) h = refl
only_second n (suc (suc (suc zero))) h = absurd (false≢true h)
only_second n (suc (suc (suc (suc zero)))) h = absurd (false≢true h)
only_second n (suc (suc (suc (suc (suc zero))))) h = absurd (false≢true h)
only_second n (suc (suc (suc (suc (suc (suc zero)))))) h = absurd (false≢true h)
only_second n (suc (suc (suc (suc (suc (suc (suc zero))))))) h = absurd (false≢true h)
only_second n (suc (suc (suc (suc (suc (suc (suc (suc s)))))))) h = absurd (false≢true h)

pub only_last : (n k : ℕ) → 4 ≤ phase_of n k → (k == 7) ≡ true
only_last n zero h = absurd (omega arith)
only_last n (suc zero) h = absurd (omega arith)
only_last n (suc (suc zero)) h = absurd (omega arith)
only_last n (suc (suc (suc zero))) h = absurd (omega arith)
only_last n (suc (suc (suc (suc zero)))) h = absurd (omega arith)
only_last n (suc (suc (suc (suc (suc zero))))) h = absurd (omega arith)
only_last n (suc (suc (suc (suc (suc (suc zero)))))) h = absurd (omega arith)
only_last n (suc (suc (suc (suc (suc (suc (suc zero))))))) h = refl
only_last n (suc (suc (suc (suc (suc (suc (suc (suc s)))))))) h = absurd (omega arith)

-- WHAT A PHASE ADDS: two less than the number of the session, which is how much that session credits
abbrev pub weight : Entry → ℕ
weight e = e.session - 2

one_if : Bool → ℕ
one_if true = 1
one_if false = 0

counts_one : (s : ℕ) (e : Entry) (es : List Entry) → length (of_session s (e ∷ es)) ≡ one_if (e.session == s) + length (of_session s es)
unfolding one_if
counts_one s e es = go (e.session == s) refl
  where
    go : (t : Bool) → (e.session == s) ≡ t → length (of_session s (e ∷ es)) ≡ one_if (e.session == s) + length (of_session s es)
    go true t = rw t (omega arith)
    go false t = rw t (omega arith)

weighs : (n k : ℕ) → (phase_of n k == 3) ≡ true → k - 2 ≡ one_if (k == 3) + 2 * one_if (k == 4) + 3 * one_if (k == 5) + 4 * one_if (k == 6)
unfolding one_if
weighs n zero h = absurd (false≢true h)
weighs n (suc zero) h = absurd (false≢true h)
weighs n (suc (suc zero)) h = absurd (false≢true h)
weighs n (suc (suc (suc zero))) h = refl
weighs n (suc (suc (suc (suc zero)))) h = refl
weighs n (suc (suc (suc (suc (suc zero))))) h = refl
weighs n (suc (suc (suc (suc (suc (suc zero)))))) h = refl
weighs n (suc (suc (suc (suc (suc (suc (suc zero))))))) h = absurd (false≢true h)
weighs n (suc (suc (suc (suc (suc (suc (suc (suc s)))))))) h = absurd (false≢true h)

pub weights : (n : ℕ) (es : List Entry) → list_all (λ e. phase n e == 3) es ≡ true
    → total (map weight es) ≡ length (of_session 3 es) + 2 * length (of_session 4 es) + 3 * length (of_session 5 es) + 4 * length (of_session 6 es)
weights n [] here = refl
weights n (e ∷ es) here =
    let both = and_parts (phase n e == 3) (list_all (λ x. phase n x == 3) es) here in
    let more = weights n es both.1 in
    let first = weighs n e.session both.0 in
    let a = counts_one 3 e es in
    let b = counts_one 4 e es in
    let c = counts_one 5 e es in
    let d = counts_one 6 e es in
    omega (arith, more, first, a, b, c, d)
