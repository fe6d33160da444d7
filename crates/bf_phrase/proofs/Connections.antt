-- Conditions joined by AND and OR, grouped to the left.
use Rattle.std.proofs.Common.{◌≡◌, ℕ, ◌+◌, ◌<◌, ◌≤◌, false, List, [], ◌∷◌, ◌++◌, length, Some, None, refl, sym, ap, subst, ◌∙◌, inl, inr}
use Rattle.std.proofs.lemmas.List.{append-nil}
use Rattle.bf_base.specs.declared.value.Value.TheVariants as value
use Rattle.bf_tree.specs.declared.compare.Compare.TheVariants as compare
use Rattle.bf_tree.specs.declared.raw.Ref.{Ref}
use Rattle.bf_tree.specs.Trees as tree
use Rattle.bf_lex.specs.declared.fault.ScriptKind.TheVariants.{TooDeep}
use Rattle.bf_lex.specs.declared.keyword.Keyword.TheVariants as keyword
use Rattle.bf_lex.specs.declared.sign.Sign.TheVariants as sign
use Rattle.bf_phrase.specs.declared.error.ReadStop.{ReadStop}
use Rattle.bf_phrase.specs.Words.{Word, Keyword, Sign}
use Rattle.bf_phrase.specs.Words as word
use Rattle.bf_phrase.specs.Steps.{Step, Say, Limit, Node, said}
use Rattle.bf_phrase.specs.Rules.{Return, After, Marked, Then, Either}
use Rattle.bf_phrase.specs.Reading.{Ends, Reading, Read, Over, Fits}
use Rattle.bf_phrase.specs.Outcome.{IsBehind, stopped}
use Rattle.bf_phrase.specs.Follow.{is_point, follow_conjunction, follow_disjunction}
use Rattle.bf_phrase.specs.Conditions.{CountedCond, OperandRule, Negation, comparison, Conjunction, conjunction, Negations, no_negation, other_negation, Disjunction, disjunction, Conjunctions, no_conjunction, other_conjunction}
use Rattle.bf_phrase.specs.Conditions as cond
use Rattle.bf_phrase.proofs.Fitting.{fits_by}
use Rattle.bf_phrase.proofs.Lists.{weaker_ends}
use Rattle.bf_phrase.proofs.Moves.{Can, Passed, left_here, right_here, return_not_here, return_fits, after_not_here, then_can, then_go, then_stop}
use Rattle.bf_phrase.proofs.Chains.{node_go, node_deep, marked_not_here, or_left}

-- ---- what can be spelled

empty_text : OperandRule (Say (word.Text []) ∷ []) (tree.literal (value.Text []))
empty_text = cond.value (value.Text []) (cond.text [] refl refl) refl

pub negation_can : {n : ℕ} → Can (Negation n)
negation_can {n = n} =
    let a = tree.literal (value.Text []) in
    record { it = (Say (word.Text []) ∷ Limit (Node (n + 1)) ∷ Say (Sign sign.Equal) ∷ Say (word.Text []) ∷ [], (tree.compared compare.Equal a a, n + 1), comparison compare.Equal a a (Say (word.Text []) ∷ []) (Say (word.Text []) ∷ []) empty_text empty_text refl refl) }

pub negations_can : {c : CountedCond} → Can (Negations c)
negations_can {c = c} = record { it = ([], c, no_negation refl refl) }

pub conjunction_can : {n : ℕ} → Can (Conjunction n)
conjunction_can {n = n} = let p = negation_can {n = n} in record { it = (p.it.0, p.it.1, conjunction p.it.0 [] p.it.1 p.it.2 (no_negation refl refl) (sym (append-nil p.it.0))) }

pub conjunctions_can : {c : CountedCond} → Can (Conjunctions c)
conjunctions_can {c = c} = record { it = ([], c, no_conjunction refl refl) }

pub disjunction_can : {n : ℕ} → Can (Disjunction n)
disjunction_can {n = n} = let p = conjunction_can {n = n} in record { it = (p.it.0, p.it.1, disjunction p.it.0 [] p.it.1 p.it.2 (no_conjunction refl refl) (sym (append-nil p.it.0))) }

-- ---- what may follow

negation_ends : (t : Word) → follow_conjunction t ≡ false → is_point t ≡ false
negation_ends t e = or_left _ _ e

conjunction_ends : (t : Word) → follow_disjunction t ≡ false → follow_conjunction t ≡ false
conjunction_ends t e = or_left _ _ e

negations_pass : (c : CountedCond) (s : List Step) (b : CountedCond) (back : List Word) → Negations c s b → Ends follow_conjunction back → Ends is_point (said s ++ back)
negations_pass c s b back (no_negation p q) ends = subst (λ (z : List Step). Ends is_point (said z ++ back)) (sym p) (weaker_ends is_point follow_conjunction negation_ends back ends)
negations_pass c s b back (other_negation front rest d g m p) ends = subst (λ (z : List Step). Ends is_point (said z ++ back)) (sym p) refl

pub negations_passed : {f : CountedCond → CountedCond} → Passed is_point follow_conjunction (λ b. Negations (f b))
negations_passed {f = f} = record { it = λ a s b back h ends. negations_pass (f a) s b back h ends }

conjunctions_pass : (c : CountedCond) (s : List Step) (b : CountedCond) (back : List Word) → Conjunctions c s b → Ends follow_disjunction back → Ends follow_conjunction (said s ++ back)
conjunctions_pass c s b back (no_conjunction p q) ends = subst (λ (z : List Step). Ends follow_conjunction (said z ++ back)) (sym p) (weaker_ends follow_conjunction follow_disjunction conjunction_ends back ends)
conjunctions_pass c s b back (other_conjunction front rest d g m p) ends = subst (λ (z : List Step). Ends follow_conjunction (said z ++ back)) (sym p) refl

pub conjunctions_passed : {f : CountedCond → CountedCond} → Passed follow_conjunction follow_disjunction (λ b. Conjunctions (f b))
conjunctions_passed {f = f} = record { it = λ a s b back h ends. conjunctions_pass (f a) s b back h ends }

-- ---- AND

pub conjunction_as : {n : ℕ} {ws : List Word} {r : Reading CountedCond} → Fits follow_conjunction (Then (Negation n) Negations) ws r → Fits follow_conjunction (Conjunction n) ws r
conjunction_as {n = n} {ws = ws} {r = r} f = record { it = fits_by follow_conjunction (Then (Negation n) Negations) (Conjunction n) ws r f.it (λ s b h. conjunction h.0 h.1 h.2 h.4 h.5 h.3) (λ s b back g ends same. from s b g) }
  where
    from : (s : List Step) (b : CountedCond) → Conjunction n s b → Then (Negation n) Negations s b
    from s b (conjunction front rest c g m p) = (front, rest, c, p, g, m)

abbrev BehindAnd : CountedCond → List Step → CountedCond → Type 0
BehindAnd c = Then (Negation (c.1 + 1)) (λ d. Negations (tree.both c.0 d.0, d.1))

abbrev Anded : CountedCond → List Step → CountedCond → Type 0
Anded c = Marked (Node (c.1 + 1)) (After (Keyword keyword.And) (BehindAnd c))

negations_as : {c : CountedCond} {ws : List Word} {r : Reading CountedCond} → Fits follow_conjunction (Either (Anded c) (Return c)) ws r → Fits follow_conjunction (Negations c) ws r
negations_as {c = c} {ws = ws} {r = r} f = record { it = fits_by follow_conjunction (Either (Anded c) (Return c)) (Negations c) ws r f.it to (λ s b back g ends same. from s b g) }
  where
    to : (s : List Step) (b : CountedCond) → Either (Anded c) (Return c) s b → Negations c s b
    to s b (inr h) = no_negation h.0 h.1
    to s b (inl h) =
        let t = h.2.2 in
        other_negation t.0 t.1 t.2 t.4 t.5 (h.1 ∙ ap (λ (z : List Step). Limit (Node (c.1 + 1)) ∷ z) (h.2.1 ∙ ap (λ (z : List Step). Say (Keyword keyword.And) ∷ z) t.3))

    from : (s : List Step) (b : CountedCond) → Negations c s b → Either (Anded c) (Return c) s b
    from s b (no_negation p q) = inr (p, q)
    from s b (other_negation front rest d g m p) = inl (Say (Keyword keyword.And) ∷ (front ++ rest), p, (front ++ rest, refl, (front, rest, d, refl, g, m)))

and_go : {c : CountedCond} {ws rest : List Word} {r : Reading CountedCond} → c.1 < 256 → IsBehind (Keyword keyword.And) ws (Some rest) → Fits follow_conjunction (BehindAnd c) rest r → Fits follow_conjunction (Negations c) ws r
and_go low h f = negations_as (left_here (return_not_here h refl) (node_go low h f))

pub and_deep : {c : CountedCond} {ws rest : List Word} (k : ℕ) → length ws ≡ k → 256 ≤ c.1 → IsBehind (Keyword keyword.And) ws (Some rest) → Fits follow_conjunction (Negations c) ws (Over TooDeep k)
and_deep {c = c} k e high h = negations_as (left_here (return_not_here h refl) (node_deep k e high h (then_can (negation_can {n = c.1 + 1}) (λ d. negations_can))))

pub and_end : {c : CountedCond} {ws : List Word} → IsBehind (Keyword keyword.And) ws None → Fits follow_conjunction (Negations c) ws (Read c ws)
and_end h = negations_as (right_here (marked_not_here (after_not_here h)) return_fits)

pub and_stop : {c : CountedCond} {m : ℕ} {ws rest : List Word} (e : ReadStop) → m ≡ c.1 + 1 → c.1 < 256 → IsBehind (Keyword keyword.And) ws (Some rest) → Fits is_point (Negation m) rest (stopped e) → Fits follow_conjunction (Negations c) ws (stopped e)
and_stop {c = c} {rest = rest} e same low h f =
    and_go low h (then_stop e (negations_passed {f = λ (d : CountedCond). (tree.both c.0 d.0, d.1)}) (λ d. negations_can) (subst (λ (k : ℕ). Fits is_point (Negation k) rest (stopped e)) same f))

pub and_more : {c : CountedCond} {m k : ℕ} {ws rest mid : List Word} {d t : tree.Cond Ref} {r : Reading CountedCond} → m ≡ c.1 + 1 → c.1 < 256 → IsBehind (Keyword keyword.And) ws (Some rest) → Fits is_point (Negation m) rest (Read (d, k) mid) → t ≡ tree.both c.0 d
    → Fits follow_conjunction (Negations (t, k)) mid r → Fits follow_conjunction (Negations c) ws r
and_more {c = c} {k = k} {rest = rest} {mid = mid} {d = d} {r = r} same low h f value g =
    and_go low h
    (then_go (negations_passed {f = λ (x : CountedCond). (tree.both c.0 x.0, x.1)}) (subst (λ (n : ℕ). Fits is_point (Negation n) rest (Read (d, k) mid)) same f)
    (subst (λ (x : tree.Cond Ref). Fits follow_conjunction (Negations (x, k)) mid r) value g))

-- ---- OR

pub disjunction_as : {n : ℕ} {ws : List Word} {r : Reading CountedCond} → Fits follow_disjunction (Then (Conjunction n) Conjunctions) ws r → Fits follow_disjunction (Disjunction n) ws r
disjunction_as {n = n} {ws = ws} {r = r} f = record { it = fits_by follow_disjunction (Then (Conjunction n) Conjunctions) (Disjunction n) ws r f.it (λ s b h. disjunction h.0 h.1 h.2 h.4 h.5 h.3) (λ s b back g ends same. from s b g) }
  where
    from : (s : List Step) (b : CountedCond) → Disjunction n s b → Then (Conjunction n) Conjunctions s b
    from s b (disjunction front rest c g m p) = (front, rest, c, p, g, m)

abbrev BehindOr : CountedCond → List Step → CountedCond → Type 0
BehindOr c = Then (Conjunction (c.1 + 1)) (λ d. Conjunctions (tree.either c.0 d.0, d.1))

abbrev Ored : CountedCond → List Step → CountedCond → Type 0
Ored c = Marked (Node (c.1 + 1)) (After (Keyword keyword.Or) (BehindOr c))

conjunctions_as : {c : CountedCond} {ws : List Word} {r : Reading CountedCond} → Fits follow_disjunction (Either (Ored c) (Return c)) ws r → Fits follow_disjunction (Conjunctions c) ws r
conjunctions_as {c = c} {ws = ws} {r = r} f = record { it = fits_by follow_disjunction (Either (Ored c) (Return c)) (Conjunctions c) ws r f.it to (λ s b back g ends same. from s b g) }
  where
    to : (s : List Step) (b : CountedCond) → Either (Ored c) (Return c) s b → Conjunctions c s b
    to s b (inr h) = no_conjunction h.0 h.1
    to s b (inl h) =
        let t = h.2.2 in
        other_conjunction t.0 t.1 t.2 t.4 t.5 (h.1 ∙ ap (λ (z : List Step). Limit (Node (c.1 + 1)) ∷ z) (h.2.1 ∙ ap (λ (z : List Step). Say (Keyword keyword.Or) ∷ z) t.3))

    from : (s : List Step) (b : CountedCond) → Conjunctions c s b → Either (Ored c) (Return c) s b
    from s b (no_conjunction p q) = inr (p, q)
    from s b (other_conjunction front rest d g m p) = inl (Say (Keyword keyword.Or) ∷ (front ++ rest), p, (front ++ rest, refl, (front, rest, d, refl, g, m)))

or_go : {c : CountedCond} {ws rest : List Word} {r : Reading CountedCond} → c.1 < 256 → IsBehind (Keyword keyword.Or) ws (Some rest) → Fits follow_disjunction (BehindOr c) rest r → Fits follow_disjunction (Conjunctions c) ws r
or_go low h f = conjunctions_as (left_here (return_not_here h refl) (node_go low h f))

pub or_deep : {c : CountedCond} {ws rest : List Word} (k : ℕ) → length ws ≡ k → 256 ≤ c.1 → IsBehind (Keyword keyword.Or) ws (Some rest) → Fits follow_disjunction (Conjunctions c) ws (Over TooDeep k)
or_deep {c = c} k e high h = conjunctions_as (left_here (return_not_here h refl) (node_deep k e high h (then_can (conjunction_can {n = c.1 + 1}) (λ d. conjunctions_can))))

pub or_end : {c : CountedCond} {ws : List Word} → IsBehind (Keyword keyword.Or) ws None → Fits follow_disjunction (Conjunctions c) ws (Read c ws)
or_end h = conjunctions_as (right_here (marked_not_here (after_not_here h)) return_fits)

pub or_stop : {c : CountedCond} {m : ℕ} {ws rest : List Word} (e : ReadStop) → m ≡ c.1 + 1 → c.1 < 256 → IsBehind (Keyword keyword.Or) ws (Some rest) → Fits follow_conjunction (Conjunction m) rest (stopped e) → Fits follow_disjunction (Conjunctions c) ws (stopped e)
or_stop {c = c} {rest = rest} e same low h f =
    or_go low h (then_stop e (conjunctions_passed {f = λ (d : CountedCond). (tree.either c.0 d.0, d.1)}) (λ d. conjunctions_can) (subst (λ (k : ℕ). Fits follow_conjunction (Conjunction k) rest (stopped e)) same f))

pub or_more : {c : CountedCond} {m k : ℕ} {ws rest mid : List Word} {d t : tree.Cond Ref} {r : Reading CountedCond} → m ≡ c.1 + 1 → c.1 < 256 → IsBehind (Keyword keyword.Or) ws (Some rest) → Fits follow_conjunction (Conjunction m) rest (Read (d, k) mid) → t ≡ tree.either c.0 d
    → Fits follow_disjunction (Conjunctions (t, k)) mid r → Fits follow_disjunction (Conjunctions c) ws r
or_more {c = c} {k = k} {rest = rest} {mid = mid} {d = d} {r = r} same low h f value g =
    or_go low h
    (then_go (conjunctions_passed {f = λ (x : CountedCond). (tree.either c.0 x.0, x.1)}) (subst (λ (n : ℕ). Fits follow_conjunction (Conjunction n) rest (Read (d, k) mid)) same f)
    (subst (λ (x : tree.Cond Ref). Fits follow_disjunction (Conjunctions (x, k)) mid r) value g))
