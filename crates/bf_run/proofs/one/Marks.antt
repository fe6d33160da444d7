-- The first mark of steps that is a fault: each step before it is within the limits.
use Rattle.std.proofs.Common.{◌≡◌, ◌≤◌, true, List, [], ◌∷◌, ◌++◌, length, Some, is_none, refl, sym, ap, subst, arith}
use Rattle.std.proofs.lemmas.Bool.{and_parts}
use Rattle.bf_lex.specs.declared.fault.ScriptKind.{ScriptKind}
use Rattle.bf_phrase.specs.Words.{Word}
use Rattle.bf_phrase.specs.Steps.{Step, Say, Limit, Mark, fault_at, said, within}
use Rattle.bf_run.proofs.one.Fronts.{same_head, same_tail}

pub said_behind : (s t : List Step) → said (s ++ t) ≡ said s ++ said t
said_behind [] t = refl
said_behind (Say w ∷ s) t = ap (λ (ws : List Word). w ∷ ws) (said_behind s t)
said_behind (Limit m ∷ s) t = said_behind s t

within_behind : (a : Step) (s : List Step) → within (a ∷ s) ≡ true → within s ≡ true
within_behind (Say w) s inside = inside
within_behind (Limit m) s inside = (and_parts (is_none (fault_at m)) (within s) inside).1

longer_behind : (a : Step) (s t : List Step) → length (said s) ≤ length (said t)
    → length (said (a ∷ s)) ≤ length (said (a ∷ t))
longer_behind (Say w) s t short = omega arith
longer_behind (Limit n) s t short = short

said_with : (a : Step) (s t : List Step) → said s ≡ said t → said (a ∷ s) ≡ said (a ∷ t)
said_with (Say w) s t e = ap (λ (ws : List Word). w ∷ ws) e
said_with (Limit n) s t e = e

same_mark : (m n : Mark) → Limit m ≡ Limit n → m ≡ n
same_mark m n e = cc

is_no_fault : (m : Mark) (kind : ScriptKind) → fault_at m ≡ Some kind → is_none (fault_at m) ≡ true → ⊥
is_no_fault m kind high free = cc

module _ (m : Mark) (kind : ScriptKind) (high : fault_at m ≡ Some kind) where
  -- steps that are within do not begin with it
  pub not_first : (a : Step) (s : List Step) → within (a ∷ s) ≡ true → Limit m ≡ a → ⊥
  not_first a s inside e =
      let there : within (Limit m ∷ s) ≡ true = subst (λ (b : Step). within (b ∷ s) ≡ true) (sym e) inside in
      is_no_fault m kind high (and_parts (is_none (fault_at m)) (within s) there).0

  -- nor is it among them
  pub not_within : (s t : List Step) → within (s ++ Limit m ∷ t) ≡ true → ⊥
  not_within [] t inside = not_first (Limit m) t inside refl
  not_within (a ∷ s) t inside = not_within s t (within_behind a (s ++ Limit m ∷ t) inside)

  -- they end before it
  pub ends_before : (s more t u : List Step) → within s ≡ true → s ++ more ≡ t ++ Limit m ∷ u
      → length (said s) ≤ length (said t)
  ends_before [] more t u inside e = omega arith
  ends_before (a ∷ s) more [] u inside e = absurd (not_first a s inside (sym (same_head a (Limit m) (s ++ more) u e)))
  ends_before (a ∷ s) more (b ∷ t) u inside e =
      let short = ends_before s more t u (within_behind a s inside) (same_tail a b (s ++ more) (t ++ Limit m ∷ u) e) in
      let head = same_head a b (s ++ more) (t ++ Limit m ∷ u) e in
      subst (λ (c : Step). length (said (a ∷ s)) ≤ length (said (c ∷ t))) head (longer_behind a s t short)

pub record SameFirst (m n : Mark) (s t : List Step) : Type 0 where
  pub mark : m ≡ n
  pub words : said s ≡ said t

-- two of one list of steps, each behind steps that are within, are one
pub one_first : (m n : Mark) (one other : ScriptKind) → fault_at m ≡ Some one → fault_at n ≡ Some other
    → (s t x y : List Step) → within s ≡ true → within t ≡ true → s ++ Limit m ∷ x ≡ t ++ Limit n ∷ y
    → SameFirst m n s t
one_first m n one other high high_too [] [] x y inside inside_too e =
    record { mark = same_mark m n (same_head (Limit m) (Limit n) x y e); words = refl }
one_first m n one other high high_too [] (b ∷ t) x y inside inside_too e =
    absurd (not_first m one high b t inside_too (same_head (Limit m) b x (t ++ Limit n ∷ y) e))
one_first m n one other high high_too (a ∷ s) [] x y inside inside_too e =
    absurd (not_first n other high_too a s inside (sym (same_head a (Limit n) (s ++ Limit m ∷ x) y e)))
one_first m n one other high high_too (a ∷ s) (b ∷ t) x y inside inside_too e =
    let head = same_head a b (s ++ Limit m ∷ x) (t ++ Limit n ∷ y) e in
    let tail = same_tail a b (s ++ Limit m ∷ x) (t ++ Limit n ∷ y) e in
    let rest = one_first m n one other high high_too s t x y (within_behind a s inside) (within_behind b t inside_too)
    tail in
    let words = subst (λ (c : Step). said (a ∷ s) ≡ said (c ∷ t)) head (said_with a s t rest.words) in
    record { mark = rest.mark; words = words }
