-- The last statement of a group, read from its first.
use Rattle.std.proofs.Common.{◌≡◌, ◌⊎◌, ℕ, zero, suc, ◌+◌, ◌-◌, ◌≤◌, List, [], ◌∷◌, drop, Option, Some, None, refl, sym, ap, ◌∙◌, arith, inl, inr}
use Rattle.std.specs.Prelude.{Contains}
use Rattle.bf_tree.specs.declared.script.Script.{Script}
use Rattle.bf_tree.specs.declared.statement.Statement.{Statement}
use Rattle.bf_tree.specs.declared.statement.Statement.TheVariants.{Begin, Commit, Rollback}
use Rattle.bf_sql.specs.Groups.{groups_from, groups_in, session_at}
use Rattle.bf_machine.specs.interleaving.Machines.{Group}
use Rattle.bf_machine.specs.interleaving.Seen.{block_end, end_of, last_from}

-- a group that begins among some statements ends where it does by its text
record IsEnded (n : ℕ) (ss : List Statement) (g : Group) : Type 0 where
  pub before : ℕ
  pub at : g.0 ≡ n + before
  pub ends : g.1 ≡ end_of g.0 (drop before ss)

later : (n : ℕ) (s : Statement) (ss : List Statement) (g : Group) → IsEnded (n + 1) ss g → IsEnded n (s ∷ ss) g
later n s ss g is = record { before = suc is.before; at = omega (arith, is.at); ends = is.ends }

here : (n : ℕ) (ss : List Statement) (g : Group) (last : ℕ) → last ≡ end_of n ss → ◌≡◌ {A = Group} (n, last) g → IsEnded n ss g
here n ss g last e same =
    let first : g.0 ≡ n = ap (λ (g : Group). g.0) (sym same) in
    record { before = 0; at = omega (arith, first); ends = ap (λ (g : Group). g.1) (sym same) ∙ (e ∙ ap (λ (k : ℕ). end_of k ss) (sym first)) }

first_or_later : (x : Group) (gs : List Group) (g : Group) → Contains (x ∷ gs) g → (x ≡ g) ⊎ Contains gs g
first_or_later x gs g (zero, within, is) = inl is
first_or_later x gs g (suc k, within, is) = inr (k, omega (arith, within), is)

-- so it is of the groups from a statement on; a block that has begun before ends at the first COMMIT or ROLLBACK
abbrev Ends : ℕ → Option ℕ → List Statement → Group → Type 0
Ends n None ss g = IsEnded n ss g
Ends n (Some b) ss g = (◌≡◌ {A = Group} (b, block_end (n - 1) ss) g) ⊎ IsEnded n ss g

back : (n : ℕ) → 1 ≤ n → n - 1 + 1 ≡ n
back n low = omega (arith, low)

then_or_later : (n last : ℕ) (b : ℕ) (s : Statement) (ss : List Statement) (g : Group) → Contains ((b, n) ∷ groups_from (n + 1) None ss) g → last ≡ n
    → (Contains (groups_from (n + 1) None ss) g → IsEnded (n + 1) ss g) → (◌≡◌ {A = Group} (b, last) g) ⊎ IsEnded n (s ∷ ss) g
then_or_later n last b s ss g among e rest = elim (first_or_later (b, n) (groups_from (n + 1) None ss) g among) as (λ _. (◌≡◌ {A = Group} (b, last) g) ⊎ IsEnded n (s ∷ ss) g) [
  | inl same ↦ inl (ap (λ (k : ℕ). (b, k)) e ∙ same)
  | inr there ↦ inr (later n s ss g (rest there))
]

ends : (n : ℕ) (began : Option ℕ) (ss : List Statement) (g : Group) → 1 ≤ n → Contains (groups_from n began ss) g → Ends n began ss g
ends n None [] g low among = absurd (omega (arith, among.1))
ends n (Some b) [] g low among = elim (first_or_later (b, n - 1) [] g among) as (λ _. Ends n (Some b) [] g) [
  | inl same ↦ inl same
  | inr none ↦ absurd (omega (arith, none.1))
]
ends n None (Begin ∷ ss) g low among = elim (ends (n + 1) (Some n) ss g (omega arith) among) as (λ _. IsEnded n (Begin ∷ ss) g) [
  | inl same ↦ here n (Begin ∷ ss) g (block_end (n + 1 - 1) ss) (let e : n + 1 - 1 ≡ n = omega arith in ap (λ (k : ℕ). block_end k ss) e) same
  | inr there ↦ later n Begin ss g there
]
ends n None (Commit ∷ ss) g low among = later n Commit ss g (ends (n + 1) None ss g (omega arith) among)
ends n None (Rollback ∷ ss) g low among = later n Rollback ss g (ends (n + 1) None ss g (omega arith) among)
ends n None (s ∷ ss) g low among = elim (first_or_later (n, n) (groups_from (n + 1) None ss) g among) as (λ _. IsEnded n (s ∷ ss) g) [
  | inl same ↦ here n (s ∷ ss) g n refl same
  | inr there ↦ later n s ss g (ends (n + 1) None ss g (omega arith) there)
]
ends n (Some b) (Commit ∷ ss) g low among = then_or_later n (n - 1 + 1) b Commit ss g among (back n low) (λ there. ends (n + 1) None ss g (omega arith) there)
ends n (Some b) (Rollback ∷ ss) g low among = then_or_later n (n - 1 + 1) b Rollback ss g among (back n low) (λ there. ends (n + 1) None ss g (omega arith) there)
ends n (Some b) (s ∷ ss) g low among = elim (ends (n + 1) (Some b) ss g (omega arith) among) as (λ _. Ends n (Some b) (s ∷ ss) g) [
  | inl same ↦
      let e : n - 1 + 1 ≡ n + 1 - 1 = omega (arith, low) in
      inl (ap (λ (k : ℕ). (b, block_end k ss)) e ∙ same)
  | inr there ↦ inr (later n s ss g there)
]

-- the last statement of a group of a session
pub last_is : (script : Script) (s : ℕ) (g : Group) → Contains (groups_in script s) g → last_from g.0 (session_at script s).statements ≡ g.1
last_is script s g among =
    let own = (session_at script s).statements in
    let is : IsEnded 1 own g = ends 1 None own g (omega arith) among in
    let from : g.0 - 1 ≡ is.before = omega (arith, is.at) in
    ap (λ (k : ℕ). end_of g.0 (drop k own)) from ∙ sym is.ends
