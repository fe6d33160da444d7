-- One more of the statements and rows that a loop makes.
use Rattle.std.proofs.Common.{◌≡◌, ℕ, ◌+◌, List, [], ◌∷◌, ◌++◌, map, flat_map, refl, sym, ap, ◌∙◌, arith, append_assoc}
use Rattle.std.proofs.lemmas.Grind.{flat_map-append}
use Rattle.std.proofs.lemmas.List.FromFn.{map-range_with_len_more}
use Rattle.std.specs.List.{range_with_len}
use Rattle.bf_tree.specs.declared.statement.Statement.{Statement}
use Rattle.bf_tree.specs.declared.statement.Statement.TheVariants.{Begin, Commit}
use Rattle.bf_demo.specs.Script.{account, credit, new_table, opening, openings}
use Rattle.bf_demo.proofs.Keys.{range_joined}

pub account_more : (first k : ℕ) → map account (range_with_len first (k + 1)) ≡ map account (range_with_len first k) ++ account (first + k) ∷ []
account_more first k = map-range_with_len_more account first k (first + k) refl

pub opening_more : (b : ℕ) → map opening (range_with_len 1 (b + 1)) ≡ map opening (range_with_len 1 b) ++ opening (b + 1) ∷ []
opening_more b = map-range_with_len_more opening 1 b (b + 1) (omega arith)

pub openings_more : (b : ℕ) → openings (b + 1) ≡ openings b ++ opening (b + 1) ∷ []
openings_more b = ap (λ (more : List Statement). new_table ∷ more) (opening_more b)

-- three statements one behind the other
pub three_more : (front one two all : List Statement) (a b d : Statement) → one ≡ front ++ a ∷ [] → two ≡ one ++ b ∷ [] → all ≡ two ++ d ∷ [] → all ≡ front ++ (a ∷ b ∷ d ∷ [])
three_more front one two all a b d first second third =
    third
    ∙ (ap (λ (l : List Statement). l ++ d ∷ []) (second ∙ ap (λ (l : List Statement). l ++ b ∷ []) first)
    ∙ (append_assoc (front ++ a ∷ []) (b ∷ []) (d ∷ []) ∙ append_assoc front (a ∷ []) (b ∷ d ∷ [])))

pub opened_more : (b : ℕ) (front all : List Statement) (next : Statement) → front ≡ openings b → all ≡ front ++ next ∷ [] → next ≡ opening (b + 1) → all ≡ openings (b + 1)
opened_more b front all next before more is =
    more
    ∙ (ap (λ (l : List Statement). l ++ next ∷ []) before
    ∙ (ap (λ (s : Statement). openings b ++ s ∷ []) is ∙ sym (openings_more b)))

pub credits_more : (s base j : ℕ) → flat_map (λ i. credit s (base + i)) (range_with_len 1 (j + 1)) ≡ flat_map (λ i. credit s (base + i)) (range_with_len 1 j) ++ credit s (base + (j + 1))
credits_more s base j =
    let each : ℕ → List Statement = λ i. credit s (base + i) in
    let e : 1 + j ≡ j + 1 = omega arith in
    ap (flat_map each) (sym (range_joined 1 j 1))
    ∙ (flat_map-append each (range_with_len 1 j) (range_with_len (1 + j) 1)
    ∙ ap (λ i. flat_map each (range_with_len 1 j) ++ each i) e)

pub credited_more : (s base j : ℕ) (front one two all : List Statement) (update : Statement) → front ≡ flat_map (λ i. credit s (base + i)) (range_with_len 1 j)
    → one ≡ front ++ Begin ∷ [] → two ≡ one ++ update ∷ [] → all ≡ two ++ Commit ∷ [] → credit s (base + (j + 1)) ≡ Begin ∷ update ∷ Commit ∷ []
    → all ≡ flat_map (λ i. credit s (base + i)) (range_with_len 1 (j + 1))
credited_more s base j front one two all update before first second third is =
    three_more front one two all Begin update Commit first second third
    ∙ (ap (λ (l : List Statement). front ++ l) (sym is)
    ∙ (ap (λ (l : List Statement). l ++ credit s (base + (j + 1))) before ∙ sym (credits_more s base j)))

-- three pieces of a text behind what stands there
pub pieces_more : (front one two all a b d : List ℕ) → one ≡ front ++ a → two ≡ one ++ b → all ≡ two ++ d → all ≡ front ++ ((a ++ b) ++ d)
pieces_more front one two all a b d first second third =
    third
    ∙ (ap (λ (l : List ℕ). l ++ d) (second ∙ ap (λ (l : List ℕ). l ++ b) first)
    ∙ (append_assoc (front ++ a) b d ∙ (append_assoc front a (b ++ d) ∙ ap (λ (l : List ℕ). front ++ l) (sym (append_assoc a b d)))))
