-- An UPDATE of one account adds its amount to one balance, and so to the sum of all.
use Rattle.std.proofs.Common.{◌≡◌, ℕ, suc, ◌+◌, ◌<◌, ◌≤◌, ◌^◌, ◌==◌, Bool, false, true, cond, List, [], ◌∷◌, ◌++◌, map, flat_map, length, pos, Some, refl, ap, ◌∙◌, arith}
use Rattle.std.proofs.lemmas.Bool.{eqb-true}
use Rattle.std.proofs.lemmas.Bool.Decides.{nat_tests}
use Rattle.std.specs.Ordering.{int_cmp, is_eq}
use Rattle.bf_base.specs.declared.table.Admit.{Admit}
use Rattle.bf_base.specs.declared.value.Value.{Value}
use Rattle.bf_tree.specs.declared.raw.Ref.{Ref}
use Rattle.bf_tree.specs.declared.compare.Compare.TheVariants.{Equal}
use Rattle.bf_tree.specs.declared.statement.Statement.{Statement}
use Rattle.bf_tree.specs.declared.statement.Statement.TheVariants.{Update}
use Rattle.bf_tree.specs.Evaluation.{holds_on}
use Rattle.bf_tree.specs.Trees.{Cond, Expr, column, compared, literal, plus}
use Rattle.bf_tree.specs.declared.reply.Refusal.{Refusal}
use Rattle.bf_tree.specs.declared.reply.Reply.{Reply}
use Rattle.bf_sql.specs.Database.{Database}
use Rattle.bf_sql.specs.History.{run_group}
use Rattle.bf_sql.specs.Meaning.{executed}
use Rattle.bf_sql.specs.Objections.{objections}
use Rattle.bf_sql.specs.Queries.{changed, selected}
use Rattle.bf_sql.specs.RowObjections.{change_objections}
use Rattle.bf_sql.specs.Scopes.{admitted_by, place_of, read_in, scope_of, unqualified}
use Rattle.bf_demo.specs.Script.{acct, bal, credit, id, number}
use Rattle.bf_demo.proofs.States.{balances, executed_by, fits, parted, rows_of}

abbrev set_bal : ℕ → List (List ℕ × Expr Ref)
set_bal amount = (bal, plus (column (unqualified bal)) (literal (number amount))) ∷ []

abbrev is_at : ℕ → Cond Ref
is_at at = compared Equal (column (unqualified id)) (literal (number at))

abbrev adds : ℕ → ℕ → Statement
adds amount at = Update acct (set_bal amount) (Some (is_at at))

abbrev read : List Value → Ref → Value
read = read_in (scope_of balances)

abbrev admit : List ℕ → Admit
admit name = admitted_by (scope_of balances) (unqualified name)

abbrev place : List ℕ → ℕ
place name = place_of (scope_of balances) (unqualified name)

-- the sum of numbers
abbrev pub total : List ℕ → ℕ
total [] = 0
total (x ∷ xs) = x + total xs

-- the balances of the accounts from k on, behind such an UPDATE
abbrev pub credited : ℕ → ℕ → ℕ → List ℕ → List ℕ
credited amount at k [] = []
credited amount at k (x ∷ xs) = cond (k == at) (x + amount) x ∷ credited amount at (k + 1) xs

same_number : (k at : ℕ) → is_eq (int_cmp (pos k) (pos at)) ≡ (k == at)
same_number k at = grind (arith, nat_tests)

-- whether a row is the one that is meant
is_meant : (k at x : ℕ) → holds_on (read (number k ∷ number x ∷ [])) (is_at at) ≡ (k == at)
is_meant k at x = same_number k at

fits_row : (amount k x : ℕ) → x + amount < 2 ^ 63 → change_objections read admit (set_bal amount) (number k ∷ number x ∷ []) ≡ []
fits_row amount k x h = rw (fits (x + amount) h) (rw (fits (x + amount) h) refl)

changes_row : (amount k x : ℕ) → x + amount < 2 ^ 63 → changed read place (set_bal amount) (number k ∷ number x ∷ []) ≡ number k ∷ number (x + amount) ∷ []
changes_row amount k x h = rw (fits (x + amount) h) refl

rows_pass : (amount at k : ℕ) (xs : List ℕ) → total xs + amount < 2 ^ 63 → flat_map (change_objections read admit (set_bal amount)) (selected read (is_at at) (rows_of k xs)) ≡ []
rows_pass amount at k [] h = refl
rows_pass amount at k (x ∷ xs) h = go (holds_on (read (number k ∷ number x ∷ [])) (is_at at)) refl (rows_pass amount at (k + 1) xs (omega arith))
  where
    go : (t : Bool) → holds_on (read (number k ∷ number x ∷ [])) (is_at at) ≡ t → flat_map (change_objections read admit (set_bal amount)) (selected read (is_at at) (rows_of (k + 1) xs)) ≡ []
        → flat_map (change_objections read admit (set_bal amount)) (selected read (is_at at) (rows_of k (x ∷ xs))) ≡ []
    go false t more = rw t more
    go true t more =
        let fit = fits_row amount k x (omega arith) in
        rw t (ap (λ (r : List Refusal). r ++ flat_map (change_objections read admit (set_bal amount)) (selected read (is_at at) (rows_of (k + 1) xs))) fit ∙ more)

abbrev changed_where : ℕ → ℕ → List Value → List Value
changed_where amount at row = cond (holds_on (read row) (is_at at)) (changed read place (set_bal amount) row) row

rows_change : (amount at k : ℕ) (xs : List ℕ) → total xs + amount < 2 ^ 63 → map (changed_where amount at) (rows_of k xs) ≡ rows_of k (credited amount at k xs)
rows_change amount at k [] h = refl
rows_change amount at k (x ∷ xs) h = go (k == at) (is_meant k at x) refl (rows_change amount at (k + 1) xs (omega arith))
  where
    go : (t : Bool) → holds_on (read (number k ∷ number x ∷ [])) (is_at at) ≡ (k == at) → (k == at) ≡ t → map (changed_where amount at) (rows_of (k + 1) xs) ≡ rows_of (k + 1) (credited amount at (k + 1) xs)
        → map (changed_where amount at) (rows_of k (x ∷ xs)) ≡ rows_of k (credited amount at k (x ∷ xs))
    go false meant same more = rw (meant, same) (ap (λ (r : List (List Value)). (number k ∷ number x ∷ []) ∷ r) more)
    go true meant same more = rw (meant, same) (
        ap (λ (row : List Value). row ∷ map (changed_where amount at) (rows_of (k + 1) xs)) (changes_row amount k x (omega arith))
        ∙ ap (λ (r : List (List Value)). (number k ∷ number (x + amount) ∷ []) ∷ r) more
        )

unobjected : (amount at : ℕ) (rows others : List (List Value)) → objections (parted rows others) true (adds amount at) ≡ []
unobjected amount at rows others = refl

pub adds_to : (c amount at : ℕ) (xs : List ℕ) (others : List (List Value)) → total xs + amount < 2 ^ 63
    → (executed c (parted (rows_of 1 xs) others) true (adds amount at)).1 ≡ parted (rows_of 1 (credited amount at 1 xs)) others
adds_to c amount at xs others h =
    ap (λ (a : Reply × Database). a.1) (executed_by c (parted (rows_of 1 xs) others) true (adds amount at) (unobjected amount at (rows_of 1 xs) others) (rows_pass amount at 1 xs h))
    ∙ ap (λ (r : List (List Value)). parted r others) (rows_change amount at 1 xs h)

-- and so does its block
pub credits_to : (c amount at : ℕ) (xs : List ℕ) (others : List (List Value)) → total xs + amount < 2 ^ 63
    → (run_group c false (parted (rows_of 1 xs) others) (credit amount at)).1 ≡ parted (rows_of 1 (credited amount at 1 xs)) others
credits_to c amount at xs others h = adds_to c amount at xs others h

pub as_many : (amount at k : ℕ) (xs : List ℕ) → length (credited amount at k xs) ≡ length xs
as_many amount at k [] = refl
as_many amount at k (x ∷ xs) = ap suc (as_many amount at (k + 1) xs)

other_number : (k at : ℕ) → at < k → (k == at) ≡ false
other_number k at h = grind (arith, nat_tests)

past : (amount at k : ℕ) (xs : List ℕ) → at < k → credited amount at k xs ≡ xs
past amount at k [] h = refl
past amount at k (x ∷ xs) h =
    rw (other_number k at h) (ap (λ (r : List ℕ). x ∷ r) (past amount at (k + 1) xs (omega arith)))

less_than : (k at : ℕ) → k ≤ at → (k == at) ≡ false → k < at
less_than k at low t = grind (arith, nat_tests)

pub total_grows : (amount at k : ℕ) (xs : List ℕ) → k ≤ at → at < k + length xs → total (credited amount at k xs) ≡ total xs + amount
total_grows amount at k [] low high = absurd (omega arith)
total_grows amount at k (x ∷ xs) low high = go (k == at) refl (λ apart. total_grows amount at (k + 1) xs (omega arith) (omega arith))
  where
    go : (t : Bool) → (k == at) ≡ t → (k < at → total (credited amount at (k + 1) xs) ≡ total xs + amount) → total (credited amount at k (x ∷ xs)) ≡ total (x ∷ xs) + amount
    go true t later =
        let here : k ≡ at = eqb-true k at t in
        let rest = ap total (past amount at (k + 1) xs (omega arith)) in
        rw t (omega arith)
    go false t later =
        let apart : k < at = less_than k at low t in
        let rest = later apart in
        rw t (omega arith)
