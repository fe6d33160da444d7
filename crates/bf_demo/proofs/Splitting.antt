-- The split: each new table has the numbers of the accounts and one of their other columns.
use Rattle.std.proofs.Common.{◌≡◌, ℕ, suc, zero, ◌+◌, ◌%◌, ◌≤◌, ◌^◌, Bool, false, List, [], ◌∷◌, ◌++◌, map, length, refl, ap, ◌∙◌, arith, nat_lt}
use Rattle.std.proofs.lemmas.Bool.Decides.{nat_tests}
use Rattle.std.proofs.lemmas.List.FromFn.{length-map-range_with_len}
use Rattle.std.specs.List.{range_with_len}
use Rattle.bf_base.specs.declared.value.Value.{Value}
use Rattle.bf_base.specs.Lists.{in_order, when}
use Rattle.bf_base.specs.Limits.{most_rows}
use Rattle.bf_base.specs.Tables.{cell, key_of}
use Rattle.bf_base.specs.Values.{key_cmp}
use Rattle.bf_tree.specs.declared.reply.Refusal.TheVariants as refusal
use Rattle.bf_tree.specs.declared.reply.Reply.TheVariants as reply
use Rattle.bf_sql.specs.Meaning.{effect, executed}
use Rattle.bf_sql.specs.Objections.{objections}
use Rattle.bf_sql.specs.RowObjections.{row_objections}
use Rattle.bf_sql.specs.migrations.Images.{image_of}
use Rattle.bf_demo.specs.Script.{account, acct, bal, half, number, owner, split, who}
use Rattle.bf_demo.proofs.Keys.{none_below, placed_range}
use Rattle.bf_demo.proofs.States.{accounts, answers, balances, executed_by, opened, owners, parted, rows_of}

-- a row's number, and its value at another place
abbrev kept : ℕ → List Value → List Value
kept place row = cell row 0 ∷ cell row place ∷ []

image_of_balances : (rows : List (List Value)) → image_of (opened rows) (half acct bal) ≡ map (kept 2) rows
image_of_balances [] = refl
image_of_balances (row ∷ rows) = ap (λ (r : List (List Value)). kept 2 row ∷ r) (image_of_balances rows)

image_of_owners : (rows : List (List Value)) → image_of (opened rows) (half who owner) ≡ map (kept 1) rows
image_of_owners [] = refl
image_of_owners (row ∷ rows) = ap (λ (r : List (List Value)). kept 1 row ∷ r) (image_of_owners rows)

few_enough : (rows : List (List Value)) → length rows ≤ 2 ^ 20 → row_objections (opened rows) split ≡ []
few_enough rows h =
    let few : nat_lt most_rows (length rows) ≡ false = grind (arith, nat_tests) in
    ap (λ (b : Bool). when b (refusal.TooManyRows acct (length rows)) ++ []) few

unobjected : (rows : List (List Value)) → objections (opened rows) false split ≡ []
unobjected rows = refl

parts : (c : ℕ) (rows : List (List Value)) → effect c (opened rows) split
    ≡ answers (reply.Migrated 2) (parted (in_order key_cmp (key_of balances) (image_of (opened rows) (half acct bal))) (in_order key_cmp (key_of owners) (image_of (opened rows) (half who owner))))
parts c rows = refl

abbrev pub by_number : (ℕ → ℕ) → ℕ → List Value
by_number g i = number i ∷ number (g i) ∷ []

kept_of_accounts : (place : ℕ) (g : ℕ → ℕ) → ((i : ℕ) → kept place (account i) ≡ by_number g i) → (k a : ℕ) → map (kept place) (map account (range_with_len a k)) ≡ map (by_number g) (range_with_len a k)
kept_of_accounts place g at zero a = refl
kept_of_accounts place g at (suc k) a =
    ap (λ (x : List Value). x ∷ map (kept place) (map account (range_with_len (a + 1) k))) (at a)
    ∙ ap (λ (r : List (List Value)). by_number g a ∷ r) (kept_of_accounts place g at k (a + 1))

numbered : (g : ℕ → ℕ) (k a : ℕ) → map (by_number g) (range_with_len a k) ≡ rows_of a (map g (range_with_len a k))
numbered g zero a = refl
numbered g (suc k) a = ap (λ (r : List (List Value)). by_number g a ∷ r) (numbered g k (a + 1))

-- the values that each new table begins with
abbrev pub hundreds : ℕ → List ℕ
hundreds m = map (λ i. 100) (range_with_len 1 m)

abbrev pub remainders : ℕ → List ℕ
remainders m = map (λ i. i % 7) (range_with_len 1 m)

of_balances : (m : ℕ) → in_order key_cmp (key_of balances) (image_of (opened (accounts m)) (half acct bal)) ≡ rows_of 1 (hundreds m)
of_balances m =
    ap (in_order key_cmp (key_of balances)) (image_of_balances (accounts m) ∙ kept_of_accounts 2 (λ i. 100) (λ i. refl) m 1)
    ∙ (placed_range {key = key_of balances} (by_number (λ i. 100)) (λ i. refl) m 1 [] none_below ∙ numbered (λ i. 100) m 1)

of_owners : (m : ℕ) → in_order key_cmp (key_of owners) (image_of (opened (accounts m)) (half who owner)) ≡ rows_of 1 (remainders m)
of_owners m =
    ap (in_order key_cmp (key_of owners)) (image_of_owners (accounts m) ∙ kept_of_accounts 1 (λ i. i % 7) (λ i. refl) m 1)
    ∙ (placed_range {key = key_of owners} (by_number (λ i. i % 7)) (λ i. refl) m 1 [] none_below ∙ numbered (λ i. i % 7) m 1)

pub splits : (c m : ℕ) → m ≤ 2 ^ 20 → executed c (opened (accounts m)) false split ≡ answers (reply.Migrated 2) (parted (rows_of 1 (hundreds m)) (rows_of 1 (remainders m)))
splits c m h =
    let size : length (accounts m) ≡ m = length-map-range_with_len account 1 m in
    let few : length (accounts m) ≤ 2 ^ 20 = omega arith in
    executed_by c (opened (accounts m)) false split (unobjected (accounts m)) (few_enough (accounts m) few)
    ∙ (parts c (accounts m)
    ∙ (ap (λ (r : List (List Value)). answers (reply.Migrated 2) (parted r (in_order key_cmp (key_of owners) (image_of (opened (accounts m)) (half who owner))))) (of_balances m)
    ∙ ap (λ (r : List (List Value)). answers (reply.Migrated 2) (parted (rows_of 1 (hundreds m)) r)) (of_owners m)))
