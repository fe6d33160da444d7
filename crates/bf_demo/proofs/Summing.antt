-- What the two SELECTs are told.
use Rattle.std.proofs.Common.{◌≡◌, ℕ, suc, zero, ◌+◌, ◌*◌, ◌/◌, ◌%◌, ◌<◌, ◌^◌, ◌==◌, Bool, false, true, not, List, [], ◌∷◌, ◌++◌, map, flat_map, filter, fold, length, pos, ℤ, ◌+ℤ◌, refl, sym, ap, subst, ◌∙◌, arith}
use Rattle.std.proofs.lemmas.Bool.{eqb-true}
use Rattle.std.proofs.lemmas.Bool.Decides.{nat_tests}
use Rattle.std.proofs.lemmas.List.FromFn.{map-range_with_len_more}
use Rattle.std.specs.List.{range_with_len}
use Rattle.bf_base.specs.declared.value.Value.{Value}
use Rattle.bf_base.specs.declared.value.Value.TheVariants.{Int}
use Rattle.bf_base.specs.Limits.{is_int}
use Rattle.bf_base.specs.Lists.{when}
use Rattle.bf_base.specs.Tables.{cell}
use Rattle.bf_tree.specs.declared.items.Aggregate.TheVariants.{Count, Sum}
use Rattle.bf_tree.specs.declared.items.Items.{Items}
use Rattle.bf_tree.specs.declared.items.Items.TheVariants.{Aggregates}
use Rattle.bf_tree.specs.declared.raw.Ref.{Ref}
use Rattle.bf_tree.specs.declared.reply.Cell.{Cell}
use Rattle.bf_tree.specs.declared.reply.Cell.TheVariants as cells
use Rattle.bf_tree.specs.declared.reply.Refusal.{Refusal}
use Rattle.bf_tree.specs.declared.reply.Refusal.TheVariants.{OutOfRange}
use Rattle.bf_tree.specs.declared.reply.Reply.TheVariants as reply
use Rattle.bf_tree.specs.Evaluation.{number_of}
use Rattle.bf_tree.specs.Totals.{exact_sum, or_null, sum_of}
use Rattle.bf_tree.specs.Trees.{Expr, column}
use Rattle.bf_tree.specs.ValueObjections.{answer_objections}
use Rattle.bf_sql.specs.Meaning.{executed}
use Rattle.bf_sql.specs.RowObjections.{row_objections}
use Rattle.bf_sql.specs.Scopes.{read_in, scope_of, unqualified}
use Rattle.bf_demo.specs.Replies.{counted, sum_of_owners, triangle}
use Rattle.bf_demo.specs.Script.{acct, bal, number, owner, sum_up, who}
use Rattle.bf_demo.proofs.Crediting.{total}
use Rattle.bf_demo.proofs.States.{answers, balances, executed_by, fits, owners, parted, rows_of}

abbrev values : List (List Value) → List Value
values rows = map (λ row. cell row 1) rows

abbrev add : ℤ → Value → ℤ
add so_far v = so_far +ℤ number_of v

adds_up : (t k : ℕ) (xs : List ℕ) → fold add (pos t) (values (rows_of k xs)) ≡ pos (t + total xs)
adds_up t k [] = ap pos (omega arith)
adds_up t k (x ∷ xs) =
    let e : (t + x) + total xs ≡ t + total (x ∷ xs) = omega arith in
    adds_up (t + x) (k + 1) xs ∙ ap pos e

sums : (k : ℕ) (xs : List ℕ) → exact_sum (values (rows_of k xs)) ≡ pos (total xs)
sums k xs = let e : 0 + total xs ≡ total xs = omega arith in adds_up 0 k xs ∙ ap pos e

pub as_many_rows : (k : ℕ) (xs : List ℕ) → length (rows_of k xs) ≡ length xs
as_many_rows k [] = refl
as_many_rows k (x ∷ xs) = ap suc (as_many_rows (k + 1) xs)

every_row : (rows : List (List Value)) → filter (λ (row : List Value). true) rows ≡ rows
every_row [] = refl
every_row (row ∷ rows) = ap (λ (r : List (List Value)). row ∷ r) (every_row rows)

none_in_the_way : (rows : List (List Value)) (z : ℕ) → exact_sum (values rows) ≡ pos z → z < 2 ^ 63 → when (not (is_int (exact_sum (values rows)))) OutOfRange ++ [] ≡ []
none_in_the_way rows z e h = rw (e, fits z h) refl

no_argument : (rows : List (List Value)) → flat_map {A = Refusal} (λ (row : List Value). []) rows ≡ []
no_argument [] = refl
no_argument (row ∷ rows) = no_argument rows

abbrev totals : List ℕ → Items (Expr Ref)
totals summed = Aggregates (Count ∷ Sum (column (unqualified summed)) ∷ [])

-- nothing stands in the way of totals over rows whose sum is small
of_balances : (rows : List (List Value)) (z : ℕ) → exact_sum (values rows) ≡ pos z → z < 2 ^ 63 → answer_objections (read_in (scope_of balances)) (totals bal) rows ≡ []
of_balances rows z e h =
    ap (λ (r : List Refusal). r ++ (when (not (is_int (exact_sum (values rows)))) OutOfRange ++ [])) (no_argument rows) ∙ none_in_the_way rows z e h

of_owners : (rows : List (List Value)) (z : ℕ) → exact_sum (values rows) ≡ pos z → z < 2 ^ 63 → answer_objections (read_in (scope_of owners)) (totals owner) rows ≡ []
of_owners rows z e h =
    ap (λ (r : List Refusal). r ++ (when (not (is_int (exact_sum (values rows)))) OutOfRange ++ [])) (no_argument rows) ∙ none_in_the_way rows z e h

module _ (x : ℕ) (xs : List ℕ) (small : total (x ∷ xs) < 2 ^ 63) where
  abbrev there : List (List Value)
  there = rows_of 1 (x ∷ xs)

  cells_are : (cells.Value (number (length there)) ∷ or_null (sum_of (values there)) ∷ []) ∷ [] ≡ (cells.Value (number (length (x ∷ xs))) ∷ cells.Value (number (total (x ∷ xs))) ∷ []) ∷ []
  cells_are =
      ap (λ (n : ℕ). (cells.Value (number n) ∷ cells.Value (Int (exact_sum (values there))) ∷ []) ∷ []) (as_many_rows 1 (x ∷ xs))
      ∙ ap (λ (z : ℤ). (cells.Value (number (length (x ∷ xs))) ∷ cells.Value (Int z) ∷ []) ∷ []) (sums 1 (x ∷ xs))

  module _ (others : List (List Value)) where
    passes : row_objections (parted there others) (sum_up acct bal) ≡ []
    passes = ap (answer_objections (read_in (scope_of balances)) (totals bal)) (every_row there) ∙ of_balances there (total (x ∷ xs)) (sums 1 (x ∷ xs)) small

    pub balances_told : (c : ℕ) → executed c (parted there others) false (sum_up acct bal) ≡ answers (counted (length (x ∷ xs)) (total (x ∷ xs))) (parted there others)
    balances_told c =
        executed_by c (parted there others) false (sum_up acct bal) refl passes
        ∙ (ap (λ (rows : List (List Value)). answers (reply.Rows ((cells.Value (number (length rows)) ∷ or_null (sum_of (values rows)) ∷ []) ∷ [])) (parted there others)) (every_row there)
        ∙ ap (λ (row : List (List Cell)). answers (reply.Rows row) (parted there others)) cells_are)

    owners_pass : row_objections (parted others there) (sum_up who owner) ≡ []
    owners_pass = ap (answer_objections (read_in (scope_of owners)) (totals owner)) (every_row there) ∙ of_owners there (total (x ∷ xs)) (sums 1 (x ∷ xs)) small

    pub owners_told : (c : ℕ) → executed c (parted others there) false (sum_up who owner) ≡ answers (counted (length (x ∷ xs)) (total (x ∷ xs))) (parted others there)
    owners_told c =
        executed_by c (parted others there) false (sum_up who owner) refl owners_pass
        ∙ (ap (λ (rows : List (List Value)). answers (reply.Rows ((cells.Value (number (length rows)) ∷ or_null (sum_of (values rows)) ∷ []) ∷ [])) (parted others there)) (every_row there)
        ∙ ap (λ (row : List (List Cell)). answers (reply.Rows row) (parted others there)) cells_are)

-- the sums
pub sum_of_hundreds : (k a : ℕ) → total (map (λ i. 100) (range_with_len a k)) ≡ 100 * k
sum_of_hundreds zero a = refl
sum_of_hundreds (suc k) a = let more = sum_of_hundreds k (a + 1) in omega arith

triangle_grows : (r : ℕ) → r < 6 → triangle (r + 1) ≡ triangle r + (r + 1)
triangle_grows zero h = refl
triangle_grows (suc zero) h = refl
triangle_grows (suc (suc zero)) h = refl
triangle_grows (suc (suc (suc zero))) h = refl
triangle_grows (suc (suc (suc (suc zero)))) h = refl
triangle_grows (suc (suc (suc (suc (suc zero))))) h = refl
triangle_grows (suc (suc (suc (suc (suc (suc r)))))) h = absurd (omega arith)

remainders_grow : (m : ℕ) → sum_of_owners (m + 1) ≡ sum_of_owners m + (m + 1) % 7
remainders_grow m = go (m % 7 == 6) refl
  where
    go : (t : Bool) → (m % 7 == 6) ≡ t → sum_of_owners (m + 1) ≡ sum_of_owners m + (m + 1) % 7
    go true t =
        let last : m % 7 ≡ 6 = eqb-true (m % 7) 6 t in
        let next : (m + 1) % 7 ≡ 0 = omega arith in
        let quotient : (m + 1) / 7 ≡ m / 7 + 1 = omega arith in
        rw (last, next, quotient) (omega arith)
    go false t =
        let below : m % 7 < 6 = grind (arith, nat_tests) in
        let next : (m + 1) % 7 ≡ m % 7 + 1 = omega arith in
        let quotient : (m + 1) / 7 ≡ m / 7 = omega arith in
        let more = triangle_grows (m % 7) below in
        rw (next, quotient) (omega arith)

total_joined : (xs ys : List ℕ) → total (xs ++ ys) ≡ total xs + total ys
total_joined [] ys = omega arith
total_joined (x ∷ xs) ys = let more = total_joined xs ys in omega arith

pub remainders_sum : (m : ℕ) → total (map (λ i. i % 7) (range_with_len 1 m)) ≡ sum_of_owners m
remainders_sum zero = refl
remainders_sum (suc m) =
    let next : suc m ≡ m + 1 = omega arith in
    let last : 1 + m ≡ m + 1 = omega arith in
    let more = map-range_with_len_more (λ i. i % 7) 1 m (m + 1) last in
    let joined = total_joined (map (λ i. i % 7) (range_with_len 1 m)) ((m + 1) % 7 ∷ []) in
    let before = remainders_sum m in
    let grown = remainders_grow m in
    let all : total (map (λ i. i % 7) (range_with_len 1 (m + 1))) ≡ total (map (λ i. i % 7) (range_with_len 1 m)) + ((m + 1) % 7 + 0) = ap total more ∙ joined in
    let sum_there : total (map (λ i. i % 7) (range_with_len 1 (m + 1))) ≡ sum_of_owners (m + 1) = omega (arith, all, before, grown) in
    subst (λ (k : ℕ). total (map (λ i. i % 7) (range_with_len 1 k)) ≡ sum_of_owners k) (sym next) sum_there
