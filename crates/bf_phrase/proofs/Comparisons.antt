-- Comparisons and BETWEENs.
use Rattle.std.proofs.Common.{◌≡◌, ℕ, ◌+◌, ◌<◌, ◌≤◌, Bool, true, false, List, [], ◌∷◌, ◌++◌, length, Some, None, Ok, Err, refl, sym, ap, subst, ◌∙◌, inl, inr}
use Rattle.std.proofs.lemmas.List.{append-nil}
use Rattle.bf_base.specs.declared.value.Value.{Value}
use Rattle.bf_base.specs.declared.value.Value.TheVariants as value
use Rattle.bf_tree.specs.declared.compare.Compare.{Compare}
use Rattle.bf_tree.specs.declared.compare.Compare.TheVariants as compare
use Rattle.bf_tree.specs.declared.raw.Ref.{Ref}
use Rattle.bf_tree.specs.Trees as tree
use Rattle.bf_lex.specs.declared.fault.ScriptKind.TheVariants.{TooDeep}
use Rattle.bf_lex.specs.declared.keyword.Keyword.TheVariants as keyword
use Rattle.bf_lex.specs.declared.sign.Sign.{Sign as SignCase}
use Rattle.bf_lex.specs.declared.sign.Sign.TheVariants as sign
use Rattle.bf_phrase.specs.declared.cursor.Cursor.{Cursor}
use Rattle.bf_phrase.specs.declared.error.ReadStop.{ReadStop}
use Rattle.bf_phrase.specs.declared.start.Start.{Start}
use Rattle.bf_phrase.specs.declared.start.Start.TheVariants as start
use Rattle.bf_phrase.specs.Words.{Word, Keyword, Sign, Minus}
use Rattle.bf_phrase.specs.Words as word
use Rattle.bf_phrase.specs.Steps.{Step, Say, Limit, Node, said}
use Rattle.bf_phrase.specs.Rules.{Return, After, Marked, Then, Either}
use Rattle.bf_phrase.specs.Reading.{CanGoOn, Ends, Reading, Read, Stuck, Over, Fits, first}
use Rattle.bf_phrase.specs.Outcome.{IsBehind, IsExpected, stopped}
use Rattle.bf_phrase.specs.Cursors.{words}
use Rattle.bf_phrase.specs.First.{begins, is_name}
use Rattle.bf_phrase.specs.Follow.{nothing, is_point}
use Rattle.bf_phrase.specs.Starts.{IsStart}
use Rattle.bf_phrase.specs.Expressions.{RefRule}
use Rattle.bf_phrase.specs.Conditions.{CountedCond, LiteralRule, OperandRule, compare_sign}
use Rattle.bf_phrase.specs.Conditions as cond
use Rattle.bf_phrase.specs.Comparisons.{IsComparison, is_comparison, Compared, Ranged, Tested, TestRule}
use Rattle.bf_phrase.proofs.Fitting.{fits_by, after_read, mark_over, stuck_here}
use Rattle.bf_phrase.proofs.Lists.{left_can}
use Rattle.bf_phrase.proofs.Literals.{begins_value, literal_begun, not_value, number_said}
use Rattle.bf_phrase.proofs.Moves.{Can, Passed, left_here, right_here, after_go, after_stop, after_can, after_passed, then_can, then_go, then_stop, return_can, return_fits, return_passed, marked_go}
use Rattle.bf_phrase.proofs.Beginnings.{Begun, other_not_here, not_begun}
use Rattle.bf_phrase.proofs.Chains.{shallow, deep, node_go, node_deep}
use Rattle.bf_phrase.proofs.Factors.{begins-append, literal_name, whole}

-- ---- operands

abbrev LiteralSide : List Step → tree.Expr Ref → Type 0
LiteralSide = Then LiteralRule (λ v. Return (tree.literal v))

abbrev RefSide : List Step → tree.Expr Ref → Type 0
RefSide = Then RefRule (λ r. Return (tree.column r))

operand_as : {ws : List Word} {r : Reading (tree.Expr Ref)} → Fits is_point (Either LiteralSide RefSide) ws r → Fits is_point OperandRule ws r
operand_as {ws = ws} {r = r} f = record { it = fits_by is_point (Either LiteralSide RefSide) OperandRule ws r f.it to (λ s b back g ends same. from s b g) }
  where
    to : (s : List Step) (b : tree.Expr Ref) → Either LiteralSide RefSide s b → OperandRule s b
    to s b (inl h) = cond.value h.2 (subst (λ (z : List Step). LiteralRule z h.2) (sym (whole s h.0 h.1 h.3 h.5.0)) h.4) h.5.1
    to s b (inr h) = cond.ref h.2 (subst (λ (z : List Step). RefRule z h.2) (sym (whole s h.0 h.1 h.3 h.5.0)) h.4) h.5.1

    from : (s : List Step) (b : tree.Expr Ref) → OperandRule s b → Either LiteralSide RefSide s b
    from s b (cond.value v h q) = inl (s, [], v, sym (append-nil s), h, (refl, q))
    from s b (cond.ref r h q) = inr (s, [], r, sym (append-nil s), h, (refl, q))

literal_side_begun : Begun begins_value LiteralSide
literal_side_begun = record { it = λ s b h. ap (λ (z : List Step). begins begins_value (said z)) h.3 ∙ begins-append begins_value h.0 h.1 (literal_begun.it h.0 h.2 h.4) }

ref_side_begun : Begun is_name RefSide
ref_side_begun = record { it = λ s b h. ap (λ (z : List Step). begins is_name (said z)) h.3 ∙ begins-append is_name h.0 h.1 (ap (λ (z : List Step). begins is_name (said z)) h.4.2) }

no_name : (ws : List Word) (s : Start) → IsStart ws s → (s ≡ start.Other → ⊥) → begins is_name ws ≡ false
no_name ws start.Literal h not = literal_name ws h.it
no_name ws (start.Opposite rest) h not = ap (λ (z : List Word). begins is_name z) h.it.0
no_name ws (start.Parenthesis rest) h not = ap (λ (z : List Word). begins is_name z) h.it
no_name ws start.Other h not = absurd (not refl)

pub value_stop : {ws : List Word} {s : Start} (e : ReadStop) → IsStart ws s → (s ≡ start.Other → ⊥) → Fits nothing LiteralRule ws (stopped e) → Fits is_point OperandRule ws (stopped e)
value_stop {ws = ws} {s = s} e h not f = operand_as (left_here (other_not_here ref_side_begun (no_name ws s h not)) (then_stop e (return_passed (λ t p. refl)) (λ v. return_can) f))

pub value_read : {ws rest : List Word} {s : Start} {v : Value} → IsStart ws s → (s ≡ start.Other → ⊥) → Fits nothing LiteralRule ws (Read v rest) → Fits is_point OperandRule ws (Read (tree.literal v) rest)
value_read {ws = ws} {s = s} h not f = operand_as (left_here (other_not_here ref_side_begun (no_name ws s h not)) (then_go (return_passed (λ t p. refl)) f return_fits))

pub column_stop : {ws : List Word} (e : ReadStop) → IsStart ws start.Other → Fits is_point RefRule ws (stopped e) → Fits is_point OperandRule ws (stopped e)
column_stop {ws = ws} e h f = operand_as (right_here (other_not_here literal_side_begun (not_value ws h.it.0 h.it.1)) (then_stop e (return_passed (λ t p. p)) (λ v. return_can) f))

pub column_read : {ws rest : List Word} {v : Ref} → IsStart ws start.Other → Fits is_point RefRule ws (Read v rest) → Fits is_point OperandRule ws (Read (tree.column v) rest)
column_read {ws = ws} h f = operand_as (right_here (other_not_here literal_side_begun (not_value ws h.it.0 h.it.1)) (then_go (return_passed (λ t p. p)) f return_fits))

pub operand_can : Can OperandRule
operand_can = record { it = (Say (word.Text []) ∷ [], tree.literal (value.Text []), cond.value (value.Text []) (cond.text [] refl refl) refl) }

-- an operand begins
abbrev pub begins_operand : Word → Bool
begins_operand (word.Keyword k) = false
begins_operand (word.Name k) = true
begins_operand (word.Number k) = true
begins_operand (word.Text k) = true
begins_operand (word.Minus k) = true
begins_operand (word.Sign k) = false

pub operand_begins : (s : List Step) (b : tree.Expr Ref) → OperandRule s b → begins begins_operand (said s) ≡ true
operand_begins s b (cond.value v (cond.signed (cond.number n h e)) q) = ap (λ (z : List Word). begins begins_operand z) (number_said s n h)
operand_begins s b (cond.value v (cond.signed (cond.negative n flag k p e)) q) = ap (λ (z : List Step). begins begins_operand (said z)) p
operand_begins s b (cond.value v (cond.text t p e) q) = ap (λ (z : List Step). begins begins_operand (said z)) p
operand_begins s b (cond.ref r h q) = ap (λ (z : List Step). begins begins_operand (said z)) h.2

-- ---- the sign of a comparison

compare_of : SignCase → Compare
compare_of sign.Unequal = compare.Unequal
compare_of sign.Less = compare.Less
compare_of sign.LessEqual = compare.LessEqual
compare_of sign.Greater = compare.Greater
compare_of sign.GreaterEqual = compare.GreaterEqual
compare_of other = compare.Equal

compare_back : (op : Compare) → compare_of (compare_sign op) ≡ op
unfolding compare_of
compare_back compare.Equal = refl
compare_back compare.Unequal = refl
compare_back compare.Less = refl
compare_back compare.LessEqual = refl
compare_back compare.Greater = refl
compare_back compare.GreaterEqual = refl

one_sign : (a b : Compare) → Some (Sign (compare_sign a)) ≡ Some (Sign (compare_sign b)) → a ≡ b
one_sign a b e = let d : compare_sign a ≡ compare_sign b = cc in sym (compare_back a) ∙ ap compare_of d ∙ compare_back b

sign_compares : (op : Compare) → is_comparison (Sign (compare_sign op)) ≡ true
sign_compares compare.Equal = refl
sign_compares compare.Unequal = refl
sign_compares compare.Less = refl
sign_compares compare.LessEqual = refl
sign_compares compare.Greater = refl
sign_compares compare.GreaterEqual = refl

sign_no_point : (op : Compare) → is_point (Sign (compare_sign op)) ≡ false
sign_no_point compare.Equal = refl
sign_no_point compare.Unequal = refl
sign_no_point compare.Less = refl
sign_no_point compare.LessEqual = refl
sign_no_point compare.Greater = refl
sign_no_point compare.GreaterEqual = refl

abbrev Second : Compare → ℕ → tree.Expr Ref → List Step → CountedCond → Type 0
Second op n a = Then OperandRule (λ b. Return (tree.compared op a b, n + 1))

second_can : (op : Compare) (n : ℕ) (a : tree.Expr Ref) → Can (Second op n a)
second_can op n a = then_can operand_can (λ b. return_can)

compared_by : (op : Compare) (n : ℕ) (a : tree.Expr Ref) (ws rest : List Word) (r : Reading CountedCond) → ws ≡ Sign (compare_sign op) ∷ rest → Fits is_point (Second op n a) rest r → Fits is_point (Compared n a) ws r
compared_by op n a ws rest r e f = record { it = fits_by is_point (After (Sign (compare_sign op)) (Second op n a)) (Compared n a) ws r (after_read is_point (Sign (compare_sign op)) (Second op n a) ws rest r e f.it) (λ s b h. (op, h.0, h.1, h.2)) (λ s b back g ends same. from s b back g same) }
  where
    from : (s : List Step) (b : CountedCond) (back : List Word) → Compared n a s b → first (said s ++ back) ≡ first ws → After (Sign (compare_sign op)) (Second op n a) s b
    from s b back h same =
        let is : h.0 ≡ op = one_sign h.0 op (ap (λ (z : List Step). first (said z ++ back)) (sym h.2) ∙ same ∙ ap first e) in
        (h.1, h.2 ∙ ap (λ (o : Compare). Say (Sign (compare_sign o)) ∷ h.1) is, subst (λ (o : Compare). Second o n a h.1 b) is h.3)

compared_begun : (n : ℕ) (a : tree.Expr Ref) → Begun is_comparison (Marked (Node (n + 1)) (Compared n a))
compared_begun n a = record { it = λ s b h. ap (λ (z : List Step). begins is_comparison (said z)) (h.1 ∙ ap (λ (z : List Step). Limit (Node (n + 1)) ∷ z) h.2.2) ∙ sign_compares h.2.0 }

abbrev is_between : Word → Bool
is_between (word.Keyword keyword.Between) = true
is_between other = false

between_begun : (n : ℕ) (a : tree.Expr Ref) → Begun is_between (Marked (Node (n + 1)) (After (Keyword keyword.Between) (Ranged n a)))
between_begun n a = record { it = λ s b h. ap (λ (z : List Step). begins is_between (said z)) (h.1 ∙ ap (λ (z : List Step). Limit (Node (n + 1)) ∷ z) h.2.1) }

sign_not_between : (ws rest : List Word) (op : Compare) → ws ≡ Sign (compare_sign op) ∷ rest → begins is_between ws ≡ false
sign_not_between ws rest op e = ap (λ (z : List Word). begins is_between z) e

tested_passed : (n : ℕ) → Passed is_point is_point (Tested n)
tested_passed n = record { it = λ a s b back h ends. pass a s b back h }
  where
    pass : (a : tree.Expr Ref) (s : List Step) (b : CountedCond) (back : List Word) → Tested n a s b → Ends is_point (said s ++ back)
    pass a s b back (inl h) = subst (λ (z : List Step). Ends is_point (said z ++ back)) (sym (h.1 ∙ ap (λ (z : List Step). Limit (Node (n + 1)) ∷ z) h.2.2)) (sign_no_point h.2.0)
    pass a s b back (inr h) = subst (λ (z : List Step). Ends is_point (said z ++ back)) (sym (h.1 ∙ ap (λ (z : List Step). Limit (Node (n + 1)) ∷ z) h.2.1)) refl

compared_can : (n : ℕ) (a : tree.Expr Ref) → CanGoOn (Marked (Node (n + 1)) (Compared n a)) []
compared_can n a = let k = second_can compare.Equal n a in (Limit (Node (n + 1)) ∷ Say (Sign sign.Equal) ∷ k.it.0, k.it.1, (Say (Sign sign.Equal) ∷ k.it.0, refl, (compare.Equal, k.it.0, refl, k.it.2)))

tested_can : (n : ℕ) {a : tree.Expr Ref} → Can (Tested n a)
tested_can n {a = a} = record { it = left_can (Marked (Node (n + 1)) (Compared n a)) (Marked (Node (n + 1)) (After (Keyword keyword.Between) (Ranged n a))) (compared_can n a) }

-- ---- the exits of a test

pub first_stop : (n : ℕ) {ws : List Word} (e : ReadStop) → Fits is_point OperandRule ws (stopped e) → Fits is_point (TestRule n) ws (stopped e)
first_stop n e f = then_stop e (tested_passed n) (λ a. tested_can n) f

-- behind the first operand, a sign or BETWEEN
pub first_read : (n : ℕ) {ws mid : List Word} {a : tree.Expr Ref} {r : Reading CountedCond} → Fits is_point OperandRule ws (Read a mid) → Fits is_point (Tested n a) mid r → Fits is_point (TestRule n) ws r
first_read n f g = then_go (tested_passed n) f g

pub sign_deep : {n : ℕ} {ws : List Word} {a : tree.Expr Ref} {behind : Cursor} (op : Compare) (k : ℕ) → length ws ≡ k → 256 ≤ n → IsComparison ws (Some (op, behind)) → Fits is_point (Tested n a) ws (Over TooDeep k)
sign_deep {n = n} {ws = ws} {a = a} {behind = behind} op k e high h =
    let c = second_can op n a in
    left_here (other_not_here (between_begun n a) (sign_not_between ws (words behind) op h.it))
    (subst (λ (z : ℕ). Fits is_point (Marked (Node (n + 1)) (Compared n a)) ws (Over TooDeep z)) e (record { it = mark_over is_point (Node (n + 1)) (Compared n a) (Say (Sign (compare_sign op)) ∷ []) (Sign (compare_sign op)) ws (words behind) TooDeep (deep n high) h.it refl (c.it.0, c.it.1, (op, c.it.0, refl, c.it.2)) }))

pub compared_go : {n : ℕ} {ws rest : List Word} {a : tree.Expr Ref} {r : Reading CountedCond} (op : Compare) → n < 256 → ws ≡ Sign (compare_sign op) ∷ rest → Fits is_point (Then OperandRule (λ b. Return (tree.compared op a b, n + 1))) rest r → Fits is_point (Tested n a) ws r
compared_go {n = n} {ws = ws} {rest = rest} {a = a} {r = r} op low e f =
    left_here (other_not_here (between_begun n a) (sign_not_between ws rest op e)) (marked_go (shallow n low) (compared_by op n a ws rest r e f))

pub sign_go : {n : ℕ} {ws : List Word} {a : tree.Expr Ref} {behind : Cursor} {r : Reading CountedCond} (op : Compare) → n < 256 → IsComparison ws (Some (op, behind)) → Fits is_point (Then OperandRule (λ b. Return (tree.compared op a b, n + 1))) (words behind) r → Fits is_point (Tested n a) ws r
sign_go op low h f = compared_go op low h.it f

pub sign_stop : {n : ℕ} {ws : List Word} {a : tree.Expr Ref} {behind : Cursor} (op : Compare) (e : ReadStop) → n < 256 → IsComparison ws (Some (op, behind)) → Fits is_point OperandRule (words behind) (stopped e) → Fits is_point (Tested n a) ws (stopped e)
sign_stop op e low h f = sign_go op low h (then_stop e (return_passed (λ t p. p)) (λ b. return_can) f)

pub sign_read : {n m : ℕ} {ws rest : List Word} {a b : tree.Expr Ref} {behind : Cursor} (op : Compare) → m ≡ n + 1 → n < 256 → IsComparison ws (Some (op, behind)) → Fits is_point OperandRule (words behind) (Read b rest) → Fits is_point (Tested n a) ws (Read (tree.compared op a b, m) rest)
sign_read {n = n} {ws = ws} {rest = rest} {a = a} {b = b} op same low h f =
    subst (λ (k : ℕ). Fits is_point (Tested n a) ws (Read (tree.compared op a b, k) rest)) (sym same) (sign_go op low h (then_go (return_passed (λ t p. p)) f return_fits))

between_not_sign : (ws rest : List Word) → ws ≡ Keyword keyword.Between ∷ rest → begins is_comparison ws ≡ false
between_not_sign ws rest e = ap (λ (z : List Word). begins is_comparison z) e

ranged_can : (n : ℕ) (a : tree.Expr Ref) → Can (Ranged n a)
ranged_can n a = then_can operand_can (λ low. after_can (then_can operand_can (λ high. return_can)))

pub between_deep : {n : ℕ} {ws rest : List Word} {a : tree.Expr Ref} (k : ℕ) → length ws ≡ k → 256 ≤ n → IsBehind (Keyword keyword.Between) ws (Some rest) → Fits is_point (Tested n a) ws (Over TooDeep k)
between_deep {n = n} {ws = ws} {rest = rest} {a = a} k e high h = right_here (other_not_here (compared_begun n a) (between_not_sign ws rest h.it)) (node_deep k e high h (ranged_can n a))

pub between_go : {n : ℕ} {ws rest : List Word} {a : tree.Expr Ref} {r : Reading CountedCond} → n < 256 → IsBehind (Keyword keyword.Between) ws (Some rest) → Fits is_point (Ranged n a) rest r → Fits is_point (Tested n a) ws r
between_go {n = n} {ws = ws} {rest = rest} {a = a} low h f = right_here (other_not_here (compared_begun n a) (between_not_sign ws rest h.it)) (node_go low h f)

-- behind the lower operand of a BETWEEN
abbrev pub High : ℕ → tree.Expr Ref → tree.Expr Ref → List Step → CountedCond → Type 0
High n a low = After (Keyword keyword.And) (Then OperandRule (λ high. Return (tree.between a low high, n + 1)))

pub low_stop : (n : ℕ) {ws : List Word} {a : tree.Expr Ref} (e : ReadStop) → Fits is_point OperandRule ws (stopped e) → Fits is_point (Ranged n a) ws (stopped e)
low_stop n e f = then_stop e (after_passed refl) (λ low. after_can (then_can operand_can (λ high. return_can))) f

pub low_read : (n : ℕ) {ws mid : List Word} {a low : tree.Expr Ref} {r : Reading CountedCond} → Fits is_point OperandRule ws (Read low mid) → Fits is_point (High n a low) mid r → Fits is_point (Ranged n a) ws r
low_read n f g = then_go (after_passed refl) f g

pub and_missing : (n : ℕ) {ws : List Word} {a low : tree.Expr Ref} {e : ReadStop} → IsExpected (Keyword keyword.And) ws (Err e) → Fits is_point (High n a low) ws (stopped e)
and_missing n h = after_stop h (then_can operand_can (λ high. return_can))

pub high_stop : (n : ℕ) {ws rest : List Word} {a low : tree.Expr Ref} (e : ReadStop) → IsExpected (Keyword keyword.And) ws (Ok rest) → Fits is_point OperandRule rest (stopped e) → Fits is_point (High n a low) ws (stopped e)
high_stop n e h f = after_go h (then_stop e (return_passed (λ t p. p)) (λ high. return_can) f)

pub high_read : (n : ℕ) {m : ℕ} {ws rest mid : List Word} {a low high : tree.Expr Ref} → m ≡ n + 1 → IsExpected (Keyword keyword.And) ws (Ok rest) → Fits is_point OperandRule rest (Read high mid) → Fits is_point (High n a low) ws (Read (tree.between a low high, m) mid)
high_read n {ws = ws} {mid = mid} {a = a} {low = low} {high = high} same h f =
    subst (λ (k : ℕ). Fits is_point (High n a low) ws (Read (tree.between a low high, k) mid)) (sym same) (after_go h (then_go (return_passed (λ t p. p)) f return_fits))

-- neither a sign nor BETWEEN
pub no_test : (n : ℕ) {ws : List Word} {a : tree.Expr Ref} (k : ℕ) → length ws ≡ k → IsComparison ws None → IsBehind (Keyword keyword.Between) ws None → Fits is_point (Tested n a) ws (Stuck k)
no_test n {ws = ws} {a = a} k e none_there not =
    subst (λ (z : ℕ). Fits is_point (Tested n a) ws (Stuck z)) e (record { it = stuck_here is_point (Tested n a) ws (tested_can n {a = a}).it (λ s b back g ends same. neither s b back g same) })
  where
    neither : (s : List Step) (b : CountedCond) (back : List Word) → Tested n a s b → first (said s ++ back) ≡ first ws → ⊥
    neither s b back (inl h) same = not_begun is_comparison (said s) back ws none_there.it ((compared_begun n a).it s b h) same
    neither s b back (inr h) same = not.it (sym same ∙ ap (λ (z : List Step). first (said z ++ back)) (h.1 ∙ ap (λ (z : List Step). Limit (Node (n + 1)) ∷ z) h.2.1))
