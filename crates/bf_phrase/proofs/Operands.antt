-- The arms of a factor.
use Rattle.std.proofs.Common.{◌≡◌, ℕ, ◌+◌, ◌<◌, ◌≤◌, false, List, [], ◌∷◌, length, Some, Ok, Err, refl, sym, subst}
use Rattle.bf_base.specs.declared.value.Value.{Value}
use Rattle.bf_base.specs.declared.value.Value.TheVariants as value
use Rattle.bf_tree.specs.declared.raw.Ref.{Ref}
use Rattle.bf_tree.specs.Trees as tree
use Rattle.bf_lex.specs.declared.fault.ScriptKind.TheVariants.{TooDeep}
use Rattle.bf_lex.specs.declared.sign.Sign.TheVariants as sign
use Rattle.bf_phrase.specs.declared.cursor.Cursor.{Cursor}
use Rattle.bf_phrase.specs.declared.error.ReadStop.{ReadStop}
use Rattle.bf_phrase.specs.declared.start.Start.TheVariants as start
use Rattle.bf_phrase.specs.Words.{Word, Minus, Sign}
use Rattle.bf_phrase.specs.Words as word
use Rattle.bf_phrase.specs.Steps.{Say}
use Rattle.bf_phrase.specs.Reading.{Reading, Read, Over, Fits}
use Rattle.bf_phrase.specs.Outcome.{IsBehind, IsExpected, stopped}
use Rattle.bf_phrase.specs.Cursors.{words}
use Rattle.bf_phrase.specs.Follow.{nothing, is_point, follow_sum}
use Rattle.bf_phrase.specs.Starts.{IsStart}
use Rattle.bf_phrase.specs.Expressions.{Counted, RefRule, Factor, text, Sum}
use Rattle.bf_phrase.specs.Conditions.{LiteralRule}
use Rattle.bf_phrase.proofs.Moves.{Can, then_go, then_stop, then_can, return_can, return_fits, return_passed, after_passed, after_can, after_go, after_stop}
use Rattle.bf_phrase.proofs.Chains.{node_go, node_deep, sum_can}
use Rattle.bf_phrase.proofs.Factors.{literal_first, opposite_first, parenthesis_first, ref_first}
use Rattle.bf_phrase.proofs.Additions.{factor_headed}
use Rattle.bf_phrase.proofs.Literals.{tight}
use Rattle.bf_phrase.proofs.Numbered.{Numbered, unnumbered}

pub literal_stop : {n : ℕ} {ws : List Word} (e : ReadStop) → IsStart ws start.Literal → Fits nothing LiteralRule ws (stopped e) → Fits is_point (Factor n) ws (stopped e)
literal_stop e h f = literal_first h (then_stop e (return_passed (λ t p. refl)) (λ v. return_can) (tight h.it f))

pub literal_read : {n : ℕ} {ws rest : List Word} {v : Value} → IsStart ws start.Literal → Fits nothing LiteralRule ws (Read v rest) → Fits is_point (Factor n) ws (Read (tree.literal v, n) rest)
literal_read h f = literal_first h (then_go (return_passed (λ t p. refl)) (tight h.it f) return_fits)

pub ref_stop : {n : ℕ} {ws : List Word} (e : ReadStop) → IsStart ws start.Other → Fits is_point RefRule ws (stopped e) → Fits is_point (Factor n) ws (stopped e)
ref_stop e h f = ref_first h (then_stop e (return_passed (λ t p. p)) (λ v. return_can) f)

pub ref_read : {n : ℕ} {ws rest : List Word} {v : Ref} → IsStart ws start.Other → Fits is_point RefRule ws (Read v rest) → Fits is_point (Factor n) ws (Read (tree.column v, n) rest)
ref_read h f = ref_first h (then_go (return_passed (λ t p. p)) f return_fits)

unnumbered_can : {n : ℕ} → Can (Numbered false (Factor n))
unnumbered_can {n = n} = record { it = (Say (word.Text []) ∷ [], (tree.literal (value.Text []), n), (text [] refl refl, refl)) }

-- a factor behind a minus alone
behind_minus : (n : ℕ) {m : ℕ} {ws : List Word} {behind : Cursor} {r : Reading Counted} → m ≡ n + 1 → IsStart ws (start.Opposite behind) → Fits is_point (Factor m) (words behind) r → Fits is_point (Numbered false (Factor (n + 1))) (words behind) r
behind_minus n {behind = behind} {r = r} same h f =
    let g = subst (λ (k : ℕ). Fits is_point (Factor k) (words behind) r) same f in
    record { it = unnumbered is_point (Factor (n + 1)) (factor_headed (n + 1)) (unnumbered_can {n = n + 1}).it (words behind) r h.it.1 g.it }

minus_stands : {ws : List Word} {behind : Cursor} → IsStart ws (start.Opposite behind) → IsBehind (Minus false) ws (Some (words behind))
minus_stands h = record { it = h.it.0 }

parenthesis_stands : {ws : List Word} {behind : Cursor} → IsStart ws (start.Parenthesis behind) → IsBehind (Sign sign.OpeningParenthesis) ws (Some (words behind))
parenthesis_stands h = record { it = h.it }

pub opposite_deep : {n : ℕ} {ws : List Word} {behind : Cursor} (k : ℕ) → length ws ≡ k → 256 ≤ n → IsStart ws (start.Opposite behind) → Fits is_point (Factor n) ws (Over TooDeep k)
opposite_deep {n = n} k e high h = opposite_first h (node_deep k e high (minus_stands h) (then_can (unnumbered_can {n = n + 1}) (λ x. return_can)))

pub opposite_stop : {n m : ℕ} {ws : List Word} {behind : Cursor} (e : ReadStop) → m ≡ n + 1 → n < 256 → IsStart ws (start.Opposite behind) → Fits is_point (Factor m) (words behind) (stopped e) → Fits is_point (Factor n) ws (stopped e)
opposite_stop e same low h f = opposite_first h (node_go low (minus_stands h) (then_stop e (return_passed (λ t p. p)) (λ x. return_can) (behind_minus _ same h f)))

pub opposite_read : {n m k : ℕ} {ws rest : List Word} {behind : Cursor} {a b : tree.Expr Ref} → m ≡ n + 1 → n < 256 → IsStart ws (start.Opposite behind) → Fits is_point (Factor m) (words behind) (Read (a, k) rest) → b ≡ tree.negated a → Fits is_point (Factor n) ws (Read (b, k) rest)
opposite_read {n = n} {k = k} {ws = ws} {rest = rest} same low h f value =
    subst (λ (x : tree.Expr Ref). Fits is_point (Factor n) ws (Read (x, k) rest)) (sym value) (opposite_first h (node_go low (minus_stands h) (then_go (return_passed (λ t p. p)) (behind_minus _ same h f) return_fits)))

pub parenthesis_deep : {n : ℕ} {ws : List Word} {behind : Cursor} (k : ℕ) → length ws ≡ k → 256 ≤ n → IsStart ws (start.Parenthesis behind) → Fits is_point (Factor n) ws (Over TooDeep k)
parenthesis_deep {n = n} k e high h = parenthesis_first h (node_deep k e high (parenthesis_stands h) (then_can (sum_can {n = n + 1}) (λ x. after_can return_can)))

inside : (n : ℕ) {m : ℕ} {ws : List Word} {r : Reading Counted} → m ≡ n + 1 → Fits follow_sum (Sum m) ws r → Fits follow_sum (Sum (n + 1)) ws r
inside n {ws = ws} {r = r} same f = subst (λ (k : ℕ). Fits follow_sum (Sum k) ws r) same f

pub parenthesis_stop : {n m : ℕ} {ws : List Word} {behind : Cursor} (e : ReadStop) → m ≡ n + 1 → n < 256 → IsStart ws (start.Parenthesis behind) → Fits follow_sum (Sum m) (words behind) (stopped e) → Fits is_point (Factor n) ws (stopped e)
parenthesis_stop e same low h f = parenthesis_first h (node_go low (parenthesis_stands h) (then_stop e (after_passed refl) (λ x. after_can return_can) (inside _ same f)))

pub parenthesis_open : {n m : ℕ} {ws mid : List Word} {behind : Cursor} {x : Counted} {e : ReadStop} → m ≡ n + 1 → n < 256 → IsStart ws (start.Parenthesis behind) → Fits follow_sum (Sum m) (words behind) (Read x mid) → IsExpected (Sign sign.ClosingParenthesis) mid (Err e)
    → Fits is_point (Factor n) ws (stopped e)
parenthesis_open same low h f closing = parenthesis_first h (node_go low (parenthesis_stands h) (then_go (after_passed refl) (inside _ same f) (after_stop closing return_can)))

pub parenthesis_read : {n m : ℕ} {ws mid rest : List Word} {behind : Cursor} {x : Counted} → m ≡ n + 1 → n < 256 → IsStart ws (start.Parenthesis behind) → Fits follow_sum (Sum m) (words behind) (Read x mid) → IsExpected (Sign sign.ClosingParenthesis) mid (Ok rest)
    → Fits is_point (Factor n) ws (Read x rest)
parenthesis_read same low h f closing = parenthesis_first h (node_go low (parenthesis_stands h) (then_go (after_passed refl) (inside _ same f) (after_go closing return_fits)))
