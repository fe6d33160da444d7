-- The value of an expression and the truth of a condition on a row.
use Rattle.std.specs.Prelude.{◌≡◌, ℕ, ℤ, pos, ◌+ℤ◌, ◌-ℤ◌, ◌*ℤ◌, neg_ℤ, Bool, true, not, ◌&&◌, ◌||◌, List, [], ◌++◌, length, nat_le, Option, Some, None, slice_get, Result, Ok, Err, if◌then◌else◌}
use Rattle.std.specs.Result.{result_unwrap_or}
use Rattle.std.specs.declared.cmp.Ordering.{Ordering}
use Rattle.std.specs.Ordering.{is_eq, is_ne, is_lt, is_le, is_gt, is_ge}
use Rattle.bf_base.specs.declared.value.Value.{Value}
use Rattle.bf_base.specs.declared.value.Value.TheVariants.{Int, Text}
use Rattle.bf_base.specs.Limits.{longest_text, is_int}
use Rattle.bf_base.specs.Values.{value_cmp}
use Rattle.bf_tree.specs.declared.evaluation.Fail.{Fail}
use Rattle.bf_tree.specs.declared.evaluation.Fail.TheVariants.{OutOfRange, TooLong, Memory}
use Rattle.bf_tree.specs.declared.compare.Compare.{Compare}
use Rattle.bf_tree.specs.declared.compare.Compare.TheVariants as compare
use Rattle.bf_tree.specs.Trees.{Expr, literal, column, negated, plus, minus, times, joined, Cond, always, compared, between, opposite, both, either}

infixl 10 ◌>>=◌
-- the first failure is the result
abbrev pub ◌>>=◌ : {A B : Type 0} → Result A Fail → (A → Result B Fail) → Result B Fail
(Err e) >>= f = Err e
(Ok x) >>= f = f x

abbrev pub number_of : Value → ℤ
number_of (Int n) = n
number_of (Text t) = pos 0

abbrev pub bytes_of : Value → List ℕ
bytes_of (Int n) = []
bytes_of (Text t) = t

-- a whole number as a value, if it is an INT
abbrev pub exact : ℤ → Result Value Fail
exact n = if is_int n then Ok (Int n) else Err OutOfRange

-- bytes as a value, if they are not too many for a text
abbrev pub short : List ℕ → Result Value Fail
short t = if nat_le (length t) longest_text then Ok (Text t) else Err TooLong

-- how two values compare by a sign
abbrev pub compares : Compare → Ordering → Bool
compares compare.Equal o = is_eq o
compares compare.Unequal o = is_ne o
compares compare.Less o = is_lt o
compares compare.LessEqual o = is_le o
compares compare.Greater o = is_gt o
compares compare.GreaterEqual o = is_ge o

-- `read` gives the value of each column of the row
module _ {R : Type 0} (read : R → Value) where
  -- an expression's exact value, the left part first
  abbrev pub value_of : Expr R → Result Value Fail
  value_of (literal v) = Ok v
  value_of (column r) = Ok (read r)
  value_of (negated a) = do x ← value_of a; exact (neg_ℤ (number_of x))
  value_of (plus a b) = do x ← value_of a; y ← value_of b; exact (number_of x +ℤ number_of y)
  value_of (minus a b) = do x ← value_of a; y ← value_of b; exact (number_of x -ℤ number_of y)
  value_of (times a b) = do x ← value_of a; y ← value_of b; exact (number_of x *ℤ number_of y)
  value_of (joined a b) = do x ← value_of a; y ← value_of b; short (bytes_of x ++ bytes_of y)

  -- the value of one that can't fail
  abbrev pub sure_value : Expr R → Value
  sure_value e = result_unwrap_or (value_of e) (Int (pos 0))

  -- whether a condition is true; it compares columns and literals, so it can't fail
  abbrev pub holds_on : Cond R → Bool
  holds_on always = true
  holds_on (compared op a b) = compares op (value_cmp (sure_value a) (sure_value b))
  holds_on (between a low high) = is_le (value_cmp (sure_value low) (sure_value a)) && is_le (value_cmp (sure_value a) (sure_value high))
  holds_on (opposite c) = not (holds_on c)
  holds_on (both c d) = holds_on c && holds_on d
  holds_on (either c d) = holds_on c || holds_on d

-- the value of an expression that is one already: of a literal, and of a column that the row has
abbrev pub value_there : List Value → Expr ℕ → Option Value
value_there row (literal v) = Some v
value_there row (column place) = slice_get row place
value_there row e = None

-- what a call gives for a meaning: its value, or the reason why there is none; or memory ran out
abbrev pub Gives : Result Value Fail → Result Value Fail → Type 0
Gives (Ok v) meaning = meaning ≡ Ok v
Gives (Err OutOfRange) meaning = meaning ≡ Err OutOfRange
Gives (Err TooLong) meaning = meaning ≡ Err TooLong
Gives (Err Memory) meaning = Unit {0}
