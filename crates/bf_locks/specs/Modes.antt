-- Lock modes: which go together, which covers which, and the least that covers two.
use Rattle.std.specs.Prelude.{ℕ, Bool, true, false, ◌&&◌, ◌||◌, List, IsTrue, if◌then◌else◌, codes}
use Rattle.bf_locks.specs.declared.mode.Mode.{Mode}
use Rattle.bf_locks.specs.declared.mode.Mode.TheVariants.{IS, IX, S, SIX, X}

-- the entry for a mode in a row that has one for IS, IX, S, SIX and X
abbrev pub in_row : Bool → Bool → Bool → Bool → Bool → Mode → Bool
in_row is ix s six x IS = is
in_row is ix s six x IX = ix
in_row is ix s six x S = s
in_row is ix s six x SIX = six
in_row is ix s six x X = x

-- whether two owners may hold one name in these modes: a row for each mode
abbrev pub are_compatible : Mode → Mode → Bool
are_compatible IS = in_row true true true true false
are_compatible IX = in_row true true false false false
are_compatible S = in_row true false true false false
are_compatible SIX = in_row true false false false false
are_compatible X = in_row false false false false false

-- whether the first mode covers the second: IS is below IX and S, both are below SIX, and SIX is below X
abbrev pub covers : Mode → Mode → Bool
covers IS = in_row true false false false false
covers IX = in_row true true false false false
covers S = in_row true false true false false
covers SIX = in_row true true true true false
covers X = in_row true true true true true

-- the mode that covers both: one of them where it covers the other, and SIX for IX and S
abbrev pub join_of : Mode → Mode → Mode
join_of a b = if covers a b then a else if covers b a then b else SIX

-- a mode covers both, and each mode that covers both covers it
pub record IsLeastCover (a b cover : Mode) : Type 0 where
  pub first : IsTrue (covers cover a)
  pub second : IsTrue (covers cover b)
  pub least : (mode : Mode) → IsTrue (covers mode a) → IsTrue (covers mode b) → IsTrue (covers mode cover)

-- whether the mode lets its owner read all that the name stands for
abbrev pub reads_all : Mode → Bool
reads_all = in_row false false true true true

-- whether the mode lets its owner write parts, for which it asks locks of their own
abbrev pub writes_parts : Mode → Bool
writes_parts = in_row false true false true true

-- whether the mode lets its owner write all that the name stands for
abbrev pub writes_all : Mode → Bool
writes_all = in_row false false false false true

-- whether one may write what the other may read or write, and no lock on a part would tell
abbrev pub interfere : Mode → Mode → Bool
interfere a b = writes_all a || writes_all b || (writes_parts a && reads_all b) || (reads_all a && writes_parts b)

-- the number of a mode
abbrev pub number_of : Mode → ℕ
number_of IS = 0
number_of IX = 1
number_of S = 2
number_of SIX = 3
number_of X = 4

-- the word of a mode, as its bytes
abbrev pub word_of : Mode → List ℕ
word_of IS = codes "IS"
word_of IX = codes "IX"
word_of S = codes "S"
word_of SIX = codes "SIX"
word_of X = codes "X"
