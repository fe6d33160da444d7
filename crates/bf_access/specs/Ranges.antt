-- The range of keys that a condition leaves, by what its conjuncts say of the key's first columns.
use Rattle.std.specs.Prelude.{ℕ, ◌==◌, if◌then◌else◌, List, [], ◌∷◌, ◌++◌, flat_map, fold, option_map, unwrap_or}
use Rattle.std.specs.declared.cmp.Ordering.{Ordering}
use Rattle.std.specs.declared.ops.Bound.{Bound}
use Rattle.std.specs.declared.ops.Bound.TheVariants.{Included, Excluded, Unbounded}
use Rattle.std.specs.Ordering.{is_lt, is_gt}
use Rattle.bf_base.specs.declared.table.Table.{Table}
use Rattle.bf_base.specs.declared.value.Value.{Value}
use Rattle.bf_base.specs.Values.{value_cmp}
use Rattle.bf_heap.specs.declared.key_range.KeyRange.{KeyRange}
use Rattle.bf_tree.specs.declared.compare.Compare.{Compare}
use Rattle.bf_tree.specs.declared.compare.Compare.TheVariants.{Equal, Unequal, Less, LessEqual, Greater, GreaterEqual}
use Rattle.bf_tree.specs.Trees.{literal, column, Cond, compared, between}
use Rattle.bf_tree.specs.Fixed.{column_fixed, conjuncts}
use Rattle.bf_access.specs.declared.range.Side.{Side}
use Rattle.bf_access.specs.declared.range.Side.TheVariants.{Low, High}

-- the sign of a comparison whose sides have changed places
abbrev pub turned : Compare → Compare
turned Equal = Equal
turned Unequal = Unequal
turned Less = Greater
turned LessEqual = GreaterEqual
turned Greater = Less
turned GreaterEqual = LessEqual

-- a conjunct's comparisons of the column at a place with literals, the column on the left
abbrev pub comparisons : ℕ → Cond ℕ → List (Compare × Value)
comparisons place (compared op (column at) (literal v)) = if at == place then (op, v) ∷ [] else []
comparisons place (compared op (literal v) (column at)) = if at == place then (turned op, v) ∷ [] else []
comparisons place (between (column at) (literal low) (literal high)) = if at == place then (GreaterEqual, low) ∷ (LessEqual, high) ∷ [] else []
comparisons place cond = []

-- the end that a comparison with a value gives on a side
abbrev pub end_of : Side → Compare → Value → Bound Value
end_of side Equal v = Included v
end_of Low GreaterEqual v = Included v
end_of Low Greater v = Excluded v
end_of High LessEqual v = Included v
end_of High Less v = Excluded v
end_of side op v = Unbounded

-- the order of values in which ends on a side become narrower
abbrev pub toward : Side → Value → Value → Ordering
toward Low x y = value_cmp x y
toward High x y = value_cmp y x

-- the narrower of two ends on a side: the greater low one, the lesser high one, and of two at one value the one that excludes it
abbrev pub narrower : Side → Bound Value → Bound Value → Bound Value
narrower side Unbounded b = b
narrower side (Included x) Unbounded = Included x
narrower side (Included x) (Included y) = if is_lt (toward side x y) then Included y else Included x
narrower side (Included x) (Excluded y) = if is_gt (toward side x y) then Included x else Excluded y
narrower side (Excluded x) Unbounded = Excluded x
narrower side (Excluded x) (Included y) = if is_lt (toward side x y) then Included y else Excluded x
narrower side (Excluded x) (Excluded y) = if is_lt (toward side x y) then Excluded y else Excluded x

-- the narrowest on a side of an end and those that a condition's conjuncts give the column at a place
abbrev pub narrowed : Side → ℕ → Cond ℕ → Bound Value → Bound Value
narrowed side place cond end = fold (λ e c. narrower side e (end_of side c.0 c.1)) end (flat_map (comparisons place) (conjuncts cond))

abbrev pub column_end : Side → ℕ → Cond ℕ → Bound Value
column_end side place cond = narrowed side place cond Unbounded

-- an end of a column, behind the values of the columns in front of it
abbrev pub end_behind : List Value → Bound Value → Bound (List Value)
end_behind front (Included v) = Included (front ++ v ∷ [])
end_behind front (Excluded v) = Excluded (front ++ v ∷ [])
end_behind [] Unbounded = Unbounded
end_behind (w ∷ front) Unbounded = Included (w ∷ front)

-- the range behind a front, by the columns that are left: the fixed ones lengthen the front, and the first other one has the ends
abbrev pub range_behind : Cond ℕ → List Value → List ℕ → KeyRange
range_behind cond front [] = record { low = Included front; high = Included front }
range_behind cond front (place ∷ places) =
    unwrap_or (option_map (λ v. range_behind cond (front ++ v ∷ []) places) (column_fixed place cond))
    (record { low = end_behind front (column_end Low place cond); high = end_behind front (column_end High place cond) })

-- KEY RANGE: the keys that a condition on a table leaves
abbrev pub key_range_of : Table → Cond ℕ → KeyRange
key_range_of table cond = range_behind cond [] table.key
