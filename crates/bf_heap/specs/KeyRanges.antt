-- Key ranges: the keys between two ends. An end has values for the first columns of a key, and bounds the keys by those.
use Rattle.std.specs.Prelude.{Bool, false, not, ◌&&◌, List, length, take}
use Rattle.std.specs.declared.cmp.Ordering.{Ordering}
use Rattle.std.specs.declared.ops.Bound.{Bound}
use Rattle.std.specs.declared.ops.Bound.TheVariants.{Included, Excluded, Unbounded}
use Rattle.std.specs.Ordering.{is_lt, is_le, is_gt, is_ge}
use Rattle.bf_base.specs.declared.value.Value.{Value}
use Rattle.bf_base.specs.Values.{key_cmp}
use Rattle.bf_heap.specs.declared.key_range.KeyRange.{KeyRange}

-- how a key's first values compare with those of an end
abbrev pub front_cmp : List Value → List Value → Ordering
front_cmp key values = key_cmp (take (length values) key) values

-- whether a key comes before the low end of a range
abbrev pub is_before : Bound (List Value) → List Value → Bool
is_before (Included values) key = is_lt (front_cmp key values)
is_before (Excluded values) key = is_le (front_cmp key values)
is_before Unbounded key = false

-- whether a key comes behind the high end of a range
abbrev pub is_behind : Bound (List Value) → List Value → Bool
is_behind (Included values) key = is_gt (front_cmp key values)
is_behind (Excluded values) key = is_ge (front_cmp key values)
is_behind Unbounded key = false

abbrev pub is_within : KeyRange → List Value → Bool
is_within range key = not (is_before range.low key) && not (is_behind range.high key)
