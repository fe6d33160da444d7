-- Whether a value is in a range is told by its front, where the range has no longer ends.
use Rattle.std.proofs.Common.{◌≡◌, ℕ, ◌+◌, ◌≤◌, Bool, true, not, ◌&&◌, List, [], ◌∷◌, ◌++◌, length, take, Option, Some, None, is_ge, is_gt, is_le, is_lt, refl, sym, ap, ap₂, ◌∙◌, arith}
use Rattle.std.specs.Prelude.{option_map, unwrap_or}
use Rattle.std.specs.declared.ops.Bound.{Bound}
use Rattle.std.specs.declared.ops.Bound.TheVariants.{Included, Excluded, Unbounded}
use Rattle.std.proofs.lemmas.List.{length-append, take-take}
use Rattle.bf_base.specs.declared.value.Value.{Value}
use Rattle.bf_base.specs.Values.{key_cmp}
use Rattle.bf_heap.specs.declared.key_range.KeyRange.{KeyRange}
use Rattle.bf_heap.specs.KeyRanges.{front_cmp, is_before, is_behind, is_within}
use Rattle.bf_tree.specs.Fixed.{column_fixed}
use Rattle.bf_tree.specs.Trees.{Cond}
use Rattle.bf_access.specs.declared.range.Side.TheVariants.{Low, High}
use Rattle.bf_access.specs.Ranges.{column_end, end_behind, range_behind}

-- an end of at most so many values
abbrev IsShort : ℕ → Bound (List Value) → Type 0
IsShort n (Included e) = length e ≤ n
IsShort n (Excluded e) = length e ≤ n
IsShort n Unbounded = Unit {0}

front_told : (n : ℕ) (e key : List Value) → length e ≤ n → front_cmp (take n key) e ≡ front_cmp key e
front_told n e key short = ap (λ k. key_cmp k e) (take-take (length e) n key short)

before_told : (n : ℕ) (end : Bound (List Value)) (key : List Value) → IsShort n end → is_before end (take n key) ≡ is_before end key
before_told n (Included e) key short = ap is_lt (front_told n e key short)
before_told n (Excluded e) key short = ap is_le (front_told n e key short)
before_told n Unbounded key short = refl

behind_told : (n : ℕ) (end : Bound (List Value)) (key : List Value) → IsShort n end → is_behind end (take n key) ≡ is_behind end key
behind_told n (Included e) key short = ap is_gt (front_told n e key short)
behind_told n (Excluded e) key short = ap is_ge (front_told n e key short)
behind_told n Unbounded key short = refl

end_short : (front : List Value) (end : Bound Value) (n : ℕ) → length front + 1 ≤ n → IsShort n (end_behind front end)
end_short front (Included v) n few = let long = length-append front (v ∷ []) in omega (arith, long, few)
end_short front (Excluded v) n few = let long = length-append front (v ∷ []) in omega (arith, long, few)
end_short [] Unbounded n few = tt
end_short (w ∷ front) Unbounded n few = omega (arith, few)

-- the ends of a condition's range have at most as many values as there are columns
abbrev HasShortEnds : ℕ → KeyRange → Type 0
HasShortEnds n range = IsShort n range.low × IsShort n range.high

range_short : (c : Cond ℕ) (front : List Value) (places : List ℕ) (n : ℕ) → length front + length places ≤ n → HasShortEnds n (range_behind c front places)
range_short c front [] n few = (omega (arith, few), omega (arith, few))
range_short c front (place ∷ places) n few =
    let more : (v : Value) → length (front ++ v ∷ []) + length places ≤ n = λ v. let long = length-append front (v ∷ []) in omega (arith, long, few) in
    of (λ v. range_short c (front ++ v ∷ []) places n (more v)) (column_fixed place c)
  where
    of : ((v : Value) → HasShortEnds n (range_behind c (front ++ v ∷ []) places)) → (o : Option Value)
        → HasShortEnds n (unwrap_or (option_map (λ v. range_behind c (front ++ v ∷ []) places) o) (record { low = end_behind front (column_end Low place c); high = end_behind front (column_end High place c) }))
    of behind None = (end_short front (column_end Low place c) n (omega (arith, few)), end_short front (column_end High place c) n (omega (arith, few)))
    of behind (Some v) = behind v

pub within_by_front : (c : Cond ℕ) (places : List ℕ) (key : List Value) → is_within (range_behind c [] places) (take (length places) key) ≡ true → is_within (range_behind c [] places) key ≡ true
within_by_front c places key within =
    let range = range_behind c [] places in
    let n = length places in
    let short = range_short c [] places n (omega arith) in
    sym (ap₂ (λ a b. not a && not b) (before_told n range.low key short.0) (behind_told n range.high key short.1)) ∙ within
