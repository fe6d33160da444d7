-- A pass over the writes to the keys of a range: from the low end on, up to the first key behind the high end.
use Rattle.std.proofs.Common.{◌≡◌, Bool, true, false, not, ◌&&◌, cond, List, [], ◌∷◌, filter, take, length, Ordering, Less, Equal, Greater, refl, sym, ap, subst, ◌∙◌, inl, inr, is_lt, is_le}
use Rattle.std.specs.BTreeMap.Range.{entries_between, is_from_start, range_contains}
use Rattle.std.specs.List.Sorted.{IsStrictlySortedBy}
use Rattle.std.specs.Map.{keys_of}
use Rattle.std.specs.Ordering.{ordering_then}
use Rattle.std.specs.declared.ops.Bound.{Bound}
use Rattle.std.specs.declared.ops.Bound.TheVariants.{Included, Excluded, Unbounded}
use Rattle.std.proofs.lemmas.Bool.{and_parts, cases_Bool, false≢true}
use Rattle.std.proofs.lemmas.List.Kept.{IsStrictlySortedBy-filter}
use Rattle.std.proofs.lemmas.Map.Keys.{sorted_head, sorted_tail}
use Rattle.bf_base.specs.declared.value.Value.{Value}
use Rattle.bf_base.specs.Values.{key_cmp, value_cmp, value_cmp_total}
use Rattle.bf_base.proofs.Order.{turned, turned_equal}
use Rattle.bf_heap.specs.declared.key_range.KeyRange.{KeyRange}
use Rattle.bf_heap.specs.KeyRanges.{front_cmp, is_before, is_behind, is_within}
use Rattle.bf_heap.proofs.Ranges.{falls_within}
use Rattle.bf_txn.specs.Writes.{AreKeyWrites, KeyWrite, beginning}

-- ---- a key whose front is not before an end is not before it as a key
not_before : (end key : List Value) → is_lt (front_cmp key end) ≡ false → is_le (key_cmp end key) ≡ true
not_before [] [] h = refl
not_before [] (k ∷ key) h = refl
not_before (v ∷ end) [] h = absurd cc
not_before (v ∷ end) (k ∷ key) h =
    elim (value_cmp k v) as (λ r. value_cmp k v ≡ r → is_lt (ordering_then r (key_cmp (take (length end) key) end)) ≡ false → is_le (ordering_then (value_cmp v k) (key_cmp end key)) ≡ true) [
      | Less ↦ λ is g. absurd cc
      | Equal ↦ λ is g. rw (turned_equal value_cmp_total k v is) (not_before end key g)
      | Greater ↦ λ is g. rw (turned value_cmp_total k v is) refl
    ] refl h

not_le-not_lt : (r : Ordering) → is_le r ≡ false → is_lt r ≡ false
not_le-not_lt Less h = absurd cc
not_le-not_lt Equal h = refl
not_le-not_lt Greater h = refl

from_beginning : (low : Bound (List Value)) (key : List Value) → is_before low key ≡ false → is_from_start key_cmp (beginning low) key ≡ true
from_beginning (Included end) key h = not_before end key h
from_beginning (Excluded end) key h = not_before end key (not_le-not_lt (front_cmp key end) h)
from_beginning Unbounded key h = refl

not_true : (b : Bool) → not b ≡ true → b ≡ false
not_true false e = refl
not_true true e = absurd cc

-- what passes a test is not lost to a wider one
filter_through : {X : Type 0} (narrow wide : X → Bool) → ((x : X) → narrow x ≡ true → wide x ≡ true) → (xs : List X) → filter narrow (filter wide xs) ≡ filter narrow xs
filter_through narrow wide wider [] = refl
filter_through narrow wide wider (x ∷ xs) = elim (cases_Bool (narrow x)) [
  | inl within ↦
      let passes = wider x within in
      rw (passes, within, filter_through narrow wide wider xs) refl
  | inr outside ↦ elim (cases_Bool (wide x)) [
    | inl passes ↦ rw (passes, outside) (filter_through narrow wide wider xs)
    | inr fails ↦ rw (fails, outside) (filter_through narrow wide wider xs)
  ]
]

-- the writes from the low end on have all those in the range
pub from_low : (range : KeyRange) (later writes : List KeyWrite) → later ≡ entries_between key_cmp (beginning range.low) Unbounded writes
    → filter (λ write. is_within range write.0) later ≡ filter (λ write. is_within range write.0) writes
from_low range later writes is =
    ap (filter (λ (write : KeyWrite). is_within range write.0)) is
    ∙ filter_through (λ (write : KeyWrite). is_within range write.0) (λ (write : KeyWrite). range_contains key_cmp (beginning range.low) Unbounded write.0) wide writes
  where
    wide : (write : KeyWrite) → is_within range write.0 ≡ true → range_contains key_cmp (beginning range.low) Unbounded write.0 ≡ true
    wide write within = rw (from_beginning range.low write.0 (not_true _ (and_parts _ _ within).0)) refl

keys-filter : {K X : Type 0} (test : K → Bool) (es : List (K × X)) → keys_of (filter (λ e. test e.0) es) ≡ filter test (keys_of es)
keys-filter test [] = refl
keys-filter {K = K} {X = X} test (e ∷ es) = elim (test e.0) as (λ b. keys_of (cond b (e ∷ filter (λ (e : K × X). test e.0) es) (filter (λ (e : K × X). test e.0) es)) ≡ cond b (e.0 ∷ filter test (keys_of es)) (filter test (keys_of es))) [
  | true ↦ ap (λ (ks : List K). e.0 ∷ ks) (keys-filter test es)
  | false ↦ keys-filter test es
]

pub low_sorted : (low : Bound (List Value)) (later writes : List KeyWrite) → AreKeyWrites writes → later ≡ entries_between key_cmp low Unbounded writes → AreKeyWrites later
low_sorted low later writes h is =
    subst AreKeyWrites (sym is) (subst (IsStrictlySortedBy key_cmp) (sym (keys-filter (range_contains key_cmp low Unbounded) writes)) (IsStrictlySortedBy-filter key_cmp (range_contains key_cmp low Unbounded) (keys_of writes) h))

-- ---- one step
module _ (range : KeyRange) where
  abbrev within : KeyWrite → Bool
  within write = is_within range write.0

  -- a key outside the range is passed over
  pub passed_before : (write : KeyWrite) (later now : List KeyWrite) → later ≡ write ∷ now → is_before range.low write.0 ≡ true → filter within later ≡ filter within now
  passed_before write later now is before =
      ap (filter within) is ∙ rw before refl

  pub passed_behind : (write : KeyWrite) (later now : List KeyWrite) → later ≡ write ∷ now → is_behind range.high write.0 ≡ true → filter within later ≡ filter within now
  passed_behind write later now is behind =
      ap (filter within) is ∙ elim (is_before range.low write.0) as (λ b. cond (not b && not (is_behind range.high write.0)) (write ∷ filter within now) (filter within now) ≡ filter within now) [
        | true ↦ refl
        | false ↦ rw behind refl
      ]

  pub reached : (write : KeyWrite) (later now : List KeyWrite) → later ≡ write ∷ now → is_before range.low write.0 ≡ false → is_behind range.high write.0 ≡ false → write ∷ filter within now ≡ filter within later
  reached write later now is before behind = sym (ap (filter within) is ∙ rw (before, behind) refl)

  -- all keys behind one that is behind the range are
  none_behind : (key : List Value) (now : List KeyWrite) → IsStrictlySortedBy key_cmp (key ∷ keys_of now) → is_behind range.high key ≡ true → filter within now ≡ []
  none_behind key [] h behind = refl
  none_behind key (write ∷ now) h behind =
      let less : key_cmp key write.0 ≡ Less = (sorted_head key_cmp key (keys_of (write ∷ now)) h).0 in
      let behind_too : is_behind range.high write.0 ≡ true = elim (cases_Bool (is_behind range.high write.0)) [
        | inl behind_too ↦ behind_too
        | inr inside ↦
            let not_key : not (is_behind range.high key) ≡ true = falls_within range.high key write.0 less (ap not inside) in
            absurd (false≢true (sym (not_true _ not_key) ∙ behind))
      ] in
      passed_behind write (write ∷ now) now refl behind_too ∙ none_behind write.0 now (sorted_tail key_cmp key (keys_of (write ∷ now)) h) behind_too

  pub at_end : (write : KeyWrite) (later now : List KeyWrite) → AreKeyWrites later → later ≡ write ∷ now → is_behind range.high write.0 ≡ true → filter within now ≡ []
  at_end write later now h is behind = none_behind write.0 now (subst AreKeyWrites is h) behind

pub later_sorted : (write : KeyWrite) (later now : List KeyWrite) → AreKeyWrites later → later ≡ write ∷ now → AreKeyWrites now
later_sorted write later now h is = sorted_tail key_cmp write.0 (keys_of now) (subst AreKeyWrites is h)
