-- Marks stay in order, and are counted.
use Rattle.std.proofs.Common.{◌≡◌, ℕ, ◌+◌, ◌-◌, ◌<◌, ◌≤◌, true, false, not, List, [], length, get_or, set, None, is_some, refl, sym, ap, subst, ◌∙◌, arith}
use Rattle.std.specs.BTreeMap.{insert_entry, is_at}
use Rattle.std.specs.List.Sorted.{IsStrictlySortedBy}
use Rattle.std.specs.Map.{keys_of, lookup, remove_entry}
use Rattle.std.specs.Ordering.{eq_by_cmp}
use Rattle.bf_base.specs.declared.granule.Granule.{Granule}
use Rattle.bf_base.specs.declared.granule.Place.{Place}
use Rattle.bf_base.specs.Lists.{has, rises}
use Rattle.bf_base.proofs.Apart.{rises-filter}
use Rattle.bf_base.proofs.Order.{rises-placed}
use Rattle.bf_sql.specs.migrations.Granules.{same_granule}
use Rattle.bf_sql.specs.migrations.Lazy.{done_by}
use Rattle.bf_txn.proofs.KeyWrites.{rises_from_sorted, sorted_from_rises}
use Rattle.bf_store.specs.ByUnit.{AreKept, Numbered, at_place, from_unit, marks_of, of_unit}
use Rattle.bf_store.specs.Marks.{granules_in, number_in}
use Rattle.bf_store.specs.States.{granule_cmp}
use Rattle.bf_store.specs.declared.unit_marks.UnitMarks.{UnitMarks}
use Rattle.bf_store.proofs.ByUnit.{Passes, found_in_unit, in_its_unit, length-inserted, length-removed, no_unit, nothing_removed}
use Rattle.bf_store.proofs.Granules.{granule_cmp_total, granule_ties}
use Rattle.bf_store.proofs.Marking.{granule_of, in_order_if_sorted, looked_up, none_if_fresh, placed_if_absent, removed, seen_keys, without}

pub kept_none : AreKept [] 0
kept_none = record { sorted = sorted_from_rises {X = ℕ} granule_cmp_total [] refl; counted = refl; few = omega arith }

pub kept_alike : (ms ns : List UnitMarks) (count : ℕ) → AreKept ms count → from_unit 0 ns ≡ from_unit 0 ms → length ns ≤ 256 → AreKept ns count
kept_alike ms ns count kept same few = record {
  sorted = subst (λ (es : List Numbered). IsStrictlySortedBy granule_cmp (keys_of es)) (sym same) kept.sorted;
  counted = kept.counted ∙ ap (λ (es : List Numbered). length es) (sym same);
  few = few;
}

module _ (es : List Numbered) (g : Granule) where
  ties : same_granule ≡ eq_by_cmp granule_cmp
  ties i h k = granule_ties h k i

  sorted_marked : (n : ℕ) → IsStrictlySortedBy granule_cmp (keys_of es) → has same_granule (granules_in (marks_of es)) g ≡ false → IsStrictlySortedBy granule_cmp (keys_of (insert_entry granule_cmp es g n))
  sorted_marked n sorted fresh =
      let later = insert_entry granule_cmp es g n in
      let apart : has (eq_by_cmp granule_cmp) (granules_in (marks_of es)) g ≡ false = ap (λ same. has same (granules_in (marks_of es)) g) (sym ties) ∙ fresh in
      let placed = placed_if_absent es g n (none_if_fresh es g fresh) in
      sorted_from_rises granule_cmp_total later
      (ap (rises granule_cmp) (sym (seen_keys later)) ∙ ap (λ done. rises granule_cmp (granules_in done)) placed
      ∙ rises-placed granule_cmp_total granule_of (marks_of es) (done_by n g) (in_order_if_sorted es sorted) apart)

  sorted_unmarked : IsStrictlySortedBy granule_cmp (keys_of es) → IsStrictlySortedBy granule_cmp (keys_of (remove_entry (is_at (granule_cmp g)) es))
  sorted_unmarked sorted =
      let later = remove_entry (is_at (granule_cmp g)) es in
      sorted_from_rises granule_cmp_total later
      (ap (rises granule_cmp) (sym (seen_keys later)) ∙ ap (λ done. rises granule_cmp (granules_in done)) (removed g es (rises_from_sorted granule_cmp_total es sorted))
      ∙ rises-filter granule_cmp_total granule_of (λ d. not (same_granule d.granule g)) (marks_of es) (in_order_if_sorted es sorted))

module _ (ms ns : List UnitMarks) (count : ℕ) (g : Granule) (kept : AreKept ms count) (few : length ns ≤ 256) where
  pub kept_marked : (n : ℕ) → from_unit 0 ns ≡ insert_entry granule_cmp (from_unit 0 ms) g n → has same_granule (granules_in (marks_of (from_unit 0 ms))) g ≡ false → AreKept ns (count + 1)
  kept_marked n is fresh =
      let es = from_unit 0 ms in
      let more = length-inserted granule_cmp g n es (none_if_fresh es g fresh) in
      record {
        sorted = subst (λ (fs : List Numbered). IsStrictlySortedBy granule_cmp (keys_of fs)) (sym is) (sorted_marked es g n kept.sorted fresh);
        counted = ap (λ k. k + 1) kept.counted ∙ sym more ∙ ap (λ (fs : List Numbered). length fs) (sym is);
        few = few;
      }

  pub kept_unmarked : from_unit 0 ns ≡ remove_entry (is_at (granule_cmp g)) (from_unit 0 ms) → is_some (lookup (is_at (granule_cmp g)) (from_unit 0 ms)) ≡ true → AreKept ns (count - 1)
  kept_unmarked is there =
      let es = from_unit 0 ms in
      let less = length-removed (is_at (granule_cmp g)) es there in
      let now : length (from_unit 0 ns) ≡ length (remove_entry (is_at (granule_cmp g)) es) = ap (λ (fs : List Numbered). length fs) is in
      let counted = kept.counted in
      record {
        sorted = subst (λ (fs : List Numbered). IsStrictlySortedBy granule_cmp (keys_of fs)) (sym is) (sorted_unmarked es g kept.sorted);
        counted = omega (arith, less, now, counted);
        few = few;
      }

-- one that is taken back was counted
pub some_counted : (ms : List UnitMarks) (count : ℕ) (g : Granule) → AreKept ms count → is_some (lookup (is_at (granule_cmp g)) (from_unit 0 ms)) ≡ true → 1 ≤ count
some_counted ms count g kept there =
    let less = length-removed (is_at (granule_cmp g)) (from_unit 0 ms) there in
    let counted = kept.counted in
    omega (arith, less, counted)

pub number_kept : (ms : List UnitMarks) (u : ℕ) (p : Place) (x : UnitMarks) → u < length ms → x ≡ get_or ms u x
    → lookup (is_at (granule_cmp (at_place u p))) (of_unit u x) ≡ number_in (marks_of (from_unit 0 ms)) (at_place u p)
number_kept ms u p x in_range is = found_in_unit u p 0 ms u x (omega arith) in_range is ∙ looked_up (from_unit 0 ms) (at_place u p)

pub number_beyond : (ms : List UnitMarks) (u : ℕ) (p : Place) → length ms ≤ u → None ≡ number_in (marks_of (from_unit 0 ms)) (at_place u p)
number_beyond ms u p beyond = sym (no_unit u p 0 ms (omega arith)) ∙ looked_up (from_unit 0 ms) (at_place u p)

-- a change in one unit is one of all marks
pub changed : (ms before : List UnitMarks) (g : Granule) (f : List Numbered → List Numbered) → Passes granule_cmp g f → (x m : UnitMarks)
    → g.unit < length ms → x ≡ get_or ms g.unit x → of_unit g.unit m ≡ f (of_unit g.unit x) → from_unit 0 ms ≡ from_unit 0 before
    → from_unit 0 (set ms g.unit m) ≡ f (from_unit 0 before)
changed ms before g f passes x m in_range is change same = in_its_unit g.unit g.place f passes 0 ms g.unit x m (omega arith) in_range is change ∙ ap f same

pub taken : (ms ns : List UnitMarks) (count : ℕ) (g : Granule) → AreKept ms count → from_unit 0 ns ≡ remove_entry (is_at (granule_cmp g)) (from_unit 0 ms)
    → marks_of (from_unit 0 ns) ≡ without g (marks_of (from_unit 0 ms))
taken ms ns count g kept is = ap marks_of is ∙ removed g (from_unit 0 ms) (rises_from_sorted granule_cmp_total (from_unit 0 ms) kept.sorted)

-- nothing is taken of a unit that is not kept
pub none_taken : (ms : List UnitMarks) (count : ℕ) (g : Granule) → AreKept ms count → length ms ≤ g.unit → marks_of (from_unit 0 ms) ≡ without g (marks_of (from_unit 0 ms))
none_taken ms count g kept beyond = taken ms ms count g kept (sym (nothing_removed (is_at (granule_cmp g)) (from_unit 0 ms) (ap is_some (no_unit g.unit g.place 0 ms (omega arith)))))
