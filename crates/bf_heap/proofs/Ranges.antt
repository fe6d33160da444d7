-- Tests that keys pass up to some place of their order, and fail from there on: those of the ends of a range.
use Rattle.std.proofs.Common.{◌≡◌, ℕ, zero, suc, ◌+◌, ◌-◌, ◌<◌, Bool, true, false, not, ◌&&◌, List, [], ◌∷◌, ◌++◌, length, get_or, take, drop, filter, Ordering, Less, Equal, Greater, refl, sym, ap, subst, ◌∙◌, inl, inr, arith, IsTrue, is_lt, is_le, is_gt, is_ge}
use Rattle.std.specs.List.{list_all}
use Rattle.std.specs.List.Sorted.{IsPartitionPoint, IsPartitionedBy}
use Rattle.std.specs.declared.ops.Bound.{Bound}
use Rattle.std.specs.declared.ops.Bound.TheVariants.{Included, Excluded, Unbounded}
use Rattle.std.proofs.lemmas.Cmp.{alike_right}
use Rattle.std.proofs.lemmas.List.Folds.{list_all-append}
use Rattle.std.proofs.lemmas.Bool.{and_parts, and_from, cases_Bool, cases_lt, false≢true}
use Rattle.std.proofs.lemmas.List.{append_assoc, append-nil, take_all, drop_all, drop_more, length-drop}
use Rattle.std.proofs.lemmas.List.Elements.{filter-append}
use Rattle.bf_base.specs.declared.value.Value.{Value}
use Rattle.bf_base.specs.Maps.{is_map}
use Rattle.bf_base.specs.Values.{key_cmp, key_cmp_total}
use Rattle.bf_base.proofs.Order.{less_from_rises, less_from_test}
use Rattle.bf_base.proofs.Parts.{filter_all}
use Rattle.bf_heap.specs.Heaps.{Entry, key_of_entry}
use Rattle.bf_heap.specs.KeyRanges.{front_cmp, is_before, is_behind}
use Rattle.bf_heap.specs.Pages.{rows_of, is_used_page, ends_with}
use Rattle.bf_heap.proofs.Flat.{rises_left, rises_right}

-- a test that a key passes where a greater one does
abbrev pub Falls : (List Value → Bool) → Type 0
Falls test = (a b : List Value) → key_cmp a b ≡ Less → test b ≡ true → test a ≡ true

-- keys in order have fronts in order
fronts_rise : (a b : List Value) (n : ℕ) → key_cmp a b ≡ Less → is_le (key_cmp (take n a) (take n b)) ≡ true
fronts_rise a b zero less = refl
fronts_rise [] [] (suc n) less = refl
fronts_rise [] (y ∷ b) (suc n) less = refl
fronts_rise (x ∷ a) [] (suc n) less = absurd cc
fronts_rise (x ∷ a) (y ∷ b) (suc n) less = grind (arith, fronts_rise a b n)

-- what is lower beside a key is lower beside a greater or equal one
lower_beside : (a b c : List Value) → is_le (key_cmp a b) ≡ true → key_cmp b c ≡ Less → key_cmp a c ≡ Less
lower_beside a b c le less = elim (key_cmp a b) as (λ r. key_cmp a b ≡ r → is_le r ≡ true → key_cmp a c ≡ Less) [
  | Less ↦ λ is h. key_cmp_total.trans a b c is less
  | Equal ↦ λ is h. key_cmp_total.congr a b c is ∙ less
  | Greater ↦ λ is h. absurd (false≢true h)
] refl le

not_above : (a b c : List Value) → is_le (key_cmp a b) ≡ true → key_cmp b c ≡ Equal → is_le (key_cmp a c) ≡ true
not_above a b c le tied = ap is_le (sym (alike_right key_cmp_total b c a tied)) ∙ le

module _ (end a b : List Value) (less : key_cmp a b ≡ Less) where
  front_less : is_lt (front_cmp b end) ≡ true → is_lt (front_cmp a end) ≡ true
  front_less h = ap is_lt (lower_beside _ _ end (fronts_rise a b (length end) less) (less_from_test _ h))

  front_no_more : is_le (front_cmp b end) ≡ true → is_le (front_cmp a end) ≡ true
  front_no_more h = elim (front_cmp b end) as (λ r. front_cmp b end ≡ r → is_le r ≡ true → is_le (front_cmp a end) ≡ true) [
    | Less ↦ λ is k. ap is_le (lower_beside _ _ end (fronts_rise a b (length end) less) is)
    | Equal ↦ λ is k. not_above _ _ end (fronts_rise a b (length end) less) is
    | Greater ↦ λ is k. absurd (false≢true k)
  ] refl h

not_gt : (r : Ordering) → not (is_gt r) ≡ is_le r
not_gt Less = refl
not_gt Equal = refl
not_gt Greater = refl

not_ge : (r : Ordering) → not (is_ge r) ≡ is_lt r
not_ge Less = refl
not_ge Equal = refl
not_ge Greater = refl

-- keys come before a low end up to some place
pub falls_before : (end : Bound (List Value)) → Falls (is_before end)
falls_before (Included end) a b less h = front_less end a b less h
falls_before (Excluded end) a b less h = front_no_more end a b less h
falls_before Unbounded a b less h = h

-- and not behind a high end
pub falls_within : (end : Bound (List Value)) → Falls (λ key. not (is_behind end key))
falls_within (Included end) a b less h = not_gt (front_cmp a end) ∙ front_no_more end a b less (sym (not_gt (front_cmp b end)) ∙ h)
falls_within (Excluded end) a b less h = not_ge (front_cmp a end) ∙ front_less end a b less (sym (not_ge (front_cmp b end)) ∙ h)
falls_within Unbounded a b less h = h

-- what a test keeps of a list that passes it up to a place, and what its opposite keeps
module _ {X : Type 0} (test : X → Bool) where
  pub kept_front : (xs : List X) (i : ℕ) → IsPartitionPoint (λ x. test x ≡ true) (λ x. test x ≡ false) xs i → filter test xs ≡ take i xs
  kept_front [] zero at = refl
  kept_front [] (suc i) at = refl
  kept_front (x ∷ xs) zero at =
      let first = at.1 0 x (omega arith) (omega arith) in
      let rest = kept_front xs zero (λ k d low high. absurd (omega arith), λ k d low high. at.1 (suc k) d (omega arith) (omega arith)) in
      rw (first, rest) refl
  kept_front (x ∷ xs) (suc i) at =
      let first = at.0 0 x (omega arith) (omega arith) in
      let rest = kept_front xs i (λ k d low high. at.0 (suc k) d (omega arith) (omega arith), λ k d low high. at.1 (suc k) d (omega arith) (omega arith)) in
      rw (first, rest) refl

  pub kept_behind : (xs : List X) (i : ℕ) → IsPartitionPoint (λ x. test x ≡ true) (λ x. test x ≡ false) xs i → filter (λ x. not (test x)) xs ≡ drop i xs
  kept_behind [] zero at = refl
  kept_behind [] (suc i) at = refl
  kept_behind (x ∷ xs) zero at =
      let first = at.1 0 x (omega arith) (omega arith) in
      let rest = kept_behind xs zero (λ k d low high. absurd (omega arith), λ k d low high. at.1 (suc k) d (omega arith) (omega arith)) in
      rw (first, rest) refl
  kept_behind (x ∷ xs) (suc i) at =
      let first = at.0 0 x (omega arith) (omega arith) in
      let rest = kept_behind xs i (λ k d low high. at.0 (suc k) d (omega arith) (omega arith), λ k d low high. at.1 (suc k) d (omega arith) (omega arith)) in
      rw (first, rest) refl

  none_kept : (xs : List X) → list_all (λ x. not (test x)) xs ≡ true → filter test xs ≡ []
  none_kept [] all = refl
  none_kept (x ∷ xs) all =
      let parts = and_parts (not (test x)) (list_all (λ x. not (test x)) xs) all in
      elim (cases_Bool (test x)) [
        | inl passes ↦ absurd (false≢true (sym (ap not passes) ∙ parts.0))
        | inr fails ↦ rw (fails, none_kept xs parts.1) refl
      ]

  -- none of those that pass is kept by the opposite
  none_left : (xs : List X) → list_all test xs ≡ true → filter (λ x. not (test x)) xs ≡ []
  none_left [] all = refl
  none_left (x ∷ xs) all = let parts = and_parts (test x) (list_all test xs) all in rw (parts.0, none_left xs parts.1) refl

  -- two tests, one after the other
  pub filter-filter : (other : X → Bool) (xs : List X) → filter (λ x. test x && other x) xs ≡ filter test (filter other xs)
  filter-filter other [] = refl
  filter-filter other (x ∷ xs) = elim (cases_Bool (other x)) [
    | inl passes ↦ elim (cases_Bool (test x)) [
      | inl both ↦ rw (passes, both, filter-filter other xs) refl
      | inr fails ↦ rw (passes, fails, filter-filter other xs) refl
    ]
    | inr fails ↦ elim (cases_Bool (test x)) [
      | inl one ↦ rw (fails, one, filter-filter other xs) refl
      | inr none ↦ rw (fails, none, filter-filter other xs) refl
    ]
  ]

pub used_front : (pages : List (List Entry)) (n : ℕ) → IsTrue (list_all is_used_page pages) → IsTrue (list_all is_used_page (take n pages))
used_front [] zero h = refl
used_front [] (suc n) h = refl
used_front (p ∷ ps) zero h = refl
used_front (p ∷ ps) (suc n) h = let parts = and_parts (is_used_page p) (list_all is_used_page ps) h in and_from _ _ parts.0 (used_front ps n parts.1)

pub used_behind : (pages : List (List Entry)) (n : ℕ) → IsTrue (list_all is_used_page pages) → IsTrue (list_all is_used_page (drop n pages))
used_behind [] zero h = refl
used_behind [] (suc n) h = refl
used_behind (p ∷ ps) zero h = h
used_behind (p ∷ ps) (suc n) h = used_behind ps n (and_parts (is_used_page p) (list_all is_used_page ps) h).1

-- what the last row says of a page
pub ends_at : (test : List Value → Bool) (page : List Entry) (i : ℕ) (d : Entry) → i + 1 ≡ length page → ends_with test page ≡ test (get_or page i d).0
ends_at test [] i d last = absurd (omega arith)
ends_at test (e ∷ []) zero d last = refl
ends_at test (e ∷ []) (suc i) d last = absurd (omega arith)
ends_at test (e ∷ f ∷ es) zero d last = absurd (omega arith)
ends_at test (e ∷ f ∷ es) (suc i) d last = ends_at test (f ∷ es) i d (omega arith)

module _ (test : List Value → Bool) (falls : Falls test) where
  abbrev on_entry : Entry → Bool
  on_entry e = test e.0

  abbrev fails_on : Entry → Bool
  fails_on e = not (test e.0)

  -- a search finds the place up to which rows in order pass
  pub parted : (xs : List Entry) → is_map key_cmp key_of_entry xs ≡ true → IsPartitionedBy on_entry xs
  parted xs h i j d le below passes = elim (cases_lt i j) [
    | inl lt ↦ falls _ _ (less_from_rises key_cmp_total key_of_entry xs i j d h lt below) passes
    | inr ge ↦ let same : i ≡ j = omega arith in rw same passes
  ]

  fails_from : (e : Entry) (rest : List Entry) → is_map key_cmp key_of_entry (e ∷ rest) ≡ true → test e.0 ≡ false → list_all fails_on rest ≡ true
  fails_from e [] h fails = refl
  fails_from e (f ∷ rest) h fails =
      let less : key_cmp e.0 f.0 ≡ Less = less_from_test _ (and_parts _ _ h).0 in
      elim (cases_Bool (test f.0)) [
        | inl passes ↦ absurd (false≢true (sym fails ∙ falls e.0 f.0 less passes))
        | inr later ↦ and_from _ _ (ap not later) (fails_from f rest (and_parts _ _ h).1 later)
      ]

  -- where a page's last row fails, all rows behind the page do
  fails_behind : (p rest : List Entry) → is_map key_cmp key_of_entry (p ++ rest) ≡ true → ends_with test p ≡ false → list_all fails_on rest ≡ true
  fails_behind [] rest h fails = absurd (false≢true (sym fails))
  fails_behind (e ∷ []) rest h fails = fails_from e rest h fails
  fails_behind (e ∷ f ∷ es) rest h fails = fails_behind (f ∷ es) rest (and_parts _ _ h).1 fails

  -- where it passes, all rows of the page do
  passes_before : (p : List Entry) → is_map key_cmp key_of_entry p ≡ true → ends_with test p ≡ true → list_all on_entry p ≡ true
  passes_before [] h passes = refl
  passes_before (e ∷ []) h passes = and_from _ _ passes refl
  passes_before (e ∷ f ∷ es) h passes =
      let rest = passes_before (f ∷ es) (and_parts _ _ h).1 passes in
      and_from _ _ (falls e.0 f.0 (less_from_test _ (and_parts _ _ h).0) (and_parts _ _ rest).0) rest

  end_fails : (p : List Entry) → is_used_page p ≡ true → list_all fails_on p ≡ true → ends_with test p ≡ false
  end_fails [] used all = absurd (false≢true used)
  end_fails (e ∷ es) used all = last_fails e es all
    where
      last_fails : (e : Entry) (es : List Entry) → list_all fails_on (e ∷ es) ≡ true → ends_with test (e ∷ es) ≡ false
      last_fails e [] all = elim (cases_Bool (test e.0)) [
        | inl passes ↦ absurd (false≢true (sym (ap not passes) ∙ (and_parts _ _ all).0))
        | inr fails ↦ fails
      ]
      last_fails e (f ∷ es) all = last_fails f es (and_parts _ _ all).1

  page_fails : (pages : List (List Entry)) (j : ℕ) (d : List Entry) → IsTrue (list_all is_used_page pages) → list_all fails_on (rows_of pages) ≡ true → j < length pages → ends_with test (get_or pages j d) ≡ false
  page_fails [] j d used all below = absurd (omega arith)
  page_fails (p ∷ ps) zero d used all below =
      end_fails p (and_parts (is_used_page p) (list_all is_used_page ps) used).0 (and_parts _ _ (sym (list_all-append fails_on p (rows_of ps)) ∙ all)).0
  page_fails (p ∷ ps) (suc j) d used all below =
      page_fails ps j d (and_parts (is_used_page p) (list_all is_used_page ps) used).1 (and_parts _ _ (sym (list_all-append fails_on p (rows_of ps)) ∙ all)).1 (omega arith)

  -- a search finds the place up to which the last rows of pages pass
  pub pages_parted : (pages : List (List Entry)) → is_map key_cmp key_of_entry (rows_of pages) ≡ true → IsTrue (list_all is_used_page pages) → IsPartitionedBy (ends_with test) pages
  pages_parted [] h used i j d le below passes = absurd (omega arith)
  pages_parted (p ∷ ps) h used zero zero d le below passes = passes
  pages_parted (p ∷ ps) h used (suc i) zero d le below passes = absurd (omega arith)
  pages_parted (p ∷ ps) h used zero (suc j) d le below passes = elim (cases_Bool (ends_with test p)) [
    | inl first ↦ first
    | inr fails ↦ absurd (false≢true (sym (page_fails ps j d (and_parts (is_used_page p) (list_all is_used_page ps) used).1 (fails_behind p (rows_of ps) h fails) (omega arith)) ∙ passes))
  ]
  pages_parted (p ∷ ps) h used (suc i) (suc j) d le below passes =
      pages_parted ps (rises_right key_cmp_total key_of_entry p (rows_of ps) h) (and_parts (is_used_page p) (list_all is_used_page ps) used).1 i j d (omega arith) (omega arith) passes

  abbrev ArePages : List (List Entry) → ℕ → Type 0
  ArePages pages n = IsPartitionPoint (λ page. ends_with test page ≡ true) (λ page. ends_with test page ≡ false) pages n

  later : (p : List Entry) (ps : List (List Entry)) (n : ℕ) → ArePages (p ∷ ps) (suc n) → ArePages ps n
  later p ps n at = (λ k d low high. at.0 (suc k) d (omega arith) (omega arith), λ k d low high. at.1 (suc k) d (omega arith) (omega arith))

  -- the front of the first of some pages
  abbrev pub front_of : List (List Entry) → List Entry
  front_of [] = []
  front_of (p ∷ ps) = filter on_entry p

  -- the rows that pass are those of whole pages, and a front of the next
  pub up_to : (pages : List (List Entry)) (n : ℕ) → is_map key_cmp key_of_entry (rows_of pages) ≡ true → ArePages pages n → rows_of (take n pages) ++ front_of (drop n pages) ≡ filter on_entry (rows_of pages)
  up_to [] zero h at = refl
  up_to [] (suc n) h at = refl
  up_to (p ∷ ps) zero h at =
      let none = none_kept on_entry (rows_of ps) (fails_behind p (rows_of ps) h (at.1 0 p (omega arith) (omega arith))) in
      sym (filter-append on_entry p (rows_of ps) ∙ ap (λ zs. filter on_entry p ++ zs) none ∙ append-nil (filter on_entry p))
  up_to (p ∷ ps) (suc n) h at =
      let whole = filter_all on_entry p (passes_before p (rises_left key_cmp_total key_of_entry p (rows_of ps) h) (at.0 0 p (omega arith) (omega arith))) in
      let rest = up_to ps n (rises_right key_cmp_total key_of_entry p (rows_of ps) h) (later p ps n at) in
      append_assoc p (rows_of (take n ps)) (front_of (drop n ps)) ∙ ap (λ zs. p ++ zs) rest
      ∙ sym (filter-append on_entry p (rows_of ps) ∙ ap (λ zs. zs ++ filter on_entry (rows_of ps)) whole)

  -- what fails of the first of some pages, and what is behind it
  abbrev pub rest_of : List (List Entry) → List Entry → List Entry
  rest_of [] last = filter fails_on last
  rest_of (p ∷ ps) last = filter fails_on p ++ (rows_of ps ++ last)

  -- the rows that fail are those of a page from a place on, and all behind it
  pub from_on : (pages : List (List Entry)) (last : List Entry) (n : ℕ) → is_map key_cmp key_of_entry (rows_of pages ++ last) ≡ true → ArePages pages n → rest_of (drop n pages) last ≡ filter fails_on (rows_of pages ++ last)
  from_on [] last zero h at = refl
  from_on [] last (suc n) h at = refl
  from_on (p ∷ ps) last zero h at =
      let behind = rows_of ps ++ last in
      let in_order : is_map key_cmp key_of_entry (p ++ behind) ≡ true = subst (λ xs. is_map key_cmp key_of_entry xs ≡ true) (append_assoc p (rows_of ps) last) h in
      let all = filter_all fails_on behind (fails_behind p behind in_order (at.1 0 p (omega arith) (omega arith))) in
      sym (ap (filter fails_on) (append_assoc p (rows_of ps) last) ∙ filter-append fails_on p behind ∙ ap (λ zs. filter fails_on p ++ zs) all)
  from_on (p ∷ ps) last (suc n) h at =
      let behind = rows_of ps ++ last in
      let in_order : is_map key_cmp key_of_entry (p ++ behind) ≡ true = subst (λ xs. is_map key_cmp key_of_entry xs ≡ true) (append_assoc p (rows_of ps) last) h in
      let none = none_left on_entry p (passes_before p (rises_left key_cmp_total key_of_entry p behind in_order) (at.0 0 p (omega arith) (omega arith))) in
      let rest = from_on ps last n (rises_right key_cmp_total key_of_entry p behind in_order) (later p ps n at) in
      rest ∙ sym (ap (filter fails_on) (append_assoc p (rows_of ps) last) ∙ filter-append fails_on p behind ∙ ap (λ zs. zs ++ filter fails_on behind) none)

  module _ (pages : List (List Entry)) (last : List Entry) (n : ℕ) (h : is_map key_cmp key_of_entry (rows_of pages ++ last) ≡ true) (at : ArePages pages n) where
    -- only what is behind the pages has rows that fail
    pub from_last : n ≡ length pages → filter fails_on last ≡ filter fails_on (rows_of pages ++ last)
    from_last end = ap (λ ps. rest_of ps last) (sym (drop_all n pages (omega arith))) ∙ from_on pages last n h at

    pub from_page : (page : List Entry) → n < length pages → page ≡ get_or pages n [] → filter fails_on page ++ (rows_of (take (length pages - (n + 1)) (drop (n + 1) pages)) ++ last) ≡ filter fails_on (rows_of pages ++ last)
    from_page page within is =
        ap (λ (ps : List (List Entry)). filter fails_on page ++ (rows_of ps ++ last)) (take_all (length pages - (n + 1)) (drop (n + 1) pages) (omega (arith, length-drop (n + 1) pages)))
        ∙ ap (λ (p : List Entry). filter fails_on p ++ (rows_of (drop (n + 1) pages) ++ last)) is
        ∙ ap (λ ps. rest_of ps last) (sym (drop_more pages n [] within))
        ∙ from_on pages last n h at

  module _ (pages : List (List Entry)) (n : ℕ) (h : is_map key_cmp key_of_entry (rows_of pages) ≡ true) (at : ArePages pages n) where
    -- all rows of all pages pass
    pub up_to_end : n ≡ length pages → rows_of pages ++ [] ≡ filter on_entry (rows_of pages)
    up_to_end end =
        ap (λ ps. rows_of ps ++ []) (sym (take_all n pages (omega arith)))
        ∙ ap (λ ps. rows_of (take n pages) ++ front_of ps) (sym (drop_all n pages (omega arith)))
        ∙ up_to pages n h at

    pub up_to_page : (page : List Entry) → n < length pages → page ≡ get_or pages n [] → rows_of (take n pages) ++ filter on_entry page ≡ filter on_entry (rows_of pages)
    up_to_page page within is =
        ap (λ (p : List Entry). rows_of (take n pages) ++ filter on_entry p) is
        ∙ ap (λ ps. rows_of (take n pages) ++ front_of ps) (sym (drop_more pages n [] within))
        ∙ up_to pages n h at

  -- a page whose last row fails has a row that fails
  pub some_fail : (p : List Entry) → ends_with test p ≡ false → filter fails_on p ≡ [] → ⊥
  some_fail [] fails none = false≢true (sym fails)
  some_fail (e ∷ []) fails none = let kept : e ∷ [] ≡ [] = rw fails at none in cc
  some_fail (e ∷ f ∷ es) fails none = elim (cases_Bool (test e.0)) [
    | inl passes ↦ let rest : filter fails_on (f ∷ es) ≡ [] = rw passes at none in some_fail (f ∷ es) fails rest
    | inr first ↦ let kept : e ∷ filter fails_on (f ∷ es) ≡ [] = rw first at none in cc
  ]
