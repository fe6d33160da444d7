-- Marks are made in a map by granule, and taken back.
use Rattle.std.proofs.Common.{◌≡◌, ℕ, ◌+◌, ◌<◌, Bool, true, false, not, cond, List, [], ◌∷◌, ◌++◌, map, filter, find, take, drop, length, suc, ◌&&◌, ◌||◌, get_or, Less, Equal, Greater, Option, Some, None, option_map, is_eq, is_lt, is_some, refl, sym, ap, ap₂, ◌∙◌, inl, inr, append_assoc, take-append-drop, drop-cons}
use Rattle.std.specs.BTreeMap.{insert_entry, is_at}
use Rattle.std.specs.Prelude.{filter_map}
use Rattle.std.specs.List.{cons_option, list_any, list_all}
use Rattle.std.specs.Option.{option_to_list}
use Rattle.std.specs.List.Sorted.{IsStrictlySortedBy}
use Rattle.std.specs.Map.{keys_of, lookup, remove_entry}
use Rattle.std.specs.Ordering.{match_ordering}
use Rattle.std.proofs.lemmas.Bool.{and_parts, and_from, or_parts, or_from, or_right, cases_Bool, not_from_false, not-true}
use Rattle.std.proofs.lemmas.Cmp.{tied_itself}
use Rattle.std.proofs.lemmas.List.Elements.{filter_agree, filter_more}
use Rattle.std.proofs.lemmas.List.Folds.{list_all-append, list_all-map, list_any-append}
use Rattle.std.proofs.lemmas.Grind.{fold-append}
use Rattle.std.proofs.lemmas.List.{append-nil, map-append, take_more}
use Rattle.bf_base.specs.declared.granule.Granule.{Granule}
use Rattle.bf_base.specs.Lists.{has, placed, with_placed, in_order, rises}
use Rattle.bf_base.proofs.Apart.{are_apart, apart_left, filter-with_placed, in_order-rises}
use Rattle.bf_base.proofs.Order.{list_any-map, equal_from_test, less_from_test, symmetric, turned_less, rises_tail, rises_skip, rises_alike, list_all-with_placed, list_any-with_placed}
use Rattle.bf_base.proofs.Parts.{filter_all, filter-filter}
use Rattle.bf_sql.specs.migrations.Granules.{same_granule}
use Rattle.bf_sql.specs.migrations.Lazy.{DoneGranule, done_by}
use Rattle.bf_txn.proofs.KeyWrites.{rises_from_sorted}
use Rattle.bf_store.specs.ByUnit.{Numbered, marks_of}
use Rattle.bf_store.specs.Marks.{AreFresh, granules_in, left_of, marked, number_in, numbered_of, unmarked, with_mark}
use Rattle.bf_store.specs.States.{granule_cmp}
use Rattle.bf_store.proofs.Granules.{granule_cmp_total, granule_ties}

abbrev pub granule_of : DoneGranule → Granule
granule_of d = d.granule

pub looked_up : (es : List Numbered) (g : Granule) → lookup (is_at (granule_cmp g)) es ≡ number_in (marks_of es) g
looked_up [] g = refl
looked_up (e ∷ es) g =
    let tie : is_eq (granule_cmp g e.0) ≡ same_granule e.0 g = symmetric granule_cmp_total g e.0 ∙ sym (granule_ties e.0 g) in
    ap₂ (λ b o. cond b (Some e.1) o) tie (looked_up es g)
    ∙ elim (same_granule e.0 g) as (λ b. cond b (Some e.1) (number_in (marks_of es) g) ≡ option_map (λ (d : DoneGranule). d.number) (cond b (Some (record { granule = e.0; number = e.1 })) (find (λ d. same_granule d.granule g) (marks_of es)))) [ true ↦ refl | false ↦ refl ]

pub seen_keys : (es : List Numbered) → granules_in (marks_of es) ≡ keys_of es
seen_keys [] = refl
seen_keys (e ∷ es) = ap (λ gs. e.0 ∷ gs) (seen_keys es)

-- a map is in order
pub in_order_if_sorted : (es : List Numbered) → IsStrictlySortedBy granule_cmp (keys_of es) → rises granule_cmp (granules_in (marks_of es)) ≡ true
in_order_if_sorted es sorted = ap (rises granule_cmp) (seen_keys es) ∙ rises_from_sorted granule_cmp_total es sorted

-- a granule that is not there
pub placed_if_absent : (es : List Numbered) (g : Granule) (n : ℕ) → lookup (is_at (granule_cmp g)) es ≡ None
    → marks_of (insert_entry granule_cmp es g n) ≡ placed granule_cmp granule_of (marks_of es) (done_by n g)
placed_if_absent [] g n none = refl
placed_if_absent (e ∷ es) g n none =
    elim (granule_cmp g e.0) as (λ r. cond (is_eq r) (Some e.1) (lookup (is_at (granule_cmp g)) es) ≡ None
    → marks_of (match_ordering r ((g, n) ∷ e ∷ es) ((e.0, n) ∷ es) (e ∷ insert_entry granule_cmp es g n)) ≡ cond (is_lt r) (done_by n g ∷ marks_of (e ∷ es)) (record { granule = e.0; number = e.1 } ∷ placed granule_cmp granule_of (marks_of es) (done_by n g))) [
      | Less ↦ λ h. refl
      | Equal ↦ λ h. absurd cc
      | Greater ↦ λ h. ap (λ (ds : List DoneGranule). record { granule = e.0; number = e.1 } ∷ ds) (placed_if_absent es g n h)
    ] none

pub none_if_fresh : (es : List Numbered) (g : Granule) → has same_granule (granules_in (marks_of es)) g ≡ false → lookup (is_at (granule_cmp g)) es ≡ None
none_if_fresh [] g fresh = refl
none_if_fresh (e ∷ es) g fresh =
    let parts = or_parts _ _ fresh in
    let apart : is_eq (granule_cmp g e.0) ≡ false = sym (granule_ties g e.0) ∙ parts.0 in
    rw apart (none_if_fresh es g parts.1)

-- a granule leaves
abbrev pub without : Granule → List DoneGranule → List DoneGranule
without g ds = filter (λ d. not (same_granule d.granule g)) ds

none_behind : (g : Granule) (es : List Numbered) → rises granule_cmp (g ∷ keys_of es) ≡ true → without g (marks_of es) ≡ marks_of es
none_behind g [] h = refl
none_behind g (e ∷ es) h =
    let less : granule_cmp g e.0 ≡ Less = less_from_test _ (and_parts _ _ h).0 in
    let later : same_granule e.0 g ≡ false = granule_ties e.0 g ∙ ap is_eq (turned_less granule_cmp_total g e.0 less) in
    rw later (ap (λ (ds : List DoneGranule). record { granule = e.0; number = e.1 } ∷ ds) (none_behind g es (rises_skip granule_cmp_total g e.0 (keys_of es) h)))

pub removed : (g : Granule) (es : List Numbered) → rises granule_cmp (keys_of es) ≡ true → marks_of (remove_entry (is_at (granule_cmp g)) es) ≡ without g (marks_of es)
removed g [] h = refl
removed g (e ∷ es) h = elim (cases_Bool (is_eq (granule_cmp g e.0))) [
  | inl tied ↦
      let same : same_granule e.0 g ≡ true = granule_ties e.0 g ∙ symmetric granule_cmp_total e.0 g ∙ tied in
      let from : rises granule_cmp (g ∷ keys_of es) ≡ true = rises_alike granule_cmp_total e.0 g (keys_of es) (equal_from_test _ (symmetric granule_cmp_total e.0 g ∙ tied)) h in
      rw (tied, same) (sym (none_behind g es from))
  | inr apart ↦
      let other : same_granule e.0 g ≡ false = granule_ties e.0 g ∙ symmetric granule_cmp_total e.0 g ∙ apart in
      rw (apart, other) (ap (λ (ds : List DoneGranule). record { granule = e.0; number = e.1 } ∷ ds) (removed g es (rises_tail granule_cmp_total e.0 (keys_of es) h)))
]

-- one more mark
pub marked_more : (done : List DoneGranule) (gs : List Granule) (g : Granule) (n : ℕ)
    → marked done (gs ++ g ∷ []) n ≡ placed granule_cmp granule_of (marked done gs n) (done_by n g)
marked_more done gs g n =
    ap (λ (ds : List DoneGranule). in_order granule_cmp granule_of (done ++ ds)) (map-append (done_by n) gs (g ∷ []))
    ∙ ap (in_order granule_cmp granule_of) (sym (append_assoc done (map (done_by n) gs) (done_by n g ∷ [])))
    ∙ fold-append (placed granule_cmp granule_of) [] (done ++ map (done_by n) gs) (done_by n g ∷ [])

has_seen : (ds : List DoneGranule) (g : Granule) → has same_granule (granules_in ds) g ≡ list_any (λ d. same_granule g d.granule) ds
has_seen ds g = list_any-map (same_granule g) granule_of ds

pub has_marked : (done : List DoneGranule) (gs : List Granule) (g : Granule) (n : ℕ) → has same_granule (granules_in (marked done gs n)) g ≡ has same_granule (granules_in done ++ gs) g
has_marked done gs g n =
    let test : DoneGranule → Bool = λ d. same_granule g d.granule in
    has_seen (marked done gs n) g
    ∙ list_any-with_placed granule_cmp_total granule_of test [] (done ++ map (done_by n) gs)
    ∙ list_any-append test done (map (done_by n) gs)
    ∙ ap₂ (λ b c. b || c) (sym (has_seen done g)) (list_any-map test (done_by n) gs)
    ∙ sym (list_any-append (same_granule g) (granules_in done) gs)

-- what is true of each granule is true of those that are marked
pub each_marked : (test : Granule → Bool) (done : List DoneGranule) (gs : List Granule) (n : ℕ) → list_all test (granules_in done) ≡ true → list_all test gs ≡ true → list_all test (granules_in (marked done gs n)) ≡ true
each_marked test done gs n before new =
    list_all-map test granule_of (marked done gs n)
    ∙ list_all-with_placed granule_cmp_total granule_of (λ d. test d.granule) [] (done ++ map (done_by n) gs)
    ∙ list_all-append (λ (d : DoneGranule). test d.granule) done (map (done_by n) gs)
    ∙ and_from _ _ (sym (list_all-map test granule_of done) ∙ before) (list_all-map (λ (d : DoneGranule). test d.granule) (done_by n) gs ∙ new)

same_back : (g h : Granule) → same_granule g h ≡ same_granule h g
same_back g h = granule_ties g h ∙ symmetric granule_cmp_total g h ∙ sym (granule_ties h g)

-- of granules that differ none comes before its place
apart_before : (gs : List Granule) (g : Granule) (hs : List Granule) → are_apart same_granule (gs ++ g ∷ hs) ≡ true → has same_granule gs g ≡ false
apart_before [] g hs apart = refl
apart_before (k ∷ gs) g hs apart =
    let none : has same_granule (gs ++ g ∷ hs) k ≡ false = not-true _ (and_parts _ _ apart).0 in
    let behind = or_parts _ _ (sym (list_any-append (same_granule k) gs (g ∷ hs)) ∙ none) in
    or_from _ _ (same_back g k ∙ (or_parts _ _ behind.1).0) (apart_before gs g hs (and_parts _ _ apart).1)

module _ (done : List DoneGranule) (gs : List Granule) (fresh : AreFresh done gs) where
  module _ (i : ℕ) (g : Granule) (in_range : i < length gs) (is : g ≡ get_or gs i g) where
    -- a granule at its place
    split : gs ≡ take i gs ++ g ∷ drop (suc i) gs
    split = sym (take-append-drop i gs) ∙ ap (λ hs. take i gs ++ hs) (drop-cons gs i g in_range ∙ ap (λ (h : Granule). h ∷ drop (suc i) gs) (sym is))

    pub fresh_next : (n : ℕ) → has same_granule (granules_in (marked done (take i gs) n)) g ≡ false
    fresh_next n =
        has_marked done (take i gs) g n
        ∙ apart_before (granules_in done ++ take i gs) g (drop (suc i) gs)
        (ap (are_apart same_granule) (append_assoc (granules_in done) (take i gs) (g ∷ drop (suc i) gs) ∙ ap (λ hs. granules_in done ++ hs) (sym split)) ∙ fresh)

    pub marked_next : (n : ℕ) → marked done (take (i + 1) gs) n ≡ with_mark (marked done (take i gs) n) (done_by n g)
    marked_next n =
        ap (λ hs. marked done hs n) (take_more gs i g in_range ∙ ap (λ (h : Granule). take i gs ++ h ∷ []) (sym is))
        ∙ marked_more done (take i gs) g n

  pub fresh_first : (i : ℕ) → AreFresh done (take i gs)
  fresh_first i =
      apart_left same_granule (granules_in done ++ take i gs) (drop i gs)
      (ap (are_apart same_granule) (append_assoc (granules_in done) (take i gs) (drop i gs) ∙ ap (λ hs. granules_in done ++ hs) (take-append-drop i gs)) ∙ fresh)

-- a granule has a number where it is there
pub is_some-number_in : (done : List DoneGranule) (g : Granule) → is_some (number_in done g) ≡ has same_granule (granules_in done) g
is_some-number_in [] g = refl
is_some-number_in (d ∷ done) g = elim (same_granule d.granule g) as (λ b. is_some (option_map (λ (d : DoneGranule). d.number) (cond b (Some d) (find (λ d. same_granule d.granule g) done))) ≡ (b || has same_granule (granules_in done) g)) [
  | true ↦ refl
  | false ↦ is_some-number_in done g
]
    ∙ ap (λ b. b || has same_granule (granules_in done) g) (same_back d.granule g)

-- what was there is still there
pub still_marked : (done : List DoneGranule) (gs : List Granule) (n : ℕ) (g : Granule) → has same_granule (granules_in done) g ≡ true → has same_granule (granules_in (marked done gs n)) g ≡ true
still_marked done gs n g there = has_marked done gs g n ∙ list_any-append (same_granule g) (granules_in done) gs ∙ ap (λ b. b || has same_granule gs g) there

-- what is marked is taken back
all_named : (gs hs : List Granule) (n : ℕ) → ((g : Granule) → has same_granule hs g ≡ true → has same_granule gs g ≡ true) → list_any (λ d. not (has same_granule gs d.granule)) (map (done_by n) hs) ≡ false
all_named gs [] n within = refl
all_named gs (h ∷ hs) n within =
    or_from _ _ (ap not (within h (ap (λ b. b || has same_granule hs h) (same_itself h))))
    (all_named gs hs n (λ g there. within g (or_right (same_granule g h) (has same_granule hs g) there)))
  where
    same_itself : (g : Granule) → same_granule g g ≡ true
    same_itself g = granule_ties g g ∙ ap is_eq (tied_itself granule_cmp_total g)

none_named : (done : List DoneGranule) (gs : List Granule) → AreFresh done gs → list_all (λ d. not (has same_granule gs d.granule)) done ≡ true
none_named [] gs fresh = refl
none_named (d ∷ done) gs fresh =
    let none : has same_granule (granules_in done ++ gs) d.granule ≡ false = not-true _ (and_parts _ _ fresh).0 in
    let parts = or_parts _ _ (sym (list_any-append (same_granule d.granule) (granules_in done) gs) ∙ none) in
    and_from _ _ (not_from_false _ parts.1) (none_named done gs (and_parts _ _ fresh).1)

pub taken_back : (done : List DoneGranule) (gs : List Granule) (n : ℕ) → rises granule_cmp (granules_in done) ≡ true → AreFresh done gs
    → unmarked (marked done gs n) gs ≡ done
taken_back done gs n sorted fresh =
    let test : DoneGranule → Bool = λ d. not (has same_granule gs d.granule) in
    ap (filter test) (fold-append (placed granule_cmp granule_of) [] done (map (done_by n) gs)
    ∙ ap (λ ds. with_placed granule_cmp granule_of ds (map (done_by n) gs)) (in_order-rises granule_cmp_total granule_of done sorted))
    ∙ filter-with_placed granule_cmp_total granule_of test done (map (done_by n) gs) (all_named gs gs n (λ g there. there))
    ∙ filter_all test done (none_named done gs fresh)

pub unmarked_more : (done : List DoneGranule) (gs : List Granule) (g : Granule) → without g (unmarked done gs) ≡ unmarked done (gs ++ g ∷ [])
unmarked_more done gs g =
    filter-filter (λ d. not (same_granule d.granule g)) (λ d. not (has same_granule gs d.granule)) done
    ∙ filter_agree _ _ (λ d. not_either (has same_granule gs d.granule) (same_granule d.granule g) ∙ ap not (sym (list_any-append (same_granule d.granule) gs (g ∷ [])))) done
  where
    not_either : (a b : Bool) → (not a && not b) ≡ not (a || (b || false))
    not_either true b = refl
    not_either false true = refl
    not_either false false = refl

pub unmarked_none : (done : List DoneGranule) → unmarked done [] ≡ done
unmarked_none done = filter_all (λ d. true) done (always done)
  where
    always : (ds : List DoneGranule) → list_all (λ d. true) ds ≡ true
    always [] = refl
    always (d ∷ ds) = always ds

pub marked_none : (done : List DoneGranule) → rises granule_cmp (granules_in done) ≡ true → (n : ℕ) → marked done [] n ≡ done
marked_none done sorted n = ap (in_order granule_cmp granule_of) (append-nil done) ∙ in_order-rises granule_cmp_total granule_of done sorted

alone : (o : Option (Granule × ℕ)) → cons_option o [] ≡ option_to_list o
alone None = refl
alone (Some x) = refl

further : (o : Option (Granule × ℕ)) (xs ys : List (Granule × ℕ)) → cons_option o (xs ++ ys) ≡ cons_option o xs ++ ys
further None xs ys = refl
further (Some x) xs ys = refl

-- those with numbers, with one more granule
pub numbered_more : (done : List DoneGranule) (gs : List Granule) (i : ℕ) (g : Granule) → i < length gs → g ≡ get_or gs i g
    → numbered_of done (take (i + 1) gs) ≡ numbered_of done (take i gs) ++ option_to_list (option_map (λ n. (g, n)) (number_in done g))
numbered_more done gs i g in_range is =
    ap (numbered_of done) (take_more gs i g in_range ∙ ap (λ (h : Granule). take i gs ++ h ∷ []) (sym is)) ∙ behind (take i gs)
  where
    found : Granule → Option (Granule × ℕ)
    found h = option_map (λ n. (h, n)) (number_in done h)

    behind : (hs : List Granule) → filter_map found (hs ++ g ∷ []) ≡ filter_map found hs ++ option_to_list (found g)
    behind [] = alone (found g)
    behind (h ∷ hs) = ap (cons_option (found h)) (behind hs) ∙ further (found h) (filter_map found hs) (option_to_list (found g))

-- those that have not moved, with one more granule
pub left_more : (done : List DoneGranule) (gs : List Granule) (i : ℕ) (g : Granule) → i < length gs → g ≡ get_or gs i g
    → (moved : Bool) → is_some (number_in done g) ≡ moved → left_of done (take (i + 1) gs) ≡ left_of done (take i gs) ++ cond moved [] (g ∷ [])
left_more done gs i g in_range is moved known =
    filter_more waits gs i g in_range
    ∙ ap (λ (h : Granule). left_of done (take i gs) ++ cond (waits h) (h ∷ []) []) (sym is)
    ∙ ap (λ (b : Bool). left_of done (take i gs) ++ cond (not b) (g ∷ []) []) (sym (is_some-number_in done g) ∙ known)
    ∙ turned moved
  where
    waits : Granule → Bool
    waits h = not (has same_granule (granules_in done) h)

    turned : (b : Bool) → left_of done (take i gs) ++ cond (not b) (g ∷ []) [] ≡ left_of done (take i gs) ++ cond b [] (g ∷ [])
    turned true = refl
    turned false = refl
