-- Heaps by the names of their tables, of which one is changed.
use Rattle.std.proofs.Common.{◌≡◌, ℕ, ◌+◌, ◌≤◌, true, false, cond, List, [], ◌∷◌, map, Less, Equal, Some, None, refl, sym, ap, ◌∙◌, inl, inr, arith, is_eq, suc}
use Rattle.std.specs.BTreeMap.{is_at}
use Rattle.std.specs.List.{All, AllByRecursion}
use Rattle.std.specs.List.Sorted.{IsStrictlySortedBy}
use Rattle.std.specs.Map.{keys_of, lookup, set_value}
use Rattle.std.proofs.lemmas.Bool.{cases_Bool, false≢true}
use Rattle.std.proofs.lemmas.List.Elements.{All-cons}
use Rattle.std.proofs.lemmas.Map.Keys.{sorted_head, sorted_tail}
use Rattle.std.proofs.lemmas.Option.{same_Some}
use Rattle.bf_base.specs.Lists.{name_cmp, same_name}
use Rattle.bf_base.proofs.Names.{name_cmp_total, same_name-tie}
use Rattle.bf_base.proofs.Order.{equal_from_test}
use Rattle.bf_base.proofs.Ties.{name_ties}
use Rattle.bf_heap.specs.Heaps.{Entry, Rows}
use Rattle.bf_live.specs.Commits.{HasRoomIn, LeaveRoom}
use Rattle.bf_live.specs.Live.{NamedHeap, NamedRows, rows_in}

pub is_same : (a b : List ℕ) → a ≡ b → same_name a b ≡ true
is_same a b same = same_name-tie a b ∙ ap is_eq ((name_ties a b).1 same)

pub is_one : (a b : List ℕ) → same_name a b ≡ true → a ≡ b
is_one a b same = (name_ties a b).0 (equal_from_test _ (sym (same_name-tie a b) ∙ same))

module _ (n : List ℕ) where
  -- no heap is that of the name
  abbrev pub Apart : List NamedHeap → Type 0
  Apart heaps = AllByRecursion (λ (heap : NamedHeap). same_name n heap.0 ≡ false) heaps

  pub apart_nowhere : (heaps : List NamedHeap) → lookup (is_at (name_cmp n)) heaps ≡ None → Apart heaps
  apart_nowhere [] none = tt
  apart_nowhere (h ∷ hs) none = elim (cases_Bool (is_eq (name_cmp n h.0))) [
    | inl tied ↦
        let found : Some h.1 ≡ None = rw tied at none in
        absurd cc
    | inr apart ↦
        let rest : lookup (is_at (name_cmp n)) hs ≡ None = rw apart at none in
        (same_name-tie n h.0 ∙ apart, apart_nowhere hs rest)
  ]

  behind : (k : List ℕ) (heaps : List NamedHeap) → name_cmp n k ≡ Equal → AllByRecursion (λ q. name_cmp k q ≡ Less) (keys_of heaps) → Apart heaps
  behind k [] tied all = tt
  behind k (h ∷ hs) tied all =
      let less : name_cmp n h.0 ≡ Less = name_cmp_total.congr n k h.0 tied ∙ all.0 in
      (same_name-tie n h.0 ∙ ap is_eq less, behind k hs tied all.1)

  -- nor is one behind that of the name
  apart_behind : (h : NamedHeap) (hs : List NamedHeap) → IsStrictlySortedBy name_cmp (keys_of (h ∷ hs)) → is_eq (name_cmp n h.0) ≡ true → Apart hs
  apart_behind h hs sorted tied = behind h.0 hs (equal_from_test _ tied) (sorted_head name_cmp h.0 (keys_of hs) sorted)

  -- the rows of the name's table, changed
  abbrev pub changed : (List Entry → List Entry) → List NamedRows → List NamedRows
  changed f rows = map (λ (r : NamedRows). (r.0, cond (same_name n r.0) (f r.1) r.1)) rows

  pub rows_apart : (f : List Entry → List Entry) (heaps : List NamedHeap) → Apart heaps → changed f (rows_in heaps) ≡ rows_in heaps
  rows_apart f [] apart = refl
  rows_apart f (h ∷ hs) apart = rw (apart.0, rows_apart f hs apart.1) refl

  pub unchanged : (rows : List NamedRows) → changed (λ es. es) rows ≡ rows
  unchanged [] = refl
  unchanged (r ∷ rs) = elim (cases_Bool (same_name n r.0)) [
    | inl same ↦ rw (same, unchanged rs) refl
    | inr other ↦ rw (other, unchanged rs) refl
  ]

  pub room_same : (taken : List ℕ → ℕ) (heaps : List NamedHeap) → LeaveRoom taken heaps heaps
  room_same taken [] = tt
  room_same taken (h ∷ hs) = ((refl, omega arith), room_same taken hs)

  pub room_apart : (count : ℕ) (heaps : List NamedHeap) → Apart heaps → All (HasRoomIn n count) heaps
  room_apart count [] apart = λ k d below. absurd (omega arith)
  room_apart count (h ∷ hs) apart =
      All-cons (HasRoomIn n count) h hs (λ same. absurd (false≢true (sym apart.0 ∙ is_same n h.0 (sym same)))) (room_apart count hs apart.1)

  -- a heap has the room that is said of the name's
  pub room_found : (count : ℕ) (heaps : List NamedHeap) (heap : Rows) → All (HasRoomIn n count) heaps → lookup (is_at (name_cmp n)) heaps ≡ Some heap → count ≤ heap.spare
  room_found count [] heap all found = absurd cc
  room_found count (h ∷ hs) heap all found = elim (cases_Bool (is_eq (name_cmp n h.0))) [
    | inl tied ↦
        let here : Some h.1 ≡ Some heap = rw tied at found in
        let same : h.0 ≡ n = sym ((name_ties n h.0).0 (equal_from_test _ tied)) in
        omega (arith, all 0 h (omega arith) same, ap (λ (r : Rows). r.spare) (same_Some h.1 heap here))
    | inr apart ↦
        let rest : lookup (is_at (name_cmp n)) hs ≡ Some heap = rw apart at found in
        room_found count hs heap (λ k d below. all (suc k) d (omega arith)) rest
  ]

  -- another heap in the place of the name's
  module _ (heap now : Rows) where
    abbrev pub with_heap : List NamedHeap → List NamedHeap
    with_heap heaps = set_value (is_at (name_cmp n)) heaps now

    pub rows_changed : (f : List Entry → List Entry) → now.entries ≡ f heap.entries → (heaps : List NamedHeap) → IsStrictlySortedBy name_cmp (keys_of heaps) → lookup (is_at (name_cmp n)) heaps ≡ Some heap
        → rows_in (with_heap heaps) ≡ changed f (rows_in heaps)
    rows_changed f made [] sorted found = refl
    rows_changed f made (h ∷ hs) sorted found = elim (cases_Bool (is_eq (name_cmp n h.0))) [
      | inl tied ↦
          let here : Some h.1 ≡ Some heap = rw tied at found in
          let entries : now.entries ≡ f h.1.entries = made ∙ ap (λ (r : Rows). f r.entries) (sym (same_Some h.1 heap here)) in
          let same : same_name n h.0 ≡ true = same_name-tie n h.0 ∙ tied in
          let others = rows_apart f hs (apart_behind h hs sorted tied) in
          rw (tied, same, others, entries) refl
      | inr apart ↦
          let rest : lookup (is_at (name_cmp n)) hs ≡ Some heap = rw apart at found in
          let other : same_name n h.0 ≡ false = same_name-tie n h.0 ∙ apart in
          let others = rows_changed f made hs (sorted_tail name_cmp h.0 (keys_of hs) sorted) rest in
          rw (apart, other, others) refl
    ]

    pub room_left : (taken : List ℕ → ℕ) → heap.spare ≤ now.spare + taken n → (heaps : List NamedHeap) → lookup (is_at (name_cmp n)) heaps ≡ Some heap → LeaveRoom taken heaps (with_heap heaps)
    room_left taken left [] found = tt
    room_left taken left (h ∷ hs) found = elim (cases_Bool (is_eq (name_cmp n h.0))) [
      | inl tied ↦
          let here : Some h.1 ≡ Some heap = rw tied at found in
          let spare : h.1.spare ≡ heap.spare = ap (λ (r : Rows). r.spare) (same_Some h.1 heap here) in
          let own : taken n ≡ taken h.0 = ap taken ((name_ties n h.0).0 (equal_from_test _ tied)) in
          rw tied ((refl, omega (arith, left, spare, own)), room_same taken hs)
      | inr apart ↦
          let rest : lookup (is_at (name_cmp n)) hs ≡ Some heap = rw apart at found in
          rw apart ((refl, omega arith), room_left taken left hs rest)
    ]

    pub room_made : (count : ℕ) → count ≤ now.spare → (heaps : List NamedHeap) → IsStrictlySortedBy name_cmp (keys_of heaps) → All (HasRoomIn n count) (with_heap heaps)
    room_made count enough [] sorted = λ k d below. absurd (omega arith)
    room_made count enough (h ∷ hs) sorted = elim (cases_Bool (is_eq (name_cmp n h.0))) [
      | inl tied ↦ rw tied (All-cons (HasRoomIn n count) (h.0, now) hs (λ same. enough) (room_apart count hs (apart_behind h hs sorted tied)))
      | inr apart ↦
          let other : same_name n h.0 ≡ false = same_name-tie n h.0 ∙ apart in
          rw apart (All-cons (HasRoomIn n count) h (with_heap hs) (λ same. absurd (false≢true (sym other ∙ is_same n h.0 (sym same)))) (room_made count enough hs (sorted_tail name_cmp h.0 (keys_of hs) sorted)))
    ]
