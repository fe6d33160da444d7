-- Heaps under writes, table by table.
use Rattle.std.proofs.Common.{◌≡◌, ℕ, suc, ◌+◌, ◌≤◌, ◌⊎◌, true, false, cond, List, [], ◌∷◌, ◌++◌, map, fold, get_or, Less, Greater, Some, Option, unwrap_or, is_some, refl, sym, ap, ap₂, ◌∙◌, inl, inr, arith}
use Rattle.std.specs.BTreeMap.{is_at}
use Rattle.std.specs.List.{All, AllByRecursion}
use Rattle.std.specs.List.Sorted.{IsStrictlySortedBy}
use Rattle.std.specs.Map.{keys_of, lookup, values_of}
use Rattle.std.proofs.lemmas.Bool.{cases_Bool}
use Rattle.std.proofs.lemmas.Cmp.{tied_itself}
use Rattle.std.proofs.lemmas.Grind.{flat_map-append, fold-append}
use Rattle.std.proofs.lemmas.List.{append-nil, append_assoc, map-append}
use Rattle.std.proofs.lemmas.List.Sums.{sum_by-append}
use Rattle.std.proofs.lemmas.List.Elements.{All-cons, filter-append}
use Rattle.std.proofs.lemmas.Map.Keys.{sorted_head, sorted_tail}
use Rattle.bf_base.specs.Lists.{name_cmp, same_name}
use Rattle.bf_base.specs.declared.value.Value.{Value}
use Rattle.bf_base.proofs.Names.{name_cmp_total}
use Rattle.bf_base.proofs.Order.{turned_less}
use Rattle.bf_heap.specs.Heaps.{Entry}
use Rattle.bf_live.specs.Merged.{applied, applied_to, entries_under}
use Rattle.bf_txn.specs.declared.write.Write.{Write}
use Rattle.bf_txn.specs.Writes.{AreTables, KeyWrite, OfTable, all_writes, key_write_of, key_writes_to, writes_at, writes_in, writes_to}
use Rattle.bf_txn.proofs.Tables.{names_rise, written_to}
use Rattle.bf_live.specs.Commits.{HasRoom, HasRoomIn, HaveRoomFor, HaveRoomSoFar, KeepRoom, LeaveRoom, key_puts, put_by, puts, taken_by, with_writes, with_writes_to}
use Rattle.bf_live.specs.Live.{NamedHeap, NamedRows}
use Rattle.bf_live.proofs.Heaps.{is_one, is_same}

-- ---- the number of rows that writes put
puts_append : (first more : List Write) → puts (first ++ more) ≡ puts first + puts more
puts_append first more = sum_by-append (λ (v : Write). cond (is_some v.row) 1 0) first more

puts_in : (n : List ℕ) (ws : List KeyWrite) → puts (writes_in n ws) ≡ key_puts ws
puts_in n [] = refl
puts_in n (w ∷ ws) =
    let one = puts_append (record { table = n; key = w.0; row = w.1 } ∷ []) (writes_in n ws) in
    let own = sum_by-append (λ (row : Option (List Value)). cond (is_some row) 1 0) (w.1 ∷ []) (values_of ws) in
    omega (arith, one, own, puts_in n ws)

pub puts_of : (n : List ℕ) (writes : List Write) → key_puts (key_writes_to n writes) ≡ puts (writes_to n writes)
puts_of n writes = counted (writes_to n writes)
  where
    counted : (ws : List Write) → key_puts (map key_write_of ws) ≡ puts ws
    counted [] = refl
    counted (w ∷ ws) =
        let one = puts_append (w ∷ []) ws in
        let own = sum_by-append (λ (row : Option (List Value)). cond (is_some row) 1 0) (w.row ∷ []) (values_of (map key_write_of ws)) in
        omega (arith, one, own, counted ws)

-- ---- the writes to one table among those to a table of a name
own : (n name : List ℕ) (ws : List KeyWrite) → same_name n name ≡ true → writes_to name (writes_in n ws) ≡ writes_in n ws
own n name [] same = refl
own n name (w ∷ ws) same = rw same (ap (λ (vs : List Write). record { table = n; key = w.0; row = w.1 } ∷ vs) (own n name ws same))

pub foreign : (n name : List ℕ) (ws : List KeyWrite) → same_name n name ≡ false → writes_to name (writes_in n ws) ≡ []
foreign n name [] other = refl
foreign n name (w ∷ ws) other = rw other (foreign n name ws other)

to_last : (first : List Write) (n : List ℕ) (ws : List KeyWrite) (name : List ℕ) → same_name n name ≡ true → writes_to name (first ++ writes_in n ws) ≡ writes_to name first ++ writes_in n ws
to_last first n ws name same = filter-append (λ v. same_name v.table name) first (writes_in n ws) ∙ ap (λ (vs : List Write). writes_to name first ++ vs) (own n name ws same)

to_other : (first : List Write) (n : List ℕ) (ws : List KeyWrite) (name : List ℕ) → same_name n name ≡ false → writes_to name (first ++ writes_in n ws) ≡ writes_to name first
to_other first n ws name other =
    filter-append (λ v. same_name v.table name) first (writes_in n ws) ∙ ap (λ (vs : List Write). writes_to name first ++ vs) (foreign n name ws other) ∙ append-nil (writes_to name first)

pub first_here : (n : List ℕ) (ws : List KeyWrite) (rest : List Write) (name : List ℕ) → same_name n name ≡ true → puts (writes_to name (writes_in n ws ++ rest)) ≡ key_puts ws + puts (writes_to name rest)
first_here n ws rest name same =
    ap puts (filter-append (λ v. same_name v.table name) (writes_in n ws) rest ∙ ap (λ (vs : List Write). vs ++ writes_to name rest) (own n name ws same))
    ∙ puts_append (writes_in n ws) (writes_to name rest) ∙ ap (λ p. p + puts (writes_to name rest)) (puts_in n ws)

pub first_other : (n : List ℕ) (ws : List KeyWrite) (rest : List Write) (name : List ℕ) → same_name n name ≡ false → writes_to name (writes_in n ws ++ rest) ≡ writes_to name rest
first_other n ws rest name other = filter-append (λ v. same_name v.table name) (writes_in n ws) rest ∙ ap (λ (vs : List Write). vs ++ writes_to name rest) (foreign n name ws other)

-- the entries under the further writes to their table
with_name : (entries : List Entry) (n : List ℕ) (ws : List KeyWrite) → fold applied_to entries ws ≡ fold applied entries (writes_in n ws)
with_name entries n [] = refl
with_name entries n (w ∷ ws) = with_name (applied_to entries w) n ws

under_last : (entries : List Entry) (writes : List Write) (n : List ℕ) (ws : List KeyWrite) (name : List ℕ) → same_name n name ≡ true
    → entries_under entries (writes ++ writes_in n ws) name ≡ fold applied_to (entries_under entries writes name) ws
under_last entries writes n ws name same =
    ap (fold applied entries) (to_last writes n ws name same) ∙ fold-append applied entries (writes_to name writes) (writes_in n ws)
    ∙ sym (with_name (entries_under entries writes name) n ws)

-- one more table
pub one_more : (tables : List OfTable) (t : OfTable) → all_writes (tables ++ t ∷ []) ≡ all_writes tables ++ writes_in t.0 t.1
one_more tables t = flat_map-append (λ (t : OfTable). writes_in t.0 t.1) tables (t ∷ []) ∙ ap (λ (vs : List Write). all_writes tables ++ vs) (append-nil (writes_in t.0 t.1))

-- ---- the writes to a table are those that stand under its name
among : {X : Type 0} (P : List ℕ → Type 0) (ts : List (List ℕ × X)) (t : List ℕ × X) (rest : List (List ℕ × X)) → AllByRecursion P (keys_of (ts ++ t ∷ rest)) → P t.0
among P [] t rest all = all.0
among P (s ∷ ts) t rest all = among P ts t rest all.1

at_its_name : (so_far rest : List OfTable) (t : OfTable) → IsStrictlySortedBy name_cmp (keys_of (so_far ++ t ∷ rest)) → lookup (is_at (name_cmp t.0)) (so_far ++ t ∷ rest) ≡ Some t.1
at_its_name [] rest t sorted = rw (tied_itself name_cmp_total t.0) refl
at_its_name (s ∷ so_far) rest t sorted =
    let less = among (λ q. name_cmp s.0 q ≡ Less) so_far t rest (sorted_head name_cmp s.0 (keys_of (so_far ++ t ∷ rest)) sorted) in
    let behind : name_cmp t.0 s.0 ≡ Greater = turned_less name_cmp_total s.0 t.0 less in
    rw behind (at_its_name so_far rest t (sorted_tail name_cmp s.0 (keys_of (so_far ++ t ∷ rest)) sorted))

pub own_puts : (so_far rest : List OfTable) (t : OfTable) (all : List Write) → AreTables (so_far ++ t ∷ rest) → all_writes (so_far ++ t ∷ rest) ≡ all → key_puts t.1 ≡ puts (writes_to t.0 all)
own_puts so_far rest t all are is =
    let tables = so_far ++ t ∷ rest in
    let found : writes_at tables t.0 ≡ t.1 = ap (λ (o : Option (List KeyWrite)). unwrap_or o []) (at_its_name so_far rest t are.by_name) in
    ap key_puts (sym found ∙ sym (written_to t.0 tables (names_rise tables are)) ∙ ap (key_writes_to t.0) is) ∙ puts_of t.0 all

-- ---- room
-- a table gets its room when its writes come
pub room_step : (first all : List Write) (n : List ℕ) (ws : List KeyWrite) (heaps now : List NamedHeap) → key_puts ws ≡ puts (writes_to n all) → HaveRoomSoFar first all heaps → KeepRoom heaps now → All (HasRoomIn n (key_puts ws)) now
    → HaveRoomSoFar (first ++ writes_in n ws) all now
room_step first all n ws [] [] own so_far kept room = λ i h below. absurd (omega arith)
room_step first all n ws [] (g ∷ gs) own so_far kept room = absurd kept
room_step first all n ws (h ∷ hs) [] own so_far kept room = absurd kept
room_step first all n ws (h ∷ hs) (g ∷ gs) own so_far kept room =
    All-cons (λ (heap : NamedHeap). (writes_to heap.0 (first ++ writes_in n ws) ≡ []) ⊎ HasRoom all heap) g gs
    (elim (cases_Bool (same_name n g.0)) [
      | inl same ↦
          let is : n ≡ g.0 = is_one n g.0 same in
          inr (omega (arith, room 0 g (omega arith) (sym is), own, ap (λ name. puts (writes_to name all)) is))
      | inr other ↦ elim (so_far 0 h (omega arith)) [
        | inl none ↦ inl (to_other first n ws g.0 other ∙ ap (λ name. writes_to name first) kept.0.0 ∙ none)
        | inr enough ↦ inr (omega (arith, enough, kept.0.1, ap (λ name. puts (writes_to name all)) kept.0.0))
      ]
    ])
    (room_step first all n ws hs gs own (λ k d below. so_far (suc k) d (omega arith)) kept.1 (λ k d below. room (suc k) d (omega arith)))

module _ (n : List ℕ) (ws : List KeyWrite) (rest : List Write) where
  -- the room for the next writes to a table
  pub room_for : (heaps : List NamedHeap) → HaveRoomFor (writes_in n ws ++ rest) heaps → All (HasRoomIn n (key_puts ws)) heaps
  room_for heaps room i h below is =
      let heap = get_or heaps i h in
      omega (arith, room i h below, first_here n ws rest heap.0 (is_same n heap.0 (sym is)))

  -- and for those that are left
  pub room_behind : (heaps now : List NamedHeap) → HaveRoomFor (writes_in n ws ++ rest) heaps → LeaveRoom (taken_by n ws) heaps now → HaveRoomFor rest now
  room_behind [] [] room left = λ i h below. absurd (omega arith)
  room_behind [] (g ∷ gs) room left = absurd left
  room_behind (h ∷ hs) [] room left = absurd left
  room_behind (h ∷ hs) (g ∷ gs) room left =
      let here : puts (writes_to h.0 (writes_in n ws ++ rest)) ≤ h.1.spare = room 0 h (omega arith) in
      let named : puts (writes_to g.0 rest) ≡ puts (writes_to h.0 rest) = ap (λ name. puts (writes_to name rest)) left.0.0 in
      All-cons (HasRoom rest) g gs
      (elim (cases_Bool (same_name n h.0)) [
        | inl same ↦
            let spare : h.1.spare ≤ g.1.spare + key_puts ws = rw same at left.0.1 in
            omega (arith, here, named, spare, first_here n ws rest h.0 same)
        | inr other ↦
            let spare : h.1.spare ≤ g.1.spare + 0 = rw other at left.0.1 in
            omega (arith, here, named, spare, ap puts (first_other n ws rest h.0 other))
      ])
      (room_behind hs gs (λ k d below. room (suc k) d (omega arith)) left.1)

-- ---- rows
pub no_writes : (rows : List NamedRows) → rows ≡ with_writes [] rows
no_writes [] = refl
no_writes (r ∷ rs) = ap (λ (others : List NamedRows). r ∷ others) (no_writes rs)

-- the rows with the writes to one more table
pub rows_step : (first : List Write) (n : List ℕ) (ws : List KeyWrite) (rows : List NamedRows) → with_writes_to n ws (with_writes first rows) ≡ with_writes (first ++ writes_in n ws) rows
rows_step first n ws [] = refl
rows_step first n ws (r ∷ rs) =
    let here : cond (same_name n r.0) (fold applied_to (entries_under r.1 first r.0) ws) (entries_under r.1 first r.0) ≡ entries_under r.1 (first ++ writes_in n ws) r.0 = elim (cases_Bool (same_name n r.0)) [
      | inl same ↦ rw same (sym (under_last r.1 first n ws r.0 same))
      | inr other ↦ rw other (ap (λ (vs : List Write). fold applied r.1 vs) (sym (to_other first n ws r.0 other)))
    ] in
    ap₂ (λ (es : List Entry) (others : List NamedRows). (r.0, es) ∷ others) here (rows_step first n ws rs)

-- the first of some writes to a table
pub key_first : (w : KeyWrite) (ws : List KeyWrite) → key_puts (w ∷ ws) ≡ put_by w.1 + key_puts ws
key_first w ws = omega (arith, sum_by-append (λ (row : Option (List Value)). cond (is_some row) 1 0) (w.1 ∷ []) (values_of ws))

-- one more of the items that a loop goes over
pub next_left : {A B : Type 0} (f : A → B) (so_far : List A) (x : A) (rest next : List B) → rest ≡ f x ∷ next → map f (so_far ++ x ∷ []) ++ next ≡ map f so_far ++ rest
next_left {B = B} f so_far x rest next is =
    ap (λ (ys : List B). ys ++ next) (map-append f so_far (x ∷ [])) ∙ append_assoc (map f so_far) (f x ∷ []) next ∙ ap (λ (ys : List B). map f so_far ++ ys) (sym is)
