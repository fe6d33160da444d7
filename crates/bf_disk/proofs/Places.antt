-- The places of a shelf, of which the first with a path counts.
use Rattle.std.proofs.Common.{◌≡◌, ◌≢◌, ℕ, zero, suc, ◌+◌, ◌<◌, ◌≤◌, ⊎_elim, Bool, true, false, not, cond, nat_eq, Option, Some, None, List, [], ◌∷◌, ◌++◌, length, get_or, set, slice_get, refl, sym, ◌∙◌, ap, arith, add-zero}
use Rattle.std.specs.Prelude.{option_and_then}
use Rattle.std.specs.List.{find, position, position_or_len}
use Rattle.std.specs.Cmp.Lexicographic.{pointwise, same_text}
use Rattle.std.proofs.lemmas.Bool.{cases_lt, false_from_ne_true, lt-ltb, eq-eqb, and_from}
use Rattle.std.proofs.lemmas.List.{length_push, get_or_default}
use Rattle.std.proofs.lemmas.List.Folds.{find_at, find-set, find_past, position_or_len_push}
use Rattle.std.proofs.lemmas.List.Sums.{position_or_len_is, prefix_len-le-length}
use Rattle.std.proofs.lemmas.List.Quantifiers.{position-Some}
use Rattle.std.proofs.lemmas.Option.{slice_get-get_or, slice_get_past}
use Rattle.bf_disk.specs.MemoryShelves.{slot_at}
use Rattle.bf_disk.specs.Shelves.{Puts}
use Rattle.bf_disk.specs.declared.slot.Slot.{Slot}

-- whether a place is that of a path
abbrev pub has_path : List ℕ → Slot → Bool
has_path path slot = pointwise nat_eq slot.path path

module _ (slots : List Slot) (path : List ℕ) (i : ℕ) (old : Slot) (at : position (has_path path) slots ≡ Some i) where
  found : (i < length slots) × (has_path path (get_or slots i old) ≡ true) × ((k : ℕ) → k < i → has_path path (get_or slots k old) ≡ false)
  found = position-Some (has_path path) slots i old at

  pub within : i < length slots
  within = found.0

  first : position_or_len (has_path path) slots ≡ i
  first = position_or_len_is (has_path path) slots i old (omega (arith, within)) found.2 (λ below. found.1)

  -- the place of the path
  pub slot_here : slot_at slots path ≡ Some (get_or slots i old)
  slot_here = find_at (has_path path) slots ∙ ap (λ (k : ℕ). slice_get slots k) first ∙ slice_get-get_or slots i old within

  -- another place with its path, put there
  module _ (new : Slot) (is : get_or slots i old ≡ old) (same : new.path ≡ old.path) where
    old_path : has_path path old ≡ true
    old_path = ap (has_path path) (sym is) ∙ found.1

    new_path : has_path path new ≡ true
    new_path = ap (λ (of : List ℕ). pointwise nat_eq of path) same ∙ old_path

    pub slot_put : slot_at (set slots i new) path ≡ Some new
    slot_put = find-set (has_path path) slots i new (sym first) within new_path

    -- it has no other path
    not_other : (other : List ℕ) → other ≢ path → (slot : Slot) → has_path path slot ≡ true → has_path other slot ≡ false
    not_other other apart slot has = false_from_ne_true (has_path other slot)
        (λ is_other. apart (sym (same_text slot.path other (sym is_other)) ∙ same_text slot.path path (sym has)))

    pub slots_stay : (other : List ℕ) → other ≢ path → slot_at (set slots i new) other ≡ slot_at slots other
    slots_stay other apart =
        find_past (has_path other) slots i new old
        (ap (has_path other) is ∙ not_other other apart old old_path) (not_other other apart new new_path)

    pub puts : {V : Type 0} (field : Slot → Option V) (value : Option V) → field new ≡ value
        → Puts path value (λ (of : List ℕ). option_and_then field (slot_at slots of)) (λ (of : List ℕ). option_and_then field (slot_at (set slots i new) of))
    puts field value is_value = record {
      there = ap (option_and_then field) slot_put ∙ is_value;
      others = λ other apart. ap (option_and_then field) (slots_stay other apart);
    }

-- no place has the path
none_passes : (slots : List Slot) (path : List ℕ) → position (has_path path) slots ≡ None → position_or_len (has_path path) slots ≡ length slots
none_passes slots path none =
    let at = position_or_len (has_path path) slots in
    let n = length slots in
    let most : at ≤ n = prefix_len-le-length (λ (one : Slot). not (has_path path one)) slots in
    ⊎_elim
    (λ (below : at < n). let some = ap (λ (b : Bool). cond b (Some at) None) (lt-ltb at n below) in cc)
    (λ (past : n ≤ at). omega arith)
    (cases_lt at n)

pub none_here : (slots : List Slot) (path : List ℕ) → position (has_path path) slots ≡ None → slot_at slots path ≡ None
none_here slots path none =
    let past : length slots ≤ position_or_len (has_path path) slots = omega (arith, none_passes slots path none) in
    find_at (has_path path) slots ∙ slice_get_past slots (position_or_len (has_path path) slots) past

-- a path is that of a place with its bytes
pub same_path : (path : List ℕ) → pointwise nat_eq path path ≡ true
same_path [] = refl
same_path (x ∷ path) = and_from (nat_eq x x) (pointwise nat_eq path path) (eq-eqb x x refl) (same_path path)

-- the first place that passes a test, or one of those behind it
passed_over : {V : Type 0} (field : Slot → Option V) (passes : Bool) (head : Slot) (now before : Option Slot) → option_and_then field now ≡ option_and_then field before
    → option_and_then field (cond passes (Some head) now) ≡ option_and_then field (cond passes (Some head) before)
passed_over field true head now before same = refl
passed_over field false head now before same = same

-- a part of a place that stays as it was, under each path
field_stays : {V : Type 0} (test : Slot → Bool) (field : Slot → Option V) (slots : List Slot) (i : ℕ) (new : Slot)
    → test new ≡ test (get_or slots i new) → field new ≡ field (get_or slots i new)
    → option_and_then field (find test (set slots i new)) ≡ option_and_then field (find test slots)
field_stays test field [] i new same kept = refl
field_stays test field (head ∷ slots) zero new same kept = at (test new) (test head) same
  where
    at : (b c : Bool) → b ≡ c → option_and_then field (cond b (Some new) (find test slots)) ≡ option_and_then field (cond c (Some head) (find test slots))
    at true true is = kept
    at true false is = cc
    at false true is = cc
    at false false is = refl
field_stays test field (head ∷ slots) (suc i) new same kept =
    passed_over field (test head) head (find test (set slots i new)) (find test slots) (field_stays test field slots i new same kept)

pub fields_stay : {V : Type 0} (field : Slot → Option V) (slots : List Slot) (i : ℕ) (old new : Slot) → i < length slots → get_or slots i old ≡ old
    → new.path ≡ old.path → field new ≡ field old
    → ◌≡◌ {A = List ℕ → Option V} (λ path. option_and_then field (slot_at (set slots i new) path)) (λ path. option_and_then field (slot_at slots path))
fields_stay field slots i old new below is same kept =
    let there : get_or slots i new ≡ old = get_or_default slots i new old below ∙ is in
    λ j. λ path.
    field_stays (has_path path) field slots i new
    (ap (λ (of : List ℕ). pointwise nat_eq of path) same ∙ ap (has_path path) (sym there))
    (kept ∙ ap field (sym there)) j

-- a place without anything, added at the end
pub added_empty : {V : Type 0} (field : Slot → Option V) (slots : List Slot) (slot : Slot) → field slot ≡ None → (path : List ℕ)
    → option_and_then field (slot_at (slots ++ slot ∷ []) path) ≡ option_and_then field (slot_at slots path)
added_empty field [] slot empty path = at (has_path path slot)
  where
    at : (b : Bool) → option_and_then field (cond b (Some slot) None) ≡ None
    at true = empty
    at false = refl
added_empty field (head ∷ slots) slot empty path =
    passed_over field (has_path path head) head (slot_at (slots ++ slot ∷ []) path) (slot_at slots path) (added_empty field slots slot empty path)

pub all_as_before : {V : Type 0} (field : Slot → Option V) (slots : List Slot) (slot : Slot) → field slot ≡ None
    → ◌≡◌ {A = List ℕ → Option V} (λ path. option_and_then field (slot_at (slots ++ slot ∷ []) path)) (λ path. option_and_then field (slot_at slots path))
all_as_before field slots slot empty = λ j. λ path. added_empty field slots slot empty path j

-- such a place with a path that no other has is that of the path
pub added_place : (slots : List Slot) (slot : Slot) (path : List ℕ) → position (has_path path) slots ≡ None → has_path path slot ≡ true
    → position (has_path path) (slots ++ slot ∷ []) ≡ Some (length slots)
added_place slots slot path none has =
    let p = has_path path in
    let n = length slots in
    let later : position_or_len p (slots ++ slot ∷ []) ≡ n =
    position_or_len_push p slots slot
    ∙ ap (λ (b : Bool). cond b (n + cond (p slot) 0 1) (position_or_len p slots)) (eq-eqb (position_or_len p slots) n (none_passes slots path none))
    ∙ ap (λ (b : Bool). n + cond b 0 1) has ∙ add-zero n in
    let within_more : position_or_len p (slots ++ slot ∷ []) < length (slots ++ slot ∷ []) = omega (arith, later, length_push slots slot) in
    ap (λ (b : Bool). cond b (Some (position_or_len p (slots ++ slot ∷ []))) None) (lt-ltb _ _ within_more)
    ∙ ap (λ (k : ℕ). Some k) later
