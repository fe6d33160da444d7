-- Numbers in the slots of pages are those of a map by position.
use Rattle.std.proofs.Common.{◌≡◌, ℕ, zero, suc, ◌+◌, ◌*◌, ◌/◌, ◌%◌, ◌<◌, ◌≤◌, List, [], ◌∷◌, ◌++◌, length, get_or, set, Less, Equal, Greater, Option, Some, None, is_some, nat_cmp, refl, sym, ap, ◌∙◌, arith, add-one, drop, drop-cons}
use Rattle.std.specs.BTreeMap.{insert_entry, is_at}
use Rattle.std.specs.Cmp.{nat_cmp_is}
use Rattle.std.specs.Global.{Vec}
use Rattle.std.specs.List.{AllByRecursion}
use Rattle.std.specs.Prelude.{replicate}
use Rattle.std.specs.Map.{lookup, remove_entry}
use Rattle.std.proofs.lemmas.List.{append-nil, get_or_read}
use Rattle.bf_store.specs.RowNumbers.{from_page, from_slot}
use Rattle.bf_store.proofs.ByUnit.{Compares, Passes, found_before, found_over, insertion_passes, nothing_removed, removal_passes}

abbrev pub Page : Type 0
Page = Vec (Option ℕ)

abbrev pub IsPage : Page → Type 0
IsPage page = length page.items ≤ 64

module _ (k : ℕ) where
  slots_behind : (at : ℕ) (os : List (Option ℕ)) → k < at → Compares nat_cmp k Less (from_slot at os)
  slots_behind at [] less = tt
  slots_behind at (None ∷ os) less = slots_behind (suc at) os (omega arith)
  slots_behind at (Some n ∷ os) less = (sym (nat_cmp_is k at Less less), slots_behind (suc at) os (omega arith))

  slots_before : (at : ℕ) (os : List (Option ℕ)) → at + length os ≤ k → Compares nat_cmp k Greater (from_slot at os)
  slots_before at [] more = tt
  slots_before at (None ∷ os) more = slots_before (suc at) os (omega arith)
  slots_before at (Some n ∷ os) more = let less : at < k = omega arith in (sym (nat_cmp_is k at Greater less), slots_before (suc at) os (omega arith))

  -- a number in a slot
  pub slot_put : (n at : ℕ) (os : List (Option ℕ)) (i : ℕ) → k ≡ at + i → i < length os → from_slot at (set os i (Some n)) ≡ insert_entry nat_cmp (from_slot at os) k n
  slot_put n at [] i is in_range = absurd (omega arith)
  slot_put n at (None ∷ os) zero is in_range =
      let same : k ≡ at = omega arith in
      ap (λ j. (j, n) ∷ from_slot (suc at) os) (sym same) ∙ sym ((insertion_passes nat_cmp k n).before [] (from_slot (suc at) os) (slots_behind (suc at) os (omega arith)))
  slot_put n at (Some m ∷ os) zero is in_range =
      let same : k ≡ at = omega arith in
      let tied = sym (nat_cmp_is k at Equal same) in
      rw tied refl
  slot_put n at (None ∷ os) (suc i) is in_range = slot_put n (suc at) os i (omega arith) (omega arith)
  slot_put n at (Some m ∷ os) (suc i) is in_range =
      let less : at < k = omega arith in
      ap (λ es. (at, m) ∷ es) (slot_put n (suc at) os i (omega arith) (omega arith))
      ∙ sym ((insertion_passes nat_cmp k n).over ((at, m) ∷ []) (from_slot (suc at) os) (sym (nat_cmp_is k at Greater less), tt))

  -- a slot without its number
  pub slot_taken : (at : ℕ) (os : List (Option ℕ)) (i : ℕ) → k ≡ at + i → i < length os → from_slot at (set os i None) ≡ remove_entry (is_at (nat_cmp k)) (from_slot at os)
  slot_taken at [] i is in_range = absurd (omega arith)
  slot_taken at (None ∷ os) zero is in_range = sym ((removal_passes nat_cmp k).before [] (from_slot (suc at) os) (slots_behind (suc at) os (omega arith)))
  slot_taken at (Some m ∷ os) zero is in_range =
      let same : k ≡ at = omega arith in
      let tied = sym (nat_cmp_is k at Equal same) in
      rw tied refl
  slot_taken at (None ∷ os) (suc i) is in_range = slot_taken (suc at) os i (omega arith) (omega arith)
  slot_taken at (Some m ∷ os) (suc i) is in_range =
      let less : at < k = omega arith in
      ap (λ es. (at, m) ∷ es) (slot_taken (suc at) os i (omega arith) (omega arith))
      ∙ sym ((removal_passes nat_cmp k).over ((at, m) ∷ []) (from_slot (suc at) os) (sym (nat_cmp_is k at Greater less), tt))

  read_slot : (at : ℕ) (os : List (Option ℕ)) (i : ℕ) → k ≡ at + i → i < length os → get_or os i None ≡ lookup (is_at (nat_cmp k)) (from_slot at os)
  read_slot at [] i is in_range = absurd (omega arith)
  read_slot at (None ∷ os) zero is in_range = sym (found_before nat_cmp k [] (from_slot (suc at) os) (slots_behind (suc at) os (omega arith)))
  read_slot at (Some m ∷ os) zero is in_range =
      let same : k ≡ at = omega arith in
      let tied = sym (nat_cmp_is k at Equal same) in
      rw tied refl
  read_slot at (None ∷ os) (suc i) is in_range = read_slot (suc at) os i (omega arith) (omega arith)
  read_slot at (Some m ∷ os) (suc i) is in_range =
      let less : at < k = omega arith in
      read_slot (suc at) os i (omega arith) (omega arith)
      ∙ sym (found_over nat_cmp k ((at, m) ∷ []) (from_slot (suc at) os) (sym (nat_cmp_is k at Greater less), tt))

  pub slot_found : (at : ℕ) (os : List (Option ℕ)) (i : ℕ) (o : Option ℕ) → k ≡ at + i → i < length os → o ≡ get_or os i o → o ≡ lookup (is_at (nat_cmp k)) (from_slot at os)
  slot_found at os i o is in_range read = get_or_read os i o in_range read None ∙ read_slot at os i is in_range

  -- a slot that is not there has none
  pub slot_beyond : (at : ℕ) (os : List (Option ℕ)) → at + length os ≤ k → None ≡ lookup (is_at (nat_cmp k)) (from_slot at os)
  slot_beyond at os beyond =
      sym (found_over nat_cmp k (from_slot at os) [] (slots_before at os beyond))
      ∙ ap (lookup (is_at (nat_cmp k))) (append-nil (from_slot at os))

  pub none_in_slot : (at : ℕ) (os : List (Option ℕ)) → at + length os ≤ k → from_slot at os ≡ remove_entry (is_at (nat_cmp k)) (from_slot at os)
  none_in_slot at os beyond = sym (nothing_removed (is_at (nat_cmp k)) (from_slot at os) (ap is_some (sym (slot_beyond at os beyond))))

-- slots without numbers add none
no_numbers : (at n : ℕ) → from_slot at (replicate n None) ≡ []
no_numbers at zero = refl
no_numbers at (suc n) = no_numbers (suc at) n

pub more_slots : (at : ℕ) (os : List (Option ℕ)) (n : ℕ) → from_slot at (os ++ replicate n None) ≡ from_slot at os
more_slots at [] n = no_numbers at n
more_slots at (None ∷ os) n = more_slots (suc at) os n
more_slots at (Some m ∷ os) n = ap (λ es. (at, m) ∷ es) (more_slots (suc at) os n)

pub page_at : (ps : List Page) (i : ℕ) (x : Page) → AllByRecursion IsPage ps → i < length ps → x ≡ get_or ps i x → length x.items ≤ 64
page_at [] i x each in_range is = absurd (omega arith)
page_at (p ∷ ps) zero x each in_range is = omega (arith, each.0, ap (λ (page : Page). length page.items) is)
page_at (p ∷ ps) (suc i) x each in_range is = page_at ps i x each.1 (omega arith) is

pub pages_with : (ps : List Page) (i : ℕ) (m : Page) → AllByRecursion IsPage ps → length m.items ≤ 64 → AllByRecursion IsPage (set ps i m)
pages_with [] i m each one = tt
pages_with (p ∷ ps) zero m each one = (one, each.1)
pages_with (p ∷ ps) (suc i) m each one = (each.0, pages_with ps i m each.1 one)

pub pages_and : (ps : List Page) (m : Page) → AllByRecursion IsPage ps → length m.items ≤ 64 → AllByRecursion IsPage (ps ++ m ∷ [])
pages_and [] m each one = (one, tt)
pages_and (p ∷ ps) m each one = (each.0, pages_and ps m each.1 one)

-- q is the page of k
module _ (k q : ℕ) (low : 64 * q ≤ k) (high : k < 64 * q + 64) where
  pages_behind : (s : ℕ) (ps : List Page) → q < s → Compares nat_cmp k Less (from_page s ps)
  pages_behind s [] less = tt
  pages_behind s (p ∷ ps) less = both (from_slot (64 * s) p.items) (from_page (suc s) ps) (slots_behind k (64 * s) p.items (omega arith)) (pages_behind (suc s) ps (omega arith))
    where
      both : (xs ys : List (ℕ × ℕ)) → Compares nat_cmp k Less xs → Compares nat_cmp k Less ys → Compares nat_cmp k Less (xs ++ ys)
      both [] ys h g = g
      both (x ∷ xs) ys h g = (h.0, both xs ys h.1 g)

  -- what is done at a position is done in its page
  pub in_its_page : (f : List (ℕ × ℕ) → List (ℕ × ℕ)) → Passes nat_cmp k f
      → (s : ℕ) (ps : List Page) (i : ℕ) (x m : Page) → q ≡ s + i → AllByRecursion IsPage ps → i < length ps → x ≡ get_or ps i x → from_slot (64 * q) m.items ≡ f (from_slot (64 * q) x.items)
      → from_page s (set ps i m) ≡ f (from_page s ps)
  in_its_page f passes s [] i x m at each in_range is change = absurd (omega arith)
  in_its_page f passes s (p ∷ ps) zero x m at each in_range is change =
      let same : s ≡ q = omega arith in
      ap (λ es. es ++ from_page (suc s) ps) (ap (λ v. from_slot (64 * v) m.items) same ∙ change ∙ ap (λ (z : Page). f (from_slot (64 * q) z.items)) is ∙ ap (λ v. f (from_slot (64 * v) p.items)) (sym same))
      ∙ sym (passes.before (from_slot (64 * s) p.items) (from_page (suc s) ps) (pages_behind (suc s) ps (omega arith)))
  in_its_page f passes s (p ∷ ps) (suc i) x m at each in_range is change =
      let one = each.0 in
      ap (λ es. from_slot (64 * s) p.items ++ es) (in_its_page f passes (suc s) ps i x m (omega arith) each.1 (omega arith) is change)
      ∙ sym (passes.over (from_slot (64 * s) p.items) (from_page (suc s) ps) (slots_before k (64 * s) p.items (omega (arith, one))))

  pub found_in_page : (s : ℕ) (ps : List Page) (i : ℕ) (x : Page) → q ≡ s + i → AllByRecursion IsPage ps → i < length ps → x ≡ get_or ps i x
      → lookup (is_at (nat_cmp k)) (from_slot (64 * q) x.items) ≡ lookup (is_at (nat_cmp k)) (from_page s ps)
  found_in_page s [] i x at each in_range is = absurd (omega arith)
  found_in_page s (p ∷ ps) zero x at each in_range is =
      let same : q ≡ s = omega arith in
      ap (λ (z : Page). lookup (is_at (nat_cmp k)) (from_slot (64 * q) z.items)) is
      ∙ ap (λ v. lookup (is_at (nat_cmp k)) (from_slot (64 * v) p.items)) same
      ∙ sym (found_before nat_cmp k (from_slot (64 * s) p.items) (from_page (suc s) ps) (pages_behind (suc s) ps (omega arith)))
  found_in_page s (p ∷ ps) (suc i) x at each in_range is =
      let one = each.0 in
      found_in_page (suc s) ps i x (omega arith) each.1 (omega arith) is
      ∙ sym (found_over nat_cmp k (from_slot (64 * s) p.items) (from_page (suc s) ps) (slots_before k (64 * s) p.items (omega (arith, one))))

  pub no_page : (s : ℕ) (ps : List Page) → AllByRecursion IsPage ps → s + length ps ≤ q → None ≡ lookup (is_at (nat_cmp k)) (from_page s ps)
  no_page s [] each beyond = refl
  no_page s (p ∷ ps) each beyond =
      let one = each.0 in
      no_page (suc s) ps each.1 (omega arith)
      ∙ sym (found_over nat_cmp k (from_slot (64 * s) p.items) (from_page (suc s) ps) (slots_before k (64 * s) p.items (omega (arith, one))))

  pub none_in_page : (ps : List Page) → AllByRecursion IsPage ps → length ps ≤ q → from_page 0 ps ≡ remove_entry (is_at (nat_cmp k)) (from_page 0 ps)
  none_in_page ps each beyond = sym (nothing_removed (is_at (nat_cmp k)) (from_page 0 ps) (ap is_some (sym (no_page 0 ps each (omega arith)))))

-- a page without slots adds nothing
pub empty_page : (s : ℕ) (ps : List Page) (m : Page) → m.items ≡ [] → from_page s (ps ++ m ∷ []) ≡ from_page s ps
empty_page s [] m empty = append-nil (from_slot (64 * s) m.items) ∙ ap (from_slot (64 * s)) empty
empty_page s (p ∷ ps) m empty = ap (λ es. from_slot (64 * s) p.items ++ es) (empty_page (suc s) ps m empty)

-- a page, and those behind it; a slot, and those behind it
pub one_page : (i : ℕ) (ps : List Page) (x : Page) → i < length ps → x ≡ get_or ps i x → from_slot (64 * i) x.items ++ from_page (i + 1) (drop (i + 1) ps) ≡ from_page i (drop i ps)
one_page i ps x in_range is = rw add-one (ap (from_page i) (sym (drop-cons ps i x in_range ∙ ap (λ (y : Page). y ∷ drop (suc i) ps) (sym is))))

abbrev pub in_slot : ℕ → Option ℕ → List (ℕ × ℕ)
in_slot at None = []
in_slot at (Some n) = (at, n) ∷ []

first_slot : (at : ℕ) (o : Option ℕ) (os : List (Option ℕ)) → from_slot at (o ∷ os) ≡ in_slot at o ++ from_slot (suc at) os
first_slot at None os = refl
first_slot at (Some n) os = refl

pub one_slot : (at i : ℕ) (os : List (Option ℕ)) (o : Option ℕ) → i < length os → o ≡ get_or os i o → in_slot (at + i) o ++ from_slot (at + (i + 1)) (drop (i + 1) os) ≡ from_slot (at + i) (drop i os)
one_slot at i os o in_range is =
    let next : at + (i + 1) ≡ suc (at + i) = omega arith in
    let later : i + 1 ≡ suc i = add-one i in
    ap (λ j. in_slot (at + i) o ++ from_slot j (drop (i + 1) os)) next ∙ ap (λ j. in_slot (at + i) o ++ from_slot (suc (at + i)) (drop j os)) later
    ∙ sym (first_slot (at + i) o (drop (suc i) os))
    ∙ ap (from_slot (at + i)) (sym (drop-cons os i o in_range ∙ ap (λ (p : Option ℕ). p ∷ drop (suc i) os) (sym is)))

-- the page of a position and its slot there
pub page_low : (k : ℕ) → 64 * (k / 64) ≤ k
page_low k = omega arith

pub page_high : (k : ℕ) → k < 64 * (k / 64) + 64
page_high k = omega arith

pub page_slot : (k : ℕ) → 64 * (k / 64) + k % 64 ≡ k
page_slot k = omega arith
