-- A row that is taken out of a page, and a page that leaves with its last row.
use Rattle.std.proofs.Common.{◌≡◌, ℕ, ◌+◌, ◌*◌, ◌<◌, ◌≤◌, List, [], ◌∷◌, ◌++◌, length, set, refl, ◌∙◌, inl, inr, arith}
use Rattle.std.specs.List.{remove}
use Rattle.std.proofs.lemmas.Bool.{cases_lt}
use Rattle.std.proofs.lemmas.List.{length-append, length-set, nil_from_length}
use Rattle.std.proofs.lemmas.List.Edits.{length-remove}
use Rattle.bf_heap.specs.Heaps.{Entry}
use Rattle.bf_heap.specs.Pages.{above_half, first_page, page_at, IsTakenOut}
use Rattle.bf_heap.proofs.Counts.{over-set, over-leave, used-set, used-leave, page_within, rows-leave, one_unused}

module _ (pages spares : List (List Entry)) (here place : ℕ) (within : here < length pages) (inside : place < length (page_at pages here)) where
  less : length (remove (page_at pages here) place) + 1 ≡ length (page_at pages here)
  less = length-remove (page_at pages here) place inside

  pub take_stays : 1 < length (page_at pages here) → IsTakenOut pages spares here place (set pages here (remove (page_at pages here) place)) spares
  take_stays more = record {
    rows = refl;
    used = λ h. used-set pages here (remove (page_at pages here) place) (omega (arith, less, more)) (omega (arith, less, page_within pages here h within)) h;
    unused = λ h. h;
    over = omega (arith, over-set pages here (remove (page_at pages here) place) within, less);
    all = omega (arith, length-set pages here (remove (page_at pages here) place));
    more_spares = omega arith;
    left = λ one. absurd (omega (arith, one, more));
    stays = λ _. length-set pages here (remove (page_at pages here) place);
  }

  pub take_left : length (page_at pages here) ≡ 1 → IsTakenOut pages spares here place (remove (set pages here (remove (page_at pages here) place)) here) (spares ++ remove (page_at pages here) place ∷ [])
  take_left one =
      let q = remove (page_at pages here) place in
      let none : q ≡ [] = nil_from_length q (omega (arith, less, one)) in
      let fewer : length (remove (set pages here q) here) + 1 ≡ length pages = length-remove (set pages here q) here (omega (arith, length-set pages here q, within)) ∙ length-set pages here q in
      record {
        rows = rows-leave pages here q within none;
        used = used-leave pages here q;
        unused = one_unused spares q none;
        over = omega (arith, over-leave pages here q within, one);
        all = omega (arith, fewer, length-append spares (q ∷ []));
        more_spares = omega (arith, length-append spares (q ∷ []));
        left = λ _. length-append spares (q ∷ []);
        stays = λ more. absurd (omega (arith, one, more));
      }

-- the first page's room is at most half a page, and none where there is a page
pub first_most : (pages : List (List Entry)) → first_page pages ≤ 32
first_most [] = omega arith
first_most (p ∷ ps) = omega arith

first_none : (pages : List (List Entry)) → 0 < length pages → first_page pages ≡ 0
first_none [] some = absurd (omega arith)
first_none (p ∷ ps) some = refl

pub room_kept : (pages spares pages_now spares_now : List (List Entry)) (here place spare spare_now : ℕ) → (length spares < spare → spare + above_half pages + first_page pages ≤ 32 * length spares)
    → here < length pages → 0 < length (page_at pages here) → IsTakenOut pages spares here place pages_now spares_now → spare_now ≤ spare + 1
    → (spare < spare_now → length spares_now < spare_now → spare_now + above_half pages_now + first_page pages_now ≤ 32 * length spares_now)
    → length spares_now < spare_now → spare_now + above_half pages_now + first_page pages_now ≤ 32 * length spares_now
room_kept pages spares pages_now spares_now here place spare spare_now room within some out most raised few = elim (cases_lt spare spare_now) [
  | inl more ↦ raised more few
  | inr same ↦
      let before = room (omega (arith, few, same, out.more_spares)) in
      elim (cases_lt 1 (length (page_at pages here))) [
        | inl many ↦ omega (arith, before, out.over, same, out.more_spares, first_none pages_now (omega (arith, out.stays many, within)))
        | inr last ↦ omega (arith, before, out.over, same, out.left (omega (arith, last, some)), first_most pages_now)
      ]
]
