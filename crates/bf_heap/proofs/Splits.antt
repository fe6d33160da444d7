-- An entry that is put in a page, and a full page that is split first.
use Rattle.std.proofs.Common.{◌≡◌, ℕ, suc, ◌+◌, ◌-◌, ◌<◌, ◌≤◌, List, ◌++◌, length, set, take, drop, refl, sym, ap, ◌∙◌, arith, insert, IsTrue}
use Rattle.std.specs.List.{list_all}
use Rattle.std.proofs.lemmas.List.{length-append, length-take-le, length-drop, length-set, take-append-drop}
use Rattle.std.proofs.lemmas.List.Edits.{length-insert, insert-append_left, insert-append_right}
use Rattle.bf_heap.specs.Heaps.{Entry}
use Rattle.bf_heap.specs.Pages.{rows_of, is_empty_page, page_at, IsPutNew}
use Rattle.bf_heap.proofs.Flat.{joined-split}
use Rattle.bf_heap.proofs.Counts.{over-set, over-insert, used-set, used-insert}

module _ (pages spares : List (List Entry)) (here place : ℕ) (entry : Entry) (within : here < length pages) (inside : place ≤ length (page_at pages here)) where
  more : length (insert (page_at pages here) place entry) ≡ length (page_at pages here) + 1
  more = length-insert (page_at pages here) place entry inside

  pub put_whole : length (page_at pages here) < 64 → IsTrue (list_all is_empty_page spares) → IsPutNew pages spares here place entry (set pages here (insert (page_at pages here) place entry)) spares
  put_whole room unused =
      let over = over-set pages here (insert (page_at pages here) place entry) within in
      record {
        rows = refl;
        used = λ h. used-set pages here (insert (page_at pages here) place entry) (omega (arith, more)) (omega (arith, more, room)) h;
        unused = unused;
        over_split = λ full. absurd (omega (arith, full, room));
        over_more = λ a b. omega (arith, over, more, a, b);
        over_same = λ a. omega (arith, over, more, a);
        split = λ full. absurd (omega (arith, full, room));
        whole = λ a. (length-set pages here (insert (page_at pages here) place entry), refl);
      }

  module _ (full : length (page_at pages here) ≡ 64) (front : List (List Entry)) (one_less : length front + 1 ≡ length spares) (unused : IsTrue (list_all is_empty_page front)) where
    put_halves : (low high : List Entry) → low ++ high ≡ insert (page_at pages here) place entry → 32 ≤ length low → 32 ≤ length high → IsPutNew pages spares here place entry (insert (set pages here low) (suc here) high) front
    put_halves low high both l h =
        let count : length low + length high ≡ 65 = omega (arith, sym (length-append low high) ∙ ap length both, more, full) in
        let over_low = over-set pages here low within in
        let over_all = over-insert (set pages here low) (suc here) high in
        record {
          rows = joined-split pages here low high within ∙ ap (λ (page : List Entry). rows_of (set pages here page)) both;
          used = λ f. used-insert (set pages here low) (suc here) high (omega (arith, h)) (omega (arith, count, l)) (used-set pages here low (omega (arith, l)) (omega (arith, count, h)) f);
          unused = unused;
          over_split = λ same. omega (arith, over_low, over_all, count, l, h, full);
          over_more = λ a b. absurd (omega (arith, full, a));
          over_same = λ a. absurd (omega (arith, full, a));
          split = λ same. (length-insert (set pages here low) (suc here) high (omega (arith, length-set pages here low, within)) ∙ ap (λ n. n + 1) (length-set pages here low), one_less);
          whole = λ a. absurd (omega (arith, full, a));
        }

    low_is : length (take 32 (page_at pages here)) ≡ 32
    low_is = length-take-le 32 (page_at pages here) (omega (arith, full))

    high_is : length (drop 32 (page_at pages here)) ≡ 32
    high_is = omega (arith, length-drop 32 (page_at pages here), full)

    pub put_low : place ≤ 32 → IsPutNew pages spares here place entry (insert (set pages here (insert (take 32 (page_at pages here)) place entry)) (suc here) (drop 32 (page_at pages here))) front
    put_low low = put_halves (insert (take 32 (page_at pages here)) place entry) (drop 32 (page_at pages here))
        (sym (insert-append_left (take 32 (page_at pages here)) (drop 32 (page_at pages here)) place entry (omega (arith, low_is, low))) ∙ ap (λ (page : List Entry). insert page place entry) (take-append-drop 32 (page_at pages here)))
        (omega (arith, low_is, length-insert (take 32 (page_at pages here)) place entry (omega (arith, low_is, low)))) (omega (arith, high_is))

    pub put_high : 32 < place → IsPutNew pages spares here place entry (insert (set pages here (take 32 (page_at pages here))) (suc here) (insert (drop 32 (page_at pages here)) (place - 32) entry)) front
    put_high high = put_halves (take 32 (page_at pages here)) (insert (drop 32 (page_at pages here)) (place - 32) entry)
        (sym (insert-append_right (take 32 (page_at pages here)) (drop 32 (page_at pages here)) 32 place entry low_is (omega (arith, high))) ∙ ap (λ (page : List Entry). insert page place entry) (take-append-drop 32 (page_at pages here)))
        (omega (arith, low_is)) (omega (arith, high_is, length-insert (drop 32 (page_at pages here)) (place - 32) entry (omega (arith, high_is, inside, full))))
