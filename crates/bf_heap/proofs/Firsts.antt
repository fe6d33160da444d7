-- The first row of a heap, in a page of its own.
use Rattle.std.proofs.Common.{◌≡◌, ◌==◌, Bool, true, ℕ, ◌+◌, ◌-◌, ◌≤◌, List, [], ◌∷◌, ◌++◌, length, insert, refl, sym, ap, ◌∙◌, subst, arith, IsTrue}
use Rattle.std.specs.List.{list_all}
use Rattle.std.proofs.lemmas.Bool.Decides.{nat_tests}
use Rattle.std.proofs.lemmas.List.{length-append}
use Rattle.bf_heap.specs.Heaps.{Entry}
use Rattle.bf_heap.specs.Pages.{is_empty_page, IsPaged}
use Rattle.bf_heap.proofs.Counts.{last_unused}

counted_none : (count : ℕ) (empty : Bool) → empty ≡ (count == 0) → empty ≡ true → count ≡ 0
counted_none count empty told is = grind (arith, nat_tests)

none_counted : (pages : List (List Entry)) → length pages ≡ 0 → pages ≡ []
none_counted [] none = refl
none_counted (p ∷ ps) none = absurd (omega (arith, none))

pub no_pages : (pages : List (List Entry)) (count : ℕ) (empty : Bool) → count ≡ length pages → empty ≡ (count == 0) → empty ≡ true → pages ≡ []
no_pages pages count empty counted told is = none_counted pages (sym counted ∙ counted_none count empty told is)

pub kept_first : (pages spares front : List (List Entry)) (page now : List Entry) (entry : Entry) (count spare over room room_then further further_then : ℕ) → IsPaged pages spares count spare over room further → pages ≡ [] → spares ≡ front ++ page ∷ [] → now ≡ insert page 0 entry → room ≤ room_then → further ≤ further_then → IsPaged (now ∷ []) front (count + 1) (spare - 1) over room_then further_then
kept_first pages spares front page now entry count spare over room room_then further further_then held none split put more further_more =
    let kept : IsPaged [] spares count spare over room further = subst (λ (ps : List (List Entry)). IsPaged ps spares count spare over room further) none held in
    let unused = last_unused front page (subst (λ (s : List (List Entry)). IsTrue (list_all is_empty_page s)) split kept.unused) in
    let now_is : now ≡ entry ∷ [] = put ∙ ap (λ (p : List Entry). insert p 0 entry) unused.1 in
    let one_less : length front + 1 ≡ length spares = omega (arith, ap length split, length-append front (page ∷ [])) in
    subst (λ (p : List Entry). IsPaged (p ∷ []) front (count + 1) (spare - 1) over room_then further_then) (sym now_is) (record {
      rows = record { in_order = refl; within = omega (arith, kept.rows.within) };
      counted = omega (arith, kept.counted);
      used = refl;
      unused = unused.0;
      over_is = omega (arith, kept.over_is);
      room = λ few. omega (arith, kept.room (omega (arith, one_less, few)), one_less);
      fits_pages = omega (arith, kept.fits_pages, one_less, more);
      fits_spares = omega (arith, kept.fits_spares, one_less, further_more);
    })
