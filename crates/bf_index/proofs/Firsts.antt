-- The first pair of an index, in a page of its own.
use Rattle.std.proofs.Common.{◌≡◌, ℕ, ◌+◌, ◌-◌, ◌≤◌, List, [], ◌∷◌, ◌++◌, length, insert, refl, sym, ap, ◌∙◌, subst, arith, IsTrue}
use Rattle.std.specs.List.{list_all}
use Rattle.std.proofs.lemmas.List.{length-append}
use Rattle.bf_heap.specs.Pages.{is_empty_page}
use Rattle.bf_heap.proofs.Counts.{last_unused}
use Rattle.bf_index.specs.Pages.{IsPaged}
use Rattle.bf_index.specs.Pairs.{Pair}

pub kept_first : (pages spares front : List (List Pair)) (page now : List Pair) (pair : Pair) (count spare over room room_then further further_then : ℕ) → IsPaged pages spares count spare over room further → pages ≡ [] → spares ≡ front ++ page ∷ [] → now ≡ insert page 0 pair → room ≤ room_then → further ≤ further_then → IsPaged (now ∷ []) front (count + 1) (spare - 1) over room_then further_then
kept_first pages spares front page now pair count spare over room room_then further further_then held none split put more further_more =
    let kept : IsPaged [] spares count spare over room further = subst (λ (ps : List (List Pair)). IsPaged ps spares count spare over room further) none held in
    let unused = last_unused front page (subst (λ (s : List (List Pair)). IsTrue (list_all is_empty_page s)) split kept.unused) in
    let now_is : now ≡ pair ∷ [] = put ∙ ap (λ (p : List Pair). insert p 0 pair) unused.1 in
    let one_less : length front + 1 ≡ length spares = omega (arith, ap length split, length-append front (page ∷ [])) in
    subst (λ (p : List Pair). IsPaged (p ∷ []) front (count + 1) (spare - 1) over room_then further_then) (sym now_is) (record {
      in_order = refl;
      within = omega (arith, kept.within);
      counted = omega (arith, kept.counted);
      used = refl;
      unused = unused.0;
      over_is = omega (arith, kept.over_is);
      room = λ few. omega (arith, kept.room (omega (arith, one_less, few)), one_less);
      fits_pages = omega (arith, kept.fits_pages, one_less, more);
      fits_spares = omega (arith, kept.fits_spares, one_less, further_more);
    })
