use Rattle.std.proofs.Common.{◌≡◌, ℕ, suc, ◌+◌, ◌-◌, ◌++◌, ◌∷◌, [], List, length, set, take, drop, insert, sym, ap, ◌∙◌, subst, arith, IsTrue}
use Rattle.std.specs.List.{list_all}
use Rattle.std.proofs.lemmas.List.{get_or_default, length-take-le, length-drop, length-append}
use Rattle.bf_index.specs.Pairs.{Pair}
use Rattle.bf_heap.specs.Pages.{page_at, is_empty_page, IsPutNew}
use Rattle.bf_heap.proofs.Splits.{put_whole, put_low, put_high}
use Rattle.bf_heap.proofs.Counts.{last_unused}
use Rattle.bf_index.proofs.index.put_new.Goals as goal
use Rattle.bf_index.proofs.index.put_new.Goals.{then-place-le-HALF, else-place-le-HALF}

pub returns-then-len-lt-FULL-clause-pair : goal.returns-then-len-lt-FULL-clause-pair
returns-then-len-lt-FULL-clause-pair c =
    let pages = c.args.pages.now.items in
    let page_is : c.index_mut-page.result.now ≡ page_at pages c.args.here = c.index_mut-page.ensures.value ∙ get_or_default pages c.args.here c.index_mut-page.result.now [] c.requires.here in
    let new_is : c.insert.new.self ≡ insert (page_at pages c.args.here) c.args.place (c.args.value, c.args.key) = c.insert.ensures ∙ ap (λ (page : List Pair). insert page c.args.place (c.args.value, c.args.key)) page_is in
    subst (λ (page : List Pair). IsPutNew pages c.args.spares.now.items c.args.here c.args.place (c.args.value, c.args.key) (set pages c.args.here page) c.args.spares.now.items) (sym new_is)
    (put_whole pages c.args.spares.now.items c.args.here c.args.place (c.args.value, c.args.key) c.requires.here c.requires.place (omega (arith, c.if-len-lt-FULL.true, c.len.ensures.count, ap length page_is)) c.requires.unused)

pub insert-requires-then-place-le-HALF-clause-bound : goal.insert-requires-then-place-le-HALF-clause-bound
insert-requires-then-place-le-HALF-clause-bound c =
    omega (arith, c.if-place-le-HALF.true, ap length c.split.ensures.lower, length-take-le 32 c.index_mut-page.result.now (omega (arith, c.if-len-lt-FULL.false, c.len.ensures.count)))

pub insert-requires-then-place-le-HALF-clause-room : goal.insert-requires-then-place-le-HALF-clause-room
insert-requires-then-place-le-HALF-clause-room c =
    omega (arith, ap length c.split.ensures.lower, length-take-le 32 c.index_mut-page.result.now (omega (arith, c.if-len-lt-FULL.false, c.len.ensures.count)))

pub insert-requires-else-place-le-HALF-clause-bound : goal.insert-requires-else-place-le-HALF-clause-bound
insert-requires-else-place-le-HALF-clause-bound c =
    let pages = c.args.pages.now.items in
    let page_is : c.index_mut-page.result.now ≡ page_at pages c.args.here = c.index_mut-page.ensures.value ∙ get_or_default pages c.args.here c.index_mut-page.result.now [] c.requires.here in
    omega (arith, c.requires.place, ap length page_is, ap length c.split.ensures.upper, length-drop 32 c.index_mut-page.result.now, c.if-place-le-HALF.false)

pub insert-requires-else-place-le-HALF-clause-room : goal.insert-requires-else-place-le-HALF-clause-room
insert-requires-else-place-le-HALF-clause-room c =
    omega (arith, ap length c.split.ensures.upper, length-drop 32 c.index_mut-page.result.now, c.len.ensures.count, c.len.ensures.within)

-- the pages in which the half behind is put
put_behind : (pages halved now : List (List Pair)) (here : ℕ) (low high upper : List Pair) → now ≡ insert halved (here + 1) upper → halved ≡ set pages here low → upper ≡ high → insert (set pages here low) (suc here) high ≡ now
put_behind pages halved now here low high upper is halved_is upper_is =
    let plus : here + 1 ≡ suc here = omega arith in
    sym (is ∙ ap (λ n. insert halved n upper) plus ∙ ap (λ (ps : List (List Pair)). insert ps (suc here) upper) halved_is ∙ ap (λ (q : List Pair). insert (set pages here low) (suc here) q) upper_is)

pub returns-clause-pair : goal.returns-clause-pair
returns-clause-pair c =
    let pages = c.args.pages.now.items in
    let spares = c.args.spares.now.items in
    let here = c.args.here in
    let place = c.args.place in
    let pair : Pair = (c.args.value, c.args.key) in
    let page_is : c.index_mut-page.result.now ≡ page_at pages here = c.index_mut-page.ensures.value ∙ get_or_default pages here c.index_mut-page.result.now [] c.requires.here in
    let full : length (page_at pages here) ≡ 64 = omega (arith, ap length page_is, c.if-len-lt-FULL.false, c.len.ensures.count, c.len.ensures.within) in
    let front = c.pop.new.self.items in
    let popped : spares ≡ front ++ c.unwrap-upper.result ∷ [] = rw c.unwrap-upper.ensures at c.pop.ensures.items in
    let one_less : length front + 1 ≡ length spares = omega (arith, ap length popped, length-append front (c.unwrap-upper.result ∷ [])) in
    let unused = (last_unused front c.unwrap-upper.result (subst (λ (s : List (List Pair)). IsTrue (list_all is_empty_page s)) popped c.requires.unused)).0 in
    let inserted : c.insert-2.new.self.items ≡ insert c.if-place-le-HALF.pages.items (here + 1) c.if-place-le-HALF.upper = rw c.unwrap.ensures at c.insert-2.ensures.items in
    elim c.if-place-le-HALF.branch [
      | then-place-le-HALF w ↦
          let low = insert (take 32 (page_at pages here)) place pair in
          let high = drop 32 (page_at pages here) in
          let low_is : w.insert-then-place-le-HALF.new.self ≡ low = w.insert-then-place-le-HALF.ensures ∙ ap (λ (p : List Pair). insert p place pair) (c.split.ensures.lower ∙ ap (take 32) page_is) in
          subst (λ (now : List (List Pair)). IsPutNew pages spares here place pair now front)
          (put_behind pages c.if-place-le-HALF.pages.items _ here low high c.if-place-le-HALF.upper inserted (ap (λ v. v.items) w.pages-is ∙ ap (set pages here) low_is) (w.upper-is ∙ c.split.ensures.upper ∙ ap (drop 32) page_is))
          (put_low pages spares here place pair c.requires.here c.requires.place full front one_less unused w.if-place-le-HALF.true)
      | else-place-le-HALF w ↦
          let low = take 32 (page_at pages here) in
          let high = insert (drop 32 (page_at pages here)) (place - 32) pair in
          let high_is : w.insert-else-place-le-HALF.new.self ≡ high = w.insert-else-place-le-HALF.ensures ∙ ap (λ (p : List Pair). insert p (place - 32) pair) (c.split.ensures.upper ∙ ap (drop 32) page_is) in
          subst (λ (now : List (List Pair)). IsPutNew pages spares here place pair now front)
          (put_behind pages c.if-place-le-HALF.pages.items _ here low high c.if-place-le-HALF.upper inserted (ap (λ v. v.items) w.pages-is ∙ ap (set pages here) (c.split.ensures.lower ∙ ap (take 32) page_is)) (w.upper-is ∙ high_is))
          (put_high pages spares here place pair c.requires.here c.requires.place full front one_less unused w.if-place-le-HALF.false)
    ]
