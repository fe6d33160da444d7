-- A history with as many entries as there are groups has each group.
use Rattle.std.proofs.Common.{◌≡◌, ℕ, suc, zero, ◌+◌, ◌*◌, ◌<◌, ◌≤◌, ◌==◌, nat_lt, Bool, false, true, not, ◌||◌, List, [], ◌∷◌, ◌++◌, map, length, refl, sym, ap, subst, ◌∙◌, arith}
use Rattle.std.proofs.lemmas.Bool.{eq-eqb, eqb-true, false≢true, ltb-true, and_parts, ne_eqb}
use Rattle.std.proofs.lemmas.List.{length-map}
use Rattle.std.proofs.lemmas.List.Folds.{list_all-append}
use Rattle.std.specs.List.{list_all, list_any}
use Rattle.bf_base.specs.Lists.{with_before_from}
use Rattle.bf_tree.specs.declared.history.Entry.{Entry}
use Rattle.bf_sql.specs.Groups.{groups_in}
use Rattle.bf_sql.specs.History.{is_whole_group, may_precede}
use Rattle.bf_demo.specs.Replies.{transactions}
use Rattle.bf_demo.specs.Script.{demonstration}
use Rattle.bf_demo.proofs.Committing.{is_group}
use Rattle.bf_demo.proofs.Grouping.{groups_of_credits, groups_of_openings, lone, triples}
use Rattle.bf_demo.proofs.Phasing.{are_before, group_of, of_session}

abbrev Group : Type 0
Group = ℕ × ℕ

-- groups one behind the other, from b on
abbrev From : ℕ → List Group → Type 0
From b [] = Unit {0}
From b (g ∷ gs) = (b ≤ g.0) × (g.0 ≤ g.1) × From (g.1 + 1) gs

abbrev are_among : List Group → List Group → Bool
are_among gs ps = list_all (λ (p : Group). list_any (is_group p.0 p.1) gs) ps

lone_from : (m k : ℕ) → From k (lone k m)
lone_from zero k = tt
lone_from (suc m) k = (omega arith, omega arith, lone_from m (k + 1))

triples_from : (m k : ℕ) → From k (triples k m)
triples_from zero k = tt
triples_from (suc m) k = (omega arith, omega arith, triples_from m (k + 1 + 1 + 1))

-- those behind the first group are among the others
among_rest : (g : Group) (gs ps : List Group) (c : ℕ) → g.0 < c → From c ps → are_among (g ∷ gs) ps ≡ true → are_among gs ps ≡ true
among_rest g gs [] c high from ok = refl
among_rest g gs (p ∷ ps) c high from ok =
    let both = and_parts (list_any (is_group p.0 p.1) (g ∷ gs)) (are_among (g ∷ gs) ps) ok in
    let other : (p.0 == g.0) ≡ false = ne_eqb p.0 g.0 (λ e. absurd (omega (arith, from.0, e, high))) in
    let here : list_any (is_group p.0 p.1) gs ≡ true = rw other at both.0 in
    let more = among_rest g gs ps (p.1 + 1) (omega (arith, from.0, from.1, high)) from.2 both.1 in
    rw (here, more) refl

same_group : (p g : Group) → is_group p.0 p.1 g ≡ true → p ≡ g
same_group p g t =
    let both = and_parts (p.0 == g.0) (p.1 == g.1) t in
    let pair : ℕ → ℕ → Group = λ x y. (x, y) in
    ap (λ x. pair x p.1) (eqb-true p.0 g.0 both.0) ∙ ap (λ y. pair g.0 y) (eqb-true p.1 g.1 both.1)

-- a group among those from b on begins there or later
from_on : (gs : List Group) (b : ℕ) (p : Group) → From b gs → list_any (is_group p.0 p.1) gs ≡ true → (b ≤ p.0) × (p.0 ≤ p.1)
from_on [] b p from ok = absurd (false≢true ok)
from_on (g ∷ gs) b p from ok = go (is_group p.0 p.1 g) refl ok (from_on gs (g.1 + 1) p from.2)
  where
    go : (t : Bool) → is_group p.0 p.1 g ≡ t → list_any (is_group p.0 p.1) (g ∷ gs) ≡ true → (list_any (is_group p.0 p.1) gs ≡ true → (g.1 + 1 ≤ p.0) × (p.0 ≤ p.1)) → (b ≤ p.0) × (p.0 ≤ p.1)
    go true t ok more =
        let both = and_parts (p.0 == g.0) (p.1 == g.1) t in
        let first : p.0 ≡ g.0 = eqb-true p.0 g.0 both.0 in
        let second : p.1 ≡ g.1 = eqb-true p.1 g.1 both.1 in
        let low = from.0 in
        let long = from.1 in
        (omega arith, omega arith)
    go false t ok more =
        let there = more (rw t at ok) in
        let low = from.0 in
        let long = from.1 in
        let begins = there.0 in
        let ends = there.1 in
        (omega arith, omega arith)

above_first : (g : Group) (gs : List Group) (p : Group) → From (g.1 + 1) gs → g.0 ≤ g.1 → list_any (is_group p.0 p.1) gs ≡ true → g.0 < p.0
above_first g gs p from long ok = let low = (from_on gs (g.1 + 1) p from ok).0 in omega arith

-- FITS: at most as many, and all of them where as many
pub record Fits (gs ps : List Group) : Type 0 where
  pub few : length ps ≤ length gs
  pub all : length ps ≡ length gs → ps ≡ gs

fits_in : (gs ps : List Group) (b c : ℕ) → From b gs → From c ps → are_among gs ps ≡ true → Fits gs ps
fits_in [] [] b c gs_from ps_from ok = record { few = omega arith; all = λ e. refl }
fits_in [] (p ∷ ps) b c gs_from ps_from ok = absurd (false≢true ok)
fits_in (g ∷ gs) [] b c gs_from ps_from ok = record { few = omega arith; all = λ e. absurd (omega arith) }
fits_in (g ∷ gs) (p ∷ ps) b c gs_from ps_from ok =
    go (is_group p.0 p.1 g) refl (and_parts (list_any (is_group p.0 p.1) (g ∷ gs)) (are_among (g ∷ gs) ps) ok)
    (λ high among. fits_in gs ps (g.1 + 1) (p.1 + 1) gs_from.2 ps_from.2 among)
    (λ among. fits_in gs (p ∷ ps) (g.1 + 1) c gs_from.2 ps_from among)
  where
    go : (t : Bool) → is_group p.0 p.1 g ≡ t → (list_any (is_group p.0 p.1) (g ∷ gs) ≡ true) × (are_among (g ∷ gs) ps ≡ true)
        → (g.0 < p.1 + 1 → are_among gs ps ≡ true → Fits gs ps) → (are_among gs (p ∷ ps) ≡ true → Fits gs (p ∷ ps)) → Fits (g ∷ gs) (p ∷ ps)
    go true t both rest whole =
        let same = same_group p g t in
        let high : g.0 < p.1 + 1 = subst (λ (x : Group). x.0 < p.1 + 1) same (omega (arith, ps_from.1)) in
        let more = rest high (among_rest g gs ps (p.1 + 1) high ps_from.2 both.1) in
        let few = more.few in
        record {
          few = omega arith;
          all = λ e. ap (λ (x : Group). x ∷ ps) same ∙ ap (λ (xs : List Group). g ∷ xs) (more.all (omega (arith, e)));
        }
    go false t both rest whole =
        let here : list_any (is_group p.0 p.1) gs ≡ true = rw t at both.0 in
        let high : g.0 < p.0 = above_first g gs p gs_from.2 gs_from.1 here in
        let tail = among_rest g gs ps (p.1 + 1) (omega (arith, high, ps_from.1)) ps_from.2 both.1 in
        let more = whole (rw (here, tail) refl) in
        let few = more.few in
        record { few = omega arith; all = λ e. absurd (omega (arith, e)) }

-- THE ENTRIES OF A SESSION stand one behind the other
module _ (n s : ℕ) where
  -- behind these entries those of the session begin at b or later
  abbrev Bounds : List Entry → ℕ → Type 0
  Bounds before b = (e : Entry) → e.session ≡ s → list_all (λ d. may_precede (demonstration n) d e) before ≡ true → b ≤ e.first

  in_front : (before : List Entry) (d e : Entry) → list_all (λ x. may_precede (demonstration n) x e) (before ++ d ∷ []) ≡ true
      → (list_all (λ x. may_precede (demonstration n) x e) before ≡ true) × (may_precede (demonstration n) d e ≡ true)
  in_front before d e ok =
      let precedes : Entry → Bool = λ x. may_precede (demonstration n) x e in
      let both = and_parts (list_all precedes before) (list_all precedes (d ∷ [])) (sym (list_all-append precedes before (d ∷ [])) ∙ ok) in
      (both.0, (and_parts (precedes d) true both.1).0)

  bounds_again : (before : List Entry) (b : ℕ) (d : Entry) → Bounds before b → Bounds (before ++ d ∷ []) b
  bounds_again before b d bounds = λ e same ok. bounds e same (in_front before d e ok).0

  bounds_behind : (before : List Entry) (d : Entry) → d.session ≡ s → Bounds (before ++ d ∷ []) (d.last + 1)
  bounds_behind before d here = λ e same ok.
      let precedes = (in_front before d e ok).1 in
      let first = (and_parts (not (d.session == e.session) || nat_lt d.last e.first) _ precedes).0 in
      let one : (d.session == e.session) ≡ true = eq-eqb d.session e.session (here ∙ sym same) in
      let less : nat_lt d.last e.first ≡ true = rw one at first in
      let below : d.last < e.first = ltb-true d.last e.first less in
      omega arith

  -- of groups of which each ends where it begins or later
  module _ (longs : (e : Entry) → e.session ≡ s → is_whole_group (demonstration n) e ≡ true → e.first ≤ e.last) where
    stand_from : (before : List Entry) (b : ℕ) (h : List Entry) → Bounds before b → list_all (is_whole_group (demonstration n)) h ≡ true
        → list_all (are_before n) (with_before_from before h) ≡ true → From b (map group_of (of_session s h))
    stand_from before b [] bounds whole ok = tt
    stand_from before b (e ∷ es) bounds whole ok =
        go (e.session == s) refl (and_parts (is_whole_group (demonstration n) e) (list_all (is_whole_group (demonstration n)) es) whole)
        (and_parts (list_all (λ d. may_precede (demonstration n) d e) before) (list_all (are_before n) (with_before_from (before ++ e ∷ []) es)) ok)
        (λ c next. stand_from (before ++ e ∷ []) c es next)
      where
        go : (t : Bool) → (e.session == s) ≡ t → (is_whole_group (demonstration n) e ≡ true) × (list_all (is_whole_group (demonstration n)) es ≡ true)
            → (list_all (λ d. may_precede (demonstration n) d e) before ≡ true) × (list_all (are_before n) (with_before_from (before ++ e ∷ []) es) ≡ true)
            → ((c : ℕ) → Bounds (before ++ e ∷ []) c → list_all (is_whole_group (demonstration n)) es ≡ true → list_all (are_before n) (with_before_from (before ++ e ∷ []) es) ≡ true → From c (map group_of (of_session s es)))
            → From b (map group_of (of_session s (e ∷ es)))
        go true t wholes orders more =
            let here = eqb-true e.session s t in
            rw t (bounds e here orders.0, longs e here wholes.0, more (e.last + 1) (bounds_behind before e here) wholes.1 orders.1)
        go false t wholes orders more = rw t (more b (bounds_again before b e bounds) wholes.1 orders.1)

  all_among : (h : List Entry) → list_all (is_whole_group (demonstration n)) h ≡ true → are_among (groups_in (demonstration n) s) (map group_of (of_session s h)) ≡ true
  all_among [] whole = refl
  all_among (e ∷ es) whole =
      go (e.session == s) refl (and_parts (is_whole_group (demonstration n) e) (list_all (is_whole_group (demonstration n)) es) whole) (all_among es)
    where
      go : (t : Bool) → (e.session == s) ≡ t → (is_whole_group (demonstration n) e ≡ true) × (list_all (is_whole_group (demonstration n)) es ≡ true)
          → (list_all (is_whole_group (demonstration n)) es ≡ true → are_among (groups_in (demonstration n) s) (map group_of (of_session s es)) ≡ true)
          → are_among (groups_in (demonstration n) s) (map group_of (of_session s (e ∷ es))) ≡ true
      go true t wholes more =
          let here : list_any (is_group e.first e.last) (groups_in (demonstration n) s) ≡ true =
          ap (λ k. list_any (is_group e.first e.last) (groups_in (demonstration n) k)) (sym (eqb-true e.session s t)) ∙ wholes.0 in
          rw (t, here) (more wholes.1)
      go false t wholes more = rw t (more wholes.1)

  -- so they are some of the groups of the session
  fits_session : (gs : List Group) → groups_in (demonstration n) s ≡ gs → From 1 gs → (h : List Entry) → list_all (is_whole_group (demonstration n)) h ≡ true
      → list_all (are_before n) (with_before_from [] h) ≡ true → Fits gs (map group_of (of_session s h))
  fits_session gs groups from h whole ok =
      let longs : (e : Entry) → e.session ≡ s → is_whole_group (demonstration n) e ≡ true → e.first ≤ e.last =
      λ e same is. (from_on gs 1 (group_of e) from (sym (ap (λ (x : List Group). list_any (is_group e.first e.last) x) (ap (groups_in (demonstration n)) same ∙ groups)) ∙ is)).1 in
      fits_in gs (map group_of (of_session s h)) 1 0 from (stand_from longs [] 0 h (λ e same before. omega arith) whole ok)
      (subst (λ (x : List Group). are_among x (map group_of (of_session s h)) ≡ true) groups (all_among h whole))

-- HOW MANY: each entry is of one of seven sessions
one_if : Bool → ℕ
one_if true = 1
one_if false = 0

counts_one : (s : ℕ) (e : Entry) (es : List Entry) → length (of_session s (e ∷ es)) ≡ one_if (e.session == s) + length (of_session s es)
unfolding one_if
counts_one s e es = go (e.session == s) refl
  where
    go : (t : Bool) → (e.session == s) ≡ t → length (of_session s (e ∷ es)) ≡ one_if (e.session == s) + length (of_session s es)
    go true t = rw t (omega arith)
    go false t = rw t (omega arith)

one_of_seven : (n k first last : ℕ) → list_any (is_group first last) (groups_in (demonstration n) k) ≡ true
    → 1 ≡ one_if (k == 1) + one_if (k == 2) + one_if (k == 3) + one_if (k == 4) + one_if (k == 5) + one_if (k == 6) + one_if (k == 7)
unfolding one_if
one_of_seven n zero first last h = absurd (false≢true h)
one_of_seven n (suc zero) first last h = refl
one_of_seven n (suc (suc zero)) first last h = refl
one_of_seven n (suc (suc (suc zero))) first last h = refl
one_of_seven n (suc (suc (suc (suc zero)))) first last h = refl
one_of_seven n (suc (suc (suc (suc (suc zero))))) first last h = refl
one_of_seven n (suc (suc (suc (suc (suc (suc zero)))))) first last h = refl
one_of_seven n (suc (suc (suc (suc (suc (suc (suc zero))))))) first last h = refl
one_of_seven n (suc (suc (suc (suc (suc (suc (suc (suc s)))))))) first last h = absurd (false≢true h)

many_in : (n : ℕ) (h : List Entry) → list_all (is_whole_group (demonstration n)) h ≡ true
    → length h ≡ length (of_session 1 h) + length (of_session 2 h) + length (of_session 3 h) + length (of_session 4 h) + length (of_session 5 h) + length (of_session 6 h) + length (of_session 7 h)
many_in n [] whole = refl
many_in n (e ∷ es) whole =
    let both = and_parts (is_whole_group (demonstration n) e) (list_all (is_whole_group (demonstration n)) es) whole in
    let more = many_in n es both.1 in
    let one = one_of_seven n e.session e.first e.last both.0 in
    let a = counts_one 1 e es in
    let b = counts_one 2 e es in
    let c = counts_one 3 e es in
    let d = counts_one 4 e es in
    let f = counts_one 5 e es in
    let g = counts_one 6 e es in
    let i = counts_one 7 e es in
    omega (arith, more, one, a, b, c, d, f, g, i)

length_of_lone : (m k : ℕ) → length (lone k m) ≡ m
length_of_lone zero k = refl
length_of_lone (suc m) k = ap suc (length_of_lone m (k + 1))

length_of_triples : (m k : ℕ) → length (triples k m) ≡ m
length_of_triples zero k = refl
length_of_triples (suc m) k = ap suc (length_of_triples m (k + 1 + 1 + 1))

-- no entry is of another session
none_there : (n s : ℕ) → groups_in (demonstration n) s ≡ [] → (h : List Entry) → list_all (is_whole_group (demonstration n)) h ≡ true → of_session s h ≡ []
none_there n s none [] whole = refl
none_there n s none (e ∷ es) whole =
    go (e.session == s) refl (and_parts (is_whole_group (demonstration n) e) (list_all (is_whole_group (demonstration n)) es) whole) (none_there n s none es)
  where
    go : (t : Bool) → (e.session == s) ≡ t → (is_whole_group (demonstration n) e ≡ true) × (list_all (is_whole_group (demonstration n)) es ≡ true)
        → (list_all (is_whole_group (demonstration n)) es ≡ true → of_session s es ≡ []) → of_session s (e ∷ es) ≡ []
    go true t wholes more =
        absurd (false≢true (sym (ap (λ (gs : List Group). list_any (is_group e.first e.last) gs) (ap (groups_in (demonstration n)) (eqb-true e.session s t) ∙ none)) ∙ wholes.0))
    go false t wholes more = rw t (more wholes.1)

module _ (n : ℕ) (h : List Entry) (whole : list_all (is_whole_group (demonstration n)) h ≡ true) (ok : list_all (are_before n) (with_before_from [] h) ≡ true) (many : length h ≡ transactions n) where
  first_groups : groups_in (demonstration n) 1 ≡ lone 1 (suc n)
  first_groups = ap (λ (gs : List Group). (1, 1) ∷ gs) (groups_of_openings n 2 1)

  fits_1 : Fits (lone 1 (suc n)) (map group_of (of_session 1 h))
  fits_1 = fits_session n 1 (lone 1 (suc n)) first_groups (lone_from (suc n) 1) h whole ok

  fits_2 : Fits (lone 1 1) (map group_of (of_session 2 h))
  fits_2 = fits_session n 2 (lone 1 1) refl (lone_from 1 1) h whole ok

  fits_3 : Fits (triples 1 n) (map group_of (of_session 3 h))
  fits_3 = fits_session n 3 (triples 1 n) (groups_of_credits 1 (4 * n * 0) n 1 1) (triples_from n 1) h whole ok

  fits_4 : Fits (triples 1 n) (map group_of (of_session 4 h))
  fits_4 = fits_session n 4 (triples 1 n) (groups_of_credits 2 (4 * n * 1) n 1 1) (triples_from n 1) h whole ok

  fits_5 : Fits (triples 1 n) (map group_of (of_session 5 h))
  fits_5 = fits_session n 5 (triples 1 n) (groups_of_credits 3 (4 * n * 2) n 1 1) (triples_from n 1) h whole ok

  fits_6 : Fits (triples 1 n) (map group_of (of_session 6 h))
  fits_6 = fits_session n 6 (triples 1 n) (groups_of_credits 4 (4 * n * 3) n 1 1) (triples_from n 1) h whole ok

  fits_7 : Fits (lone 1 2) (map group_of (of_session 7 h))
  fits_7 = fits_session n 7 (lone 1 2) refl (lone_from 2 1) h whole ok

  record Counts : Type 0 where
    a : length (of_session 1 h) ≡ suc n
    b : length (of_session 2 h) ≡ 1
    c : length (of_session 3 h) ≡ n
    d : length (of_session 4 h) ≡ n
    f : length (of_session 5 h) ≡ n
    g : length (of_session 6 h) ≡ n
    i : length (of_session 7 h) ≡ 2

  counts : Counts
  counts =
      let sum = many_in n h whole in
      let a_few = fits_1.few in
      let b_few = fits_2.few in
      let c_few = fits_3.few in
      let d_few = fits_4.few in
      let f_few = fits_5.few in
      let g_few = fits_6.few in
      let i_few = fits_7.few in
      let a_as = length-map (of_session 1 h) group_of in
      let b_as = length-map (of_session 2 h) group_of in
      let c_as = length-map (of_session 3 h) group_of in
      let d_as = length-map (of_session 4 h) group_of in
      let f_as = length-map (of_session 5 h) group_of in
      let g_as = length-map (of_session 6 h) group_of in
      let i_as = length-map (of_session 7 h) group_of in
      let a_all = length_of_lone (suc n) 1 in
      let t_all = length_of_triples n 1 in
      let a_most : length (of_session 1 h) ≤ suc n = omega arith in
      let b_most : length (of_session 2 h) ≤ 1 = omega arith in
      let c_most : length (of_session 3 h) ≤ n = omega arith in
      let d_most : length (of_session 4 h) ≤ n = omega arith in
      let f_most : length (of_session 5 h) ≤ n = omega arith in
      let g_most : length (of_session 6 h) ≤ n = omega arith in
      let i_most : length (of_session 7 h) ≤ 2 = omega arith in
      record { a = omega arith; b = omega arith; c = omega arith; d = omega arith; f = omega arith; g = omega arith; i = omega arith }

  by_count : (s m : ℕ) (gs : List Group) → Fits gs (map group_of (of_session s h)) → length gs ≡ m → length (of_session s h) ≡ m → map group_of (of_session s h) ≡ gs
  by_count s m gs fits size count = fits.all (length-map (of_session s h) group_of ∙ (count ∙ sym size))

  -- EACH GROUP
  pub each_group : (s : ℕ) → map group_of (of_session s h) ≡ groups_in (demonstration n) s
  each_group zero = ap (map group_of) (none_there n 0 refl h whole)
  each_group (suc zero) = by_count 1 (suc n) (lone 1 (suc n)) fits_1 (length_of_lone (suc n) 1) counts.a ∙ sym first_groups
  each_group (suc (suc zero)) = by_count 2 1 (lone 1 1) fits_2 refl counts.b
  each_group (suc (suc (suc zero))) = by_count 3 n (triples 1 n) fits_3 (length_of_triples n 1) counts.c ∙ sym (groups_of_credits 1 (4 * n * 0) n 1 1)
  each_group (suc (suc (suc (suc zero)))) = by_count 4 n (triples 1 n) fits_4 (length_of_triples n 1) counts.d ∙ sym (groups_of_credits 2 (4 * n * 1) n 1 1)
  each_group (suc (suc (suc (suc (suc zero))))) = by_count 5 n (triples 1 n) fits_5 (length_of_triples n 1) counts.f ∙ sym (groups_of_credits 3 (4 * n * 2) n 1 1)
  each_group (suc (suc (suc (suc (suc (suc zero)))))) = by_count 6 n (triples 1 n) fits_6 (length_of_triples n 1) counts.g ∙ sym (groups_of_credits 4 (4 * n * 3) n 1 1)
  each_group (suc (suc (suc (suc (suc (suc (suc zero))))))) = by_count 7 2 (lone 1 2) fits_7 refl counts.i
  each_group (suc (suc (suc (suc (suc (suc (suc (suc s)))))))) = ap (map group_of) (none_there n (suc (suc (suc (suc (suc (suc (suc (suc s)))))))) refl h whole)
