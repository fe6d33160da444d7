-- How many pages and rows there are, and how many rows above half a page.
use Rattle.std.proofs.Common.{◌≡◌, ℕ, zero, suc, ◌+◌, ◌-◌, ◌*◌, ◌<◌, ◌≤◌, true, false, nat_lt, List, [], ◌∷◌, ◌++◌, length, get_or, set, refl, sym, ap, arith, insert, IsTrue}
use Rattle.std.specs.List.{list_all, remove}
use Rattle.std.proofs.lemmas.Bool.{and_parts, and_from, false≢true, ltb-true, lt-ltb}
use Rattle.std.proofs.lemmas.List.{length-append}
use Rattle.bf_heap.specs.Heaps.{Entry}
use Rattle.bf_heap.specs.Pages.{rows_of, is_empty_page, is_used_page, above_half}

pub over_within : (pages : List (List Entry)) → above_half pages ≤ length (rows_of pages)
over_within [] = omega arith
over_within (p ∷ ps) = omega (arith, length-append p (rows_of ps), over_within ps)

pub pages_within : (pages : List (List Entry)) → IsTrue (list_all is_used_page pages) → length pages ≤ length (rows_of pages)
pages_within [] h = omega arith
pages_within ([] ∷ ps) h = absurd (false≢true (and_parts false (list_all is_used_page ps) h).0)
pages_within ((e ∷ es) ∷ ps) h = omega (arith, length-append (e ∷ es) (rows_of ps), pages_within ps (and_parts (nat_lt (length es) 64) (list_all is_used_page ps) h).1)

pub small_page : (q : List Entry) → is_used_page q ≡ true → length q ≤ 64
small_page [] used = absurd (false≢true used)
small_page (e ∷ es) used = omega (arith, ltb-true (length es) 64 used)

pub rows_within : (pages : List (List Entry)) → IsTrue (list_all is_used_page pages) → length (rows_of pages) ≤ 64 * length pages
rows_within [] h = omega arith
rows_within (p ∷ ps) h =
    let parts = and_parts (is_used_page p) (list_all is_used_page ps) h in
    omega (arith, length-append p (rows_of ps), small_page p parts.0, rows_within ps parts.1)

pub page_within : (pages : List (List Entry)) (i : ℕ) → IsTrue (list_all is_used_page pages) → i < length pages → length (get_or pages i []) ≤ 64
page_within [] i h within = absurd (omega arith)
page_within (p ∷ ps) zero h within = small_page p (and_parts (is_used_page p) (list_all is_used_page ps) h).0
page_within (p ∷ ps) (suc i) h within = page_within ps i (and_parts (is_used_page p) (list_all is_used_page ps) h).1 (omega arith)

pub over-set : (pages : List (List Entry)) (i : ℕ) (q : List Entry) → i < length pages → above_half (set pages i q) + (length (get_or pages i []) - 32) ≡ above_half pages + (length q - 32)
over-set [] i q within = absurd (omega arith)
over-set (p ∷ ps) zero q within = omega arith
over-set (p ∷ ps) (suc i) q within = omega (arith, over-set ps i q (omega arith))

pub over-insert : (pages : List (List Entry)) (i : ℕ) (q : List Entry) → above_half (insert pages i q) ≡ above_half pages + (length q - 32)
over-insert [] zero q = omega arith
over-insert [] (suc i) q = omega arith
over-insert (p ∷ ps) zero q = omega arith
over-insert (p ∷ ps) (suc i) q = omega (arith, over-insert ps i q)

used_page : (q : List Entry) → 0 < length q → length q ≤ 64 → is_used_page q ≡ true
used_page [] some few = absurd (omega arith)
used_page (e ∷ es) some few = lt-ltb (length es) 64 (omega (arith, few))

pub used-set : (pages : List (List Entry)) (i : ℕ) (q : List Entry) → 0 < length q → length q ≤ 64 → IsTrue (list_all is_used_page pages) → IsTrue (list_all is_used_page (set pages i q))
used-set [] i q some few h = refl
used-set (p ∷ ps) zero q some few h = and_from _ _ (used_page q some few) (and_parts (is_used_page p) (list_all is_used_page ps) h).1
used-set (p ∷ ps) (suc i) q some few h =
    let parts = and_parts (is_used_page p) (list_all is_used_page ps) h in
    and_from _ _ parts.0 (used-set ps i q some few parts.1)

pub used-insert : (pages : List (List Entry)) (i : ℕ) (q : List Entry) → 0 < length q → length q ≤ 64 → IsTrue (list_all is_used_page pages) → IsTrue (list_all is_used_page (insert pages i q))
used-insert [] zero q some few h = and_from _ _ (used_page q some few) refl
used-insert [] (suc i) q some few h = and_from _ _ (used_page q some few) refl
used-insert (p ∷ ps) zero q some few h = and_from _ _ (used_page q some few) h
used-insert (p ∷ ps) (suc i) q some few h =
    let parts = and_parts (is_used_page p) (list_all is_used_page ps) h in
    and_from _ _ parts.0 (used-insert ps i q some few parts.1)

-- the last of the spare pages has no rows, and neither have those before it
pub last_unused : (spares : List (List Entry)) (page : List Entry) → IsTrue (list_all is_empty_page (spares ++ page ∷ [])) → IsTrue (list_all is_empty_page spares) × (page ≡ [])
last_unused [] [] h = (refl, refl)
last_unused [] (e ∷ es) h = absurd (false≢true h)
last_unused (p ∷ ps) page h =
    let parts = and_parts (is_empty_page p) (list_all is_empty_page (ps ++ page ∷ [])) h in
    let rest = last_unused ps page parts.1 in
    (and_from _ _ parts.0 rest.0, rest.1)

-- a page without rows that leaves
pub over-leave : (pages : List (List Entry)) (i : ℕ) (q : List Entry) → i < length pages → above_half (remove (set pages i q) i) + (length (get_or pages i []) - 32) ≡ above_half pages
over-leave [] i q within = absurd (omega arith)
over-leave (p ∷ ps) zero q within = omega arith
over-leave (p ∷ ps) (suc i) q within = omega (arith, over-leave ps i q (omega arith))

pub used-leave : (pages : List (List Entry)) (i : ℕ) (q : List Entry) → IsTrue (list_all is_used_page pages) → IsTrue (list_all is_used_page (remove (set pages i q) i))
used-leave [] zero q h = refl
used-leave [] (suc i) q h = refl
used-leave (p ∷ ps) zero q h = (and_parts (is_used_page p) (list_all is_used_page ps) h).1
used-leave (p ∷ ps) (suc i) q h =
    let parts = and_parts (is_used_page p) (list_all is_used_page ps) h in
    and_from _ _ parts.0 (used-leave ps i q parts.1)

pub rows-leave : (pages : List (List Entry)) (i : ℕ) (q : List Entry) → i < length pages → q ≡ [] → rows_of (remove (set pages i q) i) ≡ rows_of (set pages i q)
rows-leave [] i q within none = absurd (omega arith)
rows-leave (p ∷ ps) zero q within none = ap (λ (z : List Entry). z ++ rows_of ps) (sym none)
rows-leave (p ∷ ps) (suc i) q within none = ap (λ zs. p ++ zs) (rows-leave ps i q (omega arith) none)

pub one_unused : (spares : List (List Entry)) (page : List Entry) → page ≡ [] → IsTrue (list_all is_empty_page spares) → IsTrue (list_all is_empty_page (spares ++ page ∷ []))
one_unused [] page none h = and_from _ _ (ap is_empty_page none) refl
one_unused (p ∷ ps) page none h =
    let parts = and_parts (is_empty_page p) (list_all is_empty_page ps) h in
    and_from _ _ parts.0 (one_unused ps page none parts.1)
