-- What ranks tell of keys: the first key of a page does not come behind a key of a greater rank, and does behind one of a lesser.
use Rattle.std.proofs.Common.{◌≡◌, ◌<◌, take, ℤ, pos, negsuc, true, false, List, [], ◌∷◌, Less, Greater, sym, subst, refl, arith, ◌<ℤ◌}
use Rattle.std.proofs.lemmas.Int.{ints}
use Rattle.std.proofs.lemmas.Cmp.{int_ranked}
use Rattle.std.specs.Int.{w64}
use Rattle.std.specs.Int.RustNames.{FitsSigned}
use Rattle.std.specs.Ordering.{int_cmp}
use Rattle.bf_base.specs.declared.value.Value.{Value}
use Rattle.bf_base.specs.declared.value.Value.TheVariants.{Int, Text}
use Rattle.bf_heap.specs.Heaps.{Entry}
use Rattle.bf_base.specs.Values.{rank_of}
use Rattle.bf_heap.specs.Pages.{begins_behind, rank_of_page}

none_below : (z : ℤ) → FitsSigned w64 z → z <ℤ negsuc 9223372036854775807 → ⊥
none_below (pos n) fits below = absurd below.lt
none_below (negsuc n) fits below =
    let bound : n < 9223372036854775808 = fits.sfits in
    omega (arith, ints, below, bound)

none_above : (z : ℤ) → FitsSigned w64 z → pos 9223372036854775807 <ℤ z → ⊥
none_above (pos n) fits above =
    let bound : n < 9223372036854775808 = fits.sfits in
    omega (arith, ints, above, bound)
none_above (negsuc n) fits above = absurd above.lt

pub not_behind : (page : List Entry) (key : List Value) → FitsSigned w64 (rank_of_page page) → FitsSigned w64 (rank_of key) → int_cmp (rank_of_page page) (rank_of key) ≡ Less → begins_behind key page ≡ false
not_behind [] key f g less = refl
not_behind (([], row) ∷ es) [] f g less = refl
not_behind (([], row) ∷ es) (y ∷ ys) f g less = refl
not_behind ((Int x ∷ xs, row) ∷ es) [] f g less = absurd (none_below x f (int_ranked x (rank_of []) Less (sym less)))
not_behind ((Int x ∷ xs, row) ∷ es) (Int y ∷ ys) f g less = rw less refl
not_behind ((Int x ∷ xs, row) ∷ es) (Text t ∷ ys) f g less = refl
not_behind ((Text s ∷ xs, row) ∷ es) [] f g less = absurd cc
not_behind ((Text s ∷ xs, row) ∷ es) (Int y ∷ ys) f g less = absurd (none_above y g (int_ranked (rank_of (Text s ∷ xs)) y Less (sym less)))
not_behind ((Text s ∷ xs, row) ∷ es) (Text t ∷ ys) f g less = absurd cc

pub is_behind : (page : List Entry) (key : List Value) → FitsSigned w64 (rank_of_page page) → FitsSigned w64 (rank_of key) → int_cmp (rank_of_page page) (rank_of key) ≡ Greater → begins_behind key page ≡ true
is_behind [] key f g more = absurd (none_below (rank_of key) g (int_ranked (rank_of []) (rank_of key) Greater (sym more)))
is_behind (([], row) ∷ es) key f g more = absurd (none_below (rank_of key) g (int_ranked (rank_of []) (rank_of key) Greater (sym more)))
is_behind ((Int x ∷ xs, row) ∷ es) [] f g more = refl
is_behind ((Int x ∷ xs, row) ∷ es) (Int y ∷ ys) f g more = rw more refl
is_behind ((Int x ∷ xs, row) ∷ es) (Text t ∷ ys) f g more = absurd (none_above x f (int_ranked x (rank_of (Text t ∷ ys)) Greater (sym more)))
is_behind ((Text s ∷ xs, row) ∷ es) [] f g more = refl
is_behind ((Text s ∷ xs, row) ∷ es) (Int y ∷ ys) f g more = refl
is_behind ((Text s ∷ xs, row) ∷ es) (Text t ∷ ys) f g more = absurd cc

pub not_behind_by : (page : List Entry) (key : List Value) (r s : ℤ) → r ≡ rank_of_page page → s ≡ rank_of key → FitsSigned w64 r → FitsSigned w64 s → int_cmp r s ≡ Less → false ≡ begins_behind key page
not_behind_by page key r s a b f g less =
    sym (not_behind page key (subst (λ z. FitsSigned w64 z) a f) (subst (λ z. FitsSigned w64 z) b g) (subst (λ z. int_cmp z (rank_of key) ≡ Less) a (subst (λ z. int_cmp r z ≡ Less) b less)))

pub is_behind_by : (page : List Entry) (key : List Value) (r s : ℤ) → r ≡ rank_of_page page → s ≡ rank_of key → FitsSigned w64 r → FitsSigned w64 s → int_cmp r s ≡ Greater → true ≡ begins_behind key page
is_behind_by page key r s a b f g more =
    sym (is_behind page key (subst (λ z. FitsSigned w64 z) a f) (subst (λ z. FitsSigned w64 z) b g) (subst (λ z. int_cmp z (rank_of key) ≡ Greater) a (subst (λ z. int_cmp r z ≡ Greater) b more)))

-- the front of a page has its rank
pub front_taken : (page : List Entry) → rank_of_page (take 32 page) ≡ rank_of_page page
front_taken [] = refl
front_taken (e ∷ es) = refl
