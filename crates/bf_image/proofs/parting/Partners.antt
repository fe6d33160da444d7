-- The place that ON makes equal to a place, by the places of its pairs.
use Rattle.std.proofs.Common.{◌≡◌, ℕ, ◌+◌, ◌<◌, ◌≢◌, true, false, if◌then◌else◌, List, [], ◌∷◌, map, length, get_or, drop, refl, sym, ap, ap₂, nat_eq, arith}
use Rattle.std.proofs.lemmas.Bool.{eq-eqb}
use Rattle.std.proofs.lemmas.Bool.Decides.{nat_tests}
use Rattle.std.proofs.lemmas.List.{drop_more}
use Rattle.bf_tree.specs.declared.raw.Ref.{Ref}
use Rattle.bf_sql.specs.Scopes.{Scope, place_of}
use Rattle.bf_sql.specs.migrations.Placed.{placed_pair}
use Rattle.bf_image.specs.Lookup.{partner}

-- the place beside the first that is the same
abbrev pub placed_partner : List (ℕ × ℕ) → ℕ → ℕ
placed_partner [] p = p
placed_partner (pair ∷ on) p = if nat_eq p pair.0 then pair.1 else (if nat_eq p pair.1 then pair.0 else placed_partner on p)

pub partner_placed : (scope : Scope) (pairs : List (Ref × Ref)) (p : ℕ) → placed_partner (map (placed_pair scope) pairs) p ≡ partner scope pairs p
partner_placed scope [] p = refl
partner_placed scope (e ∷ pairs) p = ap (λ q. if nat_eq p (place_of scope e.0) then place_of scope e.1 else (if nat_eq p (place_of scope e.1) then place_of scope e.0 else q)) (partner_placed scope pairs p)

-- a pair on either side, or one that does not name the place
pub on_left : (pair : ℕ × ℕ) (on : List (ℕ × ℕ)) (p : ℕ) → pair.0 ≡ p → placed_partner (pair ∷ on) p ≡ pair.1
on_left pair on p same = let e : nat_eq p pair.0 ≡ true = eq-eqb _ _ (sym same) in ap (λ b. if b then pair.1 else (if nat_eq p pair.1 then pair.0 else placed_partner on p)) e

pub on_right : (pair : ℕ × ℕ) (on : List (ℕ × ℕ)) (p : ℕ) → pair.0 ≢ p → pair.1 ≡ p → placed_partner (pair ∷ on) p ≡ pair.0
on_right pair on p other same =
    let l : nat_eq p pair.0 ≡ false = grind (arith, nat_tests) in
    let r : nat_eq p pair.1 ≡ true = eq-eqb _ _ (sym same) in
    ap₂ (λ b c. if b then pair.1 else (if c then pair.0 else placed_partner on p)) l r

pub on_neither : (pair : ℕ × ℕ) (on : List (ℕ × ℕ)) (p : ℕ) → pair.0 ≢ p → pair.1 ≢ p → placed_partner (pair ∷ on) p ≡ placed_partner on p
on_neither pair on p other another =
    let l : nat_eq p pair.0 ≡ false = grind (arith, nat_tests) in
    let r : nat_eq p pair.1 ≡ false = grind (arith, nat_tests) in
    ap₂ (λ b c. if b then pair.1 else (if c then pair.0 else placed_partner on p)) l r

-- the pair at a place of the list comes first among those that are left
pub at_front : (on : List (ℕ × ℕ)) (i p : ℕ) (d : ℕ × ℕ) → i < length on → placed_partner (drop i on) p ≡ placed_partner (get_or on i d ∷ drop (i + 1) on) p
at_front on i p d within = ap (λ ps. placed_partner ps p) (drop_more on i d within)
