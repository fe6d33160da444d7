-- The order of granules, as it is derived.
use Rattle.std.proofs.Common.{◌≡◌, ℕ, ◌==◌, ◌&&◌, Ordering, Less, Equal, is_eq, nat_cmp, refl, ap₂, ◌∙◌, arith}
use Rattle.std.specs.Cmp.{IsTotalOrder, tied_then}
use Rattle.std.specs.Ordering.{ordering_reverse}
use Rattle.std.proofs.lemmas.Bool.Decides.{nat_tests}
use Rattle.std.proofs.lemmas.Cmp.{nat_cmp_total, on_total, then_total}
use Rattle.bf_base.specs.declared.granule.Granule.{Granule}
use Rattle.bf_base.specs.declared.granule.Place.{Place}
use Rattle.bf_base.specs.declared.granule.Place.TheVariants.{Row, Group}
use Rattle.bf_base.specs.contracts.granule.GranuleOrd.TheImpl as derived
use Rattle.bf_base.specs.Values.{key_cmp_total}
use Rattle.bf_sql.specs.migrations.Granules.{same_granule, same_place}
use Rattle.bf_store.specs.States.{granule_cmp, place_cmp}

abbrev pub derived_cmp : Granule → Granule → Ordering
derived_cmp g h = (derived.cmp-value).it g h

at_places : (u v : ℕ) (p q : Place) → derived_cmp (record { unit = u; place = p }) (record { unit = v; place = q }) ≡ granule_cmp (record { unit = u; place = p }) (record { unit = v; place = q })
at_places u v (Row m) (Row n) = refl
at_places u v (Row m) (Group w) = refl
at_places u v (Group w) (Row n) = refl
at_places u v (Group v') (Group w) = refl

-- it is the order of unit and place
pub derived_is : derived_cmp ≡ granule_cmp
derived_is i g h = at_places g.unit h.unit g.place h.place i

place_antisymm : (p q : Place) → place_cmp p q ≡ ordering_reverse (place_cmp q p)
place_antisymm (Row m) (Row n) = nat_cmp_total.antisymm m n
place_antisymm (Row m) (Group w) = refl
place_antisymm (Group v) (Row n) = refl
place_antisymm (Group v) (Group w) = key_cmp_total.antisymm v w

place_trans : (p q r : Place) → place_cmp p q ≡ Less → place_cmp q r ≡ Less → place_cmp p r ≡ Less
place_trans (Row l) (Row m) (Row n) a b = nat_cmp_total.trans l m n a b
place_trans (Row l) (Row m) (Group w) a b = refl
place_trans (Row l) (Group v) (Row n) a b = absurd cc
place_trans (Row l) (Group v) (Group w) a b = refl
place_trans (Group u) (Row m) r a b = absurd cc
place_trans (Group u) (Group v) (Row n) a b = absurd cc
place_trans (Group u) (Group v) (Group w) a b = key_cmp_total.trans u v w a b

place_congr : (p q r : Place) → place_cmp p q ≡ Equal → place_cmp p r ≡ place_cmp q r
place_congr (Row l) (Row m) (Row n) e = nat_cmp_total.congr l m n e
place_congr (Row l) (Row m) (Group w) e = refl
place_congr (Row l) (Group v) r e = absurd cc
place_congr (Group u) (Row m) r e = absurd cc
place_congr (Group u) (Group v) (Row n) e = refl
place_congr (Group u) (Group v) (Group w) e = key_cmp_total.congr u v w e

place_cmp_total : IsTotalOrder place_cmp
place_cmp_total = record { antisymm = place_antisymm; trans = place_trans; congr = place_congr }

pub granule_cmp_total : IsTotalOrder granule_cmp
granule_cmp_total = then_total (on_total (λ g. g.unit) nat_cmp_total) (on_total (λ g. g.place) place_cmp_total)

-- granules tie exactly where they are the same
same_unit : (a b : ℕ) → (a == b) ≡ is_eq (nat_cmp a b)
same_unit a b = grind (arith, nat_tests)

place_ties : (p q : Place) → same_place p q ≡ is_eq (place_cmp p q)
place_ties (Row m) (Row n) = same_unit m n
place_ties (Row m) (Group w) = refl
place_ties (Group v) (Row n) = refl
place_ties (Group v) (Group w) = refl

pub granule_ties : (g h : Granule) → same_granule g h ≡ is_eq (granule_cmp g h)
granule_ties g h = ap₂ (λ b c. b && c) (same_unit g.unit h.unit) (place_ties g.place h.place) ∙ tied_then (nat_cmp g.unit h.unit) (place_cmp g.place h.place)
