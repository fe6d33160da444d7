-- The owner of a key is found by look-ups.
use Rattle.std.proofs.Common.{◌≡◌, ℕ, ◌+◌, Bool, true, false, ◌&&◌, ◌||◌, ◌==◌, cond, List, [], ◌∷◌, ◌++◌, map, filter, flat_map, find, length, Option, Some, None, refl, sym, ap, ap₂, ◌∙◌, append_assoc}
use Rattle.std.specs.Prelude.{slice_get}
use Rattle.std.specs.List.{list_any, list_all, enumerate_from, AllByRecursion}
use Rattle.std.specs.Option.{option_to_list}
use Rattle.std.proofs.lemmas.Bool.{and_parts, and_from, or_parts, or_from, or_left, or_right, not-true, false≢true, eqb-true, eq-eqb}
use Rattle.std.proofs.lemmas.List.Folds.{list_any-append}
use Rattle.bf_base.specs.declared.granule.Place.{Place}
use Rattle.bf_base.specs.declared.granule.Place.TheVariants.{Row, Group}
use Rattle.bf_base.specs.declared.granule.Granule.{Granule}
use Rattle.bf_base.specs.Lists.{has}
use Rattle.bf_base.proofs.Apart.{are_apart}
use Rattle.bf_base.proofs.Order.{list_any-map}
use Rattle.bf_sql.specs.migrations.Granules.{UnitForm, granule, same_place, same_granule}
use Rattle.bf_image.proofs.making.Arms.{key-equal, key-itself}
use Rattle.bf_image.proofs.cutting.Parts.{at_seam, one_longer}

pub alone_true : (b : Bool) → (b || false) ≡ true → b ≡ true
alone_true true e = refl
alone_true false e = absurd (false≢true e)

same_place-equal : (p q : Place) → same_place p q ≡ true → p ≡ q
same_place-equal (Row m) (Row n) e = ap Row (eqb-true m n e)
same_place-equal (Row m) (Group w) e = absurd (false≢true e)
same_place-equal (Group v) (Row n) e = absurd (false≢true e)
same_place-equal (Group v) (Group w) e = ap Group (key-equal v w e)

same_place-itself : (p : Place) → same_place p p ≡ true
same_place-itself (Row m) = eq-eqb m m refl
same_place-itself (Group v) = key-itself v

pub same_granule-equal : (g h : Granule) → same_granule g h ≡ true → g ≡ h
same_granule-equal g h e =
    let unit = eqb-true g.unit h.unit (and_parts _ _ e).0 in
    let place = same_place-equal g.place h.place (and_parts _ _ e).1 in
    λ i. record { unit = unit i; place = place i }

pub same_granule-itself : (g : Granule) → same_granule g g ≡ true
same_granule-itself g = and_from _ _ (eq-eqb g.unit g.unit refl) (same_place-itself g.place)

-- some item of a block passes
pub any_of_blocks : {X Y : Type 0} (p : Y → Bool) (q ok : X → Bool) (f : X → List Y) → ((x : X) → ok x ≡ true → list_any p (f x) ≡ true → q x ≡ true) → (xs : List X) → list_all ok xs ≡ true → list_any p (flat_map f xs) ≡ true → list_any q xs ≡ true
any_of_blocks p q ok f one [] all some = absurd (false≢true some)
any_of_blocks p q ok f one (x ∷ xs) all some = of (list_any p (f x)) refl (any_of_blocks p q ok f one xs (and_parts _ _ all).1)
  where
    of : (b : Bool) → list_any p (f x) ≡ b → (list_any p (flat_map f xs) ≡ true → list_any q xs ≡ true) → (q x || list_any q xs) ≡ true
    of true at rest = or_left _ _ (one x (and_parts _ _ all).0 at)
    of false at rest = or_right _ _ (rest (sym (ap (λ b. b || list_any p (flat_map f xs)) at) ∙ sym (list_any-append p (f x) (flat_map f xs)) ∙ some))

pub any_of_each : {X Y : Type 0} (p : Y → Bool) (q : X → Bool) (P : X → Type 0) (f : X → List Y) → ((x : X) → P x → list_any p (f x) ≡ true → q x ≡ true) → (xs : List X) → AllByRecursion P xs → list_any p (flat_map f xs) ≡ true → list_any q xs ≡ true
any_of_each p q P f one [] all some = absurd (false≢true some)
any_of_each p q P f one (x ∷ xs) all some = of (list_any p (f x)) refl (any_of_each p q P f one xs all.1)
  where
    of : (b : Bool) → list_any p (f x) ≡ b → (list_any p (flat_map f xs) ≡ true → list_any q xs ≡ true) → (q x || list_any q xs) ≡ true
    of true at rest = or_left _ _ (one x all.0 at)
    of false at rest = or_right _ _ (rest (sym (ap (λ b. b || list_any p (flat_map f xs)) at) ∙ sym (list_any-append p (f x) (flat_map f xs)) ∙ some))

pub any_always : {X : Type 0} (b : Bool) (xs : List X) → list_any (λ x. b) xs ≡ true → b ≡ true
any_always b [] e = absurd (false≢true e)
any_always true (x ∷ xs) e = refl
any_always false (x ∷ xs) e = any_always false xs e

module _ {X K : Type 0} (same : K → K → Bool) (equal : (a b : K) → same a b ≡ true → a ≡ b) (itself : (a : K) → same a a ≡ true) (key : X → K) (k : K) where
  abbrev pub has_key : X → Bool
  has_key x = same k (key x)

  pub none_other : (x : X) (xs : List X) → has_key x ≡ true → has same (map key xs) (key x) ≡ false → list_any has_key xs ≡ false
  none_other x xs is none = sym (list_any-map (same k) key xs) ∙ ap (has same (map key xs)) (equal k (key x) is) ∙ none

  -- the first item with a key is the only one
  pub found_apart : (c : X → Bool) (xs : List X) → are_apart same (map key xs) ≡ true → list_any (λ x. c x && has_key x) xs ≡ true → (x : X) × (find has_key xs ≡ Some x) × (c x ≡ true)
  found_apart c [] apart some = absurd (false≢true some)
  found_apart c (x ∷ xs) apart some = of (has_key x) refl (found_apart c xs (and_parts _ _ apart).1)
    where
      never : (ys : List X) → list_any has_key ys ≡ false → list_any (λ x. c x && has_key x) ys ≡ false
      never [] none = refl
      never (y ∷ ys) none = or_from _ _ (off (c y) (or_parts _ _ none).0) (never ys (or_parts _ _ none).1)
        where
          off : (b : Bool) → has_key y ≡ false → (b && has_key y) ≡ false
          off true e = e
          off false e = refl

      first_of : (b : Bool) → c x ≡ b → has_key x ≡ true → c x ≡ true
      first_of true at is = at
      first_of false at is = absurd (false≢true (sym (ap₂ (λ b d. b || d) (ap (λ b. b && has_key x) at) (never xs (none_other x xs is (not-true _ (and_parts _ _ apart).0)))) ∙ some))

      of : (b : Bool) → has_key x ≡ b → (list_any (λ x. c x && has_key x) xs ≡ true → (x : X) × (find has_key xs ≡ Some x) × (c x ≡ true)) → (y : X) × (find has_key (x ∷ xs) ≡ Some y) × (c y ≡ true)
      of true at rest = (x, ap (λ b. cond b (Some x) (find has_key xs)) at, first_of (c x) refl at)
      of false at rest =
          let (y, found, fine) = rest (sym (ap₂ (λ b d. b || d) (off (c x) at) refl) ∙ some) in
          (y, ap (λ b. cond b (Some x) (find has_key xs)) at ∙ found, fine)
        where
          off : (b : Bool) → has_key x ≡ false → (b && has_key x) ≡ false
          off true e = e
          off false e = refl

-- granules by numbered units
module _ (units : List UnitForm) (own : Option UnitForm → Place → Bool) (P : UnitForm → Type 0) (ps qs : UnitForm → List Place)
    (within : (u : UnitForm) (place : Place) → P u → own (Some u) place ≡ true → has same_place (ps u) place ≡ true → has same_place (qs u) place ≡ true)
  where
    abbrev among : (UnitForm → List Place) → List (ℕ × UnitForm) → Granule → Bool
    among places us g = has same_granule (flat_map (λ u. map (granule u.0) (places u.1)) us) g

    of_unit : (n : ℕ) (places : List Place) (g : Granule) → has same_granule (map (granule n) places) g ≡ (g.unit == n && has same_place places g.place)
    of_unit n [] g = off (g.unit == n)
      where
        off : (b : Bool) → false ≡ (b && false)
        off true = refl
        off false = refl
    of_unit n (p ∷ places) g = ap (λ b. (g.unit == n && same_place g.place p) || b) (of_unit n places g) ∙ spread (g.unit == n) (same_place g.place p) (has same_place places g.place)
      where
        spread : (a b c : Bool) → ((a && b) || (a && c)) ≡ (a && (b || c))
        spread true b c = refl
        spread false b c = refl

    carried_from : (before us : List UnitForm) (n : ℕ) → before ++ us ≡ units → length before ≡ n → AllByRecursion P us → (g : Granule) → own (slice_get units g.unit) g.place ≡ true
        → among ps (enumerate_from n us) g ≡ true → among qs (enumerate_from n us) g ≡ true
    carried_from before [] n e len fine g owned there = there
    carried_from before (u ∷ us) n e len fine g owned there =
        of (has same_granule (map (granule n) (ps u)) g) refl
        (carried_from (before ++ u ∷ []) us (n + 1) (append_assoc before (u ∷ []) us ∙ e) (one_longer before u ∙ ap (λ k. k + 1) len) fine.1 g owned)
      where
        of : (b : Bool) → has same_granule (map (granule n) (ps u)) g ≡ b → (among ps (enumerate_from (n + 1) us) g ≡ true → among qs (enumerate_from (n + 1) us) g ≡ true) → among qs ((n, u) ∷ enumerate_from (n + 1) us) g ≡ true
        of true at rest =
            let parts = and_parts (g.unit == n) (has same_place (ps u) g.place) (sym (of_unit n (ps u) g) ∙ at) in
            let number = eqb-true g.unit n parts.0 in
            let here : slice_get units g.unit ≡ Some u = ap₂ (λ us k. slice_get us k) (sym e) (number ∙ sym len) ∙ at_seam before u us in
            let mine = within u g.place fine.0 (ap (λ o. own o g.place) (sym here) ∙ owned) parts.1 in
            list_any-append (same_granule g) (map (granule n) (qs u)) (flat_map (λ u. map (granule u.0) (qs u.1)) (enumerate_from (n + 1) us))
            ∙ or_left _ _ (of_unit n (qs u) g ∙ and_from _ _ parts.0 mine)
        of false at rest =
            let later : among ps (enumerate_from (n + 1) us) g ≡ true =
            sym (ap (λ b. b || among ps (enumerate_from (n + 1) us) g) at) ∙ sym (list_any-append (same_granule g) (map (granule n) (ps u)) (flat_map (λ u. map (granule u.0) (ps u.1)) (enumerate_from (n + 1) us))) ∙ there in
            list_any-append (same_granule g) (map (granule n) (qs u)) (flat_map (λ u. map (granule u.0) (qs u.1)) (enumerate_from (n + 1) us))
            ∙ or_right _ _ (rest later)

    pub carried : AllByRecursion P units → (g : Granule) → own (slice_get units g.unit) g.place ≡ true → among ps (enumerate_from 0 units) g ≡ true → among qs (enumerate_from 0 units) g ≡ true
    carried fine g owned there = carried_from [] units 0 refl refl fine g owned there

-- two lists with the same owners have the same first owner, where it is one
pub same_find : (owns : Granule → Bool) (gs cs : List Granule)
    → filter owns gs ≡ option_to_list (find owns gs)
    → ((g : Granule) → owns g ≡ true → has same_granule gs g ≡ true → has same_granule cs g ≡ true)
    → ((g : Granule) → owns g ≡ true → has same_granule cs g ≡ true → has same_granule gs g ≡ true)
    → find owns gs ≡ find owns cs
same_find owns gs cs one there back = of (find owns gs) refl (find owns cs) refl
  where
    found_has : (xs : List Granule) (g : Granule) → find owns xs ≡ Some g → (owns g ≡ true) × (has same_granule xs g ≡ true)
    found_has [] g e = absurd cc
    found_has (x ∷ xs) g e = at (owns x) refl (found_has xs g)
      where
        at : (b : Bool) → owns x ≡ b → (find owns xs ≡ Some g → (owns g ≡ true) × (has same_granule xs g ≡ true)) → (owns g ≡ true) × (has same_granule (x ∷ xs) g ≡ true)
        at true is rest =
            let e' : Some x ≡ Some g = sym (ap (λ b. cond b (Some x) (find owns xs)) is) ∙ e in
            let same : x ≡ g = cc in
            (ap owns (sym same) ∙ is, or_left _ _ (ap (same_granule g) same ∙ same_granule-itself g))
        at false is rest =
            let both = rest (sym (ap (λ b. cond b (Some x) (find owns xs)) is) ∙ e) in
            (both.0, or_right _ _ both.1)

    none_has : (xs : List Granule) (g : Granule) → find owns xs ≡ None → owns g ≡ true → has same_granule xs g ≡ false
    none_has [] g e is = refl
    none_has (x ∷ xs) g e is = at (owns x) refl (none_has xs g)
      where
        other : (b : Bool) → same_granule g x ≡ b → owns x ≡ false → same_granule g x ≡ false
        other true same off = absurd (false≢true (sym off ∙ ap owns (sym (same_granule-equal g x same)) ∙ is))
        other false same off = same

        at : (b : Bool) → owns x ≡ b → (find owns xs ≡ None → owns g ≡ true → has same_granule xs g ≡ false) → (same_granule g x || has same_granule xs g) ≡ false
        at true on rest = let e' : Some x ≡ None = sym (ap (λ b. cond b (Some x) (find owns xs)) on) ∙ e in absurd cc
        at false on rest = or_from _ _ (other (same_granule g x) refl on) (rest (sym (ap (λ b. cond b (Some x) (find owns xs)) on) ∙ e) is)

    only : (xs : List Granule) (g h : Granule) → filter owns xs ≡ h ∷ [] → owns g ≡ true → has same_granule xs g ≡ true → g ≡ h
    only xs g h e is in_xs = same_granule-equal g h (single (sym (ap (λ zs. has same_granule zs g) e) ∙ kept xs in_xs))
      where
        single : (same_granule g h || false) ≡ true → same_granule g h ≡ true
        single s = alone_true (same_granule g h) s

        kept : (ys : List Granule) → has same_granule ys g ≡ true → has same_granule (filter owns ys) g ≡ true
        kept [] s = s
        kept (y ∷ ys) s = at (owns y) refl (kept ys)
          where
            tail : (b : Bool) → same_granule g y ≡ b → owns y ≡ false → has same_granule ys g ≡ true
            tail true same off = absurd (false≢true (sym off ∙ ap owns (sym (same_granule-equal g y same)) ∙ is))
            tail false same off = sym (ap (λ b. b || has same_granule ys g) same) ∙ s

            at : (b : Bool) → owns y ≡ b → (has same_granule ys g ≡ true → has same_granule (filter owns ys) g ≡ true) → has same_granule (cond (owns y) (y ∷ filter owns ys) (filter owns ys)) g ≡ true
            at true on rest = ap (λ b. has same_granule (cond b (y ∷ filter owns ys) (filter owns ys)) g) on ∙ first (same_granule g y) refl rest
              where
                first : (b : Bool) → same_granule g y ≡ b → (has same_granule ys g ≡ true → has same_granule (filter owns ys) g ≡ true) → (same_granule g y || has same_granule (filter owns ys) g) ≡ true
                first true same rest = or_left _ _ same
                first false same rest = or_right _ _ (rest (sym (ap (λ b. b || has same_granule ys g) same) ∙ s))
            at false on rest = ap (λ b. has same_granule (cond b (y ∷ filter owns ys) (filter owns ys)) g) on ∙ rest (tail (same_granule g y) refl on)

    of : (o : Option Granule) → find owns gs ≡ o → (p : Option Granule) → find owns cs ≡ p → find owns gs ≡ find owns cs
    of None e None f = e ∙ sym f
    of (Some g) e None f =
        let both = found_has gs g e in
        absurd (false≢true (sym (none_has cs g f both.0) ∙ there g both.0 both.1))
    of None e (Some c) f =
        let both = found_has cs c f in
        absurd (false≢true (sym (none_has gs c e both.0) ∙ back c both.0 both.1))
    of (Some g) e (Some c) f =
        let both = found_has cs c f in
        e ∙ ap Some (sym (only gs c g (one ∙ ap option_to_list e) both.0 (back c both.0 both.1))) ∙ sym f
