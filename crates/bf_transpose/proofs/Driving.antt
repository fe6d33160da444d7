-- A row that comes of a driver's row has its key.
use Rattle.std.proofs.Common.{◌≡◌, ℕ, zero, suc, ◌+◌, ◌<◌, ◌≤◌, Bool, true, false, ◌&&◌, ◌||◌, ◌==◌, cond, List, [], ◌∷◌, filter, find, flat_map, length, map, None, Option, Some, position, refl, sym, ap, ap₂, ◌∙◌, inl, inr, arith}
use Rattle.std.specs.Prelude.{slice_get}
use Rattle.std.specs.List.{Contains, enumerate_from, list_any, range_with_len}
use Rattle.std.specs.Option.{option_map, option_to_list}
use Rattle.std.proofs.lemmas.Bool.{cases_Bool, eq-eqb, eqb-true, false≢true, or_left, or_right}
use Rattle.std.proofs.lemmas.Bool.Decides.{nat_tests}
use Rattle.std.proofs.lemmas.List.{get_or_default}
use Rattle.std.proofs.lemmas.List.Folds.{list_any-append}
use Rattle.bf_base.specs.declared.granule.Granule.{Granule}
use Rattle.bf_base.specs.declared.granule.Place.{Place}
use Rattle.bf_base.specs.declared.granule.Place.TheVariants.{Row}
use Rattle.bf_base.specs.declared.value.Value.{Value}
use Rattle.bf_base.specs.Lists.{has, same_key}
use Rattle.bf_tree.specs.declared.migration.Migrate.{Migrate}
use Rattle.bf_tree.specs.declared.migration.Target.{Target}
use Rattle.bf_sql.specs.Database.{Database, table_rows}
use Rattle.bf_sql.specs.migrations.Granules.{UnitForm, granule, granules_of, places_in, rows_unit, same_granule, same_place, units_of}
use Rattle.bf_image.specs.Laws.{owns}
use Rattle.bf_image.specs.Lookup.{behind_tag, candidates, has_the_key, places_by}
use Rattle.bf_image.specs.Migrations.{IsLawfulMigration, old_of, target_at, unit_at}
use Rattle.bf_image.specs.declared.migration.Migration.{Migration}
use Rattle.bf_image.proofs.finding.Found.{alone_true, same_granule-equal, same_granule-itself}
use Rattle.bf_image.proofs.finding.Owned.{one_owner}
use Rattle.bf_image.proofs.finding.Owner.{looked_up}

-- the granules of numbered units at some places
abbrev numbered : (UnitForm → List Place) → ℕ → List UnitForm → List Granule
numbered places n units = flat_map (λ u. map (granule u.0) (places u.1)) (enumerate_from n units)

pub of_number : (k : ℕ) (j : ℕ) (place : Place) (ps : List Place) → has same_granule (map (granule k) ps) (granule j place) ≡ (j == k && has same_place ps place)
of_number k j place [] = off (j == k)
  where
    off : (b : Bool) → false ≡ (b && false)
    off true = refl
    off false = refl
of_number k j place (p ∷ ps) = ap (λ b. (j == k && same_place place p) || b) (of_number k j place ps) ∙ spread (j == k) (same_place place p) (has same_place ps place)
  where
    spread : (a b c : Bool) → ((a && b) || (a && c)) ≡ (a && (b || c))
    spread true b c = refl
    spread false b c = refl

other_number : (j k : ℕ) → j < k → (j == k) ≡ false
other_number j k less = grind (arith, nat_tests)

none_below : (places : UnitForm → List Place) (units : List UnitForm) (n j : ℕ) (place : Place) → j < n → has same_granule (numbered places n units) (granule j place) ≡ false
none_below places [] n j place less = refl
none_below places (u ∷ units) n j place less =
    list_any-append (same_granule (granule j place)) (map (granule n) (places u)) (numbered places (n + 1) units)
    ∙ (ap₂ (λ b c. b || c) (of_number n j place (places u) ∙ ap (λ b. b && has same_place (places u) place) (other_number j n less)) (none_below places units (n + 1) j place (omega arith)))

-- those of a unit are among all where its places have theirs
pub at_unit : (places : UnitForm → List Place) (units : List UnitForm) (n i j : ℕ) (form : UnitForm) (place : Place) → slice_get units i ≡ Some form → n + i ≡ j
    → has same_granule (numbered places n units) (granule j place) ≡ has same_place (places form) place
at_unit places [] n i j form place at sum = absurd cc
at_unit places (u ∷ units) n zero j form place at sum =
    let same : u ≡ form = cc in
    let number : j ≡ n = omega (arith, sum) in
    let below : j < n + 1 = omega (arith, sum) in
    list_any-append (same_granule (granule j place)) (map (granule n) (places u)) (numbered places (n + 1) units)
    ∙ (ap₂ (λ b c. b || c) (of_number n j place (places u) ∙ ap (λ b. b && has same_place (places u) place) (eq-eqb j n number)) (none_below places units (n + 1) j place below)
    ∙ (or_false (has same_place (places u) place) ∙ ap (λ f. has same_place (places f) place) same))
  where
    or_false : (b : Bool) → (b || false) ≡ b
    or_false true = refl
    or_false false = refl
at_unit places (u ∷ units) n (suc i) j form place at sum =
    let above : n < j = omega (arith, sum) in
    let next : n + 1 + i ≡ j = omega (arith, sum) in
    let other : (j == n) ≡ false = grind (arith, nat_tests) in
    list_any-append (same_granule (granule j place)) (map (granule n) (places u)) (numbered places (n + 1) units)
    ∙ (ap (λ b. b || has same_granule (numbered places (n + 1) units) (granule j place)) (of_number n j place (places u) ∙ ap (λ b. b && has same_place (places u) place) other)
    ∙ at_unit places units (n + 1) i j form place at next)

-- what passes a test that one passes alone is found by it
module _ (p : Granule → Bool) (g : Granule) (is : p g ≡ true) where
  kept : (ys : List Granule) → has same_granule ys g ≡ true → has same_granule (filter p ys) g ≡ true
  kept [] there = there
  kept (y ∷ ys) there = elim (cases_Bool (same_granule g y)) [
    | inl same ↦
        let on : p y ≡ true = ap p (sym (same_granule-equal g y same)) ∙ is in
        ap (λ b. has same_granule (cond b (y ∷ filter p ys) (filter p ys)) g) on ∙ or_left _ _ same
    | inr other ↦ either (p y) (kept ys (ap (λ b. b || has same_granule ys g) (sym other) ∙ there))
  ]
    where
      either : (b : Bool) → has same_granule (filter p ys) g ≡ true → has same_granule (cond b (y ∷ filter p ys) (filter p ys)) g ≡ true
      either true rest = or_right _ _ rest
      either false rest = rest

  found_alone : (xs : List Granule) → filter p xs ≡ option_to_list (find p xs) → has same_granule xs g ≡ true → find p xs ≡ Some g
  found_alone xs one there = of (find p xs) refl
    where
      of : (o : Option Granule) → find p xs ≡ o → find p xs ≡ Some g
      of None e = absurd (false≢true (sym (ap (λ zs. has same_granule zs g) (one ∙ ap option_to_list e)) ∙ kept xs there))
      of (Some h) e =
          let same : g ≡ h = same_granule-equal g h (alone_true _ (sym (ap (λ zs. has same_granule zs g) (one ∙ ap option_to_list e)) ∙ kept xs there)) in
          e ∙ ap Some (sym same)

pub found_has : (p : Granule → Bool) (xs : List Granule) (g : Granule) → find p xs ≡ Some g → has same_granule xs g ≡ true
found_has p [] g e = absurd cc
found_has p (x ∷ xs) g e = at (p x) (found_has p xs g) e
  where
    at : (b : Bool) → (find p xs ≡ Some g → has same_granule xs g ≡ true) → cond b (Some x) (find p xs) ≡ Some g → (same_granule g x || has same_granule xs g) ≡ true
    at true rest e = let same : x ≡ g = cc in or_left _ _ (ap (same_granule g) same ∙ same_granule-itself g)
    at false rest e = or_right _ _ (rest e)

in_range : (a n at : ℕ) → a ≤ at → at < a + n → has same_place (map Row (range_with_len a n)) (Row at) ≡ true
in_range a zero at low high = absurd (omega arith)
in_range a (suc n) at low high = of (at == a) refl (λ above. in_range (a + 1) n at above (omega arith))
  where
    of : (b : Bool) → (at == a) ≡ b → (a + 1 ≤ at → has same_place (map Row (range_with_len (a + 1) n)) (Row at) ≡ true) → ((at == a) || has same_place (map Row (range_with_len (a + 1) n)) (Row at)) ≡ true
    of true e rest = or_left _ _ e
    of false e rest = let above : a + 1 ≤ at = grind (arith, nat_tests) in or_right _ _ (rest above)

-- where a row passes a test, it has a key that some row has
pub some_has : {X : Type 0} (p : X → Bool) (key : X → List Value) (itself : (k : List Value) → same_key k k ≡ true) (xs : List X) → list_any p xs ≡ true
    → (x : X) × (p x ≡ true) × (list_any (λ y. same_key (key x) (key y)) xs ≡ true)
some_has p key itself [] some = absurd (false≢true some)
some_has p key itself (x ∷ xs) some = elim (cases_Bool (p x)) [
  | inl passes ↦ (x, passes, or_left _ _ (itself (key x)))
  | inr fails ↦
      let (y, passes, there) = some_has p key itself xs (ap (λ b. b || list_any p xs) (sym fails) ∙ some) in
      (y, passes, or_right _ _ there)
]

module _ (m : Migration) (lawful : IsLawfulMigration m) (target : ℕ) (there : target < length m.plan.migrate.targets) where
  abbrev old : Database
  old = old_of m

  abbrev q : Migrate
  q = m.plan.migrate

  abbrev t : Target
  t = target_at m target

  among : Contains q.targets t
  among = (target, there, get_or_default q.targets target t _ there)

  -- OWNED: a place of a unit that owns a key is found by it
  pub owned_place : (unit : ℕ) (form : UnitForm) (place : Place) (key : List Value) → unit_at m unit ≡ Some form → has same_place (places_in old form) place ≡ true → owns old q t key (granule unit place) ≡ true
      → has same_place (places_by old t key form) place ≡ true
  owned_place unit form place key at among_places own =
      let here : has same_granule (granules_of old q) (granule unit place) ≡ true = at_unit (places_in old) (units_of old q) 0 unit unit form place at (omega arith) ∙ among_places in
      let found : find (owns old q t key) (candidates old q t key) ≡ Some (granule unit place) =
      sym (looked_up old q lawful.lawful t among key) ∙ found_alone (owns old q t key) (granule unit place) own (granules_of old q) (one_owner old q lawful.lawful t among key) here in
      sym (at_unit (places_by old t key) (units_of old q) 0 unit unit form place at (omega arith))
      ∙ found_has (owns old q t key) (candidates old q t key) (granule unit place) found

  -- DRIVEN: a position of a driver that owns a key behind the tag is that of the row with the key
  pub driven_position : (unit at : ℕ) (driver : List ℕ) (key : List Value) → unit_at m unit ≡ Some (rows_unit driver) → at < length (table_rows old driver) → owns old q t key (granule unit (Row at)) ≡ true
      → position (has_the_key old driver (behind_tag t key)) (table_rows old driver) ≡ Some at
  driven_position unit at driver key form within own = of (position (has_the_key old driver (behind_tag t key)) (table_rows old driver)) refl
    where
      placed : has same_place (places_by old t key (rows_unit driver)) (Row at) ≡ true
      placed = owned_place unit (rows_unit driver) (Row at) key form (in_range 0 (length (table_rows old driver)) at (omega arith) (omega (arith, within))) own

      of : (o : Option ℕ) → position (has_the_key old driver (behind_tag t key)) (table_rows old driver) ≡ o → position (has_the_key old driver (behind_tag t key)) (table_rows old driver) ≡ Some at
      of None e = absurd (false≢true (sym (ap (λ o. has same_place (option_to_list (option_map Row o)) (Row at)) e) ∙ placed))
      of (Some k) e =
          let same : at ≡ k = eqb-true at k (alone_true _ (sym (ap (λ o. has same_place (option_to_list (option_map Row o)) (Row at)) e) ∙ placed)) in
          e ∙ ap Some (sym same)
