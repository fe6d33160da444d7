-- Of the granules of one record those that have not moved are of one record too, and it moves what all of them would.
use Rattle.std.proofs.Common.{◌≡◌, ◌≤◌, Bool, true, false, not, cond, List, [], ◌∷◌, length, filter, Option, Some, None, refl, ap, arith, option_map}
use Rattle.std.specs.Cmp.{IsTotalOrder}
use Rattle.std.specs.List.{AllByRecursion, list_all}
use Rattle.std.proofs.lemmas.Bool.{and_from, and_parts}
use Rattle.boxcar.specs.Table.{Where}
use Rattle.bf_base.specs.declared.granule.Granule.{Granule}
use Rattle.bf_base.specs.declared.granule.Place.{Place}
use Rattle.bf_base.specs.Lists.{has}
use Rattle.bf_base.proofs.Apart.{apart-filter, rises-filter}
use Rattle.bf_sql.specs.migrations.Granules.{granules_of, same_granule}
use Rattle.bf_sql.specs.migrations.Lazy.{LazyState, Migration, is_done, with_record_of_moves}
use Rattle.bf_image.specs.declared.migration.Migration.{Migration as Kept}
use Rattle.bf_store.specs.States.{by_place, place_cmp, to_move, with_moved}
use Rattle.bf_store.specs.Stores.{IsByPass, migration_of}
use Rattle.bf_store.proofs.Granules.{granule_cmp_total}
use Rattle.bf_machine.specs.interleaving.Journals.{IsOneRecord}
use Rattle.bf_machine.proofs.keeping.Moving.{of_the_last}

module _ {X : Type 0} (p : X → Bool) where
  fewer : (xs : List X) → length (filter p xs) ≤ length xs
  fewer [] = omega arith
  fewer (x ∷ xs) =
      let rest = fewer xs in
      elim (p x) as (λ b. length (cond b (x ∷ filter p xs) (filter p xs)) ≤ length (x ∷ xs)) [ true ↦ omega (arith, rest) | false ↦ omega (arith, rest) ]

  twice : (xs : List X) → filter p (filter p xs) ≡ filter p xs
  twice [] = refl
  twice (x ∷ xs) = elim (p x) as (λ b. p x ≡ b → filter p (cond b (x ∷ filter p xs) (filter p xs)) ≡ cond b (x ∷ filter p xs) (filter p xs)) [
    | true ↦ λ here. rw (here, twice xs) refl
    | false ↦ λ here. twice xs
  ] refl

  all_left : (q : X → Bool) (xs : List X) → list_all q xs ≡ true → list_all q (filter p xs) ≡ true
  all_left q [] all = refl
  all_left q (x ∷ xs) all =
      let parts = and_parts (q x) (list_all q xs) all in
      let rest = all_left q xs parts.1 in
      elim (p x) as (λ b. list_all q (cond b (x ∷ filter p xs) (filter p xs)) ≡ true) [ true ↦ and_from _ _ parts.0 rest | false ↦ rest ]

  each_left : (P : X → Type 0) (xs : List X) → AllByRecursion P xs → AllByRecursion P (filter p xs)
  each_left P [] all = tt
  each_left P (x ∷ xs) all =
      let rest = each_left P xs all.1 in
      elim (p x) as (λ b. AllByRecursion P (cond b (x ∷ filter p xs) (filter p xs))) [ true ↦ (all.0, rest) | false ↦ rest ]

-- places are in a total order, as granules of one unit are
abbrev at : Place → Granule
at place = record { unit = 0; place = place }

place_cmp_total : IsTotalOrder place_cmp
place_cmp_total = record {
  antisymm = λ p q. granule_cmp_total.antisymm (at p) (at q);
  trans = λ p q r. granule_cmp_total.trans (at p) (at q) (at r);
  congr = λ p q r. granule_cmp_total.congr (at p) (at q) (at r);
}

pub left_twice : (last : Option Migration) (granules : List Granule) → to_move last (to_move last granules) ≡ to_move last granules
left_twice None granules = refl
left_twice (Some last) granules = twice (λ g. not (is_done last g)) granules

-- those that are left are of one record, where any are
pub left_is_one_record : (last : Option Migration) (granules : List Granule) → IsOneRecord last granules → 1 ≤ length (to_move last granules) → IsOneRecord last (to_move last granules)
left_is_one_record None granules one some = absurd (omega (arith, some))
left_is_one_record (Some last) granules one some =
    let waits : Granule → Bool = λ g. not (is_done last g) in
    record {
      of_it = record {
        each = all_left waits (has same_granule (granules_of last.old last.migrate)) granules one.of_it.each;
        apart = apart-filter same_granule waits granules one.of_it.apart;
      };
      some = some;
      few = let less = fewer waits granules in omega (arith, less, one.few);
      unit = one.unit;
      of_one_unit = each_left waits (λ g. g.unit ≡ one.unit) granules one.of_one_unit;
      in_order = rises-filter place_cmp_total (λ (g : Granule). g.place) waits granules one.in_order;
    }

-- the move of those that are left is the move of all
pub left_moves_all : (lazy : LazyState) (granules : List Granule) → with_moved lazy (to_move lazy.last granules) ≡ with_moved lazy granules
left_moves_all lazy granules = on lazy.last
  where
    on : (last : Option Migration) → with_moved (record lazy { last = last }) (to_move last granules) ≡ with_moved (record lazy { last = last }) granules
    on None = refl
    on (Some last) =
        let now : LazyState = record lazy { last = Some last } in
        ap (λ (gs : List Granule). let after = with_record_of_moves now last gs in record after { last = option_map by_place after.last }) (left_twice (Some last) granules)

-- what one record may move of the migration of a pass is of the last migration, which that pass reads
pub one_record_of_the_last : (last : Option Migration) (own : Option (Where Kept)) → IsByPass last own → (value : Kept) → option_map (λ (p : Where Kept). p.value) own ≡ Some value
    → (granules : List Granule) → IsOneRecord (Some (migration_of value [])) granules → IsOneRecord last granules
one_record_of_the_last last own by value same granules one = record {
  of_it = of_the_last last own by value same granules one.of_it;
  some = one.some;
  few = one.few;
  unit = one.unit;
  of_one_unit = one.of_one_unit;
  in_order = one.in_order;
}
