-- What is told of a move is legal, and makes what the move makes.
use Rattle.std.proofs.Common.{◌≡◌, ℕ, ◌≤◌, Bool, true, not, ◌==◌, List, [], ◌∷◌, filter, Option, Some, None, refl, sym, ap, ap₂, subst, ◌∙◌, inl, inr, arith}
use Rattle.std.specs.Prelude.{nat_le, length, find}
use Rattle.std.specs.List.{AllByRecursion, list_all}
use Rattle.std.proofs.lemmas.Bool.{and_from, and_parts, cases_Bool}
use Rattle.std.proofs.lemmas.Bool.Decides.{nat_tests}
use Rattle.std.proofs.lemmas.List.{length-map}
use Rattle.bf_base.specs.declared.granule.Granule.{Granule}
use Rattle.bf_base.specs.Lists.{has}
use Rattle.bf_record.specs.declared.change.Change.TheVariants.{Move}
use Rattle.bf_sql.specs.migrations.Granules.{granule, granules_of, same_granule}
use Rattle.bf_sql.specs.migrations.Lazy.{LazyState, Migration, anchored, is_done, migrations_so_far, sweep_by, sweep_of}
use Rattle.bf_store.specs.States.{to_move, with_moved}
use Rattle.bf_store.proofs.moving.Moving.{has_if_passes}
use Rattle.bf_recover.specs.Moves.{granules_at, is_legal_move, is_to_move}
use Rattle.bf_machine.specs.interleaving.Journals.{IsOneRecord}
use Rattle.bf_run.specs.Records.{IsRecordOf, number_in, places_of}

-- the last migration is the one of the sweep
pub last_counted : (last : Option Migration) → number_in (sweep_of last) ≡ migrations_so_far last
last_counted None = refl
last_counted (Some last) = of (find (λ a. not (is_done last a.0)) (anchored last))
  where
    of : (o : Option (Granule × ℕ)) → number_in (sweep_by last o) ≡ last.number
    of None = refl
    of (Some next) = refl

all_left : {X : Type 0} (test : X → Bool) (xs : List X) → list_all test (filter test xs) ≡ true
all_left test [] = refl
all_left test (x ∷ xs) = elim (cases_Bool (test x)) [
  | inl passes ↦ rw passes (and_from _ _ passes (all_left test xs))
  | inr fails ↦ rw fails (all_left test xs)
]

-- granules of one unit are those at their places
module _ (unit : ℕ) where
  at_its_place : (g : Granule) → g.unit ≡ unit → granule unit g.place ≡ g
  at_its_place g of_it = ap (λ (n : ℕ). granule n g.place) (sym of_it)

  pub at_their_places : (granules : List Granule) → AllByRecursion (λ g. g.unit ≡ unit) granules → granules_at unit (places_of granules) ≡ granules
  at_their_places [] of_it = refl
  at_their_places (g ∷ granules) of_it = ap₂ (λ (h : Granule) (hs : List Granule). h ∷ hs) (at_its_place g of_it.0) (at_their_places granules of_it.1)

  module _ (last : Migration) where
    -- those that have not moved wait
    all_wait : (granules : List Granule) → AllByRecursion (λ g. g.unit ≡ unit) granules → list_all (has same_granule (granules_of last.old last.migrate)) granules ≡ true
        → list_all (λ g. not (is_done last g)) granules ≡ true → list_all (λ p. is_to_move last (granule unit p)) (places_of granules) ≡ true
    all_wait [] of_it known left = refl
    all_wait (g ∷ granules) of_it known left =
        and_from _ _
        (ap (is_to_move last) (at_its_place g of_it.0) ∙ has_if_passes (λ h. not (is_done last h)) (granules_of last.old last.migrate) g (and_parts _ _ known).0 (and_parts _ _ left).0)
        (all_wait granules of_it.1 (and_parts _ _ known).1 (and_parts _ _ left).1)

module _ (granules : List Granule) (number unit : ℕ) (of_unit : AllByRecursion (λ g. g.unit ≡ unit) granules) where
  counted : length (places_of granules) ≡ length granules
  counted = length-map granules (λ g. g.place)

  is_same : (m n : ℕ) → m ≡ n → (m == n) ≡ true
  is_same m n e = grind (arith, nat_tests)

  within : (n : ℕ) → n ≤ 64 → nat_le n 64 ≡ true
  within n few = grind (arith, nat_tests)

  not_empty : (n : ℕ) → 1 ≤ n → nat_le 1 n ≡ true
  not_empty n some = grind (arith, nat_tests)

  legal_by : (last : Option Migration) → IsOneRecord last granules → to_move last granules ≡ granules → number ≡ migrations_so_far last
      → is_legal_move last number unit (places_of granules) ≡ true
  legal_by None one left so_far =
      let few : 0 ≡ length granules = ap (λ (gs : List Granule). length gs) left in
      absurd (omega (arith, one.some, few))
  legal_by (Some last) one left so_far =
      let of_it = one.of_it in
      and_from _ _
      (and_from _ _
      (and_from _ _
      (and_from _ _ (is_same number last.number so_far) (ap (nat_le 1) counted ∙ not_empty (length granules) one.some))
      (ap (λ n. nat_le n 64) counted ∙ within (length granules) one.few))
      one.in_order)
      (all_wait unit last granules of_unit of_it.each
      (subst (λ (gs : List Granule). list_all (λ g. not (is_done last g)) gs ≡ true) left (all_left (λ g. not (is_done last g)) granules)))

  -- MOVE: its record
  pub move_recorded : (lazy : LazyState) → IsOneRecord lazy.last granules → to_move lazy.last granules ≡ granules → number ≡ migrations_so_far lazy.last
      → IsRecordOf lazy (Move number unit (places_of granules)) (with_moved lazy granules)
  move_recorded lazy one left so_far = record {
    shallow = tt;
    legal = legal_by lazy.last one left so_far;
    made = ap (with_moved lazy) (sym (at_their_places unit granules of_unit));
  }
