-- Of changes that are legal one after the other no two move a granule: what has moved of the last migration is done, which no later
-- move of it may name, and of a migration before the last nothing may be moved.
use Rattle.std.proofs.Common.{◌≡◌, ℕ, ◌+◌, ◌<◌, ◌==◌, Bool, true, false, not, ◌||◌, List, [], ◌∷◌, ◌++◌, map, flat_map, Option, Some, None, option_map, refl, sym, ap, ◌∙◌, inl, inr, arith}
use Rattle.std.specs.List.{list_all, list_any}
use Rattle.std.proofs.lemmas.Bool.{and_from, and_parts, cases_Bool, eqb-true, eqb-false, false≢true}
use Rattle.std.proofs.lemmas.List.Folds.{list_all-append, list_any-append}
use Rattle.bf_base.specs.declared.granule.Granule.{Granule}
use Rattle.bf_base.specs.declared.granule.Place.{Place}
use Rattle.bf_base.specs.Lists.{has}
use Rattle.bf_base.proofs.Apart.{apart-append, are_apart}
use Rattle.bf_base.proofs.Parts.{all_not_from_none, filter_all, has_either_way, none_from_all_not}
use Rattle.bf_record.specs.declared.change.Change.{Change}
use Rattle.bf_record.specs.declared.change.Change.TheVariants.{Commit, Schema, Flip, Move}
use Rattle.bf_sql.specs.Database.{Database}
use Rattle.bf_sql.specs.migrations.Granules.{granule, granules_of, same_granule}
use Rattle.bf_sql.specs.migrations.Lazy.{LazyState, Migration, is_done, migrations_so_far, not_done, with_record_of_moves}
use Rattle.bf_store.specs.States.{by_place, granules_done_if_any, with_moved}
use Rattle.bf_store.proofs.Marking.{has_marked}
use Rattle.bf_store.proofs.coming.Found.{same_granule-symmetric}
use Rattle.bf_store.proofs.moving.Moving.{passes_if_has}
use Rattle.bf_store.proofs.moving.Ordered.{same_done}
use Rattle.bf_recover.specs.Legal.{changed}
use Rattle.bf_recover.specs.MovedOnce.{AreLegalInTurn, MoveOnce, moved_of}
use Rattle.bf_recover.specs.Moves.{granules_at, is_legal_move, is_to_move}
use Rattle.bf_recover.proofs.Moving.{granules_differ}

-- whether a granule of the last migration has moved
abbrev has_moved : Option Migration → Granule → Bool
has_moved last g = has same_granule (granules_done_if_any last) g

-- from a state on these granules of the migration of a number may move, none twice: none at all of one before the last, and none of the last
-- that has moved
record MayMove (last : Option Migration) (number : ℕ) (granules : List Granule) : Type 0 where
  pub apart : are_apart same_granule granules ≡ true
  pub none_before : number < migrations_so_far last → granules ≡ []
  pub anew : number ≡ migrations_so_far last → list_all (λ g. not (has_moved last g)) granules ≡ true

-- none of some granules is among two lists where none is among both together
module _ (p q both : Granule → Bool) (either : (g : Granule) → both g ≡ (p g || q g)) where
  among_neither : (gs : List Granule) → list_all (λ g. not (both g)) gs ≡ true → (list_all (λ g. not (p g)) gs ≡ true) × (list_all (λ g. not (q g)) gs ≡ true)
  among_neither [] none = (refl, refl)
  among_neither (g ∷ gs) none =
      let here = neither (p g) (q g) (sym (ap not (either g)) ∙ (and_parts _ _ none).0) in
      let rest = among_neither gs (and_parts _ _ none).1 in
      (and_from _ _ here.0 rest.0, and_from _ _ here.1 rest.1)
    where
      neither : (a b : Bool) → not (a || b) ≡ true → (not a ≡ true) × (not b ≡ true)
      neither true b e = absurd (false≢true e)
      neither false true e = absurd (false≢true e)
      neither false false e = (refl, refl)

-- one list of granules and then another, which has none of them
apart_then : (gs later : List Granule) → are_apart same_granule gs ≡ true → are_apart same_granule later ≡ true → list_all (λ g. not (has same_granule gs g)) later ≡ true
    → are_apart same_granule (gs ++ later) ≡ true
apart_then gs later one other across =
    let none : list_any (has same_granule gs) later ≡ false = none_from_all_not (has same_granule gs) later across in
    apart-append same_granule gs later one other
    (all_not_from_none (has same_granule later) gs (sym (has_either_way same_granule same_granule-symmetric gs later) ∙ none))

-- RECORD: behind a record of moves the same migration is the last, and its granules have moved that had before or move by it
record IsMovedOn (last : Migration) (granules : List Granule) (next : Option Migration) : Type 0 where
  pub number : migrations_so_far next ≡ last.number
  pub done : (g : Granule) → has_moved next g ≡ (is_done last g || has same_granule granules g)

module _ (live : Database) (last : Migration) (records : ℕ) where
  abbrev state : LazyState
  state = record { live = live; last = Some last; records = records }

  by_record : (gs : List Granule) → IsMovedOn last gs (option_map by_place (with_record_of_moves state last gs).last)
  by_record [] = record { number = refl; done = λ g. same_done last g ∙ sym (or_false (is_done last g)) }
    where
      or_false : (b : Bool) → (b || false) ≡ b
      or_false true = refl
      or_false false = refl
  by_record (h ∷ gs) = record {
    number = refl;
    done = λ g. has_marked last.done (h ∷ gs) g (records + 1) ∙ list_any-append (same_granule g) (map (λ d. d.granule) last.done) (h ∷ gs);
  }

  -- none of them had moved
  moved_on : (gs : List Granule) → list_all (λ g. not (is_done last g)) gs ≡ true → IsMovedOn last gs (with_moved state gs).last
  moved_on gs fresh =
      let all : not_done last gs ≡ gs = filter_all (λ g. not (is_done last g)) gs fresh in
      let one = by_record (not_done last gs) in
      record { number = one.number; done = λ g. one.done g ∙ ap (λ hs. is_done last g || has same_granule hs g) all }

-- a legal move names granules of the last migration that had not moved, and none twice
module _ (last : Migration) (migration unit : ℕ) (places : List Place) (legal : is_legal_move (Some last) migration unit places ≡ true) where
  is_last : migration ≡ last.number
  is_last = eqb-true migration last.number (and_parts _ _ (and_parts _ _ (and_parts _ _ (and_parts _ _ legal).0).0).0).0

  differ : are_apart same_granule (granules_at unit places) ≡ true
  differ = granules_differ unit places (and_parts _ _ (and_parts _ _ legal).0).1

  fresh_if_waits : (ps : List Place) → list_all (λ p. is_to_move last (granule unit p)) ps ≡ true → list_all (λ g. not (is_done last g)) (granules_at unit ps) ≡ true
  fresh_if_waits [] wait = refl
  fresh_if_waits (p ∷ ps) wait =
      and_from _ _ (passes_if_has (λ h. not (is_done last h)) (granules_of last.old last.migrate) (granule unit p) (and_parts _ _ wait).0)
      (fresh_if_waits ps (and_parts _ _ wait).1)

  fresh : list_all (λ g. not (is_done last g)) (granules_at unit places) ≡ true
  fresh = fresh_if_waits places (and_parts _ _ legal).1

  -- and so may those that move from then on
  move_more : (live : Database) (records number : ℕ) (later : List Granule) → MayMove (with_moved (state live last records) (granules_at unit places)).last number later
      → MayMove (Some last) number (moved_of number (Move migration unit places) ++ later)
  move_more live records number later rest =
      let on = moved_on live last records (granules_at unit places) fresh in
      let none_before : number < last.number → later ≡ [] = λ less. rest.none_before (omega (arith, on.number)) in
      let apart_from : number ≡ last.number → (list_all (λ g. not (is_done last g)) later ≡ true) × (list_all (λ g. not (has same_granule (granules_at unit places) g)) later ≡ true) = λ same.
      among_neither (is_done last) (has same_granule (granules_at unit places)) (has_moved (with_moved (state live last records) (granules_at unit places)).last) on.done later (rest.anew (same ∙ sym on.number)) in
      elim (cases_Bool (migration == number)) [
        | inl is ↦
            let same : number ≡ last.number = sym (eqb-true migration number is) ∙ is_last in
            rw is (record {
              apart = apart_then (granules_at unit places) later differ rest.apart (apart_from same).1;
              none_before = λ less. absurd (omega (arith, same));
              anew = λ e. list_all-append (λ g. not (is_done last g)) (granules_at unit places) later ∙ and_from _ _ fresh (apart_from same).0;
            })
        | inr other ↦
            rw other (record {
              apart = rest.apart;
              none_before = none_before;
              anew = λ e. absurd (eqb-false migration number other (is_last ∙ sym e));
            })
      ]

by_move : (live : Database) (last : Option Migration) (records migration unit : ℕ) (places : List Place) → is_legal_move last migration unit places ≡ true
    → (number : ℕ) (later : List Granule) → MayMove (with_moved (record { live = live; last = last; records = records }) (granules_at unit places)).last number later
    → MayMove last number (moved_of number (Move migration unit places) ++ later)
by_move live None records migration unit places legal number later rest = absurd (false≢true legal)
by_move live (Some last) records migration unit places legal number later rest = move_more last migration unit places legal live records number later rest

-- from a state on changes that are legal in turn move what may move
may_move : (changes : List Change) (lazy after : LazyState) → AreLegalInTurn lazy changes after → (number : ℕ) → MayMove lazy.last number (flat_map (moved_of number) changes)
may_move [] lazy after legal number = record { apart = refl; none_before = λ less. refl; anew = λ same. refl }
may_move (Commit writes ∷ changes) lazy after legal number = may_move changes (changed lazy (Commit writes)) after legal.1 number
may_move (Schema change ∷ changes) lazy after legal number = may_move changes (changed lazy (Schema change)) after legal.1 number
may_move (Flip m ∷ changes) lazy after legal number =
    let rest = may_move changes (changed lazy (Flip m)) after legal.1 number in
    record {
      apart = rest.apart;
      none_before = λ less. rest.none_before (omega (arith, less));
      anew = λ same. ap (list_all (λ g. not (has_moved lazy.last g))) (rest.none_before (omega (arith, same)));
    }
may_move (Move migration unit places ∷ changes) lazy after legal number =
    by_move lazy.live lazy.last lazy.records migration unit places legal.0 number (flat_map (moved_of number) changes)
    (may_move changes (changed lazy (Move migration unit places)) after legal.1 number)

pub once : (changes : List Change) (lazy after : LazyState) → AreLegalInTurn lazy changes after → MoveOnce changes
once changes lazy after legal number = (may_move changes lazy after legal number).apart

pub anew : (changes : List Change) (lazy after : LazyState) (last : Migration) → AreLegalInTurn lazy changes after → lazy.last ≡ Some last
    → list_all (λ g. not (is_done last g)) (flat_map (moved_of last.number) changes) ≡ true
anew changes lazy after last legal is =
    ap (λ o. list_all (λ g. not (has_moved o g)) (flat_map (moved_of last.number) changes)) (sym is)
    ∙ (may_move changes lazy after legal last.number).anew (ap migrations_so_far (sym is))
