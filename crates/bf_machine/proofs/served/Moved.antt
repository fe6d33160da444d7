-- What has moved behind a need, as it is told of a migration.
use Rattle.std.proofs.Common.{◌≡◌, ℕ, ◌+◌, Bool, true, false, not, ◌||◌, List, [], ◌∷◌, ◌++◌, map, filter, Option, Some, None, refl, sym, ap, subst, ◌∙◌, inl, inr, append-nil}
use Rattle.std.specs.Option.{option_map, option_to_list}
use Rattle.std.specs.List.{flat_map}
use Rattle.std.proofs.lemmas.Bool.{cases_Bool, false≢true, or_right}
use Rattle.std.proofs.lemmas.List.{map-append}
use Rattle.std.proofs.lemmas.List.Folds.{list_any-append}
use Rattle.std.proofs.lemmas.Simd.{map-map}
use Rattle.bf_base.specs.declared.granule.Granule.{Granule}
use Rattle.bf_base.specs.Lists.{has}
use Rattle.bf_base.proofs.Apart.{list_any-filter}
use Rattle.bf_base.proofs.Parts.{map_itself}
use Rattle.bf_tree.specs.declared.bound.Bound.{Bound}
use Rattle.bf_tree.specs.declared.statement.Statement.{Statement}
use Rattle.bf_sql.specs.Database.{Database}
use Rattle.bf_sql.specs.migrations.Granules.{granules_of, same_granule}
use Rattle.bf_sql.specs.migrations.Lazy.{DoneGranule, LazyState, Migration, done_by, is_done, not_done, with_record_of_moves}
use Rattle.bf_sql.specs.migrations.Need.{needed, needed_by, needed_for}
use Rattle.bf_sql.specs.migrations.Plans.{prepared_of}
use Rattle.bf_image.proofs.finding.Found.{same_granule-equal, same_granule-itself}
use Rattle.bf_image.proofs.items.Lists.{all_so, filter_equal_where, has_own}
use Rattle.bf_store.specs.States.{by_place, need_of, to_move, with_moved}
use Rattle.bf_store.proofs.moving.Moving.{has_if_passes}
use Rattle.bf_store.proofs.moving.Needing.{none_left_if_done}
use Rattle.bf_store.proofs.moving.Ordered.{same_done}
use Rattle.bf_machine.specs.Movement.{moving_of, moving_seen, with_need}

-- what is left of a list is in it, and passes
left_passes : (test : Granule → Bool) (xs : List Granule) (g : Granule) → test g ≡ false → has same_granule (filter test xs) g ≡ false
left_passes test [] g fails = refl
left_passes test (x ∷ xs) g fails = elim (cases_Bool (test x)) as (λ _. has same_granule (filter test (x ∷ xs)) g ≡ false) [
  | inl passes ↦ rw passes (rw (apart x passes) (left_passes test xs g fails))
  | inr out ↦ rw out (left_passes test xs g fails)
]
  where
    apart : (x : Granule) → test x ≡ true → same_granule g x ≡ false
    apart x passes = elim (cases_Bool (same_granule g x)) as (λ _. same_granule g x ≡ false) [
      | inl is ↦ absurd (false≢true (sym fails ∙ (ap test (same_granule-equal g x is) ∙ passes)))
      | inr other ↦ other
    ]

filter_is : (test : Granule → Bool) (xs : List Granule) (g : Granule) → has same_granule xs g ≡ true → has same_granule (filter test xs) g ≡ test g
filter_is test xs g there = elim (cases_Bool (test g)) as (λ _. has same_granule (filter test xs) g ≡ test g) [
  | inl passes ↦ has_if_passes test xs g there passes ∙ sym passes
  | inr fails ↦ left_passes test xs g fails ∙ sym fails
]

-- what had moved aside, a need and what is left of it are one
pub left_or_done : (last : Migration) (need : List Granule) (g : Granule) → (is_done last g || has same_granule (not_done last need) g) ≡ (is_done last g || has same_granule need g)
left_or_done last need g = elim (cases_Bool (is_done last g)) as (λ _. (is_done last g || has same_granule (not_done last need) g) ≡ (is_done last g || has same_granule need g)) [
  | inl done ↦ ap (λ b. b || has same_granule (not_done last need) g) done ∙ sym (ap (λ b. b || has same_granule need g) done)
  | inr waits ↦
      let waits_so : not (is_done last g) ≡ true = ap not waits in
      let same : has same_granule (not_done last need) g ≡ has same_granule need g = elim (cases_Bool (has same_granule need g)) as (λ _. has same_granule (not_done last need) g ≡ has same_granule need g) [
        | inl there ↦ has_if_passes (λ g. not (is_done last g)) need g there waits_so ∙ sym there
        | inr none ↦ list_any-filter (same_granule g) (λ g. not (is_done last g)) need none ∙ sym none
      ] in
      ap (λ b. is_done last g || b) same
]

-- behind a record of moves
abbrev pub DoneBehind : Migration → List DoneGranule → List Granule → Type 0
DoneBehind last done need = (g : Granule) → is_done (record last { done = done }) g ≡ (is_done last g || has same_granule need g)

module _ (last : Migration) (done : List DoneGranule) (need : List Granule) (so : DoneBehind last done need) where
  abbrev all : List Granule
  all = granules_of last.old last.migrate

  abbrev then : Migration
  then = record last { done = done }

  pub with_granules : Some (record (moving_of last) { needed = filter (λ g. has same_granule (moving_of last).needed g || has same_granule need g) all }) ≡ moving_seen (Some then)
  with_granules =
      ap (λ (gs : List Granule). Some (record (moving_of last) { needed = gs }))
      (filter_equal_where (has same_granule all) (λ g. has same_granule (filter (is_done last) all) g || has same_granule need g) (is_done then)
      (λ g there. ap (λ b. b || has same_granule need g) (filter_is (is_done last) all g there) ∙ sym (so g))
      all (has_own same_granule same_granule-itself all))

-- where nothing is asked of it
pub none_asked : (last : Migration) (need : List Granule) → need ≡ []
    → Some (record (moving_of last) { needed = filter (λ g. has same_granule (moving_of last).needed g || has same_granule need g) (granules_of last.old last.migrate) }) ≡ moving_seen (Some last)
none_asked last need none =
    ap (λ (need : List Granule). Some (record (moving_of last) { needed = filter (λ g. has same_granule (moving_of last).needed g || has same_granule need g) (granules_of last.old last.migrate) })) none
    ∙ with_granules last last.done [] (λ g. aside (is_done last g))
  where
    aside : (b : Bool) → b ≡ (b || false)
    aside true = refl
    aside false = refl

-- behind a record of what is left of it, in the order of place
granules_then : (last : Migration) (number : ℕ) (fresh : List Granule)
    → map (λ (d : DoneGranule). d.granule) (last.done ++ map (done_by number) fresh) ≡ map (λ (d : DoneGranule). d.granule) last.done ++ fresh
granules_then last number fresh =
    map-append (λ (d : DoneGranule). d.granule) last.done (map (done_by number) fresh)
    ∙ ap (λ gs. map (λ (d : DoneGranule). d.granule) last.done ++ gs) (map-map (λ (d : DoneGranule). d.granule) (done_by number) fresh ∙ map_itself (λ g. g) (λ g. refl) fresh)

recorded : (lazy : LazyState) (last : Migration) (need fresh : List Granule) → ((g : Granule) → (is_done last g || has same_granule fresh g) ≡ (is_done last g || has same_granule need g))
    → (done : List DoneGranule) × (option_map by_place (with_record_of_moves (record lazy { last = Some last }) last fresh).last ≡ Some (record last { done = done })) × DoneBehind last done need
recorded lazy last need [] so = ((by_place last).done, refl, λ g. same_done last g ∙ (none (is_done last g) ∙ so g))
  where
    none : (b : Bool) → b ≡ (b || false)
    none true = refl
    none false = refl
recorded lazy last need (x ∷ xs) so =
    let fresh = x ∷ xs in
    let next : Migration = record last { done = last.done ++ map (done_by (lazy.records + 1)) fresh } in (
      (by_place next).done,
      refl,
      λ g.
          same_done next g ∙ (ap (λ gs. has same_granule gs g) (granules_then last (lazy.records + 1) fresh)
          ∙ (list_any-append (same_granule g) (map (λ (d : DoneGranule). d.granule) last.done) fresh ∙ so g)),
    )

-- BESIDES: of the last migration these granules have moved besides, and nothing else of it has changed
abbrev pub HaveMovedBesides : Option Migration → List Granule → Option Migration → Type 0
HaveMovedBesides None gs then = then ≡ None
HaveMovedBesides (Some last) gs then = (done : List DoneGranule) × (then ≡ Some (record last { done = done })) × DoneBehind last done gs

pub none_besides : (last : Option Migration) → HaveMovedBesides last [] last
none_besides None = refl
none_besides (Some last) = (last.done, refl, λ g. none (is_done last g))
  where
    none : (b : Bool) → b ≡ (b || false)
    none true = refl
    none false = refl

-- behind one move
pub one_besides : (lazy : LazyState) (gs : List Granule) → HaveMovedBesides lazy.last gs (with_moved lazy gs).last
one_besides lazy gs = on lazy.last
  where
    on : (last : Option Migration) → HaveMovedBesides last gs (with_moved (record lazy { last = last }) gs).last
    on None = refl
    on (Some last) = recorded lazy last gs (not_done last gs) (λ g. left_or_done last gs g)

-- behind one after the other
over : (a b c : Bool) → ((a || b) || c) ≡ (a || (b || c))
over true b c = refl
over false b c = refl

pub both_besides : (last now then : Option Migration) (gs hs : List Granule) → HaveMovedBesides last gs now → HaveMovedBesides now hs then → HaveMovedBesides last (gs ++ hs) then
both_besides None now then gs hs one other = subst (λ (o : Option Migration). HaveMovedBesides o hs then) one other
both_besides (Some last) now then gs hs one other =
    let made : Migration = record last { done = one.0 } in
    let more : HaveMovedBesides (Some made) hs then = subst (λ (o : Option Migration). HaveMovedBesides o hs then) one.1 other in (
      more.0,
      more.1,
      λ g. more.2 g ∙ (ap (λ (b : Bool). b || has same_granule hs g) (one.2 g) ∙ (over (is_done last g) (has same_granule gs g) (has same_granule hs g)
          ∙ ap (λ (b : Bool). is_done last g || b) (sym (list_any-append (same_granule g) gs hs)))),
    )

-- what is left of a need, and all of it
pub need_besides : (last then : Option Migration) (need : List Granule) → HaveMovedBesides last (to_move last need) then → HaveMovedBesides last need then
need_besides None then need moved = moved
need_besides (Some last) then need moved = (moved.0, moved.1, λ g. moved.2 g ∙ left_or_done last need g)

-- and then nothing of it is left
pub none_to_move : (last then : Option Migration) (need : List Granule) → HaveMovedBesides last need then → to_move then need ≡ []
none_to_move None then need moved = subst (λ (o : Option Migration). to_move o need ≡ []) (sym moved) refl
none_to_move (Some last) then need moved =
    let made : Migration = record last { done = moved.0 } in
    subst (λ (o : Option Migration). to_move o need ≡ []) (sym moved.1)
    (none_left_if_done made need
    (all_so (has same_granule need) (is_done made) (λ g there. moved.2 g ∙ or_right (is_done last g) (has same_granule need g) there) need (has_own same_granule same_granule-itself need)))

-- the need of what is prepared
pub needed_is : (old : Migration) (db : Database) (in_block : Bool) (s : Statement) (bound : Bound) → prepared_of db in_block s ≡ Some bound
    → needed_by old.old old.migrate db in_block s ≡ needed_for old.old old.migrate bound.action
needed_is old db in_block s bound is =
    ap (λ (o : Option Bound). flat_map (needed old.old old.migrate) (option_to_list o)) is ∙ append-nil (needed_for old.old old.migrate bound.action)

module _ (db : Database) (in_block : Bool) (s : Statement) (bound : Bound) (is : prepared_of db in_block s ≡ Some bound) where
  behind : (last : Migration) (done : List DoneGranule) → DoneBehind last done (needed_for last.old last.migrate bound.action)
      → with_need (moving_seen (Some last)) db in_block s ≡ moving_seen (Some (record last { done = done }))
  behind last done so =
      ap (λ (need : List Granule). Some (record (moving_of last) { needed = filter (λ g. has same_granule (moving_of last).needed g || has same_granule need g) (granules_of last.old last.migrate) }))
      (needed_is last db in_block s bound is)
      ∙ with_granules last done (needed_for last.old last.migrate bound.action) so

  -- ALL of it has moved
  pub need_moved : (last then : Option Migration) → HaveMovedBesides last (need_of last bound.action) then → with_need (moving_seen last) db in_block s ≡ moving_seen then
  need_moved None then moved = ap moving_seen (sym moved)
  need_moved (Some last) then moved = behind last moved.0 moved.2 ∙ ap moving_seen (sym moved.1)
