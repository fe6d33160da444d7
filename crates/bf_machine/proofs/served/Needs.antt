-- What a bound statement needs of the last migration moves, and then nothing of it is left.
use Rattle.std.proofs.Common.{◌≡◌, ◌≢◌, ℕ, Bool, false, not, List, [], Bor, Option, Some, None, refl, sym, ap, subst, ◌∙◌, inl, inr, append-nil}
use Rattle.std.specs.Prelude.{is_some}
use Rattle.std.specs.Global.{Vec}
use Rattle.std.specs.Option.{option_copied, option_map}
use Rattle.bf_base.specs.declared.granule.Granule.{Granule}
use Rattle.bf_base.specs.declared.table.Table.{Table}
use Rattle.bf_base.specs.declared.value.Value.{Value}
use Rattle.bf_base.specs.Lists.{has}
use Rattle.bf_base.proofs.Apart.{apart-filter}
use Rattle.bf_tree.specs.declared.bound.Action.{Action}
use Rattle.bf_tree.specs.declared.bound.Action.TheVariants as action
use Rattle.bf_tree.specs.declared.bound.Bound.{Bound}
use Rattle.bf_tree.specs.declared.migration.Migrate.{Migrate}
use Rattle.bf_tree.specs.declared.migration.Target.{Target}
use Rattle.boxcar.specs.Table.{Where}
use Rattle.bf_sql.specs.Database.{Database}
use Rattle.bf_sql.specs.migrations.Granules.{granules_of, same_granule}
use Rattle.bf_sql.specs.migrations.Lazy.{LazyState, Migration, is_done}
use Rattle.bf_sql.specs.migrations.Need.{giving, has_key_of, may_satisfy, needed_for, target_of}
use Rattle.bf_image.specs.Migrations.{old_of}
use Rattle.bf_image.specs.declared.migration.Migration.{Migration as Kept}
use Rattle.bf_image.proofs.items.Lists.{all_kept}
use Rattle.bf_store.specs.States.{AreGranules, AreGranulesIfAny, IsLazy, IsUnderWayIfAny, need_of, to_move, with_moved}
use Rattle.bf_store.specs.Stores.{IsByPass, migration_of}
use Rattle.bf_store.proofs.coming.Parts.{granules_apart}
use Rattle.bf_store.proofs.moving.Needing.{need_is_granules}
use Rattle.bf_transpose.specs.Covers.{can_need, needed_in}
use Rattle.bf_transpose.specs.declared.cover.Cover.{Cover}
use Rattle.bf_machine.specs.declared.stand.Step.{Step}
use Rattle.bf_machine.specs.declared.stand.Step.TheVariants.{Need, Replied, Stale}
use Rattle.bf_machine.specs.interleaving.Calls.{CanExec, HasReplied, IsEnough, IsPlace, IsPresent, IsStep, slot_of}
use Rattle.bf_machine.specs.interleaving.Events.{Event, Moves, Reaches, at_once, executes, moves, one_more, refuses}
use Rattle.bf_machine.specs.interleaving.Kept.{IsKept}
use Rattle.bf_machine.specs.interleaving.Machines.{Machine}
use Rattle.bf_machine.specs.interleaving.Serving.{HasMovedFirst, HasMovedNeed, HasMovedSome, MovesAll, left_of_need, no_move, one_record}
use Rattle.bf_machine.proofs.served.Enough.{enough_is_enough, nothing_left}
use Rattle.bf_machine.proofs.served.Moved.{HaveMovedBesides, both_besides, need_besides, none_besides, none_to_move, one_besides}

module _ (lazy : LazyState) (act : Action) where
  pub need_granules : IsLazy lazy → AreGranulesIfAny lazy.last (to_move lazy.last (need_of lazy.last act))
  need_granules is = on lazy.last is.last
    where
      on : (last : Option Migration) → IsUnderWayIfAny lazy.live last → AreGranulesIfAny last (to_move last (need_of last act))
      on None way = tt
      on (Some last) way =
          let need = needed_for last.old last.migrate act in
          let are = need_is_granules last (granules_apart last.old last.migrate) act in
          record {
            each = all_kept (has same_granule (granules_of last.old last.migrate)) (λ g. not (is_done last g)) need are.each;
            apart = apart-filter same_granule (λ g. not (is_done last g)) need are.apart;
          }

pub granules_by_pass : (last : Option Migration) (pass : Where Kept) (gs : List Granule) → IsByPass last (Some pass) → AreGranulesIfAny last gs → AreGranules (migration_of pass.value []) gs
granules_by_pass None pass gs is are = absurd is
granules_by_pass (Some last) pass gs is are =
    let same : AreGranules (migration_of pass.value last.done) gs = subst (λ (l : Migration). AreGranules l gs) is are in
    record { each = same.each; apart = same.apart }

pub none_by_pass : (last : Option Migration) → IsByPass last None → last ≡ None
none_by_pass None is = refl
none_by_pass (Some last) is = absurd is

-- where there is no migration nothing moves
pub moves_nothing : (m : Machine) (gs : List Granule) → m.lazy.last ≡ None → Moves m gs m
moves_nothing m gs none = record {
  granules_of_it = subst (λ (last : Option Migration). AreGranulesIfAny last gs) (sym none) tt;
  goes = ap (λ (lazy : LazyState). record m { lazy = lazy }) (sym (on m.lazy.last none));
}
  where
    on : (last : Option Migration) → last ≡ None → with_moved (record m.lazy { last = last }) gs ≡ record m.lazy { last = last }
    on None e = refl
    on (Some last) e = absurd cc

-- MOVED: the store alone has changed, and of the last migration these granules have moved besides
pub has_come : (m : Machine) (gs : List Granule) (now : Machine) → MovesAll m gs now → (lazy : LazyState) × (now ≡ record m { lazy = lazy }) × HaveMovedBesides m.lazy.last gs lazy.last
has_come m _ _ no_move = (m.lazy, refl, none_besides m.lazy.last)
has_come m _ _ (one_record {before = before} {now = now} {next = next} moved granules by) =
    let was = has_come m before now moved in
    let then = with_moved was.0 granules in (
      then,
      by.goes ∙ ap (λ (k : Machine). record k { lazy = with_moved k.lazy granules }) was.1,
      both_besides m.lazy.last was.0.last then.last before granules was.2 (one_besides was.0 granules),
    )

-- a bound statement's need
abbrev pub HasCome : Machine → Bound → LazyState → Type 0
HasCome m bound lazy = HaveMovedBesides m.lazy.last (need_of m.lazy.last bound.action) lazy.last

pub need_has_come : (m : Machine) (bound : Bound) (now : Machine) → HasMovedNeed m bound now → (lazy : LazyState) × (now ≡ record m { lazy = lazy }) × HasCome m bound lazy
need_has_come m bound now moved =
    let come = has_come m (left_of_need m bound) now moved in
    (come.0, come.1, need_besides m.lazy.last come.0.last (need_of m.lazy.last bound.action) come.2)

-- all of it, or none, is a first part
pub all_is_some : (m : Machine) (bound : Bound) (now : Machine) → HasMovedNeed m bound now → HasMovedSome m bound now
all_is_some m bound now moved = record { front = left_of_need m bound; back = []; parts = sym (append-nil (left_of_need m bound)); moves = moved }

pub none_is_some : (m : Machine) (bound : Bound) → HasMovedSome m bound m
none_is_some m bound = record { front = []; back = left_of_need m bound; parts = refl; moves = no_move }

pub moved_reaches : (start : Database) (m : Machine) (gs : List Granule) (now : Machine) → MovesAll m gs now → Reaches start m now
moved_reaches start m _ _ no_move = at_once
moved_reaches start m _ _ (one_record {before = before} {now = now} {next = next} moved granules by) = one_more (moved_reaches start m before now moved) (moves granules by)

-- what may be replied to may be so still
pub can_exec_still : (m : Machine) (s : ℕ) (start : Database) (bound : Bound) (lazy : LazyState) → CanExec m s start bound → CanExec (record m { lazy = lazy }) s start bound
can_exec_still m s start bound lazy can = elim can as (λ _. CanExec (record m { lazy = lazy }) s start bound) [
  | inl by ↦ inl (record {
    current = by.current;
    o = by.o;
    is = by.is;
    statement = by.statement;
    later = by.later;
    left = by.left;
    goes_on = by.goes_on;
    prefix = by.prefix;
    bound_so = by.bound_so;
    held = by.held;
  })
  | inr refused ↦
      let by = refused.1 in
      inr (_, record { place = by.place; current = by.current; closed = by.closed; stray = by.stray; goes = refl })
]

-- and a reply is reached behind moves
pub reply_reached : (start : Database) (m : Machine) (s : ℕ) (bound : Bound) (now : Machine) → HasMovedNeed m bound now → (then : Machine) → HasReplied now s bound then → Reaches start m then
reply_reached start m s bound now moved then by = one_more (moved_reaches start m (left_of_need m bound) now moved) (elim by as (λ _. Event start now then) [
  | inl executed ↦ executes s executed.0
  | inr refused ↦ refuses s refused
])

-- HOW IT GOES: a statement that is present has its reply, or what is left of its cover is needed
module _ (m : Machine) (pass : Option (Where Kept)) (bound : Bound) (cover : List Granule) (present : IsPresent m pass bound) where
  pub not_stale : (n : ℕ) → IsStep m pass bound cover (Stale n) → ⊥
  not_stale n step = elim step as (λ _. ⊥) [ inl here ↦ here.2 n refl | inr gone ↦ gone.0 present ]

  pub needs_left : (granules : Vec Granule) → IsStep m pass bound cover (Need granules) → (granules.items ≡ to_move m.lazy.last cover) × (to_move m.lazy.last cover ≢ [])
  needs_left granules step = elim step as (λ _. (granules.items ≡ to_move m.lazy.last cover) × (to_move m.lazy.last cover ≢ [])) [ inl here ↦ here.1 | inr gone ↦ absurd (gone.0 present) ]

  pub not_needed : to_move m.lazy.last cover ≡ [] → (granules : Vec Granule) → IsStep m pass bound cover (Need granules) → ⊥
  not_needed none granules step = (needs_left granules step).1 none

  pub no_other : to_move m.lazy.last cover ≡ [] → (step : Step) → IsStep m pass bound cover step → (step ≡ Replied → ⊥) → ⊥
  no_other none (Need granules) step other = not_needed none granules step
  no_other none (Stale n) step other = not_stale n step
  no_other none Replied step other = other refl

-- an option of what is lent, and of what it is
pub lent : {P : Type 0} (r : Option (Bor P)) → option_map (λ p. p.now) r ≡ option_copied r
lent None = refl
lent (Some p) = refl

pub lent_by : {P Q : Type 0} (f : P → Q) (r : Option (Bor P)) → option_map (λ p. f p.now) r ≡ option_map f (option_copied r)
lent_by f None = refl
lent_by f (Some p) = refl

pub lent_then : {P Q : Type 0} (f : P → Q) (r : Option (Bor P)) → option_map (λ p. f p.now) r ≡ option_map f (option_map (λ p. p.now) r)
lent_then f None = refl
lent_then f (Some p) = refl

-- an action that can need nothing needs nothing
on_no_target : (old : Database) (m : Migrate) (table : Table) (test : Target → List Value → Bool) → is_some (target_of old m table) ≡ false → giving old m (target_of old m table) test ≡ []
on_no_target old m table test none = by (target_of old m table) none
  where
    by : (t : Option Target) → is_some t ≡ false → giving old m t test ≡ []
    by None none = refl
    by (Some t) none = absurd cc

pub needs_none : (m : Kept) (act : Action) → can_need m act ≡ false → needed_in (Some m) act ≡ []
needs_none m (action.Migrate plan) none = absurd cc
needs_none m (action.Insert table rows) none = on_no_target (old_of m) m.plan.migrate table (has_key_of table rows) none
needs_none m (action.Select table items cond fixed) none = on_no_target (old_of m) m.plan.migrate table (may_satisfy cond) none
needs_none m (action.Update table sets cond fixed) none = on_no_target (old_of m) m.plan.migrate table (may_satisfy cond) none
needs_none m (action.Delete table cond fixed) none = on_no_target (old_of m) m.plan.migrate table (may_satisfy cond) none
needs_none m other none = refl

-- A NEED, of a statement that is prepared in the present catalog, by the pass of the last migration
module _ {start : Database} (m : Machine) (kept : IsKept start m) (bound : Bound) (cover : Cover) (pass : Option (Where Kept)) (own : pass ≡ m.pass)
    (is : IsEnough m (option_map (λ (p : Where Kept). p.value) pass) bound cover) (number : bound.catalog ≡ m.db.number) where
  pub is_present : IsPresent m pass bound
  is_present = record { catalog = number; migration = ap slot_of own }

  left : to_move m.lazy.last cover.granules.items ≡ left_of_need m bound
  left =
      enough_is_enough m.lazy m.pass kept.store_valid.by_pass (option_map (λ (p : Where Kept). p.value) pass) (ap (option_map (λ (p : Where Kept). p.value)) own) bound cover is

  pub need_told : (granules : Vec Granule) → IsStep m pass bound cover.granules.items (Need granules) → granules.items ≡ to_move m.lazy.last (need_of m.lazy.last bound.action)
  need_told granules step = (needs_left m pass bound cover.granules.items is_present granules step).0 ∙ left

  -- where nothing is needed
  pub none_if_none : need_of m.lazy.last bound.action ≡ [] → to_move m.lazy.last cover.granules.items ≡ []
  none_if_none none = left ∙ (ap (to_move m.lazy.last) none ∙ nothing_left m.lazy.last)

  -- where it has its reply at once
  pub nothing_to_move : IsStep m pass bound cover.granules.items Replied → left_of_need m bound ≡ []
  nothing_to_move step = sym left ∙ elim step as (λ _. to_move m.lazy.last cover.granules.items ≡ []) [ inl here ↦ here.1 | inr gone ↦ absurd (gone.0 is_present) ]

  module _ (gs : List Granule) (same : gs ≡ to_move m.lazy.last (need_of m.lazy.last bound.action)) where
    pub may_move : AreGranulesIfAny m.lazy.last gs
    may_move = subst (AreGranulesIfAny m.lazy.last) (sym same) (need_granules m.lazy bound.action kept.store_valid.seen_as.lazy_state)

    -- behind its moves
    module _ (now : Machine) (by : MovesAll m gs now) where
      come : (lazy : LazyState) × (now ≡ record m { lazy = lazy }) × HaveMovedBesides m.lazy.last gs lazy.last
      come = has_come m gs now by

      pub has_moved : HasMovedNeed m bound now
      has_moved = subst (λ (gs : List Granule). MovesAll m gs now) same by

      pub present_then : IsPresent now pass bound
      present_then = record {
        catalog = number ∙ sym (ap (λ (k : Machine). k.db.number) come.1);
        migration = ap slot_of (own ∙ sym (ap (λ (k : Machine). k.pass) come.1));
      }

      stored : now.lazy ≡ come.0
      stored = ap (λ (k : Machine). k.lazy) come.1

      -- none is left of granules of which just these were
      none_besides_those : (granules : List Granule) → gs ≡ to_move m.lazy.last granules → to_move come.0.last granules ≡ []
      none_besides_those granules those =
          none_to_move m.lazy.last come.0.last granules
          (need_besides m.lazy.last come.0.last granules (subst (λ (gs : List Granule). HaveMovedBesides m.lazy.last gs come.0.last) those come.2))

      pub none_then : to_move now.lazy.last cover.granules.items ≡ []
      none_then =
          ap (λ (l : LazyState). to_move l.last cover.granules.items) stored ∙ none_besides_those cover.granules.items (same ∙ sym left)

      -- and what was enough of it is so still
      pub enough_then : IsEnough now (option_map (λ (p : Where Kept). p.value) pass) bound cover
      enough_then =
          let needed = needed_in (option_map (λ (p : Where Kept). p.value) pass) bound.action in
          none_then ∙ sym (ap (λ (l : LazyState). to_move l.last needed) stored ∙ none_besides_those needed (same ∙ (sym left ∙ is)))

      pub place_then : (s : ℕ) → IsPlace m.script s → IsPlace now.script s
      place_then s place = subst (λ (k : Machine). IsPlace k.script s) (sym come.1) place

      pub can_then : (s : ℕ) → CanExec m s start bound → CanExec now s start bound
      can_then s can = subst (λ (k : Machine). CanExec k s start bound) (sym come.1) (can_exec_still m s start bound come.0 can)

    -- or behind some of them
    pub has_moved_some : (now : Machine) → HasMovedFirst m gs now → HasMovedSome m bound now
    has_moved_some now moved = subst (λ (gs : List Granule). HasMovedFirst m gs now) same moved
