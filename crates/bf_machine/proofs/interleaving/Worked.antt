-- The worked run, event by event.
use Rattle.std.proofs.Common.{◌≡◌, ◌≢◌, ℕ, zero, suc, ◌+◌, ◌<◌, ◌≤◌, false, true, List, [], ◌∷◌, length, Option, Some, None, unwrap_or, refl, sym, ap, subst, ◌∙◌, arith, inl, inr}
use Rattle.std.specs.Prelude.{IsSomeAnd}
use Rattle.std.specs.Option.{option_map_or}
use Rattle.std.specs.List.{slice_index_or}
use Rattle.std.specs.FinMap.{get-empty}
use Rattle.std.proofs.lemmas.Bool.{cases_eq}
use Rattle.bf_locks.specs.declared.answer.LockAnswer.TheVariants.{Die, Granted}
use Rattle.bf_locks.specs.declared.mode.Mode.{Mode}
use Rattle.bf_locks.specs.declared.mode.Mode.TheVariants.{X}
use Rattle.bf_locks.specs.declared.name.LockName.TheVariants.{Catalog}
use Rattle.bf_locks.specs.Locks.{Conflicts, Dies, Locks, after, held, holding_cmp, wanted, without_owner}
use Rattle.bf_locks.specs.Modes.{are_compatible, covers, join_of}
use Rattle.bf_locks.proofs.Held.{held_granted, held_granted_other_owner, held_without_other, held_without_own}
use Rattle.bf_tree.specs.declared.bound.Action.TheVariants as action
use Rattle.bf_tree.specs.declared.bound.Bound.{Bound}
use Rattle.bf_tree.specs.declared.script.Script.{Script}
use Rattle.bf_sql.specs.Bound.{bound_of}
use Rattle.bf_sql.specs.Database.{Database, empty_database}
use Rattle.bf_sql.specs.Groups.{session_at}
use Rattle.bf_sql.specs.FootprintExamples.{create}
use Rattle.bf_sql.specs.Footprints.{Lock, catalog_change}
use Rattle.bf_live.specs.OpenGroups.{Holds, HoldsIn}
use Rattle.bf_live.proofs.querying.OwnKeys.{each}
use Rattle.bf_machine.specs.interleaving.Events.{Asks, Begins, Commits, Executes, asks, at_once, begins, begun, begun_again, asked, committed, commits_now, executes, one_more, opened, stepped, with_open}
use Rattle.bf_machine.specs.interleaving.Examples.{YoungerIsRefused, empty_store, two_creating}
use Rattle.bf_machine.specs.interleaving.Kept.{HasStart, IsCurrent, fresh, phase_of}
use Rattle.bf_machine.specs.interleaving.Machines.{Began, Group, Machine, Open, open_at, told_at}

-- both sessions are of the one phase
by_session : (m : Machine) (a b : Option Open) → m.script ≡ two_creating → m.opens ≡ a ∷ b ∷ [] → (s : ℕ) → phase_of two_creating s ≡ 1 → IsCurrent m s
by_session m a b script opens s phase = λ t before. at t (subst (λ (n : ℕ). phase_of two_creating t < n) phase (subst (λ (text : Script). phase_of text t < phase_of text s) script before))
  where
    at : (t : ℕ) → phase_of two_creating t < 1 → (length (session_at m.script t).statements ≤ length (told_at m t)) × (open_at m t ≡ None)
    at zero below = (omega arith, refl)
    at (suc zero) below = absurd (omega (arith, below))
    at (suc (suc zero)) below = absurd (omega (arith, below))
    at (suc (suc (suc k))) below =
        let none : length (session_at m.script (suc (suc (suc k)))).statements ≡ 0 = ap (λ (text : Script). length (session_at text (suc (suc (suc k)))).statements) script in
        (omega (arith, none), ap (λ (os : List (Option Open)). slice_index_or (None ∷ os) (suc (suc (suc k))) None) opens)

-- the whole footprint of a CREATE is the catalog
holds_catalog : (locks : Locks) (owner : ℕ) → held locks Catalog owner ≡ Some X → Holds locks owner catalog_change
holds_catalog locks owner is =
    each (λ (lock : Lock). HoldsIn locks owner lock.0 lock.1) catalog_change
    (subst (λ (o : Option Mode). IsSomeAnd o (λ mine. covers mine X ≡ true)) (sym is) refl, tt)

-- where nobody holds the catalog, nobody conflicts, and it is had in X
none_conflicts : (locks : Locks) (owner : ℕ) → ((other : ℕ) → held locks Catalog other ≡ None) → (other : ℕ) → ¬ Conflicts locks owner Catalog X other
none_conflicts locks owner none other conflict =
    subst (λ (o : Option Mode). IsSomeAnd o (λ theirs. are_compatible theirs (wanted locks owner Catalog X) ≡ false)) (none other) conflict.against

wants_alone : (locks : Locks) (owner : ℕ) → held locks Catalog owner ≡ None → wanted locks owner Catalog X ≡ X
wants_alone locks owner none = ap (λ (o : Option Mode). option_map_or (λ before. join_of before X) o X) none

abbrev one : Machine
one = begun (fresh false empty_store two_creating 1) 1 (1, 1)

abbrev two : Machine
two = begun one 2 (1, 1)

abbrev has_catalog : Locks
has_catalog = after two.locks 1 Catalog X Granted

nobody : (other : ℕ) → held two.locks Catalog other ≡ None
nobody other = get-empty holding_cmp (Catalog, other)

first_has : held has_catalog Catalog 1 ≡ Some X
first_has = held_granted two.locks 1 Catalog X ∙ ap Some (wants_alone two.locks 1 (nobody 1))

others_have_none : (other : ℕ) → other ≢ 1 → held has_catalog Catalog other ≡ None
others_have_none other apart = held_granted_other_owner two.locks 1 Catalog X Catalog other apart ∙ nobody other

abbrev granted : Machine
granted = asked two 1 (opened two 1 1 (1, 1)) Catalog X Granted

second_dies : Dies has_catalog 2 Catalog X 1
second_dies =
    let mine = wants_alone has_catalog 2 (others_have_none 2 (omega arith)) in
    record {
      conflicts = record {
        another = omega arith;
        against = subst (λ (o : Option Mode). IsSomeAnd o (λ theirs. are_compatible theirs (wanted has_catalog 2 Catalog X) ≡ false)) (sym first_has) (ap (are_compatible X) mine);
      };
      none_older = λ other conflict. not_zero other conflict;
      older = omega arith;
    }
  where
    not_zero : (other : ℕ) → Conflicts has_catalog 2 Catalog X other → 1 ≤ other
    not_zero zero conflict =
        absurd (subst (λ (o : Option Mode). IsSomeAnd o (λ theirs. are_compatible theirs (wanted has_catalog 2 Catalog X) ≡ false)) (others_have_none 0 (omega arith)) conflict.against)
    not_zero (suc k) conflict = omega arith

abbrev dead : Machine
dead = asked granted 2 (opened granted 2 2 (1, 1)) Catalog X (Die 1)

first_keeps : held dead.locks Catalog 1 ≡ Some X
first_keeps = held_without_other has_catalog 2 Catalog 1 (omega arith) ∙ first_has

-- what CREATE is bound to
abbrev bound_in : Database → Bound
bound_in db = unwrap_or (bound_of db false create) (record { catalog = 0; schema_change = true; action = action.Begin })

abbrev first_open : Open
first_open = stepped dead 1 (opened dead 1 1 (1, 1)) create (bound_in empty_database)

abbrev made : Machine
made = with_open dead 1 (Some first_open)

abbrev first_ended : Machine
first_ended = committed made 1 first_open

abbrev again : Machine
again = begun_again first_ended 2 2 (1, 1)

abbrev freed : Locks
freed = without_owner dead.locks 1

nobody_then : (other : ℕ) → held freed Catalog other ≡ None
nobody_then other = elim (cases_eq other 1) as (λ _. held freed Catalog other ≡ None) [
  | inl first ↦ ap (held freed Catalog) first ∙ held_without_own dead.locks 1 Catalog
  | inr apart ↦ held_without_other dead.locks 1 Catalog other apart ∙ elim (cases_eq other 2) as (λ _. held dead.locks Catalog other ≡ None) [
    | inl second ↦ ap (held dead.locks Catalog) second ∙ held_without_own has_catalog 2 Catalog
    | inr neither ↦ held_without_other has_catalog 2 Catalog other neither ∙ others_have_none other apart
  ]
]

abbrev granted_again : Machine
granted_again = asked again 2 (opened again 2 2 (1, 1)) Catalog X Granted

second_has : held granted_again.locks Catalog 2 ≡ Some X
second_has = held_granted freed 2 Catalog X ∙ ap Some (wants_alone freed 2 (nobody_then 2))

abbrev second_open : Open
second_open = stepped granted_again 2 (opened granted_again 2 2 (1, 1)) create (bound_in first_ended.db)

abbrev refused : Machine
refused = with_open granted_again 2 (Some second_open)

abbrev last : Machine
last = committed refused 2 second_open

begins_one : Begins (fresh false empty_store two_creating 1) 1 one
begins_one = record {
  current = by_session (fresh false empty_store two_creating 1) None None refl refl 1 refl;
  closed = refl;
  group = (1, 1);
  whole = (0, omega arith, refl);
  first = refl;
  goes = inl (λ n has. never n has, refl);
}
  where
    never : (n : ℕ) → HasStart [] 1 (1, 1) n → ⊥
    never zero has = let is = has.is in cc
    never (suc n) has = let is = has.is in cc

begins_two : Begins one 2 two
begins_two = record {
  current = by_session one (Some (opened one 1 1 (1, 1))) None refl refl 2 refl;
  closed = refl;
  group = (1, 1);
  whole = (0, omega arith, refl);
  first = refl;
  goes = inl (λ n has. never n has, refl);
}
  where
    never : (n : ℕ) → HasStart one.began 2 (1, 1) n → ⊥
    never zero has = let is = has.is in cc
    never (suc zero) has =
        let same : 1 ≡ 2 = ap (λ (o : Option Began). option_map_or (λ (b : Began). b.session) o 0) has.is in
        omega (arith, same)
    never (suc (suc n)) has = let is = has.is in cc

asks_one : Asks two 1 empty_database Catalog X Granted granted
asks_one = record {
  current = by_session two (Some (opened two 1 1 (1, 1))) (Some (opened two 2 2 (1, 1))) refl refl 1 refl;
  o = opened two 1 1 (1, 1);
  is = refl;
  statement = create;
  later = [];
  left = refl;
  prefix = 0;
  asks = (0, omega arith, refl);
  judged = none_conflicts two.locks 1 nobody;
  goes = refl;
}

asks_two : Asks granted 2 empty_database Catalog X (Die 1) dead
asks_two = record {
  current = by_session granted (Some (opened two 1 1 (1, 1))) (Some (opened two 2 2 (1, 1))) refl refl 2 refl;
  o = opened granted 2 2 (1, 1);
  is = refl;
  statement = create;
  later = [];
  left = refl;
  prefix = 0;
  asks = (0, omega arith, refl);
  judged = second_dies;
  goes = refl;
}

executes_one : Executes dead 1 made
executes_one = record {
  current = by_session dead (Some (opened two 1 1 (1, 1))) None refl refl 1 refl;
  o = opened dead 1 1 (1, 1);
  is = refl;
  statement = create;
  later = [];
  left = refl;
  goes_on = refl;
  bound = bound_in empty_database;
  bound_so = refl;
  held = holds_catalog dead.locks 1 first_keeps;
  moved = tt;
  goes = refl;
}

commits_one : Commits made 1 first_ended
commits_one = record {
  can = record {
    current = by_session made (Some first_open) None refl refl 1 refl;
    o = first_open;
    is = refl;
    commits_so = refl;
    left = inl refl;
  };
  by_pass = tt;
  same_pass = λ none. refl;
  goes = refl;
}

begins_again : Begins first_ended 2 again
begins_again = record {
  current = by_session first_ended None None refl refl 2 refl;
  closed = refl;
  group = (1, 1);
  whole = (0, omega arith, refl);
  first = refl;
  goes = inr (2, record { deaths = 1 ∷ []; is = refl }, λ i t other only named. has_ended i t other only named, refl);
}
  where
    has_ended : (i t : ℕ) (other : Group) → i + 1 ≡ 1 → HasStart first_ended.began t other (slice_index_or (1 ∷ []) i 0) → other.1 ≤ length (told_at first_ended t)
    has_ended zero t other only named =
        let session : 1 ≡ t = ap (λ (o : Option Began). option_map_or (λ (b : Began). b.session) o 0) named.is in
        let last : 1 ≡ other.1 = ap (λ (o : Option Began). option_map_or (λ (b : Began). b.group.1) o 0) named.is in
        let told : length (told_at first_ended t) ≡ 1 = ap (λ (t : ℕ). length (told_at first_ended t)) (sym session) in
        omega (arith, last, told)
    has_ended (suc i) t other only named = absurd (omega (arith, only))

asks_again : Asks again 2 empty_database Catalog X Granted granted_again
asks_again = record {
  current = by_session again None (Some (opened again 2 2 (1, 1))) refl refl 2 refl;
  o = opened again 2 2 (1, 1);
  is = refl;
  statement = create;
  later = [];
  left = refl;
  prefix = 0;
  asks = (0, omega arith, refl);
  judged = none_conflicts freed 2 nobody_then;
  goes = refl;
}

executes_two : Executes granted_again 2 refused
executes_two = record {
  current = by_session granted_again None (Some (opened again 2 2 (1, 1))) refl refl 2 refl;
  o = opened granted_again 2 2 (1, 1);
  is = refl;
  statement = create;
  later = [];
  left = refl;
  goes_on = refl;
  bound = bound_in first_ended.db;
  bound_so = refl;
  held = holds_catalog granted_again.locks 2 second_has;
  moved = tt;
  goes = refl;
}

commits_two : Commits refused 2 last
commits_two = record {
  can = record {
    current = by_session refused None (Some second_open) refl refl 2 refl;
    o = second_open;
    is = refl;
    commits_so = refl;
    left = inl refl;
  };
  by_pass = tt;
  same_pass = λ none. refl;
  goes = refl;
}

pub younger_is_refused : YoungerIsRefused
younger_is_refused = (
  last,
  record {
    reached =
        one_more (one_more (one_more (one_more (one_more (one_more (one_more (one_more (one_more (one_more at_once (begins 1 begins_one)) (begins 2 begins_two)) (asks 1 Catalog X Granted asks_one))
        (asks 2 Catalog X (Die 1) asks_two)) (executes 1 executes_one)) (commits_now 1 commits_one)) (begins 2 begins_again)) (asks 2 Catalog X Granted asks_again)) (executes 2 executes_two)) (commits_now 2 commits_two);
    told = refl;
    entered = refl;
    died = refl;
  },
)
