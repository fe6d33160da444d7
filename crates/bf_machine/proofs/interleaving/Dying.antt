-- A death keeps all.
use Rattle.std.proofs.Common.{◌≡◌, ◌≢◌, ◌⊎◌, ℕ, zero, suc, ◌+◌, ◌-◌, ◌<◌, ◌≤◌, Bool, false, if◌then◌else◌, List, [], ◌∷◌, ◌++◌, length, map, Option, Some, None, refl, sym, ap, subst, ◌∙◌, arith, inl, inr, length-append}
use Rattle.std.specs.Prelude.{Contains, IsSomeAnd, nat_le, nat_lt, slice_set}
use Rattle.std.specs.List.{slice_index_or}
use Rattle.std.specs.Option.{option_map_or}
use Rattle.std.proofs.lemmas.Bool.{cases_eq, cases_Bool}
use Rattle.std.proofs.lemmas.Bool.Decides.{nat_tests}
use Rattle.std.proofs.lemmas.List.{length-map}
use Rattle.std.proofs.lemmas.Option.{same_Some}
use Rattle.bf_locks.specs.declared.answer.LockAnswer.TheVariants.{Die}
use Rattle.bf_locks.specs.declared.mode.Mode.{Mode}
use Rattle.bf_locks.specs.declared.name.LockName.{LockName}
use Rattle.bf_locks.specs.Locks.{held, wanted}
use Rattle.bf_locks.specs.Modes.{are_compatible}
use Rattle.bf_tree.specs.declared.reply.Cause.{Cause}
use Rattle.bf_tree.specs.declared.reply.Cause.TheVariants.{Died}
use Rattle.bf_tree.specs.declared.reply.Reply.{Reply}
use Rattle.bf_sql.specs.Database.{Database}
use Rattle.bf_sql.specs.Groups.{session_at}
use Rattle.bf_machine.specs.interleaving.Machines.{Group, Began, Open, Machine, open_at, told_at, began_at}
use Rattle.bf_machine.specs.interleaving.Kept.{IsKept, CausesAllowed, DeathsAllowed, DiedFor, HasStart, HasEnded, IsAllowed, IsCurrent, phase_of}
use Rattle.bf_machine.specs.interleaving.Events.{Asks, deaths_of, died, told_at_death, with_death}
use Rattle.bf_machine.proofs.interleaving.Caused.{bounds, caused_keeps, own_next, told_all, told_size}
use Rattle.bf_machine.proofs.interleaving.Going.{joins, next_wants}
use Rattle.bf_machine.proofs.interleaving.Joins.{clash_of, turned}
use Rattle.bf_machine.proofs.interleaving.Places.{set_other, set_same, some_within, there_in}
use Rattle.bf_machine.proofs.interleaving.Others.{has_place}
use Rattle.bf_machine.proofs.interleaving.Rest.{StaysAtEnd, deaths_then}
use Rattle.bf_machine.proofs.interleaving.Telling.{grows, size_here}
use Rattle.bf_machine.proofs.interleaving.Texts.{AreTexts}

-- the open group for which another one dies
record IsHolder (start : Database) (m : Machine) (s : ℕ) (group : Group) (h : ℕ) : Type 0 where
  pub died : DiedFor start m.script m.began m.history s group h
  pub holder : Open
  pub is : open_at m died.other ≡ Some holder
  pub group_is : holder.group ≡ died.theirs

module _ (start : Database) (m : Machine) (kept : IsKept start m) (s : ℕ) where
  -- two open groups are of one phase
  one_phase : (t : ℕ) (o p : Open) → ((u : ℕ) → phase_of m.script u < phase_of m.script s → open_at m u ≡ None)
      → ((u : ℕ) → phase_of m.script u < phase_of m.script t → open_at m u ≡ None) → open_at m s ≡ Some o → open_at m t ≡ Some p → phase_of m.script t ≡ phase_of m.script s
  one_phase t o p before_s before_t of_s of_t = elim (cases_Bool (nat_le (phase_of m.script t) (phase_of m.script s))) [
    | inr above ↦
        let early : phase_of m.script s < phase_of m.script t = grind (arith, nat_tests) in
        let clash : None ≡ Some o = sym (before_t s early) ∙ of_s in
        absurd cc
    | inl within ↦ elim (cases_Bool (nat_le (phase_of m.script s) (phase_of m.script t))) [
      | inl also ↦ grind (arith, nat_tests)
      | inr above ↦
          let early : phase_of m.script t < phase_of m.script s = grind (arith, nat_tests) in
          let clash : None ≡ Some p = sym (before_s t early) ∙ of_t in
          absurd cc
    ]
  ]

  -- A DEATH IS ALLOWED
  death_is_allowed : (name : LockName) (mode : Mode) (h : ℕ) (next : Machine) (by : Asks m s start name mode (Die h) next) → IsHolder start m s by.o.group h
  death_is_allowed name mode h next by =
      let against : IsSomeAnd (held m.locks name h) (λ theirs. are_compatible theirs (wanted m.locks by.o.start name mode) ≡ false) = by.judged.conflicts.against in
      elim (held m.locks name h) as (λ o. held m.locks name h ≡ o → IsSomeAnd o (λ theirs. are_compatible theirs (wanted m.locks by.o.start name mode) ≡ false)
      → IsHolder start m s by.o.group h) [
        | None ↦ λ is no. absurd no
        | Some theirs ↦ λ is conflict.
            let was = kept.locks_consistent.owners name h theirs is in
            let mine = joins start m kept s by.o by.is name mode (next_wants start m kept s by.o by.statement by.later by.left by.prefix name mode by.asks) in
            let apart : was.0 ≢ s = λ same.
            let both : Some was.1 ≡ Some by.o = sym was.2 ∙ (ap (open_at m) same ∙ by.is) in
            let one : was.1 ≡ by.o = cc in
            by.judged.conflicts.another (sym was.3 ∙ ap (λ (p : Open). p.start) one) in
            let theirs_start = kept.locks_consistent.starts was.0 was.1 was.2 in
            record {
              died = record {
                own = by.o.start;
                other = was.0;
                theirs = was.1.group;
                has = kept.locks_consistent.starts s by.o by.is;
                named = record { deaths = theirs_start.deaths; is = ap (λ (n : ℕ). began_at m.began n) (sym was.3) ∙ theirs_start.is };
                another = apart;
                one_phase = one_phase was.0 by.o was.1 (λ u before. (by.current u before).1)
                    (λ u before. (kept.locks_consistent.in_turn was.0 was.1.group was.1.start theirs_start u before).1) by.is was.2;
                older = by.judged.older;
                clash = clash_of start m.script m.history name s by.o.group was.0 was.1.group (wanted m.locks by.o.start name mode) theirs mine was.4
                    (turned (wanted m.locks by.o.start name mode) theirs ∙ conflict);
              };
              holder = was.1;
              is = was.2;
              group_is = refl;
            }
      ] refl against

-- one item of a list, among those that have begun
map_set : (xs : List Began) (i : ℕ) (x : Began) → map Some (slice_set xs i x) ≡ slice_set (map Some xs) i (Some x)
map_set [] zero x = refl
map_set [] (suc i) x = refl
map_set (y ∷ xs) zero x = refl
map_set (y ∷ xs) (suc i) x = ap (λ (os : List (Option Began)). Some y ∷ os) (map_set xs i x)

-- one more at a list's end
module _ (xs : List ℕ) (x : ℕ) where
  at_front : (i : ℕ) → i < length xs → slice_index_or (xs ++ x ∷ []) i 0 ≡ slice_index_or xs i 0
  at_front i below = in_front xs i below
    where
      in_front : (xs : List ℕ) (i : ℕ) → i < length xs → slice_index_or (xs ++ x ∷ []) i 0 ≡ slice_index_or xs i 0
      in_front [] i below = absurd (omega (arith, below))
      in_front (y ∷ xs) zero below = refl
      in_front (y ∷ xs) (suc i) below = in_front xs i (omega (arith, below))

  at_last : slice_index_or (xs ++ x ∷ []) (length xs) 0 ≡ x
  at_last = last xs
    where
      last : (xs : List ℕ) → slice_index_or (xs ++ x ∷ []) (length xs) 0 ≡ x
      last [] = refl
      last (y ∷ xs) = last xs

  one_of : (y : ℕ) → Contains (xs ++ x ∷ []) y → Contains xs y ⊎ (x ≡ y)
  one_of y among = in_either xs among
    where
      in_either : (xs : List ℕ) → Contains (xs ++ x ∷ []) y → Contains xs y ⊎ (x ≡ y)
      in_either [] (zero, below, is) = inr is
      in_either [] (suc i, below, is) = absurd (omega (arith, below))
      in_either (z ∷ xs) (zero, below, is) = inl (0, omega arith, is)
      in_either (z ∷ xs) (suc i, below, is) = elim (in_either xs (i, omega (arith, below), is)) as (λ _. Contains (z ∷ xs) y ⊎ (x ≡ y)) [
        | inl old ↦ inl (suc old.0, omega (arith, old.1), old.2)
        | inr new ↦ inr new
      ]

module _ (start : Database) (m : Machine) (kept : IsKept start m) (texts : AreTexts m.script) (s : ℕ) (current : IsCurrent m s) (o : Open) (there : open_at m s ≡ Some o) (h : ℕ)
    (named : IsHolder start m s o.group h) where
  has : HasStart m.began s o.group o.start
  has = kept.locks_consistent.starts s o there

  abbrev deaths : List ℕ
  deaths = has.deaths

  abbrev began : List Began
  began = with_death m s o h

  abbrev answers : List Reply
  answers = told_at_death m s o h

  abbrev after : Machine
  after = died m s o h

  deaths_are : deaths_of m s o ≡ deaths
  deaths_are = ap (λ (b : Option Began). option_map_or (λ (b : Began). b.deaths) b []) has.is

  -- the number of a group that has begun
  low : 1 ≤ o.start
  low = number o.start has.is
    where
      number : (n : ℕ) → began_at m.began n ≡ Some (record { session = s; group = o.group; deaths = has.deaths }) → 1 ≤ n
      number zero is = absurd cc
      number (suc n) is = omega arith

  high : o.start ≤ length m.began
  high = let within = some_within (None ∷ map Some m.began) o.start _ has.is in omega (arith, within, length-map m.began Some, low)

  abbrev dead : Began
  dead = record { session = s; group = o.group; deaths = deaths_of m s o ++ h ∷ [] }

  began_own : began_at began o.start ≡ Some dead
  began_own =
      ap (λ (os : List (Option Began)). slice_index_or (None ∷ os) o.start None) (map_set m.began (o.start - 1) dead)
      ∙ set_same None None (map Some m.began) o.start (Some dead) low (omega (arith, high, length-map m.began Some))

  began_other : (n : ℕ) → n ≢ o.start → began_at began n ≡ began_at m.began n
  began_other n apart =
      ap (λ (os : List (Option Began)). slice_index_or (None ∷ os) n None) (map_set m.began (o.start - 1) dead)
      ∙ set_other None None (map Some m.began) o.start n (Some dead) low apart

  -- who has a number
  is_own : (t : ℕ) (g : Group) → HasStart m.began t g o.start → (t ≡ s) × (g ≡ o.group)
  is_own t g x =
      let same : ◌≡◌ {A = Began} (record { session = t; group = g; deaths = x.deaths }) (record { session = s; group = o.group; deaths = has.deaths }) = same_Some _ _ (sym x.is ∙ has.is) in
      (ap (λ (b : Began). b.session) same, ap (λ (b : Began). b.group) same)

  start_then : (t : ℕ) (g : Group) (n : ℕ) → HasStart m.began t g n → HasStart began t g n
  start_then t g n x = elim (cases_eq n o.start) as (λ _. HasStart began t g n) [
    | inl same ↦
        let own = is_own t g (subst (λ (n : ℕ). HasStart m.began t g n) same x) in
        subst (λ (n : ℕ). HasStart began t g n) (sym same) (subst (λ (t : ℕ). HasStart began t g o.start) (sym own.0) (subst (λ (g : Group). HasStart began s g o.start) (sym own.1)
        (record { deaths = dead.deaths; is = began_own })))
    | inr apart ↦ record { deaths = x.deaths; is = began_other n apart ∙ x.is }
  ]

  start_was : (t : ℕ) (g : Group) (n : ℕ) → HasStart began t g n → HasStart m.began t g n
  start_was t g n x = elim (cases_eq n o.start) as (λ _. HasStart m.began t g n) [
    | inl same ↦
        let e : ◌≡◌ {A = Began} (record { session = t; group = g; deaths = x.deaths }) dead = same_Some _ _ (sym x.is ∙ (ap (began_at began) same ∙ began_own)) in
        subst (λ (n : ℕ). HasStart m.began t g n) (sym same) (subst (λ (t : ℕ). HasStart m.began t g o.start) (sym (ap (λ (b : Began). b.session) e))
        (subst (λ (g : Group). HasStart m.began s g o.start) (sym (ap (λ (b : Began). b.group) e)) has))
    | inr apart ↦ record { deaths = x.deaths; is = sym (began_other n apart) ∙ x.is }
  ]

  died_then : (t : ℕ) (g : Group) (k : ℕ) → DiedFor start m.script m.began m.history t g k → DiedFor start m.script began m.history t g k
  died_then t g k was = record {
    own = was.own;
    other = was.other;
    theirs = was.theirs;
    has = start_then t g was.own was.has;
    named = start_then was.other was.theirs k was.named;
    another = was.another;
    one_phase = was.one_phase;
    older = was.older;
    clash = was.clash;
  }

  stays : StaysAtEnd start m began m.history
  stays = record { start_then = start_then; start_was = start_was; join_then = λ t g name mode join. join; died_then = died_then }

  abbrev cause : Cause
  cause = Died h

  -- the group itself
  own_is_next : o.group.0 ≡ length (told_at m s) + 1
  own_is_next = own_next start m kept texts s o there

  own_bounds : (1 ≤ o.group.0) × (o.group.0 ≤ o.group.1) × (o.group.1 ≤ length (session_at m.script s).statements)
  own_bounds = bounds start m kept texts s o there

  place : (1 ≤ s) × (s ≤ length m.told)
  place = let p = has_place m s o there in (p.0, omega (arith, p.1, kept.shaped.opens, kept.shaped.told))

  was_allowed : DeathsAllowed start m o.start (record { session = s; group = o.group; deaths = deaths })
  was_allowed = kept.causes_allowed.deaths o.start _ has.is

  -- it has retries left, or had its last one
  few : length deaths ≤ m.retries
  few = elim was_allowed.retried [
    | inl some_left ↦ some_left
    | inr has_ended ↦ absurd (omega (arith, has_ended, own_is_next, own_bounds.1))
  ]

  abbrev all_told : List Reply
  all_told = told_all start m kept texts s o there cause

  -- so it begins again, or its statements are told the cause
  ends : ((answers ≡ []) × (length deaths + 1 ≤ m.retries)) ⊎ ((answers ≡ all_told) × (length deaths ≡ m.retries))
  ends =
      let size : length (deaths_of m s o) ≡ length deaths = ap (λ (ds : List ℕ). length ds) deaths_are in
      let Told : Bool → List Reply = λ b. if b then all_told else [] in
      elim (cases_Bool (nat_lt m.retries (length (deaths_of m s o) + 1))) [
        | inl last ↦
            let count : length deaths ≡ m.retries = grind (arith, nat_tests, size, few, last) in
            inr (ap Told last, count)
        | inr again ↦
            let count : length deaths + 1 ≤ m.retries = grind (arith, nat_tests, size, again) in
            inl (ap Told again, count)
      ]

  closes : (answers ≡ []) ⊎ (o.group.1 ≡ length (told_at m s) + length answers)
  closes = elim ends [
    | inl again ↦ inl again.0
    | inr last ↦ inr (told_size start m kept texts s o there cause answers last.0)
  ]

  more : (t : ℕ) → length (told_at m t) ≤ length (told_at after t)
  more t = grows m s answers place.0 place.1 t

  closed : open_at after s ≡ None
  closed = let p = has_place m s o there in set_same None None m.opens s None p.0 p.1

  -- THE HOLDER is open, so its group has not ended, and is the last of its session
  module _ (t : ℕ) (other : Group) (x : HasStart m.began t other h) where
    is_holder : (t ≡ named.died.other) × (other ≡ named.died.theirs)
    is_holder =
        let y = named.died.named in
        let same : ◌≡◌ {A = Began} (record { session = t; group = other; deaths = x.deaths }) (record { session = named.died.other; group = named.died.theirs; deaths = y.deaths }) = same_Some _ _ (sym x.is ∙ y.is) in
        (ap (λ (b : Began). b.session) same, ap (λ (b : Began). b.group) same)

    goes_on : HasEnded m t other → ⊥
    goes_on has_ended =
        let group = kept.open_groups_replay.each named.died.other named.holder named.is in
        let bounds = texts.bounds named.died.other named.holder.group group.whole in
        let last : other.1 ≡ named.holder.group.1 = ap (λ (g : Group). g.1) (is_holder.1 ∙ sym named.group_is) in
        let told : length (told_at m t) ≡ length (told_at m named.died.other) = ap (λ (t : ℕ). length (told_at m t)) is_holder.0 in
        omega (arith, has_ended, last, told, group.next, bounds.1)

    last_of_all : (one : Group) (k : ℕ) → HasStart m.began t one k → h < k → ⊥
    last_of_all one k y before = goes_on (kept.locks_consistent.by_session t other one h k x y before)

    -- no death before named a group of its session
    not_named : (one : Group) (d : ℕ) → Contains deaths d → HasStart m.began t one d → HasEnded m t one → ⊥
    not_named one d among y has_ended = elim (cases_eq d h) [
      | inl same ↦
          let again = subst (λ (d : ℕ). HasStart m.began t one d) same y in
          let e : ◌≡◌ {A = Began} (record { session = t; group = one; deaths = again.deaths }) (record { session = t; group = other; deaths = x.deaths }) = same_Some _ _ (sym again.is ∙ x.is) in
          goes_on (subst (λ (g : Group). HasEnded m t g) (ap (λ (b : Began). b.group) e) has_ended)
      | inr apart ↦ elim (cases_Bool (nat_lt h d)) [
        | inl above ↦
            let before : h < d = grind (arith, nat_tests, above) in
            last_of_all one d y before
        | inr below ↦
            let before : d < h = grind (arith, nat_tests, below, apart) in
            let late : o.start < h = was_allowed.later d t h one other among y x before in
            let own_same : named.died.own ≡ o.start = kept.locks_consistent.once s o.group named.died.own o.start named.died.has has in
            omega (arith, late, own_same, named.died.older)
      ]
    ]

  -- WHAT ITS DEATHS NAMED is allowed
  had_ended : (i t : ℕ) (g : Group) → i < length deaths → HasStart m.began t g (slice_index_or deaths i 0) → HasEnded m t g
  had_ended i t g below x = was_allowed.last_ended i t g o there refl below x

  place_of_death : (i : ℕ) → i < length (deaths ++ h ∷ []) → ((i < length deaths) × (slice_index_or (deaths ++ h ∷ []) i 0 ≡ slice_index_or deaths i 0)) ⊎ ((i ≡ length deaths) × (slice_index_or (deaths ++ h ∷ []) i 0 ≡ h))
  place_of_death i below = elim (cases_eq i (length deaths)) [
    | inl last ↦ inr (last, ap (λ (i : ℕ). slice_index_or (deaths ++ h ∷ []) i 0) last ∙ at_last deaths h)
    | inr not_last ↦
        let front : i < length deaths = omega (arith, below, not_last, length-append deaths (h ∷ [])) in
        inl (front, at_front deaths h i front)
  ]

  own_deaths : DeathsAllowed start after o.start (record { session = s; group = o.group; deaths = deaths ++ h ∷ [] })
  own_deaths = record {
    each = λ k among. elim (one_of deaths h k among) [
      | inl old ↦ died_then s o.group k (was_allowed.each k old)
      | inr new ↦ subst (λ (k : ℕ). DiedFor start m.script began m.history s o.group k) new (died_then s o.group h named.died)
    ];
    sessions_differ = λ i j t one other li lj x y.
        let x_was = start_was t one _ x in
        let y_was = start_was t other _ y in
        elim (place_of_death i li) as (λ _. i ≡ j) [
          | inl old_i ↦
              let one_is : HasStart m.began t one (slice_index_or deaths i 0) = subst (λ (n : ℕ). HasStart m.began t one n) old_i.1 x_was in
              elim (place_of_death j lj) as (λ _. i ≡ j) [
                | inl old_j ↦ was_allowed.sessions_differ i j t one other old_i.0 old_j.0 one_is (subst (λ (n : ℕ). HasStart m.began t other n) old_j.1 y_was)
                | inr new_j ↦
                    absurd (not_named t other (subst (λ (n : ℕ). HasStart m.began t other n) new_j.1 y_was) one (slice_index_or deaths i 0) (there_in deaths i old_i.0) one_is (had_ended i t one old_i.0 one_is))
              ]
          | inr new_i ↦
              elim (place_of_death j lj) as (λ _. i ≡ j) [
                | inl old_j ↦
                    let other_is : HasStart m.began t other (slice_index_or deaths j 0) = subst (λ (n : ℕ). HasStart m.began t other n) old_j.1 y_was in
                    absurd (not_named t one (subst (λ (n : ℕ). HasStart m.began t one n) new_i.1 x_was) other (slice_index_or deaths j 0) (there_in deaths j old_j.0) other_is (had_ended j t other old_j.0 other_is))
                | inr new_j ↦ new_i.0 ∙ sym new_j.0
              ]
        ];
    ended = λ i t g below x.
        let front : i < length deaths = omega (arith, below, length-append deaths (h ∷ [])) in
        let ended = had_ended i t g front (subst (λ (n : ℕ). HasStart m.began t g n) (at_front deaths h i front) (start_was t g _ x)) in
        omega (arith, ended, more t);
    last_ended = λ i t g p is_open is below x.
        let clash : None ≡ Some p = sym closed ∙ is_open in
        absurd cc;
    later = λ k t n one other among x y before.
        let x_was = start_was t one k x in
        let y_was = start_was t other n y in
        elim (one_of deaths h k among) as (λ _. o.start < n) [
          | inl old ↦ was_allowed.later k t n one other old x_was y_was before
          | inr new ↦ absurd (last_of_all t one (subst (λ (k : ℕ). HasStart m.began t one k) (sym new) x_was) other n y_was (subst (λ (k : ℕ). k < n) (sym new) before))
        ];
    most = omega (arith, few, length-append deaths (h ∷ []));
    retried = elim ends as (λ _. (length (deaths ++ h ∷ []) ≤ m.retries) ⊎ HasEnded after s o.group) [
      | inl again ↦ inl (omega (arith, again.1, length-append deaths (h ∷ [])))
      | inr last ↦ inr (let size = told_size start m kept texts s o there cause answers last.0 in omega (arith, size, size_here m s answers place.0 place.1))
    ];
  }

  death_keeps_causes : CausesAllowed start after
  death_keeps_causes = record {
    deaths = λ n b is. elim (cases_eq n o.start) as (λ _. DeathsAllowed start after n b) [
      | inl same ↦
          let e : dead ≡ b = same_Some _ _ (sym began_own ∙ (ap (began_at began) (sym same) ∙ is)) in
          subst (λ (n : ℕ). DeathsAllowed start after n b) (sym same) (subst (DeathsAllowed start after o.start) e
          (subst (λ (ds : List ℕ). DeathsAllowed start after o.start (record { session = s; group = o.group; deaths = ds ++ h ∷ [] })) (sym deaths_are) own_deaths))
      | inr apart ↦ deaths_then start m kept s o there answers closes m.db began m.history stays n b (kept.causes_allowed.deaths n b (sym (began_other n apart) ∙ is))
    ];
  }

  -- WHAT IS TOLD is allowed
  abbrev Allowed : ℕ → Group → Cause → Type 0
  Allowed = IsAllowed start m.script m.began m.history m.may_end m.retries

  abbrev AllowedThen : ℕ → Group → Cause → Type 0
  AllowedThen = IsAllowed start m.script began m.history m.may_end m.retries

  -- a group that has ended is another one
  allowed_then : (t : ℕ) (g : Group) (cause : Cause) → HasEnded m t g → Allowed t g cause → AllowedThen t g cause
  allowed_then t g (Died k) has_ended allowed =
      let was = allowed.0 in
      let apart : was.own ≢ o.start = λ same.
      let own = is_own t g (subst (λ (n : ℕ). HasStart m.began t g n) same was.has) in
      let last : g.1 ≡ o.group.1 = ap (λ (g : Group). g.1) own.1 in
      let told : length (told_at m t) ≡ length (told_at m s) = ap (λ (t : ℕ). length (told_at m t)) own.0 in
      omega (arith, has_ended, last, told, own_is_next, own_bounds.1) in (
        record {
          own = was.own;
          other = was.other;
          theirs = was.theirs;
          has = record { deaths = was.has.deaths; is = began_other was.own apart ∙ was.has.is };
          named = start_then was.other was.theirs k was.named;
          another = was.another;
          one_phase = was.one_phase;
          older = was.older;
          clash = was.clash;
        },
        allowed.1,
        allowed.2,
        allowed.3,
      )
  allowed_then t g other has_ended allowed = allowed

  allowed_now : length deaths ≡ m.retries → AllowedThen s o.group cause
  allowed_now count = (
    record {
      own = o.start;
      other = named.died.other;
      theirs = named.died.theirs;
      has = record { deaths = dead.deaths; is = began_own };
      named = start_then named.died.other named.died.theirs h named.died.named;
      another = named.died.another;
      one_phase = named.died.one_phase;
      older = subst (λ (n : ℕ). h < n) (kept.locks_consistent.once s o.group named.died.own o.start named.died.has has) named.died.older;
      clash = named.died.clash;
    },
    deaths_of m s o,
    refl,
    ap (λ (ds : List ℕ). length ds) deaths_are ∙ count,
  )

  ends_so : (answers ≡ []) ⊎ ((answers ≡ all_told) × AllowedThen s o.group cause)
  ends_so = elim ends [
    | inl again ↦ inl again.0
    | inr last ↦ inr (last.0, allowed_now last.1)
  ]

  death_keeps : IsKept start after
  death_keeps = caused_keeps start m kept texts s o there cause answers began stays allowed_then ends_so death_keeps_causes

-- A DEATH KEEPS ALL
pub death_keeps_all : (start : Database) (m : Machine) (kept : IsKept start m) (texts : AreTexts m.script) (s : ℕ) (name : LockName) (mode : Mode) (h : ℕ) (next : Machine)
    → Asks m s start name mode (Die h) next → IsKept start next
death_keeps_all start m kept texts s name mode h next by =
    subst (IsKept start) (sym by.goes) (death_keeps start m kept texts s by.current by.o by.is h (death_is_allowed start m kept s name mode h next by))
