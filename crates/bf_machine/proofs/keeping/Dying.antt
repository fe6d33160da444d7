-- The death of a session's open group: its start number stays, and what is seen of its end.
use Rattle.std.proofs.Common.{◌≡◌, ◌≢◌, ℕ, zero, suc, ◌+◌, ◌-◌, ◌<◌, ◌≤◌, Bool, true, false, if◌then◌else◌, List, [], ◌∷◌, ◌++◌, length, map, take, replicate, Option, Some, None, refl, sym, ap, ap₂, subst, ◌∙◌, arith, inl, inr, length-append, vec_capacity}
use Rattle.std.specs.Prelude.{Contains, nat_lt, slice_index_or, slice_set}
use Rattle.std.specs.Global.{Vec}
use Rattle.std.specs.Option.{option_map_or}
use Rattle.std.proofs.lemmas.Bool.{cases_eq}
use Rattle.std.proofs.lemmas.List.{length-map, map-set}
use Rattle.std.proofs.lemmas.Option.{same_Some}
use Rattle.std.proofs.Math.Seq.{map-set_same}
use Rattle.std.specs.Arc.{arc_value}
use Rattle.bf_locks.specs.declared.answer.LockAnswer.{LockAnswer}
use Rattle.bf_locks.specs.declared.answer.LockAnswer.TheVariants.{Die, Granted, Wait}
use Rattle.bf_locks.specs.declared.mode.Mode.{Mode}
use Rattle.bf_locks.specs.declared.name.LockName.{LockName}
use Rattle.bf_locks.specs.Locks.{IsJudged, Locks, after, without_owner}
use Rattle.bf_tree.specs.declared.reply.Cause.TheVariants.{Died}
use Rattle.bf_tree.specs.declared.reply.Reply.{Reply}
use Rattle.bf_tree.specs.declared.reply.Reply.TheVariants.{Ended}
use Rattle.bf_tree.specs.declared.statement.Statement.{Statement}
use Rattle.bf_tree.specs.declared.script.Script.{Script}
use Rattle.bf_sql.specs.Database.{Database}
use Rattle.bf_sql.specs.Groups.{session_at}
use Rattle.bf_sql.specs.History.{replayed}
use Rattle.bf_image.specs.Registries.{Registry}
use Rattle.bf_machine.specs.declared.machine.Machine.TheInside.{Inside}
use Rattle.bf_machine.specs.declared.so_far.Began.{Began as BeganGroup}
use Rattle.bf_machine.specs.declared.so_far.OpenGroup.{OpenGroup}
use Rattle.bf_machine.specs.declared.so_far.SessionSoFar.{SessionSoFar}
use Rattle.bf_machine.specs.interleaving.Calls.{CanAsk, IsPlace}
use Rattle.bf_machine.specs.interleaving.Events.{Asks, asked, deaths_of, died, rest_of, stands_inside, text_of, told_at_death, with_death}
use Rattle.bf_machine.specs.interleaving.Groups.{footprint_in}
use Rattle.bf_machine.specs.interleaving.Kept.{HasStart, IsKept}
use Rattle.bf_machine.specs.interleaving.Machines.{Began, Group, Machine, Open, began_at, open_at}
use Rattle.bf_machine.specs.interleaving.Seen.{IsLatest, began_seen, group_seen}
use Rattle.bf_machine.proofs.interleaving.Dying.{death_keeps_all}
use Rattle.bf_machine.proofs.interleaving.Going.{grant_keeps_all}
use Rattle.bf_machine.proofs.interleaving.Places.{set_other, set_same, some_within}
use Rattle.bf_machine.proofs.interleaving.Texts.{are_texts}
use Rattle.bf_machine.proofs.keeping.Closing as closing
use Rattle.bf_machine.proofs.keeping.Closing.{SoundWith, seen_with}
use Rattle.bf_machine.proofs.keeping.Sessions.{item_of}

-- one item of a list, among those that have begun
map_set : (xs : List Began) (i : ℕ) (x : Began) → map Some (slice_set xs i x) ≡ slice_set (map Some xs) i (Some x)
map_set xs i x = map-set Some xs i x

-- what is read twice at one place
pub one_item : {X : Type 0} (xs : List X) (i : ℕ) (x y : X) → i < length xs → slice_index_or xs i x ≡ x → slice_index_or xs i y ≡ y → x ≡ y
one_item [] i x y below one other = absurd (omega (arith, below))
one_item (z ∷ xs) zero x y below one other = sym one ∙ other
one_item (z ∷ xs) (suc i) x y below one other = one_item xs i x y (omega (arith, below)) one other

at_most : (b : Bool) (all count : ℕ) → count ≡ (if b then all else 0) → count ≤ all
at_most true all count is = omega arith
at_most false all count is = omega arith

-- A GROUP THAT HAS BEGUN has its place
module _ (began : List Began) (s : ℕ) (group : Group) (n : ℕ) (has : HasStart began s group n) where
  pub number_low : 1 ≤ n
  number_low = number n has.is
    where
      number : (n : ℕ) → began_at began n ≡ Some (record { session = s; group = group; deaths = has.deaths }) → 1 ≤ n
      number zero is = absurd cc
      number (suc n) is = omega arith

  pub number_high : n ≤ length began
  number_high = let within = some_within (None ∷ map Some began) n _ has.is in omega (arith, within, length-map began Some, number_low)

  -- and with other deaths it is the group that it was
  module _ (deaths : List ℕ) where
    abbrev dead : Began
    dead = record { session = s; group = group; deaths = deaths }

    abbrev behind : List Began
    behind = slice_set began (n - 1) dead

    began_own : began_at behind n ≡ Some dead
    began_own =
        ap (λ (os : List (Option Began)). slice_index_or (None ∷ os) n None) (map_set began (n - 1) dead)
        ∙ set_same None None (map Some began) n (Some dead) number_low (omega (arith, number_high, length-map began Some))

    began_other : (k : ℕ) → k ≢ n → began_at behind k ≡ began_at began k
    began_other k apart =
        ap (λ (os : List (Option Began)). slice_index_or (None ∷ os) k None) (map_set began (n - 1) dead)
        ∙ set_other None None (map Some began) n k (Some dead) number_low apart

    start_then : (t : ℕ) (g : Group) (k : ℕ) → HasStart began t g k → HasStart behind t g k
    start_then t g k x = elim (cases_eq k n) as (λ _. HasStart behind t g k) [
      | inl same ↦
          let e : ◌≡◌ {A = Began} (record { session = t; group = g; deaths = x.deaths })
          (record { session = s; group = group; deaths = has.deaths }) = same_Some _ _ (sym x.is ∙ (ap (began_at began) same ∙ has.is)) in
          subst (λ (k : ℕ). HasStart behind t g k) (sym same) (subst (λ (t : ℕ). HasStart behind t g n) (sym (ap (λ (b : Began). b.session) e))
          (subst (λ (g : Group). HasStart behind s g n) (sym (ap (λ (b : Began). b.group) e)) (record { deaths = deaths; is = began_own })))
      | inr apart ↦ record { deaths = x.deaths; is = began_other k apart ∙ x.is }
    ]

    start_was : (t : ℕ) (g : Group) (k : ℕ) → HasStart behind t g k → HasStart began t g k
    start_was t g k x = elim (cases_eq k n) as (λ _. HasStart began t g k) [
      | inl same ↦
          let e : ◌≡◌ {A = Began} (record { session = t; group = g; deaths = x.deaths }) dead =
          same_Some _ _ (sym x.is ∙ (ap (began_at behind) same ∙ began_own)) in
          subst (λ (k : ℕ). HasStart began t g k) (sym same) (subst (λ (t : ℕ). HasStart began t g n) (sym (ap (λ (b : Began). b.session) e))
          (subst (λ (g : Group). HasStart began s g n) (sym (ap (λ (b : Began). b.group) e)) has))
      | inr apart ↦ record { deaths = x.deaths; is = sym (began_other k apart) ∙ x.is }
    ]

    latest_then : (t k : ℕ) → IsLatest began t k → IsLatest behind t k
    latest_then t k was = record {
      last = λ g j x. was.last g j (start_was t g j x);
      has = λ some. let h = was.has some in (h.0, start_then t h.0 k h.1);
    }

-- THE OPEN GROUP g of a session, of which the code has x
module _ {N : Type 0} {opening : Database} {registry : Registry} {given : Script} {logged : Bool} (i : Inside N) (sound : SoundWith logged i i.locks i.began.items i.sessions.items opening registry given) (before : Machine)
    (view : seen_with logged i i.locks i.began.items i.sessions.items ≡ before)
    (s : ℕ) (place : IsPlace before.script s) (x : SessionSoFar) (at : slice_index_or i.sessions.items (s - 1) x ≡ x) (g : OpenGroup)
    (is : x.«open» ≡ Some g) where
  abbrev m : Machine
  m = seen_with logged i i.locks i.began.items i.sessions.items

  abbrev o : Open
  o = group_seen x.replies.items g

  low : 1 ≤ s
  low = place.0

  high : s ≤ length i.sessions.items
  high = closing.high i sound before view s place x at g is

  there : open_at m s ≡ Some o
  there = closing.there i sound before view s place x at g is

  pub bounds : (1 ≤ g.first) × (g.first ≤ g.last) × (g.last ≤ length (session_at (arc_value i.script) s).statements)
  bounds = closing.bounds i sound before view s place x at g is

  has : HasStart (map began_seen i.began.items) s o.group g.start
  has = sound.kept.locks_consistent.starts s o there

  pub start_within : (1 ≤ g.start) × (g.start ≤ length i.began.items)
  start_within =
      let within = number_high (map began_seen i.began.items) s o.group g.start has in
      (number_low (map began_seen i.began.items) s o.group g.start has, omega (arith, within, length-map i.began.items began_seen))

  -- the code reads the session again, as z. There is room for the replies of the whole group, so many as are told its death
  module _ (z : SessionSoFar) (again : slice_index_or i.sessions.items (s - 1) z ≡ z) (deaths count : ℕ)
      (counted : count ≡ (if nat_lt i.retries deaths then g.last + 1 - g.first else 0)) where
    pub same_session : z ≡ x
    same_session =
        let below : s - 1 < length i.sessions.items = omega (arith, low, high) in
        one_item i.sessions.items (s - 1) z x below again at

    pub room_for_all : g.first - 1 + count ≤ vec_capacity z.replies
    room_for_all =
        let room = closing.room_for_text i sound before view s place x at g is in
        let same : vec_capacity z.replies ≡ vec_capacity x.replies = ap (λ (z : SessionSoFar). vec_capacity z.replies) same_session in
        omega (arith, room, same, bounds.0, bounds.1, at_most (nat_lt i.retries deaths) (g.last + 1 - g.first) count counted)

  -- THE ANSWER to what may be asked, and the locks behind it
  module _ (name : LockName) (mode : Mode) (can : CanAsk before s opening name mode) (answer : LockAnswer)
      (judged : IsJudged i.locks g.start name mode answer)
      (locks : Locks) (held_then : locks ≡ after i.locks g.start name mode answer) where
    abbrev AsksFor : Statement → ℕ → Open → Type 0
    AsksFor statement prefix p =
        Contains (footprint_in (replayed m.script opening (take prefix m.history)).1 (stands_inside p.replies) statement) (name, mode)

    asks_seen : (a : LockAnswer) → IsJudged i.locks g.start name mode a → (next : Machine) → next ≡ asked m s o name mode a
        → Asks m s opening name mode a next
    asks_seen a judged next goes =
        let seen_so : CanAsk m s opening name mode = subst (λ (m : Machine). CanAsk m s opening name mode) (sym view) can in
        let same : seen_so.o ≡ o = same_Some seen_so.o o (sym seen_so.is ∙ there) in
        record {
          current = seen_so.current;
          o = o;
          is = there;
          statement = seen_so.statement;
          later = seen_so.later;
          left = subst (λ (p : Open). rest_of m s p ≡ seen_so.statement ∷ seen_so.later) same seen_so.left;
          prefix = seen_so.prefix;
          asks = subst (AsksFor seen_so.statement seen_so.prefix) same seen_so.asks;
          judged = judged;
          goes = goes;
        }

    asks_so : (a : LockAnswer) → answer ≡ a → (next : Machine) → next ≡ asked m s o name mode a → Asks before s opening name mode answer next
    asks_so a is next goes =
        let asks = asks_seen a (subst (IsJudged i.locks g.start name mode) is judged) next goes in
        subst (λ (m : Machine). Asks m s opening name mode answer next) view
        (subst (λ (a : LockAnswer). Asks m s opening name mode a next) (sym is) asks)

    -- A GRANT AND A WAIT change the locks alone
    module _ (lives : (h : ℕ) → answer ≡ Die h → ⊥) where
      locks_kept : (a : LockAnswer) → answer ≡ a → IsJudged i.locks g.start name mode a
          → IsKept opening (record m { locks = after i.locks g.start name mode a })
      locks_kept Granted is judged =
          let next : Machine = asked m s o name mode Granted in
          grant_keeps_all opening m sound.kept s name mode next (asks_seen Granted judged next refl)
      locks_kept (Wait owners) is judged = sound.kept
      locks_kept (Die h) is judged = absurd (lives h is)

      asked_is : (a : LockAnswer) → answer ≡ a → ◌≡◌ {A = Machine} (record m { locks = after i.locks g.start name mode a }) (asked m s o name mode a)
      asked_is Granted is = refl
      asked_is (Wait owners) is = refl
      asked_is (Die h) is = absurd (lives h is)

      pub lives_sound : SoundWith logged i locks i.began.items i.sessions.items opening registry given
      lives_sound = record {
        is_given = sound.is_given;
        narrow = sound.narrow;
        one = sound.one;
        kept = subst (λ (locks : Locks). IsKept opening (record m { locks = locks })) (sym held_then) (locks_kept answer refl judged);
        counted = sound.counted;
        sessions_numbered = sound.sessions_numbered;
        roomy = sound.roomy;
        room = sound.room;
        no_transcripts = sound.no_transcripts;
        transcripts_room = sound.transcripts_room;
      }

      pub lives_asks : Asks before s opening name mode answer (seen_with logged i locks i.began.items i.sessions.items)
      lives_asks =
          asks_so answer refl (seen_with logged i locks i.began.items i.sessions.items)
          (ap (λ (locks : Locks). record m { locks = locks }) held_then ∙ asked_is answer refl)

    -- AT A DEATH the locks stay. The code has b of the group, and puts other deaths into it
    module _ (h : ℕ) (dies : answer ≡ Die h) (b : BeganGroup) (at_start : slice_index_or i.began.items (g.start - 1) b ≡ b) (deaths : Vec ℕ) where
      locks_stay : locks ≡ i.locks
      locks_stay = held_then ∙ ap (after i.locks g.start name mode) dies

      abbrev c : BeganGroup
      c = record b { deaths = deaths }

      abbrev began : List BeganGroup
      began = slice_set i.began.items (g.start - 1) c

      -- where there is no room for one more, all is as it was
      module _ (same : deaths.items ≡ b.deaths.items) where
        began_stays : map began_seen began ≡ map began_seen i.began.items
        began_stays =
            let alike : began_seen c ≡ began_seen b = ap (λ (ds : List ℕ). record (began_seen b) { deaths = ds }) same in
            map-set_same began_seen i.began.items (g.start - 1) c b (alike ∙ ap began_seen (sym at_start))

        seen_unchanged : seen_with logged i locks began i.sessions.items ≡ m
        seen_unchanged = ap₂ (λ (locks : Locks) (bs : List Began). record m { locks = locks; began = bs }) locks_stay began_stays

        pub unchanged : seen_with logged i locks began i.sessions.items ≡ before
        unchanged = seen_unchanged ∙ view

        pub unchanged_sound : SoundWith logged i locks began i.sessions.items opening registry given
        unchanged_sound = record {
          is_given = sound.is_given;
          narrow = sound.narrow;
          one = sound.one;
          kept = subst (IsKept opening) (sym seen_unchanged) sound.kept;
          counted = sound.counted;
          sessions_numbered = sound.sessions_numbered;
          roomy = λ j z within is.
              let was = sound.roomy j z within is in
              record {
                room = was.room;
                numbers = was.numbers;
                latest = subst (λ (bs : List Began). IsLatest bs (j + 1) z.latest) (sym began_stays) was.latest;
              };
          room = sound.room;
          no_transcripts = sound.no_transcripts;
          transcripts_room = sound.transcripts_room;
        }

      -- or else the attempt ends: the locks are freed, the session is closed, and what its replies are then is y's
      module _ (one_more : deaths.items ≡ b.deaths.items ++ h ∷ []) (free : Locks) (freed : free ≡ without_owner locks g.start)
          (count : ℕ) (counted : count ≡ (if nat_lt i.retries (length deaths.items) then g.last + 1 - g.first else 0))
          (z y : SessionSoFar) (again : slice_index_or i.sessions.items (s - 1) z ≡ z) (closed : y.«open» ≡ None) (latest : y.latest ≡ z.latest)
          (capacity : vec_capacity y.replies ≡ vec_capacity z.replies)
          (replies : y.replies.items ≡ take (g.first - 1) z.replies.items ++ replicate count (Ended (Died h))) where
        same_there : z ≡ x
        same_there = same_session z again (length deaths.items) count counted

        began_is : began_at (map began_seen i.began.items) g.start ≡ Some (began_seen b)
        began_is = found g.start start_within.0 start_within.1 at_start
          where
            found : (n : ℕ) → 1 ≤ n → n ≤ length i.began.items → slice_index_or i.began.items (n - 1) b ≡ b
                → began_at (map began_seen i.began.items) n ≡ Some (began_seen b)
            found zero low high at = absurd (omega (arith, low))
            found (suc n) low high at =
                let here : suc n - 1 ≡ n = omega arith in
                let there : slice_index_or i.began.items n b ≡ b = rw here at at in
                item_of Some (map began_seen i.began.items) n (began_seen b) None (omega (arith, high, length-map i.began.items began_seen))
                (item_of began_seen i.began.items n b (began_seen b) (omega (arith, high)) there)

        deaths_are : deaths_of m s o ≡ b.deaths.items
        deaths_are = ap (λ (p : Option Began). option_map_or (λ (d : Began). d.deaths) p []) began_is

        dead_seen : began_seen c ≡ record { session = s; group = o.group; deaths = deaths_of m s o ++ h ∷ [] }
        dead_seen =
            let same : began_seen b ≡ record { session = s; group = o.group; deaths = has.deaths } = same_Some _ _ (sym began_is ∙ has.is) in
            let all : deaths.items ≡ deaths_of m s o ++ h ∷ [] = one_more ∙ ap (λ (ds : List ℕ). ds ++ h ∷ []) (sym deaths_are) in
            ap (λ (d : Began). record d { deaths = deaths.items }) same
            ∙ ap (λ (ds : List ℕ). record { session = s; group = o.group; deaths = ds }) all

        began_then : map began_seen began ≡ with_death m s o h
        began_then = map-set began_seen i.began.items (g.start - 1) c ∙ ap (slice_set (map began_seen i.began.items) (g.start - 1)) dead_seen

        answers_are : replicate count (Ended (Died h)) ≡ told_at_death m s o h
        answers_are =
            let size : length deaths.items ≡ length (deaths_of m s o) + 1 =
            ap (λ (ds : List ℕ). length ds) one_more
            ∙ (length-append b.deaths.items (h ∷ []) ∙ ap (λ (ds : List ℕ). length ds + 1) (sym deaths_are)) in
            let all = closing.all_told i sound before view s place x at g is (Ended (Died h)) in
            ap (λ (n : ℕ). replicate n (Ended (Died h))) (counted ∙ ap (λ (n : ℕ). if nat_lt i.retries n then g.last + 1 - g.first else 0) size)
            ∙ each (nat_lt i.retries (length (deaths_of m s o) + 1)) all
          where
            each : (t : Bool) → map (λ _. Ended (Died h)) (text_of m s o) ≡ replicate (g.last + 1 - g.first) (Ended (Died h))
                → replicate (if t then g.last + 1 - g.first else 0) (Ended (Died h)) ≡ (if t then map (λ _. Ended (Died h)) (text_of m s o) else [])
            each true all = sym all
            each false all = refl

        replies_of_it : y.replies.items ≡ take (g.first - 1) x.replies.items ++ told_at_death m s o h
        replies_of_it = replies ∙ ap₂ (λ (z : SessionSoFar) (more : List Reply). take (g.first - 1) z.replies.items ++ more) same_there answers_are

        abbrev sessions : List SessionSoFar
        sessions = slice_set i.sessions.items (s - 1) y

        seen_died : seen_with logged i free began sessions ≡ died m s o h
        seen_died =
            let locks_then : free ≡ without_owner i.locks g.start = freed ∙ ap (λ (locks : Locks). without_owner locks g.start) locks_stay in
            closing.closed_seen i sound before view s place x at g is (told_at_death m s o h) y closed replies_of_it free locks_then began
            ∙ ap (λ (bs : List Began). record (died m s o h) { began = bs }) began_then

        pub died_asks : Asks before s opening name mode answer (seen_with logged i free began sessions)
        died_asks = asks_so (Die h) dies (seen_with logged i free began sessions) seen_died

        latest_stays : (t k : ℕ) → IsLatest (map began_seen i.began.items) t k → IsLatest (map began_seen began) t k
        latest_stays t k was =
            subst (λ (bs : List Began). IsLatest bs t k) (sym began_then)
            (latest_then (map began_seen i.began.items) s o.group g.start has (deaths_of m s o ++ h ∷ []) t k was)

        died_kept : IsKept opening (seen_with logged i free began sessions)
        died_kept =
            let fate = subst (IsJudged i.locks g.start name mode) dies judged in
            let next : Machine = died m s o h in
            subst (IsKept opening) (sym seen_died)
            (death_keeps_all opening m sound.kept (are_texts (arc_value i.script)) s name mode h next (asks_seen (Die h) fate next refl))

        pub died_sound : SoundWith logged i free began sessions opening registry given
        died_sound =
            let same : vec_capacity y.replies ≡ vec_capacity x.replies = capacity ∙ ap (λ (z : SessionSoFar). vec_capacity z.replies) same_there in
            let last : y.latest ≡ x.latest = latest ∙ ap (λ (z : SessionSoFar). z.latest) same_there in
            closing.closed_sound i sound before view s place x at g is (told_at_death m s o h) y closed replies_of_it free began last same latest_stays died_kept
