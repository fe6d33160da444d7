-- The open group of a session is closed with such replies to its text: what is seen then, and what the machine keeps.
use Rattle.std.proofs.Common.{◌≡◌, ℕ, ◌+◌, ◌-◌, ◌^◌, ◌<◌, ◌≤◌, Bool, List, [], ◌∷◌, ◌++◌, length, map, take, replicate, Option, Some, None, refl, sym, ap, ap₂, subst, ◌∙◌, arith, option_map, vec_capacity}
use Rattle.std.specs.Prelude.{is_some, slice_index_or, slice_set}
use Rattle.std.proofs.lemmas.List.{length-map, length-set}
use Rattle.std.specs.Arc.{arc_value}
use Rattle.bf_locks.specs.Locks.{Locks, without_owner}
use Rattle.bf_tree.specs.declared.reply.Reply.{Reply}
use Rattle.bf_tree.specs.declared.script.Script.{Script}
use Rattle.bf_sql.specs.Database.{Database}
use Rattle.bf_sql.specs.Groups.{session_at}
use Rattle.bf_image.specs.Registries.{Registry}
use Rattle.bf_machine.specs.declared.machine.Machine.TheInside.{Inside}
use Rattle.bf_machine.specs.declared.so_far.Began.{Began as BeganGroup}
use Rattle.bf_machine.specs.declared.so_far.OpenGroup.{OpenGroup}
use Rattle.bf_machine.specs.declared.so_far.SessionSoFar.{SessionSoFar}
use Rattle.bf_machine.specs.interleaving.Calls.{IsPlace}
use Rattle.bf_machine.specs.interleaving.Events.{ended, text_of}
use Rattle.bf_machine.specs.interleaving.Kept.{IsKept, IsOpenGroup}
use Rattle.bf_machine.specs.interleaving.Machines.{Machine, Open, open_at, told_at}
use Rattle.bf_machine.specs.interleaving.Seen.{IsLatest, IsSound, began_seen, group_seen, open_seen, seen, told_before, told_seen}
use Rattle.bf_machine.proofs.interleaving.Telling.{length-part}
use Rattle.bf_machine.proofs.interleaving.Texts.{are_texts}
use Rattle.bf_machine.proofs.keeping.Places.{one_closed, open_there, opens_then, roomy_then, told_then, told_there}

all_alike : {X Y : Type 0} (y : Y) (xs : List X) → map (λ _. y) xs ≡ replicate (length xs) y
all_alike y [] = refl
all_alike {Y = Y} y (x ∷ xs) = ap (λ (ys : List Y). y ∷ ys) (all_alike y xs)

-- the machine with other locks, other groups that have begun and other sessions
module _ {N : Type 0} (logged : Bool) (i : Inside N) (locks : Locks) (began : List BeganGroup) (sessions : List SessionSoFar) where
  abbrev pub SoundWith : Database → Registry → Script → Type 0
  SoundWith opening registry given = IsSound opening registry given logged (arc_value i.script) i.retries i.store locks began sessions i.history i.commits i.transcripts

  abbrev pub seen_with : Machine
  seen_with = seen logged (arc_value i.script) i.retries i.store locks began sessions i.history.items

-- THE OPEN GROUP g of a session, of which the code has x
module _ {N : Type 0} {opening : Database} {registry : Registry} {given : Script} {logged : Bool} (i : Inside N) (sound : SoundWith logged i i.locks i.began.items i.sessions.items opening registry given) (before : Machine)
    (view : seen_with logged i i.locks i.began.items i.sessions.items ≡ before)
    (s : ℕ) (place : IsPlace before.script s) (x : SessionSoFar) (at : slice_index_or i.sessions.items (s - 1) x ≡ x) (g : OpenGroup)
    (is : x.«open» ≡ Some g) where
  abbrev m : Machine
  m = seen_with logged i i.locks i.began.items i.sessions.items

  abbrev o : Open
  o = group_seen x.replies.items g

  low : 1 ≤ s
  low = place.0

  pub high : s ≤ length i.sessions.items
  high =
      let here : IsPlace (arc_value i.script) s = subst (λ (m : Machine). IsPlace m.script s) (sym view) place in
      omega (arith, here.1, sound.kept.shaped.opens, length-map i.sessions.items open_seen)

  pub there : open_at m s ≡ Some o
  there =
      open_there logged (arc_value i.script) i.retries i.store i.locks i.began.items i.sessions.items i.history.items x s low high at
      ∙ ap (option_map (group_seen x.replies.items)) is

  told_is : told_at m s ≡ take (g.first - 1) x.replies.items
  told_is =
      told_there logged (arc_value i.script) i.retries i.store i.locks i.began.items i.sessions.items i.history.items x s low high at
      ∙ ap (told_before x.replies.items) is

  own : IsOpenGroup opening m s o
  own = sound.kept.open_groups_replay.each s o there

  pub bounds : (1 ≤ g.first) × (g.first ≤ g.last) × (g.last ≤ length (session_at (arc_value i.script) s).statements)
  bounds = (are_texts (arc_value i.script)).bounds s o.group own.whole

  length-text : length (text_of m s o) ≡ g.last + 1 - g.first
  length-text =
      let whole = length-part g.first g.last (session_at (arc_value i.script) s).statements in
      omega (arith, whole, bounds.0, bounds.1, bounds.2)

  -- there is room for a reply to each of its statements
  pub room_for_text : g.first - 1 + (g.last + 1 - g.first) ≤ vec_capacity x.replies
  room_for_text =
      let next : s - 1 + 1 ≡ s = omega (arith, low) in
      let room = (sound.roomy (s - 1) x (omega (arith, low, high)) at).room in
      let here : length (session_at (arc_value i.script) s).statements ≤ vec_capacity x.replies = rw next at room in
      omega (arith, here, bounds.0, bounds.1, bounds.2)

  -- they have numbers of 32 bits
  pub last_fits : g.last < 2 ^ 32
  last_fits =
      let next : s - 1 + 1 ≡ s = omega (arith, low) in
      let numbers = (sound.roomy (s - 1) x (omega (arith, low, high)) at).numbers in
      let here : length (session_at (arc_value i.script) s).statements < 2 ^ 32 = rw next at numbers in
      omega (arith, here, bounds.2)

  -- where each of them is told one reply, so many are told it
  pub all_told : (r : Reply) → map (λ _. r) (text_of m s o) ≡ replicate (g.last + 1 - g.first) r
  all_told r = all_alike r (text_of m s o) ∙ ap (λ (n : ℕ). replicate n r) length-text

  -- CLOSED: what the session's replies are then is y's
  module _ (answers : List Reply) (y : SessionSoFar) (closed : y.«open» ≡ None) (replies : y.replies.items ≡ take (g.first - 1) x.replies.items ++ answers) where
    told_seen_then : told_seen y ≡ told_at m s ++ answers
    told_seen_then = ap (told_before y.replies.items) closed ∙ (replies ∙ ap (λ (rs : List Reply). rs ++ answers) (sym told_is))

    abbrev sessions : List SessionSoFar
    sessions = slice_set i.sessions.items (s - 1) y

    pub closed_seen : (free : Locks) → free ≡ without_owner i.locks g.start → (began : List BeganGroup)
        → seen_with logged i free began sessions ≡ record (ended m s o answers) { began = map began_seen began }
    closed_seen free freed began =
        let opens_are : map open_seen sessions ≡ slice_set (map open_seen i.sessions.items) (s - 1) None =
        opens_then i.sessions.items (s - 1) y
        ∙ ap (λ (p : Option OpenGroup). slice_set (map open_seen i.sessions.items) (s - 1) (option_map (group_seen y.replies.items) p))
        closed in
        let told_are : map told_seen sessions ≡ slice_set (map told_seen i.sessions.items) (s - 1) (told_at m s ++ answers) =
        told_then i.sessions.items (s - 1) y ∙ ap (slice_set (map told_seen i.sessions.items) (s - 1)) told_seen_then in
        ap (λ (locks : Locks). record (seen_with logged i free began sessions) { locks = locks }) freed
        ∙ ap₂ (λ (opens : List (Option Open)) (told : List (List Reply)). record (ended m s o answers) { began = map began_seen began; opens = opens; told = told })
        opens_are told_are

    -- and the machine keeps what it kept
    pub closed_sound : (free : Locks) (began : List BeganGroup) → y.latest ≡ x.latest → vec_capacity y.replies ≡ vec_capacity x.replies
        → ((t k : ℕ) → IsLatest (map began_seen i.began.items) t k → IsLatest (map began_seen began) t k)
        → IsKept opening (seen_with logged i free began sessions) → SoundWith logged i free began sessions opening registry given
    closed_sound free began latest capacity latest_stays kept =
        let below : s - 1 < length i.sessions.items = omega (arith, low, high) in
        let was = sound.roomy (s - 1) x below at in
        let fewer = one_closed i.sessions.items (s - 1) x y below at (ap is_some is) (ap is_some closed) in record {
          is_given = sound.is_given;
          narrow = sound.narrow;
          one = sound.one;
          kept = kept;
          counted = sound.counted;
          sessions_numbered = sound.sessions_numbered;
          roomy = roomy_then (arc_value i.script) (map began_seen began) i.sessions.items (s - 1) x y below at
              (λ j z within is.
              let old = sound.roomy j z within is in
              record { room = old.room; numbers = old.numbers; latest = latest_stays (j + 1) z.latest old.latest })
              (omega (arith, capacity))
              (latest_stays (s - 1 + 1) y.latest (subst (IsLatest (map began_seen i.began.items) (s - 1 + 1)) (sym latest) was.latest));
          room = omega (arith, sound.room, fewer);
          no_transcripts = sound.no_transcripts;
          transcripts_room = omega (arith, length-set i.sessions.items (s - 1) y, sound.transcripts_room);
        }
