-- A session's next group begins, for the first time or again.
use Rattle.std.proofs.Common.{◌≡◌, ◌≢◌, ◌⊎◌, ℕ, zero, suc, ◌+◌, ◌-◌, ◌<◌, ◌≤◌, ◌^◌, Bool, List, [], ◌∷◌, ◌++◌, length, map, take, drop, Option, Some, None, refl, sym, ap, ap₂, subst, ◌∙◌, arith, inl, inr, option_map, length-append, vec_capacity}
use Rattle.std.specs.Prelude.{slice_index_or, slice_set}
use Rattle.std.specs.Global.{Vec}
use Rattle.std.proofs.Math.ListN.{drop_of_length-le}
use Rattle.std.proofs.lemmas.Bool.{cases_eq, cases_lt}
use Rattle.std.proofs.lemmas.List.{get_or-set_other, get_or-set_same, length-map, length-set, map-append, take_all}
use Rattle.std.proofs.lemmas.List.Sums.{count_by-le-length}
use Rattle.std.proofs.lemmas.Option.{same_Some}
use Rattle.bf_locks.specs.Locks.{Locks}
use Rattle.bf_tree.specs.declared.history.Entry.{Entry}
use Rattle.bf_tree.specs.declared.reply.Reply.{Reply}
use Rattle.bf_tree.specs.declared.script.Script.{Script}
use Rattle.bf_tree.specs.declared.script.Session.{Session}
use Rattle.bf_sql.specs.Database.{Database}
use Rattle.bf_sql.specs.Groups.{no_session, session_at}
use Rattle.bf_txn.specs.declared.write.Write.{Write}
use Rattle.bf_image.specs.Registries.{Registry}
use Rattle.bf_store.specs.Stores.{Store}
use Rattle.bf_machine.specs.declared.so_far.Began.{Began as BeganGroup}
use Rattle.bf_machine.specs.declared.so_far.OpenGroup.{OpenGroup}
use Rattle.bf_machine.specs.declared.so_far.Pending.TheVariants as change
use Rattle.bf_machine.specs.declared.so_far.SessionSoFar.{SessionSoFar}
use Rattle.bf_machine.specs.interleaving.Events.{Begins, LastHasEnded, begun, begun_again, opened}
use Rattle.bf_machine.specs.interleaving.Groups.{Rows}
use Rattle.bf_machine.specs.interleaving.Kept.{HasStart, IsKept}
use Rattle.bf_machine.specs.interleaving.Machines.{Began, Group, Machine, Open, began_at, told_at}
use Rattle.bf_machine.specs.interleaving.Seen.{IsLatest, IsRoomy, IsSound, began_seen, group_seen, is_open, last_from, open_seen, seen, told_before, told_seen}
use Rattle.bf_machine.proofs.interleaving.Beginning.{begins_keeps_all, start_new, start_then, start_was, start_within}
use Rattle.bf_machine.proofs.interleaving.Places.{from_one as place_of}
use Rattle.bf_machine.proofs.interleaving.Texts.{are_texts, one_first}
use Rattle.bf_machine.proofs.keeping.Exchanging.{seen_with_open}
use Rattle.bf_machine.proofs.keeping.Lasts.{last_is}
use Rattle.bf_machine.proofs.keeping.Places.{open_there, roomy_then, told_there}

-- an item of a list, by whatever default
any_default : {X : Type 0} (xs : List X) (i : ℕ) (a b : X) → i < length xs → slice_index_or xs i a ≡ slice_index_or xs i b
any_default [] i a b below = absurd (omega (arith, below))
any_default (x ∷ xs) zero a b below = refl
any_default (x ∷ xs) (suc i) a b below = any_default xs i a b (omega (arith, below))

pub same_item : {X : Type 0} (xs : List X) (i : ℕ) (a b : X) → i < length xs → a ≡ slice_index_or xs i a → b ≡ slice_index_or xs i b → a ≡ b
same_item xs i a b below is_a is_b = is_a ∙ (any_default xs i a b below ∙ sym is_b)

pub session_there : (script : Script) (s : ℕ) (a : Session) → 1 ≤ s → s ≤ length script.sessions → a ≡ slice_index_or script.sessions (s - 1) a → a ≡ session_at script s
session_there script s a low high is =
    let below : s - 1 < length script.sessions = omega (arith, low, high) in
    is ∙ (any_default script.sessions (s - 1) a no_session below ∙ place_of no_session no_session script.sessions s low)

-- a group by its start number
pub from_one : (began : List Began) (n : ℕ) (b : Began) → began_at began n ≡ Some b → 1 ≤ n
from_one began zero b is = absurd cc
from_one began (suc n) b is = omega arith

started_at : (began : List BeganGroup) (k : ℕ) (d : BeganGroup) (b : Began) → slice_index_or (map Some (map began_seen began)) k None ≡ Some b → began_seen (slice_index_or began k d) ≡ b
started_at [] k d b is = absurd cc
started_at (a ∷ began) zero d b is = same_Some (began_seen a) b is
started_at (a ∷ began) (suc k) d b is = started_at began k d b is

started : (began : List BeganGroup) (n : ℕ) (d : BeganGroup) (b : Began) → began_at (map began_seen began) n ≡ Some b → began_seen (slice_index_or began (n - 1) d) ≡ b
started began zero d b is = absurd cc
started began (suc k) d b is =
    let here : suc k - 1 ≡ k = omega arith in
    rw here (started_at began k d b is)

-- what began last in a session, once one more group has begun
module _ (began : List Began) (s : ℕ) (group : Group) where
  abbrev new : Began
  new = record { session = s; group = group; deaths = [] }

  abbrev more : List Began
  more = began ++ new ∷ []

  latest_elsewhere : (t n : ℕ) → t ≢ s → IsLatest began t n → IsLatest more t n
  latest_elsewhere t n apart was = record {
    last = λ g k has. elim (start_was began new t g k has) as (λ _. k ≤ n) [
      | inl old ↦ was.last g k old
      | inr now ↦ absurd (apart (sym now.1))
    ];
    has = λ some. let h = was.has some in (h.0, start_then began new t h.0 n h.1);
  }

  latest_here : IsLatest more s (length began + 1)
  latest_here = record {
    last = λ g k has. omega (arith, start_within more new k _ has.is, length-append began (new ∷ []));
    has = λ some. (group, start_new began new);
  }

module _ {opening : Database} {registry : Registry} {given : Script} (logged : Bool) (script : Script) (retries : ℕ) (store : Store) (locks : Locks) (began : List BeganGroup) (sessions : List SessionSoFar) (history : Vec Entry) (commits : ℕ) (transcripts : Vec (List Reply))
    (sound : IsSound opening registry given logged script retries store locks began sessions history commits transcripts) where
  abbrev m : Machine
  m = seen logged script retries store locks began sessions history.items

  -- more room for entries
  pub reserved_sound : (entries : Vec Entry) → entries.items ≡ history.items → vec_capacity history ≤ vec_capacity entries → IsSound opening registry given logged script retries store locks began sessions entries commits transcripts
  reserved_sound entries items capacity =
      let size : length entries.items ≡ length history.items = ap (λ (es : List Entry). length es) items in record {
        is_given = sound.is_given;
        narrow = sound.narrow;
        one = sound.one;
        kept = rw items sound.kept;
        counted = rw items sound.counted;
        sessions_numbered = sound.sessions_numbered;
        roomy = sound.roomy;
        room = omega (arith, sound.room, size, capacity);
        no_transcripts = sound.no_transcripts;
        transcripts_room = sound.transcripts_room;
      }

  module _ (s : ℕ) (low : 1 ≤ s) (high : s ≤ length sessions) (x : SessionSoFar) (at : slice_index_or sessions (s - 1) x ≡ x) where
    below : s - 1 < length sessions
    below = omega (arith, low, high)

    here : s - 1 + 1 ≡ s
    here = omega (arith, low)

    is_latest : IsLatest m.began s x.latest
    is_latest = subst (λ (k : ℕ). IsLatest m.began k x.latest) here (sound.roomy (s - 1) x below at).latest

    -- what began last has its place
    pub latest_within : x.latest ≤ length began
    latest_within = by_latest x.latest is_latest
      where
        by_latest : (n : ℕ) → IsLatest m.began s n → n ≤ length began
        by_latest zero is = omega arith
        by_latest (suc n) is =
            let has = is.has (omega arith) in
            omega (arith, start_within m.began (record { session = s; group = has.0; deaths = [] }) (suc n) _ has.1.is, length-map began began_seen)

    module _ (next : Machine) (by : Begins m s next) where
      bounds : (1 ≤ by.group.0) × (by.group.0 ≤ by.group.1) × (by.group.1 ≤ length (session_at script s).statements)
      bounds = (are_texts script).bounds s by.group by.whole

      closed : (o : Option OpenGroup) → x.«open» ≡ o → x.«open» ≡ None
      closed None is = is
      closed (Some g) is =
          let there = open_there logged script retries store locks began sessions history.items x s low high at ∙ ap (option_map (group_seen x.replies.items)) is in
          let clash : None ≡ Some (group_seen x.replies.items g) = sym by.closed ∙ there in
          absurd cc

      pub none_open : x.«open» ≡ None
      none_open = closed x.«open» refl

      all_told : told_at m s ≡ x.replies.items
      all_told = told_there logged script retries store locks began sessions history.items x s low high at ∙ ap (told_before x.replies.items) none_open

      -- the group begins at the session's next statement
      pub begins_at : by.group.0 ≡ length x.replies.items + 1
      begins_at = by.first ∙ ap (λ (rs : List Reply). length rs + 1) all_told

      pub within : length x.replies.items + 1 ≤ length (session_at script s).statements
      within = omega (arith, begins_at, bounds.1, bounds.2)

      pub size_fits : (length x.replies.items + 1 < 2 ^ 32) × (length (session_at script s).statements < 2 ^ 32)
      size_fits =
          let numbers = (sound.roomy (s - 1) x below at).numbers in
          let fits : length (session_at script s).statements < 2 ^ 32 = rw here at numbers in
          (omega (arith, within, fits), fits)

      pub ends_at : last_from (length x.replies.items + 1) (session_at script s).statements ≡ by.group.1
      ends_at = ap (λ (k : ℕ). last_from k (session_at script s).statements) (sym begins_at) ∙ last_is script s by.group by.whole

      -- a group of the session that begins there is this one
      the_group : (g : Group) (n : ℕ) → HasStart m.began s g n → g.0 ≡ length x.replies.items + 1 → g ≡ by.group
      the_group g n has first = one_first script s g by.group (sound.kept.locks_consistent.begun s g n has).whole by.whole (first ∙ sym begins_at)

      -- AGAIN: it is the one that began last
      module _ (some : 0 < x.latest) (b : BeganGroup) (is : b ≡ slice_index_or began (x.latest - 1) b) (first : b.first ≡ length x.replies.items + 1) where
        its_start : HasStart m.began s by.group x.latest
        its_start =
            let has = is_latest.has some in
            let same = started began x.latest b _ has.1.is in
            let group : ◌≡◌ {A = Group} (b.first, b.last) has.0 = ap (λ (b : BeganGroup). (began_seen b).group) is ∙ ap (λ (b : Began). b.group) same in
            let starts : has.0.0 ≡ length x.replies.items + 1 = ap (λ (g : Group). g.0) (sym group) ∙ first in
            subst (λ (g : Group). HasStart m.began s g x.latest) (the_group has.0 x.latest has.1 starts) has.1

        pub its_last : b.last ≡ by.group.1
        its_last =
            let same = started began x.latest b _ its_start.is in
            ap (λ (b : BeganGroup). b.last) is ∙ ap (λ (b : Began). b.group.1) same

        -- so it begins with its own number
        pub goes_again : (y : Machine) → y ≡ begun_again m s x.latest by.group → Begins m s y
        goes_again y is_again = record {
          current = by.current;
          closed = by.closed;
          group = by.group;
          whole = by.whole;
          first = by.first;
          goes = elim by.goes as (λ _. (((n : ℕ) → HasStart m.began s by.group n → ⊥) × (y ≡ begun m s by.group)) ⊎ ((n : ℕ) × (start : HasStart m.began s by.group n) × LastHasEnded m s start.deaths × (y ≡ begun_again m s n by.group))) [
            | inl new ↦ absurd (new.0 x.latest its_start)
            | inr old ↦
                let one : old.0 ≡ x.latest = sound.kept.locks_consistent.once s by.group old.0 x.latest old.1 its_start in
                inr (old.0, old.1, old.2, is_again ∙ ap (λ (n : ℕ). begun_again m s n by.group) (sym one))
          ];
        }

      -- FOR THE FIRST TIME: it is none that has begun
      module _ (other : (x.latest ≡ 0) ⊎ ((b : BeganGroup) × (b ≡ slice_index_or began (x.latest - 1) b) × (b.first ≡ length x.replies.items + 1 → ⊥))) where
        never : (n : ℕ) → HasStart m.began s by.group n → ⊥
        never n start =
            let some = from_one m.began n _ start.is in
            let most = is_latest.last by.group n start in
            elim other as (λ _. ⊥) [
              | inl none ↦ omega (arith, some, most, none)
              | inr last ↦
                  let has = is_latest.has (omega (arith, some, most)) in
                  elim (cases_lt n x.latest) as (λ _. ⊥) [
                    | inl less ↦
                        let ended = sound.kept.locks_consistent.by_session s by.group has.0 n x.latest start has.1 less in
                        omega (arith, ended, by.first, bounds.1)
                    | inr full ↦
                        let e : x.latest ≡ n = omega (arith, most, full) in
                        let same = started began n last.0 _ start.is in
                        let first : last.0.first ≡ by.group.0 =
                        ap (λ (b : BeganGroup). b.first) last.1 ∙ (ap (λ (k : ℕ). (slice_index_or began (k - 1) last.0).first) e ∙ ap (λ (b : Began). b.group.0) same) in
                        last.2 (first ∙ begins_at)
                  ]
            ]

        pub goes_first : (y : Machine) → y ≡ begun m s by.group → Begins m s y
        goes_first y is_begun = record {
          current = by.current;
          closed = by.closed;
          group = by.group;
          whole = by.whole;
          first = by.first;
          goes = inl (never, is_begun);
        }

      -- what is seen of the session with the group open
      module _ (y : SessionSoFar) (start first last : ℕ) (writes : List Write) (opens : y.«open» ≡ Some (record { start = start; first = first; last = last; pending = change.Rows writes }))
          (replies : y.replies.items ≡ x.replies.items) (starts : first ≡ length x.replies.items + 1) (ends : last ≡ by.group.1) (nothing : writes ≡ []) where
        abbrev sessions_then : List SessionSoFar
        sessions_then = slice_set sessions (s - 1) y

        size : length y.replies.items ≡ length x.replies.items
        size = ap (λ (rs : List Reply). length rs) replies

        abbrev as_seen : Group → List Reply → List Write → Option Open
        as_seen group rs ws = Some (record { start = start; group = group; replies = rs; pending = Rows ws })

        open_then : open_seen y ≡ Some (opened m s start by.group)
        open_then =
            let group : ◌≡◌ {A = Group} (first, last) by.group = ap₂ (λ (a b : ℕ). (a, b)) (starts ∙ sym begins_at) ends in
            let none_yet : drop (first - 1) y.replies.items ≡ [] = drop_of_length-le y.replies.items (omega (arith, starts, size)) in
            ap (option_map (group_seen y.replies.items)) opens
            ∙ (ap (λ (g : Group). as_seen g (drop (first - 1) y.replies.items) writes) group
            ∙ (ap (λ (rs : List Reply). as_seen by.group rs writes) none_yet
            ∙ ap (λ (ws : List Write). as_seen by.group [] ws) nothing))

        told_as_before : told_seen y ≡ told_seen x
        told_as_before =
            let all : take (first - 1) y.replies.items ≡ y.replies.items = take_all (first - 1) y.replies.items (omega (arith, starts, size)) in
            ap (told_before y.replies.items) opens ∙ (all ∙ (replies ∙ sym (ap (told_before x.replies.items) none_open)))

        pub seen_again : seen logged script retries store locks began sessions_then history.items ≡ begun_again m s start by.group
        seen_again = seen_with_open logged script retries store locks began sessions history.items s x at y told_as_before (Some (opened m s start by.group)) open_then

        pub seen_begun : (began_then : List BeganGroup) → map began_seen began_then ≡ more m.began s by.group → start ≡ length m.began + 1
            → seen logged script retries store locks began_then sessions_then history.items ≡ begun m s by.group
        seen_begun began_then is number =
            ap₂ (λ (k : Machine) (bs : List Began). record k { began = bs }) seen_again is
            ∙ ap (λ (n : ℕ). record (begun_again m s n by.group) { began = more m.began s by.group }) number

        -- and the machine is sound
        module _ (entries : Vec Entry) (items : entries.items ≡ history.items) (reserved : length history.items + length sessions ≤ vec_capacity entries)
            (capacity : vec_capacity x.replies ≤ vec_capacity y.replies) where
          assembled : (began_then : List BeganGroup) → IsKept opening (seen logged script retries store locks began_then sessions_then history.items)
              → ((j : ℕ) (z : SessionSoFar) → j < length sessions_then → slice_index_or sessions_then j z ≡ z → IsRoomy script (map began_seen began_then) (j + 1) z)
              → IsSound opening registry given logged script retries store locks began_then sessions_then entries commits transcripts
          assembled began_then kept roomy =
              let as_many : length sessions_then ≡ length sessions = length-set sessions (s - 1) y in
              let entries_size : length entries.items ≡ length history.items = ap (λ (es : List Entry). length es) items in record {
                is_given = sound.is_given;
                narrow = sound.narrow;
                one = sound.one;
                kept = rw items kept;
                counted = rw items sound.counted;
                sessions_numbered = sound.sessions_numbered;
                roomy = roomy;
                room = omega (arith, count_by-le-length is_open sessions_then, as_many, entries_size, reserved);
                no_transcripts = sound.no_transcripts;
                transcripts_room = omega (arith, as_many, sound.transcripts_room);
              }

          pub again_sound : Begins m s (seen logged script retries store locks began sessions_then history.items) → y.latest ≡ x.latest
              → IsSound opening registry given logged script retries store locks began sessions_then entries commits transcripts
          again_sound begins latest =
              assembled began (begins_keeps_all opening m sound.kept (are_texts script) s _ begins)
              (roomy_then script m.began sessions (s - 1) x y below at sound.roomy capacity (subst (IsLatest m.began (s - 1 + 1)) (sym latest) (sound.roomy (s - 1) x below at).latest))

          roomy_begun : (latest : y.latest ≡ length m.began + 1) (j : ℕ) (z : SessionSoFar) → j < length sessions_then → slice_index_or sessions_then j z ≡ z
              → IsRoomy script (more m.began s by.group) (j + 1) z
          roomy_begun latest j z inside is = elim (cases_eq j (s - 1)) as (λ _. IsRoomy script (more m.began s by.group) (j + 1) z) [
            | inl same ↦
                let item : y ≡ z = sym (get_or-set_same sessions (s - 1) y z below) ∙ (ap (λ (k : ℕ). slice_index_or sessions_then k z) (sym same) ∙ is) in
                let was = sound.roomy (s - 1) x below at in
                let number : s ≡ s - 1 + 1 = sym here in
                let now : IsRoomy script (more m.began s by.group) (s - 1 + 1) y = record {
                  room = omega (arith, was.room, capacity);
                  numbers = was.numbers;
                  latest = subst (λ (k : ℕ). IsLatest (more m.began s by.group) k y.latest) number (subst (IsLatest (more m.began s by.group) s) (sym latest) (latest_here m.began s by.group));
                } in
                subst (λ (k : ℕ). IsRoomy script (more m.began s by.group) (k + 1) z) (sym same) (subst (IsRoomy script (more m.began s by.group) (s - 1 + 1)) item now)
            | inr apart ↦
                let there : slice_index_or sessions j z ≡ z = sym (get_or-set_other sessions (s - 1) j y z apart) ∙ is in
                let was = sound.roomy j z (omega (arith, inside, length-set sessions (s - 1) y)) there in
                let elsewhere : j + 1 ≢ s = λ same. apart (omega (arith, same)) in
                record { room = was.room; numbers = was.numbers; latest = latest_elsewhere m.began s by.group (j + 1) z.latest elsewhere was.latest }
          ]

          pub begun_sound : (began_then : List BeganGroup) → map began_seen began_then ≡ more m.began s by.group → Begins m s (seen logged script retries store locks began_then sessions_then history.items)
              → y.latest ≡ length m.began + 1 → IsSound opening registry given logged script retries store locks began_then sessions_then entries commits transcripts
          begun_sound began_then is begins latest =
              assembled began_then (begins_keeps_all opening m sound.kept (are_texts script) s _ begins)
              (subst (λ (bs : List Began). (j : ℕ) (z : SessionSoFar) → j < length sessions_then → slice_index_or sessions_then j z ≡ z → IsRoomy script bs (j + 1) z) (sym is) (roomy_begun latest))

      -- ALL OF IT, as the code has it
      module _ (entries : Vec Entry) (items : entries.items ≡ history.items) (reserved : length history.items + length sessions ≤ vec_capacity entries)
          (y : SessionSoFar) (replies : y.replies ≡ x.replies) (first : ℕ) (starts : first ≡ length x.replies.items + 1) where
        abbrev next_of : List BeganGroup → Machine
        next_of began_then = seen logged script retries store locks began_then (slice_set sessions (s - 1) y) entries.items

        abbrev SoundWith : List BeganGroup → Type 0
        SoundWith began_then = IsSound opening registry given logged script retries store locks began_then (slice_set sessions (s - 1) y) entries commits transcripts

        same_items : y.replies.items ≡ x.replies.items
        same_items = ap (λ (v : Vec Reply). v.items) replies

        same_room : vec_capacity x.replies ≤ vec_capacity y.replies
        same_room =
            let same : vec_capacity y.replies ≡ vec_capacity x.replies = ap (λ (v : Vec Reply). vec_capacity v) replies in
            omega (arith, same)

        pub again_all : (0 < x.latest) → (b : BeganGroup) → b ≡ slice_index_or began (x.latest - 1) b → b.first ≡ first → (last : ℕ) → b.last ≡ last
            → y.«open» ≡ Some (record { start = x.latest; first = first; last = last; pending = change.Rows [] }) → y.latest ≡ x.latest
            → Begins m s (next_of began) × SoundWith began
        again_all some b is b_first last b_last opens latest =
            let b_starts : b.first ≡ length x.replies.items + 1 = b_first ∙ starts in
            let ends : last ≡ by.group.1 = sym b_last ∙ its_last some b is b_starts in
            let begins : Begins m s (seen logged script retries store locks began (slice_set sessions (s - 1) y) history.items) =
            goes_again some b is b_starts (seen logged script retries store locks began (slice_set sessions (s - 1) y) history.items)
            (seen_again y x.latest first last [] opens same_items starts ends refl) in (
              subst (λ (es : List Entry). Begins m s (seen logged script retries store locks began (slice_set sessions (s - 1) y) es)) (sym items) begins,
              again_sound y x.latest first last [] opens same_items starts ends refl entries items reserved same_room begins latest,
            )

        pub begun_all : ((x.latest ≡ 0) ⊎ ((b : BeganGroup) × (b ≡ slice_index_or began (x.latest - 1) b) × (b.first ≡ first → ⊥)))
            → (last : ℕ) → last ≡ last_from first (session_at script s).statements → (deaths : Vec ℕ) → deaths.items ≡ []
            → (began_then : List BeganGroup) → began_then ≡ began ++ record { session = s; first = first; last = last; deaths = deaths } ∷ []
            → (start : ℕ) → start ≡ length began_then → y.«open» ≡ Some (record { start = start; first = first; last = last; pending = change.Rows [] }) → y.latest ≡ start
            → Begins m s (next_of began_then) × SoundWith began_then
        begun_all other last last_so deaths none began_then then_is start start_is opens latest =
            let ends : last ≡ by.group.1 = last_so ∙ (ap (λ (k : ℕ). last_from k (session_at script s).statements) starts ∙ ends_at) in
            let group : ◌≡◌ {A = Group} (first, last) by.group = ap₂ (λ (a b : ℕ). (a, b)) (starts ∙ sym begins_at) ends in
            let last_began : BeganGroup = record { session = s; first = first; last = last; deaths = deaths } in
            let is : map began_seen began_then ≡ more m.began s by.group =
            ap (map began_seen) then_is
            ∙ (map-append began_seen began (last_began ∷ [])
            ∙ ap₂ (λ (g : Group) (ds : List ℕ). m.began ++ record { session = s; group = g; deaths = ds } ∷ []) group none) in
            let number : start ≡ length m.began + 1 =
            omega (arith, start_is, ap (λ (bs : List BeganGroup). length bs) then_is, length-append began (last_began ∷ []), length-map began began_seen) in
            let never_so : (x.latest ≡ 0) ⊎ ((b : BeganGroup) × (b ≡ slice_index_or began (x.latest - 1) b) × (b.first ≡ length x.replies.items + 1 → ⊥)) =
            elim other as (λ _. (x.latest ≡ 0) ⊎ ((b : BeganGroup) × (b ≡ slice_index_or began (x.latest - 1) b) × (b.first ≡ length x.replies.items + 1 → ⊥))) [
              | inl zero_so ↦ inl zero_so
              | inr apart ↦ inr (apart.0, apart.1, λ same. apart.2 (same ∙ sym starts))
            ] in
            let begins : Begins m s (seen logged script retries store locks began_then (slice_set sessions (s - 1) y) history.items) =
            goes_first never_so (seen logged script retries store locks began_then (slice_set sessions (s - 1) y) history.items)
            (seen_begun y start first last [] opens same_items starts ends refl began_then is number) in (
              subst (λ (es : List Entry). Begins m s (seen logged script retries store locks began_then (slice_set sessions (s - 1) y) es)) (sym items) begins,
              begun_sound y start first last [] opens same_items starts ends refl entries items reserved same_room began_then is begins (latest ∙ number),
            )
