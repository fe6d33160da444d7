-- One session of a machine in the place of another, of which as much is open, and what is seen then.
use Rattle.std.proofs.Common.{◌≡◌, ℕ, ◌+◌, ◌-◌, ◌<◌, ◌≤◌, Bool, cond, List, length, map, Option, sym, ap, ap₂, subst, ◌∙◌, arith, vec_capacity}
use Rattle.std.specs.Prelude.{count_by, slice_index_or, slice_set}
use Rattle.std.specs.Global.{Vec}
use Rattle.std.proofs.Math.Seq.{map-set_same}
use Rattle.std.proofs.lemmas.List.{length-set}
use Rattle.std.proofs.lemmas.List.Sums.{sum_by-set}
use Rattle.bf_locks.specs.Locks.{Locks}
use Rattle.bf_tree.specs.declared.history.Entry.{Entry}
use Rattle.bf_tree.specs.declared.reply.Reply.{Reply}
use Rattle.bf_tree.specs.declared.script.Script.{Script}
use Rattle.bf_sql.specs.Database.{Database}
use Rattle.bf_image.specs.Registries.{Registry}
use Rattle.bf_store.specs.Stores.{Store}
use Rattle.bf_machine.specs.declared.so_far.Began.{Began as BeganGroup}
use Rattle.bf_machine.specs.declared.so_far.SessionSoFar.{SessionSoFar}
use Rattle.bf_machine.specs.interleaving.Events.{with_open}
use Rattle.bf_machine.specs.interleaving.Kept.{IsKept}
use Rattle.bf_machine.specs.interleaving.Machines.{Machine, Open}
use Rattle.bf_machine.specs.interleaving.Seen.{IsLatest, IsSound, began_seen, is_open, open_seen, seen, told_seen}
use Rattle.bf_machine.proofs.keeping.Places.{opens_then, roomy_then, told_then}

module _ (logged : Bool) (script : Script) (retries : ℕ) (store : Store) (locks : Locks) (began : List BeganGroup) (sessions : List SessionSoFar) (history : List Entry)
    (s : ℕ) (x : SessionSoFar) (at : slice_index_or sessions (s - 1) x ≡ x) (y : SessionSoFar) where
  abbrev m : Machine
  m = seen logged script retries store locks began sessions history

  abbrev then : Machine
  then = seen logged script retries store locks began (slice_set sessions (s - 1) y) history

  opens_same : open_seen y ≡ open_seen x → map open_seen (slice_set sessions (s - 1) y) ≡ map open_seen sessions
  opens_same alike = map-set_same open_seen sessions (s - 1) y x (alike ∙ ap open_seen (sym at))

  told_same : told_seen y ≡ told_seen x → map told_seen (slice_set sessions (s - 1) y) ≡ map told_seen sessions
  told_same alike = map-set_same told_seen sessions (s - 1) y x (alike ∙ ap told_seen (sym at))

  abbrev with_lists : List (Option Open) → List (List Reply) → Machine
  with_lists opens told = record m { opens = opens; told = told }

  -- a session that is seen as before
  pub seen_same : open_seen y ≡ open_seen x → told_seen y ≡ told_seen x → then ≡ m
  seen_same opens told = ap₂ with_lists (opens_same opens) (told_same told)

  -- one that has another group open, or none
  pub seen_with_open : told_seen y ≡ told_seen x → (group : Option Open) → open_seen y ≡ group → then ≡ with_open m s group
  seen_with_open told group opens =
      ap₂ with_lists (opens_then sessions (s - 1) y ∙ ap (λ (p : Option Open). slice_set (map open_seen sessions) (s - 1) p) opens) (told_same told)

  -- and one that is told other replies
  pub seen_with_told : open_seen y ≡ open_seen x → (replies : List Reply) → told_seen y ≡ replies → then ≡ record m { told = slice_set m.told (s - 1) replies }
  seen_with_told opens replies told =
      ap₂ with_lists (opens_same opens) (told_then sessions (s - 1) y ∙ ap (λ (rs : List Reply). slice_set (map told_seen sessions) (s - 1) rs) told)

-- the machine stays sound where as many groups are open
module _ {opening : Database} {registry : Registry} {given : Script} (logged : Bool) (script : Script) (retries : ℕ) (store : Store) (locks : Locks) (began : List BeganGroup) (sessions : List SessionSoFar) (history : Vec Entry) (commits : ℕ) (transcripts : Vec (List Reply))
    (sound : IsSound opening registry given logged script retries store locks began sessions history commits transcripts)
    (s : ℕ) (low : 1 ≤ s) (high : s ≤ length sessions) (x : SessionSoFar) (at : slice_index_or sessions (s - 1) x ≡ x)
    (y : SessionSoFar) (alike : is_open y ≡ is_open x) (latest : y.latest ≡ x.latest) (capacity : vec_capacity x.replies ≤ vec_capacity y.replies) where
  below : s - 1 < length sessions
  below = omega (arith, low, high)

  abbrev counts : SessionSoFar → ℕ
  counts z = cond (is_open z) 1 0

  changed : count_by is_open (slice_set sessions (s - 1) y) + counts (slice_index_or sessions (s - 1) x) ≡ count_by is_open sessions + counts y
  changed = sum_by-set counts sessions (s - 1) y x below

  as_many : count_by is_open (slice_set sessions (s - 1) y) ≡ count_by is_open sessions
  as_many =
      let mine : counts (slice_index_or sessions (s - 1) x) ≡ counts x = ap counts at in
      let same : counts y ≡ counts x = ap (λ (b : Bool). cond b 1 0) alike in
      omega (arith, changed, mine, same)

  pub exchanged_sound : IsKept opening (seen logged script retries store locks began (slice_set sessions (s - 1) y) history.items)
      → IsSound opening registry given logged script retries store locks began (slice_set sessions (s - 1) y) history commits transcripts
  exchanged_sound kept =
      let was = sound.roomy (s - 1) x below at in record {
        is_given = sound.is_given;
        narrow = sound.narrow;
        one = sound.one;
        kept = kept;
        counted = sound.counted;
        sessions_numbered = sound.sessions_numbered;
        roomy = roomy_then script (map began_seen began) sessions (s - 1) x y below at sound.roomy capacity (subst (IsLatest (map began_seen began) (s - 1 + 1)) (sym latest) was.latest);
        room = omega (arith, sound.room, as_many);
        no_transcripts = sound.no_transcripts;
        transcripts_room = omega (arith, length-set sessions (s - 1) y, sound.transcripts_room);
      }
