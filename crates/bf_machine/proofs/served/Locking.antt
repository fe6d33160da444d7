-- The locks of a footprint, asked for one after the other.
use Rattle.std.proofs.Common.{◌≡◌, ℕ, zero, suc, true, List, [], ◌∷◌, ◌++◌, length, take, Option, Some, None, refl, sym, ap, ap₂, subst, ◌∙◌, arith}
use Rattle.std.specs.Prelude.{Contains, IsSomeAnd, IsTrue}
use Rattle.std.specs.Option.{option_map_or}
use Rattle.std.specs.List.{All, slice_index_or}
use Rattle.std.proofs.lemmas.List.Elements.{All-append}
use Rattle.std.proofs.lemmas.List.{take_all}
use Rattle.std.proofs.lemmas.Option.{same_Some}
use Rattle.bf_locks.specs.declared.answer.LockAnswer.{LockAnswer}
use Rattle.bf_locks.specs.declared.answer.LockAnswer.TheVariants.{Die, Granted}
use Rattle.bf_locks.specs.declared.mode.Mode.{Mode}
use Rattle.bf_locks.specs.declared.mode.Mode.TheVariants.{IS, IX, S, SIX, X}
use Rattle.bf_locks.specs.declared.name.LockName.{LockName}
use Rattle.bf_locks.specs.Locks.{IsJudged, Locks, after as locks_after, held}
use Rattle.bf_locks.specs.Modes.{covers, join_of}
use Rattle.bf_locks.proofs.Held.{held_granted}
use Rattle.bf_tree.specs.declared.history.Entry.{Entry}
use Rattle.bf_sql.specs.Database.{Database}
use Rattle.bf_sql.specs.Footprints.{Lock}
use Rattle.bf_sql.specs.History.{replayed}
use Rattle.bf_live.specs.OpenGroups.{Holds, HoldsIn}
use Rattle.bf_live.proofs.locking.Granting.{answer_keeps}
use Rattle.bf_machine.specs.interleaving.Calls.{CanAsk}
use Rattle.bf_machine.specs.interleaving.Events.{Asks, Reaches, died, stands_inside}
use Rattle.bf_machine.specs.interleaving.Groups.{footprint_in}
use Rattle.bf_machine.specs.interleaving.Kept.{IsKept}
use Rattle.bf_machine.specs.interleaving.Machines.{Machine, Open, open_at}
use Rattle.bf_machine.specs.interleaving.Serving.{HasLocked, IsAsked, IsToLock}
use Rattle.bf_machine.proofs.served.Events.{serves_locks}

-- a mode covers itself, and a join its second part
own_covers : (mode : Mode) → covers mode mode ≡ true
own_covers mode = elim mode as (λ mode. covers mode mode ≡ true) [ IS ↦ refl | IX ↦ refl | S ↦ refl | SIX ↦ refl | X ↦ refl ]

join_covers : (a b : Mode) → covers (join_of a b) b ≡ true
join_covers IS b = elim b as (λ b. covers (join_of IS b) b ≡ true) [ IS ↦ refl | IX ↦ refl | S ↦ refl | SIX ↦ refl | X ↦ refl ]
join_covers IX b = elim b as (λ b. covers (join_of IX b) b ≡ true) [ IS ↦ refl | IX ↦ refl | S ↦ refl | SIX ↦ refl | X ↦ refl ]
join_covers S b = elim b as (λ b. covers (join_of S b) b ≡ true) [ IS ↦ refl | IX ↦ refl | S ↦ refl | SIX ↦ refl | X ↦ refl ]
join_covers SIX b = elim b as (λ b. covers (join_of SIX b) b ≡ true) [ IS ↦ refl | IX ↦ refl | S ↦ refl | SIX ↦ refl | X ↦ refl ]
join_covers X b = elim b as (λ b. covers (join_of X b) b ≡ true) [ IS ↦ refl | IX ↦ refl | S ↦ refl | SIX ↦ refl | X ↦ refl ]

-- what is granted is held
granted_is_held : (locks : Locks) (owner : ℕ) (name : LockName) (mode : Mode) → HoldsIn (locks_after locks owner name mode Granted) owner name mode
granted_is_held locks owner name mode =
    subst (λ (found : Option Mode). IsSomeAnd found (λ mine. IsTrue (covers mine mode))) (sym (held_granted locks owner name mode)) (by_held (held locks name owner))
  where
    by_held : (found : Option Mode) → covers (option_map_or (λ before. join_of before mode) found mode) mode ≡ true
    by_held None = own_covers mode
    by_held (Some before) = join_covers before mode

held_more : (locks : Locks) (owner : ℕ) (held : List Lock) (name : LockName) (mode : Mode) → Holds locks owner held → Holds (locks_after locks owner name mode Granted) owner (held ++ (name, mode) ∷ [])
held_more locks owner held name mode was =
    let then = locks_after locks owner name mode Granted in
    let P : Lock → Type 0 = λ lock. HoldsIn then owner lock.0 lock.1 in
    let before : All P held = λ k d within. answer_keeps locks owner owner name (slice_index_or held k d).0 mode (slice_index_or held k d).1 Granted (was k d within) in
    All-append P held ((name, mode) ∷ []) before (one then)
  where
    one : (then : Locks) → All (λ (lock : Lock). HoldsIn (locks_after locks owner name mode Granted) owner lock.0 lock.1) ((name, mode) ∷ [])
    one then zero d within = granted_is_held locks owner name mode
    one then (suc k) d within = absurd (omega (arith, within))

module _ {start : Database} (m : Machine) (kept : IsKept start m) (s : ℕ) (o : Open) (footprint : List Lock) (next : IsToLock m s o footprint) where
  abbrev under : Locks → Machine
  under locks = record m { locks = locks }

  -- each of them may be asked for
  pub can_ask : (locks : Locks) (name : LockName) (mode : Mode) → Contains footprint (name, mode) → CanAsk (under locks) s start name mode
  can_ask locks name mode among =
      let behind : (replayed m.script start (take (length m.history) m.history)).1 ≡ m.db =
      ap (λ (es : List Entry). (replayed m.script start es).1) (take_all (length m.history) m.history (omega arith)) ∙ sym kept.history_legal.replay in
      let whole : footprint ≡ footprint_in (replayed m.script start (take (length m.history) m.history)).1 (stands_inside o.replies) next.statement =
      sym (ap (λ (db : Database). footprint_in db (stands_inside o.replies) next.statement) behind ∙ next.footprint) in record {
        current = next.current;
        o = o;
        is = next.is;
        statement = next.statement;
        later = next.later;
        left = next.left;
        prefix = length m.history;
        asks = subst (λ (fs : List Lock). Contains fs (name, mode)) whole among;
      }

  same_group : (locks : Locks) (name : LockName) (mode : Mode) (answer : LockAnswer) (then : Machine) (by : Asks (under locks) s start name mode answer then) → by.o ≡ o
  same_group locks name mode answer then by = same_Some by.o o (sym by.is ∙ next.is)

  -- those that are granted are held
  pub one_locked : (held : List Lock) (name : LockName) (mode : Mode) (now then : Machine) → HasLocked m s held now → Asks now s start name mode Granted then → HasLocked m s (held ++ (name, mode) ∷ []) then
  one_locked held name mode now then locked by =
      let same : locked.0 ≡ o = same_Some locked.0 o (sym locked.1 ∙ next.is) in
      let asked : Asks (under locked.2) s start name mode Granted then = subst (λ (now : Machine). Asks now s start name mode Granted then) locked.3 by in
      let own : asked.o ≡ o = same_group locked.2 name mode Granted then asked in
      let was : Holds locked.2 o.start held = subst (λ (p : Open). Holds locked.2 p.start held) same locked.4 in
      let locks = locks_after locked.2 o.start name mode Granted in
      let goes : then ≡ under locks = asked.goes ∙ ap (λ (p : Open). under (locks_after locked.2 p.start name mode Granted)) own in
      (o, next.is, locks, goes, held_more locked.2 o.start held name mode was)

  abbrev asked_by : (locks : Locks) (name : LockName) (mode : Mode) (answer : LockAnswer) → Reaches start m (under locks) → Contains footprint (name, mode) → IsJudged locks o.start name mode answer → IsAsked m s start answer
  asked_by locks name mode answer reached among judged = record {
    now = under locks;
    serves = serves_locks m s locks;
    reached = reached;
    no_reply = refl;
    no_move = refl;
    o = o;
    is = next.is;
    same = λ p is. ap (λ (q : Open). q.start) (same_Some p o (sym is ∙ next.is));
    statement = next.statement;
    later = next.later;
    left = next.left;
    name = name;
    mode = mode;
    asks = subst (λ (fs : List Lock). Contains fs (name, mode)) (sym next.footprint) among;
    judged = judged;
  }

  pub has_asked : (held : List Lock) (name : LockName) (mode : Mode) (answer : LockAnswer) (now then : Machine) → HasLocked m s held now → Reaches start m now → Contains footprint (name, mode) → Asks now s start name mode answer then
      → (asked : IsAsked m s start answer) × (asked.now ≡ now) × (asked.o ≡ o)
  has_asked held name mode answer now then locked reached among by =
      let asked : Asks (under locked.2) s start name mode answer then = subst (λ (now : Machine). Asks now s start name mode answer then) locked.3 by in
      let own : asked.o ≡ o = same_group locked.2 name mode answer then asked in
      (asked_by locked.2 name mode answer (subst (Reaches start m) locked.3 reached) among (subst (λ (p : Open). IsJudged locked.2 p.start name mode answer) own asked.judged), sym locked.3, refl)

  -- a death ends the group that asked
  pub dies_as : (held : List Lock) (name : LockName) (mode : Mode) (older : ℕ) (now then : Machine) → HasLocked m s held now → (by : Asks now s start name mode (Die older) then)
      → (asked : IsAsked m s start (Die older)) → asked.now ≡ now → asked.o ≡ o → then ≡ died asked.now s asked.o older
  dies_as held name mode older now then locked by asked same own =
      let is : open_at now s ≡ Some o = ap (λ (k : Machine). open_at k s) locked.3 ∙ next.is in
      let group : by.o ≡ o = same_Some by.o o (sym by.is ∙ is) in
      by.goes ∙ ap₂ (λ (k : Machine) (p : Open). died k s p older) (sym same) (group ∙ sym own)
