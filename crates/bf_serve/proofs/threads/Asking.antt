-- A statement that was made ready is the machine's next one, where the machine still stands there.
use Rattle.std.proofs.Common.{◌≡◌, ◌⊎◌, ℕ, zero, suc, ◌-◌, ◌<◌, arith, Bool, List, [], ◌∷◌, length, take, Option, Some, None, refl, sym, ap, subst, ◌∙◌, inl, inr}
use Rattle.std.specs.Prelude.{Contains, IsSomeAnd, slice_get}
use Rattle.std.specs.List.{slice_index_or}
use Rattle.std.specs.Option.{option_map}
use Rattle.std.proofs.Math.Seq.{take-length}
use Rattle.std.proofs.lemmas.Option.{same_Some}
use Rattle.bf_tree.specs.Catalogs.{Catalog}
use Rattle.bf_tree.specs.declared.bound.Bound.{Bound}
use Rattle.bf_tree.specs.declared.history.Entry.{Entry}
use Rattle.bf_tree.specs.declared.script.Script.{Script}
use Rattle.bf_sql.specs.Bound.{catalog_of, without_rows}
use Rattle.bf_sql.specs.Database.{Database, IsDatabase}
use Rattle.bf_sql.specs.Footprints.{Lock, footprint_of}
use Rattle.bf_sql.specs.Groups.{session_at}
use Rattle.bf_sql.specs.History.{replayed}
use Rattle.bf_sql.specs.migrations.Plans.{prepared_of}
use Rattle.bf_locks.specs.Locks.{Locks}
use Rattle.bf_live.specs.OpenGroups.{Holds, HoldsIn}
use Rattle.bf_live.specs.Replies.{IsWellBound}
use Rattle.bf_image.specs.Registries.{Registry}
use Rattle.bf_machine.specs.interleaving.Calls.{CanAsk, CanExec, CanRefuse, IsToExec}
use Rattle.bf_machine.specs.interleaving.Events.{stands_inside}
use Rattle.bf_machine.specs.interleaving.Kept.{IsKept}
use Rattle.bf_machine.specs.interleaving.Machines.{Machine, Open, open_at}
use Rattle.bf_machine.specs.interleaving.Serving.{HasLocked, IsBoundNext, IsToLock, is_in_block}
use Rattle.bf_machine.proofs.served.Binding.{next_bound, prepared_well}
use Rattle.bf_machine.proofs.served.Locking.{can_ask}
use Rattle.bf_serve.specs.Requests.{HoldsAll, HoldsIfOpen, IsPreparedAt, IsRequest, Position, Request, StandsAt}

-- an item that is got at a place is read there
pub read_at : {X : Type 0} (xs : List X) (i : ℕ) (x : X) → slice_get xs i ≡ Some x → slice_index_or xs i x ≡ x
read_at [] i x is = absurd cc
read_at (y ∷ ys) zero x is = same_Some y x is
read_at (y ∷ ys) (suc i) x is = read_at ys i x is

pub got_at : {X : Type 0} (xs : List X) (i : ℕ) (x : X) → i < length xs → slice_index_or xs i x ≡ x → slice_get xs i ≡ Some x
got_at [] i x within is = absurd (omega (arith, within))
got_at (y ∷ ys) zero x within is = ap Some is
got_at (y ∷ ys) (suc i) x within is = got_at ys i x (omega (arith, within)) is

-- what is prepared at a position is well bound, and has keys
pub well_bound_at : (script : Script) (p : Position) (bound : Bound) → IsDatabase (without_rows p.catalog.value) → IsPreparedAt script p bound → IsWellBound bound.action
well_bound_at script p bound database is = prepared_well (without_rows p.catalog.value) database p.in_block bound is.statement is.prepared_so

module _ {start : Database} (registry : Registry) (m : Machine) (kept : IsKept start m) (r : Request) (is : IsRequest registry m.script r) (at : StandsAt m r.at) where
  there : prepared_of (without_rows (catalog_of m.db)) (is_in_block m r.at.session) is.prepared.statement ≡ Some r.bound
  there =
      subst (λ (b : Bool). prepared_of (without_rows (catalog_of m.db)) b is.prepared.statement ≡ Some r.bound) (sym at.block)
      (subst (λ (c : Catalog). prepared_of (without_rows c) r.at.in_block is.prepared.statement ≡ Some r.bound) at.catalog is.prepared.prepared_so)

  pub bound_next : ((o : Open) × IsBoundNext m r.at.session o r.bound) ⊎ CanRefuse m r.at.session
  bound_next = next_bound m kept r.at.session r.at.place is.at.session at.stands is.prepared.statement (read_at (session_at m.script r.at.session).statements (r.at.place - 1) is.prepared.statement is.prepared.is) r.bound there

  -- of an open group each lock of its footprint may be asked for
  pub may_ask : (o : Open) → open_at m r.at.session ≡ Some o → (lock : Lock) → Contains (footprint_of r.bound) lock → CanAsk m r.at.session start lock.0 lock.1
  may_ask o found lock among = elim bound_next as (λ _. CanAsk m r.at.session start lock.0 lock.1) [
    | inl next ↦
        can_ask m kept r.at.session next.0 (footprint_of r.bound) next.1.to_lock m.locks lock.0 lock.1 among
    | inr refused ↦ absurd (let clash : None ≡ Some o = sym refused.1.closed ∙ found in cc)
  ]

  -- and all of them
  pub may_ask_all : (o : Open) → open_at m r.at.session ≡ Some o → (p : Open) × IsToLock m r.at.session p r.locks
  may_ask_all o found = elim bound_next as (λ _. (p : Open) × IsToLock m r.at.session p r.locks) [
    | inl next ↦ (next.0, subst (IsToLock m r.at.session next.0) (sym is.locks) next.1.to_lock)
    | inr refused ↦ absurd (let clash : None ≡ Some o = sym refused.1.closed ∙ found in cc)
  ]

  -- and where they are held, or no group is open, it may have its reply
  held_by : (o : Open) → open_at m r.at.session ≡ Some o → HoldsAll m r → Holds m.locks o.start (footprint_of r.bound)
  held_by o found all = subst (λ (fs : List Lock). Holds m.locks o.start fs) is.locks
      (λ k d within. subst (λ (some : Option Open). IsSomeAnd some (λ (p : Open). HoldsIn m.locks p.start (slice_index_or r.locks k d).0 (slice_index_or r.locks k d).1)) found (all k d within))

  exec_next : (o : Open) → IsBoundNext m r.at.session o r.bound → Holds m.locks o.start (footprint_of r.bound) → IsToExec m r.at.session start r.bound
  exec_next o next held =
      let present : m.db ≡ (replayed m.script start (take (length m.history) m.history)).1 =
      kept.history_legal.replay ∙ ap (λ (es : List Entry). (replayed m.script start es).1) (sym (take-length m.history)) in
      record {
        current = next.to_lock.current;
        o = o;
        is = next.to_lock.is;
        statement = next.to_lock.statement;
        later = next.to_lock.later;
        left = next.to_lock.left;
        goes_on = next.goes_on;
        prefix = length m.history;
        bound_so = subst (λ (db : Database). prepared_of db (stands_inside o.replies) next.to_lock.statement ≡ Some r.bound) present next.bound_so;
        held = held;
      }

  pub may_run : HoldsIfOpen m r → CanExec m r.at.session start r.bound
  may_run all = elim bound_next as (λ _. CanExec m r.at.session start r.bound) [
    | inl next ↦ inl (exec_next next.0 next.1 (held_by next.0 next.1.to_lock.is (all next.0 next.1.to_lock.is)))
    | inr refused ↦ inr refused
  ]

-- a session with a start number has an open group
pub group_at : (m : Machine) (s n : ℕ) → option_map (λ (o : Open). o.start) (open_at m s) ≡ Some n → (o : Open) × (open_at m s ≡ Some o)
group_at m s n is = of (open_at m s) is
  where
    of : (some : Option Open) → option_map (λ (o : Open). o.start) some ≡ Some n → (o : Open) × (some ≡ Some o)
    of None clash = absurd cc
    of (Some o) same = (o, refl)

-- locks that a group has come to hold are held of the request that they are of
pub held_if_locked : (m next : Machine) (r : Request) → HasLocked m r.at.session r.locks next → HoldsIfOpen next r
held_if_locked m next r locked o found =
    let now : open_at next r.at.session ≡ open_at m r.at.session = ap (λ (k : Machine). open_at k r.at.session) locked.3 in
    let same : Some o ≡ Some locked.0 = sym found ∙ (now ∙ locked.1) in
    λ k d within. subst (λ (some : Option Open). IsSomeAnd some (λ (p : Open). HoldsIn next.locks p.start (slice_index_or r.locks k d).0 (slice_index_or r.locks k d).1)) (sym found)
    (subst (λ (l : Locks). HoldsIn l o.start (slice_index_or r.locks k d).0 (slice_index_or r.locks k d).1) (sym (ap (λ (n : Machine). n.locks) locked.3))
    (subst (λ (n : ℕ). HoldsIn locked.2 n (slice_index_or r.locks k d).0 (slice_index_or r.locks k d).1) (sym (ap (λ (p : Open). p.start) (same_Some o locked.0 same))) (locked.4 k d within)))

-- and nothing is to be held of one without locks
pub held_if_none : (m : Machine) (r : Request) → r.locks ≡ [] → HoldsIfOpen m r
held_if_none m r none o found = λ k d within. absurd (omega (arith, ap (λ (fs : List Lock). length fs) none, within))
