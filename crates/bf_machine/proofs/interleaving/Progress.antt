-- Some session can go on: an open group that is alone, or the youngest one, and where none is open the oldest that has not ended.
use Rattle.std.proofs.Common.{◌≡◌, ℕ, ◌<◌, ◌≤◌, false, List, [], ◌∷◌, length, Some, None, refl, sym, ◌∙◌, arith}
use Rattle.std.specs.Prelude.{Contains, IsSomeAnd}
use Rattle.std.specs.List.{slice_index_or}
use Rattle.bf_locks.specs.declared.answer.LockAnswer.{LockAnswer}
use Rattle.bf_locks.specs.declared.answer.LockAnswer.TheVariants.{Die, Granted, Wait}
use Rattle.bf_locks.specs.declared.mode.Mode.{Mode}
use Rattle.bf_locks.specs.declared.name.LockName.{LockName}
use Rattle.bf_locks.specs.Locks.{Conflicts, IsJudged, held, wanted}
use Rattle.bf_locks.specs.Modes.{are_compatible}
use Rattle.bf_sql.specs.Database.{Database}
use Rattle.bf_machine.specs.interleaving.Events.{LastHasEnded}
use Rattle.bf_machine.specs.interleaving.Kept.{HasEnded, HasStart, IsKept}
use Rattle.bf_machine.specs.interleaving.Machines.{Group, Machine, Open, open_at}
use Rattle.bf_machine.proofs.interleaving.Places.{there_in}

-- whoever conflicts has an open group
record IsOpenOwner (m : Machine) (owner : ℕ) : Type 0 where
  pub session : ℕ
  pub group : Open
  pub is : open_at m session ≡ Some group
  pub start_is : group.start ≡ owner

module _ (start : Database) (m : Machine) (kept : IsKept start m) (s : ℕ) (o : Open) (there : open_at m s ≡ Some o) (name : LockName) (mode : Mode) where
  conflict_is_open : (h : ℕ) → Conflicts m.locks o.start name mode h → IsOpenOwner m h
  conflict_is_open h conflict =
      let against : IsSomeAnd (held m.locks name h) (λ theirs. are_compatible theirs (wanted m.locks o.start name mode) ≡ false) = conflict.against in
      elim (held m.locks name h) as (λ some. held m.locks name h ≡ some → IsSomeAnd some (λ theirs. are_compatible theirs (wanted m.locks o.start name mode) ≡ false) → IsOpenOwner m h) [
        | None ↦ λ is no. absurd no
        | Some theirs ↦ λ is against.
            let was = kept.locks_consistent.owners name h theirs is in
            record { session = was.0; group = was.1; is = was.2; start_is = was.3 }
      ] refl against

  -- the first of those that a wait names
  first_named : (others : List ℕ) → IsJudged m.locks o.start name mode (Wait others) → (h : ℕ) × Contains others h
  first_named [] waits = absurd (waits.some refl)
  first_named (h ∷ hs) waits = (h, (0, omega arith, refl))

  -- the youngest open group does not wait
  pub youngest_never_waits : ((t : ℕ) (p : Open) → open_at m t ≡ Some p → p.start ≤ o.start) → (others : List ℕ) → IsJudged m.locks o.start name mode (Wait others) → ⊥
  youngest_never_waits youngest others waits =
      let named = first_named others waits in
      let owner = conflict_is_open named.0 ((waits.all named.0).0 named.1) in
      let above = waits.younger named.0 named.1 in
      let below = youngest owner.session owner.group owner.is in
      omega (arith, above, below, owner.start_is)

  -- and one that is alone is granted what it asks for
  pub alone_is_granted : ((t : ℕ) (p : Open) → open_at m t ≡ Some p → p.start ≡ o.start) → (answer : LockAnswer) → IsJudged m.locks o.start name mode answer → answer ≡ Granted
  alone_is_granted alone Granted judged = refl
  alone_is_granted alone (Wait others) judged = absurd (youngest_never_waits (λ t p is. let same = alone t p is in omega (arith, same)) others judged)
  alone_is_granted alone (Die oldest) judged =
      let owner = conflict_is_open oldest judged.conflicts in
      absurd (judged.conflicts.another (sym owner.start_is ∙ alone owner.session owner.group owner.is))

-- the oldest group that has not ended may begin again
pub oldest_may_begin : (start : Database) (m : Machine) → IsKept start m → (s : ℕ) (group : Group) (n : ℕ) (has : HasStart m.began s group n)
    → ((t : ℕ) (other : Group) (k : ℕ) → HasStart m.began t other k → k < n → HasEnded m t other) → LastHasEnded m s has.deaths
oldest_may_begin start m kept s group n has oldest = λ i t other last named.
    let deaths = has.deaths in
    let h = slice_index_or deaths i 0 in
    let below : i < length deaths = omega (arith, last) in
    let died = (kept.causes_allowed.deaths n _ has.is).each h (there_in deaths i below) in
    let own : died.own ≡ n = kept.locks_consistent.once s group died.own n died.has has in
    oldest t other h named (omega (arith, died.older, own))
