-- Who holds what, and how a request is answered.
use Rattle.std.specs.Prelude.{◌≡◌, ◌≢◌, ◌↔◌, ℕ, ◌<◌, ◌≤◌, false, not, ◌==◌, List, [], Option, Some, Contains, IsTrue, IsSomeAnd}
use Rattle.std.specs.Option.{option_map_or}
use Rattle.std.specs.List.Sorted.{IsStrictlyIncreasing}
use Rattle.std.specs.declared.cmp.Ordering.{Ordering}
use Rattle.std.specs.Ordering.{nat_cmp, on, then_cmp}
use Rattle.std.specs.FinMap as map
use Rattle.std.specs.Cmp.{IsTotalOrder, nat_cmp_total, on_total, then_total}
use Rattle.bf_locks.specs.declared.mode.Mode.{Mode}
use Rattle.bf_locks.specs.declared.name.LockName.{LockName}
use Rattle.bf_locks.specs.declared.answer.LockAnswer.{LockAnswer}
use Rattle.bf_locks.specs.declared.answer.LockAnswer.TheVariants.{Granted, Wait, Die}
use Rattle.bf_locks.specs.LockNames.{lock_name_cmp, lock_name_cmp_total}
use Rattle.bf_locks.specs.Modes.{are_compatible, join_of}

-- a name and an owner of it
abbrev pub Holding : Type 0
Holding = LockName × ℕ

-- by name, then by owner
abbrev pub holding_cmp : Holding → Holding → Ordering
holding_cmp = then_cmp (on (λ holding. holding.0) lock_name_cmp) (on (λ holding. holding.1) nat_cmp)

pub holding_cmp_total : IsTotalOrder holding_cmp
holding_cmp_total = then_total (on_total (λ (holding : Holding). holding.0) lock_name_cmp_total) (on_total (λ (holding : Holding). holding.1) nat_cmp_total)

-- what is held: the mode at each pair of a name and an owner that holds it
abbrev pub Locks : Type 0
Locks = map.FinMap holding_cmp Mode

-- the mode in which an owner holds a name
abbrev pub held : Locks → LockName → ℕ → Option Mode
held locks name owner = map.get locks (name, owner)

-- no two owners hold one name in modes that are not compatible
pub record IsConsistent (locks : Locks) : Type 0 where
  pub apart : (name : LockName) (one other : ℕ) (a b : Mode) → one ≢ other → held locks name one ≡ Some a → held locks name other ≡ Some b → IsTrue (are_compatible a b)

-- the mode that a request is judged by: the asked one, joined with the one that the owner holds
abbrev pub wanted : Locks → ℕ → LockName → Mode → Mode
wanted locks owner name mode = option_map_or (λ before. join_of before mode) (held locks name owner) mode

-- another owner holds the name in a mode that is not compatible with the wanted one
pub record Conflicts (locks : Locks) (owner : ℕ) (name : LockName) (mode : Mode) (other : ℕ) : Type 0 where
  pub another : other ≢ owner
  pub against : IsSomeAnd (held locks name other) (λ theirs. are_compatible theirs (wanted locks owner name mode) ≡ false)

-- a request dies: an older owner conflicts, and this is the oldest that does
pub record Dies (locks : Locks) (owner : ℕ) (name : LockName) (mode : Mode) (oldest : ℕ) : Type 0 where
  pub conflicts : Conflicts locks owner name mode oldest
  pub none_older : (other : ℕ) → Conflicts locks owner name mode other → oldest ≤ other
  pub older : oldest < owner

-- a request waits: some owners conflict, these are all of them, rising, and all are younger
pub record Waits (locks : Locks) (owner : ℕ) (name : LockName) (mode : Mode) (others : List ℕ) : Type 0 where
  pub some : others ≢ []
  pub rising : IsStrictlyIncreasing others
  pub all : (other : ℕ) → Contains others other ↔ Conflicts locks owner name mode other
  pub younger : (other : ℕ) → Contains others other → owner < other

-- the answer that wait-die gives: granted where nobody conflicts, and else death or a wait
abbrev pub IsJudged : Locks → ℕ → LockName → Mode → LockAnswer → Type 0
IsJudged locks owner name mode Granted = (other : ℕ) → ¬ Conflicts locks owner name mode other
IsJudged locks owner name mode (Wait others) = Waits locks owner name mode others
IsJudged locks owner name mode (Die oldest) = Dies locks owner name mode oldest

-- what is held after an answer: a grant leaves the owner with the wanted mode, and no other answer changes anything
abbrev pub after : Locks → ℕ → LockName → Mode → LockAnswer → Locks
after locks owner name mode Granted = map.insert locks (name, owner) (wanted locks owner name mode)
after locks owner name mode (Wait others) = locks
after locks owner name mode (Die oldest) = locks

-- what is held once an owner has freed all that it held
abbrev pub without_owner : Locks → ℕ → Locks
without_owner locks owner = map.retain_keys locks (λ holding. not (holding.1 == owner))
