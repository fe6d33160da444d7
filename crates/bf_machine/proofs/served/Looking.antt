-- The youngest open group of the sessions that were looked at.
use Rattle.std.proofs.Common.{◌≡◌, ℕ, zero, suc, ◌≤◌, length, Option, Some, None, refl, arith}
use Rattle.std.specs.Prelude.{IfSome}
use Rattle.bf_sql.specs.Database.{Database}
use Rattle.bf_machine.specs.interleaving.Calls.{IsPlace}
use Rattle.bf_machine.specs.interleaving.Kept.{HasStart, IsKept}
use Rattle.bf_machine.specs.interleaving.Machines.{Machine, Open, open_at}
use Rattle.bf_machine.specs.interleaving.Serving.{IsYoungest}
use Rattle.bf_machine.proofs.interleaving.Others.{has_place}

module _ (m : Machine) where
  -- the session that is kept has an open group, which began last; with none the number is 0
  abbrev pub IsFound : ℕ → ℕ → Option ℕ → Type 0
  IsFound n latest None = latest ≡ 0
  IsFound n latest (Some s) = (1 ≤ s) × (s ≤ n) × (o : Open) × (open_at m s ≡ Some o) × (o.start ≡ latest)

  -- of the first n sessions
  pub record IsSought (n latest : ℕ) (youngest : Option ℕ) : Type 0 where
    pub found : IsFound n latest youngest
    pub most : (t : ℕ) (other : Open) → 1 ≤ t → t ≤ n → open_at m t ≡ Some other → other.start ≤ latest

  -- when each session was looked at
  module _ {opening : Database} (kept : IsKept opening m) (latest : ℕ) where
    within : (s : ℕ) (o : Open) → open_at m s ≡ Some o → IsPlace m.script s
    within s o is = let place = has_place m s o is in (place.0, omega (arith, place.1, kept.shaped.opens))

    drawn : (s : ℕ) (o : Open) → open_at m s ≡ Some o → 1 ≤ o.start
    drawn s o is = number o.start (kept.locks_consistent.starts s o is)
      where
        number : (n : ℕ) → HasStart m.began s o.group n → 1 ≤ n
        number zero has = let is = has.is in absurd cc
        number (suc n) has = omega arith

    pub none_open : IsSought (length m.script.sessions) latest None → (s : ℕ) → open_at m s ≡ None
    none_open all s = none (open_at m s) refl
      where
        none : (group : Option Open) → open_at m s ≡ group → group ≡ None
        none None is = refl
        none (Some o) is =
            let place = within s o is in
            let above = all.most s o place.0 place.1 is in
            absurd (omega (arith, above, all.found, drawn s o is))

    pub youngest_found : (youngest : Option ℕ) → IsSought (length m.script.sessions) latest youngest → IfSome youngest (IsYoungest m)
    youngest_found None all = tt
    youngest_found (Some s) all =
        let (low, high, o, is, start) = all.found in (
          o,
          is,
          λ t other there.
              let place = within t other there in
              let above = all.most t other place.0 place.1 there in
              omega (arith, above, start),
        )
