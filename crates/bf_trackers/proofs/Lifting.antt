-- What is said of claims in units, of granules of a migration.
use Rattle.std.proofs.Common.{List, [], ◌∷◌, ◌++◌, Ok, Err, Result}
use Rattle.std.specs.Prelude.{IfOk}
use Rattle.bf_base.specs.declared.granule.Granule.{Granule}
use Rattle.bf_base.specs.declared.memory.Memory.{Memory}
use Rattle.bf_bench.specs.Notes.{Stands}
use Rattle.bf_bench.specs.declared.bench.Taken.{Taken}
use Rattle.bf_bench.specs.declared.bench.Taken.TheVariants.{Claimed, Busy, Done}
use Rattle.bf_drive.specs.Lists.{Entry}
use Rattle.bf_drive.specs.declared.claim.Claim.{Claim}
use Rattle.bf_trackers.specs.Holding.{HoldClaims}
use Rattle.bf_trackers.specs.Migrations.{HoldsClaims, IsGranuleOf, Trackers}
use Rattle.bf_trackers.specs.Seats.{Seats}
use Rattle.bf_trackers.proofs.Lists.{all_front, all_snoc}

module _ (trackers : Trackers) where
  pub lift_stands : (g : Granule) (old new : Seats) (result : Result Taken Memory) → IsGranuleOf trackers.pass.value g → Stands (HoldClaims trackers.units) g old new result → Stands (HoldsClaims trackers) g old new result
  lift_stands g old new (Ok (Claimed claim)) one stands = (
    stands.0,
    λ held h. record {
      held = stands.1 held h.held;
      each = all_snoc (λ (entry : Entry). IsGranuleOf trackers.pass.value entry.0) held (g, claim) h.each one;
    },
  )
  lift_stands g old new (Ok Busy) one stands = λ held h. record { held = stands held h.held; each = h.each }
  lift_stands g old new (Ok Done) one stands = λ held h. record { held = stands held h.held; each = h.each }
  lift_stands g old new (Err memory) one stands = λ held h. record { held = stands held h.held; each = h.each }

  -- one entry less
  pub lift_spent : (g : Granule) (claim : Claim) (old new : Seats) → ((rest : List Entry) → HoldClaims trackers.units old (rest ++ (g, claim) ∷ []) → HoldClaims trackers.units new rest)
      → (rest : List Entry) → HoldsClaims trackers old (rest ++ (g, claim) ∷ []) → HoldsClaims trackers new rest
  lift_spent g claim old new spent rest h = record {
    held = spent rest h.held;
    each = all_front (λ (entry : Entry). IsGranuleOf trackers.pass.value entry.0) rest (g, claim) h.each;
  }

  -- new seats
  pub lift_new : (result : Result Seats Memory) → IfOk result (λ seats. HoldClaims trackers.units seats []) → IfOk result (λ seats. HoldsClaims trackers seats [])
  lift_new (Ok seats) holds = record { held = holds; each = tt }
  lift_new (Err memory) holds = tt
