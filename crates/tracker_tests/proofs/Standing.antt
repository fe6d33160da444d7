-- What a claim leaves of seats that hold nothing.
use Rattle.std.proofs.Common.{◌≡◌, ◌⊎◌, inl, inr, List, [], ◌∷◌, subst, Ok}
use Rattle.bf_base.specs.declared.granule.Granule.{Granule}
use Rattle.bf_bench.specs.Notes.{Stands}
use Rattle.bf_bench.specs.declared.bench.Taken.{Taken}
use Rattle.bf_bench.specs.declared.bench.Taken.TheVariants.{Claimed, Busy, Done}
use Rattle.bf_drive.specs.Lists.{Entry}
use Rattle.bf_drive.specs.declared.claim.Claim.{Claim}

module _ {S : Type 0} (Holds : S → List Entry → Type 0) (g : Granule) (old new : S) (spent : Holds old []) (taken : Taken) (stands : Stands Holds g old new (Ok taken)) where
  pub granted : (claim : Claim) → taken ≡ Claimed claim → Holds new ((g, claim) ∷ [])
  granted claim is = (subst (λ (t : Taken). Stands Holds g old new (Ok t)) is stands).1 [] spent

  pub busy : taken ≡ Busy → Holds new []
  busy is = subst (λ (t : Taken). Stands Holds g old new (Ok t)) is stands [] spent

  pub done : taken ≡ Done → Holds new []
  done is = subst (λ (t : Taken). Stands Holds g old new (Ok t)) is stands [] spent

  pub not_granted : (taken ≡ Busy) ⊎ (taken ≡ Done) → Holds new []
  not_granted (inl is) = busy is
  not_granted (inr is) = done is
