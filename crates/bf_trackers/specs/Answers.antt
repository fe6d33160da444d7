-- What a claim of a granule answers, by what its tracker answers.
use Rattle.std.specs.Prelude.{◌≡◌, ℕ, List, ⊤}
use Rattle.bf_base.specs.declared.value.Value.{Value}
use Rattle.bf_bits.specs.declared.bits.BitAnswer.{BitAnswer}
use Rattle.bf_bits.specs.declared.bits.BitAnswer.TheVariants as bit
use Rattle.bf_drive.specs.declared.claim.Claim.TheVariants.{Row, Group}
use Rattle.bf_bench.specs.declared.bench.Taken.{Taken}
use Rattle.bf_bench.specs.declared.bench.Taken.TheVariants as taken

-- of a row
abbrev pub taken_as : BitAnswer → Taken
taken_as (bit.Claimed claim) = taken.Claimed (Row claim)
taken_as bit.Busy = taken.Busy
taken_as bit.Done = taken.Done

-- of a key: a claim that is granted is of it
abbrev pub IsOfKey : List Value → Taken → Type 0
IsOfKey key (taken.Claimed (Row claim)) = ⊥
IsOfKey key (taken.Claimed (Group claim)) = claim.key ≡ key
IsOfKey key taken.Busy = ⊤
IsOfKey key taken.Done = ⊤

-- how many claims an answer grants
abbrev pub claims_in : Taken → ℕ
claims_in (taken.Claimed claim) = 1
claims_in taken.Busy = 0
claims_in taken.Done = 0
