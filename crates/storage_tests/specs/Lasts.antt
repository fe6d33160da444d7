-- The smallest state: how many bytes the last record has.
use Rattle.std.specs.Prelude.{◌≡◌, ℕ, ◌<◌, List, length}
use Rattle.std.proofs.Common.{sym, ◌∙◌, ap}
use Rattle.storage_tests.specs.declared.last.Last.{Last}

abbrev pub first_last : Last
first_last = record { len = 0 }

-- an empty record is not legal
abbrev pub LastSteps : Last → List ℕ → Last → Type 0
LastSteps state payload next = (0 < length payload) × (next.len ≡ length payload)

-- a record makes one state of another
pub last_once : (state : Last) (payload : List ℕ) (a b : Last) → LastSteps state payload a → LastSteps state payload b → a ≡ b
last_once state payload a b one two = let same : a.len ≡ b.len = one.1 ∙ sym two.1 in ap (λ (n : ℕ). let last : Last = record { len = n } in last) same
