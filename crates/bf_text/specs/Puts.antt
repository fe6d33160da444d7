-- What stands after a piece of a text was put.
use Rattle.std.specs.Prelude.{◌≡◌, ℕ, List, ◌++◌, take, Result, Ok, Err}
use Rattle.bf_base.specs.declared.memory.Memory.{Memory}

-- a text is put behind what stands there; where memory runs out a front of it is, which who puts the whole takes back
abbrev pub Puts : Result (Unit {0}) Memory → List ℕ → List ℕ → List ℕ → Type 0
Puts (Ok done) text old new = new ≡ old ++ text
Puts (Err out_of_memory) text old new = (n : ℕ) × (new ≡ old ++ take n text)
