-- A sink in memory, and what a write does to it.
use Rattle.std.specs.Prelude.{ℕ, ◌+◌, Bool, ◌||◌, nat_lt, List, [], ◌++◌, length}
use Rattle.bf_io.specs.Causes.{risen, next_fails}

-- the bytes that it took, how many it takes at most, the numbers of the calls that fail, and the counts of calls and of faults
pub record SinkState : Type 0 where
  pub taken : List ℕ
  pub limit : ℕ
  pub failing : List ℕ
  pub calls : ℕ
  pub faults : ℕ

-- before the first write
abbrev pub new_sink : ℕ → List ℕ → SinkState
new_sink limit failing = record { taken = []; limit = limit; failing = failing; calls = 0; faults = 0 }

-- whether the next write, of these bytes, fails
abbrev pub write_fails : SinkState → List ℕ → Bool
write_fails sink bytes = next_fails sink.failing sink.calls || nat_lt sink.limit (length sink.taken + length bytes)

-- after a write that failed
abbrev pub after_fault : SinkState → SinkState
after_fault sink = record sink { calls = risen sink.calls; faults = risen sink.faults }

-- after a write of these bytes
abbrev pub after_write : SinkState → List ℕ → SinkState
after_write sink bytes = record sink { taken = sink.taken ++ bytes; calls = risen sink.calls }
