-- A source in memory, and what a read does to it.
use Rattle.std.specs.Prelude.{ℕ, Bool, List, ◌++◌, length, take, drop, min}
use Rattle.bf_io.specs.Causes.{risen, next_fails}

-- the bytes that are left, the numbers of the calls that fail, and the counts of calls and of faults
pub record SourceState : Type 0 where
  pub left : List ℕ
  pub failing : List ℕ
  pub calls : ℕ
  pub faults : ℕ

-- before the first read
abbrev pub new_source : List ℕ → List ℕ → SourceState
new_source bytes failing = record { left = bytes; failing = failing; calls = 0; faults = 0 }

-- whether the next read fails
abbrev pub read_fails : SourceState → Bool
read_fails source = next_fails source.failing source.calls

-- after a read that failed
abbrev pub after_fault : SourceState → SourceState
after_fault source = record source { calls = risen source.calls; faults = risen source.faults }

-- after a read into room for so many bytes
abbrev pub after_read : SourceState → ℕ → SourceState
after_read source room = record source { left = drop room source.left; calls = risen source.calls }

-- how many of the bytes go into the room for so many
abbrev pub fitting : List ℕ → ℕ → ℕ
fitting bytes room = min room (length bytes)

-- a slice with as many of the bytes as it has room for at its front
abbrev pub filled : List ℕ → List ℕ → List ℕ
filled bytes into = take (length into) bytes ++ drop (length bytes) into
