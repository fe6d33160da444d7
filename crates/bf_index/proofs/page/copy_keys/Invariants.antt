use Rattle.std.proofs.Common.{◌≡◌, ◌++◌, take}
use Rattle.bf_index.specs.Pairs.{keys_with}
use Rattle.bf_index.proofs.page.copy_keys.Given as goal

-- the keys of the pairs so far
abbrev pub invariant-loop-pair : goal.invariant-loop-pair
invariant-loop-pair l = l.keys.items ≡ l.fn.keys.items ++ keys_with (take l.pair-index l.pair-items) l.value
