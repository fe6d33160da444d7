use Rattle.std.proofs.Common.{◌≡◌, ◌++◌, take}
use Rattle.bf_image.proofs.beside.add_values.Given as goal

-- the values so far stand behind the others
abbrev pub invariant-loop-value : goal.invariant-loop-value
invariant-loop-value l = l.values.items ≡ l.initial.values.items ++ take l.value-index l.value-items
