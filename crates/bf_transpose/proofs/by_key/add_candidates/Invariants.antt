use Rattle.std.proofs.Common.{◌≡◌, ◌++◌, flat_map}
use Rattle.std.specs.List.{range_with_len}
use Rattle.bf_transpose.specs.Candidates.{candidate_in}
use Rattle.bf_transpose.proofs.by_key.add_candidates.Given as goal

-- those of the units so far are behind the others
abbrev pub invariant-loop-number : goal.invariant-loop-number
invariant-loop-number l = l.found.items ≡ l.initial.found.items ++ flat_map (candidate_in l.migration l.target l.key) (range_with_len 0 l.number)
