use Rattle.std.proofs.Common.{◌≡◌, flat_map, take}
use Rattle.bf_base.specs.Tables.{key_of}
use Rattle.bf_transpose.specs.Candidates.{candidates_in}
use Rattle.bf_transpose.proofs.by_key.candidates_of_rows.Given as goal

-- the candidates of the keys so far
abbrev pub invariant-loop-row : goal.invariant-loop-row
invariant-loop-row l = l.found.items ≡ flat_map (λ row. candidates_in l.migration l.target (key_of l.table row)) (take l.row-index l.rows)
