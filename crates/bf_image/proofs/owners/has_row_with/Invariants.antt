use Rattle.std.proofs.Common.{◌≡◌, false, take}
use Rattle.std.specs.List.{list_any}
use Rattle.bf_image.specs.Owners.{is_row_with}
use Rattle.bf_image.proofs.owners.has_row_with.Given as goal

-- none of the rows so far is one
abbrev pub invariant-loop-of : goal.invariant-loop-of
invariant-loop-of l = list_any (is_row_with l.table l.key l.target) (take l.of-index l.rows) ≡ false
