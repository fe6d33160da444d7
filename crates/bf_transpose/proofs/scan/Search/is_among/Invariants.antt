use Rattle.std.proofs.Common.{◌≡◌, false, take}
use Rattle.std.specs.List.{list_any}
use Rattle.bf_transpose.specs.Scans.{is_sought}
use Rattle.bf_transpose.proofs.scan.Search.is_among.Given as goal

-- none of the rows so far is sought
abbrev pub invariant-loop-of : goal.invariant-loop-of
invariant-loop-of l = list_any (is_sought l.self.migration.now l.self.target l.self.cond.now) (take l.of-index l.rows) ≡ false
