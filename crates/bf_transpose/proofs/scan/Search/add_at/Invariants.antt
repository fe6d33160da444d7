use Rattle.std.proofs.Common.{◌≡◌, ◌++◌, filter, take}
use Rattle.bf_transpose.specs.Scans.{gives, granules_at}
use Rattle.bf_transpose.proofs.scan.Search.add_at.Given as goal

-- those of the positions so far
abbrev pub invariant-loop-position : goal.invariant-loop-position
invariant-loop-position l =
    l.granules.items
    ≡ l.fn.granules.items ++ filter (gives l.self.migration.now l.self.target l.self.cond.now) (granules_at l.unit (take l.position-index l.positions))
