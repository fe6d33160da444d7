use Rattle.std.proofs.Common.{◌≡◌, drop}
use Rattle.std.specs.Prelude.{flat_map}
use Rattle.bf_sql.specs.RowObjections.{size_objections}
use Rattle.bf_recover.specs.Schemas.{is_empty}
use Rattle.bf_recover.proofs.flips.are_small.Given as goal

-- the names so far have no objection
abbrev pub invariant-loop-name : goal.invariant-loop-name
invariant-loop-name l =
    is_empty (flat_map (size_objections l.live) l.names) ≡ is_empty (flat_map (size_objections l.live) (drop l.name-index l.names))
