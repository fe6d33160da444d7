use Rattle.std.proofs.Common.{◌≡◌, map, take}
use Rattle.bf_recover.specs.Spoken.{rule_of}
use Rattle.bf_recover.proofs.schema.rules_of.Given as goal

abbrev pub invariant-loop-column : goal.invariant-loop-column
invariant-loop-column l = l.rules.items ≡ map rule_of (take l.column-index l.columns)
