use Rattle.std.proofs.Common.{◌≡◌, ◌++◌, drop}
use Rattle.bf_demo.specs.Shown.{shown_behind, shown_of}
use Rattle.bf_demo.proofs.showing.shown.Given as goal

abbrev pub invariant-loop-byte : goal.invariant-loop-byte
invariant-loop-byte l = l.shown.items ++ shown_behind l.line.items (drop l.byte-index l.report) ≡ shown_of l.report
