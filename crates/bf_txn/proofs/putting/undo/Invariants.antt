use Rattle.std.proofs.Common.{◌≡◌, length}
use Rattle.bf_txn.specs.Formers.{undone}
use Rattle.bf_txn.proofs.putting.undo.Given as goal

-- what is left to take back leads to the same rows
abbrev pub invariant-loop-former : goal.invariant-loop-former
invariant-loop-former l = undone l.formers.items l.rows.entries ≡ undone l.fn.formers.items l.fn.rows.entries

abbrev pub decreases-loop-former : goal.decreases-loop-former
decreases-loop-former l = length l.formers.items
