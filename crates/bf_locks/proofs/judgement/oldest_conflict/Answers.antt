use Rattle.std.proofs.Common.{ℕ, [], ◌∷◌, sym, ap, subst, ◌∙◌}
use Rattle.std.specs.List.Sorted.{IsStrictlySortedBy}
use Rattle.bf_locks.specs.declared.mode.Mode.{Mode}
use Rattle.bf_locks.specs.Kept.{pairs_of}
use Rattle.bf_locks.specs.Owners.{IsRising}
use Rattle.bf_locks.proofs.judgement.oldest_conflict.Goals as goal

-- a lone holder is in order
one_rises : (owner : ℕ) (mode : Mode) → IsRising ((owner, mode) ∷ [])
unfolding IsStrictlySortedBy
one_rises owner mode = (tt, tt)

pub returns-then-is_conflict-clause-rising : goal.returns-then-is_conflict-clause-rising
returns-then-is_conflict-clause-rising c = subst IsRising (ap pairs_of (sym c.in-One.is) ∙ c.holders.view_is) (one_rises c.in-One.other c.in-One.theirs)

pub returns-else-is_conflict-clause-rising : goal.returns-else-is_conflict-clause-rising
returns-else-is_conflict-clause-rising c = subst IsRising (ap pairs_of (sym c.in-One.is) ∙ c.holders.view_is) (one_rises c.in-One.other c.in-One.theirs)
