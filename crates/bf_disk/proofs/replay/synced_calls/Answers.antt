use Rattle.std.proofs.Common.{ℕ, ◌+◌, sym, ◌∙◌, subst}
use Rattle.bf_disk.specs.Replay.{UpToLastSync}
use Rattle.bf_disk.proofs.Replays.{upto_none, upto_then, upto_else}
use Rattle.bf_disk.proofs.replay.synced_calls.Goals as goal
use Rattle.bf_disk.proofs.replay.synced_calls.Goals.{then-is_synced, else-is_synced}

pub loop-index-init : goal.loop-index-init
loop-index-init c = upto_none c.args.calls.now

pub loop-index-preserved : goal.loop-index-preserved
loop-index-preserved c = elim c.if-is_synced.branch [
  | then-is_synced w ↦ subst (λ (k : ℕ). UpToLastSync c.args.calls.now (c.loop-index.index + 1) k) (sym w.synced-is)
      (upto_then c.args.calls.now c.loop-index.index c.loop-index.synced c.index-calls-index.result c.loop-index-test.true c.index-calls-index.is (sym c.is_synced.ensures ∙ w.if-is_synced.true))
  | else-is_synced w ↦ subst (λ (k : ℕ). UpToLastSync c.args.calls.now (c.loop-index.index + 1) k) (sym w.synced-is)
      (upto_else c.args.calls.now c.loop-index.index c.loop-index.synced c.index-calls-index.result c.loop-index.invariant c.loop-index-test.true c.index-calls-index.is (sym c.is_synced.ensures ∙ w.if-is_synced.false))
]
