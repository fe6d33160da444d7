use Rattle.std.proofs.Common.{ℕ, ◌<◌, List, length, sym, ◌∙◌, ap, arith}
use Rattle.bf_disk.specs.Tape.{file_after}
use Rattle.bf_disk.proofs.Replays.{file_next}
use Rattle.bf_disk.proofs.replay.file_after.Goals as goal

pub loop-call-preserved : goal.loop-call-preserved
loop-call-preserved c =
    let below : c.loop-call.call-index < length c.args.calls.now = omega arith in
    c.in_ok-redo.ensures.ok ∙ ap (λ (file : List ℕ). file_after file c.call-item.result) c.loop-call.invariant
    ∙ sym (file_next c.args.start.now c.args.calls.now c.loop-call.call-index c.call-item.result below c.call-item.is)
