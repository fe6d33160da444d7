use Rattle.std.proofs.Common.{◌≡◌, ◌-◌, Some, length, take, drop, map, sym, ◌∙◌, ap, arith}
use Rattle.std.proofs.lemmas.List.{take_rest, take_all}
use Rattle.bf_disk.specs.Tape.{certain_after, certain_after_all, file_after_all}
use Rattle.bf_disk.proofs.Replays.{certain_whole, certain_next, later_pending}
use Rattle.bf_disk.proofs.replay.certain_bytes.Goals as goal

pub make_pending-requires : goal.make_pending-requires
make_pending-requires c =
    later_pending c.args.calls.now (take (length c.args.calls.now - c.synced_calls-synced.result) (drop c.synced_calls-synced.result c.args.calls.now))
    c.synced_calls-synced.result c.loop-call.call-index c.call-item.result c.synced_calls-synced.ensures (take_rest c.args.calls.now c.synced_calls-synced.result)
    c.loop-call-test.true c.call-item.is

pub loop-call-preserved : goal.loop-call-preserved
loop-call-preserved c =
    let file = c.in_ok-file.file.items in
    let later = take (length c.args.calls.now - c.synced_calls-synced.result) (drop c.synced_calls-synced.result c.args.calls.now) in
    c.in_ok-make_pending.ensures (file_after_all file (take c.loop-call.call-index later))
    ∙ ap (certain_after c.call-item.result.failed c.call-item.result.act (file_after_all file (take c.loop-call.call-index later))) c.loop-call.invariant
    ∙ sym (certain_next file (map Some file) later c.loop-call.call-index c.call-item.result c.loop-call-test.true c.call-item.is)

pub returns : goal.returns
returns c =
    let file = c.in_ok-file.file.items in
    let later = take (length c.args.calls.now - c.synced_calls-synced.result) (drop c.synced_calls-synced.result c.args.calls.now) in
    let made : file ≡ file_after_all c.args.start.now (take c.synced_calls-synced.result c.args.calls.now) = grind (arith, c.in_ok-file.ensures) in
    c.loop-call.invariant
    ∙ ap (certain_after_all file (map Some file)) (take_all c.loop-call.call-index later c.loop-call-test.false)
    ∙ certain_whole c.args.start.now file c.args.calls.now later c.synced_calls-synced.result c.synced_calls-synced.ensures made (take_rest c.args.calls.now c.synced_calls-synced.result)
