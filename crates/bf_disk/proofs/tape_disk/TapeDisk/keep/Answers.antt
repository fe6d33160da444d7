use Rattle.std.proofs.Common.{◌≡◌, sym, ◌∙◌, subst}
use Rattle.bf_disk.specs.Tape.{Tape, file_of, file_after_act}
use Rattle.bf_disk.proofs.TapeSteps.{replayed_failed, replayed_done}
use Rattle.bf_disk.proofs.tape_disk.TapeDisk.keep.Goals as goal

pub invariant_of-self-then-failed : goal.invariant_of-self-then-failed
invariant_of-self-then-failed c =
    replayed_failed c.self.inside.start.items c.self.inside.calls.items c.push.new.self.items c.args.act c.next_fails-failed.result
    c.in_ok-push.ensures.items c.if-failed.true ∙ c.self.invariant

pub invariant_of-self-2 : goal.invariant_of-self-2
invariant_of-self-2 c =
    replayed_done c.self.inside.start.items c.self.inside.calls.items c.push.new.self.items c.args.act c.next_fails-failed.result
    c.in_ok-push.ensures.items c.if-failed.false
    ∙ subst (λ (tape : Tape). file_after_act (file_of tape) c.args.act ≡ file_of tape) (sym c.self.view_is) c.requires
    ∙ c.self.invariant
