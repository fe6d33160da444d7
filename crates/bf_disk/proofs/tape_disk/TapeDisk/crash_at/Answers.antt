use Rattle.std.proofs.Common.{◌≡◌, ℕ, ◌-◌, min, [], None, List, length, ◌∙◌, ap, subst, arith}
use Rattle.std.specs.Prelude.{IfOk}
use Rattle.std.proofs.lemmas.List.{take_min}
use Rattle.bf_disk.specs.Tape.{Tape, new_tape, torn_image, at_call, MayLeave}
use Rattle.bf_disk.specs.declared.call.Call.{Call}
use Rattle.bf_disk.proofs.Tearing.{crash_left}
use Rattle.bf_disk.proofs.tape_disk.TapeDisk.crash_at.Goals as goal

-- all of the calls, and more than there are
at_most : (tape : Tape) (made count : ℕ) → made ≡ min count (length tape.calls) → at_call tape made ≡ at_call tape count
at_most tape made count is =
    ap (at_call tape) is ∙ ap (λ (calls : List Call). let moment : Tape = record tape { calls = calls } in moment) (take_min count tape.calls)

pub returns-clause-disk : goal.returns-clause-disk
returns-clause-disk c =
    let same : c.min-made.result ≡ min (c.args.call - 1) (length c.args.self.now.calls) = omega (arith, c.saturating_sub.ensures, c.calls.ensures, c.min-made.ensures) in
    subst (λ (tape : Tape). IfOk c.crash_after.result (λ disk. disk ≡ new_tape (torn_image tape c.args.torn.now) [] None))
    (at_most c.args.self.now c.min-made.result (c.args.call - 1) same) c.crash_after.ensures

pub returns-clause-image : goal.returns-clause-image
returns-clause-image c =
    let same : c.min-made.result ≡ min (c.args.call - 1) (length c.args.self.now.calls) = omega (arith, c.saturating_sub.ensures, c.calls.ensures, c.min-made.ensures) in
    subst (λ (tape : Tape). IfOk c.crash_after.result (λ disk. MayLeave tape disk.start))
    (at_most c.args.self.now c.min-made.result (c.args.call - 1) same)
    (crash_left (at_call c.args.self.now c.min-made.result) c.args.torn.now c.crash_after.result c.crash_after.ensures)
