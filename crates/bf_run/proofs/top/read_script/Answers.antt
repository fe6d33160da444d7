use Rattle.std.proofs.Common.{ℕ, List, length, ap, sym, ◌∙◌, Err, refl}
use Rattle.std.proofs.lemmas.Result.{IfOk-weaker}
use Rattle.bf_run.proofs.Answered.{no_fault, not_read, read_whole, too_long}
use Rattle.bf_run.proofs.top.read_script.Goals as goal

pub returns-in-Ok : goal.returns-in-Ok
returns-in-Ok g c =
    IfOk-weaker c.script_of.result _ _
    (λ r is. read_whole _ c.in-Ok.bytes.items (c.in-Ok.ensures.calm (λ fault. cc)) c.in-Ok.ensures.all c.in-Ok.ensures.at_end (rw (ap (λ (z : List ℕ). length z) c.as_slice.ensures.value) at (rw (sym c.as_slice.ensures.len) at c.in-Ok.ensures.at_most)) r
    (rw c.as_slice.ensures.value at is))
    c.script_of.ensures

pub returns-in_ok-answer_fault-in-Err-TooLong : goal.returns-in_ok-answer_fault-in-Err-TooLong
returns-in_ok-answer_fault-in-Err-TooLong g c =
    let calm = c.read_all.ensures.calm (no_fault c.read_all.result _ c.in-Err-TooLong.is c.in-Err-TooLong.field-0-is) in
    let past = c.read_all.ensures.too_long (c.in-Err-TooLong.is ∙ ap Err c.in-Err-TooLong.field-0-is) in
    too_long _ c.in_ok-answer_fault-in-Err-TooLong.field-0 c.in_ok-answer_fault-in-Err-TooLong.ensures.status c.in_ok-answer_fault-in-Err-TooLong.ensures.text calm past

pub returns-in_ok-from_slice-in-Err-Fault : goal.returns-in_ok-from_slice-in-Err-Fault
returns-in_ok-from_slice-in-Err-Fault g c = not_read _ _ refl c.in_ok-from_slice-in-Err-Fault.ensures.items (c.read_all.ensures.fault (c.in-Err-Fault.is ∙ ap Err c.in-Err-Fault.field-0-is))
