use Rattle.std.proofs.Common.{◌∙◌, ap, arith, subst, sym}
use Rattle.bf_disk.specs.Images.{Only}
use Rattle.bf_log.proofs.Reading.{nothing_read}
use Rattle.bf_log.proofs.head.open_log.Goals as goal

pub returns-in-Ok-clause-opened : goal.returns-in-Ok-clause-opened
returns-in-Ok-clause-opened g c = λ file told.
    let disk = c.at_first_gate.ensures.disk in
    let head = c.in-Ok.ensures.len.1 file told in
    nothing_read file c.at_first_gate.result (ap g.D.Disk.seen disk ∙ c.read_head.ensures.disk.same ∙ told)
    (subst (λ of. Only file (g.D.Disk.may_leave of)) (sym disk) (c.in-Ok.ensures.durable file told tt)) head.1 (omega (arith, c.in-Ok.ensures.len.0, head.0))
    c.at_first_gate.ensures.gate c.at_first_gate.ensures.count c.at_first_gate.ensures.progress
