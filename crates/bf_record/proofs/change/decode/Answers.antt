use Rattle.std.proofs.Common.{[], sym, ◌∙◌, arith}
use Rattle.std.proofs.lemmas.List.{append-nil}
use Rattle.bf_record.specs.Apart.{changes_apart}
use Rattle.bf_record.specs.Changes.{HasRecord, record_bytes}
use Rattle.bf_record.proofs.Whole.{no_whole}
use Rattle.bf_record.proofs.change.decode.Goals as goal

pub returns-in_default-clause-none : goal.returns-in_default-clause-none
returns-in_default-clause-none c =
    let none = rw c.in_default.is at c.in_ok-change.ensures in
    λ change is same. none change [] is (same ∙ sym (append-nil (record_bytes change)))

pub returns-else-taken-payload-clause-none : goal.returns-else-taken-payload-clause-none
returns-else-taken-payload-clause-none c =
    let begin = rw c.in-Some.is at c.in_ok-change.ensures in
    no_whole HasRecord record_bytes changes_apart begin (λ e. c.if-taken-payload.false (omega (arith, e)))
