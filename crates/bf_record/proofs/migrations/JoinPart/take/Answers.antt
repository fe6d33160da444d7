use Rattle.std.proofs.Common.{refl, rules, arith}
use Rattle.bf_wire.specs.Taking.{BeginWith}
use Rattle.bf_wire.proofs.Parts.{none_as}
use Rattle.bf_record.specs.Apart.{AreJoinParts, join_parts_spelling, join_parts, join_has_parts}
use Rattle.bf_record.specs.Migrations.{IsJoin, join_spelling}
use Rattle.bf_record.proofs.migrations.JoinPart.take.Goals as goal

pub returns-in-Some : goal.returns-in-Some
returns-in-Some c =
    let begin = rw c.in-Some.is at c.in_ok-table.ensures in
    let made : BeginWith IsJoin join_spelling c.args.bytes.now (record { table = c.in-Some.table; on = c.in-Some.on }) c.in-Some.taken =
    record { has_spelling = begin.has_spelling; taken = begin.taken; front = begin.front } in
    search rules

pub returns-in-None : goal.returns-in-None
returns-in-None c =
    let none = rw c.in-None.is at c.in_ok-table.ensures in
    none_as IsJoin join_spelling AreJoinParts join_parts_spelling join_parts join_has_parts (λ a. refl) none
