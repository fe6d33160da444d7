use Rattle.std.proofs.Common.{sym}
use Rattle.bf_bind.proofs.Columns.{column_of-first, meant_once, meant_twice, not_meant}
use Rattle.bf_bind.proofs.scope.column.Goals as goal

pub returns-in_default : goal.returns-in_default
returns-in_default c =
    rw (not_meant c.args.scope.now c.args.reference.now c.in_ok-expect_qualifier.ensures.0 (sym c.in_default.ensures), c.in_ok-copy.ensures)

pub returns-then-is_meant_from : goal.returns-then-is_meant_from
returns-then-is_meant_from c =
    rw (meant_twice c.args.scope.now c.args.reference.now c.in_ok-expect_qualifier.ensures.0 c.in-Some.found (sym c.in-Some.ensures) (sym c.if-is_meant_from.ensures), c.in_ok-copy-2.ensures)

pub returns : goal.returns
returns c =
    let scope = c.args.scope.now in
    let ref = c.args.reference.now in
    (meant_once scope ref c.in_ok-expect_qualifier.ensures.0 c.in-Some.found (sym c.in-Some.ensures) (sym c.if-is_meant_from.ensures), column_of-first scope ref c.in-Some.found (sym c.in-Some.ensures))
