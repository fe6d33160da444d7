use Rattle.std.proofs.Common.{arith}
use Rattle.std.proofs.lemmas.List.{take_rest}
use Rattle.bf_record.specs.Apart.{exprs_apart}
use Rattle.bf_record.specs.Expressions.{IsExpr, expr_spelling, operators}
use Rattle.bf_record.specs.Operators.{operator_code}
use Rattle.bf_record.specs.Within.{IsWithin}
use Rattle.bf_record.proofs.Codes.{none_here, none_coded, none_at_end, zero_of}
use Rattle.bf_record.proofs.ExprCodes.{no_literal, no_column, no_negated, no_joined, no_operator, none_left, none_of_nothing}
use Rattle.bf_record.proofs.Trees.{none_second}
use Rattle.bf_record.proofs.expressions.+expression.Goals as goal

pub take_expr-returns-in-empty : goal.take_expr-returns-in-empty
take_expr-returns-in-empty t c =
    none_at_end (IsWithin IsExpr operators c.args.budget) expr_spelling c.args.bytes.now (omega arith) (none_of_nothing c.args.budget)

pub take_expr-returns-in-None : goal.take_expr-returns-in-None
take_expr-returns-in-None t c =
    let none = rw (take_rest, c.in-None.is) at c.in_ok-value-in-1.ensures in
    none_here (IsWithin IsExpr operators c.args.budget) expr_spelling c.args.bytes.now 1 (omega arith) (omega arith) (no_literal c.args.budget _ none)

pub take_expr-returns-in-None-2 : goal.take_expr-returns-in-None-2
take_expr-returns-in-None-2 t c =
    let none = rw (take_rest, c.in-None-2.is) at c.in_ok-column-in-2.ensures in
    none_here (IsWithin IsExpr operators c.args.budget) expr_spelling c.args.bytes.now 2 (omega arith) (omega arith) (no_column c.args.budget _ none)

pub take_operator-returns-in_default : goal.take_operator-returns-in_default
take_operator-returns-in_default t c =
    none_left c.args.budget c.args.code c.args.rest.now (zero_of c.args.budget c.in_default.ensures) c.requires.no_value c.requires.no_ref

pub take_operator-returns-in-None : goal.take_operator-returns-in-None
take_operator-returns-in-None t c =
    let none = rw c.in-None.is at c.in_ok-inner.ensures in
    none_coded (IsWithin IsExpr operators c.args.budget) expr_spelling c.args.code 3 c.args.rest.now c.if-code-eq3.true
    (no_negated c.in-Some.budget c.args.budget c.args.rest.now (omega (arith, c.in-Some.ensures)) none)

pub take_operator-returns-in_default-of_code : goal.take_operator-returns-in_default-of_code
take_operator-returns-in_default-of_code t c =
    no_operator c.args.budget c.args.code c.args.rest.now c.requires.no_value c.requires.no_ref c.if-code-eq3.false c.in_default-of_code.ensures.none

pub take_operator-returns-in-None-2 : goal.take_operator-returns-in-None-2
take_operator-returns-in-None-2 t c =
    let none = rw c.in-None-2.is at c.in_ok-left.ensures in
    let op = c.in-Some-of_code.operator in
    none_coded (IsWithin IsExpr operators c.args.budget) expr_spelling c.args.code (operator_code op) c.args.rest.now c.in-Some-of_code.ensures.some
    (no_joined op c.in-Some.budget c.args.budget c.args.rest.now (omega (arith, c.in-Some.ensures)) none)

pub take_two-returns-in_default-2 : goal.take_two-returns-in_default-2
take_two-returns-in_default-2 t c =
    let first = rw c.in-Some.is at c.in_ok-first.ensures in
    let second = rw (take_rest, c.in_default-2.is) at c.in_ok-second.ensures in
    none_second IsExpr expr_spelling operators exprs_apart first second
