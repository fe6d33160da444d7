use Rattle.std.proofs.Common.{sym, arith}
use Rattle.bf_lex.proofs.Numbers.{too_wide}
use Rattle.bf_lex.proofs.lexeme.value.Goals as goal

pub returns-in_err-checked_mul : goal.returns-in_err-checked_mul
returns-in_err-checked_mul c = rw c.from_residual.ensures (sym (too_wide c.loop-digit.value c.loop-digit.digit-index c.args.digits.now c.loop-digit.invariant c.loop-digit-test.true (omega (arith, c.in_err-checked_mul.ensures))))

pub returns-in_err-value : goal.returns-in_err-value
returns-in_err-value c = rw c.from_residual-in_err-value.ensures (sym (too_wide c.loop-digit.value c.loop-digit.digit-index c.args.digits.now c.loop-digit.invariant c.loop-digit-test.true (omega (arith, c.in_err-value.ensures, c.in_ok-checked_mul.ensures, c.from.ensures, c.saturating_sub.ensures))))
