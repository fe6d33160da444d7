use Rattle.std.proofs.Common.{◌≡◌, drop}
use Rattle.bf_lex.specs.Lexemes.{number_from}
use Rattle.bf_lex.proofs.lexeme.value.Given as goal

abbrev pub invariant-loop-digit : goal.invariant-loop-digit
invariant-loop-digit l = number_from 0 l.digits ≡ number_from l.value (drop l.digit-index l.digits)
