use Rattle.std.proofs.Common.{◌≡◌, ◌+◌, length}
use Rattle.bf_lex.specs.Lexing.{Front}
use Rattle.bf_lex.proofs.lexer.tokens.Given as goal

abbrev pub invariant-loop-found : goal.invariant-loop-found
invariant-loop-found l = record {
  front : Front 0 l.text l.found.items l.place l.rest;
  room : l.place + length l.rest ≡ length l.text;
}

abbrev pub decreases-loop-found : goal.decreases-loop-found
decreases-loop-found l = length l.rest
