use Rattle.std.proofs.Common.{arith}
use Rattle.bf_lex.proofs.Numbers.{number_token, no_number_token}
use Rattle.bf_lex.proofs.Standing.{read_number, misread_number}
use Rattle.bf_lex.proofs.lexeme.number.Goals as goal

pub returns-in-Some : goal.returns-in-Some
returns-in-Some c =
    let is_token = number_token c.split_at.result.0.now c.in-Some.value c.in-Some.ensures in
    read_number c.args.text.now c.split_at.result.0.now c.digit_bytes.result _ c.requires c.digit_bytes.ensures.value c.split_at.ensures.front is_token

pub returns-in-None : goal.returns-in-None
returns-in-None c =
    let no_token = no_number_token c.split_at.result.0.now c.in-None.ensures in
    (misread_number c.args.text.now c.split_at.result.0.now c.digit_bytes.result _ 0 c.requires c.digit_bytes.ensures.value c.split_at.ensures.front no_token, omega arith)
