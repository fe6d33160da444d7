use Rattle.std.proofs.Common.{◌≡◌, Ok, Err, refl, arith}
use Rattle.std.proofs.lemmas.Bool.{lt-leb, le-leb}
use Rattle.bf_lex.specs.declared.fault.ScriptKind.TheVariants as kind
use Rattle.bf_lex.specs.declared.token.TokenKind.TheVariants as token
use Rattle.bf_lex.specs.Lexemes.{Word, token_of}
use Rattle.bf_lex.proofs.Standing.{read_word, misread_word}
use Rattle.bf_lex.proofs.lexeme.word.Goals as goal

pub returns-in-Some : goal.returns-in-Some
returns-in-Some c =
    let is_token : token_of Word c.split_at.result.0.now ≡ Ok (token.Keyword c.in-Some.keyword) = rw (← c.in-Some.ensures) refl in
    read_word c.args.text.now c.split_at.result.0.now c.word_bytes.result _ c.requires c.word_bytes.ensures.value c.split_at.ensures.front is_token

pub returns-in-None : goal.returns-in-None
returns-in-None c =
    let is_token : token_of Word c.split_at.result.0.now ≡ Ok token.Name = rw (← c.in-None.ensures, le-leb _ _ c.if-word-le-LONGEST_NAME.true) refl in
    read_word c.args.text.now c.split_at.result.0.now c.word_bytes.result _ c.requires c.word_bytes.ensures.value c.split_at.ensures.front is_token

pub returns-in-None-2 : goal.returns-in-None-2
returns-in-None-2 c =
    let no_token : token_of Word c.split_at.result.0.now ≡ Err (kind.NameTooLong, 0) = rw (← c.in-None.ensures, lt-leb _ _ c.if-word-le-LONGEST_NAME.false) refl in
    (misread_word c.args.text.now c.split_at.result.0.now c.word_bytes.result _ 0 c.requires c.word_bytes.ensures.value c.split_at.ensures.front no_token, omega arith)
