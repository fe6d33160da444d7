use Rattle.std.proofs.Common.{◌≡◌, Ok, Err, drop, not, refl, sym, arith}
use Rattle.std.proofs.lemmas.Bool.{le-leb, lt-leb}
use Rattle.std.proofs.lemmas.List.{take_rest}
use Rattle.bf_base.specs.Texts.{is_text_byte}
use Rattle.bf_lex.specs.declared.fault.ScriptKind.TheVariants as kind
use Rattle.bf_lex.specs.declared.token.TokenKind.TheVariants as token
use Rattle.bf_lex.specs.Lexemes.{Quoted, token_of}
use Rattle.bf_lex.specs.Reading.{IsClosed, IsOpen}
use Rattle.bf_lex.proofs.Firsts.{open_string}
use Rattle.bf_lex.proofs.Fronts.{position_inside}
use Rattle.bf_lex.proofs.Standing.{read_text, misread_text}
use Rattle.bf_lex.proofs.lexeme.quoted.Goals as goal

pub returns-in_default : goal.returns-in_default
returns-in_default c =
    let unclosed : IsOpen (drop 1 c.args.text.now) = rw take_rest at c.in_default.ensures in
    (open_string c.args.text.now c.requires unclosed, omega arith)

pub returns-then-content_length-gt-LONGEST_TEXT : goal.returns-then-content_length-gt-LONGEST_TEXT
returns-then-content_length-gt-LONGEST_TEXT c =
    let closed : IsClosed (drop 1 c.args.text.now) c.in-Some.length c.in-Some.content_length = rw take_rest at c.in-Some.ensures in
    let no_token : token_of (Quoted closed.content) c.split_at.result.0.now ≡ Err (kind.TextTooLong, 0) =
    rw (← closed.counted, lt-leb _ _ c.if-content_length-gt-LONGEST_TEXT.true) refl in
    (misread_text c.args.text.now c.split_at.result.0.now c.in-Some.length c.in-Some.content_length _ 0 c.requires closed c.split_at.ensures.front no_token, omega arith)

pub returns-in-Some-first_bad : goal.returns-in-Some-first_bad
returns-in-Some-first_bad c =
    let closed : IsClosed (drop 1 c.args.text.now) c.in-Some.length c.in-Some.content_length = rw take_rest at c.in-Some.ensures in
    let no_token : token_of (Quoted closed.content) c.split_at.result.0.now ≡ Err (kind.BadByte, c.in-Some-first_bad.bad) =
    rw (← closed.counted, le-leb _ _ c.if-content_length-gt-LONGEST_TEXT.false, ← c.in-Some-first_bad.ensures) refl in
    let inside = position_inside (λ b. not (is_text_byte b)) c.split_at.result.0.now c.in-Some-first_bad.bad (sym c.in-Some-first_bad.ensures) in (
      misread_text c.args.text.now c.split_at.result.0.now c.in-Some.length c.in-Some.content_length _ c.in-Some-first_bad.bad c.requires closed c.split_at.ensures.front no_token,
      omega (arith, inside, c.split_at.ensures.front_len, c.split_at.ensures.back_len),
    )

pub returns-in-None : goal.returns-in-None
returns-in-None c =
    let closed : IsClosed (drop 1 c.args.text.now) c.in-Some.length c.in-Some.content_length = rw take_rest at c.in-Some.ensures in
    let is_token : token_of (Quoted closed.content) c.split_at.result.0.now ≡ Ok token.Text =
    rw (← closed.counted, le-leb _ _ c.if-content_length-gt-LONGEST_TEXT.false, ← c.in-None.ensures) refl in
    read_text c.args.text.now c.split_at.result.0.now c.in-Some.length c.in-Some.content_length _ c.requires closed c.split_at.ensures.front is_token
