use Rattle.std.proofs.Common.{◌≡◌, to_z, of_z, w64, rules}
use Rattle.std.proofs.lemmas.Int.{to_z-of_z}
use Rattle.bf_phrase.proofs.Places.{text_word}
use Rattle.bf_phrase.proofs.Literals.{literal_text, literal_signed}
use Rattle.bf_phrase.proofs.Moves.{exit}
use Rattle.bf_phrase.proofs.operand.literal.Goals as goal

pub returns-in_ok-content-in-Text-clause-fits : goal.returns-in_ok-content-in-Text-clause-fits
returns-in_ok-content-in-Text-clause-fits c =
    let front = c.in-Text.ensures.front.it in
    literal_text c.in_ok-content-in-Text.field-0 _ _ (text_word c.in-Text.bytes.now front.0 c.in_ok-content-in-Text.field-0 _ _ front.2 c.in_ok-content-in-Text.ensures front.3)

pub returns-in_err-number-in_default-clause-fits : goal.returns-in_err-number-in_default-clause-fits
returns-in_err-number-in_default-clause-fits c =
    exit _ c.from_residual-in_err-number-in_default.result _ c.from_residual-in_err-number-in_default.ensures.1
    (literal_signed c.front.ensures.front c.in_default.not-Text c.in_err-number-in_default.ensures.fits)

pub returns-in_ok-number-in_default-clause-fits : goal.returns-in_ok-number-in_default-clause-fits
returns-in_ok-number-in_default-clause-fits c =
    let same : to_z w64 (of_z w64 c.in_ok-number-in_default.number) ≡ c.in_ok-number-in_default.number = to_z-of_z w64 c.in_ok-number-in_default.number (search rules) in
    rw same (literal_signed c.front.ensures.front c.in_default.not-Text c.in_ok-number-in_default.ensures.fits)
