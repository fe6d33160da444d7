use Rattle.std.proofs.Common.{◌≡◌, ◌<◌, ◌^◌, pos, to_z, of_z, w64, arith, rules}
use Rattle.std.proofs.lemmas.Int.{to_z_pos, to_z-of_z}
use Rattle.bf_phrase.proofs.Places.{length-words}
use Rattle.bf_phrase.proofs.Literals.{signed_number, signed_widest, signed_negative, signed_alone, signed_text, signed_else}
use Rattle.bf_phrase.proofs.operand.signed.Goals as goal

pub returns-then-number-lt-WIDEST-clause-fits : goal.returns-then-number-lt-WIDEST-clause-fits
returns-then-number-lt-WIDEST-clause-fits c =
    let low : c.in-Number.number < 2 ^ 63 = omega arith in
    let same : to_z w64 c.in-Number.number ≡ pos c.in-Number.number = to_z_pos w64 c.in-Number.number low in
    rw same (signed_number c.in-Number.number _ _ c.in-Number.ensures.front.it.0 (omega arith))

pub returns-else-number-lt-WIDEST-clause-fits : goal.returns-else-number-lt-WIDEST-clause-fits
returns-else-number-lt-WIDEST-clause-fits c =
    signed_widest c.in-Number.number _ _ _ (length-words c.args.cursor.text.now c.args.cursor.tokens.now) c.in-Number.ensures.front.it.0 (omega (arith, c.in-Number.ensures.front.it.1))

pub returns-in-Negative-clause-fits : goal.returns-in-Negative-clause-fits
returns-in-Negative-clause-fits c =
    let same : to_z w64 (of_z w64 c.negative.result) ≡ c.negative.result = to_z-of_z w64 c.negative.result (search rules) in
    rw (same, c.negative.ensures) (signed_negative c.in-Negative.number _ _ c.in-Negative.ensures.front.it.0 c.in-Negative.ensures.front.it.1)

pub returns-in-Minus-clause-fits : goal.returns-in-Minus-clause-fits
returns-in-Minus-clause-fits c =
    signed_alone _ _ _ (length-words c.in-Minus.behind.text.now c.in-Minus.behind.tokens.now) c.in-Minus.ensures.front.it.0 c.in-Minus.ensures.front.it.1

pub returns-in-Text-clause-fits : goal.returns-in-Text-clause-fits
returns-in-Text-clause-fits c =
    let front = c.in-Text.ensures.front.it in
    signed_text front.0 _ _ _ (length-words c.args.cursor.text.now c.args.cursor.tokens.now) front.3

pub returns-in-Other-clause-fits : goal.returns-in-Other-clause-fits
returns-in-Other-clause-fits c =
    signed_else _ _ (length-words c.args.cursor.text.now c.args.cursor.tokens.now) c.in-Other.ensures.front.it.0 c.in-Other.ensures.front.it.1
