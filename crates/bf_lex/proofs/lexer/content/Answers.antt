use Rattle.std.proofs.Common.{◌≡◌, Err, arith, sym, ◌∙◌}
use Rattle.std.proofs.lemmas.List.{take_rest}
use Rattle.std.proofs.lemmas.Option.{none-some}
use Rattle.bf_base.specs.declared.text.TextError.TheVariants as errors
use Rattle.bf_lex.proofs.Contents.{all_copied, copied_plain, copied_quote, quote_is_double}
use Rattle.bf_lex.proofs.lexer.content.Goals as goal

pub loop-rest-preserved-then-byte-eq39 : goal.loop-rest-preserved-then-byte-eq39
loop-rest-preserved-then-byte-eq39 c = rw take_rest (copied_quote c.args.bytes.now c.loop-rest.inner c.loop-rest.rest.now c.loop-rest.length c.loop-rest.invariant (omega arith) c.if-byte-eq39.true)

pub loop-rest-preserved : goal.loop-rest-preserved
loop-rest-preserved c = rw take_rest (copied_plain c.args.bytes.now c.loop-rest.inner c.loop-rest.rest.now c.loop-rest.length c.loop-rest.invariant (omega arith) c.if-byte-eq39.false)

pub slice_bounds-rest-count-then-byte-eq39 : goal.slice_bounds-rest-count-then-byte-eq39
slice_bounds-rest-count-then-byte-eq39 c = quote_is_double c.args.bytes.now c.loop-rest.inner c.loop-rest.rest.now c.loop-rest.length c.loop-rest.invariant (omega arith) c.if-byte-eq39.true

pub slice_bounds-rest-start-then-byte-eq39 : goal.slice_bounds-rest-start-then-byte-eq39
slice_bounds-rest-start-then-byte-eq39 c = quote_is_double c.args.bytes.now c.loop-rest.inner c.loop-rest.rest.now c.loop-rest.length c.loop-rest.invariant (omega arith) c.if-byte-eq39.true

pub unreachable-requires : goal.unreachable-requires
unreachable-requires c =
    let told : c.of.result ≡ Err (errors.TooLong c.in-Err-TooLong.field-0-0) = cc in
    let long = (c.of.ensures.too_long c.in-Err-TooLong.field-0-0).0 told in
    let is_text = all_copied c.args.bytes.now c.loop-rest.inner c.loop-rest.rest.now c.loop-rest.length c.loop-rest.invariant (omega arith) in
    omega (arith, is_text.short, long.0, long.1)

pub unreachable-requires-in-Err-BadByte : goal.unreachable-requires-in-Err-BadByte
unreachable-requires-in-Err-BadByte c =
    let told : c.of.result ≡ Err (errors.BadByte c.in-Err-BadByte.field-0-0) = cc in
    let bad = (c.of.ensures.bad_byte c.in-Err-BadByte.field-0-0).0 told in
    let is_text = all_copied c.args.bytes.now c.loop-rest.inner c.loop-rest.rest.now c.loop-rest.length c.loop-rest.invariant (omega arith) in
    none-some c.in-Err-BadByte.field-0-0 (sym is_text.printable ∙ bad.1)
