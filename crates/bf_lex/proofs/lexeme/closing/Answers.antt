use Rattle.std.proofs.Common.{◌≡◌, true, false, drop, arith, sym, ◌∙◌}
use Rattle.std.proofs.lemmas.List.{take_rest}
use Rattle.bf_lex.specs.Bytes.{is_quote, begins}
use Rattle.bf_lex.proofs.Quotes.{another_byte, another_quote, closes, second_quote}
use Rattle.bf_lex.proofs.lexeme.closing.Goals as goal

pub loop-rest-preserved-then-first-ne39 : goal.loop-rest-preserved-then-first-ne39
loop-rest-preserved-then-first-ne39 c =
    rw take_rest (another_byte c.args.text.now c.loop-rest.rest.now c.loop-rest.count c.loop-rest.invariant (omega arith) (omega arith))

pub loop-rest-preserved : goal.loop-rest-preserved
loop-rest-preserved c =
    let begun : begins is_quote (drop 1 c.loop-rest.rest.now) ≡ true = rw take_rest at (sym c.begins_quote.ensures ∙ c.if-begins_quote.true) in
    let second = second_quote c.loop-rest.rest.now begun in
    rw take_rest (another_quote c.args.text.now c.loop-rest.rest.now c.loop-rest.count c.loop-rest.invariant second.0 (omega arith) second.1)

pub returns-else-begins_quote : goal.returns-else-begins_quote
returns-else-begins_quote c =
    let ends : begins is_quote (drop 1 c.loop-rest.rest.now) ≡ false = rw take_rest at (sym c.begins_quote.ensures ∙ c.if-begins_quote.false) in
    rw take_rest (closes c.args.text.now c.loop-rest.rest.now c.loop-rest.count c.loop-rest.invariant (omega arith) (omega arith) ends)
