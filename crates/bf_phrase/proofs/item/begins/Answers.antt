use Rattle.std.proofs.Common.{◌∙◌, sym}
use Rattle.bf_phrase.specs.Cursors.{words}
use Rattle.bf_phrase.proofs.Items.{begins_left, begins_right}
use Rattle.bf_phrase.proofs.item.begins.Goals as goal

pub returns-then-begins_expression : goal.returns-then-begins_expression
returns-then-begins_expression c = c.if-begins_expression.true ∙ begins_left (words c.args.cursor) (sym c.begins_expression.ensures ∙ c.if-begins_expression.true)

pub returns-else-begins_expression : goal.returns-else-begins_expression
returns-else-begins_expression c = begins_right (words c.args.cursor) (sym c.begins_expression.ensures ∙ c.if-begins_expression.false) c.begins_aggregate.ensures
