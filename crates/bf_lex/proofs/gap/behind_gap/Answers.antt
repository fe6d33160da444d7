use Rattle.std.proofs.Common.{arith, sym, ◌∙◌}
use Rattle.std.proofs.lemmas.List.{take_rest}
use Rattle.bf_lex.proofs.Gaps.{passed_nothing, passes_blank, passes_comment, all_passed, ends_in_comment}
use Rattle.bf_lex.proofs.gap.behind_gap.Goals as goal

pub loop-rest-init : goal.loop-rest-init
loop-rest-init c = passed_nothing c.args.text.now

pub loop-rest-preserved-then-is_blank : goal.loop-rest-preserved-then-is_blank
loop-rest-preserved-then-is_blank c =
    rw take_rest (passes_blank c.args.text.now c.loop-rest.rest.now c.loop-rest.invariant (omega arith) (sym c.is_blank.ensures ∙ c.if-is_blank.true))

pub returns-in_err-rest : goal.returns-in_err-rest
returns-in_err-rest c =
    rw c.from_residual.ensures (ends_in_comment c.args.text.now c.loop-rest.rest.now c.loop-rest.invariant (omega arith) (omega arith) (omega arith) (rw take_rest at c.in_err-rest.ensures))

pub loop-rest-preserved : goal.loop-rest-preserved
loop-rest-preserved c =
    passes_comment c.args.text.now c.loop-rest.rest.now c.in_ok-rest.rest.now c.loop-rest.invariant (omega arith) (omega arith) (omega arith) (rw take_rest at c.in_ok-rest.ensures)

pub returns : goal.returns
returns c = all_passed c.args.text.now c.loop-rest.rest.now c.loop-rest.invariant (omega arith)
