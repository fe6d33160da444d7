use Rattle.std.proofs.Common.{sym, ◌∙◌, arith}
use Rattle.std.proofs.lemmas.Result.{IfOk-weaker}
use Rattle.bf_image.proofs.giving.ValueRows.{makes_alone, makes_without, makes_here, makes_nowhere}
use Rattle.bf_image.proofs.giving.makes_any_of.Goals as goal
use Rattle.bf_image.proofs.giving.makes_any_of.Goals.{in_default-via-in-Some+in_default, in_default-via-in_default}

pub returns-in_default : goal.returns-in_default
returns-in_default c =
    IfOk-weaker c.makes_any.result _ _
    (λ any is. is ∙ elim c.in_default.branch [
      | in_default-via-in-Some+in_default w ↦ makes_without c.args.arm.now c.args.from.now c.args.join.now w.in_default.is-1
      | in_default-via-in_default w ↦ makes_alone c.args.arm.now c.args.from.now c.args.join.now w.in_default.is-0
    ])
    c.makes_any.ensures

pub returns-then-branch : goal.returns-then-branch
returns-then-branch c =
    makes_here c.args.arm.now c.args.from.now c.args.join.now c.in-Some-Some.field-0-0 c.in-Some-Some.is-0 c.in-Some-Some.table c.in-Some-Some.is-1
    c.loop-position.position-index (omega arith) (sym c.in_ok-makes_any_at.ensures ∙ c.if-branch.true)

pub returns : goal.returns
returns c =
    makes_nowhere c.args.arm.now c.args.from.now c.args.join.now c.in-Some-Some.field-0-0 c.in-Some-Some.is-0 c.in-Some-Some.table c.in-Some-Some.is-1
    c.loop-position.position-index (omega arith) c.loop-position.invariant
