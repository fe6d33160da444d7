use Rattle.std.proofs.Common.{◌∷◌, [], codes}
use Rattle.bf_text.specs.Replies.{newline}
use Rattle.bf_text.specs.Report.{sweep_text}
use Rattle.bf_text.proofs.Putting.{nothing, one_more, puts_last, puts_cut}
use Rattle.bf_text.proofs.reports.put_end.Goals as goal

pub returns-in_err-put_numbered : goal.returns-in_err-put_numbered
returns-in_err-put_numbered c =
    puts_cut (codes " migration " ∷ sweep_text c.args.sweep ∷ newline ∷ []) _ _ _ (nothing c.args.out.now.items) c.from_residual.ensures.0 c.in_err-put_numbered.ensures

pub returns-in_err-put : goal.returns-in_err-put
returns-in_err-put c =
    puts_cut (sweep_text c.args.sweep ∷ newline ∷ []) _ _ _ (one_more _ (nothing c.args.out.now.items) c.in_ok-put_numbered.ensures)
    c.from_residual-in_err-put.ensures.0 c.in_err-put.ensures

pub returns-in_err-put_sweep : goal.returns-in_err-put_sweep
returns-in_err-put_sweep c =
    puts_cut (newline ∷ []) _ _ _ (one_more _ (one_more _ (nothing c.args.out.now.items) c.in_ok-put_numbered.ensures) c.in_ok-put.ensures)
    c.from_residual-in_err-put_sweep.ensures.0 c.in_err-put_sweep.ensures

pub returns : goal.returns
returns c =
    puts_last _ _ _ (one_more _ (one_more _ (one_more _ (nothing c.args.out.now.items) c.in_ok-put_numbered.ensures) c.in_ok-put.ensures) c.in_ok-put_sweep.ensures) c.put-2.ensures
