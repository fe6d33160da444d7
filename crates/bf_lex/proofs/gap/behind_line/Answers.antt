use Rattle.std.proofs.Common.{sym}
use Rattle.std.proofs.lemmas.List.{take_rest}
use Rattle.bf_lex.proofs.Fronts.{ends_line, is_open_line}
use Rattle.bf_lex.proofs.gap.behind_line.Goals as goal

pub returns-in_err-end : goal.returns-in_err-end
returns-in_err-end c = rw c.from_residual.ensures (is_open_line c.args.text.now (sym c.in_err-end.ensures))

pub returns : goal.returns
returns c = rw take_rest (ends_line c.args.text.now c.in_ok-end.end (sym c.in_ok-end.ensures))
