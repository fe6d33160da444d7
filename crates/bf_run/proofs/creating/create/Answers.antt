use Rattle.std.proofs.Common.{◌∙◌, ap, Err}
use Rattle.bf_run.proofs.creating.create.Goals as goal

pub returns-in_ok-not_empty_line-in-Err-NotEmpty-clause-causes : goal.returns-in_ok-not_empty_line-in-Err-NotEmpty-clause-causes
returns-in_ok-not_empty_line-in-Err-NotEmpty-clause-causes g c =
    c.make_log.ensures.not_empty c.in-Err-NotEmpty.bytes (c.in-Err-NotEmpty.is ∙ ap Err c.in-Err-NotEmpty.field-0-is)
