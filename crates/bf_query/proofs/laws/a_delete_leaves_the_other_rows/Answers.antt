use Rattle.std.proofs.Common.{◌∙◌, None}
use Rattle.bf_base.specs.Tables.{cell}
use Rattle.bf_tree.specs.Evaluation.{holds_on}
use Rattle.bf_live.specs.Merged.{entries_under}
use Rattle.bf_live.proofs.querying.Effects.{rows_remade, remade-removed}
use Rattle.bf_query.proofs.laws.a_delete_leaves_the_other_rows.Goals as goal

pub returns : goal.returns
returns c table entries writes cond fixed in_order sorted stand =
    rows_remade table (λ row. holds_on (cell row) cond) (λ row. None) entries writes in_order sorted stand
    ∙ remade-removed table (λ row. holds_on (cell row) cond) (entries_under entries writes table.name)
