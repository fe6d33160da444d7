use Rattle.std.proofs.Common.{◌∙◌, Some}
use Rattle.bf_base.specs.Tables.{cell}
use Rattle.bf_tree.specs.Evaluation.{holds_on}
use Rattle.bf_sql.specs.Queries.{changed}
use Rattle.bf_live.specs.Merged.{entries_under}
use Rattle.bf_live.proofs.querying.Effects.{rows_remade, remade-changed}
use Rattle.bf_query.proofs.laws.an_update_changes_its_rows.Goals as goal

pub returns : goal.returns
returns c table entries writes sets cond fixed in_order sorted stand =
    rows_remade table (λ row. holds_on (cell row) cond) (λ row. Some (changed cell (λ place. place) sets row)) entries writes in_order sorted stand
    ∙ remade-changed table (λ row. holds_on (cell row) cond) (changed cell (λ place. place) sets) (entries_under entries writes table.name)
