use Rattle.std.proofs.Common.{Some, ap, sym, subst, ◌∙◌}
use Rattle.bf_heap.specs.Heaps.{Rows}
use Rattle.bf_index.specs.Edits.{AreIndexesOf}
use Rattle.bf_live.specs.Replies.{IsSelect}
use Rattle.bf_live.proofs.statements.OnTables.{has_heap, is_change, own_keys_there}
use Rattle.bf_live.proofs.statements.Steps.{change_steps, select_steps}
use Rattle.bf_query.proofs.on_table.run_on_table.Goals as goal

pub unreachable-requires : goal.unreachable-requires
unreachable-requires c =
    has_heap c.args.live.now c.args.writes.now c.requires.database c.requires.«open» c.args.table.now c.args.bound.now.action c.requires.on
    c.in_default.ensures

pub select-requires-clause-indexes : goal.select-requires-clause-indexes
select-requires-clause-indexes c = subst (λ (h : Rows). AreIndexesOf h.entries c.indexes-indexes.result.now) (sym c.heap-rows.ensures) c.indexes-indexes.ensures

pub select-requires-clause-keys : goal.select-requires-clause-keys
select-requires-clause-keys c =
    own_keys_there c.args.live.now c.args.writes.now c.requires.database c.requires.«open» c.args.table.now c.args.bound.now.action c.requires.on
    _ (ap (λ (h : Rows). Some h.entries) c.heap-rows.ensures ∙ c.in-Some.ensures)

pub returns-in-Select-clause-step : goal.returns-in-Select-clause-step
returns-in-Select-clause-step c = λ in_block s bound.
    let act = c.args.bound.now.action in
    select_steps c.args.live.now c.args.writes.now c.requires.database c.requires.«open» in_block s act c.args.table.now bound c.requires.on.of_table
    _ (ap (λ (h : Rows). Some h.entries) c.heap-rows.ensures ∙ c.in-Some.ensures) (subst IsSelect (sym c.in-Select.is) tt) c.select.result c.select.ensures

pub changes-requires : goal.changes-requires
changes-requires c =
    let act = c.args.bound.now.action in record {
      indexes = subst (λ (h : Rows). AreIndexesOf h.entries c.indexes-indexes.result.now) (sym c.heap-rows.ensures) c.indexes-indexes.ensures;
      change = is_change act c.args.table.now c.requires.on.of_table c.in_default-action.not-Select;
      bound = c.requires.on.bound;
      keys = own_keys_there c.args.live.now c.args.writes.now c.requires.database c.requires.«open» c.args.table.now act c.requires.on _ (ap (λ (h : Rows). Some h.entries) c.heap-rows.ensures ∙ c.in-Some.ensures);
    }

pub returns-clause-step : goal.returns-clause-step
returns-clause-step c = λ in_block s bound.
    let act = c.args.bound.now.action in
    let change = is_change act c.args.table.now c.requires.on.of_table c.in_default-action.not-Select in
    change_steps c.args.live.now c.args.writes.now c.requires.database c.requires.«open» in_block s act c.args.table.now bound c.requires.on.of_table
    _ (ap (λ (h : Rows). Some h.entries) c.heap-rows.ensures ∙ c.in-Some.ensures) change c.changes.result c.changes.new.workspace c.changes.ensures.reply c.changes.ensures.workspace
