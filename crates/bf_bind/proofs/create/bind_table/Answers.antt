use Rattle.std.proofs.Common.{false, true, rules, ap, ◌∙◌}
use Rattle.bf_tree.specs.Settling.{first_of}
use Rattle.bf_tree.proofs.Settling.{first_ahead, handed_on}
use Rattle.bf_bind.proofs.Creating.{copied_some, stored_some, table_free, table_keyed, table_taken}
use Rattle.bf_bind.proofs.create.bind_table.Goals as goal

pub returns-then-is_some : goal.returns-then-is_some
returns-then-is_some c =
    let taken = stored_some c.args.catalog.now c.args.name.now true (copied_some c.table.result _ c.table.ensures true c.if-is_some.ensures) in
    rw c.in_ok-copy.ensures (table_taken c.args.catalog.now c.args.name.now c.args.rules.now c.args.key.now taken)

pub returns-in_err-columns : goal.returns-in_err-columns
returns-in_err-columns c =
    let free = stored_some c.args.catalog.now c.args.name.now false (copied_some c.table.result _ c.table.ensures false c.if-is_some.ensures) in
    handed_on _ c.in_err-columns.field-0.0 _ _ _ _ c.from_residual-in_err-columns.ensures.1 c.in_err-columns.ensures
    (λ r first. ap first_of (table_free c.args.catalog.now c.args.name.now c.args.rules.now c.args.key.now free) ∙ first_ahead _ _ r first)

pub returns-in_err-table : goal.returns-in_err-table
returns-in_err-table c =
    let free = stored_some c.args.catalog.now c.args.name.now false (copied_some c.table.result _ c.table.ensures false c.if-is_some.ensures) in
    handed_on _ c.in_err-table.field-0.0 _ _ _ _ c.from_residual-in_err-table.ensures.1 c.in_err-table.ensures
    (λ r first. ap first_of (table_keyed c.args.catalog.now c.args.name.now c.args.rules.now c.args.key.now free c.in_ok-columns.columns c.in_ok-columns.ensures) ∙ first)

pub returns : goal.returns
returns c =
    let free = stored_some c.args.catalog.now c.args.name.now false (copied_some c.table.result _ c.table.ensures false c.if-is_some.ensures) in
    (table_keyed c.args.catalog.now c.args.name.now c.args.rules.now c.args.key.now free c.in_ok-columns.columns c.in_ok-columns.ensures ∙ c.in_ok-table.ensures.0, search rules)
