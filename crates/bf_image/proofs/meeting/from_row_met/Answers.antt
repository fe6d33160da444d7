use Rattle.std.proofs.Common.{◌≡◌, ◌+◌, ◌-◌, ℕ, List, Some, None, map, length, sym, ap, ap₂, ◌∙◌}
use Rattle.std.specs.Option.{option_to_list}
use Rattle.bf_base.specs.declared.table.Column.{Column}
use Rattle.bf_base.specs.declared.value.Value.{Value as Cell}
use Rattle.bf_base.specs.Tables.{cell}
use Rattle.bf_sql.specs.migrations.Targets.{arm_scope, equalities}
use Rattle.bf_image.specs.Lookup.{partner}
use Rattle.bf_image.specs.Migrations.{old_of}
use Rattle.bf_image.proofs.parting.MetRows.{has_on, pairs_are, from_rows_are}
use Rattle.bf_image.proofs.meeting.from_row_met.Goals as goal

pub returns : goal.returns
returns c = λ m target arm lawful frozen by_join.
    let from = c.args.bound.now.from.now in
    let value : ℕ → ℕ → Cell = λ w p. cell c.args.row.now (partner (arm_scope (old_of m) arm) (equalities arm) (0 + p) - w) in
    let key : c.in_ok-key.key ≡ map (value (length c.as_slice.result.now)) c.as_slice-3.result.now =
    c.in_ok-key.ensures (arm_scope (old_of m) arm) (equalities arm) (c.as_slice-2.ensures ∙ pairs_are m arm target c.args.bound.now frozen c.in-Some.on c.in-Some.is) in
    ap option_to_list c.get.ensures
    ∙ from_rows_are m arm lawful from frozen.from c.args.row.now c.in_ok-key.key (key ∙ ap₂ (λ (columns : List Column) places. map (value (length columns)) places) c.as_slice.ensures c.as_slice-3.ensures)

pub returns-in_default : goal.returns-in_default
returns-in_default c = λ m target arm lawful frozen by_join.
    let (pairs, there) = has_on m arm target c.args.bound.now frozen by_join in
    let none : None ≡ Some pairs = sym c.in_default.is ∙ there in
    absurd cc
