use Rattle.std.proofs.Common.{◌≡◌, ◌+◌, ◌-◌, ℕ, List, map, length, ap, ap₂, ◌∙◌}
use Rattle.std.specs.Option.{option_map, option_to_list}
use Rattle.bf_base.specs.declared.table.Column.{Column}
use Rattle.bf_base.specs.declared.value.Value.{Value as Cell}
use Rattle.bf_base.specs.Tables.{cell}
use Rattle.bf_sql.specs.migrations.Targets.{arm_scope}
use Rattle.bf_image.specs.Lookup.{partner}
use Rattle.bf_image.specs.Migrations.{old_of}
use Rattle.bf_image.proofs.parting.MetRows.{with_join, join_rows_are}
use Rattle.bf_image.proofs.meeting.join_row_met.Goals as goal

pub returns : goal.returns
returns c = λ m target arm lawful frozen.
    let join = c.in-Some-Some.join.now in
    let has = with_join m arm target c.args.bound.now frozen c.in-Some-Some.on join c.in-Some-Some.is-0 (ap (option_map (λ j. j.now)) c.in-Some-Some.is-1) in
    let value : ℕ → ℕ → Cell = λ w p. cell c.args.row.now (partner (arm_scope (old_of m) arm) has.j.on (w + p) - 0) in
    let key : c.in_ok-key.key ≡ map (value (length c.as_slice.result.now)) c.as_slice-3.result.now = c.in_ok-key.ensures (arm_scope (old_of m) arm) has.j.on (c.as_slice-2.ensures ∙ has.placed) in
    ap option_to_list c.get.ensures
    ∙ join_rows_are m arm lawful c.args.bound.now.from.now frozen.from c.args.row.now c.in-Some-Some.on join has c.in_ok-key.key
    (key ∙ ap₂ (λ (columns : List Column) places. map (value (length columns)) places) c.as_slice.ensures c.as_slice-3.ensures)
