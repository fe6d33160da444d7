-- What the arm's items copy, as the arm is placed.
use Rattle.std.proofs.Common.{◌≡◌, length, option_map, sym, ap, ap₂, ◌∙◌}
use Rattle.std.proofs.lemmas.Option.{same_Some}
use Rattle.bf_base.specs.declared.table.Table.{Table}
use Rattle.bf_tree.specs.declared.plan.PlacedArm.{PlacedArm}
use Rattle.bf_sql.specs.migrations.Placed.{placed_arm}
use Rattle.bf_image.specs.Migrations.{old_of}
use Rattle.bf_image.proofs.owning.Stored.{table_is}
use Rattle.bf_transpose.specs.Transposed.{begins_at}
use Rattle.bf_transpose.proofs.drivers.copies_of.Goals as goal

pub returns : goal.returns
returns c =
    let m = c.args.migration.now in
    let raw = c.in_ok-raw.raw.now in
    let arm = c.in_ok-raw.arm.now in
    let placed : arm ≡ placed_arm (old_of m) raw = same_Some arm (placed_arm (old_of m) raw) (c.in_ok-raw.ensures.placed ∙ ap (option_map (placed_arm (old_of m))) (sym c.in_ok-raw.ensures.written)) in
    let wide = c.len.ensures ∙ ap (λ (t : Table). length t.columns) (sym (table_is m raw.from c.in_ok-from.from.now (sym c.in_ok-from.ensures))) in
    record {
      number = c.in_ok-number.number;
      only = c.in_ok-number.ensures;
      arm = raw;
      at = sym c.in_ok-raw.ensures.written;
      items = c.as_slice.ensures ∙ ap (λ (p : PlacedArm). p.items) placed;
      first = c.begins_at.ensures ∙ ap₂ begins_at (ap (λ (p : PlacedArm). p.kind) placed) wide;
      count = c.len-2.ensures;
    }
