use Rattle.std.proofs.Common.{List, ◌++◌, sym, ap, ◌∙◌, append_assoc}
use Rattle.bf_base.specs.declared.granule.Place.TheVariants.{Row}
use Rattle.bf_base.specs.declared.value.Value.{Value}
use Rattle.bf_tree.specs.declared.migration.Target.{Target}
use Rattle.bf_sql.specs.migrations.Granules.{granule, part_of}
use Rattle.bf_eager.specs.Gathering.{named, parts_at, places_of_rows}
use Rattle.bf_image.specs.Migrations.{old_of}
use Rattle.bf_eager.proofs.Parting.{row_more}
use Rattle.bf_eager.proofs.gathering.add_rows.Goals as goal

pub loop-position-preserved : goal.loop-position-preserved
loop-position-preserved c =
    let m = c.args.migration.now in
    let n = c.loop-position.position in
    let before = named m c.args.rows.now.items in
    let part = part_of (old_of m) m.plan.migrate (granule c.args.unit (Row n)) in
    c.in_ok-add_part.ensures
    ∙ (ap (λ (xs : List (Target × List Value)). xs ++ part) c.loop-position.invariant
    ∙ (append_assoc before (parts_at m c.args.unit (places_of_rows n)) part ∙ ap (λ (xs : List (Target × List Value)). before ++ xs) (sym (row_more m c.args.unit n))))
