use Rattle.std.proofs.Common.{◌≡◌, List, ◌++◌, take, sym, ap, ap₂, ◌∙◌, append_assoc}
use Rattle.std.specs.Global.{Vec}
use Rattle.bf_base.specs.declared.granule.Place.TheVariants.{Group}
use Rattle.bf_base.specs.declared.value.Value.{Value}
use Rattle.bf_tree.specs.declared.migration.Target.{Target}
use Rattle.bf_sql.specs.migrations.Granules.{granule, part_of}
use Rattle.bf_index.specs.ByValues.{Valued}
use Rattle.bf_eager.specs.Gathering.{Numbered, named, parts_at, places_of_values}
use Rattle.bf_image.specs.Migrations.{old_of}
use Rattle.bf_eager.proofs.Parting.{take_none, value_more}
use Rattle.bf_eager.proofs.gathering.add_values.Goals.{in-Some+in_ok-copy+in_ok-add_part, in_default}
use Rattle.bf_eager.proofs.gathering.add_values.Goals as goal

pub loop-at-preserved : goal.loop-at-preserved
loop-at-preserved c =
    let m = c.args.migration.now in
    let n = c.loop-at.at in
    let before = named m c.args.rows.now.items in
    let inv = c.loop-at.invariant in
    elim c.match-at.branch [
      | in-Some+in_ok-copy+in_ok-add_part w ↦
          let entry : Valued = (w.in-Some.value.now, w.in-Some.field-0-1.now) in
          let part = part_of (old_of m) m.plan.migrate (granule c.args.unit (Group entry.0)) in
          let copied : part_of (old_of m) m.plan.migrate (granule c.args.unit (Group w.in_ok-copy.field-0)) ≡ part =
          ap (λ (value : List Value). part_of (old_of m) m.plan.migrate (granule c.args.unit (Group value))) w.in_ok-copy.ensures in
          ap (λ (rows : Vec Numbered). named m rows.items) w.rows-is
          ∙ (w.in_ok-add_part.ensures
          ∙ (ap₂ (λ (xs ps : List (Target × List Value)). xs ++ ps) inv copied
          ∙ (append_assoc before (parts_at m c.args.unit (places_of_values (take n c.args.values.now))) part
          ∙ ap (λ (xs : List (Target × List Value)). before ++ xs) (sym (value_more m c.args.unit c.args.values.now n entry w.in-Some.ensures)))))
      | in_default w ↦
          ap (λ (rows : Vec Numbered). named m rows.items) w.rows-is
          ∙ (inv ∙ ap (λ (vs : List Valued). before ++ parts_at m c.args.unit (places_of_values vs)) (sym (take_none c.args.values.now n w.in_default.ensures)))
    ]
