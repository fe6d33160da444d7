use Rattle.std.proofs.Common.{sym, ap, ◌∙◌}
use Rattle.std.specs.BTreeSet.{BTreeSet}
use Rattle.bf_base.specs.declared.granule.Granule.{Granule}
use Rattle.bf_base.specs.Tables.{key_of}
use Rattle.bf_image.specs.Migrations.{owner_in}
use Rattle.bf_transpose.proofs.Owners.{none_owning, with_owner, without_owner}
use Rattle.bf_transpose.proofs.owning.owners_of.Goals as goal
use Rattle.bf_transpose.proofs.owning.owners_of.Goals.{in-Some+in_ok-insert, in_default}

pub loop-row-init : goal.loop-row-init
loop-row-init c = c.new-owners.ensures.empty ∙ none_owning c.args.migration.now c.requires.lawful c.args.table.now c.requires.made

pub loop-row-preserved : goal.loop-row-preserved
loop-row-preserved c =
    let m = c.args.migration.now in
    let table = c.args.table.now in
    let rows = c.args.rows.now in
    let i = c.loop-row.row-index in
    let found = c.in_ok-granule.ensures ∙ ap (λ key. owner_in m table.name key) (c.in_ok-key.ensures ∙ ap (key_of table) c.row-item.is) in
    elim c.match-branch-3.branch [
      | in-Some+in_ok-insert w ↦
          ap (λ (owners : BTreeSet Granule). owners.keys) w.owners-is ∙ w.in_ok-insert.ensures.keys
          ∙ with_owner m c.requires.lawful table c.requires.made rows i c.row-item.result c.loop-row-test.true c.loop-row.owners.keys c.loop-row.invariant
          w.in-Some.granule (sym w.in-Some.is ∙ found)
      | in_default w ↦
          ap (λ (owners : BTreeSet Granule). owners.keys) w.owners-is
          ∙ without_owner m c.requires.lawful table c.requires.made rows i c.row-item.result c.loop-row-test.true c.loop-row.owners.keys c.loop-row.invariant
          (sym w.in_default.is ∙ found)
    ]
