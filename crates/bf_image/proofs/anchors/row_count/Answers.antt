use Rattle.std.proofs.Common.{◌∙◌, length, sym, ap}
use Rattle.bf_image.specs.BoundArms.{entries_of}
use Rattle.bf_image.proofs.cutting.Swept.{count_at}
use Rattle.bf_image.proofs.anchors.row_count.Goals as goal

pub returns-in-Some : goal.returns-in-Some
returns-in-Some c =
    c.len.ensures.count ∙ ap (λ o. length (entries_of o)) c.in-Some.ensures ∙ sym (count_at c.args.migration.now c.requires.lawful c.args.name.now)

pub returns-in-None : goal.returns-in-None
returns-in-None c =
    ap (λ o. length (entries_of o)) c.in-None.ensures ∙ sym (count_at c.args.migration.now c.requires.lawful c.args.name.now)
