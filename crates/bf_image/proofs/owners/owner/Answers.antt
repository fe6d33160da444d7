use Rattle.std.proofs.Common.{◌≡◌, List, IfOk, sym, ap, subst, ◌∙◌}
use Rattle.std.specs.Prelude.{position}
use Rattle.bf_base.specs.Lists.{same_name}
use Rattle.bf_tree.specs.declared.migration.Target.{Target}
use Rattle.bf_image.proofs.owning.Named.{no_owner, owner_by_place}
use Rattle.bf_image.proofs.owners.owner.Goals as goal

-- no target has the name
pub returns-in_default : goal.returns-in_default
returns-in_default c =
    let name = c.args.table.now in
    let nowhere = c.in_default.ensures ∙ ap (λ (ts : List Target). position (λ target. same_name name target.name) ts) c.as_slice.ensures in
    no_owner c.args.migration.now name c.args.key.now (sym nowhere)

pub returns : goal.returns
returns c =
    let name = c.args.table.now in
    let there = c.in-Some.ensures ∙ ap (λ (ts : List Target). position (λ target. same_name name target.name) ts) c.as_slice.ensures in
    subst (λ all. IfOk c.owner_of_target.result (λ owner. owner ≡ all)) (owner_by_place c.args.migration.now name c.args.key.now c.in-Some.place (sym there)) c.owner_of_target.ensures
