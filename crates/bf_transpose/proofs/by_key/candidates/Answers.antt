use Rattle.std.proofs.Common.{◌≡◌, ◌++◌, List, [], Option, Some, sym, ap, subst, ◌∙◌}
use Rattle.std.specs.Prelude.{IfSome, IsTrue, position}
use Rattle.std.specs.Option.{option_map_or}
use Rattle.std.proofs.lemmas.List.Quantifiers.{position-Some}
use Rattle.bf_base.specs.declared.granule.Granule.{Granule}
use Rattle.bf_base.specs.Lists.{has, same_name}
use Rattle.bf_tree.specs.declared.migration.Target.{Target}
use Rattle.bf_sql.specs.migrations.Granules.{same_granule}
use Rattle.bf_image.specs.Migrations.{owner_in, target_at}
use Rattle.bf_image.proofs.owning.Named.{no_owner, owner_by_place}
use Rattle.bf_transpose.specs.Candidates.{candidates_in}
use Rattle.bf_transpose.proofs.Possible.{owner_among}
use Rattle.bf_transpose.proofs.by_key.candidates.Goals as goal

-- no target has the name
pub returns-in_default-clause-exact : goal.returns-in_default-clause-exact
returns-in_default-clause-exact c =
    let name = c.args.table.now in
    let nowhere = c.in_default.ensures ∙ ap (λ (ts : List Target). position (λ target. same_name name target.name) ts) c.as_slice.ensures in
    c.new.ensures.items ∙ ap (λ o. option_map_or (λ target. candidates_in c.args.migration.now target c.args.key.now) o []) nowhere

pub returns-in_default-clause-owner : goal.returns-in_default-clause-owner
returns-in_default-clause-owner c =
    let m = c.args.migration.now in
    let name = c.args.table.now in
    let nowhere = c.in_default.ensures ∙ ap (λ (ts : List Target). position (λ target. same_name name target.name) ts) c.as_slice.ensures in
    subst (λ (o : Option Granule). IfSome o (λ g. IsTrue (has same_granule c.new.result.items g))) (no_owner m name c.args.key.now (sym nowhere)) tt

pub returns-clause-exact : goal.returns-clause-exact
returns-clause-exact c =
    let m = c.args.migration.now in
    let name = c.args.table.now in
    let key = c.args.key.now in
    let place = c.in-Some.place in
    let there : Some place ≡ position (λ (target : Target). same_name name target.name) m.plan.migrate.targets =
    c.in-Some.ensures ∙ ap (λ (ts : List Target). position (λ target. same_name name target.name) ts) c.as_slice.ensures in
    c.in_ok-add_candidates.ensures ∙ ap (λ (gs : List Granule). gs ++ candidates_in m place key) c.new-found.ensures.items
    ∙ ap (λ o. option_map_or (λ target. candidates_in m target key) o []) there

pub returns-clause-owner : goal.returns-clause-owner
returns-clause-owner c =
    let m = c.args.migration.now in
    let name = c.args.table.now in
    let key = c.args.key.now in
    let place = c.in-Some.place in
    let there : Some place ≡ position (λ (target : Target). same_name name target.name) m.plan.migrate.targets =
    c.in-Some.ensures ∙ ap (λ (ts : List Target). position (λ target. same_name name target.name) ts) c.as_slice.ensures in
    let within = (position-Some (λ (target : Target). same_name name target.name) m.plan.migrate.targets place (target_at m place) (sym there)).0 in
    let owned = owner_among m c.requires place within key (owner_in m name key) (sym (owner_by_place m name key place (sym there))) in
    subst (λ (gs : List Granule). IfSome (owner_in m name key) (λ g. IsTrue (has same_granule gs g)))
    (sym (c.in_ok-add_candidates.ensures ∙ ap (λ (gs : List Granule). gs ++ candidates_in m place key) c.new-found.ensures.items)) owned
