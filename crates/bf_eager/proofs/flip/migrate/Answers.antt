-- A MIGRATE that nothing stands in the way of is the flip.
use Rattle.std.proofs.Common.{◌≡◌, ℕ, List, None, map, sym, ap, ap₂, subst, ◌∙◌}
use Rattle.std.specs.List.{All}
use Rattle.bf_tree.specs.Limits.{HasNarrowTables}
use Rattle.bf_tree.specs.declared.plan.Plan.{Plan}
use Rattle.bf_tree.specs.declared.reply.Reply.TheVariants as reply
use Rattle.bf_sql.specs.Bound.{catalog_of}
use Rattle.bf_sql.specs.Database.{Database, IsDatabase}
use Rattle.bf_sql.specs.migrations.Images.{flipped}
use Rattle.bf_image.proofs.admitting.Flip.{flip_keeps}
use Rattle.bf_image.specs.Migrations.{old_of}
use Rattle.bf_image.specs.declared.migration.Migration.{Migration}
use Rattle.bf_live.specs.Live.{IsUnderOwnKeys, TableRows, exchanged, held_in, stored}
use Rattle.bf_eager.specs.Flips.{Made, AreMade, heaped}
use Rattle.bf_sql.specs.RowObjections.{first_oversize}
use Rattle.bf_eager.specs.Freezing.{AreFrozen}
use Rattle.bf_eager.specs.Groups.{IsPlanned}
use Rattle.bf_eager.proofs.Exchanging.{can_stand, exchange_flips, flip_means, flip_narrow, heaped_own}
use Rattle.bf_eager.proofs.Lawful.{lawful_over, old_sources, plan_sources}
use Rattle.bf_eager.proofs.flip.migrate.Goals as goal

-- the sources leave, and the new tables come as the migration makes them: that is the flip
flips : (db : Database) (plan : Plan) (m : Migration) (names : List (List ℕ)) (held : List TableRows) (made : List Made)
    → IsDatabase db → IsPlanned db plan → HasNarrowTables (catalog_of db) → None ≡ first_oversize db plan.sources
    → m.plan ≡ plan → AreFrozen db plan.sources m.frozen → names ≡ m.plan.sources → held ≡ heaped made → AreMade (old_of m) m.plan.migrate.targets made
    → exchanged db names (map stored held) ≡ flipped db plan.migrate
flips db plan m names held made database planned tables few by_plan are named heaps all =
    exchange_flips (old_of m) db plan.migrate names held made (old_sources db plan database planned tables few m.frozen are)
    (named ∙ (ap (λ (p : Plan). p.sources) by_plan ∙ plan_sources db plan planned)) heaps (subst (λ (p : Plan). AreMade (old_of m) p.migrate.targets made) by_plan all)

pub migration_of-requires-clause-few : goal.migration_of-requires-clause-few
migration_of-requires-clause-few c = sym (sym c.in_default.is ∙ (c.in_ok-refusal.ensures ∙ ap (first_oversize c.args.live.now) c.as_slice.ensures))

pub tables_made-requires : goal.tables_made-requires
tables_made-requires c = c.in_ok-migration.ensures.lawful

pub heaps_of-requires : goal.heaps_of-requires
heaps_of-requires c = can_stand (old_of c.in_ok-migration.migration) c.in_ok-migration.migration.plan.migrate.targets c.in_ok-made.made.items c.in_ok-made.ensures

pub replace-requires-clause-database : goal.replace-requires-clause-database
replace-requires-clause-database c =
    let few : None ≡ first_oversize c.args.live.now c.args.plan.sources = sym c.in_default.is ∙ (c.in_ok-refusal.ensures ∙ ap (first_oversize c.args.live.now) c.as_slice.ensures) in
    let lawful = lawful_over c.args.live.now c.args.plan c.requires.database c.requires.planned few in
    let flip = flips c.args.live.now c.args.plan c.in_ok-migration.migration c.as_slice-2.result.now (held_in c.in_ok-heaps.heaps.items) c.in_ok-made.made.items c.requires.database c.requires.planned c.requires.tables few c.in_ok-migration.ensures.plan c.in_ok-migration.ensures.frozen c.as_slice-2.ensures c.in_ok-heaps.ensures c.in_ok-made.ensures in
    subst IsDatabase (sym flip) (flip_keeps c.args.live.now c.args.plan.migrate lawful)

pub replace-requires-clause-own_keys : goal.replace-requires-clause-own_keys
replace-requires-clause-own_keys c = subst (λ (held : List TableRows). All IsUnderOwnKeys held) (sym c.in_ok-heaps.ensures) (heaped_own c.in_ok-made.made.items)

pub returns-clause-meant : goal.returns-clause-meant
returns-clause-meant c = λ commit.
    let few : None ≡ first_oversize c.args.live.now c.args.plan.sources = sym c.in_default.is ∙ (c.in_ok-refusal.ensures ∙ ap (first_oversize c.args.live.now) c.as_slice.ensures) in
    let lawful = lawful_over c.args.live.now c.args.plan c.requires.database c.requires.planned few in
    let flip = flips c.args.live.now c.args.plan c.in_ok-migration.migration c.as_slice-2.result.now (held_in c.in_ok-heaps.heaps.items) c.in_ok-made.made.items c.requires.database c.requires.planned c.requires.tables few c.in_ok-migration.ensures.plan c.in_ok-migration.ensures.frozen c.as_slice-2.ensures c.in_ok-heaps.ensures c.in_ok-made.ensures in
    flip_means c.args.live.now c.args.plan.migrate lawful commit
    ∙ ap₂ (λ (count : ℕ) (db : Database). (reply.Migrated count, db)) (sym c.len-count.ensures) (sym (c.in_ok-replace.ensures.ok ∙ flip))

pub returns-clause-database : goal.returns-clause-database
returns-clause-database c =
    let few : None ≡ first_oversize c.args.live.now c.args.plan.sources = sym c.in_default.is ∙ (c.in_ok-refusal.ensures ∙ ap (first_oversize c.args.live.now) c.as_slice.ensures) in
    let lawful = lawful_over c.args.live.now c.args.plan c.requires.database c.requires.planned few in
    let flip = flips c.args.live.now c.args.plan c.in_ok-migration.migration c.as_slice-2.result.now (held_in c.in_ok-heaps.heaps.items) c.in_ok-made.made.items c.requires.database c.requires.planned c.requires.tables few c.in_ok-migration.ensures.plan c.in_ok-migration.ensures.frozen c.as_slice-2.ensures c.in_ok-heaps.ensures c.in_ok-made.ensures in
    subst IsDatabase (sym (c.in_ok-replace.ensures.ok ∙ flip)) (flip_keeps c.args.live.now c.args.plan.migrate lawful)

pub returns-clause-tables : goal.returns-clause-tables
returns-clause-tables c =
    let few : None ≡ first_oversize c.args.live.now c.args.plan.sources = sym c.in_default.is ∙ (c.in_ok-refusal.ensures ∙ ap (first_oversize c.args.live.now) c.as_slice.ensures) in
    let flip = flips c.args.live.now c.args.plan c.in_ok-migration.migration c.as_slice-2.result.now (held_in c.in_ok-heaps.heaps.items) c.in_ok-made.made.items c.requires.database c.requires.planned c.requires.tables few c.in_ok-migration.ensures.plan c.in_ok-migration.ensures.frozen c.as_slice-2.ensures c.in_ok-heaps.ensures c.in_ok-made.ensures in
    subst (λ (db : Database). HasNarrowTables (catalog_of db)) (sym (c.in_ok-replace.ensures.ok ∙ flip)) (flip_narrow c.args.live.now c.args.plan.migrate c.requires.planned.narrow c.requires.tables)
