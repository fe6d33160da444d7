-- The tables come at once, and then one index rule after the other.
use Rattle.std.proofs.Common.{◌≡◌, ◌+◌, List, [], ◌∷◌, ◌++◌, map, refl, sym, ap, subst, ◌∙◌, append_assoc, rules}
use Rattle.std.specs.List.{All}
use Rattle.std.specs.Map.Iter.{deref}
use Rattle.std.proofs.lemmas.List.{map-append}
use Rattle.bf_tree.specs.declared.catalog.IndexRule.{IndexRule}
use Rattle.bf_sql.specs.Database.{Database, IsDatabase}
use Rattle.bf_live.specs.Live.{IsUnderOwnKeys, TableRows, held_in}
use Rattle.bf_eager.specs.Starting.{database_with, named_tables}
use Rattle.bf_eager.proofs.Beginning.{are_under_own_keys, begun_as, is_built, next_rule, numbered}
use Rattle.bf_eager.proofs.starting.live_tables.Goals as goal

pub replace-requires-clause-database : goal.replace-requires-clause-database
replace-requires-clause-database c =
    let catalog = c.args.catalog.now in
    let given = named_tables c.args.given.items in
    subst IsDatabase (sym (begun_as catalog given c.requires c.new-live.result (held_in c.in_ok-heaps_of.field-0.items) c.new-live.ensures c.in_ok-heaps_of.ensures))
    (is_built catalog given c.requires 1 [] catalog.indexes refl)

pub replace-requires-clause-own_keys : goal.replace-requires-clause-own_keys
replace-requires-clause-own_keys c =
    subst (λ (held : List TableRows). All IsUnderOwnKeys held) (sym c.in_ok-heaps_of.ensures) (are_under_own_keys c.args.catalog.now (named_tables c.args.given.items) c.requires)

pub loop-index-init : goal.loop-index-init
loop-index-init c =
    let catalog = c.args.catalog.now in
    let given = named_tables c.args.given.items in
    record {
      can = tt;
      ends = tt;
      left = search rules;
      built = numbered catalog given c.requires c.replace.new.self 1 []
          (c.in_ok-replace.ensures.ok ∙ begun_as catalog given c.requires c.new-live.result (held_in c.in_ok-heaps_of.field-0.items) c.new-live.ensures c.in_ok-heaps_of.ensures);
    }

pub create_index-requires : goal.create_index-requires
create_index-requires c =
    let catalog = c.args.catalog.now in
    let given = named_tables c.args.given.items in
    let so_far = map deref c.loop-index.yielded in
    let index = c.in-Some.index.now in
    let rest = c.next.new.self in
    let whole : so_far ++ index ∷ rest ≡ catalog.indexes = ap (λ (rs : List IndexRule). so_far ++ rs) (sym c.in-Some.ensures.steps) ∙ c.loop-index.invariant.left in
    record {
      database = subst IsDatabase (sym (next_rule catalog given c.requires c.loop-index.live so_far rest index c.in_ok-copy.field-0 c.loop-index.invariant.built c.in_ok-copy.ensures whole))
          (is_built catalog given c.requires (c.loop-index.live.number + 1) (so_far ++ index ∷ []) rest (append_assoc so_far (index ∷ []) rest ∙ whole));
    }

pub loop-index-preserved : goal.loop-index-preserved
loop-index-preserved c =
    let catalog = c.args.catalog.now in
    let given = named_tables c.args.given.items in
    let so_far = map deref c.loop-index.yielded in
    let index = c.in-Some.index.now in
    let rest = c.next.new.self in
    let whole : so_far ++ index ∷ rest ≡ catalog.indexes = ap (λ (rs : List IndexRule). so_far ++ rs) (sym c.in-Some.ensures.steps) ∙ c.loop-index.invariant.left in
    let more : map deref (c.loop-index.yielded ++ c.in-Some.index ∷ []) ≡ so_far ++ index ∷ [] = map-append deref c.loop-index.yielded (c.in-Some.index ∷ []) in
    let now = c.create_index.new.self in
    record {
      can = tt;
      ends = tt;
      left = ap (λ (rs : List IndexRule). rs ++ rest) more ∙ (append_assoc so_far (index ∷ []) rest ∙ whole);
      built =
          numbered catalog given c.requires now (c.loop-index.live.number + 1) (so_far ++ index ∷ [])
          (c.in_ok-create_index.ensures.ok ∙ next_rule catalog given c.requires c.loop-index.live so_far rest index c.in_ok-copy.field-0 c.loop-index.invariant.built c.in_ok-copy.ensures whole)
          ∙ ap (λ (rs : List IndexRule). let db : Database = record (database_with catalog given) { number = now.number; indexes = rs } in db) (sym more);
    }
