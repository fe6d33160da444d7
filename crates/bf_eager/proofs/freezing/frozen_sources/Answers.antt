-- A table of the catalog has a heap with its rows.
use Rattle.std.proofs.Common.{◌≡◌, List, [], ◌∷◌, ◌++◌, None, Some, map, option_map, sym, ap, subst, ◌∙◌, append_assoc}
use Rattle.std.specs.Map.Iter.{deref}
use Rattle.std.proofs.lemmas.List.{append-nil, map-append}
use Rattle.std.proofs.lemmas.Option.{same_Some}
use Rattle.bf_base.specs.declared.table.Table.{Table}
use Rattle.bf_sql.specs.Database.{Stored, table_rows}
use Rattle.bf_live.specs.Meanings.{entries_of}
use Rattle.bf_image.specs.declared.migration.Frozen.{Frozen}
use Rattle.bf_eager.proofs.Copying.{AreFrozenOf, all_frozen, can_freeze, freeze_one, stored_so}
use Rattle.bf_eager.proofs.freezing.frozen_sources.Goals as goal

pub unreachable-requires : goal.unreachable-requires
unreachable-requires c =
    let db = c.args.live.now in
    let t = c.in-Some.table.now in
    let so_far = map deref c.loop-table.yielded in
    let rest = c.next.new.self in
    let whole : so_far ++ t ∷ rest ≡ map (λ (s : Stored). s.table) db.tables = ap (λ (ts : List Table). so_far ++ ts) (sym c.in-Some.ensures.steps) ∙ c.loop-table.invariant.left in
    let none : None ≡ Some (entries_of t (table_rows db t.name)) =
    c.in_default.ensures ∙ ap (option_map (λ (s : Stored). entries_of s.table s.rows)) (stored_so db c.catalog.ensures.database so_far rest t whole) in
    cc

pub frozen-requires : goal.frozen-requires
frozen-requires c =
    let db = c.args.live.now in
    let t = c.in-Some.table.now in
    let so_far = map deref c.loop-table.yielded in
    let rest = c.next.new.self in
    let whole : so_far ++ t ∷ rest ≡ map (λ (s : Stored). s.table) db.tables = ap (λ (ts : List Table). so_far ++ ts) (sym c.in-Some.ensures.steps) ∙ c.loop-table.invariant.left in
    let there = stored_so db c.catalog.ensures.database so_far rest t whole in
    let entries = c.in-Some-heap.heap.now.entries in
    let are : entries ≡ entries_of t (table_rows db t.name) = same_Some _ _ (c.in-Some-heap.ensures ∙ ap (option_map (λ (s : Stored). entries_of s.table s.rows)) there) in
    can_freeze db c.catalog.ensures.database t there entries are

pub loop-table-preserved-in-Continue-branch-2 : goal.loop-table-preserved-in-Continue-branch-2
loop-table-preserved-in-Continue-branch-2 c =
    let db = c.args.live.now in
    let t = c.in-Some.table.now in
    let so_far = map deref c.loop-table.yielded in
    let rest = c.next.new.self in
    let inv = c.loop-table.invariant in
    let whole : so_far ++ t ∷ rest ≡ map (λ (s : Stored). s.table) db.tables = ap (λ (ts : List Table). so_far ++ ts) (sym c.in-Some.ensures.steps) ∙ inv.left in
    let there = stored_so db c.catalog.ensures.database so_far rest t whole in
    let entries = c.in-Some-heap.heap.now.entries in
    let are : entries ≡ entries_of t (table_rows db t.name) = same_Some _ _ (c.in-Some-heap.ensures ∙ ap (option_map (λ (s : Stored). entries_of s.table s.rows)) there) in
    let more : map deref (c.loop-table.yielded ++ c.in-Some.table ∷ []) ≡ so_far ++ t ∷ [] = map-append deref c.loop-table.yielded (c.in-Some.table ∷ []) in
    let copy = c.in_ok-copy.copy in
    record {
      can = tt;
      ends = tt;
      left = ap (λ (ts : List Table). ts ++ rest) more ∙ (append_assoc so_far (t ∷ []) rest ∙ whole);
      frozen = subst (λ (ts : List Table). AreFrozenOf db c.args.sources.now ts c.push.new.self.items) (sym more)
          (subst (λ (fs : List Frozen). AreFrozenOf db c.args.sources.now (so_far ++ t ∷ []) fs) (sym c.in_ok-push.ensures.items)
          (freeze_one db c.args.sources.now so_far t c.loop-table.all.items copy inv.frozen (sym c.if-is_among.ensures) c.in_ok-copy.ensures.table (c.in_ok-copy.ensures.rows ∙ are)));
    }

pub returns : goal.returns
returns c =
    let so_far = map deref c.loop-table.yielded in
    let inv = c.loop-table.invariant in
    let all : so_far ≡ map (λ (s : Stored). s.table) c.args.live.now.tables =
    sym (append-nil so_far) ∙ (ap (λ (ts : List Table). so_far ++ ts) (sym c.in-None.ensures.steps.0) ∙ inv.left) in
    all_frozen c.args.live.now c.args.sources.now c.catalog.ensures.database so_far c.loop-table.all.items all inv.frozen
