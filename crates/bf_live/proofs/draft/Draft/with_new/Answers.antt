use Rattle.std.proofs.Common.{◌≡◌, List, ◌∷◌, ◌++◌, subst, sym, ap, ◌∙◌}
use Rattle.std.specs.Vec.Iter.{into_iter_items}
use Rattle.std.proofs.lemmas.List.{map-append}
use Rattle.bf_base.specs.declared.table.Table.{Table}
use Rattle.bf_heap.specs.Heaps.{Rows}
use Rattle.bf_live.specs.Drafts.{AreNamedApart, Drafted, drafted_at, with_more}
use Rattle.bf_live.specs.Live.{TableRows, held_in}
use Rattle.bf_live.proofs.Drafts.{table_is_new}
use Rattle.bf_live.proofs.draft.Draft.with_new.Goals as goal

pub with_table-requires : goal.with_table-requires
with_table-requires c =
    let so_far = c.loop-table.yielded in
    let item : Table × Rows = (c.in-Some.table, c.in-Some.heap) in
    let t : TableRows = (c.in-Some.table, c.in-Some.heap.entries) in
    let rest = into_iter_items c.next.new.self in
    let whole : so_far ++ item ∷ rest ≡ c.args.new.items = ap (λ (new : List (Table × Rows)). so_far ++ new) (sym c.in-Some.ensures.steps.0) ∙ c.loop-table.invariant.left in
    let parts : held_in c.args.new.items ≡ held_in so_far ++ t ∷ held_in rest = ap held_in (sym whole) ∙ map-append (λ (t : Table × Rows). (t.0, t.1.entries)) so_far (item ∷ rest) in
    ap (λ (d : Drafted). drafted_at d.tables c.in-Some.table.name) c.loop-table.invariant.drafted
    ∙ table_is_new c.args.self.tables (held_in so_far) (held_in rest) t (subst (λ (new : List TableRows). AreNamedApart (with_more c.args.self.tables new)) parts c.requires)
