use Rattle.std.proofs.Common.{◌≡◌, List, [], ◌∷◌, ◌++◌, false, map, subst, sym, ap, ap₂, ◌∙◌}
use Rattle.std.specs.Map.Iter.{deref}
use Rattle.bf_base.specs.declared.table.Table.{Table}
use Rattle.bf_base.specs.Lists.{has, same_name}
use Rattle.bf_live.specs.Drafts.{AreNamedApart, Drafted, drafted_at, staying, with_more}
use Rattle.bf_live.specs.Live.{TableRows}
use Rattle.bf_live.proofs.Drafts.{table_is_new, tables_left_in}
use Rattle.bf_live.proofs.draft.Draft.with_staying.Goals as goal

pub with_table-requires : goal.with_table-requires
with_table-requires c =
    let gone = c.args.gone.now in
    let so_far = map deref c.loop-table.yielded in
    let table = c.in-Some.table.now in
    let rest = c.next.new.self in
    let whole : so_far ++ table ∷ rest ≡ c.args.old.now.tables = ap (λ (ts : List Table). so_far ++ ts) (sym c.in-Some.ensures.steps) ∙ c.loop-table.invariant.left in
    let stays : has same_name gone table.name ≡ false = sym c.if-not-is_among.ensures in
    let parts : staying gone c.args.old.now.tables ≡ staying gone so_far ++ (table, []) ∷ staying gone rest = ap (staying gone) (sym whole) ∙ tables_left_in gone so_far rest table stays in
    ap₂ (λ (d : Drafted) (t : Table). drafted_at d.tables t.name) c.loop-table.invariant.drafted c.in_ok-copy.ensures
    ∙ table_is_new c.args.self.tables (staying gone so_far) (staying gone rest) (table, []) (subst (λ (new : List TableRows). AreNamedApart (with_more c.args.self.tables new)) parts c.requires)
