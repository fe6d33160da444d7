use Rattle.std.proofs.Common.{not, false, sym, ap, ◌∙◌}
use Rattle.bf_sql.specs.Bound.{bound_of, without_rows}
use Rattle.bf_recover.proofs.Creating.{found_in, index_told_by, not_found_in, unspoken_index}
use Rattle.bf_recover.proofs.schema.is_legal_index.Goals as goal

pub returns-in_default : goal.returns-in_default
returns-in_default c = sym (not_found_in c.args.catalog.now c.args.index.now c.in_default.ensures)

pub returns-then-not-is_spoken_index : goal.returns-then-not-is_spoken_index
returns-then-not-is_spoken_index c =
    let catalog = c.args.catalog.now in
    let i = c.args.index.now in
    let t = c.in-Some.table.now in
    sym (unspoken_index (without_rows catalog) i t (found_in catalog i.table t c.in-Some.ensures) (sym c.is_spoken_index.ensures ∙ c.if-not-is_spoken_index.true))

pub returns : goal.returns
returns c =
    let catalog = c.args.catalog.now in
    let i = c.args.index.now in
    let t = c.in-Some.table.now in
    ap not c.is_refused.ensures
    ∙ index_told_by (without_rows catalog) i t (found_in catalog i.table t c.in-Some.ensures) c.in_ok-bound.bound
    (sym c.is_spoken_index.ensures ∙ c.if-not-is_spoken_index.false)
    (ap (bound_of (without_rows catalog) false) (sym c.in_ok-statement.ensures) ∙ c.in_ok-bound.ensures)
