use Rattle.std.proofs.Common.{◌≡◌, ℕ, List, IsTrue, ap, subst}
use Rattle.bf_base.specs.Tables.{cells}
use Rattle.bf_index.specs.Pairs.{PairSet}
use Rattle.bf_index.proofs.Following.{all_from_cells, cells_from_all}
use Rattle.bf_index.proofs.index.Index.is_same_value.Goals as goal

pub returns : goal.returns
returns c =
    let row = c.args.row.now in
    let other = c.args.other.now in
    let same = rw (c.as_slice.ensures, c.as_slice-2.ensures, c.deref.ensures.value) at c.is_same_at.ensures in
    subst (λ (columns : List ℕ). (IsTrue c.is_same_at.result → cells columns row ≡ cells columns other) × (cells columns row ≡ cells columns other → IsTrue c.is_same_at.result))
    (ap (λ (i : PairSet). i.columns) c.self.view_is)
    (λ is. cells_from_all c.self.inside.columns.items row other (same.0 is), λ e. same.1 (all_from_cells c.self.inside.columns.items row other e))
