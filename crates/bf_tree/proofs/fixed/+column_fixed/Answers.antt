use Rattle.std.proofs.Common.{◌≡◌, ℕ, None, Some, ap, sym, ◌∙◌}
use Rattle.bf_tree.specs.Trees.{Cond, both}
use Rattle.bf_tree.specs.Fixed.{column_fixed}
use Rattle.bf_tree.proofs.Fixing.{fixed_left, fixed_right}
use Rattle.bf_tree.proofs.fixed.+column_fixed.Goals as goal

pub returns-in-Some : goal.returns-in-Some
returns-in-Some t c =
    let is : c.args.cond.now ≡ both c.in-And.left.value c.in-And.right.value = cc in
    let left : column_fixed c.args.place c.in-And.left.value ≡ Some c.in-Some.value.now = rw c.deref.ensures at (sym c.in-Some.ensures) in
    sym (ap (λ (x : Cond ℕ). column_fixed c.args.place x) is ∙ fixed_left c.in-And.left.value c.in-And.right.value c.args.place c.in-Some.value.now left)

pub returns-in-None : goal.returns-in-None
returns-in-None t c =
    let is : c.args.cond.now ≡ both c.in-And.left.value c.in-And.right.value = cc in
    let left : column_fixed c.args.place c.in-And.left.value ≡ None = rw c.deref.ensures at (sym c.in-None.ensures) in
    let right = rw c.deref-in-None.ensures at c.column_fixed-in-None.ensures in
    right ∙ sym (ap (λ (x : Cond ℕ). column_fixed c.args.place x) is ∙ fixed_right c.in-And.left.value c.in-And.right.value c.args.place left)
