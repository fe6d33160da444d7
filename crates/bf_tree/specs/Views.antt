-- The trees that the code's nodes are seen as.
use Rattle.std.specs.Prelude.{ℕ}
use Rattle.bf_tree.specs.Trees as trees
use Rattle.bf_tree.specs.Trees.{Expr as Tree, Cond as CondTree}
use Rattle.bf_tree.specs.declared.raw.Ref.{Ref}
use Rattle.bf_tree.specs.declared.tree.Node.{Node}
use Rattle.bf_tree.specs.declared.tree.Node.TheVariants as node
use Rattle.bf_tree.specs.declared.tree.Test.{Test}
use Rattle.bf_tree.specs.declared.tree.Test.TheVariants as test
use Rattle.bf_tree.specs.declared.raw.RawNode.{RawNode}
use Rattle.bf_tree.specs.declared.raw.RawNode.TheVariants as raw
use Rattle.bf_tree.specs.declared.raw.Operand.{Operand}
use Rattle.bf_tree.specs.declared.raw.Operand.TheVariants as operand
use Rattle.bf_tree.specs.declared.raw.RawTest.{RawTest}
use Rattle.bf_tree.specs.declared.raw.RawTest.TheVariants as rawtest

abbrev pub bound_tree : Node → Tree ℕ
bound_tree (node.Value v) = trees.literal v
bound_tree (node.Column i) = trees.column i
bound_tree (node.Neg a) = trees.negated a.value
bound_tree (node.Add a b) = trees.plus a.value b.value
bound_tree (node.Sub a b) = trees.minus a.value b.value
bound_tree (node.Mul a b) = trees.times a.value b.value
bound_tree (node.Concat a b) = trees.joined a.value b.value

abbrev pub bound_cond : Test → CondTree ℕ
bound_cond test.Always = trees.always
bound_cond (test.Compare op a b) = trees.compared op a b
bound_cond (test.Between a b c) = trees.between a b c
bound_cond (test.Not c) = trees.opposite c.value
bound_cond (test.And c d) = trees.both c.value d.value
bound_cond (test.Or c d) = trees.either c.value d.value

abbrev pub raw_tree : RawNode → Tree Ref
raw_tree (raw.Value v) = trees.literal v
raw_tree (raw.Column i) = trees.column i
raw_tree (raw.Neg a) = trees.negated a.value
raw_tree (raw.Add a b) = trees.plus a.value b.value
raw_tree (raw.Sub a b) = trees.minus a.value b.value
raw_tree (raw.Mul a b) = trees.times a.value b.value
raw_tree (raw.Concat a b) = trees.joined a.value b.value

-- an operand is a literal or a column
abbrev pub operand_tree : Operand → Tree Ref
operand_tree (operand.Value v) = trees.literal v
operand_tree (operand.Column r) = trees.column r

abbrev pub raw_cond : RawTest → CondTree Ref
raw_cond (rawtest.Compare op a b) = trees.compared op (operand_tree a) (operand_tree b)
raw_cond (rawtest.Between a b c) = trees.between (operand_tree a) (operand_tree b) (operand_tree c)
raw_cond (rawtest.Not c) = trees.opposite c.value
raw_cond (rawtest.And c d) = trees.both c.value d.value
raw_cond (rawtest.Or c d) = trees.either c.value d.value
