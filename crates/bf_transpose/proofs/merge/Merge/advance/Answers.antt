use Rattle.std.proofs.Common.{◌<◌, length, sym, arith}
use Rattle.std.proofs.lemmas.Option.{slice_get_within}
use Rattle.bf_index.specs.ByValues.{Valued}
use Rattle.bf_transpose.proofs.Merging.{alike, left_less, nothing, only_left, only_right, right_less}
use Rattle.bf_transpose.proofs.merge.Merge.advance.Goals as goal

-- nothing is ahead, or one of the indexes alone has a value
pub returns-in-None-None-clause-values : goal.returns-in-None-None-clause-values
returns-in-None-None-clause-values c =
    let s = c.args.self.now in
    nothing s.left.now s.right.now s.left_place s.right_place c.len.ensures.in_order c.len-2.ensures.in_order c.in-None-None.ensures c.in-None-None.ensures'

pub returns-in-None-Some-clause-values : goal.returns-in-None-Some-clause-values
returns-in-None-Some-clause-values c =
    let s = c.args.self.now in
    let f : Valued = (c.in-None-Some.value.now, c.in-None-Some.field-0-1-1.now) in
    only_right s.left.now s.right.now s.left_place s.right_place c.len.ensures.in_order c.len-2.ensures.in_order f c.in-None-Some.ensures' c.in-None-Some.ensures

pub returns-in-None-Some-clause-nearer : goal.returns-in-None-Some-clause-nearer
returns-in-None-Some-clause-nearer c =
    let s = c.args.self.now in
    let f : Valued = (c.in-None-Some.value.now, c.in-None-Some.field-0-1-1.now) in
    let there : s.right_place < length s.right.now = slice_get_within s.right.now s.right_place f (sym c.in-None-Some.ensures') in
    omega (arith, there)

pub returns-in-Some-None-clause-values : goal.returns-in-Some-None-clause-values
returns-in-Some-None-clause-values c =
    let s = c.args.self.now in
    let e : Valued = (c.in-Some-None.value.now, c.in-Some-None.field-0-1-0.now) in
    only_left s.left.now s.right.now s.left_place s.right_place c.len.ensures.in_order c.len-2.ensures.in_order e c.in-Some-None.ensures c.in-Some-None.ensures'

pub returns-in-Some-None-clause-nearer : goal.returns-in-Some-None-clause-nearer
returns-in-Some-None-clause-nearer c =
    let s = c.args.self.now in
    let e : Valued = (c.in-Some-None.value.now, c.in-Some-None.field-0-1-0.now) in
    let here : s.left_place < length s.left.now = slice_get_within s.left.now s.left_place e (sym c.in-Some-None.ensures) in
    omega (arith, here)

-- both have one: the lesser comes first, or they are equal
pub returns-in-Less-clause-values : goal.returns-in-Less-clause-values
returns-in-Less-clause-values c =
    let s = c.args.self.now in
    let e : Valued = (c.in-Some-Some.value.now, c.in-Some-Some.field-0-1-0.now) in
    let f : Valued = (c.in-Some-Some.other.now, c.in-Some-Some.field-0-1-1.now) in
    left_less s.left.now s.right.now s.left_place s.right_place c.len.ensures.in_order c.len-2.ensures.in_order e f c.in-Some-Some.ensures c.in-Some-Some.ensures' (sym c.in-Less.ensures.order)

pub returns-in-Less-clause-nearer : goal.returns-in-Less-clause-nearer
returns-in-Less-clause-nearer c =
    let s = c.args.self.now in
    let e : Valued = (c.in-Some-Some.value.now, c.in-Some-Some.field-0-1-0.now) in
    let here : s.left_place < length s.left.now = slice_get_within s.left.now s.left_place e (sym c.in-Some-Some.ensures) in
    omega (arith, here)

pub returns-in-Equal-clause-values : goal.returns-in-Equal-clause-values
returns-in-Equal-clause-values c =
    let s = c.args.self.now in
    let e : Valued = (c.in-Some-Some.value.now, c.in-Some-Some.field-0-1-0.now) in
    let f : Valued = (c.in-Some-Some.other.now, c.in-Some-Some.field-0-1-1.now) in
    alike s.left.now s.right.now s.left_place s.right_place c.len.ensures.in_order c.len-2.ensures.in_order e f c.in-Some-Some.ensures c.in-Some-Some.ensures' (sym c.in-Equal.ensures.order)

pub returns-in-Equal-clause-nearer : goal.returns-in-Equal-clause-nearer
returns-in-Equal-clause-nearer c =
    let s = c.args.self.now in
    let e : Valued = (c.in-Some-Some.value.now, c.in-Some-Some.field-0-1-0.now) in
    let here : s.left_place < length s.left.now = slice_get_within s.left.now s.left_place e (sym c.in-Some-Some.ensures) in
    let f : Valued = (c.in-Some-Some.other.now, c.in-Some-Some.field-0-1-1.now) in
    let there : s.right_place < length s.right.now = slice_get_within s.right.now s.right_place f (sym c.in-Some-Some.ensures') in
    omega (arith, here, there)

pub returns-in-Greater-clause-values : goal.returns-in-Greater-clause-values
returns-in-Greater-clause-values c =
    let s = c.args.self.now in
    let e : Valued = (c.in-Some-Some.value.now, c.in-Some-Some.field-0-1-0.now) in
    let f : Valued = (c.in-Some-Some.other.now, c.in-Some-Some.field-0-1-1.now) in
    right_less s.left.now s.right.now s.left_place s.right_place c.len.ensures.in_order c.len-2.ensures.in_order e f c.in-Some-Some.ensures c.in-Some-Some.ensures' (sym c.in-Greater.ensures.order)

pub returns-in-Greater-clause-nearer : goal.returns-in-Greater-clause-nearer
returns-in-Greater-clause-nearer c =
    let s = c.args.self.now in
    let f : Valued = (c.in-Some-Some.other.now, c.in-Some-Some.field-0-1-1.now) in
    let there : s.right_place < length s.right.now = slice_get_within s.right.now s.right_place f (sym c.in-Some-Some.ensures') in
    omega (arith, there)
