use Rattle.std.proofs.Common.{◌≡◌, ℕ, ◌+◌, ◌<◌, ◌≤◌, Bool, true, false, cond, List, length, take, get_or, Option, Some, None, IfNone, IfSome, Bor, refl, sym, subst, arith}
use Rattle.std.specs.List.{All, Contains}
use Rattle.std.proofs.lemmas.List.{take_all, take_more}
use Rattle.std.proofs.lemmas.List.Elements.{All-push, All-weaker}
use Rattle.bf_base.specs.declared.table.Table.{Table}
use Rattle.bf_index.specs.declared.index.Index.{Index}
use Rattle.bf_index.specs.Pairs.{PairSet}
use Rattle.bf_tree.specs.Trees.{Cond}
use Rattle.bf_access.specs.ByIndex.{IsIndexFor, NoneServes, all_fixed, columns_for, fixed_front}
use Rattle.bf_access.proofs.by_index.index_for.Goals as goal
use Rattle.bf_access.proofs.by_index.index_for.Goals.{then-columns-most, else-columns-most}

module _ (indexes : List PairSet) (table : Table) (c : Cond ℕ) where
  abbrev HaveAtMost : ℕ → List PairSet → Type 0
  HaveAtMost most = All (λ index. columns_for c index ≤ most)

  -- one more index, with no more columns than the most from then on
  most_next : (i : ℕ) (x : PairSet) (before most : ℕ) → i < length indexes → x ≡ get_or indexes i x → HaveAtMost before (take i indexes) → before ≤ most → columns_for c x ≤ most → HaveAtMost most (take (i + 1) indexes)
  most_next i x before most lt is sofar more here =
      let one = take_more indexes i x lt in
      let all = All-push (λ index. columns_for c index ≤ most) (take i indexes) (get_or indexes i x)
      (All-weaker (λ index. columns_for c index ≤ before) (λ index. columns_for c index ≤ most) (λ y less. omega arith) (take i indexes) sofar)
      (subst (λ (index : PairSet). columns_for c index ≤ most) is here) in
      rw one all

  serving : (b : Bool) (n most front : ℕ) → cond b n 0 ≡ most → front < most → (b ≡ true) × (n ≡ most)
  serving true n most front e less = (refl, e)
  serving false n most front e less = absurd (omega arith)

  one_found : (best : Option (Bor Index)) (most : ℕ) → HaveAtMost most indexes → IfSome best (λ index. Contains indexes index.now × (columns_for c index.now ≡ most) × (fixed_front table c < most)) → IfSome best (λ index. IsIndexFor indexes table c index.now)
  one_found None most all found = tt
  one_found (Some index) most all found =
      let parts = serving (all_fixed c index.now.columns) (length index.now.columns) most (fixed_front table c) found.1 found.2 in
      record {
        given = found.0;
        serves = parts.0;
        more = omega (arith, parts.1, found.2);
        most = subst (λ m. HaveAtMost m indexes) (sym parts.1) all;
      }

  none_found : (best : Option (Bor Index)) (most : ℕ) → HaveAtMost most indexes → IfNone best (most ≡ fixed_front table c) → IfNone best (NoneServes indexes table c)
  none_found None most all none = subst (λ m. HaveAtMost m indexes) none all
  none_found (Some index) most all none = tt

pub loop-index-preserved : goal.loop-index-preserved
loop-index-preserved c =
    let next = most_next c.args.indexes.now c.args.table.now c.args.cond.now c.loop-index.index-index c.index-item.result c.loop-index.most in
    elim c.if-columns-most.branch [
      | then-columns-most w ↦ rw (w.best-is, w.most-is) (record {
        front = omega arith;
        most = next c.columns_for-columns.result c.loop-index-test.true c.index-item.is c.loop-index.invariant.most (omega arith) (omega arith);
        none = tt;
        found = ((c.loop-index.index-index, c.loop-index-test.true, sym c.index-item.is), sym c.columns_for-columns.ensures, omega arith);
      })
      | else-columns-most w ↦ rw (w.best-is, w.most-is) (record {
        front = c.loop-index.invariant.front;
        most = next c.loop-index.most c.loop-index-test.true c.index-item.is c.loop-index.invariant.most (omega arith) (omega arith);
        none = c.loop-index.invariant.none;
        found = c.loop-index.invariant.found;
      })
    ]

pub returns-clause-some : goal.returns-clause-some
returns-clause-some c =
    let all = take_all c.loop-index.index-index c.args.indexes.now c.loop-index-test.false in
    one_found c.args.indexes.now c.args.table.now c.args.cond.now c.loop-index.best c.loop-index.most (rw all at c.loop-index.invariant.most) c.loop-index.invariant.found

pub returns-clause-none : goal.returns-clause-none
returns-clause-none c =
    let all = take_all c.loop-index.index-index c.args.indexes.now c.loop-index-test.false in
    none_found c.args.indexes.now c.args.table.now c.args.cond.now c.loop-index.best c.loop-index.most (rw all at c.loop-index.invariant.most) c.loop-index.invariant.none
