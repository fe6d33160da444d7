use Rattle.std.proofs.Common.{◌≡◌, true, sym, ◌∙◌}
use Rattle.bf_heap.specs.KeyRanges.{is_before}
use Rattle.bf_txn.specs.Writes.{KeyWrite}
use Rattle.bf_txn.proofs.Ahead.{at_end, later_sorted, passed_before}
use Rattle.bf_txn.proofs.writes_ahead.next_within.Goals as goal

-- behind the range is the end
pub returns-then-is_behind-clause-sorted : goal.returns-then-is_behind-clause-sorted
returns-then-is_behind-clause-sorted c = later_sorted (c.in-Some.key.now, c.in-Some.row.now) c.loop-key.later c.next.new.self c.loop-key.invariant.sorted c.in-Some.ensures.steps

pub returns-then-is_behind-clause-none : goal.returns-then-is_behind-clause-none
returns-then-is_behind-clause-none c =
    at_end c.args.range.now (c.in-Some.key.now, c.in-Some.row.now) c.loop-key.later c.next.new.self c.loop-key.invariant.sorted c.in-Some.ensures.steps (sym c.is_behind.ensures ∙ c.if-is_behind.true)

pub returns-then-not-is_before-clause-sorted : goal.returns-then-not-is_before-clause-sorted
returns-then-not-is_before-clause-sorted c = later_sorted (c.in-Some.key.now, c.in-Some.row.now) c.loop-key.later c.next.new.self c.loop-key.invariant.sorted c.in-Some.ensures.steps

-- a key before the range is passed over
pub loop-key-preserved : goal.loop-key-preserved
loop-key-preserved c =
    let write : KeyWrite = (c.in-Some.key.now, c.in-Some.row.now) in
    let before : is_before c.args.range.now.low c.in-Some.key.now ≡ true = sym c.is_before.ensures ∙ c.if-not-is_before.false in
    record {
      within = sym (passed_before c.args.range.now write c.loop-key.later c.next.new.self c.in-Some.ensures.steps before) ∙ c.loop-key.invariant.within;
      sorted = later_sorted write c.loop-key.later c.next.new.self c.loop-key.invariant.sorted c.in-Some.ensures.steps;
    }
