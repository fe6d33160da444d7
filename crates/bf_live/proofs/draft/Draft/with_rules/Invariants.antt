use Rattle.std.proofs.Common.{◌≡◌, ◌++◌, map}
use Rattle.std.specs.Map.Iter.{deref}
use Rattle.bf_base.specs.Lists.{in_order, name_cmp}
use Rattle.bf_live.specs.Drafts.{staying_rules}
use Rattle.bf_live.proofs.Drafts.{name_of_rule}
use Rattle.bf_live.proofs.draft.Draft.with_rules.Given as goal

-- the draft has those of the index rules so far that stay
abbrev pub invariant-loop-rule : goal.invariant-loop-rule
invariant-loop-rule l = record {
  can : (goal.iterator-loop-rule).can_next l.rule-iterator;
  ends : (goal.iterator-loop-rule).is_finite l.rule-iterator;
  left : map deref l.yielded ++ l.rule-iterator ≡ l.old.indexes;
  drafted : l.draft ≡ record l.initial.draft { indexes = in_order name_cmp name_of_rule (staying_rules l.gone (map deref l.yielded)) };
}
