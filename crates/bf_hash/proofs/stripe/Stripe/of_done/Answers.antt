use Rattle.std.proofs.Common.{[], ◌∷◌, ◌++◌, List, take, sym, ap, subst, ◌∙◌}
use Rattle.std.proofs.lemmas.List.{take_all, take_more}
use Rattle.std.specs.BTreeMap as tree
use Rattle.bf_base.specs.Values.{key_cmp}
use Rattle.bf_hash.specs.Stripes.{Cells}
use Rattle.bf_hash.specs.Keeping.{AreTheirs}
use Rattle.bf_hash.proofs.Marks.{HasDone, all_are_done, consistent, done_theirs, has_done_more}
use Rattle.bf_hash.proofs.stripe.Stripe.of_done.Goals as goal

pub loop-key-preserved : goal.loop-key-preserved
loop-key-preserved c =
    let keys = c.args.done.now in
    let i = c.loop-key.key-index in
    record {
      ordered = c.insert.ensures.ordered;
      done = has_done_more c.loop-key.states c.insert.new.self _ _ (take i keys) _ c.in_ok-copy.ensures
          (take_more keys i c.key-item.result c.loop-key-test.true ∙ ap (λ (k : Cells). take i keys ++ k ∷ []) (sym c.key-item.is)) c.in_ok-insert.ensures.updates.0 c.loop-key.invariant.done;
    }

all_there : (c : goal.After-new) → HasDone c.loop-key.states c.args.done.now
all_there c = subst (λ (keys : List Cells). HasDone c.loop-key.states keys) (take_all c.loop-key.key-index c.args.done.now c.loop-key-test.false) c.loop-key.invariant.done

theirs_now : (c : goal.After-new) → AreTheirs (tree.get key_cmp c.loop-key.states) c.new.result
theirs_now c = done_theirs c.loop-key.states c.args.done.now c.new.result (all_there c) c.new.ensures

pub invariant_of-result : goal.invariant_of-result
invariant_of-result c = record { ordered = c.loop-key.invariant.ordered; theirs = theirs_now c }

pub returns-clause-all : goal.returns-clause-all
returns-clause-all c = all_are_done c.loop-key.states c.args.done.now (all_there c)

pub returns-clause-consistent : goal.returns-clause-consistent
returns-clause-consistent c = consistent c.loop-key.states _ (theirs_now c)
