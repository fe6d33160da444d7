-- Each statement is run on what those before it have left.
use Rattle.std.proofs.Common.{◌≡◌, ℕ, ◌+◌, List, length, sym, ap, ◌∙◌, arith}
use Rattle.bf_tree.specs.declared.reply.Reply.{Reply}
use Rattle.bf_live.specs.Live.{committed}
use Rattle.bf_eager.proofs.Running.{run_all, run_from, run_more}
use Rattle.bf_eager.proofs.rows.replies_on_rows.Goals as goal

pub loop-place-init : goal.loop-place-init
loop-place-init c = record {
  opened = c.requires.opened;
  ran = ap (λ (rs : List Reply). run_from c.args.commit 0 rs (committed c.args.live.now c.args.writes.now) c.args.statements.now) (sym c.in_ok-replies.ensures.items);
}

pub reply_to-requires-clause-opened : goal.reply_to-requires-clause-opened
reply_to-requires-clause-opened c = c.loop-place.invariant.opened

pub loop-place-preserved : goal.loop-place-preserved
loop-place-preserved c =
    let s = c.index-statements-place.result in
    let next = committed c.args.live.now c.reply_to.new.writes in
    record {
      opened = c.in_ok-reply.ensures.opened;
      ran =
          c.loop-place.invariant.ran
          ∙ (run_more c.args.commit c.loop-place.place c.loop-place.replies.items (committed c.args.live.now c.loop-place.writes) next c.args.statements.now s s c.in_ok-reply.reply
          c.loop-place-test.true c.index-statements-place.is c.in_ok-reply.ensures.meant
          ∙ ap (λ (rs : List Reply). run_from c.args.commit (c.loop-place.place + 1) rs next c.args.statements.now) (sym c.in_ok-push.ensures.items));
    }

pub returns-clause-ran : goal.returns-clause-ran
returns-clause-ran c =
    let ss = c.args.statements.now in
    let db = committed c.args.live.now c.loop-place.writes in
    let all : c.loop-place.place ≡ length ss = omega (arith, c.loop-place.auto.place-end, c.loop-place-test.false) in
    c.loop-place.invariant.ran
    ∙ (ap (λ (n : ℕ). run_from c.args.commit n c.loop-place.replies.items db ss) all ∙ run_all c.args.commit c.loop-place.replies.items db ss)

pub returns-clause-opened : goal.returns-clause-opened
returns-clause-opened c = c.loop-place.invariant.opened
