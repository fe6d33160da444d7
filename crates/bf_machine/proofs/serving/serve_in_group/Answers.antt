-- The locks are held, what is needed has moved, and the statement has its reply.
use Rattle.std.proofs.Common.{◌∙◌, List, sym, ap, subst, inr}
use Rattle.std.specs.Prelude.{Result, Ok, Err, IfOk}
use Rattle.bf_base.specs.declared.memory.Memory.{Memory}
use Rattle.bf_sql.specs.Footprints.{Lock, footprint_of}
use Rattle.bf_tree.specs.declared.script.Script.{Script}
use Rattle.bf_machine.specs.declared.journal.KeepError.{KeepError}
use Rattle.bf_machine.specs.declared.stand.Turn.{Turn}
use Rattle.bf_machine.specs.interleaving.Calls.{IsPlace}
use Rattle.bf_machine.specs.interleaving.Events.{at_once, ends_by_log, one_more}
use Rattle.bf_machine.specs.interleaving.Journals.{KeepsOrIsRefused, nothing_yet}
use Rattle.bf_machine.specs.interleaving.Machines.{Machine}
use Rattle.bf_machine.specs.interleaving.Serving.{HasLocked}
use Rattle.bf_machine.proofs.interleaving.Reaching.{reached_keeps_all}
use Rattle.bf_machine.proofs.served.Binding.{has_keys}
use Rattle.bf_machine.proofs.served.Ending.{reached_script}
use Rattle.bf_machine.proofs.served.Goes.{reaches_both}
use Rattle.bf_machine.proofs.served.Keeping.{keeps_both, keeps_end, keeps_leaves, reach_still}
use Rattle.bf_machine.proofs.served.Needs.{reply_reached}
use Rattle.bf_machine.proofs.served.Replying.{can_fail, can_reply, fails, has_stepped, is_present, turn_to}
use Rattle.bf_machine.proofs.serving.serve_in_group.Goals as goal

in_ok : {P Q : Turn → Type 0} (r : Result Turn Memory) → ((t : Turn) → P t → Q t) → IfOk r P → IfOk r Q
in_ok (Ok t) weaker so = weaker t so
in_ok (Err memory) weaker so = so

pub footprint-requires : goal.footprint-requires
footprint-requires g c = has_keys c.args.bound.now.action c.requires.well_bound

pub returns-in_err-locks-clause-reaches : goal.returns-in_err-locks-clause-reaches
returns-in_err-locks-clause-reaches g c = at_once

pub reply_to-requires-clause-kept : goal.reply_to-requires-clause-kept
reply_to-requires-clause-kept g c = reached_keeps_all g.N.Opened.opening c.args.machine.now c.lock_all.new.machine c.requires.kept c.in_ok-turn.ensures.reaches

pub reply_to-requires-clause-can : goal.reply_to-requires-clause-can
reply_to-requires-clause-can g c =
    let m : Machine = c.args.machine.now in
    let s = c.args.session in
    let next = c.requires.next in
    let locked : HasLocked m s (footprint_of c.args.bound.now) c.lock_all.new.machine =
    subst (λ (fs : List Lock). HasLocked m s fs c.lock_all.new.machine) (c.as_slice.ensures.value ∙ c.in_ok-locks.ensures) (c.in_ok-turn.ensures.locked (ap Ok c.in-Served.is)) in
    can_reply m c.requires.kept s next.0 c.args.bound.now next.1 c.lock_all.new.machine locked

pub reply_to-requires-clause-present : goal.reply_to-requires-clause-present
reply_to-requires-clause-present g c =
    let m : Machine = c.args.machine.now in
    let s = c.args.session in
    let next = c.requires.next in
    let locked : HasLocked m s (footprint_of c.args.bound.now) c.lock_all.new.machine =
    subst (λ (fs : List Lock). HasLocked m s fs c.lock_all.new.machine) (c.as_slice.ensures.value ∙ c.in_ok-locks.ensures) (c.in_ok-turn.ensures.locked (ap Ok c.in-Served.is)) in
    is_present m c.requires.kept s next.0 c.args.bound.now next.1 c.lock_all.new.machine locked

pub returns-in_err-locks-clause-keeps : goal.returns-in_err-locks-clause-keeps
returns-in_err-locks-clause-keeps g c = nothing_yet

pub returns-in_err-turn-clause-keeps : goal.returns-in_err-turn-clause-keeps
returns-in_err-turn-clause-keeps g c = keeps_leaves g.J.Journal.Answers g.N.Opened.opening c.args.machine.now c.lock_all.new.machine c.args.journal.now c.in_err-turn.ensures.leaves

pub returns-in_default-clause-keeps : goal.returns-in_default-clause-keeps
returns-in_default-clause-keeps g c = keeps_leaves g.J.Journal.Answers g.N.Opened.opening c.args.machine.now c.lock_all.new.machine c.args.journal.now c.in_ok-turn.ensures.leaves

-- the script stays
pub fail-requires-clause-place : goal.fail-requires-clause-place
fail-requires-clause-place g c =
    let m : Machine = c.args.machine.now in
    let now : Machine = c.lock_all.new.machine in
    let then : Machine = c.reply_to.new.machine in
    let reached = reaches_both g.N.Opened.opening m now then c.in_ok-turn.ensures.reaches (reach_still g.J.Journal.Answers g.N.Opened.opening g.J.Journal.ends now c.args.journal.now then c.reply_to.new.journal c.reply_to.result c.reply_to.ensures.keeps) in
    subst (λ (script : Script). IsPlace script c.args.session) (sym (reached_script g.N.Opened.opening m then reached)) c.requires.place

pub end_if_answered-requires-clause-place : goal.end_if_answered-requires-clause-place
end_if_answered-requires-clause-place g c =
    let m : Machine = c.args.machine.now in
    let now : Machine = c.lock_all.new.machine in
    let then : Machine = c.reply_to.new.machine in
    let reached = reaches_both g.N.Opened.opening m now then c.in_ok-turn.ensures.reaches (reach_still g.J.Journal.Answers g.N.Opened.opening g.J.Journal.ends now c.args.journal.now then c.reply_to.new.journal c.reply_to.result c.reply_to.ensures.keeps) in
    subst (λ (script : Script). IsPlace script c.args.session) (sym (reached_script g.N.Opened.opening m then reached)) c.requires.place

-- behind a need that was not kept
pub fail-requires-clause-open : goal.fail-requires-clause-open
fail-requires-clause-open g c =
    let m : Machine = c.args.machine.now in
    let s = c.args.session in
    let next = c.requires.next in
    let locked : HasLocked m s (footprint_of c.args.bound.now) c.lock_all.new.machine =
    subst (λ (fs : List Lock). HasLocked m s fs c.lock_all.new.machine) (c.as_slice.ensures.value ∙ c.in_ok-locks.ensures) (c.in_ok-turn.ensures.locked (ap Ok c.in-Served.is)) in
    can_fail m c.requires.kept s next.0 c.args.bound.now next.1 c.lock_all.new.machine locked c.reply_to.new.machine c.in-Err-Ended.ensures.err

pub returns-in-Err-Ended-clause-keeps : goal.returns-in-Err-Ended-clause-keeps
returns-in-Err-Ended-clause-keeps g c =
    let m : Machine = c.args.machine.now in
    let now : Machine = c.lock_all.new.machine in
    let then : Machine = c.reply_to.new.machine in
    let refused =
    subst (λ (error : KeepError). KeepsOrIsRefused g.J.Journal.Answers g.J.Journal.ends g.N.Opened.opening now c.args.journal.now then c.reply_to.new.journal (Err error)) c.in-Err-Ended.field-0-is
    c.in-Err-Ended.ensures.keeps in
    let last = refused.2 in
    keeps_end g.J.Journal.Answers g.N.Opened.opening m c.args.journal.now then last.0 c.reply_to.new.journal c.args.session c.fail.new.self c.in-Err-Ended.cause
    (keeps_both g.J.Journal.Answers g.N.Opened.opening m c.args.journal.now now c.args.journal.now then last.0
    (keeps_leaves g.J.Journal.Answers g.N.Opened.opening m now c.args.journal.now c.in_ok-turn.ensures.leaves) last.1)
    c.fail.ensures.0 c.fail.ensures.1 (last.2.0, inr last.2.1, last.2.2)

pub returns-in-Err-Ended-clause-reaches : goal.returns-in-Err-Ended-clause-reaches
returns-in-Err-Ended-clause-reaches g c =
    one_more (reaches_both g.N.Opened.opening c.args.machine.now c.lock_all.new.machine c.reply_to.new.machine c.in_ok-turn.ensures.reaches
    (reach_still g.J.Journal.Answers g.N.Opened.opening g.J.Journal.ends c.lock_all.new.machine c.args.journal.now c.reply_to.new.machine c.reply_to.new.journal c.reply_to.result c.reply_to.ensures.keeps))
    (ends_by_log c.args.session c.fail.ensures.0)

pub returns-in-Err-Ended-clause-turn : goal.returns-in-Err-Ended-clause-turn
returns-in-Err-Ended-clause-turn g c =
    let m : Machine = c.args.machine.now in
    let s = c.args.session in
    let next = c.requires.next in
    let locked : HasLocked m s (footprint_of c.args.bound.now) c.lock_all.new.machine =
    subst (λ (fs : List Lock). HasLocked m s fs c.lock_all.new.machine) (c.as_slice.ensures.value ∙ c.in_ok-locks.ensures) (c.in_ok-turn.ensures.locked (ap Ok c.in-Served.is)) in
    fails m c.requires.kept s next.0 c.args.bound.now next.1 c.lock_all.new.machine locked c.reply_to.new.machine c.in-Err-Ended.ensures.err c.in_ok-turn.ensures.reaches c.fail.new.self c.fail.ensures.0 c.in-Err-Ended.cause c.fail.ensures.1

pub returns-clause-reaches : goal.returns-clause-reaches
returns-clause-reaches g c =
    reaches_both g.N.Opened.opening c.args.machine.now c.lock_all.new.machine c.reply_to.new.machine c.in_ok-turn.ensures.reaches
    (reach_still g.J.Journal.Answers g.N.Opened.opening g.J.Journal.ends c.lock_all.new.machine c.args.journal.now c.reply_to.new.machine c.reply_to.new.journal c.reply_to.result c.reply_to.ensures.keeps)

pub returns-clause-keeps : goal.returns-clause-keeps
returns-clause-keeps g c =
    let m : Machine = c.args.machine.now in
    let now : Machine = c.lock_all.new.machine in
    let then : Machine = c.reply_to.new.machine in
    let replied =
    subst (λ (error : KeepError). KeepsOrIsRefused g.J.Journal.Answers g.J.Journal.ends g.N.Opened.opening now c.args.journal.now then c.reply_to.new.journal (Err error)) c.in-Err-Memory.field-0-is
    c.in-Err-Memory.ensures.keeps in
    keeps_both g.J.Journal.Answers g.N.Opened.opening m c.args.journal.now now c.args.journal.now then c.reply_to.new.journal
    (keeps_leaves g.J.Journal.Answers g.N.Opened.opening m now c.args.journal.now c.in_ok-turn.ensures.leaves) replied

-- behind the reply
pub end_if_answered-requires-clause-kept : goal.end_if_answered-requires-clause-kept
end_if_answered-requires-clause-kept g c =
    let m : Machine = c.args.machine.now in
    let s = c.args.session in
    let replied = c.in-Ok.ensures.replied in
    let reached = reply_reached g.N.Opened.opening c.lock_all.new.machine s c.args.bound.now replied.0 replied.1 c.reply_to.new.machine replied.2 in
    let then = reaches_both g.N.Opened.opening m c.lock_all.new.machine c.reply_to.new.machine c.in_ok-turn.ensures.reaches reached in
    reached_keeps_all g.N.Opened.opening m c.reply_to.new.machine c.requires.kept then

pub end_if_answered-requires-clause-has_reply : goal.end_if_answered-requires-clause-has_reply
end_if_answered-requires-clause-has_reply g c =
    let m : Machine = c.args.machine.now in
    let s = c.args.session in
    let next = c.requires.next in
    let locked : HasLocked m s (footprint_of c.args.bound.now) c.lock_all.new.machine =
    subst (λ (fs : List Lock). HasLocked m s fs c.lock_all.new.machine) (c.as_slice.ensures.value ∙ c.in_ok-locks.ensures) (c.in_ok-turn.ensures.locked (ap Ok c.in-Served.is)) in
    let replied = c.in-Ok.ensures.replied in
    let step = has_stepped m c.requires.kept s next.0 c.args.bound.now next.1 c.lock_all.new.machine locked c.in_ok-turn.ensures.reaches replied.0 replied.1 c.reply_to.new.machine replied.2 in
    step.has_reply

pub returns-in-Ok-clause-reaches : goal.returns-in-Ok-clause-reaches
returns-in-Ok-clause-reaches g c =
    let m : Machine = c.args.machine.now in
    let s = c.args.session in
    let replied = c.in-Ok.ensures.replied in
    let reached = reply_reached g.N.Opened.opening c.lock_all.new.machine s c.args.bound.now replied.0 replied.1 c.reply_to.new.machine replied.2 in
    let then = reaches_both g.N.Opened.opening m c.lock_all.new.machine c.reply_to.new.machine c.in_ok-turn.ensures.reaches reached in
    reaches_both g.N.Opened.opening m c.reply_to.new.machine c.end_if_answered.new.machine then c.end_if_answered.ensures.reaches

pub returns-in-Ok-clause-keeps : goal.returns-in-Ok-clause-keeps
returns-in-Ok-clause-keeps g c =
    let m : Machine = c.args.machine.now in
    let now : Machine = c.lock_all.new.machine in
    keeps_both g.J.Journal.Answers g.N.Opened.opening m c.args.journal.now c.reply_to.new.machine c.reply_to.new.journal c.end_if_answered.new.machine c.end_if_answered.new.journal
    (keeps_both g.J.Journal.Answers g.N.Opened.opening m c.args.journal.now now c.args.journal.now c.reply_to.new.machine c.reply_to.new.journal
    (keeps_leaves g.J.Journal.Answers g.N.Opened.opening m now c.args.journal.now c.in_ok-turn.ensures.leaves) c.in-Ok.ensures.keeps)
    c.end_if_answered.ensures.keeps

pub returns-in-Ok-clause-turn : goal.returns-in-Ok-clause-turn
returns-in-Ok-clause-turn g c =
    let m : Machine = c.args.machine.now in
    let s = c.args.session in
    let next = c.requires.next in
    let locked : HasLocked m s (footprint_of c.args.bound.now) c.lock_all.new.machine =
    subst (λ (fs : List Lock). HasLocked m s fs c.lock_all.new.machine) (c.as_slice.ensures.value ∙ c.in_ok-locks.ensures) (c.in_ok-turn.ensures.locked (ap Ok c.in-Served.is)) in
    let replied = c.in-Ok.ensures.replied in
    let reached = reply_reached g.N.Opened.opening c.lock_all.new.machine s c.args.bound.now replied.0 replied.1 c.reply_to.new.machine replied.2 in
    let then = reaches_both g.N.Opened.opening m c.lock_all.new.machine c.reply_to.new.machine c.in_ok-turn.ensures.reaches reached in
    let step = has_stepped m c.requires.kept s next.0 c.args.bound.now next.1 c.lock_all.new.machine locked c.in_ok-turn.ensures.reaches replied.0 replied.1 c.reply_to.new.machine replied.2 in
    in_ok c.end_if_answered.result
    (λ t ends. turn_to m c.requires.kept s next.0 c.args.bound.now next.1 c.reply_to.new.machine then step t c.end_if_answered.new.machine c.end_if_answered.ensures.reaches ends) c.end_if_answered.ensures.turn
