-- A group that is to begin has begun; then the session's next call is made.
use Rattle.std.proofs.Common.{refl, ap, inl}
use Rattle.std.specs.Prelude.{Result, Ok, Err, IfOk}
use Rattle.bf_base.specs.declared.memory.Memory.{Memory}
use Rattle.bf_machine.specs.declared.stand.Turn.{Turn}
use Rattle.bf_machine.specs.declared.stand.Turn.TheVariants as turn
use Rattle.bf_machine.specs.interleaving.Events.{aborts, one_more}
use Rattle.bf_machine.specs.interleaving.Kept.{IsKept}
use Rattle.bf_machine.specs.interleaving.Journals.{one_beside}
use Rattle.bf_machine.specs.interleaving.Machines.{Machine}
use Rattle.bf_machine.proofs.interleaving.Reaching.{reached_keeps_all}
use Rattle.bf_machine.proofs.served.EndsIf.{commit_turn}
use Rattle.bf_machine.proofs.served.Goes.{abort_goes_on, reaches_both}
use Rattle.bf_machine.proofs.served.Keeping.{keeps_both, keeps_leaves, keeps_reach}
use Rattle.bf_machine.proofs.served.Turning.{turn_from}
use Rattle.bf_machine.proofs.serving.take_turn.Goals as goal

in_ok : {P Q : Turn → Type 0} (r : Result Turn Memory) → ((t : Turn) → P t → Q t) → IfOk r P → IfOk r Q
in_ok (Ok t) weaker so = weaker t so
in_ok (Err memory) weaker so = so

pub returns-in_err-place-clause-keeps : goal.returns-in_err-place-clause-keeps
returns-in_err-place-clause-keeps g c = keeps_leaves g.J.Journal.Answers g.N.Opened.opening c.args.machine.now c.begin_if_due.new.machine c.args.journal.now c.in_err-place.ensures.leaves

pub serve-requires-clause-kept : goal.serve-requires-clause-kept
serve-requires-clause-kept g c = reached_keeps_all g.N.Opened.opening c.args.machine.now c.begin_if_due.new.machine c.requires.kept c.in_ok-place.ensures.reaches

pub returns-in-Statement-clause-reaches : goal.returns-in-Statement-clause-reaches
returns-in-Statement-clause-reaches g c =
    reaches_both g.N.Opened.opening c.args.machine.now c.begin_if_due.new.machine c.serve.new.machine c.in_ok-place.ensures.reaches c.serve.ensures.reaches

pub returns-in-Statement-clause-keeps : goal.returns-in-Statement-clause-keeps
returns-in-Statement-clause-keeps g c =
    let m : Machine = c.args.machine.now in
    let now : Machine = c.begin_if_due.new.machine in
    keeps_both g.J.Journal.Answers g.N.Opened.opening m c.args.journal.now now c.args.journal.now c.serve.new.machine c.serve.new.journal
    (keeps_leaves g.J.Journal.Answers g.N.Opened.opening m now c.args.journal.now c.in_ok-place.ensures.leaves) c.serve.ensures.keeps

pub returns-in-Statement-clause-turn : goal.returns-in-Statement-clause-turn
returns-in-Statement-clause-turn g c =
    let m : Machine = c.args.machine.now in
    let now : Machine = c.begin_if_due.new.machine in
    let kept_now : IsKept g.N.Opened.opening now = reached_keeps_all g.N.Opened.opening m now c.requires.kept c.in_ok-place.ensures.reaches in
    in_ok c.serve.result (λ t taken. turn_from m c.args.session c.requires.place c.requires.kept now kept_now c.in_ok-place.ensures.begins t c.serve.new.machine taken) c.serve.ensures.turn

pub returns-in-Commit-clause-reaches : goal.returns-in-Commit-clause-reaches
returns-in-Commit-clause-reaches g c =
    let now : Machine = c.begin_if_due.new.machine in
    reaches_both g.N.Opened.opening c.args.machine.now now c.commit.new.machine c.in_ok-place.ensures.reaches
    (keeps_reach g.J.Journal.Answers g.N.Opened.opening now c.args.journal.now c.commit.new.machine c.commit.new.journal c.commit.ensures.keeps)

pub returns-in-Commit-clause-keeps : goal.returns-in-Commit-clause-keeps
returns-in-Commit-clause-keeps g c =
    let m : Machine = c.args.machine.now in
    let now : Machine = c.begin_if_due.new.machine in
    keeps_both g.J.Journal.Answers g.N.Opened.opening m c.args.journal.now now c.args.journal.now c.commit.new.machine c.commit.new.journal
    (keeps_leaves g.J.Journal.Answers g.N.Opened.opening m now c.args.journal.now c.in_ok-place.ensures.leaves) c.commit.ensures.keeps

pub returns-in-Commit-clause-turn : goal.returns-in-Commit-clause-turn
returns-in-Commit-clause-turn g c =
    let m : Machine = c.args.machine.now in
    let now : Machine = c.begin_if_due.new.machine in
    let kept_now : IsKept g.N.Opened.opening now = reached_keeps_all g.N.Opened.opening m now c.requires.kept c.in_ok-place.ensures.reaches in
    in_ok c.commit.result
    (λ t by. turn_from m c.args.session c.requires.place c.requires.kept now kept_now c.in_ok-place.ensures.begins t c.commit.new.machine (commit_turn now kept_now c.args.session t c.commit.new.machine by))
    c.commit.ensures.turn

pub returns-in-Abort-clause-reaches : goal.returns-in-Abort-clause-reaches
returns-in-Abort-clause-reaches g c = one_more c.in_ok-place.ensures.reaches (aborts c.args.session c.abort.ensures)

pub returns-in-Abort-clause-keeps : goal.returns-in-Abort-clause-keeps
returns-in-Abort-clause-keeps g c =
    let m : Machine = c.args.machine.now in
    let now : Machine = c.begin_if_due.new.machine in
    one_beside (keeps_leaves g.J.Journal.Answers g.N.Opened.opening m now c.args.journal.now c.in_ok-place.ensures.leaves) (aborts c.args.session c.abort.ensures)
    (inl (ap (λ (k : Machine). k.lazy) c.abort.ensures.goes, refl))

pub returns-in-Abort-clause-turn : goal.returns-in-Abort-clause-turn
returns-in-Abort-clause-turn g c =
    let m : Machine = c.args.machine.now in
    let now : Machine = c.begin_if_due.new.machine in
    let kept_now : IsKept g.N.Opened.opening now = reached_keeps_all g.N.Opened.opening m now c.requires.kept c.in_ok-place.ensures.reaches in
    turn_from m c.args.session c.requires.place c.requires.kept now kept_now c.in_ok-place.ensures.begins turn.Served c.abort.new.self
    (abort_goes_on now kept_now c.args.session c.abort.new.self c.abort.ensures)

pub returns-in_default-clause-keeps : goal.returns-in_default-clause-keeps
returns-in_default-clause-keeps g c = keeps_leaves g.J.Journal.Answers g.N.Opened.opening c.args.machine.now c.begin_if_due.new.machine c.args.journal.now c.in_ok-place.ensures.leaves
