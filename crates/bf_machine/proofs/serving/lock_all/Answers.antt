-- Each lock that is granted is held; at a wait or a death the turn ends.
use Rattle.std.proofs.Common.{◌≡◌, ◌+◌, arith, ◌++◌, List, [], ◌∷◌, take, refl, sym, ap, subst, ◌∙◌}
use Rattle.std.specs.Prelude.{Contains}
use Rattle.std.proofs.lemmas.List.{take_all, take_more}
use Rattle.bf_locks.specs.declared.answer.LockAnswer.{LockAnswer}
use Rattle.bf_locks.specs.declared.answer.LockAnswer.TheVariants.{Die, Granted, Wait}
use Rattle.bf_sql.specs.Footprints.{Lock}
use Rattle.bf_machine.specs.interleaving.Calls.{CanAsk}
use Rattle.bf_machine.specs.interleaving.Events.{Asks, asks, at_once, one_more}
use Rattle.bf_machine.specs.interleaving.Machines.{Machine}
use Rattle.bf_machine.specs.interleaving.Serving.{HasLocked, LeavesStore}
use Rattle.bf_machine.proofs.served.Keeping.{leaves_asking, leaves_not}
use Rattle.bf_machine.proofs.served.Locking.{can_ask, dies_as, has_asked, one_locked}
use Rattle.bf_machine.proofs.serving.lock_all.Goals as goal

pub loop-name-init : goal.loop-name-init
loop-name-init g c =
    let next = c.requires.next in
    record { reaches = at_once; leaves = leaves_not g.N.Opened.opening c.args.machine.now c.args.machine.now refl; same = refl; locked = (next.0, next.1.is, c.args.machine.now.locks, refl, λ k d within. absurd (omega (arith, within))) }

pub lock-requires-clause-can : goal.lock-requires-clause-can
lock-requires-clause-can g c =
    let locked = c.loop-name.invariant.locked in
    let lock : Lock = c.loop-name-item.result in
    let among : Contains c.args.locks.now lock = (c.loop-name.name-index, c.loop-name-test.true, sym c.loop-name-item.is) in
    subst (λ (now : Machine). CanAsk now c.args.session g.N.Opened.opening lock.0 lock.1) (sym locked.3)
    (can_ask c.args.machine.now c.requires.kept c.args.session c.requires.next.0 c.args.locks.now c.requires.next.1 locked.2 lock.0 lock.1 among)

pub returns-in-Wait-clause-turn : goal.returns-in-Wait-clause-turn
returns-in-Wait-clause-turn g c = λ other.
    let lock : Lock = c.loop-name-item.result in
    let others = c.in-Wait.field-0 in
    let by : Asks c.loop-name.machine c.args.session g.N.Opened.opening lock.0 lock.1 (Wait others) c.lock.new.self =
    subst (λ (answer : LockAnswer). Asks c.loop-name.machine c.args.session g.N.Opened.opening lock.0 lock.1 answer c.lock.new.self) c.in-Wait.is c.in_ok-lock.ensures.asks in
    let asked = has_asked c.args.machine.now c.requires.kept c.args.session c.requires.next.0 c.args.locks.now c.requires.next.1 (take c.loop-name.name-index c.args.locks.now) lock.0 lock.1 (Wait others)
    c.loop-name.machine c.lock.new.self c.loop-name.invariant.locked c.loop-name.invariant.reaches (c.loop-name.name-index, c.loop-name-test.true, sym c.loop-name-item.is) by in
    (others, asked.0, by.goes ∙ sym asked.1)

pub returns-in-Die-clause-reaches : goal.returns-in-Die-clause-reaches
returns-in-Die-clause-reaches g c =
    let lock : Lock = c.loop-name-item.result in
    one_more c.loop-name.invariant.reaches (asks c.args.session lock.0 lock.1 c.in_ok-lock.field-0 c.in_ok-lock.ensures.asks)

pub returns-in-Die-clause-turn : goal.returns-in-Die-clause-turn
returns-in-Die-clause-turn g c = λ other.
    let lock : Lock = c.loop-name-item.result in
    let older = c.in-Die.field-0 in
    let by : Asks c.loop-name.machine c.args.session g.N.Opened.opening lock.0 lock.1 (Die older) c.lock.new.self =
    subst (λ (answer : LockAnswer). Asks c.loop-name.machine c.args.session g.N.Opened.opening lock.0 lock.1 answer c.lock.new.self) c.in-Die.is c.in_ok-lock.ensures.asks in
    let asked = has_asked c.args.machine.now c.requires.kept c.args.session c.requires.next.0 c.args.locks.now c.requires.next.1 (take c.loop-name.name-index c.args.locks.now) lock.0 lock.1 (Die older)
    c.loop-name.machine c.lock.new.self c.loop-name.invariant.locked c.loop-name.invariant.reaches (c.loop-name.name-index, c.loop-name-test.true, sym c.loop-name-item.is) by in
    (older, asked.0, dies_as c.args.machine.now c.requires.kept c.args.session c.requires.next.0 c.args.locks.now c.requires.next.1 (take c.loop-name.name-index c.args.locks.now) lock.0 lock.1 older c.loop-name.machine c.lock.new.self c.loop-name.invariant.locked by asked.0 asked.1 asked.2)

pub loop-name-preserved : goal.loop-name-preserved
loop-name-preserved g c =
    let lock : Lock = c.loop-name-item.result in
    let held = take c.loop-name.name-index c.args.locks.now in
    let by : Asks c.loop-name.machine c.args.session g.N.Opened.opening lock.0 lock.1 Granted c.lock.new.self =
    subst (λ (answer : LockAnswer). Asks c.loop-name.machine c.args.session g.N.Opened.opening lock.0 lock.1 answer c.lock.new.self) c.in-Granted.is c.in_ok-lock.ensures.asks in
    let more : take (c.loop-name.name-index + 1) c.args.locks.now ≡ held ++ lock ∷ [] =
    take_more c.args.locks.now c.loop-name.name-index lock c.loop-name-test.true ∙ ap (λ (x : Lock). held ++ x ∷ []) (sym c.loop-name-item.is) in
    record {
      reaches = one_more c.loop-name.invariant.reaches (asks c.args.session lock.0 lock.1 c.in_ok-lock.field-0 c.in_ok-lock.ensures.asks);
      leaves = leaves_asking g.N.Opened.opening c.args.machine.now c.loop-name.machine c.lock.new.self c.loop-name.invariant.leaves c.args.session lock.0 lock.1 c.in_ok-lock.field-0 c.in_ok-lock.ensures.asks;
      same = ap (λ (k : Machine). k.db) by.goes ∙ c.loop-name.invariant.same;
      locked = subst (λ (locks : List Lock). HasLocked c.args.machine.now c.args.session locks c.lock.new.self) (sym more)
          (one_locked c.args.machine.now c.requires.kept c.args.session c.requires.next.0 c.args.locks.now c.requires.next.1 held lock.0 lock.1 c.loop-name.machine c.lock.new.self c.loop-name.invariant.locked by);
    }

pub returns-clause-locked : goal.returns-clause-locked
returns-clause-locked g c = λ served.
    let all : take c.loop-name.name-index c.args.locks.now ≡ c.args.locks.now = take_all c.loop-name.name-index c.args.locks.now (omega (arith, c.loop-name-test.false)) in
    subst (λ (locks : List Lock). HasLocked c.args.machine.now c.args.session locks c.loop-name.machine) all c.loop-name.invariant.locked

pub returns-in-Wait-clause-leaves : goal.returns-in-Wait-clause-leaves
returns-in-Wait-clause-leaves g c =
    let lock : Lock = c.loop-name-item.result in
    leaves_asking g.N.Opened.opening c.args.machine.now c.loop-name.machine c.lock.new.self c.loop-name.invariant.leaves c.args.session lock.0 lock.1 c.in_ok-lock.field-0 c.in_ok-lock.ensures.asks

pub returns-in-Die-clause-leaves : goal.returns-in-Die-clause-leaves
returns-in-Die-clause-leaves g c =
    let lock : Lock = c.loop-name-item.result in
    leaves_asking g.N.Opened.opening c.args.machine.now c.loop-name.machine c.lock.new.self c.loop-name.invariant.leaves c.args.session lock.0 lock.1 c.in_ok-lock.field-0 c.in_ok-lock.ensures.asks

pub returns-in_err-lock-clause-leaves : goal.returns-in_err-lock-clause-leaves
returns-in_err-lock-clause-leaves g c =
    subst (LeavesStore g.N.Opened.opening c.args.machine.now) (sym c.in_err-lock.ensures.err) c.loop-name.invariant.leaves

pub returns-in-Wait-clause-same : goal.returns-in-Wait-clause-same
returns-in-Wait-clause-same g c =
    let lock : Lock = c.loop-name-item.result in
    let by : Asks c.loop-name.machine c.args.session g.N.Opened.opening lock.0 lock.1 (Wait c.in-Wait.field-0) c.lock.new.self =
    subst (λ (answer : LockAnswer). Asks c.loop-name.machine c.args.session g.N.Opened.opening lock.0 lock.1 answer c.lock.new.self) c.in-Wait.is c.in_ok-lock.ensures.asks in
    ap (λ (k : Machine). k.db) by.goes ∙ c.loop-name.invariant.same

pub returns-in-Die-clause-same : goal.returns-in-Die-clause-same
returns-in-Die-clause-same g c =
    let lock : Lock = c.loop-name-item.result in
    let by : Asks c.loop-name.machine c.args.session g.N.Opened.opening lock.0 lock.1 (Die c.in-Die.field-0) c.lock.new.self =
    subst (λ (answer : LockAnswer). Asks c.loop-name.machine c.args.session g.N.Opened.opening lock.0 lock.1 answer c.lock.new.self) c.in-Die.is c.in_ok-lock.ensures.asks in
    ap (λ (k : Machine). k.db) by.goes ∙ c.loop-name.invariant.same

pub returns-in_err-lock-clause-same : goal.returns-in_err-lock-clause-same
returns-in_err-lock-clause-same g c = ap (λ (k : Machine). k.db) c.in_err-lock.ensures.err ∙ c.loop-name.invariant.same
