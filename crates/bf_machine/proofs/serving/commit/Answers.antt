-- The group has its entry, or ends by the cause that the journal told.
use Rattle.std.proofs.Common.{◌≡◌, ◌≢◌, ℕ, sym, ap, subst, ◌∙◌, inl}
use Rattle.std.specs.Prelude.{Result, Ok}
use Rattle.bf_base.specs.declared.memory.Memory.{Memory}
use Rattle.bf_sql.specs.migrations.Lazy.{LazyState}
use Rattle.bf_tree.specs.declared.reply.Cause.{Cause}
use Rattle.bf_machine.specs.declared.journal.KeepError.{KeepError}
use Rattle.bf_machine.specs.declared.stand.Ending.{Ending}
use Rattle.bf_machine.specs.declared.stand.Ending.TheVariants.{Committed, Ended}
use Rattle.bf_machine.specs.interleaving.Calls.{IsEnding}
use Rattle.bf_machine.specs.interleaving.Events.{commits_now}
use Rattle.bf_machine.specs.interleaving.Journals.{IsBeside, IsChangeOf, IsLeftFor, nothing_yet, one_beside}
use Rattle.bf_machine.specs.interleaving.Machines.{Machine}
use Rattle.bf_machine.proofs.keeping.Beside.{beside_weaker}
use Rattle.bf_machine.proofs.served.Keeping.{keeps_end, keeps_still}
use Rattle.bf_machine.proofs.serving.commit.Goals as goal

of_session : {J : Type 0} (Answers : LazyState → LazyState → J → J → Result (Unit {0}) KeepError → Type 0) (j k : J) (s : ℕ) (m next : Machine) → IsBeside Answers (IsLeftFor m s) m.lazy next.lazy j k
    → IsBeside Answers (IsChangeOf m) m.lazy next.lazy j k
of_session Answers j k s m next beside = beside_weaker Answers (IsLeftFor m s) m.lazy next.lazy j k (IsChangeOf m) (λ change is. (s, inl is)) beside

no_cause : (ending : Ending) (n : ℕ) → ending ≡ Committed n → (cause : Cause) → ◌≢◌ {A = Result Ending Memory} (Ok ending) (Ok (Ended cause))
no_cause ending n is cause same =
    let clash : ◌≡◌ {A = Result Ending Memory} (Ok (Committed n)) (Ok (Ended cause)) = ap (λ (e : Ending). Ok e) (sym is) ∙ same in
    cc

pub returns-in_err-commit-clause-keeps : goal.returns-in_err-commit-clause-keeps
returns-in_err-commit-clause-keeps g c =
    let m : Machine = c.args.machine.now in
    keeps_still g.J.Journal.Answers g.N.Opened.opening m c.args.journal.now m c.args.journal.now c.commit.new.self c.commit.new.journal nothing_yet
    c.in_err-commit.ensures.err (of_session g.J.Journal.Answers c.args.journal.now c.commit.new.journal c.args.session m c.commit.new.self (c.in_err-commit.ensures.beside (λ cause same. cc)))

pub returns-in-Committed-clause-turn : goal.returns-in-Committed-clause-turn
returns-in-Committed-clause-turn g c =
    (subst (λ (e : Ending). IsEnding c.args.machine.now c.args.session c.commit.new.self e) c.in-Committed.is c.in_ok-commit.ensures.ending).0

pub returns-in-Committed-clause-keeps : goal.returns-in-Committed-clause-keeps
returns-in-Committed-clause-keeps g c =
    let by = (subst (λ (e : Ending). IsEnding c.args.machine.now c.args.session c.commit.new.self e) c.in-Committed.is c.in_ok-commit.ensures.ending).0 in
    one_beside nothing_yet (commits_now c.args.session by) (of_session g.J.Journal.Answers c.args.journal.now c.commit.new.journal c.args.session c.args.machine.now c.commit.new.self (c.in_ok-commit.ensures.beside (no_cause _ _ c.in-Committed.is)))

pub returns-in-Ended-clause-turn : goal.returns-in-Ended-clause-turn
returns-in-Ended-clause-turn g c = subst (λ (e : Ending). IsEnding c.args.machine.now c.args.session c.commit.new.self e) c.in-Ended.is c.in_ok-commit.ensures.ending

pub returns-in-Ended-clause-keeps : goal.returns-in-Ended-clause-keeps
returns-in-Ended-clause-keeps g c =
    let m : Machine = c.args.machine.now in
    let next : Machine = c.commit.new.self in
    let by = subst (λ (e : Ending). IsEnding m c.args.session next e) c.in-Ended.is c.in_ok-commit.ensures.ending in
    let refused = c.commit.ensures.refused c.in-Ended.cause (c.in_ok-commit.was ∙ ap Ok c.in-Ended.is) in
    keeps_end g.J.Journal.Answers g.N.Opened.opening m c.args.journal.now m c.args.journal.now c.commit.new.journal c.args.session next c.in-Ended.cause
    nothing_yet by.0 by.1 (refused.0, inl refused.1, refused.2)
