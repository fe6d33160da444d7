-- The locks of its footprint may be asked for; what came of that is told.
use Rattle.std.proofs.Common.{◌≡◌, ℕ, List, Some, sym, ap, subst, ◌∙◌, inr}
use Rattle.std.specs.Prelude.{Ok}
use Rattle.bf_sql.specs.Footprints.{Lock}
use Rattle.bf_tree.specs.declared.script.Script.{Script}
use Rattle.bf_machine.specs.declared.stand.Turn.{Turn}
use Rattle.bf_machine.specs.declared.stand.Turn.TheVariants as turn
use Rattle.bf_machine.specs.interleaving.Machines.{Machine, Open, open_at}
use Rattle.bf_machine.specs.interleaving.Serving.{HasLocked, IsToLock, IsTurn}
use Rattle.bf_machine.proofs.served.Ending.{reached_script}
use Rattle.bf_serve.specs.Requests.{IsRequest, Position, Request, StandsAt}
use Rattle.bf_serve.proofs.threads.Asking.{group_at, may_ask_all}
use Rattle.bf_serve.proofs.sections.ask_for_all.Goals as goal

pub lock_all-requires-clause-next : goal.lock_all-requires-clause-next
lock_all-requires-clause-next g c =
    let m : Machine = c.args.machine.now in
    let r : Request = c.args.request.now in
    let own : m.script ≡ g.N.Opened.script = sym c.script.ensures.script ∙ c.script.ensures.opened in
    let is : IsRequest g.N.Opened.registry m.script r = subst (λ (k : Script). IsRequest g.N.Opened.registry k r) (sym own) c.at.ensures.own in
    let session : c.session-session.result ≡ r.at.session = c.session-session.ensures.session ∙ ap (λ (p : Position). p.session) c.at.ensures.at in
    let stands : StandsAt m r.at = subst (StandsAt m) c.at-2.ensures.at (c.stands_at.ensures c.if-not-stands_at.false) in
    let found = group_at m c.session-session.result c.in-Some.field-0 (sym c.start.ensures ∙ c.in-Some.is) in
    subst (λ (s : ℕ). (p : Open) × IsToLock m s p c.locks-2.result.now) (sym session)
    (subst (λ (locks : List Lock). (p : Open) × IsToLock m r.at.session p locks) (sym c.locks-2.ensures)
    (may_ask_all g.N.Opened.registry m c.script.ensures.kept r is stands found.0 (subst (λ (s : ℕ). open_at m s ≡ Some found.0) session found.1)))

pub returns-in_err-lock_all-clause-same : goal.returns-in_err-lock_all-clause-same
returns-in_err-lock_all-clause-same g c = reached_script g.N.Opened.opening c.args.machine.now c.lock_all.new.machine c.lock_all.ensures.reaches

pub returns-in-Served-clause-asked : goal.returns-in-Served-clause-asked
returns-in-Served-clause-asked g c =
    let m : Machine = c.args.machine.now in
    let r : Request = c.args.request.now in
    let next : Machine = c.lock_all.new.machine in
    let session : c.session-session.result ≡ r.at.session = c.session-session.ensures.session ∙ ap (λ (p : Position). p.session) c.at.ensures.at in
    let told : HasLocked m c.session-session.result c.locks-2.result.now next = c.lock_all.ensures.locked (c.in_ok-lock_all.was ∙ ap Ok c.in-Served.is) in
    inr (subst (λ (s : ℕ). HasLocked m s r.locks next) session (subst (λ (locks : List Lock). HasLocked m c.session-session.result locks next) c.locks-2.ensures told))

pub returns-in-Waited-clause-asked : goal.returns-in-Waited-clause-asked
returns-in-Waited-clause-asked g c =
    let m : Machine = c.args.machine.now in
    let r : Request = c.args.request.now in
    let next : Machine = c.lock_all.new.machine in
    let start = g.N.Opened.opening in
    let session : c.session-session.result ≡ r.at.session = c.session-session.ensures.session ∙ ap (λ (p : Position). p.session) c.at.ensures.at in
    let other : c.in_ok-lock_all.field-0 ≡ turn.Served → ⊥ = λ same. let clash : turn.Waited ≡ turn.Served = sym c.in-Waited.is ∙ same in cc in
    subst (λ (s : ℕ). IsTurn m s start turn.Waited next) session (subst (λ (t : Turn). IsTurn m c.session-session.result start t next) c.in-Waited.is (c.in_ok-lock_all.ensures.turn other))

pub returns-in-Died-clause-asked : goal.returns-in-Died-clause-asked
returns-in-Died-clause-asked g c =
    let m : Machine = c.args.machine.now in
    let r : Request = c.args.request.now in
    let next : Machine = c.lock_all.new.machine in
    let start = g.N.Opened.opening in
    let session : c.session-session.result ≡ r.at.session = c.session-session.ensures.session ∙ ap (λ (p : Position). p.session) c.at.ensures.at in
    let other : c.in_ok-lock_all.field-0 ≡ turn.Served → ⊥ = λ same. let clash : turn.Died ≡ turn.Served = sym c.in-Died.is ∙ same in cc in
    subst (λ (s : ℕ). IsTurn m s start turn.Died next) session (subst (λ (t : Turn). IsTurn m c.session-session.result start t next) c.in-Died.is (c.in_ok-lock_all.ensures.turn other))
