-- The statement at a position is prepared in the catalog of its pass.
use Rattle.std.proofs.Common.{◌≡◌, sym, ap, subst, ◌∙◌}
use Rattle.std.specs.Prelude.{IfOk}
use Rattle.bf_tree.specs.Catalogs.{Catalog}
use Rattle.bf_tree.specs.declared.script.Script.{Script}
use Rattle.bf_tree.specs.declared.script.Session.{Session}
use Rattle.bf_plan.specs.Limits.{KeepsPlanLimits}
use Rattle.bf_live.specs.Replies.{IsWellBound}
use Rattle.bf_serve.specs.Requests.{IsPosition, IsPreparedAt, Position}
use Rattle.bf_serve.proofs.threads.Asking.{well_bound_at}
use Rattle.bf_serve.proofs.threads.Making.{if_ok, limits_at, prepared_at}
use Rattle.bf_serve.proofs.requests.bound_at.Goals as goal

pub prepare-requires-clause-limits : goal.prepare-requires-clause-limits
prepare-requires-clause-limits g c =
    let i = c.at.inside in
    let p : Position = record { session = i.session; place = i.place; in_block = i.in_block; catalog = i.catalog; migration = i.migration } in
    let st = c.index-statements-at.result in
    let all : c.as_slice-sessions.result.now ≡ g.N.Opened.script.sessions = c.as_slice-sessions.ensures ∙ ap (λ (script : Script). script.sessions) c.requires.script in
    subst (λ (catalog : Catalog). KeepsPlanLimits catalog st) (sym c.catalog.ensures)
    (limits_at g.N.Opened.registry g.N.Opened.script p c.at.invariant c.as_slice-sessions.result.now all c.index-sessions-at.result c.index-sessions-at.is c.as_slice-statements.result.now (c.as_slice-statements.ensures ∙ ap (λ (x : Session). x.statements) (sym c.index-sessions-at.is)) st c.index-statements-at.is)

pub returns-clause-position : goal.returns-clause-position
returns-clause-position g c = subst (λ (p : Position). IsPosition g.N.Opened.registry g.N.Opened.script p) c.at.view_is c.at.invariant

pub returns-clause-prepared : goal.returns-clause-prepared
returns-clause-prepared g c =
    let i = c.at.inside in
    let p : Position = record { session = i.session; place = i.place; in_block = i.in_block; catalog = i.catalog; migration = i.migration } in
    let st = c.index-statements-at.result in
    let all : c.as_slice-sessions.result.now ≡ g.N.Opened.script.sessions = c.as_slice-sessions.ensures ∙ ap (λ (script : Script). script.sessions) c.requires.script in
    subst (λ (q : Position). IfOk c.prepare.result (IsPreparedAt g.N.Opened.script q)) c.at.view_is
    (prepared_at g.N.Opened.registry g.N.Opened.script p c.at.invariant c.as_slice-sessions.result.now all c.index-sessions-at.result c.index-sessions-at.is c.as_slice-statements.result.now (c.as_slice-statements.ensures ∙ ap (λ (x : Session). x.statements) (sym c.index-sessions-at.is)) st c.index-statements-at.is
    c.catalog.result.now c.catalog.ensures c.prepare.result c.prepare.ensures)

pub returns-clause-well_bound : goal.returns-clause-well_bound
returns-clause-well_bound g c =
    let i = c.at.inside in
    let p : Position = record { session = i.session; place = i.place; in_block = i.in_block; catalog = i.catalog; migration = i.migration } in
    let st = c.index-statements-at.result in
    let all : c.as_slice-sessions.result.now ≡ g.N.Opened.script.sessions = c.as_slice-sessions.ensures ∙ ap (λ (script : Script). script.sessions) c.requires.script in
    if_ok (IsPreparedAt g.N.Opened.script p) (λ bound. IsWellBound bound.action) c.prepare.result (λ bound so. well_bound_at g.N.Opened.script p bound c.at.invariant.database so)
    (prepared_at g.N.Opened.registry g.N.Opened.script p c.at.invariant c.as_slice-sessions.result.now all c.index-sessions-at.result c.index-sessions-at.is c.as_slice-statements.result.now (c.as_slice-statements.ensures ∙ ap (λ (x : Session). x.statements) (sym c.index-sessions-at.is)) st c.index-statements-at.is
    c.catalog.result.now c.catalog.ensures c.prepare.result c.prepare.ensures)
