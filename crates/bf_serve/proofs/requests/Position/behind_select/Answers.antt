-- Behind a position the next statement is a SELECT of the same script.
use Rattle.std.proofs.Common.{◌≡◌, ℕ, ◌+◌, ◌-◌, ◌<◌, arith, List, length, Option, Some, refl, sym, ap, subst, ◌∙◌}
use Rattle.std.specs.Prelude.{slice_get}
use Rattle.std.specs.List.{slice_index_or}
use Rattle.boxcar.specs.Table.{Where}
use Rattle.bf_tree.specs.Catalogs.{Catalog}
use Rattle.bf_tree.specs.declared.script.Script.{Script}
use Rattle.bf_tree.specs.declared.script.Session.{Session}
use Rattle.bf_tree.specs.declared.statement.Statement.{Statement}
use Rattle.bf_sql.specs.Groups.{session_at}
use Rattle.bf_image.specs.declared.migration.Migration.{Migration}
use Rattle.bf_machine.proofs.served.Nexts.{got}
use Rattle.bf_serve.specs.Requests.{IsPosition, Position}
use Rattle.bf_serve.proofs.threads.Making.{texts_are}
use Rattle.bf_serve.proofs.threads.Standing.{behind_position}
use Rattle.bf_serve.proofs.requests.Position.behind_select.Goals as goal

pub invariant_of-result : goal.invariant_of-result
invariant_of-result g c =
    let i = c.self.inside in
    let registry = g.N.Opened.registry in
    let script : Script = g.N.Opened.script in
    let p : Position = record { session = i.session; place = i.place; in_block = i.in_block; catalog = i.catalog; migration = i.migration } in
    let sessions : List Session = c.as_slice-sessions.result.now in
    let statements : List Statement = c.as_slice-statements.result.now in
    let ss : List Statement = (session_at script p.session).statements in
    let there : Statement = c.in_ok-next.next.now in
    let n = c.in_ok-place.place in
    let all : sessions ≡ script.sessions = c.as_slice-sessions.ensures ∙ ap (λ (s : Script). s.sessions) c.requires in
    let texts : statements ≡ ss =
    texts_are registry script p c.self.invariant sessions all c.index-sessions-self.result c.index-sessions-self.is statements (c.as_slice-statements.ensures ∙ ap (λ (x : Session). x.statements) (sym c.index-sessions-self.is)) in
    let next : n ≡ i.place + 1 = c.in_ok-place.ensures.1 in
    let at : i.place - 1 + 1 ≡ n - 1 = omega (arith, c.self.invariant.place, next) in
    let sizes : length statements ≡ length ss = ap (λ (xs : List Statement). length xs) texts in
    let within : i.place < length ss = omega (arith, c.self.invariant.place, c.in_ok-next.ensures.lookup.3.0, sizes) in
    let read : slice_index_or ss (n - 1) there ≡ there =
    sym (c.in_ok-next.ensures.lookup.1 ∙ (ap (λ (k : ℕ). slice_index_or statements k there) at ∙ ap (λ (xs : List Statement). slice_index_or xs (n - 1) there) texts)) in
    let found : slice_get ss (n - 1) ≡ Some there = got ss (n - 1) there (omega (arith, next, within)) read in
    let is = behind_position registry script p c.self.invariant n next within there found (c.if-not-is_select-2.ensures refl) in
    subst (λ (k : Where Catalog). IsPosition registry script (record { session = i.session; place = n; in_block = i.in_block; catalog = k; migration = c.copy_of_pass.result })) (sym c.copy.ensures)
    (subst (λ (o : Option (Where Migration)). IsPosition registry script (record { session = i.session; place = n; in_block = i.in_block; catalog = i.catalog; migration = o })) (sym c.copy_of_pass.ensures) is)
