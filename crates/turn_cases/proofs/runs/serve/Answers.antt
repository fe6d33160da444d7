-- There is no table that could be wide, no row is to come, and a journal that can keep each change asks nothing of a statement.
use Rattle.std.proofs.Common.{List, [], ◌∷◌, None, refl, sym, ap, subst, ◌∙◌}
use Rattle.std.specs.Prelude.{⊤}
use Rattle.std.specs.List.{AllByRecursion}
use Rattle.bf_tree.specs.declared.script.Session.{Session}
use Rattle.bf_tree.specs.declared.statement.Statement.{Statement}
use Rattle.bf_tree.specs.Limits.{HasNarrowTables}
use Rattle.bf_sql.specs.Bound.{catalog_of}
use Rattle.bf_sql.specs.Database.{Database}
use Rattle.bf_sql.specs.migrations.Lazy.{view_of}
use Rattle.bf_store.specs.Stores.{IsOf, Store}
use Rattle.turn_cases.proofs.runs.serve.Goals as goal

pub of-store-requires : goal.of-store-requires
of-store-requires g c = subst (λ (db : Database). HasNarrowTables (catalog_of db)) (sym c.new.ensures) refl

pub new-requires-3-clause-opening : goal.new-requires-3-clause-opening
new-requires-3-clause-opening g c =
    ap (λ (s : Store). view_of s.lazy) c.of-store.ensures
    ∙ ap (λ (db : Database). view_of (record { live = db; last = None; records = 0 })) c.new.ensures
    ∙ sym c.requires.opening

pub new-requires-3-clause-registry : goal.new-requires-3-clause-registry
new-requires-3-clause-registry g c = subst (λ (s : Store). IsOf g.N.Opened.registry s.migration) (sym c.of-store.ensures) tt

any_session : (statements : List Statement) → AllByRecursion (λ (s : Statement). ⊤) statements
any_session [] = tt
any_session (s ∷ statements) = (tt, any_session statements)

any_script : (sessions : List Session) → AllByRecursion (λ (session : Session). AllByRecursion (λ (s : Statement). ⊤) session.statements) sessions
any_script [] = tt
any_script (session ∷ sessions) = (any_session session.statements, any_script sessions)

pub in_order-requires-clause-said : goal.in_order-requires-clause-said
in_order-requires-clause-said g c = any_script g.N.Opened.script.sessions
