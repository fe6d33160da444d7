-- A new machine is in sequence, stays so while its sessions are served, and ran in order.
use Rattle.std.proofs.Common.{◌≡◌, Bool, false, List, [], ◌∷◌, None, refl, sym, ap, subst, ◌∙◌}
use Rattle.std.specs.Prelude.{ℕ, Result, Ok, Err, IfOk, ⊤}
use Rattle.std.specs.List.{AllByRecursion}
use Rattle.std.specs.Global.{Vec}
use Rattle.bf_base.specs.declared.memory.Memory.{Memory}
use Rattle.bf_tree.specs.declared.script.Script.{Script}
use Rattle.bf_tree.specs.declared.script.Session.{Session}
use Rattle.bf_tree.specs.declared.statement.Statement.{Statement}
use Rattle.bf_tree.specs.Limits.{HasNarrowTables}
use Rattle.bf_sql.specs.Bound.{catalog_of}
use Rattle.bf_sql.specs.Database.{Database, empty_database}
use Rattle.bf_sql.specs.migrations.Lazy.{sweep_of, view_of}
use Rattle.bf_store.specs.Stores.{IsOf, Store}
use Rattle.bf_text.specs.Report.{report_text}
use Rattle.bf_machine.specs.InOrder.{IsRunInOrder}
use Rattle.bf_machine.specs.interleaving.Kept.{IsKept, fresh}
use Rattle.bf_machine.specs.interleaving.Machines.{Machine, transcripts_of}
use Rattle.bf_machine.specs.interleaving.Serving.{IsInSequence}
use Rattle.bf_run.proofs.top.serve.Goals as goal

in_ok : {P Q : Vec ℕ → Type 0} (r : Result (Vec ℕ) Memory) → ((text : Vec ℕ) → P text → Q text) → IfOk r P → IfOk r Q
in_ok (Ok text) weaker so = weaker text so
in_ok (Err memory) weaker so = so

-- there is no table that could be wide
pub of-store-requires : goal.of-store-requires
of-store-requires g c = subst (λ (db : Database). HasNarrowTables (catalog_of db)) (sym c.new.ensures) refl

-- no row is to come, so what is seen are the live tables
pub new-requires-3-clause-opening : goal.new-requires-3-clause-opening
new-requires-3-clause-opening g c =
    ap (λ (s : Store). view_of s.lazy) c.of-store.ensures
    ∙ ap (λ (db : Database). view_of (record { live = db; last = None; records = 0 })) c.new.ensures
    ∙ sym c.requires.opening

pub new-requires-3-clause-registry : goal.new-requires-3-clause-registry
new-requires-3-clause-registry g c = subst (λ (s : Store). IsOf g.N.Opened.registry s.migration) (sym c.of-store.ensures) tt

pub in_order-requires-clause-logged : goal.in_order-requires-clause-logged
in_order-requires-clause-logged g c = sym c.requires.unlogged

-- a journal that keeps nothing asks nothing of a statement
any_session : (statements : List Statement) → AllByRecursion (λ (s : Statement). ⊤) statements
any_session [] = tt
any_session (s ∷ statements) = (tt, any_session statements)

any_script : (sessions : List Session) → AllByRecursion (λ (session : Session). AllByRecursion (λ (s : Statement). ⊤) session.statements) sessions
any_script [] = tt
any_script (session ∷ sessions) = (any_session session.statements, any_script sessions)

pub in_order-requires-clause-said : goal.in_order-requires-clause-said
in_order-requires-clause-said g c = any_script g.N.Opened.script.sessions

pub returns : goal.returns
returns g c =
    let script : Script = c.args.script in
    let store : Store = c.of-store.result in
    let opening : Database = g.N.Opened.opening in
    let m : Machine = c.in_ok-machine.machine in
    let now : Machine = c.in_order.new.machine in
    let law = c.sessions_in_sequence_run_in_order.ensures in
    let served = c.in_ok-in_order.ensures in
    let last : store.lazy.last ≡ None = ap (λ (s : Store). s.lazy.last) c.of-store.ensures in
    let new : m ≡ fresh false store script 0 =
    c.in_ok-machine.ensures ∙ (ap (λ (text : Script). fresh g.N.Opened.logged store text 0) c.in_ok-script.ensures.ok ∙ ap (λ (logged : Bool). fresh logged store script 0) c.requires.unlogged) in
    let sequence : IsInSequence opening m = subst (IsInSequence opening) (sym new) (law.new opening store script 0 c.requires.phases last) in
    let sequence_now : IsInSequence empty_database now = subst (λ (db : Database). IsInSequence db now) c.requires.opening (served.sequence refl sequence) in
    let kept : IsKept empty_database now = subst (λ (db : Database). IsKept db now) c.requires.opening c.script.ensures.kept in
    let ran : IsRunInOrder now.script (transcripts_of now) now.history (sweep_of now.lazy.last) = law.ran now kept sequence_now served.answered in
    let own : now.script ≡ script = sym c.script.ensures.script ∙ c.script.ensures.opened ∙ sym c.requires.script in
    let run : IsRunInOrder script (transcripts_of now) now.history (sweep_of now.lazy.last) =
    subst (λ (k : Script). IsRunInOrder k (transcripts_of now) now.history (sweep_of now.lazy.last)) own ran in
    let parts = c.into_parts-parts.ensures in
    let swept = c.sweep-sweep.ensures in
    in_ok c.report-text.result
    (λ text is. (transcripts_of now, now.history, sweep_of now.lazy.last, run, is ∙ (λ i. report_text (parts.transcripts i) (parts.history i) None (swept i))))
    c.report-text.ensures
